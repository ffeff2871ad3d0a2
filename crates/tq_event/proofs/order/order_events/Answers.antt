use Rattle.std.proofs.Common.{ap, arith, length, map}
use Rattle.std.proofs.lemmas.List.Sorted.{length_permutation}
use Rattle.std.proofs.lemmas.List.{length-map}
use Rattle.tq_event.specs.Entries.{entry_in}
use Rattle.tq_event.proofs.EndpointLemmas.{few_marks}
use Rattle.tq_event.proofs.order.order_events.Goals as goal

pub place_events-requires-clause-few : goal.place_events-requires-clause-few
place_events-requires-clause-few c =
    omega (
      arith,
      c.deref-2.ensures.len,
      c.sort_unstable.ensures.len,
      c.in_ok-marks.marks.ok.0,
      ap length c.in_ok-marks.ensures,
      ap length c.deref.ensures.value,
      few_marks 0 (map entry_in c.deref.result.now),
      length-map c.deref.result.now entry_in,
      c.requires.few,
      c.args.entries.ok.0,
      length_permutation c.in_ok-marks.marks.items c.sort_unstable.new.self.items c.sort_unstable.ensures.permutation,
    )
