use Rattle.std.proofs.Common.{◌≡◌, ◌++◌, ◌∙◌, ℕ, List, Option, Some, sym, subst}
use Rattle.std.specs.Prelude.{IsSomeAnd, slice_get}
use Rattle.tq_base.specs.declared.value.Value.{Value}
use Rattle.tq_event.specs.declared.event.Event.{Event}
use Rattle.tq_event.specs.declared.event.Event.TheVariants.{Start}
use Rattle.tq_event.specs.History.{time_of}
use Rattle.tq_store.proofs.SortKeyLemmas.{from_is_less, is_less}
use Rattle.tq_snapshot.proofs.OpenIndexLemmas.{is_open_there, open_life}
use Rattle.tq_snapshot.proofs.OpenLemmas.{open_of}
use Rattle.tq_snapshot.proofs.open_index.TableRows.is_before.Goals as goal

-- the time at which a row starts
started : (time : ℕ) (o : Option Event) (table : ℕ) (values : List Value) (from : ℕ) → o ≡ Some (Start table values from) → IsSomeAnd o (λ event. time ≡ time_of event) → time ≡ from
started time o table values from is here = subst (λ x. IsSomeAnd x (λ event. time ≡ time_of event)) is here

pub returns : goal.returns
returns c =
    let es = c.args.published.now ++ c.args.pending.now in
    let one = open_of es c.args.table c.args.values.now c.args.row c.requires.opened in
    let from = started c.time.result (slice_get es c.start_of-start.result) c.args.table one.life.values one.life.from (c.start_of-start.ensures.life one.life one.stands) c.time.ensures in (
      λ yes. is_open_there es c.args.table c.args.row c.args.at one.life one.stands one.none (subst (λ n. Rattle.std.proofs.Common.◌<◌ n c.args.at) from (from_is_less c.time.result c.args.at (sym c.lt.ensures ∙ yes))),
      λ there.
          let same = open_life es c.args.table c.args.row c.args.at there in
          let before = subst (λ n. Rattle.std.proofs.Common.◌<◌ n c.args.at) (sym (started c.time.result (slice_get es c.start_of-start.result) c.args.table same.life.values same.life.from (c.start_of-start.ensures.life same.life same.stands) c.time.ensures)) same.from in
          c.lt.ensures ∙ is_less c.time.result c.args.at before,
    )
