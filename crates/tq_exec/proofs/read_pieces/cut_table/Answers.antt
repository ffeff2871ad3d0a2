use Rattle.std.proofs.Common.{refl, subst}
use Rattle.tq_exec.specs.Reads.{AreCut}
use Rattle.tq_exec.proofs.read_pieces.cut_table.Goals as goal

pub returns : goal.returns
returns c =
    let db = c.args.db.now in
    record {
      same = refl;
      ranges = c.in_ok-ranges.ranges.items;
      apart = c.in_ok-ranges.ensures.apart;
      needed = c.in_ok-ranges.ensures.needed;
      cut = subst (λ rs. AreCut db.events c.args.n c.args.plan.now.window c.args.table rs c.in_ok-cut_ranges.field-0.items) c.deref.ensures.value c.in_ok-cut_ranges.ensures;
    }
