use Rattle.std.proofs.Common.{arith}
use Rattle.tq_table.proofs.MergeLemmas.{one_width}
use Rattle.tq_table.proofs.merging.append_rows.Goals as goal

pub followed_by-requires : goal.followed_by-requires
followed_by-requires c =
    one_width c.args.other.items c.args.other.width c.args.rows.width c.width.ensures.rows c.requires (omega (arith, c.if-len-eq0.false, c.len.ensures.len))
