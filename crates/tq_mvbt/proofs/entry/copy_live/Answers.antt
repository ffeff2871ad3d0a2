use Rattle.std.proofs.Common.{◌+◌, length, take, cond, ap, arith, lit<, length-append, eq-eqb}
use Rattle.std.proofs.lemmas.List.Sums.{length-filter, count_by_more_yes, sum_by-take-le}
use Rattle.tq_mvbt.specs.Points.{is_live}
use Rattle.tq_mvbt.proofs.entry.copy_live.Goals as goal

pub push-requires : goal.push-requires
push-requires c =
    let es = c.args.entries.now in
    let i = c.loop-entry.entry-index in
    let more = count_by_more_yes is_live es i (record { low = 0; high = 0; born = 0; dead = 0; child = 0 }) c.loop-entry-test.true (eq-eqb _ _ c.if-entry.true) in
    let part = sum_by-take-le (λ e. cond (is_live e) 1 0) es (i + 1) in
    let fits = length-filter is_live (take i es) in
    let all = ap length c.loop-entry.invariant in
    (lit< tt, omega (arith, more, part, fits, simp length-append at all, c.requires))
