use Rattle.std.proofs.Common.{◌≡◌, ℕ, suc, ◌-◌, length, arith, rules}
use Rattle.std.proofs.lemmas.Grind.{common_steps}
use Rattle.tq_sql.specs.declared.sources.TheConstants.{MAX_SOURCES}
use Rattle.tq_sql.specs.Descent.{sources_at}
use Rattle.tq_sql.proofs.sources.sources.Goals as goal

pub more-init : goal.more-init
unfolding sources_at
more-init c = (MAX_SOURCES - 1, record { room = grind (arith, common_steps); same = first_of (search rules, grind (arith, common_steps)); shorter = omega arith })

pub more-preserved : goal.more-preserved
more-preserved c =
    let n = c.more.invariant.0 in
    let inv = c.more.invariant.1 in
    let m : ℕ = MAX_SOURCES - 1 - length c.more.found.items in
    let turn : n ≡ suc m = omega (arith, inv.room, c.more-test.true) in
    let same = rw turn at inv.same in
    (m, record { room = grind (arith, common_steps, inv.room); same = first_of (search rules, grind (arith, common_steps)); shorter = omega arith })
