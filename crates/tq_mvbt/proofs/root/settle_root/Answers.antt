use Rattle.std.proofs.Common.{◌≡◌, ◌≤◌, arith, refl}
use Rattle.tq_mvbt.proofs.Roots.{fits_root}
use Rattle.tq_mvbt.proofs.root.settle_root.Goals as goal
use Rattle.tq_mvbt.proofs.root.settle_root.Goals.{then-root-eq1, else-root-eq1}

pub returns-then-fits-clause-filled : goal.returns-then-fits-clause-filled
returns-then-fits-clause-filled c =
    let settling = c.requires.settling in
    let fits = rw (settling.loose.stands) at c.if-fits.ensures in
    let both = fits.0 refl in
    let index : 2 ≤ c.args.root.levels → c.if-root-eq1.least ≡ 2 = λ h. elim c.if-root-eq1.branch [ then-root-eq1 w ↦ (let o = w.if-root-eq1.true in absurd (omega arith)) | else-root-eq1 w ↦ w.least-is ] in
    fits_root c.args.version c.args.last c.args.nodes.now.nodes c.args.root c.if-root-eq1.least c.requires.small c.requires.levels c.requires.forest settling c.requires.whole both.0 both.1 index
