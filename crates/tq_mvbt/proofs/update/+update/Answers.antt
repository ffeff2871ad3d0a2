use Rattle.std.proofs.Common.{◌≡◌, ◌+◌, ◌-◌, arith, subst, refl}
use Rattle.std.proofs.lemmas.Option.{slice_get_within}
use Rattle.tq_mvbt.specs.Shape.{IsFound}
use Rattle.tq_mvbt.specs.Unsettled.{IsSettling, Grows}
use Rattle.tq_mvbt.proofs.Leaves.{settles_above, part_above, keyed_forest}
use Rattle.tq_mvbt.proofs.Grown.{grows_more, grows_both, found_grows}
use Rattle.tq_mvbt.proofs.Linked.{updates_up, keeps_same}
use Rattle.tq_mvbt.proofs.update.+update.Goals as goal

pub returns-then-level-eq0-clause-forest : goal.returns-then-level-eq0-clause-forest
returns-then-level-eq0-clause-forest t c =
    keyed_forest c.args.version c.args.key c.args.alive c.args.nodes.now.nodes c.set_life.new.nodes.nodes c.requires.ready c.set_life.ensures.keyed

pub fits-requires : goal.fits-requires
fits-requires t c =
    let settling = c.update-last.ensures.settling in
    slice_get_within c.update-last.new.nodes.nodes c.child_of-child.result settling.loose.node settling.loose.stands

pub returns-then-fits-clause-settling : goal.returns-then-fits-clause-settling
returns-then-fits-clause-settling t c =
    let nodes = c.update-last.new.nodes.nodes in
    let settling = c.update-last.ensures.settling in
    let up : c.args.level - 1 + 1 ≡ c.args.level = omega arith in
    let more = grows_more c.args.version (c.args.level - 1) c.args.level c.args.nodes.now.nodes nodes (omega arith) c.update-last.ensures.grows in
    let found = found_grows c.args.version c.args.level c.args.key c.args.number c.args.nodes.now.nodes nodes more c.requires.found in
    let found' : IsFound nodes (c.args.level - 1 + 1) c.args.key c.args.number = rw up found in
    let fits = rw (settling.loose.stands) at c.if-fits.ensures in
    let both = fits.0 refl in
    subst (λ x. IsSettling c.args.version x 0 nodes c.args.number) up
    (settles_above c.args.version (c.args.level - 1) c.update-last.result c.args.key nodes c.child_of-child.result c.args.number c.requires.small c.update-last.ensures.forest settling both.0 both.1 found')

pub returns-then-fits-clause-grows : goal.returns-then-fits-clause-grows
returns-then-fits-clause-grows t c =
    grows_more c.args.version (c.args.level - 1) c.args.level c.args.nodes.now.nodes c.update-last.new.nodes.nodes (omega arith) c.update-last.ensures.grows

pub replace-requires-clause-part : goal.replace-requires-clause-part
replace-requires-clause-part t c =
    let nodes = c.update-last.new.nodes.nodes in
    let settling = c.update-last.ensures.settling in
    let up : c.args.level - 1 + 1 ≡ c.args.level = omega arith in
    let more = grows_more c.args.version (c.args.level - 1) c.args.level c.args.nodes.now.nodes nodes (omega arith) c.update-last.ensures.grows in
    let found = found_grows c.args.version c.args.level c.args.key c.args.number c.args.nodes.now.nodes nodes more c.requires.found in
    let found' : IsFound nodes (c.args.level - 1 + 1) c.args.key c.args.number = rw up found in
    let low = found_grows c.args.version (c.args.level - 1) c.args.key c.child_of-child.result c.args.nodes.now.nodes nodes c.update-last.ensures.grows c.child_of-child.ensures in
    part_above c.args.version (c.args.level - 1) c.update-last.result c.args.key nodes c.child_of-child.result c.args.number c.requires.small c.requires.key c.update-last.ensures.forest settling low found'

pub returns-clause-keyed : goal.returns-clause-keyed
returns-clause-keyed t c before lives height later never forest =
    c.replace.ensures.forest _ height (c.update-last.ensures.keyed before lives height later never forest)

pub returns-clause-forest : goal.returns-clause-forest
returns-clause-forest t c =
    let by = c.update-last.ensures.forest in
    record { lives = by.lives; height = by.height; forest = c.replace.ensures.forest by.lives by.height by.forest }

pub returns-clause-settling : goal.returns-clause-settling
returns-clause-settling t c =
    let up : c.args.level - 1 + 1 ≡ c.args.level = omega arith in
    subst (λ x. IsSettling c.args.version x c.replace.result c.replace.new.nodes.nodes c.args.number) up c.replace.ensures.settling

pub returns-clause-grows : goal.returns-clause-grows
returns-clause-grows t c =
    let up : c.args.level - 1 + 1 ≡ c.args.level = omega arith in
    let one = grows_more c.args.version (c.args.level - 1) c.args.level c.args.nodes.now.nodes c.update-last.new.nodes.nodes (omega arith) c.update-last.ensures.grows in
    let two : Grows c.args.version c.args.level c.update-last.new.nodes.nodes c.replace.new.nodes.nodes = subst (λ x. Grows c.args.version x c.update-last.new.nodes.nodes c.replace.new.nodes.nodes) up c.replace.ensures.grows in
    grows_both c.args.version c.args.level c.args.nodes.now.nodes c.update-last.new.nodes.nodes c.replace.new.nodes.nodes c.requires.small one two

pub returns-then-level-eq0-clause-links : goal.returns-then-level-eq0-clause-links
returns-then-level-eq0-clause-links t c = record { leaves = λ z. c.set_life.ensures.links; index = λ h. absurd (omega arith) }

pub returns-then-fits-clause-links : goal.returns-then-fits-clause-links
returns-then-fits-clause-links t c =
    let mid = c.update-last.new.nodes.nodes in
    updates_up (c.args.level - 1) c.args.level c.args.version c.args.nodes.now.nodes mid mid (omega arith) c.update-last.ensures.links (keeps_same (c.args.level - 1) c.args.version mid mid refl)

pub returns-clause-links : goal.returns-clause-links
returns-clause-links t c =
    updates_up (c.args.level - 1) c.args.level c.args.version c.args.nodes.now.nodes c.update-last.new.nodes.nodes c.replace.new.nodes.nodes (omega arith) c.update-last.ensures.links c.replace.ensures.links
