use Rattle.std.proofs.Common.{◌≡◌, ◌∙◌, ◌+◌, ◌≤◌, filter, length, arith, rules, ap, subst, count_by}
use Rattle.tq_mvbt.specs.Points.{is_live}
use Rattle.tq_mvbt.specs.NodeState.{NodeState}
use Rattle.tq_mvbt.specs.Steps.{retired, PutsNodes}
use Rattle.tq_mvbt.specs.Unsettled.{IsSettling}
use Rattle.tq_mvbt.proofs.Renewed.{renewed, renewed_copy, unchanged, levels_differ, appended}
use Rattle.tq_mvbt.proofs.Places.{at_left}
use Rattle.tq_mvbt.proofs.Made.{put}
use Rattle.tq_mvbt.proofs.Rising.{renewed_settles, parent_loose, parent_older, part_under}
use Rattle.tq_mvbt.proofs.Grown.{grows_retired, grows_edited, grows_appended, grows_both}
use Rattle.tq_mvbt.specs.Links.{links_to}
use Rattle.tq_mvbt.proofs.Linked.{made_with, keeps_edited, renew_links}
use Rattle.tq_mvbt.proofs.replace.renew.Goals as goal

pub edit-requires : goal.edit-requires
edit-requires c =
    let settling = c.requires.settling in
    let part = c.requires.part in
    let more = appended c.retire-low.new.nodes c.push_nodes-added.new.nodes _ _ _ _ _ _ c.push_nodes-added.ensures in
    let e = settling.loose.stands in
    let differ = levels_differ c.args.nodes.now.nodes c.args.number c.args.place.parent c.args.place.level settling.loose.node part.above e part.above_stands settling.loose.at_level part.above_level in
    let one = unchanged c.args.nodes.now c.retire-low.new.nodes c.args.number c.args.place.parent (retired c.args.version c.args.last) part.above c.retire-low.ensures.nodes differ part.above_stands in
    let older = parent_older c.args.version c.args.place.level c.args.last c.args.nodes.now.nodes c.args.number c.args.place.parent settling part in
    let few = older.few in
    let two = c.deref.ensures.1 in
    record { node = part.above; stands = rw (more.1) (at_left c.retire-low.new.nodes.nodes more.0 c.args.place.parent part.above one); room = omega arith }

pub returns-clause-forest : goal.returns-clause-forest
returns-clause-forest c lives height forest =
    let settling = c.requires.settling in
    let part = c.requires.part in
    let loose = settling.loose in
    let range = rw (loose.stands) at c.retire-low.ensures.range in
    let above = parent_loose c.args.version c.args.place.level c.args.last c.args.nodes.now.nodes c.args.number c.args.place.parent settling part in
    renewed {ls = c.retire-low.new.links.items} c.args.version lives height c.args.place.level c.args.last c.retire-low.result.0 c.retire-low.result.1
    c.args.nodes.now c.retire-low.new.nodes c.push_nodes-added.new.nodes c.edit.new.nodes c.retire-low.new.copied.items c.deref.result.now c.args.number c.args.place.parent
    c.requires.small loose above (part_under c.args.place.level c.args.nodes.now.nodes c.args.number c.args.place.parent part) c.retire-low.ensures.nodes
    (rw (loose.stands, c.new-copied.ensures) at c.retire-low.ensures.copied)
    range.0 range.1
    (rw (c.deref.ensures.0) c.push_nodes-added.ensures)
    c.edit.ensures
    forest

pub returns-clause-settling : goal.returns-clause-settling
returns-clause-settling c =
    let settling = c.requires.settling in
    let by = c.requires.forest in
    let loose = settling.loose in
    let range = rw (loose.stands) at c.retire-low.ensures.range in
    let copied : c.retire-low.new.copied.items ≡ filter is_live loose.node.entries = rw (loose.stands, c.new-copied.ensures) at c.retire-low.ensures.copied in
    let copy = renewed_copy c.args.version by.lives by.height c.args.place.level c.args.last c.retire-low.result.0 c.retire-low.result.1 c.args.nodes.now.nodes c.retire-low.new.copied.items c.args.number by.forest loose copied range.0 range.1 in
    let puts : PutsNodes c.retire-low.new.nodes c.push_nodes-added.new.nodes c.args.place.level c.retire-low.result.0 c.retire-low.result.1 c.args.version c.retire-low.new.copied.items c.deref.result.now c.retire-low.new.links.items = rw (c.deref.ensures.0) c.push_nodes-added.ensures in
    let is_put = put c.args.version by.lives c.args.place.level c.retire-low.result.0 c.retire-low.result.1 c.args.nodes.now.nodes c.retire-low.new.nodes c.push_nodes-added.new.nodes c.retire-low.new.copied.items c.deref.result.now c.requires.small copy puts in
    let len : length c.deref.result.now ≡ c.len.result = ap length c.deref.ensures.0 ∙ search rules in
    let a = loose.stands in
    let b = c.requires.ample.stands in
    let same : c.requires.ample.node ≡ loose.node = cc in
    subst (λ x. IsSettling c.args.version (c.args.place.level + 1) x c.edit.new.nodes.nodes c.args.place.parent) len
    (renewed_settles c.args.version c.args.place.level c.args.last c.retire-low.result.0 c.retire-low.result.1 c.args.nodes.now c.retire-low.new.nodes c.push_nodes-added.new.nodes c.edit.new.nodes
    c.retire-low.new.copied.items c.deref.result.now c.args.number c.args.place.parent c.requires.small settling by c.requires.part
    (subst (λ (x : NodeState). 8 ≤ count_by is_live x.entries) same c.requires.ample.many)
    c.retire-low.ensures.nodes copied range.0 range.1 is_put c.edit.ensures)

pub returns-clause-grows : goal.returns-clause-grows
returns-clause-grows c =
    let loose = c.requires.settling.loose in
    let l = loose.at_level in
    let v = c.args.version in
    let h = c.args.place.level + 1 in
    let more = appended c.retire-low.new.nodes c.push_nodes-added.new.nodes _ _ _ _ _ _ c.push_nodes-added.ensures in
    let one = grows_retired v h c.args.last c.args.nodes.now c.retire-low.new.nodes c.args.number loose.node loose.stands (omega arith) loose.died c.retire-low.ensures.nodes in
    let two = grows_appended v h c.retire-low.new.nodes.nodes c.push_nodes-added.new.nodes.nodes more.0 more.1 in
    let three = grows_edited v h c.retire-low.result.0 c.retire-low.result.1 v c.push_nodes-added.new.nodes c.edit.new.nodes c.args.place.parent c.deref.result.now c.edit.ensures in
    grows_both v h c.args.nodes.now.nodes c.push_nodes-added.new.nodes.nodes c.edit.new.nodes.nodes c.requires.small
    (grows_both v h c.args.nodes.now.nodes c.retire-low.new.nodes.nodes c.push_nodes-added.new.nodes.nodes c.requires.small one two) three

pub returns-clause-links : goal.returns-clause-links
returns-clause-links c =
    let loose = c.requires.settling.loose in
    let nodes = c.args.nodes.now.nodes in
    let links : c.retire-low.new.links.items ≡ links_to c.args.number loose.node = (rw (loose.stands, c.new-links.ensures.items) at c.retire-low.ensures.links) in
    let made = made_with c.args.place.level c.retire-low.result.0 c.retire-low.result.1 c.args.version c.retire-low.new.links.items c.retire-low.new.nodes c.push_nodes-added.new.nodes _ _ c.push_nodes-added.ensures in
    keeps_edited c.args.place.level c.args.version c.retire-low.result.0 c.retire-low.result.1 c.args.version nodes c.push_nodes-added.new.nodes c.edit.new.nodes c.args.place.parent c.deref.result.now c.edit.ensures
    (renew_links c.args.place.level c.args.version c.args.last c.args.nodes.now c.retire-low.new.nodes c.push_nodes-added.new.nodes c.args.number loose.node c.retire-low.new.links.items c.requires.small loose.stands loose.at_level loose.died c.retire-low.ensures.nodes links made)
