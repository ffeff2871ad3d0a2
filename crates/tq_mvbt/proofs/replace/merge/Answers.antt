use Rattle.std.proofs.Common.{◌≡◌, ◌∙◌, ◌+◌, ◌≤◌, ◌++◌, filter, length, refl, arith, rules, ap, subst, min, max, count_by}
use Rattle.tq_mvbt.specs.Points.{is_live}
use Rattle.tq_mvbt.specs.NodeState.{NodeState}
use Rattle.tq_mvbt.specs.Steps.{retired, PutsNodes}
use Rattle.tq_mvbt.specs.Unsettled.{IsUnsettled, IsSettling}
use Rattle.tq_mvbt.proofs.Renewed.{merged, merged_copy, room_for_both, room_above, appended, siblings_differ, unchanged}
use Rattle.tq_mvbt.proofs.Made.{put}
use Rattle.tq_mvbt.proofs.Rising.{merged_settles, parent_loose, sibling_loose, sibling_older, part_under}
use Rattle.tq_mvbt.proofs.Grown.{grows_retired, grows_edited, grows_appended, grows_both}
use Rattle.tq_mvbt.specs.Links.{links_to}
use Rattle.tq_mvbt.proofs.Linked.{made_with, keeps_edited, merge_links}
use Rattle.tq_mvbt.proofs.replace.merge.Goals as goal

pub retire-its_low-requires-clause-room : goal.retire-its_low-requires-clause-room
retire-its_low-requires-clause-room c =
    let settling = c.requires.settling in
    let nodes = c.args.nodes.now.nodes in
    let beside = sibling_loose c.args.version c.args.place.level c.args.last nodes c.args.number c.args.sibling settling c.requires.beside c.requires.standing in
    room_for_both c.args.version c.args.place.level c.args.last c.args.nodes.now c.retire-low.new.nodes c.args.number c.args.sibling c.retire-low.new.copied.items
    settling.loose c.requires.thin beside c.requires.beside c.retire-low.ensures.nodes
    (rw (settling.loose.stands, c.new-copied.ensures) at c.retire-low.ensures.copied)

pub edit-requires : goal.edit-requires
edit-requires c =
    let settling = c.requires.settling in
    let nodes = c.args.nodes.now.nodes in
    let beside = sibling_loose c.args.version c.args.place.level c.args.last nodes c.args.number c.args.sibling settling c.requires.beside c.requires.standing in
    let above = parent_loose c.args.version c.args.place.level c.args.last nodes c.args.number c.args.place.parent settling c.requires.part in
    let more = appended c.retire-its_low.new.nodes c.push_nodes-added.new.nodes _ _ _ _ _ _ c.push_nodes-added.ensures in
    room_above c.args.version c.args.place.level c.args.last c.args.nodes.now c.retire-low.new.nodes c.retire-its_low.new.nodes more.0 c.push_nodes-added.new.nodes c.args.number c.args.sibling c.args.place.parent _
    settling.loose beside above c.retire-low.ensures.nodes c.retire-its_low.ensures.nodes more.1 c.deref.ensures.1

pub returns-clause-forest : goal.returns-clause-forest
returns-clause-forest c lives height forest =
    let settling = c.requires.settling in
    let nodes = c.args.nodes.now.nodes in
    let standing = c.requires.standing in
    let beside : IsUnsettled c.args.version c.args.place.level 0 nodes c.args.sibling = record { node = standing.node; stands = standing.stands; at_level = standing.at_level; died = standing.died; from_before = sibling_older c.args.version c.args.place.level c.args.last nodes c.args.number c.args.sibling settling c.requires.beside standing } in
    let above = parent_loose c.args.version c.args.place.level c.args.last nodes c.args.number c.args.place.parent settling c.requires.part in
    let there = unchanged c.args.nodes.now c.retire-low.new.nodes c.args.number c.args.sibling (retired c.args.version c.args.last) c.requires.standing.node c.retire-low.ensures.nodes (siblings_differ nodes c.args.number c.args.sibling c.requires.beside) c.requires.standing.stands in
    let range = rw (settling.loose.stands) at c.retire-low.ensures.range in
    let its_range = rw there at c.retire-its_low.ensures.range in
    let copied = rw (settling.loose.stands, c.new-copied.ensures) at c.retire-low.ensures.copied in
    let its_copied = rw there at c.retire-its_low.ensures.copied in
    merged {ls = c.retire-its_low.new.links.items} c.args.version lives height c.args.place.level c.args.last c.min-low.result c.max-high.result
    c.args.nodes.now c.retire-low.new.nodes c.retire-its_low.new.nodes c.push_nodes-added.new.nodes c.edit.new.nodes c.retire-its_low.new.copied.items c.deref.result.now c.args.number c.args.sibling c.args.place.parent
    c.requires.small settling.loose beside above (part_under c.args.place.level nodes c.args.number c.args.place.parent c.requires.part) c.requires.under c.requires.beside c.retire-low.ensures.nodes c.retire-its_low.ensures.nodes
    (its_copied ∙ rw copied refl)
    (c.min-low.ensures ∙ rw (range.0, its_range.0) refl)
    (c.max-high.ensures ∙ rw (range.1, its_range.1) refl)
    (rw (c.deref.ensures.0) c.push_nodes-added.ensures)
    c.edit.ensures
    forest

pub returns-clause-settling : goal.returns-clause-settling
returns-clause-settling c =
    let settling = c.requires.settling in
    let by = c.requires.forest in
    let nodes = c.args.nodes.now.nodes in
    let standing = c.requires.standing in
    let beside = sibling_loose c.args.version c.args.place.level c.args.last nodes c.args.number c.args.sibling settling c.requires.beside standing in
    let there = unchanged c.args.nodes.now c.retire-low.new.nodes c.args.number c.args.sibling (retired c.args.version c.args.last) standing.node c.retire-low.ensures.nodes (siblings_differ nodes c.args.number c.args.sibling c.requires.beside) standing.stands in
    let range = rw (settling.loose.stands) at c.retire-low.ensures.range in
    let its_range = rw there at c.retire-its_low.ensures.range in
    let copied = rw (settling.loose.stands, c.new-copied.ensures) at c.retire-low.ensures.copied in
    let its_copied = rw there at c.retire-its_low.ensures.copied in
    let items_are : c.retire-its_low.new.copied.items ≡ filter is_live settling.loose.node.entries ++ filter is_live standing.node.entries = its_copied ∙ rw copied refl in
    let low_is : c.min-low.result ≡ min settling.loose.node.low standing.node.low = c.min-low.ensures ∙ rw (range.0, its_range.0) refl in
    let high_is : c.max-high.result ≡ max settling.loose.node.high standing.node.high = c.max-high.ensures ∙ rw (range.1, its_range.1) refl in
    let copy = merged_copy c.args.version by.lives by.height c.args.place.level c.args.last c.min-low.result c.max-high.result nodes c.retire-its_low.new.copied.items c.args.number c.args.sibling by.forest settling.loose
    (record { node = standing.node; stands = standing.stands; at_level = standing.at_level; died = standing.died; from_before = sibling_older c.args.version c.args.place.level c.args.last nodes c.args.number c.args.sibling settling c.requires.beside standing }) c.requires.beside items_are low_is high_is in
    let puts : PutsNodes c.retire-its_low.new.nodes c.push_nodes-added.new.nodes c.args.place.level c.min-low.result c.max-high.result c.args.version c.retire-its_low.new.copied.items c.deref.result.now c.retire-its_low.new.links.items = rw (c.deref.ensures.0) c.push_nodes-added.ensures in
    let is_put = put c.args.version by.lives c.args.place.level c.min-low.result c.max-high.result nodes c.retire-its_low.new.nodes c.push_nodes-added.new.nodes c.retire-its_low.new.copied.items c.deref.result.now c.requires.small copy puts in
    let len : length c.deref.result.now ≡ c.len.result = ap length c.deref.ensures.0 ∙ search rules in
    let a = settling.loose.stands in
    let b = c.requires.thin.stands in
    let same : c.requires.thin.node ≡ settling.loose.node = cc in
    subst (λ x. IsSettling c.args.version (c.args.place.level + 1) x c.edit.new.nodes.nodes c.args.place.parent) len
    (merged_settles c.args.version c.args.place.level c.args.last c.min-low.result c.max-high.result c.args.nodes.now c.retire-low.new.nodes c.retire-its_low.new.nodes c.push_nodes-added.new.nodes c.edit.new.nodes
    c.retire-its_low.new.copied.items c.deref.result.now c.args.number c.args.sibling c.args.place.parent c.requires.small settling by c.requires.part c.requires.beside c.requires.under standing
    (subst (λ (x : NodeState). count_by is_live x.entries ≤ 7) same c.requires.thin.few)
    c.retire-low.ensures.nodes c.retire-its_low.ensures.nodes items_are low_is high_is is_put c.edit.ensures)

pub returns-clause-grows : goal.returns-clause-grows
returns-clause-grows c =
    let settling = c.requires.settling in
    let loose = settling.loose in
    let standing = c.requires.standing in
    let nodes = c.args.nodes.now.nodes in
    let l = loose.at_level in
    let l' = standing.at_level in
    let v = c.args.version in
    let h = c.args.place.level + 1 in
    let more = appended c.retire-its_low.new.nodes c.push_nodes-added.new.nodes _ _ _ _ _ _ c.push_nodes-added.ensures in
    let there = unchanged c.args.nodes.now c.retire-low.new.nodes c.args.number c.args.sibling (retired c.args.version c.args.last) standing.node c.retire-low.ensures.nodes (siblings_differ nodes c.args.number c.args.sibling c.requires.beside) standing.stands in
    let one = grows_retired v h c.args.last c.args.nodes.now c.retire-low.new.nodes c.args.number loose.node loose.stands (omega arith) loose.died c.retire-low.ensures.nodes in
    let two = grows_retired v h 0 c.retire-low.new.nodes c.retire-its_low.new.nodes c.args.sibling standing.node there (omega arith) standing.died c.retire-its_low.ensures.nodes in
    let three = grows_appended v h c.retire-its_low.new.nodes.nodes c.push_nodes-added.new.nodes.nodes more.0 more.1 in
    let four = grows_edited v h c.min-low.result c.max-high.result v c.push_nodes-added.new.nodes c.edit.new.nodes c.args.place.parent c.deref.result.now c.edit.ensures in
    grows_both v h nodes c.push_nodes-added.new.nodes.nodes c.edit.new.nodes.nodes c.requires.small
    (grows_both v h nodes c.retire-its_low.new.nodes.nodes c.push_nodes-added.new.nodes.nodes c.requires.small
    (grows_both v h nodes c.retire-low.new.nodes.nodes c.retire-its_low.new.nodes.nodes c.requires.small one two) three) four

pub returns-clause-links : goal.returns-clause-links
returns-clause-links c =
    let loose = c.requires.settling.loose in
    let standing = c.requires.standing in
    let nodes = c.args.nodes.now.nodes in
    let there = unchanged c.args.nodes.now c.retire-low.new.nodes c.args.number c.args.sibling (retired c.args.version c.args.last) standing.node c.retire-low.ensures.nodes (siblings_differ nodes c.args.number c.args.sibling c.requires.beside) standing.stands in
    let links : c.retire-low.new.links.items ≡ links_to c.args.number loose.node = (rw (loose.stands, c.new-links.ensures.items) at c.retire-low.ensures.links) in
    let its_links : c.retire-its_low.new.links.items ≡ links_to c.args.number loose.node ++ links_to c.args.sibling standing.node = (rw (there, links) at c.retire-its_low.ensures.links) in
    let made = made_with c.args.place.level c.min-low.result c.max-high.result c.args.version c.retire-its_low.new.links.items c.retire-its_low.new.nodes c.push_nodes-added.new.nodes _ _ c.push_nodes-added.ensures in
    keeps_edited c.args.place.level c.args.version c.min-low.result c.max-high.result c.args.version nodes c.push_nodes-added.new.nodes c.edit.new.nodes c.args.place.parent c.deref.result.now c.edit.ensures
    (merge_links c.args.place.level c.args.version c.args.last 0 c.args.nodes.now c.retire-low.new.nodes c.retire-its_low.new.nodes c.push_nodes-added.new.nodes c.args.number c.args.sibling loose.node standing.node c.retire-its_low.new.links.items
    c.requires.small loose.stands loose.at_level loose.died c.retire-low.ensures.nodes there standing.at_level standing.died c.retire-its_low.ensures.nodes its_links made)
