use Rattle.std.proofs.Common.{◌≡◌, ◌≢◌, ◌∙◌, ◌+◌, ◌-◌, ◌<◌, [], ◌∷◌, length, arith, rules, ap, sym, subst, get_or}
use Rattle.tq_mvbt.specs.declared.entry.Entry.{Entry}
use Rattle.tq_mvbt.specs.Shape.{top}
use Rattle.tq_mvbt.specs.Steps.{fresh, PutsNodes, Puts}
use Rattle.tq_mvbt.specs.Unsettled.{HeightChanges}
use Rattle.tq_mvbt.specs.Directory.{IsTop}
use Rattle.tq_mvbt.proofs.Renewed.{appended}
use Rattle.tq_mvbt.proofs.Roots.{few_from, many_from, single, first_there, lowered, child_top, first_filled, same_height, one_top, one_filled, higher, two_top, two_filled, root_low, root_high}
use Rattle.tq_mvbt.proofs.Grown.{grows_retired, grows_appended, grows_both}
use Rattle.tq_mvbt.specs.Links.{links_to}
use Rattle.tq_mvbt.proofs.Linked.{made_with, renew_links, keeps_topped, keeps_lowered}
use Rattle.tq_mvbt.proofs.root.replace_root.Goals as goal
use Rattle.tq_mvbt.proofs.root.replace_root.Goals.{else-level-gt0-via-then-level-gt0+else-len-eq1, else-level-gt0-via-else-level-gt0}

pub returns-then-len-eq1-clause-height : goal.returns-then-len-eq1-clause-height
returns-then-len-eq1-clause-height c =
    let settling = c.requires.settling in
    let level = c.args.root.levels - 1 in
    let up : level + 1 ≡ c.args.root.levels = omega arith in
    let copied = rw (settling.loose.stands, c.new-copied.ensures) at c.retire.ensures.copied in
    subst (λ x. HeightChanges c.args.version x level c.args.nodes.now.nodes c.retire.new.nodes.nodes) up
    (lowered c.args.version level c.args.last c.args.nodes.now c.retire.new.nodes c.retire.new.copied.items c.args.root.node c.requires.small settling (root_low _ _ _ _ _ settling c.requires.whole) (root_high _ _ _ _ _ settling c.requires.whole) c.retire.ensures.nodes copied)

pub returns-then-len-eq1-clause-top : goal.returns-then-len-eq1-clause-top
returns-then-len-eq1-clause-top c =
    let settling = c.requires.settling in
    let level = c.args.root.levels - 1 in
    let copied = rw (settling.loose.stands, c.new-copied.ensures) at c.retire.ensures.copied in
    let blank : Entry = record { low = 0; high = 0; born = 0; dead = 0; child = 0 } in
    let items_is : c.deref.result.now ≡ c.retire.new.copied.items = c.deref.ensures.0 in
    let len : length c.deref.result.now ≡ 1 = ap length items_is ∙ (let v = c.len.ensures.value in let o = c.if-len-eq1.true in search rules) in
    let one : c.retire.new.copied.items ≡ get_or c.deref.result.now 0 blank ∷ [] = sym items_is ∙ single c.deref.result.now blank len in
    child_top c.args.version level c.args.last c.args.nodes.now c.retire.new.nodes c.retire.new.copied.items c.args.root.node c.requires.small settling (root_low _ _ _ _ _ settling c.requires.whole) (root_high _ _ _ _ _ settling c.requires.whole) c.retire.ensures.nodes copied
    c.requires.forest c.if-level-gt0.true (get_or c.deref.result.now 0 blank) one

pub returns-then-len-eq1-clause-filled : goal.returns-then-len-eq1-clause-filled
returns-then-len-eq1-clause-filled c =
    let settling = c.requires.settling in
    let copied = rw (settling.loose.stands, c.new-copied.ensures) at c.retire.ensures.copied in
    first_filled c.args.version (c.args.root.levels - 1) c.args.last c.args.nodes.now c.retire.new.nodes c.retire.new.copied.items c.args.root.node c.requires.small settling (root_low _ _ _ _ _ settling c.requires.whole) (root_high _ _ _ _ _ settling c.requires.whole) c.retire.ensures.nodes copied

pub returns-then-len-eq1-clause-grows : goal.returns-then-len-eq1-clause-grows
returns-then-len-eq1-clause-grows c =
    let loose = c.requires.settling.loose in
    let l = loose.at_level in
    grows_retired c.args.version c.args.root.levels c.args.last c.args.nodes.now c.retire.new.nodes c.args.root.node loose.node loose.stands (omega arith) loose.died c.retire.ensures.nodes

pub returns-then-len-eq1-2-clause-height : goal.returns-then-len-eq1-2-clause-height
returns-then-len-eq1-2-clause-height c =
    let settling = c.requires.settling in
    let level = c.args.root.levels - 1 in
    let up : level + 1 ≡ c.args.root.levels = omega arith in
    let copied = rw (settling.loose.stands, c.new-copied.ensures) at c.retire.ensures.copied in
    subst (λ x. HeightChanges c.args.version x x c.args.nodes.now.nodes c.push_nodes-added.new.nodes.nodes) up
    (same_height c.args.version level c.args.last c.args.nodes.now c.retire.new.nodes c.retire.new.copied.items c.args.root.node c.requires.small settling (root_low _ _ _ _ _ settling c.requires.whole) (root_high _ _ _ _ _ settling c.requires.whole) c.retire.ensures.nodes copied
    c.push_nodes-added.new.nodes c.push_nodes-added.result.items c.push_nodes-added.ensures)

pub returns-then-len-eq1-2-clause-top : goal.returns-then-len-eq1-2-clause-top
returns-then-len-eq1-2-clause-top c =
    let settling = c.requires.settling in
    let level = c.args.root.levels - 1 in
    let up : level + 1 ≡ c.args.root.levels = omega arith in
    let copied = rw (settling.loose.stands, c.new-copied.ensures) at c.retire.ensures.copied in
    let blank : Entry = record { low = 0; high = 0; born = 0; dead = 0; child = 0 } in
    let added = c.deref-then-len-eq1-2.result.now in
    let puts : PutsNodes c.retire.new.nodes c.push_nodes-added.new.nodes level 0 top c.args.version c.retire.new.copied.items added c.retire.new.links.items = rw (c.deref-then-len-eq1-2.ensures.0) c.push_nodes-added.ensures in
    let len : length added ≡ 1 = ap length c.deref-then-len-eq1-2.ensures.0 ∙ (let v = c.len-2.ensures.value in let o = c.if-len-eq1-2.true in search rules) in
    subst (λ x. IsTop c.args.version c.push_nodes-added.new.nodes.nodes (record { from = c.args.version; node = (get_or added 0 blank).child; levels = x })) up
    (one_top c.args.version level c.args.last c.args.nodes.now c.retire.new.nodes c.retire.new.copied.items c.args.root.node c.requires.small settling (root_low _ _ _ _ _ settling c.requires.whole) (root_high _ _ _ _ _ settling c.requires.whole) c.retire.ensures.nodes copied
    c.push_nodes-added.new.nodes added (get_or added 0 blank) puts (few_from _ _ _ _ _ _ _ _ puts len) (first_there added blank len))

pub returns-then-len-eq1-2-clause-filled : goal.returns-then-len-eq1-2-clause-filled
returns-then-len-eq1-2-clause-filled c =
    let settling = c.requires.settling in
    let level = c.args.root.levels - 1 in
    let copied = rw (settling.loose.stands, c.new-copied.ensures) at c.retire.ensures.copied in
    let len : length c.push_nodes-added.result.items ≡ 1 = (let v = c.len-2.ensures.value in let o = c.if-len-eq1-2.true in search rules) in
    let many : 0 < level → length c.retire.new.copied.items ≢ 1 = λ h one. elim c.else-level-gt0.branch as (λ _. ⊥) [ else-level-gt0-via-then-level-gt0+else-len-eq1 w ↦ (let v = w.len.ensures.value in let o = w.if-len-eq1.false in search rules) | else-level-gt0-via-else-level-gt0 w ↦ (let o = w.if-level-gt0.false in omega arith) ] in
    one_filled c.args.version level c.args.last c.args.nodes.now c.retire.new.nodes c.retire.new.copied.items c.args.root.node c.requires.small settling (root_low _ _ _ _ _ settling c.requires.whole) (root_high _ _ _ _ _ settling c.requires.whole) c.retire.ensures.nodes copied
    c.requires.forest c.push_nodes-added.new.nodes c.push_nodes-added.result.items c.push_nodes-added.ensures (few_from _ _ _ _ _ _ _ _ c.push_nodes-added.ensures len) many

pub returns-then-len-eq1-2-clause-grows : goal.returns-then-len-eq1-2-clause-grows
returns-then-len-eq1-2-clause-grows c =
    let loose = c.requires.settling.loose in
    let l = loose.at_level in
    let v = c.args.version in
    let h = c.args.root.levels in
    let more = appended c.retire.new.nodes c.push_nodes-added.new.nodes _ _ _ _ _ _ c.push_nodes-added.ensures in
    let one = grows_retired v h c.args.last c.args.nodes.now c.retire.new.nodes c.args.root.node loose.node loose.stands (omega arith) loose.died c.retire.ensures.nodes in
    let two = grows_appended v h c.retire.new.nodes.nodes c.push_nodes-added.new.nodes.nodes more.0 more.1 in
    grows_both v h c.args.nodes.now.nodes c.retire.new.nodes.nodes c.push_nodes-added.new.nodes.nodes c.requires.small one two

pub returns-clause-height : goal.returns-clause-height
returns-clause-height c =
    let settling = c.requires.settling in
    let level = c.args.root.levels - 1 in
    let up : level + 1 ≡ c.args.root.levels = omega arith in
    let up' : level + 2 ≡ c.args.root.levels + 1 = omega arith in
    let copied = rw (settling.loose.stands, c.new-copied.ensures) at c.retire.ensures.copied in
    let added = c.deref-2.result.now in
    let puts : PutsNodes c.retire.new.nodes c.push_nodes-added.new.nodes level 0 top c.args.version c.retire.new.copied.items added c.retire.new.links.items = rw (c.deref-2.ensures.0) c.push_nodes-added.ensures in
    let more : length added ≢ 1 = λ one. c.if-len-eq1-2.false (let e = ap length c.deref-2.ensures.0 in let v = c.len-2.ensures.value in search rules) in
    let last_put : Puts c.push_nodes-added.new.nodes c.push_node-top.new.nodes (fresh (level + 1) 0 top c.args.version added []) c.push_node-top.result = rw up (rw c.new.ensures.items at c.push_node-top.ensures) in
    subst (λ x. HeightChanges c.args.version x (c.args.root.levels + 1) c.args.nodes.now.nodes c.push_node-top.new.nodes.nodes) up
    (subst (λ x. HeightChanges c.args.version (level + 1) x c.args.nodes.now.nodes c.push_node-top.new.nodes.nodes) up'
    (higher c.args.version level c.args.last c.args.nodes.now c.retire.new.nodes c.retire.new.copied.items c.args.root.node c.requires.small settling (root_low _ _ _ _ _ settling c.requires.whole) (root_high _ _ _ _ _ settling c.requires.whole) c.retire.ensures.nodes copied
    c.push_nodes-added.new.nodes c.push_node-top.new.nodes added c.push_node-top.result puts (many_from _ _ _ _ _ _ _ _ puts more) last_put))

pub returns-clause-top : goal.returns-clause-top
returns-clause-top c =
    let settling = c.requires.settling in
    let level = c.args.root.levels - 1 in
    let up : level + 1 ≡ c.args.root.levels = omega arith in
    let up' : level + 2 ≡ c.args.root.levels + 1 = omega arith in
    let copied = rw (settling.loose.stands, c.new-copied.ensures) at c.retire.ensures.copied in
    let added = c.deref-2.result.now in
    let puts : PutsNodes c.retire.new.nodes c.push_nodes-added.new.nodes level 0 top c.args.version c.retire.new.copied.items added c.retire.new.links.items = rw (c.deref-2.ensures.0) c.push_nodes-added.ensures in
    let more : length added ≢ 1 = λ one. c.if-len-eq1-2.false (let e = ap length c.deref-2.ensures.0 in let v = c.len-2.ensures.value in search rules) in
    let last_put : Puts c.push_nodes-added.new.nodes c.push_node-top.new.nodes (fresh (level + 1) 0 top c.args.version added []) c.push_node-top.result = rw up (rw c.new.ensures.items at c.push_node-top.ensures) in
    subst (λ x. IsTop c.args.version c.push_node-top.new.nodes.nodes (record { from = c.args.version; node = c.push_node-top.result.child; levels = x })) up'
    (two_top c.args.version level c.args.last c.args.nodes.now c.retire.new.nodes c.retire.new.copied.items c.args.root.node c.requires.small settling (root_low _ _ _ _ _ settling c.requires.whole) (root_high _ _ _ _ _ settling c.requires.whole) c.retire.ensures.nodes copied
    c.push_nodes-added.new.nodes c.push_node-top.new.nodes added c.push_node-top.result puts (many_from _ _ _ _ _ _ _ _ puts more) last_put)

pub returns-clause-filled : goal.returns-clause-filled
returns-clause-filled c =
    let settling = c.requires.settling in
    let level = c.args.root.levels - 1 in
    let up : level + 1 ≡ c.args.root.levels = omega arith in
    let copied = rw (settling.loose.stands, c.new-copied.ensures) at c.retire.ensures.copied in
    let added = c.deref-2.result.now in
    let puts : PutsNodes c.retire.new.nodes c.push_nodes-added.new.nodes level 0 top c.args.version c.retire.new.copied.items added c.retire.new.links.items = rw (c.deref-2.ensures.0) c.push_nodes-added.ensures in
    let more : length added ≢ 1 = λ one. c.if-len-eq1-2.false (let e = ap length c.deref-2.ensures.0 in let v = c.len-2.ensures.value in search rules) in
    let last_put : Puts c.push_nodes-added.new.nodes c.push_node-top.new.nodes (fresh (level + 1) 0 top c.args.version added []) c.push_node-top.result = rw up (rw c.new.ensures.items at c.push_node-top.ensures) in
    two_filled c.args.version level c.args.last c.args.nodes.now c.retire.new.nodes c.retire.new.copied.items c.args.root.node c.requires.small settling (root_low _ _ _ _ _ settling c.requires.whole) (root_high _ _ _ _ _ settling c.requires.whole) c.retire.ensures.nodes copied
    c.push_nodes-added.new.nodes c.push_node-top.new.nodes added c.push_node-top.result puts (many_from _ _ _ _ _ _ _ _ puts more) last_put c.requires.forest

pub returns-clause-grows : goal.returns-clause-grows
returns-clause-grows c =
    let loose = c.requires.settling.loose in
    let l = loose.at_level in
    let v = c.args.version in
    let h = c.args.root.levels in
    let more = appended c.retire.new.nodes c.push_nodes-added.new.nodes _ _ _ _ _ _ c.push_nodes-added.ensures in
    let one = grows_retired v h c.args.last c.args.nodes.now c.retire.new.nodes c.args.root.node loose.node loose.stands (omega arith) loose.died c.retire.ensures.nodes in
    let two = grows_appended v h c.retire.new.nodes.nodes c.push_nodes-added.new.nodes.nodes more.0 more.1 in
    let three = grows_appended v h c.push_nodes-added.new.nodes.nodes c.push_node-top.new.nodes.nodes _ c.push_node-top.ensures.nodes in
    grows_both v h c.args.nodes.now.nodes c.push_nodes-added.new.nodes.nodes c.push_node-top.new.nodes.nodes c.requires.small
    (grows_both v h c.args.nodes.now.nodes c.retire.new.nodes.nodes c.push_nodes-added.new.nodes.nodes c.requires.small one two) three

pub returns-then-len-eq1-clause-links : goal.returns-then-len-eq1-clause-links
returns-then-len-eq1-clause-links c =
    let loose = c.requires.settling.loose in
    keeps_lowered (c.args.root.levels - 1) c.args.version c.args.last c.args.nodes.now c.retire.new.nodes c.args.root.node loose.node loose.stands loose.at_level c.if-level-gt0.true c.retire.ensures.nodes

pub returns-then-len-eq1-2-clause-links : goal.returns-then-len-eq1-2-clause-links
returns-then-len-eq1-2-clause-links c =
    let loose = c.requires.settling.loose in
    let links : c.retire.new.links.items ≡ links_to c.args.root.node loose.node = (rw (loose.stands, c.new-links.ensures.items) at c.retire.ensures.links) in
    let made = made_with (c.args.root.levels - 1) 0 top c.args.version c.retire.new.links.items c.retire.new.nodes c.push_nodes-added.new.nodes _ _ c.push_nodes-added.ensures in
    renew_links (c.args.root.levels - 1) c.args.version c.args.last c.args.nodes.now c.retire.new.nodes c.push_nodes-added.new.nodes c.args.root.node loose.node c.retire.new.links.items c.requires.small loose.stands loose.at_level loose.died c.retire.ensures.nodes links made

pub returns-clause-links : goal.returns-clause-links
returns-clause-links c =
    let loose = c.requires.settling.loose in
    let links : c.retire.new.links.items ≡ links_to c.args.root.node loose.node = (rw (loose.stands, c.new-links.ensures.items) at c.retire.ensures.links) in
    let made = made_with (c.args.root.levels - 1) 0 top c.args.version c.retire.new.links.items c.retire.new.nodes c.push_nodes-added.new.nodes _ _ c.push_nodes-added.ensures in
    let keeps = renew_links (c.args.root.levels - 1) c.args.version c.args.last c.args.nodes.now c.retire.new.nodes c.push_nodes-added.new.nodes c.args.root.node loose.node c.retire.new.links.items c.requires.small loose.stands loose.at_level loose.died c.retire.ensures.nodes links made in
    keeps_topped (c.args.root.levels - 1) c.args.version c.args.nodes.now.nodes c.push_nodes-added.new.nodes.nodes c.push_node-top.new.nodes.nodes (fresh c.args.root.levels 0 top c.args.version c.deref-2.result.now c.new.result.items) c.requires.small c.new.ensures.items (omega arith) c.push_node-top.ensures.nodes keeps
