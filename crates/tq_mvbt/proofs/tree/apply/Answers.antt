use Rattle.std.proofs.Common.{◌≡◌, ◌+◌, ◌-◌, ◌*◌, ◌≤◌, ◌∙◌, ℕ, ap, sym, subst, arith, length, List}
use Rattle.tq_mvbt.specs.declared.root.Root.{Root}
use Rattle.tq_mvbt.specs.NodeState.{NodeState}
use Rattle.tq_mvbt.specs.Shape.{IsFound}
use Rattle.tq_mvbt.specs.Unsettled.{Grows, KeyChanges}
use Rattle.tq_mvbt.specs.Directory.{root_of, IsTop}
use Rattle.tq_mvbt.specs.TreeState.{IsTree}
use Rattle.tq_mvbt.proofs.Trees.{few_levels, root_found, top_grows, updated, updated_lives, updated_others, updated_roots}
use Rattle.tq_mvbt.specs.Links.{UpdatesLinks}
use Rattle.tq_mvbt.proofs.Linked.{tree_untouched, links_after}
use Rattle.tq_mvbt.proofs.tree.apply.Goals as goal

-- the levels of the root that was found
few : (before : ℕ) (nodes : List NodeState) (roots : List Root) (r : Root) → IsTree before nodes roots → r ≡ root_of roots before → r.levels ≤ 10
few before nodes roots r tree is = let s = tree.small in subst (λ (x : Root). x.levels ≤ 10) (sym is) (few_levels before nodes roots tree before (omega arith))

pub overflow_mul-root : goal.overflow_mul-root
overflow_mul-root c =
    let f = few c.args.last_version.now c.args.nodes.now.nodes c.args.roots.now.items c.find_root-root.result c.requires.tree (c.find_root-root.ensures ∙ ap (λ rs. root_of rs c.args.last_version.now) c.deref.ensures.value) in
    omega arith

pub overflow_add-root : goal.overflow_add-root
overflow_add-root c =
    let f = few c.args.last_version.now c.args.nodes.now.nodes c.args.roots.now.items c.find_root-root.result c.requires.tree (c.find_root-root.ensures ∙ ap (λ rs. root_of rs c.args.last_version.now) c.deref.ensures.value) in
    omega arith

pub reserve-requires : goal.reserve-requires
reserve-requires c =
    let f = few c.args.last_version.now c.args.nodes.now.nodes c.args.roots.now.items c.find_root-root.result c.requires.tree (c.find_root-root.ensures ∙ ap (λ rs. root_of rs c.args.last_version.now) c.deref.ensures.value) in
    let b = c.requires.tree.bounded in
    let s = c.requires.tree.small in
    omega arith

pub update-last-requires-clause-found : goal.update-last-requires-clause-found
update-last-requires-clause-found c =
    let is : c.find_root-root.result ≡ root_of c.args.roots.now.items c.args.last_version.now = c.find_root-root.ensures ∙ ap (λ rs. root_of rs c.args.last_version.now) c.deref.ensures.value in
    let found = root_found c.args.last_version.now c.args.nodes.now.nodes c.args.roots.now.items c.requires.tree c.args.key c.requires.key in
    let here = subst (λ (r : Root). IsFound c.args.nodes.now.nodes (r.levels - 1) c.args.key r.node) (sym is) found in
    subst (λ (ns : List NodeState). IsFound ns (c.find_root-root.result.levels - 1) c.args.key c.find_root-root.result.node) (sym c.reserve.ensures.nodes) here

pub settle_root-next-requires-clause-few_levels : goal.settle_root-next-requires-clause-few_levels
settle_root-next-requires-clause-few_levels c =
    let f = few c.args.last_version.now c.args.nodes.now.nodes c.args.roots.now.items c.find_root-root.result c.requires.tree (c.find_root-root.ensures ∙ ap (λ rs. root_of rs c.args.last_version.now) c.deref.ensures.value) in
    omega arith

pub settle_root-next-requires-clause-whole : goal.settle_root-next-requires-clause-whole
settle_root-next-requires-clause-whole c =
    let is : c.find_root-root.result ≡ root_of c.args.roots.now.items c.args.last_version.now = c.find_root-root.ensures ∙ ap (λ rs. root_of rs c.args.last_version.now) c.deref.ensures.value in
    let mid = c.update-last.new.nodes.nodes in
    let grows : Grows c.args.version (c.find_root-root.result.levels - 1) c.args.nodes.now.nodes mid = subst (λ (ns : List NodeState). Grows c.args.version (c.find_root-root.result.levels - 1) ns mid) c.reserve.ensures.nodes c.update-last.ensures.grows in
    subst (λ (r : Root). IsTop c.args.version mid r) (sym is)
    (top_grows c.args.last_version.now c.args.nodes.now.nodes c.args.roots.now.items c.requires.tree c.args.version mid c.requires.later (subst (λ (r : Root). Grows c.args.version (r.levels - 1) c.args.nodes.now.nodes mid) is grows))

pub returns-clause-tree : goal.returns-clause-tree
returns-clause-tree c =
    let nodes = c.args.nodes.now.nodes in
    let mid = c.update-last.new.nodes.nodes in
    let r = c.find_root-root.result in
    let is : r ≡ root_of c.args.roots.now.items c.args.last_version.now = c.find_root-root.ensures ∙ ap (λ rs. root_of rs c.args.last_version.now) c.deref.ensures.value in
    let keyed : KeyChanges c.args.version c.args.key c.args.alive nodes mid = subst (λ (ns : List NodeState). KeyChanges c.args.version c.args.key c.args.alive ns mid) c.reserve.ensures.nodes c.update-last.ensures.keyed in
    let grows : Grows c.args.version (r.levels - 1) nodes mid = subst (λ (ns : List NodeState). Grows c.args.version (r.levels - 1) ns mid) c.reserve.ensures.nodes c.update-last.ensures.grows in
    let len : length mid ≤ length nodes + 2 * (r.levels - 1) = subst (λ (ns : List NodeState). length mid ≤ length ns + 2 * (r.levels - 1)) c.reserve.ensures.nodes c.update-last.ensures.len in
    let s = c.settle_root-next.ensures in
    let updates : UpdatesLinks (r.levels - 1) c.args.version nodes mid = subst (λ (ns : List NodeState). UpdatesLinks (r.levels - 1) c.args.version ns mid) c.reserve.ensures.nodes c.update-last.ensures.links in
    let untouched = tree_untouched c.args.last_version.now c.args.version nodes c.args.roots.now.items c.requires.later (let l = c.requires.small in omega arith) c.requires.tree in
    let linked = links_after (r.levels - 1) c.args.version nodes mid c.settle_root-next.new.nodes.nodes untouched updates s.links in
    let all = updated c.args.last_version.now c.args.version c.args.key c.args.alive nodes mid c.settle_root-next.new.nodes.nodes c.args.roots.now.items r c.settle_root-next.result
    c.requires.tree c.requires.later c.requires.small c.requires.key c.requires.never is keyed grows len s.same s.height s.from s.top s.filled s.grows s.len linked in
    rw (c.push_root.ensures, c.reserve-2.ensures.items) all

pub returns-clause-lives : goal.returns-clause-lives
returns-clause-lives c =
    let nodes = c.args.nodes.now.nodes in
    let mid = c.update-last.new.nodes.nodes in
    let r = c.find_root-root.result in
    let is : r ≡ root_of c.args.roots.now.items c.args.last_version.now = c.find_root-root.ensures ∙ ap (λ rs. root_of rs c.args.last_version.now) c.deref.ensures.value in
    let keyed : KeyChanges c.args.version c.args.key c.args.alive nodes mid = subst (λ (ns : List NodeState). KeyChanges c.args.version c.args.key c.args.alive ns mid) c.reserve.ensures.nodes c.update-last.ensures.keyed in
    let grows : Grows c.args.version (r.levels - 1) nodes mid = subst (λ (ns : List NodeState). Grows c.args.version (r.levels - 1) ns mid) c.reserve.ensures.nodes c.update-last.ensures.grows in
    let len : length mid ≤ length nodes + 2 * (r.levels - 1) = subst (λ (ns : List NodeState). length mid ≤ length ns + 2 * (r.levels - 1)) c.reserve.ensures.nodes c.update-last.ensures.len in
    let s = c.settle_root-next.ensures in
    updated_lives c.args.last_version.now c.args.version c.args.key c.args.alive nodes mid c.settle_root-next.new.nodes.nodes c.args.roots.now.items r c.settle_root-next.result
    c.requires.tree c.requires.later c.requires.small c.requires.key c.requires.never is keyed grows len s.same s.height s.from s.top s.filled s.grows s.len

pub returns-clause-others : goal.returns-clause-others
returns-clause-others c =
    let nodes = c.args.nodes.now.nodes in
    let mid = c.update-last.new.nodes.nodes in
    let r = c.find_root-root.result in
    let is : r ≡ root_of c.args.roots.now.items c.args.last_version.now = c.find_root-root.ensures ∙ ap (λ rs. root_of rs c.args.last_version.now) c.deref.ensures.value in
    let keyed : KeyChanges c.args.version c.args.key c.args.alive nodes mid = subst (λ (ns : List NodeState). KeyChanges c.args.version c.args.key c.args.alive ns mid) c.reserve.ensures.nodes c.update-last.ensures.keyed in
    let grows : Grows c.args.version (r.levels - 1) nodes mid = subst (λ (ns : List NodeState). Grows c.args.version (r.levels - 1) ns mid) c.reserve.ensures.nodes c.update-last.ensures.grows in
    let len : length mid ≤ length nodes + 2 * (r.levels - 1) = subst (λ (ns : List NodeState). length mid ≤ length ns + 2 * (r.levels - 1)) c.reserve.ensures.nodes c.update-last.ensures.len in
    let s = c.settle_root-next.ensures in
    updated_others c.args.last_version.now c.args.version c.args.key c.args.alive nodes mid c.settle_root-next.new.nodes.nodes c.args.roots.now.items r c.settle_root-next.result
    c.requires.tree c.requires.later c.requires.small c.requires.key c.requires.never is keyed grows len s.same s.height s.from s.top s.filled s.grows s.len

pub returns-clause-past : goal.returns-clause-past
returns-clause-past c =
    let nodes = c.args.nodes.now.nodes in
    let mid = c.update-last.new.nodes.nodes in
    let r = c.find_root-root.result in
    let is : r ≡ root_of c.args.roots.now.items c.args.last_version.now = c.find_root-root.ensures ∙ ap (λ rs. root_of rs c.args.last_version.now) c.deref.ensures.value in
    let keyed : KeyChanges c.args.version c.args.key c.args.alive nodes mid = subst (λ (ns : List NodeState). KeyChanges c.args.version c.args.key c.args.alive ns mid) c.reserve.ensures.nodes c.update-last.ensures.keyed in
    let grows : Grows c.args.version (r.levels - 1) nodes mid = subst (λ (ns : List NodeState). Grows c.args.version (r.levels - 1) ns mid) c.reserve.ensures.nodes c.update-last.ensures.grows in
    let len : length mid ≤ length nodes + 2 * (r.levels - 1) = subst (λ (ns : List NodeState). length mid ≤ length ns + 2 * (r.levels - 1)) c.reserve.ensures.nodes c.update-last.ensures.len in
    let s = c.settle_root-next.ensures in
    let all = updated_roots c.args.last_version.now c.args.version c.args.key c.args.alive nodes mid c.settle_root-next.new.nodes.nodes c.args.roots.now.items r c.settle_root-next.result
    c.requires.tree c.requires.later c.requires.small c.requires.key c.requires.never is keyed grows len s.same s.height s.from s.top s.filled s.grows s.len in
    rw (c.push_root.ensures, c.reserve-2.ensures.items) all
