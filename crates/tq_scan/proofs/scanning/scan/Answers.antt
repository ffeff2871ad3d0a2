use Rattle.std.proofs.Common.{◌≡◌, ◌∙◌, ◌-◌, ap, arith, length, count_by}
use Rattle.std.proofs.lemmas.List.Sorted.{IsPermutation-map}
use Rattle.tq_arena.specs.declared.arena.NodeNo.{NodeNo}
use Rattle.tq_mvbt.specs.TreeState.{height_of}
use Rattle.tq_scan.specs.Scans.{FoundIn, IsMetLeaf, numbers, alive_at}
use Rattle.tq_scan.proofs.Lists.{just_sorted, numbers_ascend}
use Rattle.tq_scan.proofs.KeysOnce.{keys_once}
use Rattle.tq_scan.proofs.Descent.{reads_all, alive_longer}
use Rattle.tq_scan.specs.Reports.{keys_of}
use Rattle.tq_scan.proofs.OneVersion.{few_met}
use Rattle.tq_scan.proofs.scanning.scan.Goals as goal

pub returns-clause-keys : goal.returns-clause-keys
returns-clause-keys c =
    let nodes = c.args.tree.now.nodes in
    let tree = c.version-version.ensures.tree in
    let tiling = c.trees_tile.ensures _ _ _ tree in
    let lists = keys_once _ nodes _ tree tiling c.args.window.now c.args.part.now c.requires c.read_leaves.new.leaves.items c.in_ok-keys.ensures.leaves in
    let just = just_sorted (FoundIn nodes c.args.window.now c.args.part.now) c.in_ok-keys.keys.items c.sort_keys.new.keys.items (rw (c.in_ok-keys.ensures.keys) lists) c.sort_keys.ensures.same c.in_ok-sort_keys.ensures.sorted in
    rw c.of.ensures just

pub returns-clause-leaves : goal.returns-clause-leaves
returns-clause-leaves c =
    let leaves = c.read_leaves.new.leaves.items in
    let sorted = c.sort_nodes.new.nodes.items in
    let just = just_sorted (IsMetLeaf c.args.tree.now.nodes c.args.part.now) (numbers leaves) (numbers sorted) c.in_ok-keys.ensures.leaves
    (IsPermutation-map (λ (n : NodeNo). n.0) leaves sorted c.sort_nodes.ensures.same) (numbers_ascend sorted c.in_ok-sort_nodes.ensures.sorted) in
    rw c.of-2.ensures just

pub returns-clause-at_most : goal.returns-clause-at_most
returns-clause-at_most c =
    let nodes = c.args.tree.now.nodes in
    let p = c.args.part.now in
    let first = c.in_ok-leaves.leaves.items in
    let alive = alive_longer nodes p first c.read_leaves.new.leaves.items c.sort_nodes.new.nodes.items c.in_ok-leaves.ensures.leaves.each c.in_ok-keys.ensures.longer c.sort_nodes.ensures.same in
    let long : length c.of-2.result ≡ length c.read_leaves.new.leaves.items = ap length c.of-2.ensures ∙ c.sort_nodes.ensures.len in
    let all = reads_all c.args.meter.now c.last_leaves.new.meter c.read_leaves.new.meter (height_of c.args.tree.now.roots p.last - 1) (length first) (count_by (alive_at nodes p.last) c.sort_nodes.new.nodes.items) (length c.of-2.result)
    c.in_ok-leaves.ensures.at_most alive (let r = c.in_ok-keys.ensures.at_most in omega arith) in
    rw c.of-2.ensures (rw c.of-2.ensures at all)

pub returns-clause-one_version : goal.returns-clause-one_version
returns-clause-one_version c one =
    let nodes = c.args.tree.now.nodes in
    let tree = c.version-version.ensures.tree in
    let tiling = c.trees_tile.ensures _ _ _ tree in
    let few = few_met _ nodes _ tree tiling c.args.window.now c.args.part.now c.requires one c.read_leaves.new.leaves.items c.in_ok-keys.ensures.leaves in
    let leaves : length c.of-2.result ≡ length c.read_leaves.new.leaves.items = ap length c.of-2.ensures ∙ c.sort_nodes.ensures.len in
    let keys : length c.of.result ≡ length (keys_of c.args.window.now c.args.part.now nodes c.read_leaves.new.leaves.items) = ap length c.of.ensures ∙ c.sort_keys.ensures.len ∙ ap length c.in_ok-keys.ensures.keys in
    rw (leaves, keys) few
