use Rattle.std.proofs.Common.{◌≡◌, ◌∙◌, ◌-◌, ap, arith, length, count_by}
use Rattle.std.proofs.lemmas.List.Sorted.{IsPermutation-refl}
use Rattle.tq_mvbt.specs.TreeState.{height_of}
use Rattle.tq_scan.specs.Scans.{alive_at}
use Rattle.tq_scan.proofs.KeysOnce.{keys_once}
use Rattle.tq_scan.proofs.Descent.{reads_all, alive_longer}
use Rattle.tq_scan.specs.Reports.{keys_of}
use Rattle.tq_scan.proofs.OneVersion.{few_met}
use Rattle.tq_scan.proofs.scanning.scan_unsorted.Goals as goal

pub returns-clause-keys : goal.returns-clause-keys
returns-clause-keys c =
    let nodes = c.args.tree.now.nodes in
    let tree = c.version-version.ensures.tree in
    let tiling = c.trees_tile.ensures _ _ _ tree in
    let lists = keys_once _ nodes _ tree tiling c.args.window.now c.args.part.now c.requires c.read_leaves.new.leaves.items c.in_ok-keys.ensures.leaves in
    rw (c.of.ensures, c.in_ok-keys.ensures.keys) lists

pub returns-clause-leaves : goal.returns-clause-leaves
returns-clause-leaves c = rw c.of-2.ensures c.in_ok-keys.ensures.leaves

pub returns-clause-at_most : goal.returns-clause-at_most
returns-clause-at_most c =
    let nodes = c.args.tree.now.nodes in
    let p = c.args.part.now in
    let first = c.in_ok-leaves.leaves.items in
    let leaves = c.read_leaves.new.leaves.items in
    let alive = alive_longer nodes p first leaves leaves c.in_ok-leaves.ensures.leaves.each c.in_ok-keys.ensures.longer (IsPermutation-refl leaves) in
    let long : length c.of-2.result ≡ length leaves = ap length c.of-2.ensures in
    let all = reads_all c.args.meter.now c.last_leaves.new.meter c.read_leaves.new.meter (height_of c.args.tree.now.roots p.last - 1) (length first) (count_by (alive_at nodes p.last) leaves) (length c.of-2.result)
    c.in_ok-leaves.ensures.at_most alive (let r = c.in_ok-keys.ensures.at_most in omega arith) in
    rw c.of-2.ensures (rw c.of-2.ensures at all)

pub returns-clause-one_version : goal.returns-clause-one_version
returns-clause-one_version c one =
    let nodes = c.args.tree.now.nodes in
    let tree = c.version-version.ensures.tree in
    let tiling = c.trees_tile.ensures _ _ _ tree in
    let few = few_met _ nodes _ tree tiling c.args.window.now c.args.part.now c.requires one c.read_leaves.new.leaves.items c.in_ok-keys.ensures.leaves in
    let leaves : length c.of-2.result ≡ length c.read_leaves.new.leaves.items = ap length c.of-2.ensures in
    let keys : length c.of.result ≡ length (keys_of c.args.window.now c.args.part.now nodes c.read_leaves.new.leaves.items) = ap length c.of.ensures ∙ ap length c.in_ok-keys.ensures.keys in
    rw (leaves, keys) few
