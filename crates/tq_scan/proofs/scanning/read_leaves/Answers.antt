use Rattle.std.proofs.Common.{List, ◌≡◌, ◌∙◌, ◌+◌, ◌<◌, ◌++◌, length, take, arith, ap, sym, slice_get, Some, append_assoc, length-append}
use Rattle.std.specs.Prelude.{All}
use Rattle.std.proofs.lemmas.Option.{slice_get-get_or, slice_get_within}
use Rattle.std.proofs.lemmas.List.{take_all}
use Rattle.std.proofs.lemmas.List.Elements.{All-append}
use Rattle.tq_arena.specs.declared.arena.NodeNo.{NodeNo}
use Rattle.tq_scan.specs.Scans.{IsMetLeaf}
use Rattle.tq_scan.specs.Reports.{keys_of, keys_at}
use Rattle.tq_scan.specs.Follows.{followed_at, followed_from}
use Rattle.tq_scan.proofs.Lists.{all_at, append-nil, flat_step}
use Rattle.tq_scan.proofs.Backward.{first_met, all_followed_at, few_leaves, leaves_once}
use Rattle.tq_scan.proofs.scanning.read_leaves.Goals as goal

pub leaves-init : goal.leaves-init
leaves-init c =
    let tree = c.version-version.ensures.tree in
    let tiling = c.trees_tile.ensures _ _ _ tree in
    record {
      within = omega arith;
      met = first_met _ _ _ tree tiling c.args.window.now c.args.part.now c.requires.inside c.args.leaves.now.items c.requires.row;
      grown = sym (append-nil c.args.leaves.now.items);
      keys = c.new-keys.ensures.items;
      at_least = omega arith;
      at_most = omega arith;
    }

pub read_leaf-requires : goal.read_leaf-requires
read_leaf-requires c =
    let leaves = c.leaves.leaves.items in
    let at : slice_get leaves c.leaves.place ≡ Some c.index-number.result.now = slice_get-get_or leaves c.leaves.place c.index-number.result.now (let t = c.leaves-test.true in let l = c.len.ensures in omega arith) ∙ ap Some (sym c.index-number.ensures) in
    let met = all_at (λ (a : NodeNo). IsMetLeaf c.args.tree.now.nodes c.args.part.now a.0) leaves c.leaves.place c.index-number.result.now c.leaves.invariant.met at in
    slice_get_within c.args.tree.now.nodes c.index-number.result.now.0 met.node met.stands

pub leaves-smaller : goal.leaves-smaller
leaves-smaller c =
    let tree = c.version-version.ensures.tree in
    let tiling = c.trees_tile.ensures _ _ _ tree in
    let few = few_leaves _ _ _ tree tiling c.args.window.now c.args.part.now c.requires.inside c.args.leaves.now.items c.requires.row c.leaves.leaves.items c.leaves.place c.leaves.invariant.met c.leaves.invariant.grown in
    let t = c.leaves-test.true in
    let l = c.len.ensures in
    omega arith

pub leaves-preserved : goal.leaves-preserved
leaves-preserved c =
    let tree = c.version-version.ensures.tree in
    let tiling = c.trees_tile.ensures _ _ _ tree in
    let nodes = c.args.tree.now.nodes in
    let p = c.args.part.now in
    let w = c.args.window.now in
    let leaves = c.leaves.leaves.items in
    let place = c.leaves.place in
    let x = c.index-number.result.now in
    let led : List NodeNo = followed_at p (slice_get nodes x.0) in
    let inv = c.leaves.invariant in
    let inside : place < length leaves = (let t = c.leaves-test.true in let l = c.len.ensures in omega arith) in
    let at : slice_get leaves place ≡ Some x = slice_get-get_or leaves place x inside ∙ ap Some (sym c.index-number.ensures) in
    let met = all_at (λ (a : NodeNo). IsMetLeaf nodes p a.0) leaves place x inv.met at in
    let its : All (λ (a : NodeNo). IsMetLeaf nodes p a.0) led = all_followed_at _ nodes _ tree tiling w p c.requires.inside x met in
    let after : c.read_leaf.new.leaves.items ≡ leaves ++ led = c.in_ok-read_leaf.ensures.leaves in
    let long = ap length after in
    record {
      within = (let l = length-append leaves led in omega arith);
      met = rw after (All-append (λ (a : NodeNo). IsMetLeaf nodes p a.0) leaves led inv.met its);
      grown = after
          ∙ ap (λ xs. xs ++ led) inv.grown
          ∙ append_assoc c.args.leaves.now.items (followed_from p nodes (take place leaves)) led
          ∙ ap (λ xs. c.args.leaves.now.items ++ xs) (sym (flat_step (λ (a : NodeNo). followed_at p (slice_get nodes a.0)) leaves led place x at) ∙ ap (λ xs. followed_from p nodes (take (place + 1) xs)) (sym after));
      keys = c.in_ok-read_leaf.ensures.keys
          ∙ ap (λ xs. xs ++ keys_at w p (slice_get nodes x.0)) inv.keys
          ∙ sym (flat_step (λ (a : NodeNo). keys_at w p (slice_get nodes a.0)) leaves led place x at)
          ∙ ap (λ xs. keys_of w p nodes (take (place + 1) xs)) (sym after);
      at_least = (let a = inv.at_least in let b = c.read_leaf.ensures.counted in omega arith);
      at_most = (let a = inv.at_most in let b = c.read_leaf.ensures.counted in omega arith);
    }

pub returns-clause-leaves : goal.returns-clause-leaves
returns-clause-leaves c =
    let tree = c.version-version.ensures.tree in
    let tiling = c.trees_tile.ensures _ _ _ tree in
    let leaves = c.leaves.leaves.items in
    let whole : take c.leaves.place leaves ≡ leaves = take_all c.leaves.place leaves (let t = c.leaves-test.false in let l = c.len.ensures in omega arith) in
    leaves_once _ _ _ tree tiling c.args.window.now c.args.part.now c.requires.inside c.args.leaves.now.items c.requires.row leaves c.leaves.invariant.met
    (c.leaves.invariant.grown ∙ ap (λ xs. c.args.leaves.now.items ++ followed_from c.args.part.now c.args.tree.now.nodes xs) whole)
