-- A leaf meets a part exactly if its keys and versions overlap those of the part.
use Rattle.std.proofs.Common.{◌≡◌, ℕ, ◌<◌, ◌≤◌, List, arith, slice_get, Some, max}
use Rattle.tq_mvbt.specs.declared.root.Root.{Root}
use Rattle.tq_mvbt.specs.NodeState.{NodeState}
use Rattle.tq_mvbt.specs.TreeState.{IsTree}
use Rattle.tq_mvbt.specs.Tiling.{IsTiling}
use Rattle.tq_scan.specs.declared.window.Part.{Part}
use Rattle.tq_scan.specs.declared.window.Window.{Window}
use Rattle.tq_scan.specs.Windows.{IsInside}
use Rattle.tq_scan.specs.Scans.{IsMetLeaf}
use Rattle.tq_scan.proofs.KeysOnce.{inside_of, lies_from, held_of, holds_from, each}

-- a leaf whose region has a point in the part
pub record Meeting (p : Part) (n : NodeState) : Type 0 where
  pub low : n.low < p.high
  pub high : p.low < n.high
  pub born : n.born ≤ p.last
  pub died : p.first < n.died

module _ (version : ℕ) (nodes : List NodeState) (roots : List Root) (tree : IsTree version nodes roots) (tiling : IsTiling nodes roots) (w : Window) (p : Part) (inside : IsInside w p) where
  -- a leaf that meets the part has a point in it
  pub met_from : (i : ℕ) (n : NodeState) → slice_get nodes i ≡ Some n → n.level ≡ 0 → Meeting p n → IsMetLeaf nodes p i
  met_from i n e l m =
      let node = each version nodes roots tree tiling i n e in
      let a1 = m.low in let a2 = m.high in let a3 = m.born in let a4 = m.died in
      let b1 = node.wide in let b2 = node.begins in
      let c1 = inside.wide in let c2 = inside.long in
      record {
        node = n;
        stands = e;
        leaf = l;
        key = max n.low p.low;
        version = max n.born p.first;
        held = holds_from n (max n.low p.low) (max n.born p.first) (record { low = omega arith; high = omega arith; born = omega arith; died = omega arith });
        inside = lies_from p (max n.low p.low) (max n.born p.first) (record { low = omega arith; high = omega arith; first = omega arith; last = omega arith });
      }

  pub meeting_from : (i : ℕ) → (met : IsMetLeaf nodes p i) → Meeting p met.node
  meeting_from i met =
      let h = held_of met.node met.key met.version met.held in
      let l = inside_of p met.key met.version met.inside in
      let a1 = h.low in let a2 = h.high in let a3 = h.born in let a4 = h.died in
      let b1 = l.low in let b2 = l.high in let b3 = l.first in let b4 = l.last in
      record { low = omega arith; high = omega arith; born = omega arith; died = omega arith }
