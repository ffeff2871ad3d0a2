-- The keys of a leaf that a scan reports: each key is reported by exactly one leaf, since its reference point lies in
-- one region (this project's own).
use Rattle.std.specs.Prelude.{ℕ, Bool, List, [], nat_le, ◌&&◌, map, filter, max, Option, Some, None, slice_get}
use Rattle.std.specs.List.{flat_map}
use Rattle.tq_arena.specs.declared.arena.NodeNo.{NodeNo}
use Rattle.tq_mvbt.specs.declared.entry.Entry.{Entry}
use Rattle.tq_mvbt.specs.NodeState.{NodeState}
use Rattle.tq_mvbt.specs.Points.{end_of}
use Rattle.tq_mvbt.specs.Tiling.{before_end}
use Rattle.tq_scan.specs.declared.window.Part.{Part}
use Rattle.tq_scan.specs.declared.window.Window.{Window}
use Rattle.tq_scan.specs.Windows.{lies_in}

-- whether the reference point of the entry's key lies in the part and in the leaf's region, and the key lives there
abbrev pub is_reported : Window → Part → NodeState → Entry → Bool
is_reported w p leaf e =
    lies_in p e.low (max e.born w.first)
    && (nat_le leaf.born (max e.born w.first) && (before_end (max e.born w.first) (end_of leaf.died) && before_end (max e.born w.first) (end_of e.dead)))

-- the keys that a leaf reports
abbrev pub reported_keys : Window → Part → NodeState → List ℕ
reported_keys w p leaf = map (λ e. e.low) (filter (is_reported w p leaf) leaf.entries)

-- the keys that a leaf reports, by the leaf's number
abbrev pub keys_at : Window → Part → Option NodeState → List ℕ
keys_at w p None = []
keys_at w p (Some leaf) = reported_keys w p leaf

-- the keys that the leaves report one after the other
abbrev pub keys_of : Window → Part → List NodeState → List NodeNo → List ℕ
keys_of w p nodes leaves = flat_map (λ a. keys_at w p (slice_get nodes a.0)) leaves
