-- The nodes that a scan visits: the children of an index node at the part's last version, and the leaves that a leaf
-- links (van den Bercken and Seeger 1996; which links are followed is this project's own).
use Rattle.std.specs.Prelude.{Bool, List, [], nat_le, nat_lt, ◌&&◌, map, filter, max, Option, Some, None, slice_get}
use Rattle.std.specs.List.{flat_map}
use Rattle.tq_arena.specs.declared.arena.NodeNo.{NodeNo}
use Rattle.tq_mvbt.specs.declared.entry.Entry.{Entry}
use Rattle.tq_mvbt.specs.declared.node.Link.{Link}
use Rattle.tq_mvbt.specs.NodeState.{NodeState}
use Rattle.tq_mvbt.specs.Points.{end_of}
use Rattle.tq_mvbt.specs.Tiling.{before_end}
use Rattle.tq_scan.specs.declared.window.Part.{Part}

-- whether the entry's child is alive at the part's last version and has keys of the part
abbrev pub is_met_child : Part → Entry → Bool
is_met_child p e = nat_lt e.low p.high && (nat_lt p.low e.high && (nat_le e.born p.last && before_end p.last (end_of e.dead)))

-- the children that a scan visits
abbrev pub met_children : Part → NodeState → List NodeNo
met_children p n = map (λ e. record { 0 = e.child }) (filter (is_met_child p) n.entries)

abbrev pub children_at : Part → Option NodeState → List NodeNo
children_at p None = []
children_at p (Some n) = met_children p n

-- those of all nodes of a level
abbrev pub children_of : Part → List NodeState → List NodeNo → List NodeNo
children_of p nodes row = flat_map (λ a. children_at p (slice_get nodes a.0)) row

-- whether the linked leaf has a point in the part: the leaf was born after the part's first version, and the linked
-- leaf has keys of the part
abbrev pub is_met_link : Part → NodeState → Link → Bool
is_met_link p n l = nat_lt p.first n.born && (nat_lt l.low p.high && nat_lt p.low l.high)

-- whether the leaf's link is followed: the linked leaf has a point in the part, and the greater of its low key and the
-- part's lies in the leaf's range
abbrev pub is_followed : Part → NodeState → Link → Bool
is_followed p n l = is_met_link p n l && (nat_le n.low (max l.low p.low) && nat_lt (max l.low p.low) n.high)

-- the leaves to which a leaf's followed links lead
abbrev pub followed : Part → NodeState → List NodeNo
followed p n = map (λ l. l.node) (filter (is_followed p n) n.links)

abbrev pub followed_at : Part → Option NodeState → List NodeNo
followed_at p None = []
followed_at p (Some n) = followed p n

-- the same for several leaves
abbrev pub followed_from : Part → List NodeState → List NodeNo → List NodeNo
followed_from p nodes leaves = flat_map (λ a. followed_at p (slice_get nodes a.0)) leaves
