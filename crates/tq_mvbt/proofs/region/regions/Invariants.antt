use Rattle.std.proofs.Common.{◌≡◌, ◌+◌, ◌<◌, ◌≤◌, length, take, min}
use Rattle.std.specs.Prelude.{All}
use Rattle.tq_mvbt.specs.declared.region.Region.{Region}
use Rattle.tq_mvbt.specs.Regions.{regions_from}
use Rattle.tq_mvbt.proofs.region.regions.Given as goal

abbrev pub invariant-loop-i : goal.invariant-loop-i
invariant-loop-i l = record {
  regions : l.found.items ≡ regions_from 0 (take l.i l.nodes.nodes);
  in_range : All (λ (r : Region). r.node.0 < length l.nodes.nodes) l.found.items;
  counted : min (l.initial.meter + l.i) 18446744073709551615 ≤ l.meter;
  few : length l.found.items ≤ l.i;
}
