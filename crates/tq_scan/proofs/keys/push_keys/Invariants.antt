-- The keys that the leaf reports of the entries so far are appended, and there is room for the others.
use Rattle.std.proofs.Common.{◌≡◌, ◌≤◌, ◌+◌, ◌++◌, length, map, filter, take}
use Rattle.std.specs.Prelude.{vec_capacity, vec_len}
use Rattle.tq_mvbt.specs.declared.entry.Entry.{Entry}
use Rattle.tq_scan.specs.Reports.{is_reported}
use Rattle.tq_scan.proofs.keys.push_keys.Given as goal

abbrev pub invariant-loop-place : goal.invariant-loop-place
invariant-loop-place l = record {
  keys : l.keys.items ≡ l.initial.keys.items ++ map (λ (e : Entry). e.low) (filter (is_reported l.window l.part l.leaf) (take l.place l.leaf.entries));
  room : vec_len l.keys + length l.leaf.entries ≤ vec_capacity l.keys + l.place;
}
