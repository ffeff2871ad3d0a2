-- No key is in two of the ranges so far, and they have the keys of the first ones and of the sources so far.
use Rattle.std.proofs.Common.{◌≡◌, ◌≤◌, ◌<◌, ℕ, get_or}
use Rattle.std.specs.Prelude.{ℤ}
use Rattle.tq_plan.specs.declared.plans.QuerySource.{QuerySource}
use Rattle.tq_exec.specs.Reads.{AreApart, HasSourceKeys, ranges_with}
use Rattle.tq_exec.proofs.key_ranges.add_query.Given as goal

abbrev pub invariant-sources : goal.invariant-sources
invariant-sources l = record {
  apart : AreApart l.more.items;
  kept : (key : ℤ) → 1 ≤ ranges_with l.fn.ranges.items key → 1 ≤ ranges_with l.more.items key;
  added : (k : ℕ) (d : QuerySource) → k < l.source-index → (get_or l.query.sources k d).table ≡ l.table → HasSourceKeys l.query (get_or l.query.sources k d) l.more.items;
}
