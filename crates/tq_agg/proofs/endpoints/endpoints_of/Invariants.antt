-- Each row so far that overlaps the window has its start and its end in the lists.
use Rattle.std.proofs.Common.{◌≡◌, ◌≤◌, ℕ, take}
use Rattle.std.specs.Prelude.{All}
use Rattle.tq_agg.specs.declared.summands.Summand.TheVariants.{One}
use Rattle.tq_agg.specs.Endpoints.{count_upto}
use Rattle.tq_agg.specs.Totals.{added, held_weight}
use Rattle.tq_agg.proofs.endpoints.endpoints_of.Given as goal

abbrev pub invariant-rows : goal.invariant-rows
invariant-rows l = record {
  counts : (t : ℕ) → count_upto l.endpoints.starts.items l.endpoints.ends.items t ≡ added (held_weight One l.window t) (take l.period-index l.fn.rows.items);
  starts : All (λ b. (l.window.start ≤ b) × (b ≤ l.window.end)) l.endpoints.starts.items;
  ends : All (λ b. (l.window.start ≤ b) × (b ≤ l.window.end)) l.endpoints.ends.items;
}
