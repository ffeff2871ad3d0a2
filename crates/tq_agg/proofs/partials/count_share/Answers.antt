use Rattle.std.proofs.Common.{◌≡◌, ◌+◌, ◌∷◌, [], ℕ, List, cond, filter, get_or, ◌==◌, ap, ◌∙◌, arith}
use Rattle.tq_base.specs.declared.fragment.Fragment.{Fragment}
use Rattle.tq_base.specs.declared.value.Value.{Value}
use Rattle.tq_base.specs.Fragments.{at, copies, occurrences}
use Rattle.tq_base.specs.Periods.{holds}
use Rattle.tq_base.specs.Relations.{column_of}
use Rattle.tq_base.specs.RowValues.{value_at}
use Rattle.tq_agg.specs.declared.buckets.Tally.{Tally}
use Rattle.tq_agg.specs.Buckets.{rank_share, value_of}
use Rattle.tq_agg.specs.Endpoints.{count_upto}
use Rattle.tq_agg.specs.Grouping.{grouped_rows}
use Rattle.tq_agg.specs.Totals.{shown_copies}
use Rattle.tq_agg.proofs.Bucketing.{as_many}
use Rattle.tq_agg.proofs.Instants.{inside_from_counts, outside_from_counts}
use Rattle.tq_agg.proofs.Tallies.{share_shown, value_shown}
use Rattle.tq_agg.proofs.partials.count_share.Goals as goal
use Rattle.tq_agg.proofs.partials.count_share.Goals.{After-drop-bucket-5}

pub rows_of_rank-requires : goal.rows_of_rank-requires
rows_of_rank-requires c k d lt =
    let b : Tally = get_or c.args.tallies.now k d in
    as_many (column_of c.args.rows.now.items c.args.column) b.ranks.items b.list.items (c.requires.tallies.ranked k d lt) 0

none_before : (n : ℕ) → 0 + n ≡ n
none_before n = omega arith

-- the copies of each result row at the end
module _ (c : After-drop-bucket-5) where
  abbrev rows : List Fragment
  rows = c.args.rows.now.items

  pub shown : (t : ℕ) (v : List Value) → copies c.sweep_bucket.new.out.items v t
      ≡ cond (holds c.args.window.now t) (occurrences (grouped_rows (c.args.column ∷ []) [] (at (filter (λ (row : Fragment). rank_share c.args.ranks.now (value_at row.values c.args.column) == c.args.number) rows) t)) v) 0
  shown =
      let column = column_of rows c.args.column in
      let prefix = get_or c.args.ranks.now c.args.number 0 in
      let b = c.in_ok-bucket.bucket in
      share_shown rows c.args.window.now c.args.column c.args.tallies.now c.args.ranks.now c.args.number c.requires.tallies c.requires.ranks c.requires.here c.sweep_bucket.new.out.items
      (value_shown column c.args.window.now prefix c.args.tallies.now b (c.in_ok-bucket.ensures.counts column c.requires.tallies.ranked) c.sweep_bucket.new.out.items
      (λ t v.
      c.in_ok-sweep_bucket.ensures.rows t v
      ∙ ap (λ l. copies l v t + cond (holds c.args.window.now t) (shown_copies (value_of column b ∷ []) (count_upto b.endpoints.starts.items b.endpoints.ends.items t ∷ []) v) 0) c.new-out.ensures.rows
      ∙ none_before (cond (holds c.args.window.now t) (shown_copies (value_of column b ∷ []) (count_upto b.endpoints.starts.items b.endpoints.ends.items t ∷ []) v) 0)))

pub returns-clause-inside : goal.returns-clause-inside
returns-clause-inside c =
    inside_from_counts c.args.window.now c.sweep_bucket.new.out.items
    (λ t v. occurrences (grouped_rows (c.args.column ∷ []) [] (at (filter (λ (row : Fragment). rank_share c.args.ranks.now (value_at row.values c.args.column) == c.args.number) c.args.rows.now.items) t)) v)
    (shown c)

pub returns-clause-outside : goal.returns-clause-outside
returns-clause-outside c =
    outside_from_counts c.args.window.now c.sweep_bucket.new.out.items
    (λ t v. occurrences (grouped_rows (c.args.column ∷ []) [] (at (filter (λ (row : Fragment). rank_share c.args.ranks.now (value_at row.values c.args.column) == c.args.number) c.args.rows.now.items) t)) v)
    (shown c)
