use Rattle.std.proofs.Common.{◌≡◌, ◌≤◌, ℕ, ◌+◌, cond, nat_le, ◌∷◌, [], List, sym, ap, ◌∙◌, arith}
use Rattle.std.proofs.lemmas.Int.{ints}
use Rattle.std.proofs.lemmas.List.Sorted.{All-permutation, sum_by-IsPermutation}
use Rattle.std.proofs.lemmas.Result.{on_ok_weaker}
use Rattle.tq_base.specs.declared.value.Value.{Value}
use Rattle.tq_base.specs.Fragments.{copies}
use Rattle.tq_base.specs.Periods.{holds}
use Rattle.tq_base.specs.RowValues.{value_at}
use Rattle.tq_base.specs.Relations.{column_of}
use Rattle.tq_agg.specs.Endpoints.{count_upto}
use Rattle.tq_agg.specs.Totals.{shown_copies}
use Rattle.tq_agg.proofs.Bucketing.{number_at}
use Rattle.tq_agg.proofs.Starts.{sorted_rise}
use Rattle.tq_agg.proofs.buckets.sweep_bucket.Goals as goal

pub sweep-requires-clause-starts : goal.sweep-requires-clause-starts
sweep-requires-clause-starts c =
    let window = c.args.window.now in
    sorted_rise window c.sort.new.self.starts.items
    (c.sort.ensures.starts_sorted, All-permutation (λ b. (window.start ≤ b) × (b ≤ window.end)) c.args.bucket.now.endpoints.starts.items c.sort.new.self.starts.items c.sort.ensures.starts c.requires.starts)

pub sweep-requires-clause-ends : goal.sweep-requires-clause-ends
sweep-requires-clause-ends c =
    let window = c.args.window.now in
    sorted_rise window c.sort.new.self.ends.items
    (c.sort.ensures.ends_sorted, All-permutation (λ b. (window.start ≤ b) × (b ≤ window.end)) c.args.bucket.now.endpoints.ends.items c.sort.new.self.ends.items c.sort.ensures.ends c.requires.ends)

pub sweep-requires-clause-width : goal.sweep-requires-clause-width
sweep-requires-clause-width c begun ended = c.requires.width

pub returns-clause-rows : goal.returns-clause-rows
returns-clause-rows c =
    let rows = c.args.rows.now.items in
    let column = c.args.column in
    let window = c.args.window.now in
    let endpoints = c.args.bucket.now.endpoints in
    let old = c.args.out.now.items in
    let sorted = c.sort.new.self in
    on_ok_weaker c.sweep.result
    (λ more t v.
    let same : count_upto sorted.starts.items sorted.ends.items t ≡ count_upto endpoints.starts.items endpoints.ends.items t =
    omega (
      arith,
      ints,
      sum_by-IsPermutation (λ (b : ℕ). cond (nat_le b t) 1 0) endpoints.starts.items sorted.starts.items c.sort.ensures.starts,
      sum_by-IsPermutation (λ (b : ℕ). cond (nat_le b t) 1 0) endpoints.ends.items sorted.ends.items c.sort.ensures.ends,
    ) in
    let key : value_at c.row-row.result column ∷ [] ≡ value_at (column_of rows column) c.args.bucket.now.row ∷ [] =
    ap (λ (l : List Value). value_at l column ∷ []) c.row-row.ensures ∙ ap (λ (w : Value). w ∷ []) (sym (number_at rows column c.args.bucket.now.row)) in
    more t v
    ∙ ap (λ k. copies old v t + cond (holds window t) (shown_copies k (count_upto sorted.starts.items sorted.ends.items t ∷ []) v) 0) key
    ∙ ap (λ n. copies old v t + cond (holds window t) (shown_copies (value_at (column_of rows column) c.args.bucket.now.row ∷ []) (n ∷ []) v) 0) same)
    c.sweep.ensures.rows
