use Rattle.std.proofs.Common.{◌≡◌, ◌∙◌, ◌<◌, ◌≤◌, ◌+◌, ◌++◌, ℕ, ap, get_or, length, map, subst, sym, arith}
use Rattle.std.specs.Prelude.{All}
use Rattle.std.proofs.lemmas.List.{length-append, length-map}
use Rattle.tq_base.specs.declared.relation.Pair.{Pair}
use Rattle.tq_base.specs.Parts.{moved_column, periods_of, rows_at, rows_by_number, IsIn}
use Rattle.tq_base.specs.Relations.{pair_of}
use Rattle.tq_base.specs.RowLists.{RowList}
use Rattle.tq_base.proofs.RelationLemmas.{both_in, paired_rows}
use Rattle.tq_base.proofs.relation.Relation.set_pairs.Goals as goal

pub invariant_of-self-2 : goal.invariant_of-self-2
invariant_of-self-2 c =
    let left = c.self.inside in
    let right = c.right.inside in
    let pairs = c.args.pairs.now in
    let parts : c.len.result ≡ length left.parts.items = omega (arith, c.len.ensures, left.parts.ok.0) in
    let both : c.in_ok-both.both.items ≡ left.columns.items ++ map (moved_column (length left.parts.items)) right.columns.items =
    c.in_ok-both.ensures
    ∙ (λ i. c.deref.ensures.value i ++ map (moved_column (parts i)) (c.deref-2.ensures.value i)) in
    let few : length c.in_ok-pair_periods.field-0.items ≤ 4294967295 =
    omega (arith, c.requires.few, ap length c.in_ok-pair_periods.ensures, length-map pairs (λ (pair : Pair). pair.period)) in
    let len : length c.append.new.self.items ≡ length left.parts.items + length right.parts.items =
    ap length c.in_ok-append.ensures.items ∙ length-append c.renumber-2.new.parts.items c.renumber.new.parts.items ∙ (λ i. c.renumber-2.ensures.len i + c.renumber.ensures.len i) in (
      c.self.invariant.0,
      few,
      subst (λ n. All (IsIn n) c.in_ok-both.both.items) (sym len)
          (subst (All (IsIn (length left.parts.items + length right.parts.items))) (sym both)
          (both_in (length left.parts.items) (length right.parts.items) left.columns.items right.columns.items c.self.invariant.2 c.right.invariant.2)),
    )

pub returns-clause-rows : goal.returns-clause-rows
returns-clause-rows c =
    let left = c.self.inside in
    let right = c.right.inside in
    let left_periods = periods_of left.parts.items left.periods in
    let right_periods = periods_of right.parts.items right.periods in
    let pairs = c.args.pairs.now in
    let new_left = c.renumber-2.new.parts.items in
    let new_right = c.renumber.new.parts.items in
    let parts : c.len.result ≡ length left.parts.items = omega (arith, c.len.ensures, left.parts.ok.0) in
    let both : c.in_ok-both.both.items ≡ left.columns.items ++ map (moved_column c.len.result) right.columns.items =
    c.in_ok-both.ensures ∙ (λ i. c.deref.ensures.value i ++ map (moved_column c.len.result) (c.deref-2.ensures.value i)) in
    let left_numbers : c.deref-4.result.now ≡ map (λ (pair : Pair). pair.left) pairs = c.deref-4.ensures.value ∙ c.in_ok-left.ensures in
    let right_numbers : c.deref-3.result.now ≡ map (λ (pair : Pair). pair.right) pairs = c.deref-3.ensures.value ∙ c.in_ok-right_rows.ensures in
    let lefts : All (λ (pair : Pair). pair.left < length (rows_by_number left.parts.items left.columns.items 0 left_periods)) pairs =
    subst (λ (v : RowList). All (λ (pair : Pair). pair.left < length v.items) pairs) (sym c.self.view_is) c.requires.left in
    let rights : All (λ (pair : Pair). pair.right < length (rows_by_number right.parts.items right.columns.items 0 right_periods)) pairs =
    subst (λ (v : RowList). All (λ (pair : Pair). pair.right < length v.items) pairs) (sym c.right.view_is) c.requires.right in
    (λ i. rows_by_number (c.in_ok-append.ensures.items i) c.in_ok-both.both.items 0 (c.in_ok-pair_periods.ensures i))
    ∙ paired_rows left.parts.items right.parts.items new_left new_right left.columns.items right.columns.items c.in_ok-both.both.items left_periods right_periods pairs c.len.result
    both parts c.renumber-2.ensures.len c.self.invariant.2
    (subst (λ l. (k : ℕ) → k < length l → rows_at new_left k ≡ rows_at left.parts.items (get_or l k 0)) left_numbers c.in_ok-renumber-2.ensures.rows)
    (subst (λ l. (k : ℕ) → k < length l → rows_at new_right k ≡ rows_at right.parts.items (get_or l k 0)) right_numbers c.in_ok-renumber.ensures.rows)
    lefts rights
    ∙ (λ i. map (pair_of (c.self.view_is i).items (c.right.view_is i).items) pairs)
