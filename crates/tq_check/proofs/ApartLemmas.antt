-- Overlapping and meeting rows of two lists that have no equal rows in common.
use Rattle.std.proofs.Common.{◌≡◌, ◌≢◌, ◌∙◌, ◌+◌, Bool, true, false, not, ◌&&◌, ◌||◌, List, [], ◌++◌, ap, refl, sym, arith, get_or}
use Rattle.std.specs.Prelude.{All, ◌==◌, nat_lt}
use Rattle.std.specs.List.{list_any}
use Rattle.std.specs.Ordering.{eq_by_cmp}
use Rattle.std.proofs.lemmas.List.Elements.{All-nil}
use Rattle.std.proofs.lemmas.List.Folds.{list_any-append, list_any_none}
use Rattle.tq_base.specs.declared.fragment.Fragment.{Fragment}
use Rattle.tq_base.specs.declared.value.Value.{Value}
use Rattle.tq_base.specs.ValueOrder.{values_cmp, same_from_eq}
use Rattle.tq_check.specs.EqualRows.{count_rows, covers, ends_at, is_meeting, is_overlapping, meeting, overlapping, starts_at}
use Rattle.tq_check.proofs.Splitting.{all_behind, behind, count_append, count_as}

-- no row has these values
abbrev pub HaveOthers : List Value → List Fragment → Type 0
HaveOthers values rows = All (λ (row : Fragment). row.values ≢ values) rows

-- no row of one list equals a row of the other
pub record AreApart (xs ys : List Fragment) : Type 0 where
  pub first : All (λ (x : Fragment). HaveOthers x.values ys) xs
  pub second : All (λ (y : Fragment). HaveOthers y.values xs) ys

or_false : (b : Bool) → (b || false) ≡ b
or_false true = refl
or_false false = refl

others : (u v : List Value) → v ≢ u → eq_by_cmp values_cmp u v ≡ false
others u v differ = by (eq_by_cmp values_cmp u v) refl
  where
    by : (b : Bool) → eq_by_cmp values_cmp u v ≡ b → eq_by_cmp values_cmp u v ≡ false
    by true is = absurd (differ (sym (same_from_eq u v is)))
    by false is = is

-- no row with other values passes a test for these values
none_passes : (values : List Value) (more : Fragment → Bool) (rows : List Fragment) → HaveOthers values rows → list_any (λ (row : Fragment). eq_by_cmp values_cmp values row.values && more row) rows ≡ false
none_passes values more rows apart =
    list_any_none (λ (row : Fragment). eq_by_cmp values_cmp values row.values && more row) rows
    (λ k d less. ap (λ b. b && more (get_or rows k d)) (others values (get_or rows k d).values (apart k d less)))

-- next to rows with other values
beside : (p : Fragment → Bool) (xs ys : List Fragment) → list_any p ys ≡ false → list_any p (xs ++ ys) ≡ list_any p xs
beside p xs ys none = list_any-append p xs ys ∙ ap (λ b. list_any p xs || b) none ∙ or_false (list_any p xs)

behind_others : (p : Fragment → Bool) (xs ys : List Fragment) → list_any p xs ≡ false → list_any p (xs ++ ys) ≡ list_any p ys
behind_others p xs ys none = list_any-append p xs ys ∙ ap (λ b. b || list_any p ys) none

module _ (xs ys : List Fragment) (apart : AreApart xs ys) where
  covered_first : (row : Fragment) → HaveOthers row.values ys → list_any (covers row.values row.period.start) (xs ++ ys) ≡ list_any (covers row.values row.period.start) xs
  covered_first row other = beside (covers row.values row.period.start) xs ys (none_passes row.values (λ z. nat_lt z.period.start row.period.start && nat_lt row.period.start z.period.end) ys other)

  ended_first : (row : Fragment) → HaveOthers row.values ys → list_any (ends_at row.values row.period.start) (xs ++ ys) ≡ list_any (ends_at row.values row.period.start) xs
  ended_first row other = beside (ends_at row.values row.period.start) xs ys (none_passes row.values (λ z. z.period.end == row.period.start) ys other)

  covered_second : (row : Fragment) → HaveOthers row.values xs → list_any (covers row.values row.period.start) (xs ++ ys) ≡ list_any (covers row.values row.period.start) ys
  covered_second row other = behind_others (covers row.values row.period.start) xs ys (none_passes row.values (λ z. nat_lt z.period.start row.period.start && nat_lt row.period.start z.period.end) xs other)

  ended_second : (row : Fragment) → HaveOthers row.values xs → list_any (ends_at row.values row.period.start) (xs ++ ys) ≡ list_any (ends_at row.values row.period.start) ys
  ended_second row other = behind_others (ends_at row.values row.period.start) xs ys (none_passes row.values (λ z. z.period.end == row.period.start) xs other)

  started_second : (row : Fragment) (above : List Fragment) → HaveOthers row.values xs → list_any (starts_at row.values row.period.start) (above ++ behind xs []) ≡ list_any (starts_at row.values row.period.start) above
  started_second row above other =
      let Other : Fragment → Type 0 = λ (z : Fragment). z.values ≢ row.values in
      beside (starts_at row.values row.period.start) above (behind xs [])
      (none_passes row.values (λ z. z.period.start == row.period.start) (behind xs []) (all_behind Other xs [] other (All-nil Other)))

  pub overlapping_apart : overlapping (xs ++ ys) ≡ overlapping xs + overlapping ys
  overlapping_apart =
      let all = is_overlapping (xs ++ ys) in
      let first : count_rows all [] xs ≡ overlapping xs = count_as all (is_overlapping xs) (λ l. l) (λ x l. refl) [] xs
      (λ k d less l i. covered_first (get_or xs k d) (apart.first k d less) i || list_any (starts_at (get_or xs k d).values (get_or xs k d).period.start) l) in
      let second : count_rows all (behind xs []) ys ≡ overlapping ys = count_as all (is_overlapping ys) (λ l. l ++ behind xs []) (λ x l. refl) [] ys
      (λ k d less l i. covered_second (get_or ys k d) (apart.second k d less) i || started_second (get_or ys k d) l (apart.second k d less) i) in
      omega (arith, count_append all [] xs ys, first, second)

  pub meeting_apart : meeting (xs ++ ys) ≡ meeting xs + meeting ys
  meeting_apart =
      let all = is_meeting (xs ++ ys) in
      let first : count_rows all [] xs ≡ meeting xs = count_as all (is_meeting xs) (λ l. l) (λ x l. refl) [] xs
      (λ k d less l i. not (covered_first (get_or xs k d) (apart.first k d less) i || list_any (starts_at (get_or xs k d).values (get_or xs k d).period.start) l) && ended_first (get_or xs k d) (apart.first k d less) i) in
      let second : count_rows all (behind xs []) ys ≡ meeting ys = count_as all (is_meeting ys) (λ l. l ++ behind xs []) (λ x l. refl) [] ys
      (λ k d less l i. not (covered_second (get_or ys k d) (apart.second k d less) i || started_second (get_or ys k d) l (apart.second k d less) i) && ended_second (get_or ys k d) (apart.second k d less) i) in
      omega (arith, count_append all [] xs ys, first, second)
