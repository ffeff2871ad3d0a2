-- Lists of totals, and the sums of groups in a map.
use Rattle.std.proofs.Common.{◌≡◌, ◌∙◌, ℕ, ℤ, ◌+◌, ◌<◌, ◌≤◌, Bool, true, false, cond, List, [], ◌∷◌, ◌++◌, map, filter, take, drop, get_or, length, Some, refl, sym, ap, ap₂, subst, arith, ◌&&◌}
use Rattle.std.proofs.lemmas.List.{append-nil, map-id, take-append-drop}
use Rattle.std.proofs.lemmas.Simd.{map-map}
use Rattle.std.proofs.lemmas.List.Elements.{All-filter, filter_more, filter-append}
use Rattle.std.proofs.lemmas.List.Sums.{sum_by-append}
use Rattle.std.proofs.lemmas.Map.Made.{lookup-map_values}
use Rattle.std.specs.BTreeMap.{BTreeMap, get, is_at, keys, IsOrdered}
use Rattle.std.specs.List.{AllByRecursion, find}
use Rattle.std.specs.List.Sorted.{IsStrictlySortedBy}
use Rattle.std.specs.Map.{lookup}
use Rattle.std.specs.Option.{option_map}
use Rattle.std.specs.Ordering.{eq_by_cmp, is_lt}
use Rattle.std.specs.FinMap.Entries.{below_all, find as find_entry, is_sorted, same_entries}
use Rattle.std.specs.Prelude.{T}
use Rattle.std.proofs.lemmas.Map.Keys.{sorted_head, sorted_tail}
use Rattle.std.specs.declared.cmp.Ordering.TheVariants.{Less}
use Rattle.tq_base.specs.ValueOrder.{eq_from_same, same_from_eq, values_cmp, values_same, values_total}
use Rattle.tq_base.specs.Keys.{no_row}
use Rattle.tq_base.specs.declared.fragment.Fragment.{Fragment}
use Rattle.tq_base.specs.declared.value.Value.{Value}
use Rattle.tq_totals.specs.Sums.{row_sum, sums_over, total_pair, totals_entry, IsSumFault}
use Rattle.tq_totals.specs.Totals.{HaveEnds, HaveNumbers, group, key_of, size, sums_for, AreTotals, IsFault, TotalsAreUnique}
use Rattle.tq_totals.specs.declared.fault.TotalsFault.{TotalsFault}
use Rattle.tq_totals.specs.declared.fault.TotalsFault.TheVariants as fault
use Rattle.tq_totals.proofs.SumLemmas.{product_size}
use Rattle.tq_totals.specs.declared.group_totals.Total.{Total}
use Rattle.tq_totals.specs.declared.sums.Sum.{Sum}
use Rattle.tq_totals.proofs.TotalLemmas.{totals_are, AreEnded}

-- the sums listed for a group, as a look-up
sums_for_is : (values : List Value) (totals : List Total) → sums_for values totals ≡ lookup (is_at (values_cmp values)) (map total_pair totals)
sums_for_is values [] = refl
sums_for_is values (t ∷ totals) = by (eq_by_cmp values_cmp values t.values) (sums_for_is values totals)
  where
    by : (b : Bool) → sums_for values totals ≡ lookup (is_at (values_cmp values)) (map total_pair totals)
        → option_map (λ (u : Total). u.sums) (cond b (Some t) (find (λ (u : Total). eq_by_cmp values_cmp values u.values) totals)) ≡ cond b (Some t.sums) (lookup (is_at (values_cmp values)) (map total_pair totals))
    by true rest = refl
    by false rest = rest

values_are : (totals : List Total) → map (λ (p : List Value × List ℤ). p.0) (map total_pair totals) ≡ map (λ (t : Total). t.values) totals
values_are totals = map-map (λ (p : List Value × List ℤ). p.0) total_pair totals

-- totals with the entries of a map of sums
pub listed_totals : (by summed : List ℕ) (rows : List Fragment) (totals : List Total) (groups : BTreeMap (List Value) (List Sum)) → AreEnded rows → IsOrdered values_cmp groups
    → map total_pair totals ≡ map totals_entry groups.entries
    → ((values : List Value) → get values_cmp groups values ≡ sums_over summed (group by values rows)) → AreTotals by summed rows totals
listed_totals by summed rows totals groups ended ordered same sums = record {
  ordered = subst (IsStrictlySortedBy values_cmp) (sym keys_are) ordered;
  exact = λ values.
      sums_for_is values totals ∙ ap (lookup (is_at (values_cmp values))) same
      ∙ lookup-map_values (map (λ (sum : Sum). sum.total)) (is_at (values_cmp values)) groups.entries
      ∙ ap (option_map (map (λ (sum : Sum). sum.total))) (sums values)
      ∙ totals_are summed (group by values rows) (All-filter (λ (row : Fragment). eq_by_cmp values_cmp values (key_of by row)) (λ (row : Fragment). row.period.end < 1000000000000) rows ended);
}
  where
    keys_are : map (λ (t : Total). t.values) totals ≡ keys groups
    keys_are = sym (values_are totals) ∙ ap (map (λ (p : List Value × List ℤ). p.0)) same ∙ map-map (λ (p : List Value × List ℤ). p.0) totals_entry groups.entries

-- look-ups in entries whose keys rise, by the words of `FinMap`
below_test : {X : Type 0} (key : List Value) (es : List (List Value × X)) → AllByRecursion (λ y. values_cmp key y ≡ Less) (map (λ e. e.0) es) → below_all values_cmp key es ≡ true
below_test key [] h = refl
below_test key (e ∷ es) h = ap₂ (λ r b. is_lt r && b) h.0 (below_test key es h.1)

sorted_test : {X : Type 0} (es : List (List Value × X)) → IsStrictlySortedBy values_cmp (map (λ e. e.0) es) → is_sorted values_cmp es ≡ true
sorted_test [] h = refl
sorted_test (e ∷ es) h = ap₂ (λ a b. a && b) (below_test e.0 es (sorted_head values_cmp e.0 (map (λ f. f.0) es) h)) (sorted_test es (sorted_tail values_cmp e.0 (map (λ f. f.0) es) h))

find_is : {X : Type 0} (values : List Value) (es : List (List Value × X)) → find_entry values_cmp values es ≡ lookup (is_at (values_cmp values)) es
find_is values [] = refl
find_is values (e ∷ es) = ap (cond (eq_by_cmp values_cmp values e.0) (Some e.1)) (find_is values es)

abbrev back : List Value × List ℤ → Total
back p = record { values = p.0; sums = p.1 }

again : (totals : List Total) → map back (map total_pair totals) ≡ totals
again totals = map-map back total_pair totals ∙ map-id totals

pub unique : TotalsAreUnique
unique by summed rows a b is also =
    let in_order : (totals : List Total) → IsStrictlySortedBy values_cmp (map (λ (t : Total). t.values) totals) → T (is_sorted values_cmp (map total_pair totals)) =
    λ totals h. subst T (sym (sorted_test (map total_pair totals) (subst (IsStrictlySortedBy values_cmp) (sym (values_are totals)) h))) tt in
    let same = same_entries values_cmp values_total values_same (map total_pair a) (map total_pair b) (in_order a is.ordered) (in_order b also.ordered)
    (λ values. find_is values (map total_pair a) ∙ sym (sums_for_is values a) ∙ is.exact values ∙ sym (also.exact values) ∙ sums_for_is values b ∙ sym (find_is values (map total_pair b))) in
    sym (again a) ∙ ap (map back) same ∙ again b

-- ---- one more row

sums_over_more : (summed : List ℕ) (rows : List Fragment) (row : Fragment) → sums_over summed (rows ++ row ∷ []) ≡ Some (map (row_sum (rows ++ row ∷ [])) summed)
sums_over_more summed [] row = refl
sums_over_more summed (r ∷ rows) row = refl

module _ (by : List ℕ) (rows : List Fragment) (place : ℕ) (within : place < length rows) (row : Fragment) (row_is : row ≡ get_or rows place no_row) where
  -- the group of the row's key has one more row
  pub own_group : (key : List Value) → key ≡ key_of by row → group by key (take (place + 1) rows) ≡ group by key (take place rows) ++ row ∷ []
  own_group key key_is =
      let test : eq_by_cmp values_cmp key (key_of by (get_or rows place no_row)) ≡ true = eq_from_same key (key_of by (get_or rows place no_row)) (key_is ∙ ap (key_of by) row_is) in
      filter_more (λ (r : Fragment). eq_by_cmp values_cmp key (key_of by r)) rows place no_row within
      ∙ ap (λ b. group by key (take place rows) ++ cond b (get_or rows place no_row ∷ []) []) test
      ∙ ap (λ r. group by key (take place rows) ++ r ∷ []) (sym row_is)

  -- every other group stays
  other_group : (values : List Value) → eq_by_cmp values_cmp values (key_of by row) ≡ false → group by values (take (place + 1) rows) ≡ group by values (take place rows)
  other_group values apart =
      filter_more (λ (r : Fragment). eq_by_cmp values_cmp values (key_of by r)) rows place no_row within
      ∙ ap (λ b. group by values (take place rows) ++ cond b (get_or rows place no_row ∷ []) []) (ap (λ r. eq_by_cmp values_cmp values (key_of by r)) (sym row_is) ∙ apart)
      ∙ append-nil (group by values (take place rows))

  module _ (summed : List ℕ) (old new : BTreeMap (List Value) (List Sum)) (key : List Value) (key_is : key ≡ key_of by row) where
    pub groups_more : ((values : List Value) → get values_cmp old values ≡ sums_over summed (group by values (take place rows)))
        → get values_cmp new key ≡ Some (map (row_sum (group by key (take place rows) ++ row ∷ [])) summed)
        → ((values : List Value) → eq_by_cmp values_cmp key values ≡ false → get values_cmp new values ≡ get values_cmp old values)
        → (values : List Value) → get values_cmp new values ≡ sums_over summed (group by values (take (place + 1) rows))
    groups_more before own others values = step (eq_by_cmp values_cmp values (key_of by row)) refl (eq_by_cmp values_cmp key values) refl
      where
        step : (a : Bool) → eq_by_cmp values_cmp values (key_of by row) ≡ a → (b : Bool) → eq_by_cmp values_cmp key values ≡ b
            → get values_cmp new values ≡ sums_over summed (group by values (take (place + 1) rows))
        step true e b f =
            let same : key ≡ values = key_is ∙ sym (same_from_eq values (key_of by row) e) in
            subst (λ v. get values_cmp new v ≡ sums_over summed (group by v (take (place + 1) rows))) same
            (own ∙ sym (sums_over_more summed (group by key (take place rows)) row) ∙ ap (sums_over summed) (sym (own_group key key_is)))
        step false e true f =
            let also : eq_by_cmp values_cmp values (key_of by row) ≡ true = eq_from_same values (key_of by row) (sym (same_from_eq key values f) ∙ key_is) in
            absurd (let none : true ≡ false = sym also ∙ e in cc)
        step false e false f =
            others values f ∙ before values ∙ ap (sums_over summed) (sym (other_group values e))

-- the sizes in the first rows are at most those in all rows
size_within : (test : Fragment → Bool) (rows : List Fragment) (n column : ℕ) → size (filter test (take n rows)) column ≤ size (filter test rows) column
size_within test rows n column =
    let parts : filter test rows ≡ filter test (take n rows) ++ filter test (drop n rows) = ap (filter test) (sym (take-append-drop n rows)) ∙ filter-append test (take n rows) (drop n rows) in
    let sizes = ap (λ l. size l column) parts ∙ sum_by-append (product_size column) (filter test (take n rows)) (filter test (drop n rows)) in
    omega (arith, sizes)

-- a fault of a group is one of the rows
pub fault_is : (by summed : List ℕ) (rows : List Fragment) → HaveEnds rows → HaveNumbers summed rows → (values : List Value) (n : ℕ) (part : List Fragment)
    (fault : TotalsFault) → group by values (take n rows) ≡ part → IsSumFault summed part fault → IsFault by summed rows fault
fault_is by summed rows ended numbers values n part (fault.OpenEnd row) is h = absurd h
fault_is by summed rows ended numbers values n part (fault.Text column row) is h = absurd h
fault_is by summed rows ended numbers values n part (fault.Overflow column) is h = (
  ended,
  numbers,
  h.0,
  (
    values,
    (let within = size_within (λ (row : Fragment). eq_by_cmp values_cmp values (key_of by row)) rows n column in
        let same = ap (λ l. size l column) is in omega (arith, within, same, h.1)),
  ),
)
fault_is by summed rows ended numbers values n part fault.OutOfMemory is h = tt
