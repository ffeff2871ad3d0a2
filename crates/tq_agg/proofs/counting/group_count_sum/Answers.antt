use Rattle.std.proofs.Common.{◌≡◌, ◌≢◌, ℕ, ◌+◌, ◌-◌, ◌<◌, ◌≤◌, pos, nat_eq, Bool, true, false, ◌&&◌, cond, List, [], ◌∷◌, length, take, drop, map, get_or, refl, sym, subst, ap, ◌∙◌, arith, length-drop, length-take}
use Rattle.std.specs.Prelude.{All, IfSome, IsPermutation, Option, Some}
use Rattle.std.specs.List.Sorted.{IsNonDecreasingBy}
use Rattle.std.proofs.lemmas.Bool.Decides.{nat_tests}
use Rattle.std.proofs.lemmas.List.{length-map, take_all, take_rest}
use Rattle.std.proofs.lemmas.List.Elements.{All-drop, All-take}
use Rattle.tq_base.specs.declared.value.Value.{Value}
use Rattle.tq_base.specs.declared.period.Period.{Period}
use Rattle.tq_base.specs.declared.fragment.Fragment.{Fragment}
use Rattle.tq_base.specs.declared.sort_input.SortKey.{SortKey}
use Rattle.tq_base.specs.Periods.{holds}
use Rattle.tq_base.specs.Fragments.{at, copies, occurrences}
use Rattle.tq_base.specs.SortKeyLaws.{run_starts_rest}
use Rattle.tq_base.specs.RowLists.{RowList}
use Rattle.tq_base.specs.Keys.{key_row, key_values, overlapping, HaveRunStarts, IsSortKey}
use Rattle.tq_condition.specs.Ordinary.{HasInside}
use Rattle.tq_agg.specs.declared.summands.Summand.{Summand}
use Rattle.tq_agg.specs.declared.summands.Summand.TheVariants.{Column, One}
use Rattle.tq_agg.specs.Grouping.{grouped_rows, AreSummable}
use Rattle.tq_agg.specs.GroupKeys.{key_of, AreOfKey}
use Rattle.tq_agg.specs.Totals.{added, shown_copies, totals_held, HaveSmall}
use Rattle.tq_agg.proofs.Adding.{added-IsPermutation}
use Rattle.tq_agg.proofs.Gathering.{gathered_add}
use Rattle.tq_agg.proofs.Grouping.{adds_group, keyed_totals, of_key, Grouping, IsRun}
use Rattle.tq_agg.proofs.GroupRows.{grouped_occurrences}
use Rattle.tq_agg.proofs.Instants.{inside_from_counts, outside_from_counts}
use Rattle.tq_agg.proofs.Maps.{map_same}
use Rattle.tq_agg.proofs.Runs.{first_row, groups_state, is_run, rows_rise, rows_same, run_rows, run_starts}
use Rattle.tq_agg.proofs.Summable.{have_small, sorted_fit}
use Rattle.tq_agg.proofs.counting.group_count_sum.Goals as goal

-- at the end all rows are counted
all_counted : (window : Period) (keys sums : List ℕ) (summands : List Summand) (rows sorted : List Fragment) (start : ℕ) (out : List Fragment) → summands ≡ One ∷ map Column sums
    → IsPermutation (overlapping window rows) sorted → length sorted ≤ start → Grouping keys summands window sorted start out
    → (t : ℕ) (v : List Value) → copies out v t ≡ cond (holds window t) (occurrences (grouped_rows keys sums (at rows t)) v) 0
all_counted window keys sums summands rows sorted start out are_summands same past w t v =
    w.counted t v ∙ split (holds window t) refl
  where
    split : (b : Bool) → holds window t ≡ b
        → cond (holds window t) (shown_copies (take (length keys) v) (keyed_totals keys (take (length keys) v) window t summands (take start sorted)) v) 0
        ≡ cond b (occurrences (grouped_rows keys sums (at rows t)) v) 0
    split true inside =
        ap (λ b. cond b (shown_copies (take (length keys) v) (keyed_totals keys (take (length keys) v) window t summands (take start sorted)) v) 0) inside
        ∙ ap (λ l. shown_copies (take (length keys) v) (keyed_totals keys (take (length keys) v) window t summands l) v) (take_all start sorted past)
        ∙ ap (λ l. shown_copies (take (length keys) v) l v)
        (map_same (λ s. added (λ (r : Fragment). cond (holds r.period t && holds window t) (of_key keys (take (length keys) v) s r.values) (pos 0)) sorted)
        (λ s. added (of_key keys (take (length keys) v) s) (at rows t)) summands
        (λ k d lt. added-IsPermutation (λ (r : Fragment). cond (holds r.period t && holds window t) (of_key keys (take (length keys) v) (get_or summands k d) r.values) (pos 0)) (overlapping window rows) sorted same
        ∙ gathered_add window t inside (of_key keys (take (length keys) v) (get_or summands k d)) rows))
        ∙ ap (λ l. shown_copies (take (length keys) v) (map (λ s. added (of_key keys (take (length keys) v) s) (at rows t)) l) v) are_summands
        ∙ sym (grouped_occurrences keys sums (at rows t) v)
    split false outside =
        ap (λ b. cond b (shown_copies (take (length keys) v) (keyed_totals keys (take (length keys) v) window t summands (take start sorted)) v) 0) outside

pub run_len-requires : goal.run_len-requires
run_len-requires c =
    let sorted = c.sort.new.keys.items in
    let Is : SortKey → Type 0 = λ k. IsSortKey (groups_state c.args.rows.now.items c.args.keys.now) k in
    let s = groups_state c.args.rows.now.items c.args.keys.now in
    record {
      keys = rw c.deref-in-groups.ensures.value (All-take Is (length sorted - c.groups.start) (drop c.groups.start sorted) (All-drop Is c.groups.start sorted c.in_ok-sort.ensures.keys));
      run_starts = rw c.deref-in-groups.ensures.value (subst (HaveRunStarts s) (sym (take_rest sorted c.groups.start)) (run_starts_rest s sorted c.groups.start c.in_ok-sort.ensures.run_starts));
    }

-- the run at the front of the keys that are left
pub run : (c : goal.In_ok-add_group)
    → IsRun c.args.keys.now (map (key_row (groups_state c.args.rows.now.items c.args.keys.now)) c.sort.new.keys.items) c.groups.start c.run_len.result (first_row c.args.rows.now.items c.args.keys.now c.sort.new.keys.items c.groups.start c.run_len.result)
run c =
    let s = groups_state c.args.rows.now.items c.args.keys.now in
    let sorted = c.sort.new.keys.items in
    let part : take (length c.deref-in-groups.result.now - c.groups.start) (drop c.groups.start c.deref-in-groups.result.now) ≡ drop c.groups.start sorted =
    take_rest c.deref-in-groups.result.now c.groups.start ∙ ap (drop c.groups.start) c.deref-in-groups.ensures.value in
    is_run c.args.rows.now.items c.args.keys.now sorted c.groups.start c.run_len.result
    (omega (arith, c.groups-test.true, c.len.ensures, c.sort.new.keys.ok.0))
    (subst (λ (l : List SortKey). 0 < length l → 0 < c.run_len.result) part c.run_len.ensures.some)
    (subst (λ (l : List SortKey). c.run_len.result ≤ length l) part c.run_len.ensures.within)
    (subst (λ (l : List SortKey). (d : SortKey) → All (λ k. key_values s k ≡ key_values s (get_or l 0 d)) (take c.run_len.result l)) part c.run_len.ensures.alike)
    (subst (λ (l : List SortKey). (d : SortKey) → c.run_len.result < length l → key_values s (get_or l c.run_len.result d) ≢ key_values s (get_or l 0 d)) part c.run_len.ensures.ends)

pub groups-smaller : goal.groups-smaller
groups-smaller c =
    let r = run c in
    let more : 0 < c.run_len.result = r.more in
    omega (arith, more, c.groups-test.true, c.len.ensures, c.sort.new.keys.ok.0)

pub add_group-requires-clause-keys : goal.add_group-requires-clause-keys
add_group-requires-clause-keys c =
    let sorted = c.sort.new.keys.items in
    let start = c.groups.start in
    let len = c.groups.start + c.run_len.result - c.groups.start in
    let Is : SortKey → Type 0 = λ k. IsSortKey (groups_state c.args.rows.now.items c.args.keys.now) k in
    subst (λ (l : List SortKey). All Is (take len (drop start l))) (sym c.deref-in-groups-2.ensures.value) (All-take Is len (drop start sorted) (All-drop Is start sorted c.in_ok-sort.ensures.keys))

pub add_group-requires-clause-starts : goal.add_group-requires-clause-starts
add_group-requires-clause-starts c =
    let s = groups_state c.args.rows.now.items c.args.keys.now in
    let sorted = c.sort.new.keys.items in
    let start = c.groups.start in
    let len = c.run_len.result in
    let part : take (length c.deref-in-groups.result.now - start) (drop start c.deref-in-groups.result.now) ≡ drop start sorted =
    take_rest c.deref-in-groups.result.now start ∙ ap (drop start) c.deref-in-groups.ensures.value in
    let rise = run_starts c.args.rows.now.items c.args.keys.now sorted start len c.in_ok-sort.ensures.keys c.in_ok-sort.ensures.order
    (subst (λ (l : List SortKey). (d : SortKey) → All (λ k. key_values s k ≡ key_values s (get_or l 0 d)) (take len l)) part c.run_len.ensures.alike) in
    subst (λ (l : List SortKey). IsNonDecreasingBy (λ (k : SortKey). k.start) (take (start + len - start) (drop start l))) (sym c.deref-in-groups-2.ensures.value)
    (subst (λ n. IsNonDecreasingBy (λ (k : SortKey). k.start) (take n (drop start sorted))) (let same : len ≡ start + len - start = omega arith in same) rise)

pub add_group-requires-clause-short : goal.add_group-requires-clause-short
add_group-requires-clause-short c =
    let start = c.groups.start in
    let len = c.groups.start + c.run_len.result - c.groups.start in
    omega (arith, length-take len (drop start c.deref-in-groups-2.result.now), length-drop start c.deref-in-groups-2.result.now, ap length c.deref-in-groups-2.ensures.value, c.sort.new.keys.small, c.sort.new.keys.ok.0)

pub add_group-requires-clause-small : goal.add_group-requires-clause-small
add_group-requires-clause-small c =
    let rows = c.args.rows.now.items in
    let columns = c.args.keys.now in
    let sums = c.args.sums.now in
    let sorted = c.sort.new.keys.items in
    let start = c.groups.start in
    let len = c.groups.start + c.run_len.result - c.groups.start in
    let same = rows_same rows columns c.args.window.now c.new-sorted.result.items c.add_keys.new.keys.items sorted c.new-sorted.ensures.items c.in_ok-add_keys.ensures.rows c.in_ok-sort.ensures.rows in
    let row : SortKey → Fragment = λ k. key_row (groups_state rows columns) k in
    let fit = sorted_fit c.args.window.now sums rows (map row sorted) c.requires.summable same in
    let Fit : Fragment → Type 0 = λ r. AreSummable sums r.values in
    let part = All-take Fit len (drop start (map row sorted)) (All-drop Fit start (map row sorted) fit) in
    let Small : List Summand → List Fragment → Type 0 = λ summands l. All (λ s. HaveSmall s l) summands in
    let small = subst (Small (One ∷ map Column sums)) (sym (run_rows rows columns sorted start len)) (have_small sums (take len (drop start (map row sorted))) part) in
    subst (λ (l : List SortKey). Small c.deref-in-groups-3.result.now (map row (take len (drop start l)))) (sym c.deref-in-groups-2.ensures.value)
    (subst (λ (summands : List Summand). Small summands (map row (take len (drop start sorted)))) (sym (c.deref-in-groups-3.ensures.value ∙ c.in_ok-summands.ensures)) small)

pub groups-preserved : goal.groups-preserved
groups-preserved c =
    let rows = c.args.rows.now.items in
    let keys = c.args.keys.now in
    let sorted = c.sort.new.keys.items in
    let start = c.groups.start in
    let len = c.run_len.result in
    let x = first_row rows keys sorted start len in
    let row : SortKey → Fragment = λ k. key_row (groups_state rows keys) k in
    let r = run c in
    let group : map row (take (start + len - start) (drop start c.deref-in-groups-2.result.now)) ≡ take len (drop start (map row sorted)) =
    ap (λ n. map row (take n (drop start c.deref-in-groups-2.result.now))) (let same : start + len - start ≡ len = omega arith in same)
    ∙ ap (λ l. map row (take len (drop start l))) c.deref-in-groups-2.ensures.value ∙ run_rows rows keys sorted start len in
    let Adds : List Summand → List Fragment → Type 0 = λ summands l. (k : List Value) → AreOfKey keys k l → (t : ℕ) (v : List Value) → copies c.add_group.new.out.items v t
    ≡ copies c.groups.out.items v t + cond (holds c.args.window.now t) (shown_copies k (totals_held summands c.args.window.now l t) v) 0 in
    let adds = subst (λ (summands : List Summand). Adds summands (take len (drop start (map row sorted)))) c.deref-in-groups-3.ensures.value (subst (λ (l : List Fragment). Adds c.deref-in-groups-3.result.now l) group c.in_ok-add_group.ensures.rows) in
    record {
      empty = c.in_ok-add_group.ensures.emptied;
      width = c.in_ok-add_group.ensures.width ∙ c.groups.invariant.width;
      grouping =
          adds_group keys c.in_ok-summands.summands.items c.args.window.now (map row sorted) start len c.groups.out.items c.add_group.new.out.items x
          (rows_rise rows keys sorted c.in_ok-sort.ensures.rises) r (adds (key_of keys x) r.alike) c.groups.invariant.grouping;
    }

pub returns-clause-inside : goal.returns-clause-inside
returns-clause-inside c =
    let rows = c.args.rows.now.items in
    let sorted = c.sort.new.keys.items in
    inside_from_counts c.args.window.now c.groups.out.items (λ t v. occurrences (grouped_rows c.args.keys.now c.args.sums.now (at rows t)) v)
    (all_counted c.args.window.now c.args.keys.now c.args.sums.now c.in_ok-summands.summands.items rows (map (key_row (groups_state rows c.args.keys.now)) sorted) c.groups.start c.groups.out.items c.in_ok-summands.ensures
    (rows_same rows c.args.keys.now c.args.window.now c.new-sorted.result.items c.add_keys.new.keys.items sorted c.new-sorted.ensures.items c.in_ok-add_keys.ensures.rows c.in_ok-sort.ensures.rows)
    (omega (arith, c.groups-test.false, c.len-in-groups.ensures, c.sort.new.keys.ok.0, length-map sorted (key_row (groups_state rows c.args.keys.now)))) c.groups.invariant.grouping)

pub returns-clause-outside : goal.returns-clause-outside
returns-clause-outside c =
    let rows = c.args.rows.now.items in
    let sorted = c.sort.new.keys.items in
    outside_from_counts c.args.window.now c.groups.out.items (λ t v. occurrences (grouped_rows c.args.keys.now c.args.sums.now (at rows t)) v)
    (all_counted c.args.window.now c.args.keys.now c.args.sums.now c.in_ok-summands.summands.items rows (map (key_row (groups_state rows c.args.keys.now)) sorted) c.groups.start c.groups.out.items c.in_ok-summands.ensures
    (rows_same rows c.args.keys.now c.args.window.now c.new-sorted.result.items c.add_keys.new.keys.items sorted c.new-sorted.ensures.items c.in_ok-add_keys.ensures.rows c.in_ok-sort.ensures.rows)
    (omega (arith, c.groups-test.false, c.len-in-groups.ensures, c.sort.new.keys.ok.0, length-map sorted (key_row (groups_state rows c.args.keys.now)))) c.groups.invariant.grouping)

-- a list of one element
only_one : (l : List ℕ) → length l ≡ 1 → l ≡ get_or l 0 0 ∷ []
only_one [] long = absurd (omega (arith, long))
only_one (x ∷ []) long = refl
only_one (x ∷ y ∷ l) long = absurd (omega (arith, long))

-- a list of none
no_element : (l : List ℕ) → true ≡ nat_eq (length l) 0 → l ≡ []
no_element [] is = refl
no_element (x ∷ l) is = let long : length (x ∷ l) ≡ 0 = grind (arith, nat_tests) in absurd (omega (arith, long))

-- the result for one key and no sums
of_one : (window : Period) (rows : List Fragment) (keys sums : List ℕ) (found : Option RowList) (out : RowList) → found ≡ Some out → length keys ≡ 1 → true ≡ nat_eq (length sums) 0
    → IfSome found (λ (out : RowList). HasInside window out.items (λ t v. occurrences (grouped_rows (get_or keys 0 0 ∷ []) [] (at rows t)) v))
    → HasInside window out.items (λ t v. occurrences (grouped_rows keys sums (at rows t)) v)
of_one window rows keys sums found out is one none inside =
    subst (λ k. HasInside window out.items (λ t v. occurrences (grouped_rows k sums (at rows t)) v)) (sym (only_one keys one))
    (subst (λ k. HasInside window out.items (λ t v. occurrences (grouped_rows (get_or keys 0 0 ∷ []) k (at rows t)) v)) (sym (no_element sums none))
    (subst (λ found. IfSome found (λ (out : RowList). HasInside window out.items (λ t v. occurrences (grouped_rows (get_or keys 0 0 ∷ []) [] (at rows t)) v))) is inside))

pub returns-in-Some-clause-inside : goal.returns-in-Some-clause-inside
returns-in-Some-clause-inside c =
    of_one c.args.window.now c.args.rows.now.items c.args.keys.now c.args.sums.now c.in_ok-out.field-0 c.in-Some.out c.in-Some.is c.if-keys-eq1.true (c.if-is_empty.ensures) c.in_ok-out.ensures.inside

-- the result for one key and one sum
of_both : (window : Period) (rows : List Fragment) (keys sums : List ℕ) (found : Option RowList) (out : RowList) → found ≡ Some out → length keys ≡ 1 → length sums ≡ 1
    → IfSome found (λ (out : RowList). HasInside window out.items (λ t v. occurrences (grouped_rows (get_or keys 0 0 ∷ []) (get_or sums 0 0 ∷ []) (at rows t)) v))
    → HasInside window out.items (λ t v. occurrences (grouped_rows keys sums (at rows t)) v)
of_both window rows keys sums found out is one one_sum inside =
    subst (λ k. HasInside window out.items (λ t v. occurrences (grouped_rows k sums (at rows t)) v)) (sym (only_one keys one))
    (subst (λ k. HasInside window out.items (λ t v. occurrences (grouped_rows (get_or keys 0 0 ∷ []) k (at rows t)) v)) (sym (only_one sums one_sum))
    (subst (λ found. IfSome found (λ (out : RowList). HasInside window out.items (λ t v. occurrences (grouped_rows (get_or keys 0 0 ∷ []) (get_or sums 0 0 ∷ []) (at rows t)) v))) is inside))

pub returns-in-Some-2-clause-inside : goal.returns-in-Some-2-clause-inside
returns-in-Some-2-clause-inside c =
    of_both c.args.window.now c.args.rows.now.items c.args.keys.now c.args.sums.now c.in_ok-out-2.field-0 c.in-Some-2.out c.in-Some-2.is c.if-keys-eq1-2.true c.if-sums-eq1.true c.in_ok-out-2.ensures.inside
