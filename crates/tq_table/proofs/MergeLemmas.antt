-- Several lists of rows, one after the other, and their keys.
use Rattle.std.proofs.Common.{◌≡◌, ℕ, ◌+◌, ◌-◌, ◌<◌, min, false, List, [], ◌∷◌, ◌++◌, get_or, map, take, drop, length, refl, sym, ap, ◌∙◌, subst, arith, append-nil, append_assoc}
use Rattle.std.specs.Prelude.{All, IsPermutation, IsSorted}
use Rattle.std.specs.Global.{Vec}
use Rattle.std.specs.List.{range_with_len, sum}
use Rattle.std.specs.Ordering.{is_lt, nat_cmp, ordering_then}
use Rattle.std.specs.Vec.Iter.{into_iter_items, into_iter_len, into_iter_steps}
use Rattle.std.specs.declared.cmp.Ordering.{Ordering}
use Rattle.std.specs.declared.cmp.Ordering.TheVariants.{Less, Equal, Greater}
use Rattle.std.specs.declared.vec.IntoIter.{IntoIter}
use Rattle.std.proofs.Math.Seq.{drop-append_seam, take-add, take-append_seam}
use Rattle.std.proofs.lemmas.Grind.{flat_map-append}
use Rattle.std.proofs.lemmas.Iterator.Adapters.{YieldsList-from_vec}
use Rattle.std.proofs.lemmas.List.{drop-drop, drop-map, drop_min, drop_more, get_or-map, length-drop, length-map, map-id, take-map, take_all, take_min}
use Rattle.std.proofs.lemmas.List.Concat.{flat_map-cons, length-flat_map}
use Rattle.std.proofs.lemmas.List.Elements.{All-cons, All-drop, All-head, All-map, All-nil, All-tail, All-take}
use Rattle.std.proofs.lemmas.List.Sorted.{All-permutation, IsPermutation-map, IsPermutation-refl}
use Rattle.std.proofs.lemmas.List.Sums.{sum-map, sum_by-cons}
use Rattle.itertools.specs.KMerge.{joined_lists, SourcesGive}
use Rattle.tq_base.specs.declared.fragment.Fragment.{Fragment}
use Rattle.tq_base.specs.declared.sort_input.SortKey.{SortKey}
use Rattle.tq_base.specs.Fragments.{fragment_cmp}
use Rattle.tq_base.specs.declared.sort_input.RunStart.TheVariants.{Unknown}
use Rattle.tq_base.specs.declared.sort_input.Side.TheVariants as side
use Rattle.tq_base.specs.SortKeyLaws.{as_values, rises}
use Rattle.tq_base.specs.Keys.{held, held_on, key_cmp, key_row, key_values, value_key_cmp, HaveRunStarts, IsFresh, IsSortKey, SortInputState}
use Rattle.tq_base.specs.RowLists.{RowList}
use Rattle.tq_base.specs.ValueOrder.{values_cmp}
use Rattle.tq_table.specs.Merging.{all_rows, cut_by, AreInOrder, AreOfWidth}
use Rattle.tq_table.specs.Groups.{AreByValues}
use Rattle.tq_table.proofs.KeyGroups.{all_whole, left_moved, rows_kept, rows_moved, AreWhole}

-- rows that have both widths have one width, if there are rows
pub one_width : (rows : List Fragment) (a b : ℕ) → All (λ (row : Fragment). length row.values ≡ a) rows → All (λ (row : Fragment). length row.values ≡ b) rows → 0 < length rows → a ≡ b
one_width [] a b of_a of_b some = absurd (omega (arith, some))
one_width (row ∷ rows) a b of_a of_b some =
    sym (All-head (λ (r : Fragment). length r.values ≡ a) row rows of_a) ∙ All-head (λ (r : Fragment). length r.values ≡ b) row rows of_b

-- what holds of all holds of the one in the middle
pub middle_holds : {A : Type 0} (P : A → Type 0) (front : List A) (x : A) (rest : List A) → All P (front ++ x ∷ rest) → P x
middle_holds P [] x rest all = All-head P x rest all
middle_holds P (y ∷ front) x rest all = middle_holds P front x rest (All-tail P y (front ++ x ∷ rest) all)

-- a width that is the same
pub of_same_width : (rows : RowList) (width other : ℕ) → other ≡ width → AreOfWidth width rows → AreOfWidth other rows
of_same_width rows width other same of = subst (λ w. AreOfWidth w rows) (sym same) of

-- the rows of one more list
pub all_and_next : (lists : List RowList) (next : RowList) → all_rows (lists ++ next ∷ []) ≡ all_rows lists ++ next.items
all_and_next lists next =
    flat_map-append (λ (rows : RowList). rows.items) lists (next ∷ [])
    ∙ ap (λ l. all_rows lists ++ l) (flat_map-cons (λ (rows : RowList). rows.items) next [] ∙ append-nil next.items)

-- ---- lists cut by lengths

abbrev pub len_of : RowList → ℕ
len_of rows = length rows.items

-- cutting a mapped list gives mapped lists
pub cut-map : {A B : Type 0} (f : A → B) (lens : List ℕ) (xs : List A) → cut_by lens (map f xs) ≡ map (map f) (cut_by lens xs)
cut-map f [] xs = refl
cut-map f (len ∷ lens) xs =
    ap (λ l. l ∷ cut_by lens (drop len (map f xs))) (take-map f len xs)
    ∙ ap (λ l. map f (take len xs) ∷ l) (ap (cut_by lens) (drop-map f len xs) ∙ cut-map f lens (drop len xs))

-- one more list is cut off
pub cut_next : {A : Type 0} (made whole : List (List A)) (lens : List ℕ) (xs list : List A) (i start n : ℕ) → i < length lens → n ≡ min (get_or lens i 0) (length xs - start) → list ≡ take (start + n - start) (drop start xs)
    → made ++ cut_by (drop i lens) (drop start xs) ≡ whole → (made ++ list ∷ []) ++ cut_by (drop (i + 1) lens) (drop (start + n) xs) ≡ whole
cut_next made whole lens xs list i start n less n_is list_is cut =
    let rest = drop start xs in
    let len = get_or lens i 0 in
    let short : n ≡ min len (length rest) = n_is ∙ ap (min len) (sym (length-drop start xs)) in
    let many : start + n - start ≡ n = omega arith in
    let first : list ≡ take len rest = list_is ∙ ap (λ m. take m rest) (many ∙ short) ∙ take_min len rest in
    let others : drop (start + n) xs ≡ drop len rest = sym (drop-drop n start xs) ∙ ap (λ m. drop m rest) short ∙ drop_min len rest in
    append_assoc made (list ∷ []) (cut_by (drop (i + 1) lens) (drop (start + n) xs))
    ∙ ap (λ l. made ++ l) (ap (λ l. l ∷ cut_by (drop (i + 1) lens) (drop (start + n) xs)) first
    ∙ ap (λ l. take len rest ∷ cut_by (drop (i + 1) lens) l) others
    ∙ ap (λ l. cut_by l rest) (sym (drop_more lens i 0 less)))
    ∙ cut

sum-cons : (n : ℕ) (ns : List ℕ) → sum (n ∷ ns) ≡ n + sum ns
sum-cons n ns = ap sum (sym (map-id (n ∷ ns))) ∙ sum-map (λ m. m) (n ∷ ns) ∙ sum_by-cons (λ m. m) n ns ∙ ap (λ m. n + m) (sym (sum-map (λ m. m) ns) ∙ ap sum (map-id ns))

-- the cut lists, concatenated
pub cut-joined : {A : Type 0} (lens : List ℕ) (xs : List A) → joined_lists (cut_by lens xs) ≡ take (sum lens) xs
cut-joined [] xs = refl
cut-joined (len ∷ lens) xs =
    flat_map-cons (λ l. l) (take len xs) (cut_by lens (drop len xs))
    ∙ ap (λ l. take len xs ++ l) (cut-joined lens (drop len xs))
    ∙ sym (ap (λ n. take n xs) (sum-cons len lens) ∙ take-add len (sum lens) xs)

-- all rows, cut by the lengths of the lists, are the lists
pub cut_lists : (lists : List RowList) → cut_by (map len_of lists) (all_rows lists) ≡ map (λ (rows : RowList). rows.items) lists
cut_lists [] = refl
cut_lists (rows ∷ lists) =
    ap (cut_by (length rows.items ∷ map len_of lists)) (flat_map-cons (λ (r : RowList). r.items) rows lists)
    ∙ ap (λ l. l ∷ cut_by (map len_of lists) (drop (length rows.items) (rows.items ++ all_rows lists))) (take-append_seam rows.items (all_rows lists))
    ∙ ap (λ l. rows.items ∷ l) (ap (cut_by (map len_of lists)) (drop-append_seam rows.items (all_rows lists)) ∙ cut_lists lists)

-- the sum of the lengths is the number of all rows
pub lens_sum : (lists : List RowList) → sum (map len_of lists) ≡ length (all_rows lists)
lens_sum lists = sum-map len_of lists ∙ sym (length-flat_map (λ (rows : RowList). rows.items) lists)

-- the cut lists are in order if the lists are
pub cut_in_order : (lists : List RowList) → All AreInOrder lists → All (IsSorted fragment_cmp) (cut_by (map len_of lists) (all_rows lists))
cut_in_order lists are = subst (All (IsSorted fragment_cmp)) (sym (cut_lists lists)) (All-map (IsSorted fragment_cmp) (λ (rows : RowList). rows.items) lists are)

-- ---- keys of rows in order are in order

not_less_then : (r e : Ordering) → is_lt (ordering_then r e) ≡ false → is_lt r ≡ false
not_less_then Less e not_less = not_less
not_less_then Equal e not_less = refl
not_less_then Greater e not_less = refl

module _ (s : SortInputState) where
  not_below : (a b : SortKey) → IsSortKey s a → IsSortKey s b → key_values s a ≡ (key_row s a).values → key_values s b ≡ (key_row s b).values
      → is_lt (fragment_cmp (key_row s b) (key_row s a)) ≡ false → is_lt (key_cmp s b a) ≡ false
  not_below a b a_is b_is a_whole b_whole not_less =
      let values : value_key_cmp s b a ≡ values_cmp (key_row s b).values (key_row s a).values =
      as_values s b a b_is a_is ∙ ap (λ v. values_cmp v (key_values s a)) b_whole ∙ ap (λ v. values_cmp (key_row s b).values v) a_whole in
      let same : key_cmp s b a ≡ ordering_then (values_cmp (key_row s b).values (key_row s a).values) (nat_cmp (key_row s b).period.start (key_row s a).period.start) =
      ap (λ r. ordering_then r (nat_cmp b.start a.start)) values
      ∙ ap (λ n. ordering_then (values_cmp (key_row s b).values (key_row s a).values) (nat_cmp n a.start)) b_is.start
      ∙ ap (λ n. ordering_then (values_cmp (key_row s b).values (key_row s a).values) (nat_cmp (key_row s b).period.start n)) a_is.start in
      ap is_lt same
      ∙ not_less_then (ordering_then (values_cmp (key_row s b).values (key_row s a).values) (nat_cmp (key_row s b).period.start (key_row s a).period.start)) (nat_cmp (key_row s b).period.end (key_row s a).period.end) not_less

  keys_sorted : (keys : List SortKey) → All (IsSortKey s) keys → AreWhole s keys → IsSorted fragment_cmp (map (key_row s) keys) → IsSorted (key_cmp s) keys
  keys_sorted keys are whole sorted k d low high =
      let long = length-map keys (key_row s) in
      let here = get_or-map (key_row s) keys k d (key_row s d) (omega (arith, high)) in
      let next = get_or-map (key_row s) keys (k + 1) d (key_row s d) high in
      not_below (get_or keys k d) (get_or keys (k + 1) d) (are k d (omega (arith, high))) (are (k + 1) d high) (whole k d (omega (arith, high))) (whole (k + 1) d high)
      (rw (here, next) at (sorted k (key_row s d) low (omega (arith, long, high))))

  -- the cut lists of keys are in order if those of their rows are
  pub cut_keys_sorted : (lens : List ℕ) (keys : List SortKey) → All (IsSortKey s) keys → AreWhole s keys → All (IsSorted fragment_cmp) (map (map (key_row s)) (cut_by lens keys)) → All (IsSorted (key_cmp s)) (cut_by lens keys)
  cut_keys_sorted [] keys are whole sorted = All-nil (IsSorted (key_cmp s))
  cut_keys_sorted (len ∷ lens) keys are whole sorted =
      let Whole : SortKey → Type 0 = λ k. key_values s k ≡ (key_row s k).values in
      let first = All-head (IsSorted fragment_cmp) (map (key_row s) (take len keys)) (map (map (key_row s)) (cut_by lens (drop len keys))) sorted in
      let others = All-tail (IsSorted fragment_cmp) (map (key_row s) (take len keys)) (map (map (key_row s)) (cut_by lens (drop len keys))) sorted in
      All-cons (IsSorted (key_cmp s)) (take len keys) (cut_by lens (drop len keys))
      (keys_sorted (take len keys) (All-take (IsSortKey s) len keys are) (All-take Whole len keys whole) first)
      (cut_keys_sorted lens (drop len keys) (All-drop (IsSortKey s) len keys are) (All-drop Whole len keys whole) others)

marked_none : (s : SortInputState) (keys : List SortKey) → All (IsFresh s) keys → HaveRunStarts s keys
marked_none s keys fresh i d less =
    let without_run_start : (get_or keys (i + 1) d).run_start ≡ Unknown = (fresh (i + 1) d less).without_run_start in
    (λ begins. cc, λ goes_on. cc)

-- keys that are collected from rows that are ordered lists
module _ (s : SortInputState) (width : ℕ) (keys : List SortKey) (columns : s.left_columns ≡ range_with_len 0 width) (wide : All (λ (f : Fragment). length f.values ≡ width) s.left)
    (are : map (held s) keys ≡ held_on side.Left s.left) (fresh : All (IsFresh s) keys) where
  are_keys : All (IsSortKey s) keys
  are_keys i d less = (fresh i d less).key

  are_whole : AreWhole s keys
  are_whole = all_whole s width keys columns wide are_keys (left_moved s keys s.left (subst (IsPermutation (held_on side.Left s.left)) (sym are) (IsPermutation-refl (held_on side.Left s.left))))

  -- the lists of keys are in order
  pub gathered_sorted : (lens : List ℕ) → All (IsSorted fragment_cmp) (cut_by lens s.left) → All (IsSorted (key_cmp s)) (cut_by lens keys)
  gathered_sorted lens sorted =
      cut_keys_sorted s lens keys are_keys are_whole
      (subst (All (IsSorted fragment_cmp)) (ap (cut_by lens) (sym (rows_kept s keys s.left are)) ∙ cut-map (key_row s) lens keys) sorted)

  -- their concatenation is the list of all keys
  pub gathered_joined : (lens : List ℕ) → sum lens ≡ length s.left → joined_lists (cut_by lens keys) ≡ keys
  gathered_joined lens whole =
      let many : length keys ≡ length s.left = sym (length-map keys (key_row s)) ∙ ap length (rows_kept s keys s.left are) in
      cut-joined lens keys ∙ take_all (sum lens) keys (omega (arith, many, whole))

  -- a sorted permutation of the keys is ordered by values
  pub gathered_by_values : (merged : List SortKey) → IsPermutation keys merged → IsSorted (key_cmp s) merged → AreByValues s merged
  gathered_by_values merged same sorted =
      let moved : IsPermutation (held_on side.Left s.left) (map (held s) merged) = subst (λ l. IsPermutation l (map (held s) merged)) are (IsPermutation-map (held s) keys merged same) in
      let keys_are : All (IsSortKey s) merged = All-permutation (IsSortKey s) keys merged same are_keys in
      record {
        rows = rows_moved s merged s.left moved;
        left = left_moved s merged s.left moved;
        keys_are = keys_are;
        run_starts = marked_none s merged (All-permutation (IsFresh s) keys merged same fresh);
        rises = rises s merged sorted keys_are;
      }

-- ---- the input of a merge

-- each list yields its items
pub lists_give : {A Z : Type 0} (gives : Vec A → IntoIter A Z → Type 0)
    → ((list : Vec A) (it : IntoIter A Z) → gives list it → (into_iter_items it ≡ list.items) × (into_iter_len it ≡ length list.items))
    → (lists : List (Vec A)) → SourcesGive gives (into_iter_steps {X = A} {Z = Z}) lists (map (λ (list : Vec A). list.items) lists)
lists_give gives are [] = tt
lists_give gives are (list ∷ lists) =
    (λ it given. let is = are list it given in (YieldsList-from_vec {s = it} list.items is.0 is.1).runs, lists_give gives are lists)

-- a merge that has ended yielded everything
pub all_gave : {A : Type 0} (joined all given rest : List A) → joined ≡ all → rest ≡ [] → IsPermutation joined (given ++ rest) → IsPermutation all given
all_gave joined all given rest is none same =
    subst (λ l. IsPermutation l given) is (subst (IsPermutation joined) (ap (λ l. given ++ l) none ∙ append-nil given) same)

-- the same keys
pub is_by_values : (s : SortInputState) (keys given : List SortKey) → keys ≡ given → AreByValues s given → AreByValues s keys
is_by_values s keys given is are = subst (AreByValues s) (sym is) are
