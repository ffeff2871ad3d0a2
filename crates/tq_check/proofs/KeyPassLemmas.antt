-- One pass over rows in the order of their keys finds the rows that overlap and those that end a gap.
use Rattle.std.proofs.Common.{◌≡◌, ◌∙◌, ℕ, suc, ◌+◌, ◌≤◌, Bool, true, false, cond, not, ◌&&◌, ◌||◌, List, [], ◌∷◌, ◌++◌, Option, Some, None, ap, refl, sym, subst, arith, append_assoc, get_or, length}
use Rattle.std.specs.Prelude.{All, AllPairs, IsPermutation, ◌==◌, is_some, nat_le, nat_lt}
use Rattle.std.specs.List.{cons_option, count_by, filter, filter_map, fold, list_any, sum_by}
use Rattle.std.proofs.lemmas.Bool.Decides.{nat_tests}
use Rattle.std.proofs.lemmas.List.{append-nil}
use Rattle.std.proofs.lemmas.List.Elements.{All-cons, All-head, All-nil, All-push, All-tail, filter-append}
use Rattle.std.proofs.lemmas.List.Sorted.{list_any-IsPermutation, sum_by-IsPermutation}
use Rattle.std.proofs.lemmas.List.Sums.{fold-append}
use Rattle.tq_base.specs.declared.fragment.Fragment.{Fragment}
use Rattle.tq_check.specs.declared.findings.Finding.{Finding}
use Rattle.tq_check.specs.declared.findings.Finding.TheVariants.{Overlap, Gap}
use Rattle.tq_check.specs.declared.key_rows.KeyedRow.{KeyedRow}
use Rattle.tq_check.specs.KeyRows.{count_of, found_pair, further, furthest, is_after_gap, is_earlier, is_finding, is_overlapping, keyed_rows, later_end, pairs_of, IsKeyOrder}
use Rattle.tq_check.specs.KeyPasses.{of_key, pairs_after}
use Rattle.tq_check.proofs.KeyOrderLemmas.{all_before, count_more, is_before}

-- ---- filters

filter_none : {X : Type 0} (p : X → Bool) (xs : List X) → All (λ x. p x ≡ false) xs → filter p xs ≡ []
filter_none p [] none = refl
filter_none {X} p (x ∷ xs) none =
    let Not : X → Type 0 = λ x. p x ≡ false in
    ap (λ b. cond b (x ∷ filter p xs) (filter p xs)) (All-head Not x xs none) ∙ filter_none p xs (All-tail Not x xs none)

filter_same : {X : Type 0} (p q : X → Bool) (xs : List X) → All (λ x. p x ≡ q x) xs → filter p xs ≡ filter q xs
filter_same p q [] same = refl
filter_same {X} p q (x ∷ xs) same =
    let Same : X → Type 0 = λ x. p x ≡ q x in
    let rest = filter_same p q xs (All-tail Same x xs same) in
    λ i. cond (All-head Same x xs same i) (x ∷ rest i) (rest i)

any_filtered : {X : Type 0} (p q : X → Bool) (xs : List X) → list_any (λ x. p x && q x) xs ≡ list_any q (filter p xs)
any_filtered p q [] = refl
any_filtered {X} p q (x ∷ xs) = by (p x) refl (any_filtered p q xs)
  where
    by : (b : Bool) → p x ≡ b → list_any (λ x. p x && q x) xs ≡ list_any q (filter p xs)
        → ((p x && q x) || list_any (λ x. p x && q x) xs) ≡ list_any q (cond (p x) (x ∷ filter p xs) (filter p xs))
    by true is rest =
        ap (λ b. (b && q x) || list_any (λ x. p x && q x) xs) is
        ∙ ap (λ b. q x || b) rest
        ∙ ap (λ b. list_any q (cond b (x ∷ filter p xs) (filter p xs))) (sym is)
    by false is rest =
        ap (λ b. (b && q x) || list_any (λ x. p x && q x) xs) is
        ∙ rest
        ∙ ap (λ b. list_any q (cond b (x ∷ filter p xs) (filter p xs))) (sym is)

-- ---- the row that ends last

-- whether there is a row whose end passes
abbrev pub end_passes : (ℕ → Bool) → Option KeyedRow → Bool
end_passes q None = false
end_passes q (Some row) = q row.end

-- a test that each greater number passes too
abbrev pub Upward : (ℕ → Bool) → Type 0
Upward q = (m n : ℕ) → m ≤ n → q m ≡ true → q n ≡ true

or_assoc_back : (a b c : Bool) → (a || (b || c)) ≡ ((a || b) || c)
or_assoc_back true b c = refl
or_assoc_back false b c = refl

or_nothing : (b : Bool) → (b || false) ≡ b
or_nothing true = refl
or_nothing false = refl

-- of two numbers, one passes exactly if the greater one does
greater_passes : (q : ℕ → Bool) → Upward q → (m n : ℕ) → n ≤ m → (q m || q n) ≡ q m
greater_passes q up m n most = by (q n) refl
  where
    by : (b : Bool) → q n ≡ b → (q m || q n) ≡ q m
    by false is = ap (λ b. q m || b) is ∙ or_nothing (q m)
    by true is = let top : q m ≡ true = up n m most is in (λ i. top i || q n) ∙ sym top

lesser_passes : (q : ℕ → Bool) → Upward q → (m n : ℕ) → m ≤ n → (q m || q n) ≡ q n
lesser_passes q up m n most = by (q m) refl
  where
    by : (b : Bool) → q m ≡ b → (q m || q n) ≡ q n
    by false is = ap (λ b. b || q n) is
    by true is = let top : q n ≡ true = up m n most is in ap (λ b. b || q n) is ∙ sym top

one_more : (q : ℕ → Bool) → Upward q → (best : Option KeyedRow) (row : KeyedRow) → (end_passes q best || q row.end) ≡ q (further best row).end
one_more q up None row = refl
one_more q up (Some best) row = by (nat_le row.end best.end) refl
  where
    by : (b : Bool) → nat_le row.end best.end ≡ b → (q best.end || q row.end) ≡ q (cond (nat_le row.end best.end) best row).end
    by true is =
        let most : row.end ≤ best.end = grind (arith, nat_tests, is) in
        greater_passes q up best.end row.end most ∙ ap (λ b. q (cond b best row).end) (sym is)
    by false is =
        let most : best.end ≤ row.end = grind (arith, nat_tests, is) in
        lesser_passes q up best.end row.end most ∙ ap (λ b. q (cond b best row).end) (sym is)

-- some end passes exactly if the last one does
last_passes : (q : ℕ → Bool) → Upward q → (best : Option KeyedRow) (rows : List KeyedRow)
    → (end_passes q best || list_any (λ (row : KeyedRow). q row.end) rows) ≡ end_passes q (fold later_end best rows)
last_passes q up best [] = or_nothing (end_passes q best)
last_passes q up best (row ∷ rows) =
    or_assoc_back (end_passes q best) (q row.end) (list_any (λ (row : KeyedRow). q row.end) rows)
    ∙ ap (λ b. b || list_any (λ (row : KeyedRow). q row.end) rows) (one_more q up best row)
    ∙ last_passes q up (Some (further best row)) rows

-- an earlier row's end passes exactly if that of the furthest one does
pub earlier_passes : (q : ℕ → Bool) → Upward q → (rows : List KeyedRow) (row : KeyedRow)
    → list_any (λ other. is_earlier other row && q other.end) rows ≡ end_passes q (furthest rows row)
earlier_passes q up rows row =
    any_filtered (λ other. is_earlier other row) (λ (other : KeyedRow). q other.end) rows
    ∙ last_passes q up None (filter (λ other. is_earlier other row) rows)

-- ---- a row is counted exactly if it is listed

and_true : (b : Bool) → b ≡ (b && true)
and_true true = refl
and_true false = refl

pub after_upward : (start : ℕ) → Upward (nat_lt start)
after_upward start m n most is = grind (arith, nat_tests, most, is)

from_upward : (start : ℕ) → Upward (nat_le start)
from_upward start m n most is = grind (arith, nat_tests, most, is)

some_if : {X : Type 0} (b : Bool) (x : X) → is_some (cond b (Some x) None) ≡ b
some_if true x = refl
some_if false x = refl

gap_test : (start end : ℕ) → (true && not (nat_le start end)) ≡ nat_lt end start
gap_test start end = grind (arith, nat_tests)

counted : (finding : Finding) (rows : List KeyedRow) (row : KeyedRow) → is_some (found_pair finding (furthest rows row) row) ≡ is_finding finding rows row
counted Overlap rows row = by (furthest rows row) refl
  where
    by : (o : Option KeyedRow) → furthest rows row ≡ o → is_some (found_pair Overlap (furthest rows row) row) ≡ is_overlapping rows row
    by None is =
        ap (λ o. is_some (found_pair Overlap o row)) is
        ∙ ap (end_passes (nat_lt row.start)) (sym is)
        ∙ sym (earlier_passes (nat_lt row.start) (after_upward row.start) rows row)
    by (Some earlier) is =
        ap (λ o. is_some (found_pair Overlap o row)) is
        ∙ some_if (nat_lt row.start earlier.end) (record { earlier = earlier; row = row })
        ∙ ap (end_passes (nat_lt row.start)) (sym is)
        ∙ sym (earlier_passes (nat_lt row.start) (after_upward row.start) rows row)
counted Gap rows row = by (furthest rows row) refl
  where
    any_earlier : list_any (λ other. is_earlier other row) rows ≡ end_passes (λ end. true) (furthest rows row)
    any_earlier = (λ i. list_any (λ other. and_true (is_earlier other row) i) rows) ∙ earlier_passes (λ end. true) (λ m n most is. refl) rows row

    any_valid : list_any (λ other. is_earlier other row && nat_le row.start other.end) rows ≡ end_passes (nat_le row.start) (furthest rows row)
    any_valid = earlier_passes (nat_le row.start) (from_upward row.start) rows row

    tests : is_after_gap rows row ≡ (end_passes (λ end. true) (furthest rows row) && not (end_passes (nat_le row.start) (furthest rows row)))
    tests = λ i. any_earlier i && not (any_valid i)

    by : (o : Option KeyedRow) → furthest rows row ≡ o → is_some (found_pair Gap (furthest rows row) row) ≡ is_after_gap rows row
    by None is =
        ap (λ o. is_some (found_pair Gap o row)) is
        ∙ ap (λ o. end_passes (λ end. true) o && not (end_passes (nat_le row.start) o)) (sym is)
        ∙ sym tests
    by (Some earlier) is =
        ap (λ o. is_some (found_pair Gap o row)) is
        ∙ some_if (nat_lt earlier.end row.start) (record { earlier = earlier; row = row })
        ∙ sym (gap_test row.start earlier.end)
        ∙ ap (λ o. end_passes (λ end. true) o && not (end_passes (nat_le row.start) o)) (sym is)
        ∙ sym tests

length_listed : {X Y : Type 0} (h : X → Option Y) (p : X → Bool) (xs : List X) → ((x : X) → is_some (h x) ≡ p x) → length (filter_map h xs) ≡ count_by p xs
length_listed h p [] same = refl
length_listed {X} {Y} h p (x ∷ xs) same =
    let first : cond {A = ℕ} (is_some (h x)) 1 0 ≡ cond (p x) 1 0 = ap (λ b. cond {A = ℕ} b 1 0) (same x) in
    omega (arith, one (h x), first, length_listed h p xs same, count_more p x xs)
  where
    one : (o : Option Y) → length (cons_option o (filter_map h xs)) ≡ cond (is_some o) 1 0 + length (filter_map h xs)
    one None = omega arith
    one (Some y) = omega arith

-- the rows of a table and the same rows in another order are counted alike
finding_permuted : (finding : Finding) (rows order : List KeyedRow) → IsPermutation rows order → (row : KeyedRow) → is_finding finding rows row ≡ is_finding finding order row
finding_permuted Overlap rows order same row = list_any-IsPermutation (λ other. is_earlier other row && nat_lt row.start other.end) rows order same
finding_permuted Gap rows order same row =
    λ i. list_any-IsPermutation (λ other. is_earlier other row) rows order same i
    && not (list_any-IsPermutation (λ other. is_earlier other row && nat_le row.start other.end) rows order same i)

-- as many are listed as the definition counts
pub all_counted : (finding : Finding) (rows : List Fragment) (order : List KeyedRow) → IsKeyOrder rows order → length (pairs_of finding order) ≡ count_of finding rows
all_counted finding rows order is =
    length_listed (λ row. found_pair finding (furthest order row) row) (is_finding finding order) order (counted finding order)
    ∙ (λ i. sum_by (λ row. cond (sym (finding_permuted finding (keyed_rows rows) order is.permuted row) i) 1 0) order)
    ∙ sum_by-IsPermutation (λ row. cond (is_finding finding (keyed_rows rows) row) 1 0) (keyed_rows rows) order is.permuted

-- ---- one pass finds them

abbrev pub has_key : ℕ → KeyedRow → Bool
has_key key row = row.key == key

-- the last row is the one that ends last of those of its key, and no row has a greater key
abbrev pub IsLast : List KeyedRow → Option KeyedRow → Type 0
IsLast above None = above ≡ []
IsLast above (Some last) = (fold later_end None (filter (has_key last.key) above) ≡ Some last) × All (λ (row : KeyedRow). row.key ≤ last.key) above

-- no row to come has a lesser key
abbrev pub Rises : Option KeyedRow → List KeyedRow → Type 0
Rises None later = Unit {0}
Rises (Some last) later = All (λ (row : KeyedRow). last.key ≤ row.key) later

abbrev pub AllBefore : KeyedRow → List KeyedRow → Type 0
AllBefore row later = All (λ other. is_before row other ≡ true) later

-- the rows that were handled, those to come, and the last row
pub record Passed (order above later : List KeyedRow) (last : Option KeyedRow) : Type 0 where
  pub whole : order ≡ above ++ later
  pub before : All (λ row. AllBefore row later) above
  pub ordered : AllPairs (λ (a b : KeyedRow). is_before a b ≡ true) later
  pub is_last : IsLast above last
  pub rises : Rises last later

-- ---- tests of rows in order

before_key : (a b : KeyedRow) → is_before a b ≡ true → a.key ≤ b.key
before_key a b is = by (nat_lt a.key b.key) refl
  where
    by : (t : Bool) → nat_lt a.key b.key ≡ t → a.key ≤ b.key
    by true less = grind (arith, nat_tests, less)
    by false least = key (a.key == b.key) refl
      where
        key : (t : Bool) → (a.key == b.key) ≡ t → a.key ≤ b.key
        key true same = grind (arith, nat_tests, same)
        key false other =
            let none : is_before a b ≡ false = (λ i. least i || (other i && (nat_lt a.start b.start || ((a.start == b.start) && nat_lt a.place b.place)))) in
            absurd (cc (none, is))

numbers_earlier : (k l : ℕ) (rest : Bool) → (nat_lt k l || ((k == l) && rest)) ≡ true → ((k == l) && rest) ≡ (k == l)
numbers_earlier k l true is = sym (and_true (k == l))
numbers_earlier k l false is = by (k == l) refl
  where
    by : (t : Bool) → (k == l) ≡ t → ((k == l) && false) ≡ (k == l)
    by false other = (λ i. other i && false) ∙ sym other
    by true same =
        let less : nat_lt k l ≡ false = grind (arith, nat_tests, same) in
        let none : (nat_lt k l || ((k == l) && false)) ≡ false = (λ i. less i || (same i && false)) in
        absurd (cc (none, is))

-- a row that comes before another one is an earlier one exactly if it has its key
earlier_is : (a b : KeyedRow) → is_before a b ≡ true → is_earlier a b ≡ has_key b.key a
earlier_is a b is = numbers_earlier a.key b.key (nat_lt a.start b.start || ((a.start == b.start) && nat_lt a.place b.place)) is

-- a row that comes after another one, or is the same, is not an earlier one
not_earlier : (k l s t p q : ℕ) → (nat_lt k l || ((k == l) && (nat_lt s t || ((s == t) && nat_lt p q)))) ≡ true → ((l == k) && (nat_lt t s || ((t == s) && nat_lt q p))) ≡ false
not_earlier k l s t p q is = grind (arith, nat_tests, is)

after_is : (a b : KeyedRow) → is_before a b ≡ true → is_earlier b a ≡ false
after_is a b is = not_earlier a.key b.key a.start b.start a.place b.place is

itself : (k s p : ℕ) → ((k == k) && (nat_lt s s || ((s == s) && nat_lt p p))) ≡ false
itself k s p = grind (arith, nat_tests)

self_is : (row : KeyedRow) → is_earlier row row ≡ false
self_is row = itself row.key row.start row.place

-- ---- the next row

module _ (order above : List KeyedRow) (row : KeyedRow) (later : List KeyedRow) (last : Option KeyedRow) (passed : Passed order above (row ∷ later) last) where
  abbrev earlier : KeyedRow → Bool
  earlier other = is_earlier other row

  row_before : AllBefore row later
  row_before k d less = passed.ordered 0 (suc k) d (omega arith) (omega (arith, less))

  above_before : All (λ other. is_before other row ≡ true) above
  above_before k d less = All-head (λ other. is_before (get_or above k d) other ≡ true) row later (passed.before k d less)

  above_key : All (λ (other : KeyedRow). other.key ≤ row.key) above
  above_key k d less = before_key (get_or above k d) row (above_before k d less)

  later_key : All (λ (other : KeyedRow). row.key ≤ other.key) later
  later_key k d less = before_key row (get_or later k d) (row_before k d less)

  above_filtered : filter earlier above ≡ filter (has_key row.key) above
  above_filtered = filter_same earlier (has_key row.key) above (λ k d less. earlier_is (get_or above k d) row (above_before k d less))

  rest_filtered : filter earlier (row ∷ later) ≡ []
  rest_filtered =
      filter_none earlier (row ∷ later)
      (All-cons (λ other. earlier other ≡ false) row later (self_is row) (λ k d less. after_is row (get_or later k d) (row_before k d less)))

  -- the earlier rows are those of its key above it
  filtered : filter earlier order ≡ filter (has_key row.key) above
  filtered =
      ap (filter earlier) passed.whole
      ∙ filter-append earlier above (row ∷ later)
      ∙ (λ i. above_filtered i ++ rest_filtered i)
      ∙ append-nil (filter (has_key row.key) above)

  -- and the last row, if it has the key, is the one of them that ends last
  of_last : (o : Option KeyedRow) → IsLast above o → Rises o (row ∷ later) → fold later_end None (filter (has_key row.key) above) ≡ of_key o row
  of_last None none rises = ap (λ l. fold later_end None (filter (has_key row.key) l)) none
  of_last (Some e) is rises = by (e.key == row.key) refl
    where
      by : (b : Bool) → (e.key == row.key) ≡ b → fold later_end None (filter (has_key row.key) above) ≡ cond (e.key == row.key) (Some e) None
      by true same =
          let key : row.key ≡ e.key = grind (arith, nat_tests, same) in
          ap (λ k. fold later_end None (filter (has_key k) above)) key ∙ is.0 ∙ ap (λ b. cond b (Some e) None) (sym same)
      by false other =
          let most : e.key ≤ row.key = All-head (λ (z : KeyedRow). e.key ≤ z.key) row later rises in
          ap (fold later_end None) (filter_none (has_key row.key) above (λ k d less. lesser (get_or above k d).key e.key row.key (is.1 k d less) most other))
          ∙ ap (λ b. cond b (Some e) None) (sym other)
        where
          lesser : (a b c : ℕ) → a ≤ b → b ≤ c → (b == c) ≡ false → (a == c) ≡ false
          lesser a b c one two differ = grind (arith, nat_tests, one, two, differ)

  abbrev next : KeyedRow
  next = further (of_key last row) row

  furthest_above : fold later_end None (filter (has_key row.key) above) ≡ of_key last row
  furthest_above = of_last last passed.is_last passed.rises

  pub furthest_is : furthest order row ≡ of_key last row
  furthest_is = ap (fold later_end None) filtered ∙ furthest_above

  key_of : (o : Option KeyedRow) → (further (of_key o row) row).key ≡ row.key
  key_of None = refl
  key_of (Some e) = by (e.key == row.key) refl
    where
      longer : (b : Bool) → e.key ≡ row.key → (cond b e row).key ≡ row.key
      longer true same = same
      longer false same = refl

      by : (b : Bool) → (e.key == row.key) ≡ b → (further (cond (e.key == row.key) (Some e) None) row).key ≡ row.key
      by true same =
          let key : e.key ≡ row.key = grind (arith, nat_tests, same) in
          ap (λ b. (further (cond b (Some e) None) row).key) same ∙ longer (nat_le row.end e.end) key
      by false other = ap (λ b. (further (cond b (Some e) None) row).key) other

  self_key : has_key row.key row ≡ true
  self_key = grind (arith, nat_tests)

  next_is : fold later_end None (filter (has_key next.key) (above ++ row ∷ [])) ≡ Some next
  next_is =
      ap (λ k. fold later_end None (filter (has_key k) (above ++ row ∷ []))) (key_of last)
      ∙ ap (fold later_end None) (filter-append (has_key row.key) above (row ∷ []) ∙ ap (λ b. filter (has_key row.key) above ++ cond b (row ∷ []) []) self_key)
      ∙ fold-append later_end None (filter (has_key row.key) above) (row ∷ [])
      ∙ ap (λ o. later_end o row) furthest_above

  pub passed_more : Passed order (above ++ row ∷ []) later (Some next)
  passed_more = record {
    whole = passed.whole ∙ sym (append_assoc above (row ∷ []) later);
    before =
        All-push (λ other. AllBefore other later) above row
        (λ k d less. All-tail (λ other. is_before (get_or above k d) other ≡ true) row later (passed.before k d less)) row_before;
    ordered = λ i j d before less. passed.ordered (suc i) (suc j) d (omega (arith, before)) (omega (arith, less));
    is_last = (next_is, subst (λ k. All (λ (other : KeyedRow). other.key ≤ k) (above ++ row ∷ [])) (sym (key_of last)) (All-push (λ (other : KeyedRow). other.key ≤ row.key) above row above_key (omega arith)));
    rises = subst (λ k. All (λ (other : KeyedRow). k ≤ other.key) later) (sym (key_of last)) later_key;
  }

pass_finds : (finding : Finding) (order above later : List KeyedRow) (last : Option KeyedRow) → Passed order above later last
    → pairs_after finding last later ≡ filter_map (λ row. found_pair finding (furthest order row) row) later
unfolding pairs_after
pass_finds finding order above [] last passed = refl
pass_finds finding order above (row ∷ later) last passed =
    let rest = pass_finds finding order (above ++ row ∷ []) later (Some (further (of_key last row) row)) (passed_more order above row later last passed) in
    λ i. cons_option (found_pair finding (sym (furthest_is order above row later last passed) i) row) (rest i)

-- the pass finds all pairs, in their order
pub all_found : (finding : Finding) (rows : List Fragment) (order : List KeyedRow) → IsKeyOrder rows order → pairs_after finding None order ≡ pairs_of finding order
all_found finding rows order is = pass_finds finding order [] order None (record {
  whole = refl;
  before = All-nil (λ row. AllBefore row order);
  ordered = all_before rows order is;
  is_last = refl;
  rises = tt;
})
