-- What is true of the pairs of rows that are listed.
use Rattle.std.proofs.Common.{◌≡◌, ◌∙◌, ℕ, ◌<◌, ◌≤◌, Bool, true, false, cond, ◌&&◌, ◌||◌, List, [], ◌∷◌, Option, Some, None, ap, refl, sym, subst, arith}
use Rattle.std.specs.Prelude.{All, ◌==◌, nat_le, nat_lt}
use Rattle.std.specs.List.{cons_option, filter, filter_map, fold, list_any}
use Rattle.std.proofs.lemmas.Bool.Decides.{nat_tests}
use Rattle.std.proofs.lemmas.List.Elements.{All-cons, All-nil}
use Rattle.std.proofs.lemmas.List.Sorted.{list_any-IsPermutation}
use Rattle.tq_base.specs.declared.fragment.Fragment.{Fragment}
use Rattle.tq_check.specs.declared.findings.Finding.{Finding}
use Rattle.tq_check.specs.declared.findings.Finding.TheVariants.{Overlap, Gap}
use Rattle.tq_check.specs.declared.findings.KeyPair.{KeyPair}
use Rattle.tq_check.specs.declared.key_rows.KeyedRow.{KeyedRow}
use Rattle.tq_check.specs.KeyLaws.{is_valid_at}
use Rattle.tq_check.specs.KeyRows.{found_pair, furthest, is_earlier, is_found, keyed_rows, later_end, pairs_of, IsKeyOrder}
use Rattle.tq_check.proofs.KeyPassLemmas.{after_upward, earlier_passes, end_passes}

-- what is true of each pair that is made of a row is true of the list
all_made : {X Y : Type 0} (P : Y → Type 0) (h : X → Option Y) → ((x : X) (y : Y) → h x ≡ Some y → P y) → (xs : List X) → All P (filter_map h xs)
all_made P h each [] = All-nil P
all_made {X} {Y} P h each (x ∷ xs) = by (h x) refl (all_made P h each xs)
  where
    by : (o : Option Y) → h x ≡ o → All P (filter_map h xs) → All P (cons_option (h x) (filter_map h xs))
    by None is rest = subst (λ o. All P (cons_option o (filter_map h xs))) (sym is) rest
    by (Some y) is rest = subst (λ o. All P (cons_option o (filter_map h xs))) (sym is) (All-cons P y (filter_map h xs) (each x y is) rest)

-- the test is true if there is something
held : {X : Type 0} (b : Bool) (x y : X) → cond b (Some x) None ≡ Some y → (b ≡ true) × (x ≡ y)
held true x y is = (refl, cc)
held false x y is = cc

-- a pair that is found is that of the row and the earlier row that ends last
record IsFoundOf (finding : Finding) (rows : List KeyedRow) (row : KeyedRow) (pair : KeyPair) : Type 0 where
  pub last : furthest rows row ≡ Some pair.earlier
  pub row_is : pair.row ≡ row
  pub test : is_found finding pair ≡ true

found_of : (finding : Finding) (rows : List KeyedRow) (row : KeyedRow) (pair : KeyPair) → found_pair finding (furthest rows row) row ≡ Some pair → IsFoundOf finding rows row pair
found_of finding rows row pair is = by (furthest rows row) refl
  where
    by : (o : Option KeyedRow) → furthest rows row ≡ o → IsFoundOf finding rows row pair
    by None none = let nothing : None ≡ Some pair = ap (λ o. found_pair finding o row) (sym none) ∙ is in cc
    by (Some earlier) last =
        let made : KeyPair = record { earlier = earlier; row = row } in
        let both = held (is_found finding made) made pair (ap (λ o. found_pair finding o row) (sym last) ∙ is) in
        record {
          last = last ∙ ap (λ (p : KeyPair). Some p.earlier) both.1;
          row_is = ap (λ (p : KeyPair). p.row) (sym both.1);
          test = ap (is_found finding) (sym both.1) ∙ both.0;
        }

-- the row that ends last is one of the rows
kept : (best : Option KeyedRow) (p : KeyedRow → Bool) → (rows : List KeyedRow)
    → ((e : KeyedRow) → best ≡ Some e → p e ≡ true) → (e : KeyedRow) → fold later_end best (filter p rows) ≡ Some e → p e ≡ true
kept best p [] before e is = before e is
kept best p (x ∷ rows) before e is = by (p x) refl (λ o all last. kept o p rows all e last)
  where
    last_of : (o : Option KeyedRow) → ((z : KeyedRow) → o ≡ Some z → p z ≡ true) → p x ≡ true → (z : KeyedRow) → later_end o x ≡ Some z → p z ≡ true
    last_of None all here z made = let same : x ≡ z = cc in subst (λ y. p y ≡ true) same here
    last_of (Some o) all here z made = choose (nat_le x.end o.end) refl
      where
        choose : (b : Bool) → nat_le x.end o.end ≡ b → p z ≡ true
        choose true most = let same : Some o ≡ Some z = ap (λ b. Some (cond b o x)) (sym most) ∙ made in all z same
        choose false less = let same : Some x ≡ Some z = ap (λ b. Some (cond b o x)) (sym less) ∙ made in let equal : x ≡ z = cc in subst (λ y. p y ≡ true) equal here

    by : (b : Bool) → p x ≡ b
        → ((o : Option KeyedRow) → ((z : KeyedRow) → o ≡ Some z → p z ≡ true) → fold later_end o (filter p rows) ≡ Some e → p e ≡ true) → p e ≡ true
    by true here rest =
        rest (later_end best x) (last_of best before here) (ap (λ b. fold later_end best (cond b (x ∷ filter p rows) (filter p rows))) (sym here) ∙ is)
    by false here rest = rest best before (ap (λ b. fold later_end best (cond b (x ∷ filter p rows) (filter p rows))) (sym here) ∙ is)

below : (m n : ℕ) → nat_lt m n ≡ true → m < n
below m n is = grind (arith, nat_tests, is)

not_below : (m n : ℕ) → n ≤ m → nat_lt m n ≡ false
not_below m n most = grind (arith, nat_tests, most)

pub overlaps_overlap : (order : List KeyedRow) → All (λ (pair : KeyPair). (is_earlier pair.earlier pair.row ≡ true) × (pair.row.start < pair.earlier.end)) (pairs_of Overlap order)
overlaps_overlap order =
    all_made (λ (pair : KeyPair). (is_earlier pair.earlier pair.row ≡ true) × (pair.row.start < pair.earlier.end)) (λ row. found_pair Overlap (furthest order row) row) each order
  where
    each : (row : KeyedRow) (pair : KeyPair) → found_pair Overlap (furthest order row) row ≡ Some pair → (is_earlier pair.earlier pair.row ≡ true) × (pair.row.start < pair.earlier.end)
    each row pair is =
        let found = found_of Overlap order row pair is in
        let earlier : is_earlier pair.earlier row ≡ true = kept None (λ other. is_earlier other row) order (λ e none. cc) pair.earlier found.last in
        (subst (λ z. is_earlier pair.earlier z ≡ true) (sym found.row_is) earlier, below pair.row.start pair.earlier.end found.test)

-- if no element passes a test, none passes a stronger one
none_passes : {X : Type 0} (p q : X → Bool) (xs : List X) → ((x : X) → p x ≡ true → q x ≡ true) → list_any q xs ≡ false → list_any p xs ≡ false
none_passes p q [] weaker none = refl
none_passes {X} p q (x ∷ xs) weaker none = by (p x) refl (none_passes p q xs weaker)
  where
    rest_of : (b c : Bool) → (b || c) ≡ false → c ≡ false
    rest_of true c is = cc
    rest_of false c is = is

    by : (b : Bool) → p x ≡ b → (list_any q xs ≡ false → list_any p xs ≡ false) → (p x || list_any p xs) ≡ false
    by true here rest = let there : (q x || list_any q xs) ≡ true = ap (λ b. b || list_any q xs) (weaker x here) in cc (there, none)
    by false here rest = ap (λ b. b || list_any p xs) here ∙ rest (rest_of (q x) (list_any q xs) none)

-- a row that is valid before another one of its key starts is an earlier one
valid_is_earlier : (k l s t p q e at : ℕ) → at < t → ((k == l) && (nat_le s at && nat_lt at e)) ≡ true → (((k == l) && (nat_lt s t || ((s == t) && nat_lt p q))) && nat_lt at e) ≡ true
valid_is_earlier k l s t p q e at before valid = grind (arith, nat_tests, before, valid)

pub gaps_are_empty : (rows : List Fragment) (order : List KeyedRow) → IsKeyOrder rows order
    → All (λ (pair : KeyPair). (at : ℕ) → pair.earlier.end ≤ at → at < pair.row.start → list_any (is_valid_at pair.row.key at) (keyed_rows rows) ≡ false) (pairs_of Gap order)
gaps_are_empty rows order is_order =
    all_made (λ (pair : KeyPair). (at : ℕ) → pair.earlier.end ≤ at → at < pair.row.start → list_any (is_valid_at pair.row.key at) (keyed_rows rows) ≡ false) (λ row. found_pair Gap (furthest order row) row) each order
  where
    each : (row : KeyedRow) (pair : KeyPair) → found_pair Gap (furthest order row) row ≡ Some pair
        → (at : ℕ) → pair.earlier.end ≤ at → at < pair.row.start → list_any (is_valid_at pair.row.key at) (keyed_rows rows) ≡ false
    each row pair is at from before =
        let found = found_of Gap order row pair is in
        let here : at < row.start = subst (λ (z : KeyedRow). at < z.start) found.row_is before in
        let none : list_any (λ other. is_earlier other row && nat_lt at other.end) order ≡ false =
        earlier_passes (nat_lt at) (after_upward at) order row ∙ ap (end_passes (nat_lt at)) found.last ∙ not_below at pair.earlier.end from in
        ap (λ (z : KeyedRow). list_any (is_valid_at z.key at) (keyed_rows rows)) found.row_is
        ∙ list_any-IsPermutation (is_valid_at row.key at) (keyed_rows rows) order is_order.permuted
        ∙ none_passes (is_valid_at row.key at) (λ other. is_earlier other row && nat_lt at other.end) order
        (λ other valid. valid_is_earlier other.key row.key other.start row.start other.place row.place other.end at here valid) none
