-- The rows of parts that tile a window, one part after the other, are those of the whole window.
use Rattle.std.proofs.Common.{◌≡◌, ◌≢◌, ℕ, zero, suc, ◌<◌, ◌≤◌, max, true, List, [], ◌∷◌, ◌++◌, Some, length, map, slice_get, refl, sym, ap, subst, ◌∙◌, arith}
use Rattle.std.specs.Prelude.{IsTrue}
use Rattle.std.specs.List.{flat_map}
use Rattle.std.proofs.lemmas.List.{map-append}
use Rattle.std.proofs.lemmas.List.Concat.{flat_map-cons}
use Rattle.tq_base.specs.declared.catalogue.Catalogue.{Catalogue}
use Rattle.tq_base.specs.declared.key_range.KeyRange.{KeyRange}
use Rattle.tq_base.specs.declared.period.Period.{Period}
use Rattle.tq_base.specs.Periods.{holds}
use Rattle.tq_base.specs.RowLists.{RowList}
use Rattle.tq_event.specs.declared.event.Event.{Event}
use Rattle.tq_event.specs.History.{IsHistory, Row}
use Rattle.tq_event.specs.Versions.{birth_of, version_at}
use Rattle.tq_scan.specs.declared.window.Part.{Part}
use Rattle.tq_scan.specs.Windows.{lies_in}
use Rattle.tq_store.specs.Laws.{PartsAreValid, TileWindow}
use Rattle.tq_store.specs.Rows.{HasReference, IsPartRow, row_key, whole_window}
use Rattle.tq_store.specs.Valid.{AreParts, AreWholeWindow, fragment_at, row_at}
use Rattle.tq_store.proofs.CountLemmas.{AreApart, IsThere, apart_pairs}
use Rattle.tq_store.proofs.PartLemmas.{each_once}
use Rattle.tq_store.proofs.ValidLemmas.{contains_of, keys_in, small, there_of, valid_in}

-- ---- two lists, one after the other

in_front : {X : Type 0} → (xs ys : List X) (i : ℕ) (x : X) → slice_get xs i ≡ Some x → IsThere (xs ++ ys) x
in_front [] ys i x here = absurd (cc)
in_front (y ∷ xs) ys zero x here = record { place = 0; stands = here }
in_front (y ∷ xs) ys (suc i) x here = let rest = in_front xs ys i x here in record { place = suc rest.place; stands = rest.stands }

in_rest : {X : Type 0} → (xs ys : List X) (i : ℕ) (x : X) → slice_get ys i ≡ Some x → IsThere (xs ++ ys) x
in_rest [] ys i x here = record { place = i; stands = here }
in_rest (y ∷ xs) ys i x here = let rest = in_rest xs ys i x here in record { place = suc rest.place; stands = rest.stands }

in_either : {X C : Type 0} → (xs ys : List X) (i : ℕ) (x : X) → slice_get (xs ++ ys) i ≡ Some x → (IsThere xs x → C) → (IsThere ys x → C) → C
in_either [] ys i x here front rest = rest (record { place = i; stands = here })
in_either (y ∷ xs) ys zero x here front rest = front (record { place = 0; stands = here })
in_either (y ∷ xs) ys (suc i) x here front rest = in_either xs ys i x here (λ is. front (record { place = suc is.place; stands = is.stands })) rest

apart_both : {X : Type 0} → (key : X → ℕ) (xs ys : List X) → AreApart key xs → AreApart key ys
    → ((i j : ℕ) (x y : X) → slice_get xs i ≡ Some x → slice_get ys j ≡ Some y → key x ≢ key y) → AreApart key (xs ++ ys)
apart_both key [] ys one other between = other
apart_both key (x ∷ xs) ys one other between = (
  λ j y here. in_either xs ys j y here (λ is. one.0 is.place y is.stands) (λ is. between 0 is.place x y refl is.stands),
  apart_both key xs ys one.1 other (λ i j y z here there. between (suc i) j y z here there),
)

pairs_apart : {X : Type 0} → (key : X → ℕ) (xs : List X) → AreApart key xs → (i j : ℕ) (x y : X) → i < j → slice_get xs i ≡ Some x → slice_get xs j ≡ Some y → key x ≢ key y
pairs_apart key [] apart i j x y less one other = absurd (cc)
pairs_apart key (z ∷ xs) apart zero zero x y less one other = absurd (omega (arith, less))
pairs_apart key (z ∷ xs) apart zero (suc j) x y less one other = let same : z ≡ x = cc in subst (λ w. key w ≢ key y) same (apart.0 j y other)
pairs_apart key (z ∷ xs) apart (suc i) zero x y less one other = absurd (omega (arith, less))
pairs_apart key (z ∷ xs) apart (suc i) (suc j) x y less one other = pairs_apart key xs apart.1 i j x y (omega (arith, less)) one other

-- ---- the rows of the parts

-- the row is one of a part
record IsOfPart (es : List Event) (n t : ℕ) (range : KeyRange) (period : Period) (parts : List Part) (row : Row) : Type 0 where
  place : ℕ
  part : Part
  stands : slice_get parts place ≡ Some part
  is : IsPartRow es n t range period part row

module _ (es : List Event) (n t : ℕ) (range : KeyRange) (period : Period) where
  abbrev rows_in : (parts : List Part) (lists : List RowList) → AreParts es n t range period parts lists → List Row
  rows_in [] [] are = []
  rows_in [] (r ∷ lists) are = absurd are
  rows_in (p ∷ parts) [] are = absurd are
  rows_in (p ∷ parts) (r ∷ lists) are = are.0.rows ++ rows_in parts lists are.1

  same_rows : (parts : List Part) (lists : List RowList) (are : AreParts es n t range period parts lists) (at : ℕ) → IsTrue (holds period at)
      → map (fragment_at at) (flat_map (λ (r : RowList). r.items) lists) ≡ map (row_at at) (rows_in parts lists are)
  same_rows [] [] are at inside = refl
  same_rows [] (r ∷ lists) are at inside = absurd are
  same_rows (p ∷ parts) [] are at inside = absurd are
  same_rows (p ∷ parts) (r ∷ lists) are at inside =
      let rest = flat_map (λ (l : RowList). l.items) lists in
      ap (map (fragment_at at)) (flat_map-cons (λ (l : RowList). l.items) r lists)
      ∙ map-append (fragment_at at) r.items rest
      ∙ ap (λ l. l ++ map (fragment_at at) rest) (are.0.same at inside)
      ∙ ap (λ l. map (row_at at) are.0.rows ++ l) (same_rows parts lists are.1 at inside)
      ∙ sym (map-append (row_at at) are.0.rows (rows_in parts lists are.1))

  of_part : (parts : List Part) (lists : List RowList) (are : AreParts es n t range period parts lists) (i : ℕ) (row : Row) → slice_get (rows_in parts lists are) i ≡ Some row → IsOfPart es n t range period parts row
  of_part [] [] are i row here = absurd (cc)
  of_part [] (r ∷ lists) are i row here = absurd are
  of_part (p ∷ parts) [] are i row here = absurd are
  of_part (p ∷ parts) (r ∷ lists) are i row here =
      in_either are.0.rows (rows_in parts lists are.1) i row here
      (λ is. record { place = 0; part = p; stands = refl; is = (are.0.are.just row).0 (contains_of are.0.rows is.place row is.stands) })
      (λ is.
      let rest = of_part parts lists are.1 is.place row is.stands in
      record { place = suc rest.place; part = rest.part; stands = rest.stands; is = rest.is })

  in_parts : (parts : List Part) (lists : List RowList) (are : AreParts es n t range period parts lists) (i : ℕ) (p : Part) (row : Row) → slice_get parts i ≡ Some p → IsPartRow es n t range period p row → IsThere (rows_in parts lists are) row
  in_parts [] [] are i p row here is = absurd (cc)
  in_parts [] (r ∷ lists) are i p row here is = absurd are
  in_parts (q ∷ parts) [] are i p row here is = absurd are
  in_parts (q ∷ parts) (r ∷ lists) are zero p row here is =
      let same : q ≡ p = cc in
      let there = there_of are.0.rows row ((are.0.are.just row).1 (subst (λ x. IsPartRow es n t range period x row) (sym same) is)) in
      in_front are.0.rows (rows_in parts lists are.1) there.place row there.stands
  in_parts (q ∷ parts) (r ∷ lists) are (suc i) p row here is =
      let there = in_parts parts lists are.1 i p row here is in
      in_rest are.0.rows (rows_in parts lists are.1) there.place row there.stands

  -- rows of two of the parts have different keys
  abbrev HaveOthers : List Part → Type 0
  HaveOthers parts =
      (i j : ℕ) (p q : Part) → i < j → slice_get parts i ≡ Some p → slice_get parts j ≡ Some q
      → (one other : Row) → IsPartRow es n t range period p one → IsPartRow es n t range period q other → row_key one ≢ row_key other

  all_apart : (parts : List Part) (lists : List RowList) (are : AreParts es n t range period parts lists) → HaveOthers parts → AreApart row_key (rows_in parts lists are)
  all_apart [] [] are others = tt
  all_apart [] (r ∷ lists) are others = absurd are
  all_apart (p ∷ parts) [] are others = absurd are
  all_apart (p ∷ parts) (r ∷ lists) are others =
      apart_both row_key are.0.rows (rows_in parts lists are.1) (apart_pairs row_key are.0.rows are.0.are.apart)
      (all_apart parts lists are.1 (λ i j q s less. others (suc i) (suc j) q s (omega (arith, less))))
      (λ i j one other here there.
      let far = of_part parts lists are.1 j other there in
      others 0 (suc far.place) p far.part (omega arith) refl far.stands one other ((are.0.are.just one).0 (contains_of are.0.rows i one here)) far.is)

-- ---- parts that tile the window

module _ (c : Catalogue) (es : List Event) (history : IsHistory c es) (few : length es ≤ 16777216) (n t : ℕ) (le : n ≤ length es) (range : KeyRange) (period : Period) (parts : List Part) (tile : TileWindow es n range period parts) where
  has_others : HaveOthers es n t range period parts
  has_others i j p q less here there one other is_one is_other same =
      let once = each_once es n t range period tile.window parts tile.whole tile.tiles in
      let found = once.one one (once.all i p one here is_one) in
      let first = found.only i p here is_one in
      let second = found.only j q there (record { known = is_one.known; low = is_one.low; high = is_one.high; begins = is_one.begins; lasts = is_one.lasts; reference = reference }) in
      omega (arith, less, first, second)
    where
      number : other.number ≡ one.number
      number =
          let one_small = small c es history few n t le range period one is_one.known in
          let other_small = small c es history few n t le range period other is_other.known in
          omega (arith, same, one_small, other_small)

      reference : HasReference es n t period q one
      reference =
          subst (λ k. lies_in q k (max (birth_of es t one.number) (version_at es n period.start)) ≡ true) (sym same)
          (subst (λ m. lies_in q (row_key other) (max (birth_of es t m) (version_at es n period.start)) ≡ true) number is_other.reference)

  whole_of_parts : (lists : List RowList) → AreParts es n t range period parts lists → AreWholeWindow es n t range period (flat_map (λ (r : RowList). r.items) lists)
  whole_of_parts lists are = record {
    rows = rows_in es n t range period parts lists are;
    are = record {
      apart = pairs_apart row_key (rows_in es n t range period parts lists are) (all_apart es n t range period parts lists are has_others);
      just = λ row. (
        λ there.
            let stands = there_of (rows_in es n t range period parts lists are) row there in
            let found = of_part es n t range period parts lists are stands.place row stands.stands in
            (each_once es n t range period tile.window parts tile.whole tile.tiles).all found.place found.part row found.stands found.is,
        λ is.
            let found = (each_once es n t range period tile.window parts tile.whole tile.tiles).one row is in
            let there = in_parts es n t range period parts lists are found.place found.part row found.stands found.is in
            contains_of (rows_in es n t range period parts lists are) there.place row there.stands,
      );
    };
    same = λ at inside. same_rows es n t range period parts lists are at inside;
  }

pub parts_valid : PartsAreValid
parts_valid c es n t range period parts lists history few le tile are =
    let whole = whole_of_parts c es history few n t le range period parts tile lists are in (
      valid_in c es history few n t le range period (flat_map (λ (r : RowList). r.items) lists) whole,
      keys_in es n t range period (whole_window es n range period) (flat_map (λ (r : RowList). r.items) lists) whole,
    )
