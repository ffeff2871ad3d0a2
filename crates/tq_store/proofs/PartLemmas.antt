-- Each row of a window is a row of exactly one part.
use Rattle.std.proofs.Common.{◌≡◌, ℕ, zero, suc, ◌≤◌, Bool, true, false, cond, List, [], ◌∷◌, Some, max, slice_get, refl, sym, ap, ◌∙◌, arith, count_by}
use Rattle.tq_event.specs.History.{Row}
use Rattle.tq_event.specs.Versions.{birth_of, version_at}
use Rattle.tq_scan.specs.declared.window.Part.{Part}
use Rattle.tq_scan.specs.Windows.{lies_in}
use Rattle.tq_store.specs.Laws.{IsRowOfOne, RowsAppearOnce}
use Rattle.tq_store.specs.Rows.{IsPartRow, row_key, whole_window}
use Rattle.tq_store.proofs.VersionLemmas.{count_cons, tally}

-- an element that passes a test is counted
counts_one : {X : Type 0} (p : X → Bool) (xs : List X) (i : ℕ) (x : X) → slice_get xs i ≡ Some x → p x ≡ true → 1 ≤ count_by p xs
counts_one p [] i x here pass = absurd (cc)
counts_one p (y ∷ xs) zero x here pass =
    let same : y ≡ x = cc in
    let passes : tally (p y) ≡ 1 = ap (λ z. tally (p z)) same ∙ ap tally pass in
    omega (arith, count_cons p y xs, passes)
counts_one p (y ∷ xs) (suc i) x here pass = omega (arith, count_cons p y xs, counts_one p xs i x here pass)

-- the only element of a list that passes a test
pub record IsOnly {X : Type 0} (p : X → Bool) (xs : List X) : Type 0 where
  pub place : ℕ
  pub item : X
  pub stands : slice_get xs place ≡ Some item
  pub passes : p item ≡ true
  pub only : (j : ℕ) (y : X) → slice_get xs j ≡ Some y → p y ≡ true → j ≡ place

pub only_one : {X : Type 0} (p : X → Bool) (xs : List X) → count_by p xs ≡ 1 → IsOnly p xs
only_one p [] one = absurd (omega (arith, one))
only_one {X = X} p (x ∷ xs) one = by (p x) refl (only_one p xs)
  where
    by : (b : Bool) → p x ≡ b → (count_by p xs ≡ 1 → IsOnly p xs) → IsOnly p (x ∷ xs)
    by true is among =
        let rest : count_by p xs ≡ 0 = omega (arith, count_cons p x xs, one, ap tally is) in
        record { place = 0; item = x; stands = refl; passes = is; only = λ j y. later rest j y }
      where
        later : count_by p xs ≡ 0 → (j : ℕ) (y : X) → slice_get (x ∷ xs) j ≡ Some y → p y ≡ true → j ≡ 0
        later rest zero y here pass = refl
        later rest (suc j) y here pass = absurd (omega (arith, rest, counts_one p xs j y here pass))
    by false is among =
        let found = among (omega (arith, count_cons p x xs, one, ap tally is)) in
        record { place = suc found.place; item = found.item; stands = found.stands; passes = found.passes; only = λ j y. later found j y }
      where
        later : (found : IsOnly p xs) (j : ℕ) (y : X) → slice_get (x ∷ xs) j ≡ Some y → p y ≡ true → j ≡ suc found.place
        later found zero y here pass = absurd (let same : x ≡ y = cc in let wrong : false ≡ true = sym is ∙ ap p same ∙ pass in cc)
        later found (suc j) y here pass = ap suc (found.only j y here pass)

pub each_once : RowsAppearOnce
each_once es n t range period w parts window_is tiles = record { one = one; all = all }
  where
    all_part : Part
    all_part = whole_window es n range period

    version : Row → ℕ
    version row = max (birth_of es t row.number) (version_at es n period.start)

    has : Row → Part → Bool
    has row p = lies_in p (row_key row) (version row)

    counted : (row : Row) → count_by (has row) parts ≡ cond (has row (whole_window es n range period)) 1 0
    counted row = tiles.tiles (row_key row) (version row) ∙ ap (λ q. cond (has row q) 1 0) window_is

    in_part : (p q : Part) (row : Row) → IsPartRow es n t range period p row → has row q ≡ true → IsPartRow es n t range period q row
    in_part p q row is there = record { known = is.known; low = is.low; high = is.high; begins = is.begins; lasts = is.lasts; reference = there }

    one : (row : Row) → IsPartRow es n t range period (whole_window es n range period) row → IsRowOfOne es n t range period parts row
    one row is =
        let found = only_one (has row) parts (counted row ∙ ap (λ b. cond b 1 0) is.reference) in
        record { place = found.place; part = found.item; stands = found.stands; is = in_part (whole_window es n range period) found.item row is found.passes; only = λ i p here other. found.only i p here other.reference }

    all : (i : ℕ) (p : Part) (row : Row) → slice_get parts i ≡ Some p → IsPartRow es n t range period p row → IsPartRow es n t range period (whole_window es n range period) row
    all i p row here is = by (has row (whole_window es n range period)) refl
      where
        by : (b : Bool) → has row (whole_window es n range period) ≡ b → IsPartRow es n t range period (whole_window es n range period) row
        by true there = in_part p (whole_window es n range period) row is there
        by false there = absurd (let some = counts_one (has row) parts i p here is.reference in let none = counted row ∙ ap (λ b. cond b 1 0) there in omega (arith, some, none))
