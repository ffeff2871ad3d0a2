-- The records of a text, one after another.
use Rattle.std.proofs.Common.{◌≡◌, ◌∙◌, ℕ, ◌+◌, ◌<◌, ◌≤◌, zero, suc, max, Bool, true, false, if◌then◌else◌, List, [], ◌∷◌, ◌++◌, take, Option, Some, None, ap, refl, sym, inl, inr, arith, cond, count_by, drop, get_or, length, slice_get}
use Rattle.std.proofs.lemmas.List.{drop_all, drop_more, length-drop}
use Rattle.std.proofs.lemmas.List.Sums.{sum_by-cons}
use Rattle.std.proofs.Math.Seq.{take-suc}
use Rattle.std.proofs.lemmas.Option.{get_or_from_slice_get, slice_get_cases, slice_get_past}
use Rattle.csv.specs.Machine.{Read, next_record}
use Rattle.csv.specs.Reading.{default_config, is_bom, records_from, records_next, strip_bom}
use Rattle.csv.specs.declared.parser.Config.{Config}
use Rattle.csv.specs.declared.parser.State.{State}
use Rattle.csv.specs.declared.parser.State.TheVariants as st
use Rattle.csv.specs.declared.reader.Reader.{Reader}
use Rattle.std.specs.Borrow.{Bor}
use Rattle.tq_event.specs.Loading.{csv_records}
use Rattle.tq_diagnostics.specs.Faults.{invalid_count}
use Rattle.tq_event.specs.Reading.{TakesFirst}

-- the first of the remaining ones is at their position, and the others follow it
pub next_of : {X : Type 0} (k : ℕ) (all : List X) (x : X) (more : List X) → drop k all ≡ x ∷ more → (slice_get all k ≡ Some x) × (more ≡ drop (k + 1) all)
next_of k all x more e = elim (slice_get_cases all k).1 [
  | inl w ↦
      let moved : x ∷ more ≡ get_or all k w.0 ∷ drop (k + 1) all = sym e ∙ drop_more all k w.0 w.1 in
      let head : x ≡ get_or all k w.0 = cc in
      let tail : more ≡ drop (k + 1) all = cc in
      (w.2 ∙ ap Some (sym (head ∙ w.3)), tail)
  | inr w ↦
      let none : [] ≡ x ∷ more = sym (drop_all k all w.0) ∙ e in
      absurd cc
]

-- if none remain, there is no record at that position or later
pub ended_of : {X : Type 0} (k j : ℕ) (all : List X) → drop k all ≡ [] → k ≤ j → slice_get all j ≡ None
ended_of k j all e before = slice_get_past all j (omega (arith, length-drop k all, ap length e, before))

-- the result of a read is the record at the position of the remaining ones
pub last_of : (k : ℕ) (all : List (List (List ℕ))) (found : Bool) (fields : List (List ℕ)) (left : List (List (List ℕ))) (reader : Reader (Bor (List ℕ)))
    → left ≡ drop k all → TakesFirst found fields left reader → slice_get all k ≡ (if found then Some fields else None)
last_of k all true fields left reader after takes = (next_of k all fields takes.0 (sym after ∙ takes.1)).0
last_of k all false fields left reader after takes = ended_of k k all (sym after ∙ takes) (omega arith)

-- one field more
pub take_next : (fields : List (List ℕ)) (place : ℕ) (field : List ℕ) → slice_get fields place ≡ Some field → place < length fields → take (place + 1) fields ≡ take place fields ++ field ∷ []
take_next fields place field is within =
    let next : place + 1 ≡ suc place = omega arith in
    ap (λ n. take n fields) next ∙ take-suc fields place [] within ∙ ap (λ f. take place fields ++ f ∷ []) (get_or_from_slice_get fields place field [] is)

-- ---- the number of records

-- at most n
few_from : (cfg : Config) (n : ℕ) (s : State) (xs : List ℕ) → length (records_from cfg n s xs) ≤ n
unfolding records_from
few_from cfg zero s xs = omega arith
few_from cfg (suc n) s xs = by (next_record cfg s [] [] xs) (λ q zs. few_from cfg n q zs)
  where
    by : (o : Option Read) → ((q : State) (zs : List ℕ) → length (records_from cfg n q zs) ≤ n) → length (records_next (records_from cfg n) o) ≤ suc n
    by None more = omega arith
    by (Some p) more = omega (arith, more p.1 p.2)

-- without its byte order mark a text is no longer than before
without_mark : (bytes : List ℕ) → length (strip_bom bytes) ≤ length bytes
unfolding strip_bom
without_mark [] = omega arith
without_mark (a ∷ []) = omega arith
without_mark (a ∷ b ∷ []) = omega arith
without_mark (a ∷ b ∷ c ∷ rest) = by (is_bom a b c)
  where
    by : (marked : Bool) → length (if marked then rest else a ∷ b ∷ c ∷ rest) ≤ length (a ∷ b ∷ c ∷ rest)
    by true = omega arith
    by false = omega arith

-- a file has at most one record more than bytes
pub few_records : (bytes : List ℕ) → length (csv_records bytes) ≤ length bytes + 1
few_records bytes = omega (arith, few_from default_config (length (strip_bom bytes) + 1) st.StartRecord (strip_bom bytes), without_mark bytes)

-- if none remain, none remain later
pub none_behind : {X : Type 0} (k j : ℕ) (all : List X) → drop k all ≡ [] → k ≤ j → drop j all ≡ []
none_behind k j all none before = drop_all j all (omega (arith, length-drop k all, ap length none, before))

-- ---- the invalid ones

-- one more record is counted if it comes after the position
pub count_next : (p : List (List ℕ) → Bool) (all : List (List (List ℕ))) (place before : ℕ) (x : List (List ℕ)) (more : List (List (List ℕ))) (counts : Bool)
    → drop before all ≡ x ∷ more → more ≡ drop (before + 1) all → (counts ≡ true → place ≤ before) → (counts ≡ false → before < place)
    → count_by p (drop (max place before) all) ≡ invalid_count counts (p x) + count_by p (drop (max place (before + 1)) all)
count_next p all place before x more true split rest past short =
    let here : max place before ≡ before = omega (arith, past refl) in
    let next : max place (before + 1) ≡ before + 1 = omega (arith, past refl) in
    ap (λ n. count_by p (drop n all)) here ∙ ap (count_by p) split ∙ sum_by-cons (λ y. cond (p y) 1 0) x more ∙ ap (λ l. invalid_count true (p x) + count_by p l) rest ∙ ap (λ n. invalid_count true (p x) + count_by p (drop n all)) (sym next)
count_next p all place before x more false split rest past short =
    let here : max place before ≡ place = omega (arith, short refl) in
    let next : max place (before + 1) ≡ place = omega (arith, short refl) in
    rw (here, next) (omega arith)
