-- Invalid records, and the lines on which records begin, one after another.
use Rattle.std.proofs.Common.{◌≡◌, ◌∙◌, ℕ, zero, suc, ◌+◌, ◌<◌, ◌≤◌, ◌&&◌, Bool, true, false, if◌then◌else◌, List, [], ◌∷◌, ◌++◌, Option, nat_lt, ap, append-nil, arith, drop, length, refl, slice_get, sym, take, length-append, append_assoc}
use Rattle.std.specs.List.{flat_map}
use Rattle.std.specs.Prelude.{slice_index}
use Rattle.std.proofs.lemmas.Bool.Decides.{nat_tests}
use Rattle.std.proofs.lemmas.Grind.{flat_map-append}
use Rattle.std.proofs.lemmas.List.{drop_more, take-append-le, take_all}
use Rattle.csv.specs.Machine.{step}
use Rattle.csv.specs.Reading.{default_config}
use Rattle.csv.specs.declared.parser.State.{State}
use Rattle.tq_base.specs.declared.catalogue.Column.{Column}
use Rattle.tq_base.specs.declared.form.Form.{Form}
use Rattle.tq_diagnostics.specs.InvalidRecords.{InvalidRecord, fault_text, record_fault_text, invalid_record, text_if}
use Rattle.tq_diagnostics.specs.Faults.{invalid_count, is_invalid}
use Rattle.tq_diagnostics.specs.Lines.{begins_record, line_after_byte, line_if_start, lines_from, record_line}

-- the texts of the first n, and of one more
pub flat_more : {X : Type 0} (f : X → List ℕ) (n : ℕ) (reported : List X) (x : X) → flat_map f (take n (reported ++ x ∷ [])) ≡ flat_map f (take n reported) ++ text_if (nat_lt (length reported) n) (f x)
flat_more {X} f n reported x = by (nat_lt (length reported) n) refl
  where
    by : (few : Bool) → nat_lt (length reported) n ≡ few → flat_map f (take n (reported ++ x ∷ [])) ≡ flat_map f (take n reported) ++ text_if few (f x)
    by true is =
        let short : length reported < n = grind (arith, nat_tests) in
        let grown : take n (reported ++ x ∷ []) ≡ reported ++ x ∷ [] = take_all n (reported ++ x ∷ []) (omega (arith, length-append reported (x ∷ []), short)) in
        let before : take n reported ≡ reported = take_all n reported (omega arith) in
        ap (flat_map f) grown ∙ flat_map-append f reported (x ∷ []) ∙ ap (λ (l : List ℕ). flat_map f reported ++ l) (append-nil (f x)) ∙ ap (λ (l : List X). flat_map f l ++ f x) (sym before)
    by false is =
        let long : n ≤ length reported = grind (arith, nat_tests) in
        ap (flat_map f) (take-append-le n reported (x ∷ []) long) ∙ sym (append-nil (flat_map f (take n reported)))

module _ (form : Form) (columns : List Column) (reported : List InvalidRecord) (number : ℕ) (fields : List (List ℕ)) where
  -- one more record, which can be invalid
  pub told_more : (name bytes : List ℕ) (line : Option ℕ) → line ≡ record_line bytes number
      → flat_map (fault_text form columns name bytes) (take 100 (reported ++ invalid_record form columns number fields))
      ≡ flat_map (fault_text form columns name bytes) (take 100 reported) ++ text_if (is_invalid form columns fields && nat_lt (length reported) 100) (record_fault_text form columns name number line fields)
  told_more name bytes line same = by (is_invalid form columns fields)
    where
      by : (faulty : Bool)
          → flat_map (fault_text form columns name bytes) (take 100 (reported ++ (if faulty then record { number = number; fields = fields } ∷ [] else [])))
          ≡ flat_map (fault_text form columns name bytes) (take 100 reported) ++ text_if (faulty && nat_lt (length reported) 100) (record_fault_text form columns name number line fields)
      by true =
          flat_more (fault_text form columns name bytes) 100 reported (record { number = number; fields = fields })
          ∙ ap (λ l. flat_map (fault_text form columns name bytes) (take 100 reported) ++ text_if (nat_lt (length reported) 100) (record_fault_text form columns name number l fields)) (sym same)
      by false = ap (λ (l : List InvalidRecord). flat_map (fault_text form columns name bytes) (take 100 l)) (append-nil reported) ∙ sym (append-nil (flat_map (fault_text form columns name bytes) (take 100 reported)))

  -- the messages so far, and then with those of one more record
  pub text_more : (name bytes start text next : List ℕ) (count : ℕ) (line : Option ℕ) → line ≡ record_line bytes number → count ≡ length reported
      → text ≡ start ++ flat_map (fault_text form columns name bytes) (take 100 reported)
      → next ≡ text ++ text_if (is_invalid form columns fields && nat_lt count 100) (record_fault_text form columns name number line fields)
      → next ≡ start ++ flat_map (fault_text form columns name bytes) (take 100 (reported ++ invalid_record form columns number fields))
  text_more name bytes start text next count line same counted before after =
      let earlier = flat_map (fault_text form columns name bytes) (take 100 reported) in
      let more : ℕ → List ℕ = λ n. text_if (is_invalid form columns fields && nat_lt n 100) (record_fault_text form columns name number line fields) in
      after ∙ ap (λ (l : List ℕ). l ++ more count) before ∙ append_assoc start earlier (more count) ∙ ap (λ n. start ++ (earlier ++ more n)) counted ∙ ap (λ (l : List ℕ). start ++ l) (sym (told_more name bytes line same))

  -- and the number of invalid ones then
  pub count_more : length (reported ++ invalid_record form columns number fields) ≡ length reported + invalid_count true (is_invalid form columns fields)
  count_more = by (is_invalid form columns fields)
    where
      by : (faulty : Bool) → length (reported ++ (if faulty then record { number = number; fields = fields } ∷ [] else [])) ≡ length reported + invalid_count true faulty
      by true = length-append reported (record { number = number; fields = fields } ∷ [])
      by false = ap (λ (l : List InvalidRecord). length l) (append-nil reported) ∙ omega arith

-- the first one after n is the one at that position
pub first_behind : {X : Type 0} (k : ℕ) (xs : List X) → slice_get (drop k xs) 0 ≡ slice_get xs k
first_behind zero xs = refl
first_behind (suc k) [] = refl
first_behind (suc k) (x ∷ xs) = first_behind k xs

-- the lines on which records begin, from a byte on and from the one after it
pub lines_next : (state next : State) (line after : ℕ) (bytes : List ℕ) (place : ℕ) → place < length bytes
    → next ≡ (step default_config state (slice_index bytes place)).0 → after ≡ line_after_byte line (slice_index bytes place)
    → lines_from state line (drop place bytes) ≡ line_if_start (begins_record state (slice_index bytes place)) line ++ lines_from next after (drop (place + 1) bytes)
lines_next state next line after bytes place within stands moved =
    ap (lines_from state line) (drop_more bytes place 0 within)
    ∙ ap (λ s. line_if_start (begins_record state (slice_index bytes place)) line ++ lines_from s (line_after_byte line (slice_index bytes place)) (drop (place + 1) bytes)) (sym stands)
    ∙ ap (λ n. line_if_start (begins_record state (slice_index bytes place)) line ++ lines_from next n (drop (place + 1) bytes)) (sym moved)
