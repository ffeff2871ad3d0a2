-- The records of a file in Latin-1, and those of its text in UTF-8.
use Rattle.std.proofs.Common.{◌≡◌, ◌∙◌, ◌<◌, ◌≤◌, ◌+◌, ◌==◌, ℕ, zero, suc, Bool, true, false, List, [], ◌∷◌, ◌++◌, Option, Some, None, ap, append_assoc, append-nil, arith, encode_utf8, encode_utf8_all, get_or, if◌then◌else◌, inl, inr, length, map, ne_eqb, option_map, refl, sym}
use Rattle.std.proofs.lemmas.Bool.{cases_lt}
use Rattle.std.proofs.lemmas.List.{map-append}
use Rattle.std.proofs.lemmas.Str.{encode_ascii, inside_one, len_utf8_bounds, length-encode, length-le-encodes}
use Rattle.csv.specs.Machine.{Read, ends_at_end, field_after, fields_after, is_end, next_record, step}
use Rattle.csv.specs.Reading.{records_from, records_next}
use Rattle.csv.specs.declared.parser.Action.{Action}
use Rattle.csv.specs.declared.parser.Action.TheVariants as act
use Rattle.csv.specs.declared.parser.State.{State}
use Rattle.csv.specs.declared.parser.State.TheVariants as st
use Rattle.tq_event.proofs.RecordLemmas.{record-takes}
use Rattle.tq_import.specs.Laws.{Latin1FieldsAreConverted}
use Rattle.tq_import.specs.Reading.{separated_by}
use Rattle.tq_import.proofs.EncodingLemmas.{encodes_push}

-- ---- a byte that is not ASCII

abbrev after_high : State → State
after_high st.StartRecord = st.InField
after_high st.StartField = st.InField
after_high st.InField = st.InField
after_high st.InQuoted = st.InQuoted
after_high st.AfterQuote = st.InField
after_high st.InEscape = st.InQuoted
after_high st.InComment = st.InComment
after_high st.AfterCr = st.InField

abbrev action_high : State → Action
action_high st.StartRecord = act.Copy
action_high st.StartField = act.Copy
action_high st.InField = act.Copy
action_high st.InQuoted = act.Copy
action_high st.AfterQuote = act.Copy
action_high st.InEscape = act.Copy
action_high st.InComment = act.Skip
action_high st.AfterCr = act.Copy

other : (c d : ℕ) → d < 128 → 128 ≤ c → (c == d) ≡ false
other c d low high = ne_eqb c d (λ same. omega (arith, same))

high_step : (d : ℕ) (s : State) (c : ℕ) → d < 128 → 128 ≤ c → step (separated_by d) s c ≡ (after_high s, action_high s)
high_step d st.StartRecord c low high = rw (other c d low high, other c 34 (omega arith) high, other c 10 (omega arith) high, other c 13 (omega arith) high) refl
high_step d st.StartField c low high = rw (other c d low high, other c 34 (omega arith) high, other c 10 (omega arith) high, other c 13 (omega arith) high) refl
high_step d st.InField c low high = rw (other c d low high, other c 10 (omega arith) high, other c 13 (omega arith) high) refl
high_step d st.InQuoted c low high = rw (other c 34 (omega arith) high) refl
high_step d st.AfterQuote c low high = rw (other c d low high, other c 34 (omega arith) high, other c 10 (omega arith) high, other c 13 (omega arith) high) refl
high_step d st.InEscape c low high = refl
high_step d st.InComment c low high = rw (other c 10 (omega arith) high) refl
high_step d st.AfterCr c low high = rw (other c d low high, other c 34 (omega arith) high, other c 10 (omega arith) high, other c 13 (omega arith) high) refl

one_high : (d : ℕ) (s : State) (fields : List (List ℕ)) (field : List ℕ) (c : ℕ) (rest : List ℕ) → d < 128 → 128 ≤ c
    → next_record (separated_by d) s fields field (c ∷ rest) ≡ next_record (separated_by d) (after_high s) fields (field_after (action_high s) c field) rest
unfolding next_record
one_high d s fields field c rest low high = by s (step (separated_by d) s c) (high_step d s c low high)
  where
    next : State × Action → Option Read
    next p = if is_end p.1 then Some (fields_after p.1 fields field, p.0, rest) else next_record (separated_by d) p.0 (fields_after p.1 fields field) (field_after p.1 c field) rest

    ended : (s : State) → next (after_high s, action_high s) ≡ next_record (separated_by d) (after_high s) fields (field_after (action_high s) c field) rest
    ended st.StartRecord = refl
    ended st.StartField = refl
    ended st.InField = refl
    ended st.InQuoted = refl
    ended st.AfterQuote = refl
    ended st.InEscape = refl
    ended st.InComment = refl
    ended st.AfterCr = refl

    by : (s : State) (p : State × Action) → p ≡ (after_high s, action_high s)
        → next p ≡ next_record (separated_by d) (after_high s) fields (field_after (action_high s) c field) rest
    by s p same = ap next same ∙ ended s

-- the field with some bytes behind it, if they are copied
abbrev copied : Action → List ℕ → List ℕ → List ℕ
copied act.Copy bytes field = field ++ bytes
copied act.Skip bytes field = field
copied act.EndField bytes field = field
copied act.EndRecord bytes field = field

stays : (s : State) → after_high (after_high s) ≡ after_high s
stays st.StartRecord = refl
stays st.StartField = refl
stays st.InField = refl
stays st.InQuoted = refl
stays st.AfterQuote = refl
stays st.InEscape = refl
stays st.InComment = refl
stays st.AfterCr = refl

copied_more : (s : State) (b : ℕ) (bs field : List ℕ) → copied (action_high (after_high s)) bs (field_after (action_high s) b field) ≡ copied (action_high s) (b ∷ bs) field
copied_more st.StartRecord b bs field = append_assoc field (b ∷ []) bs
copied_more st.StartField b bs field = append_assoc field (b ∷ []) bs
copied_more st.InField b bs field = append_assoc field (b ∷ []) bs
copied_more st.InQuoted b bs field = append_assoc field (b ∷ []) bs
copied_more st.AfterQuote b bs field = append_assoc field (b ∷ []) bs
copied_more st.InEscape b bs field = append_assoc field (b ∷ []) bs
copied_more st.InComment b bs field = refl
copied_more st.AfterCr b bs field = append_assoc field (b ∷ []) bs

copied_one : (s : State) (b : ℕ) (field : List ℕ) → field_after (action_high s) b field ≡ copied (action_high s) (b ∷ []) field
copied_one st.StartRecord b field = refl
copied_one st.StartField b field = refl
copied_one st.InField b field = refl
copied_one st.InQuoted b field = refl
copied_one st.AfterQuote b field = refl
copied_one st.InEscape b field = refl
copied_one st.InComment b field = refl
copied_one st.AfterCr b field = refl

-- several such bytes
high_run : (d : ℕ) (s : State) (fields : List (List ℕ)) (field : List ℕ) (b : ℕ) (bs rest : List ℕ) → d < 128
    → ((k : ℕ) → k < length (b ∷ bs) → 128 ≤ get_or (b ∷ bs) k 0)
    → next_record (separated_by d) s fields field (b ∷ bs ++ rest) ≡ next_record (separated_by d) (after_high s) fields (copied (action_high s) (b ∷ bs) field) rest
high_run d s fields field b [] rest low high =
    one_high d s fields field b rest low (high 0 (omega arith))
    ∙ ap (λ (f : List ℕ). next_record (separated_by d) (after_high s) fields f rest) (copied_one s b field)
high_run d s fields field b (c ∷ bs) rest low high =
    one_high d s fields field b (c ∷ bs ++ rest) low (high 0 (omega arith))
    ∙ high_run d (after_high s) fields (field_after (action_high s) b field) c bs rest low (λ k less. high (suc k) (omega arith))
    ∙ (λ i. next_record (separated_by d) (stays s i) fields (copied_more s b (c ∷ bs) field i) rest)

-- a character that is not ASCII
high_char : (d : ℕ) (s : State) (fields : List (List ℕ)) (field : List ℕ) (c : ℕ) (rest : List ℕ) → d < 128 → 128 ≤ c
    → next_record (separated_by d) s fields field (encode_utf8 c ++ rest) ≡ next_record (separated_by d) (after_high s) fields (copied (action_high s) (encode_utf8 c) field) rest
high_char d s fields field c rest low high =
    by (encode_utf8 c) (omega (arith, length-encode c, len_utf8_bounds c)) (λ k less. elim (cases_lt (get_or (encode_utf8 c) k 0) 128) [
      | inl small ↦ absurd (omega (arith, inside_one c [] (encode_utf8 c) k (sym (append-nil (encode_utf8 c))) less small, high, small))
      | inr more ↦ more
    ])
  where
    by : (xs : List ℕ) → 0 < length xs → ((k : ℕ) → k < length xs → 128 ≤ get_or xs k 0)
        → next_record (separated_by d) s fields field (xs ++ rest) ≡ next_record (separated_by d) (after_high s) fields (copied (action_high s) xs field) rest
    by [] some all = absurd (omega arith)
    by (b ∷ bs) some all = high_run d s fields field b bs rest low all

-- ---- one record

abbrev encoded : List (List ℕ) → List (List ℕ)
encoded fields = map encode_utf8_all fields

abbrev converted : Read → Read
converted p = (encoded p.0, p.1, encode_utf8_all p.2)

fields_same : (a : Action) (fields : List (List ℕ)) (field : List ℕ) → fields_after a (encoded fields) (encode_utf8_all field) ≡ encoded (fields_after a fields field)
fields_same act.EndField fields field = sym (map-append encode_utf8_all fields (field ∷ []))
fields_same act.Skip fields field = refl
fields_same act.Copy fields field = refl
fields_same act.EndRecord fields field = sym (map-append encode_utf8_all fields (field ∷ []))

field_same : (a : Action) (c : ℕ) (field : List ℕ) → c < 128 → field_after a c (encode_utf8_all field) ≡ encode_utf8_all (field_after a c field)
field_same act.EndField c field low = refl
field_same act.Skip c field low = refl
field_same act.Copy c field low = ap (λ (l : List ℕ). encode_utf8_all field ++ l) (sym (encode_ascii c low)) ∙ sym (encodes_push field c)
field_same act.EndRecord c field low = refl

high_same : (s : State) (c : ℕ) (field : List ℕ) → copied (action_high s) (encode_utf8 c) (encode_utf8_all field) ≡ encode_utf8_all (field_after (action_high s) c field)
high_same st.StartRecord c field = sym (encodes_push field c)
high_same st.StartField c field = sym (encodes_push field c)
high_same st.InField c field = sym (encodes_push field c)
high_same st.InQuoted c field = sym (encodes_push field c)
high_same st.AfterQuote c field = sym (encodes_push field c)
high_same st.InEscape c field = sym (encodes_push field c)
high_same st.InComment c field = refl
high_same st.AfterCr c field = sym (encodes_push field c)

next_same : (d : ℕ) (s : State) (fields : List (List ℕ)) (field text : List ℕ) → d < 128
    → next_record (separated_by d) s (encoded fields) (encode_utf8_all field) (encode_utf8_all text) ≡ option_map converted (next_record (separated_by d) s fields field text)
unfolding next_record
next_same d s fields field [] low = by (ends_at_end s)
  where
    by : (b : Bool) → (if b then Some (encoded fields ++ (encode_utf8_all field ∷ []), st.StartRecord, []) else None)
        ≡ option_map converted (if b then Some (fields ++ (field ∷ []), st.StartRecord, []) else None)
    by true = ap (λ (l : List (List ℕ)). let o : Option Read = Some (l, st.StartRecord, []) in o) (fields_same act.EndRecord fields field)
    by false = refl
next_same d s fields field (c ∷ text) low = elim (cases_lt c 128) [
  | inl small ↦
      ap (λ (l : List ℕ). next_record (separated_by d) s (encoded fields) (encode_utf8_all field) (l ++ encode_utf8_all text)) (encode_ascii c small)
      ∙ by (step (separated_by d) s c) (λ q f g. next_same d q f g text low) small
  | inr high ↦
      high_char d s (encoded fields) (encode_utf8_all field) c (encode_utf8_all text) low high
      ∙ ap (λ (l : List ℕ). next_record (separated_by d) (after_high s) (encoded fields) l (encode_utf8_all text)) (high_same s c field)
      ∙ next_same d (after_high s) fields (field_after (action_high s) c field) text low
      ∙ ap (option_map converted) (sym (one_high d s fields field c text low high))
]
  where
    by : (p : State × Action)
        → ((q : State) (f : List (List ℕ)) (g : List ℕ) → next_record (separated_by d) q (encoded f) (encode_utf8_all g) (encode_utf8_all text) ≡ option_map converted (next_record (separated_by d) q f g text))
        → c < 128
        → (if is_end p.1 then Some (fields_after p.1 (encoded fields) (encode_utf8_all field), p.0, encode_utf8_all text)
        else next_record (separated_by d) p.0 (fields_after p.1 (encoded fields) (encode_utf8_all field)) (field_after p.1 c (encode_utf8_all field)) (encode_utf8_all text))
        ≡ option_map converted (if is_end p.1 then Some (fields_after p.1 fields field, p.0, text)
        else next_record (separated_by d) p.0 (fields_after p.1 fields field) (field_after p.1 c field) text)
    by p more small = inner (is_end p.1)
      where
        inner : (b : Bool)
            → (if b then Some (fields_after p.1 (encoded fields) (encode_utf8_all field), p.0, encode_utf8_all text)
            else next_record (separated_by d) p.0 (fields_after p.1 (encoded fields) (encode_utf8_all field)) (field_after p.1 c (encode_utf8_all field)) (encode_utf8_all text))
            ≡ option_map converted (if b then Some (fields_after p.1 fields field, p.0, text)
            else next_record (separated_by d) p.0 (fields_after p.1 fields field) (field_after p.1 c field) text)
        inner true = ap (λ (l : List (List ℕ)). let o : Option Read = Some (l, p.0, encode_utf8_all text) in o) (fields_same p.1 fields field)
        inner false =
            (λ i. next_record (separated_by d) p.0 (fields_same p.1 fields field i) (field_same p.1 c field small i) (encode_utf8_all text))
            ∙ more p.0 (fields_after p.1 fields field) (field_after p.1 c field)

-- ---- all records

at_end : (d n : ℕ) → records_from (separated_by d) n st.StartRecord [] ≡ []
unfolding records_from next_record
at_end d zero = refl
at_end d (suc n) = refl

from_same : (d n m : ℕ) (s : State) (text : List ℕ) → d < 128 → length text < n → length (encode_utf8_all text) < m
    → records_from (separated_by d) m s (encode_utf8_all text) ≡ map encoded (records_from (separated_by d) n s text)
unfolding records_from
from_same d zero m s text low few many = absurd (omega arith)
from_same d (suc n) zero s text low few many = absurd (omega arith)
from_same d (suc n) (suc m) s text low few many =
    by (next_record (separated_by d) s [] [] text) refl (λ q rest less fewer. from_same d n m q rest low less fewer)
  where
    by : (o : Option Read) → next_record (separated_by d) s [] [] text ≡ o
        → ((q : State) (rest : List ℕ) → length rest < n → length (encode_utf8_all rest) < m
        → records_from (separated_by d) m q (encode_utf8_all rest) ≡ map encoded (records_from (separated_by d) n q rest))
        → records_next (records_from (separated_by d) m) (next_record (separated_by d) s [] [] (encode_utf8_all text))
        ≡ map encoded (records_next (records_from (separated_by d) n) (next_record (separated_by d) s [] [] text))
    by None is more =
        let none : next_record (separated_by d) s [] [] (encode_utf8_all text) ≡ None = next_same d s [] [] text low ∙ ap (option_map converted) is in
        rw (none, is) refl
    by (Some p) is more =
        let found : next_record (separated_by d) s [] [] (encode_utf8_all text) ≡ Some (converted p) = next_same d s [] [] text low ∙ ap (option_map converted) is in
        let rest : records_from (separated_by d) m p.1 (encode_utf8_all p.2) ≡ map encoded (records_from (separated_by d) n p.1 p.2) =
        elim (record-takes (separated_by d) s [] [] text p is) [
          | inl less ↦
              elim (record-takes (separated_by d) s [] [] (encode_utf8_all text) (converted p) found) [
                | inl fewer ↦ more p.1 p.2 (omega (arith, few, less)) (omega (arith, many, fewer))
                | inr ended ↦ more p.1 p.2 (omega (arith, few, less)) (omega (arith, many, less, ap length ended.1, length-le-encodes text))
              ]
          | inr ended ↦ rw (ended.0, ended.1, at_end d m, at_end d n) refl
        ] in
        rw (found, is) (ap (λ (l : List (List (List ℕ))). encoded p.0 ∷ l) rest)

pub latin1_converted : Latin1FieldsAreConverted
latin1_converted delimiter bytes low =
    from_same delimiter (length bytes + 1) (length (encode_utf8_all bytes) + 1) st.StartRecord bytes low (omega arith) (omega arith)
