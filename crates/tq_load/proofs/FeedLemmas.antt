-- The state of the reader after bytes that end with a line feed: the start of a record, unless the last field that it
-- reads of them ends with that line feed.
use Rattle.std.proofs.Common.{◌≡◌, ◌-◌, ℕ, suc, Bool, true, false, ◌==◌, ◌⊎◌, inl, inr, List, [], ◌∷◌, ◌++◌, length, slice_get, Some, None, refl, sym, ap, subst, ◌∙◌, arith}
use Rattle.std.proofs.lemmas.Bool.{eqb-true}
use Rattle.std.proofs.lemmas.List.Elements.{All-head, All-tail}
use Rattle.csv.specs.Machine.{Read, field_after, fields_after, is_end, next_record, step}
use Rattle.csv.specs.Records.{field_at}
use Rattle.csv.specs.Reading.{AreRecords, Reached, default_config, is_bom, strip_bom}
use Rattle.csv.specs.declared.parser.State.{State}
use Rattle.csv.specs.declared.parser.State.TheVariants as st
use Rattle.tq_event.specs.Loading.{csv_records}
use Rattle.tq_event.proofs.RecordLemmas.{chain-of-records}
use Rattle.tq_load.specs.Feeds.{AreClosed, ends_in_feed, last_of, may_be_open}
use Rattle.tq_load.specs.Parts.{EndsRecords, state_after}

-- ---- the last of some items

pub last_put : {A : Type 0} (xs : List A) (y none : A) → last_of (xs ++ y ∷ []) none ≡ y
unfolding last_of
last_put [] y none = refl
last_put (x ∷ xs) y none = last_put xs y x

pub last_behind : {A : Type 0} (xs : List A) (y : A) (ys : List A) (none other : A) → last_of (xs ++ y ∷ ys) none ≡ last_of (y ∷ ys) other
unfolding last_of
last_behind [] y ys none other = refl
last_behind (x ∷ xs) y ys none other = last_behind xs y ys x other

split_last : {A : Type 0} (x : A) (xs : List A) → (front : List A) × (x ∷ xs ≡ front ++ last_of xs x ∷ [])
unfolding last_of
split_last x [] = ([], refl)
split_last x (y ∷ xs) =
    let (front, is) = split_last y xs in
    (x ∷ front, ap (λ l. x ∷ l) is)

split_feed : (bytes : List ℕ) → ends_in_feed bytes ≡ true → (front : List ℕ) × (bytes ≡ front ++ 10 ∷ [])
unfolding last_of
split_feed [] is = cc is
split_feed (b ∷ bytes) is =
    let (front, split) = split_last b bytes in
    (front, split ∙ ap (λ n. front ++ n ∷ []) (eqb-true (last_of bytes b) 10 is))

open_put : (fields : List (List ℕ)) (front : List ℕ) → may_be_open (fields ++ (front ++ 10 ∷ []) ∷ []) ≡ true
open_put fields front = rw (last_put fields (front ++ 10 ∷ []) [], last_put front 10 0) refl

-- the last item of a list, by its place

last_at : {A : Type 0} (x : A) (xs : List A) → slice_get (x ∷ xs) (length xs) ≡ Some (last_of xs x)
unfolding last_of
last_at x [] = refl
last_at x (y ∷ xs) = last_at y xs

pub last_told : (bytes : List ℕ) (last : ℕ) → Some last ≡ slice_get bytes (length bytes - 1) → last ≡ last_of bytes 0
unfolding last_of
last_told [] last is = cc is
last_told (b ∷ bytes) last is =
    let place : suc (length bytes) - 1 ≡ length bytes = omega arith in
    let found : Some last ≡ Some (last_of bytes b) = is ∙ ap (slice_get (b ∷ bytes)) place ∙ last_at b bytes in
    cc found

pub none_told : (bytes : List ℕ) → None ≡ slice_get bytes (length bytes - 1) → false ≡ ends_in_feed bytes
unfolding last_of
none_told [] is = refl
none_told (b ∷ bytes) is =
    let place : suc (length bytes) - 1 ≡ length bytes = omega arith in
    let found : None ≡ Some (last_of bytes b) = is ∙ ap (slice_get (b ∷ bytes)) place ∙ last_at b bytes in
    cc found

field_last : (field : List ℕ) (fields : List (List ℕ)) → field_at (field ∷ fields) (length fields) ≡ Some (last_of fields field)
unfolding last_of field_at
field_last field [] = refl
field_last field (next ∷ fields) = field_last next fields

pub field_told : (fields : List (List ℕ)) (count : ℕ) (field : List ℕ) → count ≡ length fields → Some field ≡ field_at fields (count - 1) → field ≡ last_of fields []
unfolding last_of field_at
field_told [] count field many is = cc is
field_told (first ∷ fields) count field many is =
    let place : count - 1 ≡ length fields = omega (arith, many) in
    let found : Some field ≡ Some (last_of fields first) = is ∙ ap (field_at (first ∷ fields)) place ∙ field_last first fields in
    cc found

pub no_field_told : (fields : List (List ℕ)) (count : ℕ) → count ≡ length fields → None ≡ field_at fields (count - 1) → false ≡ may_be_open fields
unfolding last_of field_at
no_field_told [] count many is = refl
no_field_told (first ∷ fields) count many is =
    let place : count - 1 ≡ length fields = omega (arith, many) in
    let found : None ≡ Some (last_of fields first) = is ∙ ap (field_at (first ∷ fields)) place ∙ field_last first fields in
    cc found

pub no_fields : (fields : List (List ℕ)) → length fields ≡ 0 → false ≡ may_be_open fields
unfolding last_of
no_fields [] none = refl
no_fields (field ∷ fields) none = absurd (omega (arith, none))

-- ---- reads

-- the rest of bytes that end with a line feed: it ends with one too, or it is empty and a record begins
abbrev IsLeft : State → List ℕ → Type 0
IsLeft s bytes = ((s ≡ st.StartRecord) × (bytes ≡ [])) ⊎ ((front : List ℕ) × (bytes ≡ front ++ 10 ∷ []))

-- a read that found a record: its last field ends with a line feed, or the rest of the bytes is as above and ends in
-- the same state
abbrev Leaves : State → List ℕ → Read → Type 0
Leaves s front p = (may_be_open p.0 ≡ true) ⊎ (IsLeft p.1 p.2 × (state_after s (front ++ 10 ∷ []) ≡ state_after p.1 p.2))

-- the line feed ends the record
ended : (s : State) (fields : List (List ℕ)) (p : Read) → Some (fields, st.StartRecord, []) ≡ Some p → state_after s (10 ∷ []) ≡ st.StartRecord → Leaves s [] p
unfolding state_after
ended s fields p is stands =
    let same : (fields, st.StartRecord, []) ≡ p = cc is in
    subst (Leaves s []) same (inr (inl (refl, refl), stands))

-- the line feed belongs to the last field
joined : (s : State) (fields : List (List ℕ)) (field : List ℕ) (p : Read) → Some (fields ++ (field ++ 10 ∷ []) ∷ [], st.StartRecord, []) ≡ Some p → Leaves s [] p
joined s fields field p is =
    let same : (fields ++ (field ++ 10 ∷ []) ∷ [], st.StartRecord, []) ≡ p = cc is in
    subst (Leaves s []) same (inl (open_put fields field))

record_read : (s : State) (fields : List (List ℕ)) (field front : List ℕ) (p : Read) → next_record default_config s fields field (front ++ 10 ∷ []) ≡ Some p → Leaves s front p
unfolding next_record state_after
record_read st.StartRecord fields field [] p is = cc is
record_read st.AfterCr fields field [] p is = cc is
record_read st.InComment fields field [] p is = cc is
record_read st.StartField fields field [] p is = ended st.StartField (fields ++ field ∷ []) p is refl
record_read st.InField fields field [] p is = ended st.InField (fields ++ field ∷ []) p is refl
record_read st.AfterQuote fields field [] p is = ended st.AfterQuote (fields ++ field ∷ []) p is refl
record_read st.InQuoted fields field [] p is = joined st.InQuoted fields field p is
record_read st.InEscape fields field [] p is = joined st.InEscape fields field p is
record_read s fields field (b ∷ front) p is =
    by (is_end (step default_config s b).1) refl (record_read (step default_config s b).0 (fields_after (step default_config s b).1 fields field) (field_after (step default_config s b).1 b field) front p)
  where
    by : (t : Bool) → is_end (step default_config s b).1 ≡ t
        → (next_record default_config (step default_config s b).0 (fields_after (step default_config s b).1 fields field) (field_after (step default_config s b).1 b field) (front ++ 10 ∷ []) ≡ Some p → Leaves (step default_config s b).0 front p)
        → Leaves s (b ∷ front) p
    by true ends rest =
        let found : Some (fields_after (step default_config s b).1 fields field, (step default_config s b).0, front ++ 10 ∷ []) ≡ Some p = rw ends at is in
        let same : (fields_after (step default_config s b).1 fields field, (step default_config s b).0, front ++ 10 ∷ []) ≡ p = cc found in
        subst (Leaves s (b ∷ front)) same (inr (inr (front, refl), refl))
    by false ends rest = rest (rw ends at is)

-- after a read that found no record, the reader is at the start of a record
none_read : (s : State) (fields : List (List ℕ)) (field front : List ℕ) → next_record default_config s fields field (front ++ 10 ∷ []) ≡ None → state_after s (front ++ 10 ∷ []) ≡ st.StartRecord
unfolding next_record state_after
none_read st.StartRecord fields field [] is = refl
none_read st.AfterCr fields field [] is = refl
none_read st.InComment fields field [] is = refl
none_read st.StartField fields field [] is = refl
none_read st.InField fields field [] is = refl
none_read st.AfterQuote fields field [] is = refl
none_read st.InQuoted fields field [] is = cc is
none_read st.InEscape fields field [] is = cc is
none_read s fields field (b ∷ front) is =
    by (is_end (step default_config s b).1) refl (none_read (step default_config s b).0 (fields_after (step default_config s b).1 fields field) (field_after (step default_config s b).1 b field) front)
  where
    by : (t : Bool) → is_end (step default_config s b).1 ≡ t
        → (next_record default_config (step default_config s b).0 (fields_after (step default_config s b).1 fields field) (field_after (step default_config s b).1 b field) (front ++ 10 ∷ []) ≡ None
        → state_after (step default_config s b).0 (front ++ 10 ∷ []) ≡ st.StartRecord)
        → state_after s (b ∷ front ++ 10 ∷ []) ≡ st.StartRecord
    by true ends rest = let found = rw ends at is in cc found
    by false ends rest = rest (rw ends at is)

-- if no record's last field ends with a line feed, the reader is at the start of a record after them all
all_read : (s : State) (bytes : List ℕ) (rows : List (List (List ℕ))) → IsLeft s bytes → AreRecords default_config s bytes rows → AreClosed rows → state_after s bytes ≡ st.StartRecord
unfolding Reached state_after next_record
all_read s bytes rows (inl (state, none)) are closed = rw (state, none) refl
all_read s bytes [] (inr (front, split)) (s2, rest, (state, text), ended) closed =
    let gone : next_record default_config s [] [] (front ++ 10 ∷ []) ≡ None = ap (next_record default_config s [] []) (sym split) ∙ rw (state, text) ended in
    rw split (none_read s [] [] front gone)
all_read s bytes (row ∷ rows) (inr (front, split)) (s2, rest, (p, found, head, chain), ended) closed =
    by (record_read s [] [] front p (ap (next_record default_config s [] []) (sym split) ∙ found)) (λ left. all_read p.1 p.2 rows left (s2, rest, chain, ended) (All-tail (λ fields. may_be_open fields ≡ false) row rows closed))
  where
    by : Leaves s front p → (IsLeft p.1 p.2 → state_after p.1 p.2 ≡ st.StartRecord) → state_after s bytes ≡ st.StartRecord
    by (inl ends) more =
        let shut : may_be_open p.0 ≡ false = ap may_be_open (sym head) ∙ All-head (λ fields. may_be_open fields ≡ false) row rows closed in
        cc (ends, shut)
    by (inr (left, same)) more = ap (state_after s) split ∙ same ∙ more left

-- ---- bytes with a byte order mark or none

stripped_feed : (front : List ℕ) → (rest : List ℕ) × (strip_bom (front ++ 10 ∷ []) ≡ rest ++ 10 ∷ [])
unfolding strip_bom
stripped_feed [] = ([], refl)
stripped_feed (a ∷ []) = (a ∷ [], refl)
stripped_feed (a ∷ b ∷ []) = (a ∷ b ∷ [], by (a == 0xEF) (b == 0xBB) refl refl)
  where
    by : (first second : Bool) → (a == 0xEF) ≡ first → (b == 0xBB) ≡ second → strip_bom (a ∷ b ∷ 10 ∷ []) ≡ a ∷ b ∷ 10 ∷ []
    by true true is and = rw (is, and) refl
    by true false is and = rw (is, and) refl
    by false second is and = rw is refl
stripped_feed (a ∷ b ∷ c ∷ front) = by (is_bom a b c) refl
  where
    by : (mark : Bool) → is_bom a b c ≡ mark → (rest : List ℕ) × (strip_bom (a ∷ b ∷ c ∷ (front ++ 10 ∷ [])) ≡ rest ++ 10 ∷ [])
    by true is = (front, rw is refl)
    by false is = (a ∷ b ∷ c ∷ front, rw is refl)

-- bytes that end with a line feed, with no record whose last field ends with one, end where a record begins
pub closed_ends : (bytes : List ℕ) → ends_in_feed bytes ≡ true → AreClosed (csv_records bytes) → EndsRecords bytes
closed_ends bytes feed closed =
    let (front, split) = split_feed bytes feed in
    let (rest, left) = stripped_feed front in
    all_read st.StartRecord (strip_bom bytes) (csv_records bytes) (inr (rest, ap strip_bom split ∙ left)) (chain-of-records default_config (strip_bom bytes)) closed
