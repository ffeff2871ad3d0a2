-- The state machine of the `csv` crate over bytes that end where a record begins: it finds the same records with or
-- without more bytes after them.
use Rattle.std.proofs.Common.{◌≡◌, ℕ, ◌==◌, Bool, true, false, ◌⊎◌, inl, inr, List, [], ◌∷◌, ◌++◌, Some, None, refl, sym, subst}
use Rattle.std.proofs.lemmas.Bool.{eqb-true}
use Rattle.csv.specs.Machine.{Read, field_after, fields_after, in_field, is_end, next_record, start_record, step}
use Rattle.csv.specs.Reading.{default_config}
use Rattle.csv.specs.declared.parser.Action.{Action}
use Rattle.csv.specs.declared.parser.State.{State}
use Rattle.csv.specs.declared.parser.State.TheVariants as st
use Rattle.csv.specs.declared.parser.Action.TheVariants as act
use Rattle.tq_load.specs.Parts.{state_after}

-- ---- states

-- between two records
abbrev pub IsBetween : State → Type 0
IsBetween st.StartRecord = Unit {0}
IsBetween st.AfterCr = Unit {0}
IsBetween st.StartField = ⊥
IsBetween st.InField = ⊥
IsBetween st.InQuoted = ⊥
IsBetween st.AfterQuote = ⊥
IsBetween st.InEscape = ⊥
IsBetween st.InComment = ⊥

-- within a record
abbrev pub IsWithin : State → Type 0
IsWithin st.StartRecord = ⊥
IsWithin st.AfterCr = ⊥
IsWithin st.StartField = Unit {0}
IsWithin st.InField = Unit {0}
IsWithin st.InQuoted = Unit {0}
IsWithin st.AfterQuote = Unit {0}
IsWithin st.InEscape = ⊥
IsWithin st.InComment = ⊥

-- a byte inside a record ends the record or continues it
record Goes (q : State × Action) : Type 0 where
  pub ended : is_end q.1 ≡ true → IsBetween q.0
  pub left : is_end q.1 ≡ false → IsWithin q.0

left_in : (s : State) (a : Action) → IsWithin s → is_end a ≡ false → Goes (s, a)
left_in s a within none = record { ended = λ e. cc (none, e); left = λ e. within }

ended_at : (s : State) → IsBetween s → Goes (s, act.EndRecord)
ended_at s between = record { ended = λ e. between; left = λ e. cc e }

field_goes : (b : ℕ) → Goes (in_field default_config b)
field_goes b = by (b == 44) (b == 13) (b == 10) refl refl refl
  where
    by : (comma return feed : Bool) → (b == 44) ≡ comma → (b == 13) ≡ return → (b == 10) ≡ feed → Goes (in_field default_config b)
    by true return feed is r f = rw is (left_in st.StartField act.EndField tt refl)
    by false true feed c is f = rw (c, is) (ended_at st.AfterCr tt)
    by false false true c r is = rw (c, r, is) (ended_at st.StartRecord tt)
    by false false false c r f = rw (c, r, f) (left_in st.InField act.Copy tt refl)

within_goes : (s : State) → IsWithin s → (b : ℕ) → Goes (step default_config s b)
within_goes st.StartField within b = by (b == 34) refl
  where
    by : (quote : Bool) → (b == 34) ≡ quote → Goes (step default_config st.StartField b)
    by true is = rw is (left_in st.InQuoted act.Skip tt refl)
    by false is = rw is (field_goes b)
within_goes st.InField within b = field_goes b
within_goes st.InQuoted within b = by (b == 34) refl
  where
    by : (quote : Bool) → (b == 34) ≡ quote → Goes (step default_config st.InQuoted b)
    by true is = rw is (left_in st.AfterQuote act.Skip tt refl)
    by false is = rw is (left_in st.InQuoted act.Copy tt refl)
within_goes st.AfterQuote within b = by (b == 34) refl
  where
    by : (quote : Bool) → (b == 34) ≡ quote → Goes (step default_config st.AfterQuote b)
    by true is = rw is (left_in st.InQuoted act.Copy tt refl)
    by false is = rw is (field_goes b)
within_goes st.StartRecord within b = absurd within
within_goes st.AfterCr within b = absurd within
within_goes st.InEscape within b = absurd within
within_goes st.InComment within b = absurd within

-- it begins a record
record Begins (q : State × Action) : Type 0 where
  pub none : is_end q.1 ≡ false
  pub within : IsWithin q.0

start_goes : (b : ℕ) → (start_record default_config b ≡ (st.StartRecord, act.Skip)) ⊎ Begins (start_record default_config b)
start_goes b = by (b == 44) (b == 13) (b == 10) (b == 34) refl refl refl refl
  where
    by : (comma return feed quote : Bool) → (b == 44) ≡ comma → (b == 13) ≡ return → (b == 10) ≡ feed → (b == 34) ≡ quote
        → (start_record default_config b ≡ (st.StartRecord, act.Skip)) ⊎ Begins (start_record default_config b)
    by comma true feed quote c is f q = inl (rw is refl)
    by comma false true quote c r is q = inl (rw (r, is) refl)
    by comma false false true c r f is = inr (rw (r, f, is) (record { none = refl; within = tt }))
    by true false false false is r f q = inr (rw (r, f, q, is) (record { none = refl; within = tt }))
    by false false false false c r f q = inr (rw (r, f, q, c) (record { none = refl; within = tt }))

-- after a carriage return a byte does what it does at the start of a record
after_return : (b : ℕ) → step default_config st.AfterCr b ≡ start_record default_config b
after_return b = by (b == 10) refl
  where
    by : (feed : Bool) → (b == 10) ≡ feed → step default_config st.AfterCr b ≡ start_record default_config b
    by true is = let at : b ≡ 10 = eqb-true b 10 is in rw at refl
    by false other = rw other refl

between_goes : (s : State) → IsBetween s → (b : ℕ) → (step default_config s b ≡ (st.StartRecord, act.Skip)) ⊎ Begins (step default_config s b)
between_goes st.StartRecord between b = start_goes b
between_goes st.AfterCr between b = subst (λ q. (q ≡ (st.StartRecord, act.Skip)) ⊎ Begins q) (sym (after_return b)) (start_goes b)
between_goes st.StartField between b = absurd between
between_goes st.InField between b = absurd between
between_goes st.InQuoted between b = absurd between
between_goes st.AfterQuote between b = absurd between
between_goes st.InEscape between b = absurd between
between_goes st.InComment between b = absurd between

-- ---- reads

-- the machine finds a record in the bytes, whatever follows them, and then is at the start of a record
pub record Found (s : State) (fields : List (List ℕ)) (field bytes : List ℕ) : Type 0 where
  pub read : Read
  pub here : next_record default_config s fields field bytes ≡ Some read
  pub between : IsBetween read.1
  pub ends : state_after read.1 read.2 ≡ st.StartRecord
  pub before : (more : List ℕ) → next_record default_config s fields field (bytes ++ more) ≡ Some (read.0, read.1, read.2 ++ more)

-- a byte that does not end a record
later : (s : State) (fields : List (List ℕ)) (field : List ℕ) (b : ℕ) (bytes : List ℕ) → is_end (step default_config s b).1 ≡ false
    → Found (step default_config s b).0 (fields_after (step default_config s b).1 fields field) (field_after (step default_config s b).1 b field) bytes
    → Found s fields field (b ∷ bytes)
unfolding next_record
later s fields field b bytes none found = record {
  read = found.read;
  here = rw none found.here;
  between = found.between;
  ends = found.ends;
  before = λ more. rw none (found.before more);
}

-- within a record
within_found : (s : State) (fields : List (List ℕ)) (field bytes : List ℕ) → IsWithin s → state_after s bytes ≡ st.StartRecord → Found s fields field bytes
unfolding next_record state_after
within_found s fields field [] within ends = absurd (subst IsWithin ends within)
within_found s fields field (b ∷ bytes) within ends =
    by (is_end (step default_config s b).1) refl
    (λ on. within_found (step default_config s b).0 (fields_after (step default_config s b).1 fields field) (field_after (step default_config s b).1 b field) bytes on ends)
  where
    by : (t : Bool) → is_end (step default_config s b).1 ≡ t
        → (IsWithin (step default_config s b).0 → Found (step default_config s b).0 (fields_after (step default_config s b).1 fields field) (field_after (step default_config s b).1 b field) bytes)
        → Found s fields field (b ∷ bytes)
    by true is rest = record {
      read = (fields_after (step default_config s b).1 fields field, (step default_config s b).0, bytes);
      here = rw is refl;
      between = (within_goes s within b).ended is;
      ends = ends;
      before = λ more. rw is refl;
    }
    by false is rest = later s fields field b bytes is (rest ((within_goes s within b).left is))

-- no record begins in the bytes, and after them the machine is at the start of one
pub record Passes (s : State) (bytes : List ℕ) : Type 0 where
  pub none : next_record default_config s [] [] bytes ≡ None
  pub behind : (more : List ℕ) → next_record default_config s [] [] (bytes ++ more) ≡ next_record default_config st.StartRecord [] [] more

-- between two records, the bytes hold one or none
pub between_read : (s : State) (bytes : List ℕ) → IsBetween s → state_after s bytes ≡ st.StartRecord → Found s [] [] bytes ⊎ Passes s bytes
unfolding next_record state_after
between_read s [] between ends = inr (rw ends (record { none = refl; behind = λ more. refl }))
between_read s (b ∷ bytes) between ends = by (between_goes s between b) (λ on over. between_read (step default_config s b).0 bytes on over)
  where
    by : (step default_config s b ≡ (st.StartRecord, act.Skip)) ⊎ Begins (step default_config s b)
        → (IsBetween (step default_config s b).0 → state_after (step default_config s b).0 bytes ≡ st.StartRecord → Found (step default_config s b).0 [] [] bytes ⊎ Passes (step default_config s b).0 bytes)
        → Found s [] [] (b ∷ bytes) ⊎ Passes s (b ∷ bytes)
    by (inl is) rest = skipped (rw is at rest tt (rw is at ends))
      where
        skipped : Found st.StartRecord [] [] bytes ⊎ Passes st.StartRecord bytes → Found s [] [] (b ∷ bytes) ⊎ Passes s (b ∷ bytes)
        skipped (inl found) = inl (later s [] [] b bytes (rw is refl) (rw is found))
        skipped (inr passes) = inr (record { none = rw is passes.none; behind = λ more. rw is (passes.behind more) })
    by (inr begins) rest =
        inl (later s [] [] b bytes begins.none (within_found (step default_config s b).0 (fields_after (step default_config s b).1 [] []) (field_after (step default_config s b).1 b []) bytes begins.within ends))
