-- If a record begins after the bytes, the records of the whole are those of the bytes, then those of what follows.
use Rattle.std.proofs.Common.{◌≡◌, ℕ, Bool, true, false, inl, inr, List, [], ◌∷◌, ◌++◌, None, refl, sym, ap, ◌∙◌, ◌⊎◌, ◌==◌, ◌&&◌, if◌then◌else◌}
use Rattle.std.proofs.lemmas.Bool.{eqb-true}
use Rattle.csv.specs.Machine.{Read, next_record, step}
use Rattle.csv.specs.Reading.{AreRecords, Reached, default_config, is_bom, records, strip_bom}
use Rattle.csv.specs.declared.parser.State.{State}
use Rattle.csv.specs.declared.parser.State.TheVariants as st
use Rattle.tq_event.specs.Loading.{begins_with_bom, csv_records}
use Rattle.tq_event.proofs.RecordLemmas.{chain-of-records}
use Rattle.tq_load.specs.Parts.{EndsRecords, state_after}
use Rattle.tq_load.proofs.StateLemmas.{Found, IsBetween, Passes, between_read}

-- ---- chains of reads

-- chains of reads from two places are equal if their next read is the same
moved : (s t : State) (xs ys : List ℕ) (rows : List (List (List ℕ))) → next_record default_config s [] [] xs ≡ next_record default_config t [] [] ys → AreRecords default_config t ys rows → AreRecords default_config s xs rows
unfolding Reached
moved s t xs ys [] same (s2, rest, (state, text), ended) = (s, xs, (refl, refl), same ∙ rw (state, text) ended)
moved s t xs ys (row ∷ rows) same (s2, rest, (p, first, head, chain), ended) = (s2, rest, (p, same ∙ first, head, chain), ended)

-- a text has one list of records
pub one_chain : (s : State) (xs : List ℕ) (a b : List (List (List ℕ))) → AreRecords default_config s xs a → AreRecords default_config s xs b → a ≡ b
unfolding Reached
one_chain s xs [] [] h k = refl
one_chain s xs [] (r ∷ b) (s2, ys, (state, text), ended) (t2, zs, (p, first, head, chain), over) =
    let gone : next_record default_config s [] [] xs ≡ None = rw (state, text) ended in
    cc (first, gone)
one_chain s xs (r ∷ a) [] (t2, zs, (p, first, head, chain), over) (s2, ys, (state, text), ended) =
    let gone : next_record default_config s [] [] xs ≡ None = rw (state, text) ended in
    cc (first, gone)
one_chain s xs (r ∷ a) (q ∷ b) (s2, ys, (p, first, head, chain), ended) (t2, zs, (p2, first2, head2, chain2), over) =
    let same : p2 ≡ p = cc (first, first2) in
    let rest : a ≡ b = one_chain p.1 p.2 a b (s2, ys, chain, ended) (t2, zs, rw same at chain2, over) in
    rw (head, head2, same, rest) refl

-- the records of bytes after which a record begins, then those of what follows
pub chains : (s : State) (xs more : List ℕ) (a b : List (List (List ℕ))) → IsBetween s → state_after s xs ≡ st.StartRecord → AreRecords default_config s xs a → AreRecords default_config st.StartRecord more b
    → AreRecords default_config s (xs ++ more) (a ++ b)
unfolding Reached
chains s xs more [] b between ends (s2, ys, (state, text), ended) after = by (between_read s xs between ends)
  where
    gone : next_record default_config s [] [] xs ≡ None
    gone = rw (state, text) ended

    by : Found s [] [] xs ⊎ Passes s xs → AreRecords default_config s (xs ++ more) b
    by (inl found) = cc (found.here, gone)
    by (inr passes) = moved s st.StartRecord (xs ++ more) more b (passes.behind more) after
chains s xs more (r ∷ a) b between ends (s2, ys, (p, first, head, chain), ended) after =
    by (λ t zs at over chained. chains t zs more a b at over (s2, ys, chained, ended) after) (between_read s xs between ends)
  where
    step_on : ((t : State) (zs : List ℕ) → IsBetween t → state_after t zs ≡ st.StartRecord → Reached default_config t zs a s2 ys → AreRecords default_config t (zs ++ more) (a ++ b)) → (found : Found s [] [] xs) → p ≡ found.read → AreRecords default_config s (xs ++ more) (r ∷ (a ++ b))
    step_on later found is =
        let (t, zs, whole, over) = later found.read.1 found.read.2 found.between found.ends (rw is at chain) in
        (t, zs, ((found.read.0, found.read.1, found.read.2 ++ more), found.before more, head ∙ ap (λ (q : Read). q.0) is, whole), over)

    by : ((t : State) (zs : List ℕ) → IsBetween t → state_after t zs ≡ st.StartRecord → Reached default_config t zs a s2 ys → AreRecords default_config t (zs ++ more) (a ++ b)) → Found s [] [] xs ⊎ Passes s xs → AreRecords default_config s (xs ++ more) (r ∷ (a ++ b))
    by later (inl found) = step_on later found (cc (first, found.here))
    by later (inr passes) = cc (first, passes.none)

-- ---- byte order marks

pub no_bom : (bytes : List ℕ) → begins_with_bom bytes ≡ false → strip_bom bytes ≡ bytes
unfolding strip_bom
no_bom [] none = refl
no_bom (a ∷ []) none = refl
no_bom (a ∷ b ∷ []) none = refl
no_bom (a ∷ b ∷ c ∷ rest) none = rw none refl

-- bytes after which a record begins treat their byte order mark the same way with or without more bytes after them
pub stripped : (bytes more : List ℕ) → EndsRecords bytes → (bytes ≡ [] → begins_with_bom more ≡ false) → strip_bom (bytes ++ more) ≡ strip_bom bytes ++ more
unfolding strip_bom state_after
stripped [] more ends none = no_bom more (none refl)
stripped (a ∷ []) more ends none = one more
  where
    other : (mark : Bool) → (a == 0xEF) ≡ mark → (a == 0xEF) ≡ false
    other true is = let at : a ≡ 0xEF = eqb-true a 0xEF is in cc (rw at at ends)
    other false is = is

    one : (more : List ℕ) → strip_bom (a ∷ more) ≡ a ∷ more
    one [] = refl
    one (b ∷ []) = refl
    one (b ∷ c ∷ more) = rw (other (a == 0xEF) refl) refl
stripped (a ∷ b ∷ []) [] ends none = refl
stripped (a ∷ b ∷ []) (c ∷ more) ends none = rw (other (a == 0xEF) (b == 0xBB) refl refl) refl
  where
    other : (first second : Bool) → (a == 0xEF) ≡ first → (b == 0xBB) ≡ second → ((a == 0xEF) && (b == 0xBB) && (c == 0xBF)) ≡ false
    other true true is and =
        let at : a ≡ 0xEF = eqb-true a 0xEF is in
        let next : b ≡ 0xBB = eqb-true b 0xBB and in
        cc (rw (at, next) at ends)
    other true false is and = rw (is, and) refl
    other false second is and = rw is refl
stripped (a ∷ b ∷ c ∷ bytes) more ends none = by (is_bom a b c)
  where
    by : (mark : Bool) → (if mark then bytes ++ more else a ∷ b ∷ c ∷ (bytes ++ more)) ≡ (if mark then bytes else a ∷ b ∷ c ∷ bytes) ++ more
    by true = refl
    by false = refl

pub records_apart : (bytes more : List ℕ) → EndsRecords bytes → begins_with_bom more ≡ false → csv_records (bytes ++ more) ≡ csv_records bytes ++ csv_records more
records_apart bytes more ends none =
    ap (records default_config) (stripped bytes more ends (λ e. none))
    ∙ one_chain st.StartRecord (strip_bom bytes ++ more) (records default_config (strip_bom bytes ++ more)) (csv_records bytes ++ records default_config more)
    (chain-of-records default_config (strip_bom bytes ++ more))
    (chains st.StartRecord (strip_bom bytes) more (csv_records bytes) (records default_config more) tt ends (chain-of-records default_config (strip_bom bytes)) (chain-of-records default_config more))
    ∙ ap (λ l. csv_records bytes ++ records default_config l) (sym (no_bom more none))

-- ---- with more bytes after them

pub stands_on : (s : State) (xs ys : List ℕ) → state_after s (xs ++ ys) ≡ state_after (state_after s xs) ys
unfolding state_after
stands_on s [] ys = refl
stands_on s (b ∷ xs) ys = stands_on (step default_config s b).0 xs ys

-- from a place where a record begins, the reader ends in the same state as over all bytes
pub ends_on : (bytes more : List ℕ) → EndsRecords bytes → (bytes ≡ [] → begins_with_bom more ≡ false) → state_after st.StartRecord (strip_bom (bytes ++ more)) ≡ state_after st.StartRecord more
ends_on bytes more ends none =
    ap (state_after st.StartRecord) (stripped bytes more ends none)
    ∙ stands_on st.StartRecord (strip_bom bytes) more
    ∙ ap (λ s. state_after s more) ends
