-- The rows of a table after one more event, and the rows of every table.
use Rattle.std.proofs.Common.{◌≡◌, ◌≢◌, ℕ, zero, suc, ◌+◌, ◌%◌, ◌<◌, ◌==◌, ◌&&◌, not, Bool, true, false, if◌then◌else◌, List, [], ◌∷◌, ◌++◌, Option, Some, None, length, map, take, slice_get, slice_set, refl, sym, ap, subst, ◌∙◌, ◌⊎◌, inl, inr, arith}
use Rattle.std.specs.Prelude.{◌||◌, IsSomeAnd, FitsSigned, is_some}
use Rattle.std.specs.Option.{option_map, option_map_or}
use Rattle.std.specs.Ordering.{eq_by_cmp, nat_cmp}
use Rattle.std.specs.Int.{w64}
use Rattle.std.proofs.lemmas.Bool.{eqb-true}
use Rattle.std.proofs.lemmas.List.{map-append, take_all, take_more}
use Rattle.std.proofs.lemmas.Option.{get_or_from_slice_get, slice_get-map, slice_get_past, slice_get_within}
use Rattle.tq_base.specs.declared.catalogue.Catalogue.{Catalogue}
use Rattle.tq_base.specs.declared.period.TheConstants.{FOREVER}
use Rattle.tq_base.specs.declared.value.Value.{Value}
use Rattle.tq_base.specs.KeyRanges.{key_of}
use Rattle.tq_event.specs.declared.event.Event.{Event}
use Rattle.tq_event.specs.declared.event.Event.TheVariants.{Start, End}
use Rattle.tq_event.specs.History.{IsAdmissible, IsHistory, end_of, rows_from, time_of}
use Rattle.tq_event.specs.Recorded.{table_of}
use Rattle.tq_event.specs.Versions.{Life, ending_of, row_lives, row_lives_from}
use Rattle.tq_snapshot.specs.declared.open_index.TableRows.{TableRows}
use Rattle.tq_store.specs.Index.{AreRowLives, CanTake, IsOpenAt, IsRowLife}
use Rattle.tq_snapshot.specs.OpenRows.{has, index_key}
use Rattle.tq_snapshot.specs.OpenIndex.{AreTableRows, MayFollow, is_open_as, is_open_under, next_row}
use Rattle.tq_store.proofs.AdmissibleLemmas.{fit_key, known_table, open_at}
use Rattle.tq_store.proofs.IndexLemmas.{get_last, get_push, get_set_other, get_set_same, length_push, set_length, start_stands}
use Rattle.tq_snapshot.proofs.OpenRowsLemmas.{and-false, and-yes, number_other, or-false, place_row}
use Rattle.tq_store.proofs.LifeLemmas.{ended_at, eqb-other, eqb-same, lives_end, lives_other, lives_start}

-- ---- the number of rows

length-map : {X Y : Type 0} (f : X → Y) (xs : List X) → length (map f xs) ≡ length xs
length-map f [] = refl
length-map f (x ∷ xs) = ap suc (length-map f xs)

pub rows_counted : (es : List Event) (t : ℕ) (rows : TableRows) → AreTableRows es t rows → length rows.starts.items ≡ length (row_lives es t)
rows_counted es t rows is = ap length is.starts ∙ length-map (λ (l : Life). l.start) (row_lives es t)

rows_length : (t next k : ℕ) (es : List Event) → length (rows_from t next es) ≡ length (row_lives_from t next k es)
rows_length t next k [] = refl
rows_length t next k (Start u v at ∷ es) = by (u == t) (rows_length t (next + 1) (k + 1) es) (rows_length t next (k + 1) es)
  where
    by : (b : Bool) → length (rows_from t (next + 1) es) ≡ length (row_lives_from t (next + 1) (k + 1) es) → length (rows_from t next es) ≡ length (row_lives_from t next (k + 1) es)
        → length (if b then record { number = next; values = v; from = at; to = end_of t next es } ∷ rows_from t (next + 1) es else rows_from t next es)
        ≡ length (if b then record { values = v; start = k; from = at; ending = ending_of t next (k + 1) es } ∷ row_lives_from t (next + 1) (k + 1) es else row_lives_from t next (k + 1) es)
    by true one other = ap suc one
    by false one other = other
rows_length t next k (End u r at ∷ es) = rows_length t next (k + 1) es

pub next_row_is : (es : List Event) (t : ℕ) (rows : TableRows) → AreTableRows es t rows → length rows.starts.items ≡ next_row es t
next_row_is es t rows is = rows_counted es t rows is ∙ sym (rows_length t 0 0 es) ∙ sym (ap (λ l. length (rows_from t 0 l)) (take_all (length es) es (omega arith)))

-- ---- the rows that are open under a key

get_push_other : {X : Type 0} → (xs : List X) (y : X) (i : ℕ) → i ≢ length xs → slice_get (xs ++ y ∷ []) i ≡ slice_get xs i
get_push_other [] y zero other = absurd (other refl)
get_push_other [] y (suc i) other = refl
get_push_other (x ∷ xs) y zero other = refl
get_push_other (x ∷ xs) y (suc i) other = get_push_other xs y i (λ same. other (ap suc same))

-- which rows of a list are open after one more row
open_push : (ls : List Life) (l : Life) (k : ℕ) → length ls < 4294967296 → is_open_under (ls ++ l ∷ []) k ≡ (is_open_under ls k || (not (is_some l.ending) && eq_by_cmp nat_cmp (index_key l.values (length ls)) k))
open_push ls l k small = by (k % 4294967296 == length ls) refl
  where
    last : Bool
    last = not (is_some l.ending) && eq_by_cmp nat_cmp (index_key l.values (length ls)) k

    by : (b : Bool) → (k % 4294967296 == length ls) ≡ b → is_open_under (ls ++ l ∷ []) k ≡ (is_open_under ls k || (not (is_some l.ending) && eq_by_cmp nat_cmp (index_key l.values (length ls)) k))
    by true is =
        let at_last : k % 4294967296 ≡ length ls = eqb-true (k % 4294967296) (length ls) is in
        let with_it : is_open_under (ls ++ l ∷ []) k ≡ last =
        ap (λ r. option_map_or (is_open_as k) (slice_get (ls ++ l ∷ []) r) false) at_last ∙ ap (λ o. option_map_or (is_open_as k) o false) (get_last ls l)
        ∙ ap (λ r. not (is_some l.ending) && eq_by_cmp nat_cmp (index_key l.values r) k) at_last in
        let without : is_open_under ls k ≡ false =
        ap (λ r. option_map_or (is_open_as k) (slice_get ls r) false) at_last ∙ ap (λ o. option_map_or (is_open_as k) o false) (slice_get_past ls (length ls) (omega arith)) in
        with_it ∙ sym (ap (λ b. b || last) without)
    by false is =
        let other : k % 4294967296 ≢ length ls = λ same. let wrong : true ≡ false = sym (eqb-same (k % 4294967296)) ∙ ap (λ n. k % 4294967296 == n) same ∙ is in cc in
        let away = number_other (index_key l.values (length ls)) k (λ same. other (sym (ap (λ n. n % 4294967296) same) ∙ place_row l.values (length ls) small)) in
        ap (λ o. option_map_or (is_open_as k) o false) (get_push_other ls l (k % 4294967296) other) ∙ sym (or-false (is_open_under ls k))
        ∙ sym (ap (λ b. is_open_under ls k || b) (ap (λ b. not (is_some l.ending) && b) away ∙ and-false (not (is_some l.ending))))

shut : (a e : Bool) → ((a && e) && not e) ≡ false
shut true true = refl
shut true false = refl
shut false true = refl
shut false false = refl

-- which rows of a list are open after one row has ended
open_set : (ls : List Life) (i : ℕ) (l new : Life) (k : ℕ) → i < 4294967296 → slice_get ls i ≡ Some l → is_open_as k new ≡ false
    → is_open_under (slice_set ls i new) k ≡ (is_open_under ls k && not (eq_by_cmp nat_cmp (index_key l.values i) k))
open_set ls i l new k small stands ended = by (k % 4294967296 == i) refl
  where
    by : (b : Bool) → (k % 4294967296 == i) ≡ b → is_open_under (slice_set ls i new) k ≡ (is_open_under ls k && not (eq_by_cmp nat_cmp (index_key l.values i) k))
    by true is =
        let at_i : k % 4294967296 ≡ i = eqb-true (k % 4294967296) i is in
        let test : Bool = eq_by_cmp nat_cmp (index_key l.values i) k in
        let old_one : is_open_under ls k ≡ (not (is_some l.ending) && test) =
        ap (λ r. option_map_or (is_open_as k) (slice_get ls r) false) at_i ∙ ap (λ o. option_map_or (is_open_as k) o false) stands
        ∙ ap (λ r. not (is_some l.ending) && eq_by_cmp nat_cmp (index_key l.values r) k) at_i in
        ap (λ r. option_map_or (is_open_as k) (slice_get (slice_set ls i new) r) false) at_i
        ∙ ap (λ o. option_map_or (is_open_as k) o false) (get_set_same ls i new (slice_get_within ls i l stands)) ∙ ended
        ∙ sym (shut (not (is_some l.ending)) test)
        ∙ sym (ap (λ b. b && not test) old_one)
    by false is =
        let other : k % 4294967296 ≢ i = λ same. let wrong : true ≡ false = sym (eqb-same (k % 4294967296)) ∙ ap (λ n. k % 4294967296 == n) same ∙ is in cc in
        let away = number_other (index_key l.values i) k (λ same. other (sym (ap (λ n. n % 4294967296) same) ∙ place_row l.values i small)) in
        ap (λ o. option_map_or (is_open_as k) o false) (get_set_other ls i (k % 4294967296) new other) ∙ sym (and-yes (is_open_under ls k))
        ∙ sym (ap (λ b. is_open_under ls k && not b) away)

-- ---- one more event

pub rows_start : (es : List Event) (t : ℕ) (v : List Value) (at : ℕ) (old new : TableRows) → length es < 16777216 → AreTableRows es t old → FitsSigned w64 (key_of v) → at < FOREVER
    → new.starts.items ≡ old.starts.items ++ length es ∷ []
    → ((k : ℕ) → has new.opened k ≡ (has old.opened k || eq_by_cmp nat_cmp (index_key v (length old.starts.items)) k))
    → AreTableRows (es ++ Start t v at ∷ []) t new
rows_start es t v at old new small is fits less starts opened = record {
  starts = starts ∙ ap (λ r. r ++ length es ∷ []) is.starts ∙ sym (map-append (λ (l : Life). l.start) (row_lives es t) (l ∷ [])) ∙ sym (ap (map (λ (l : Life). l.start)) more);
  open_rows = record {
    few =
        let lives = ap length more ∙ length_push (row_lives es t) l in
        let events = length_push es (Start t v at) in
        let le = is.open_rows.few in
        omega (arith, lives, events, le);
    opened = λ k.
        opened k ∙ ap (λ b. b || eq_by_cmp nat_cmp (index_key v (length old.starts.items)) k) (is.open_rows.opened k)
        ∙ ap (λ n. is_open_under (row_lives es t) k || eq_by_cmp nat_cmp (index_key v n) k) (rows_counted es t old is)
        ∙ sym (open_push (row_lives es t) l k (let le = is.open_rows.few in omega (arith, le, small))) ∙ sym (ap (λ ls. is_open_under ls k) more);
  };
  good = λ row x stands. elim (get_push (row_lives es t) l row x (sym (ap (λ ls. slice_get ls row) more) ∙ stands)) [
    | inl w ↦ subst IsRowLife (sym w.1) (record { key = fits; finite = less; lasts = tt; ends = tt })
    | inr here ↦ is.good row x here
  ];
}
  where
    l : Life
    l = record { values = v; start = length es; from = at; ending = None }

    more : row_lives (es ++ Start t v at ∷ []) t ≡ row_lives es t ++ l ∷ []
    more = lives_start t 0 0 (length es) es v at (omega arith)

-- an element of a list after one element was changed
set_case : {X : Type 0} → (xs : List X) (i : ℕ) (v : X) (row : ℕ) (x : X) → i < length xs → slice_get (slice_set xs i v) row ≡ Some x → (x ≡ v) ⊎ (slice_get xs row ≡ Some x)
set_case xs i v row x less here = by (row == i) refl
  where
    by : (b : Bool) → (row == i) ≡ b → (x ≡ v) ⊎ (slice_get xs row ≡ Some x)
    by true is =
        let at_i : row ≡ i = eqb-true row i is in
        let both : Some v ≡ Some x = sym (get_set_same xs i v less) ∙ sym (ap (slice_get (slice_set xs i v)) at_i) ∙ here in
        inl (let same : v ≡ x = cc in sym same)
    by false is =
        let away : row ≢ i = λ at_i. let wrong : true ≡ false = sym (eqb-same row) ∙ ap (λ n. row == n) at_i ∙ is in cc in
        inr (sym (get_set_other xs i row v away) ∙ here)

-- a list whose changed element has the same image has the same images
set_seen : {X Y : Type 0} → (f : X → Y) (xs : List X) (i : ℕ) (old new : X) → slice_get xs i ≡ Some old → f new ≡ f old → map f (slice_set xs i new) ≡ map f xs
set_seen f [] i old new here same = absurd (cc)
set_seen f (x ∷ xs) zero old new here same = let first : x ≡ old = cc in ap (λ y. y ∷ map f xs) (same ∙ sym (ap f first))
set_seen f (x ∷ xs) (suc i) old new here same = ap (λ ys. f x ∷ ys) (set_seen f xs i old new here same)

pub rows_end : (es : List Event) (t row at : ℕ) (old new : TableRows) (l : Life) → length es < 16777216 → AreTableRows es t old → at < FOREVER
    → slice_get (row_lives es t) row ≡ Some l → l.ending ≡ None → l.from < at
    → new.starts.items ≡ old.starts.items
    → ((k : ℕ) → has new.opened k ≡ (has old.opened k && not (eq_by_cmp nat_cmp (index_key l.values row) k)))
    → AreTableRows (es ++ End t row at ∷ []) t new
rows_end es t row at old new l small is finite stands none less starts opened = record {
  starts = starts ∙ is.starts ∙ sym (set_seen (λ (l : Life). l.start) (row_lives es t) row l (ended_at (length es) at l) stands refl) ∙ sym (ap (map (λ (l : Life). l.start)) more);
  open_rows = record {
    few =
        let lives = ap length more ∙ set_length (row_lives es t) row (ended_at (length es) at l) in
        let events = length_push es (End t row at) in
        let le = is.open_rows.few in
        omega (arith, lives, events, le);
    opened = λ k.
        opened k ∙ ap (λ b. b && not (eq_by_cmp nat_cmp (index_key l.values row) k)) (is.open_rows.opened k)
        ∙ sym (open_set (row_lives es t) row l (ended_at (length es) at l) k (let within = slice_get_within (row_lives es t) row l stands in let le = is.open_rows.few in omega (arith, within, le, small)) stands refl)
        ∙ sym (ap (λ ls. is_open_under ls k) more);
  };
  good = λ r x here. elim (set_case (row_lives es t) row (ended_at (length es) at l) r x (slice_get_within (row_lives es t) row l stands) (sym (ap (λ ls. slice_get ls r) more) ∙ here)) [
    | inl same ↦ subst IsRowLife (sym same) (record { key = life.key; finite = life.finite; lasts = (less, slice_get_within es l.start (Start t l.values l.from) (start_stands es t row l stands)); ends = finite })
    | inr there ↦ is.good r x there
  ];
}
  where
    life : IsRowLife l
    life = is.good row l stands

    more : row_lives (es ++ End t row at ∷ []) t ≡ slice_set (row_lives es t) row (ended_at (length es) at l)
    more = lives_end t 0 0 (length es) row row at l es (omega arith) (omega arith) stands none

rows_other : (es : List Event) (t : ℕ) (e : Event) (rows : TableRows) → AreTableRows es t rows → (table_of e == t) ≡ false → AreTableRows (es ++ e ∷ []) t rows
rows_other es t e rows is other = record {
  starts = is.starts ∙ sym (ap (map (λ (l : Life). l.start)) same);
  open_rows = record {
    few = let lives = ap length same in let events = length_push es e in let le = is.open_rows.few in omega (arith, lives, events, le);
    opened = λ k. is.open_rows.opened k ∙ sym (ap (λ ls. is_open_under ls k) same);
  };
  good = λ row x stands. is.good row x (sym (ap (λ ls. slice_get ls row) same) ∙ stands);
}
  where
    same : row_lives (es ++ e ∷ []) t ≡ row_lives es t
    same = lives_other t 0 0 es e other

-- ---- every table

module _ (es : List Event) (tables : List TableRows) (t : ℕ) (new : TableRows) (each : (u : ℕ) (rows : TableRows) → slice_get tables u ≡ Some rows → AreTableRows es u rows) (less : t < length tables) where
  set_rows : (more : List Event) → AreTableRows more t new → ((u : ℕ) (rows : TableRows) → u ≢ t → AreTableRows es u rows → AreTableRows more u rows)
      → (u : ℕ) (rows : TableRows) → slice_get (slice_set tables t new) u ≡ Some rows → AreTableRows more u rows
  set_rows more is others u rows here = by (u == t) refl
    where
      by : (b : Bool) → (u == t) ≡ b → AreTableRows more u rows
      by true at_t =
          let same : u ≡ t = eqb-true u t at_t in
          let both : Some new ≡ Some rows = sym (get_set_same tables t new less) ∙ sym (ap (slice_get (slice_set tables t new)) same) ∙ here in
          let rows_is : new ≡ rows = cc in
          subst (λ n. AreTableRows more n rows) (sym same) (subst (AreTableRows more t) rows_is is)
      by false at_t =
          let away : u ≢ t = λ same. let wrong : true ≡ false = sym (eqb-same u) ∙ ap (λ n. u == n) same ∙ at_t in cc in
          others u rows away (each u rows (sym (get_set_other tables t u new away) ∙ here))

  pub tables_kept : AreTableRows es t new → (u : ℕ) (rows : TableRows) → slice_get (slice_set tables t new) u ≡ Some rows → AreTableRows es u rows
  tables_kept is = set_rows es is (λ u rows away old. old)

  pub tables_after : (e : Event) → table_of e ≡ t → AreTableRows (es ++ e ∷ []) t new → (u : ℕ) (rows : TableRows) → slice_get (slice_set tables t new) u ≡ Some rows → AreTableRows (es ++ e ∷ []) u rows
  tables_after e of_table is = set_rows (es ++ e ∷ []) is (λ u rows away old. rows_other es u e rows old (eqb-other (table_of e) u (λ same. away (sym same ∙ of_table))))

-- ---- events that may follow

pub table_within : (tables : ℕ) (es : List Event) (e : Event) → MayFollow tables es e → table_of e < tables
table_within tables es e may = let less = known_table may.catalogue es e may.admissible.1 in omega (arith, less, may.same)

pub can_follow : (tables : ℕ) (es : List Event) (e : Event) → MayFollow tables es e → AreRowLives es (table_of e) → time_of e < FOREVER → CanTake es e
can_follow tables es (Start t v at) may good finite = (by (slice_get may.catalogue.tables t) may.admissible.1, finite)
  where
    by : (o : Option Rattle.tq_base.specs.declared.catalogue.Schema.Schema) → IsSomeAnd o (λ s. Rattle.tq_base.specs.Catalogues.Fit s.columns v) → FitsSigned w64 (key_of v)
    by None can = absurd can
    by (Some s) can = fit_key s.columns v can
can_follow tables es (End t r at) may good finite = (open_at es t r at good may.admissible.1.1, finite)

-- ---- the event that starts a row

-- the number is that of the event that starts the row
pub record IsStarted (es : List Event) (t row number : ℕ) : Type 0 where
  pub life : Life
  pub stands : slice_get (row_lives es t) row ≡ Some life
  pub same : number ≡ life.start

pub started : (es : List Event) (t row number : ℕ) (rows : TableRows) → AreTableRows es t rows → slice_get rows.starts.items row ≡ Some number → IsStarted es t row number
started es t row number rows is here =
    by (slice_get (row_lives es t) row) refl (sym (slice_get-map (λ (l : Life). l.start) (row_lives es t) row) ∙ sym (ap (λ r. slice_get r row) is.starts) ∙ here)
  where
    by : (o : Option Life) → slice_get (row_lives es t) row ≡ o → option_map (λ (l : Life). l.start) o ≡ Some number → IsStarted es t row number
    by None stands there = absurd (cc)
    by (Some l) stands there = record { life = l; stands = stands; same = let same : l.start ≡ number = cc in sym same }

pub start_there : (es : List Event) (t row number : ℕ) → (s : IsStarted es t row number) → slice_get es number ≡ Some (Start t s.life.values s.life.from)
start_there es t row number s = ap (slice_get es) s.same ∙ start_stands es t row s.life s.stands

pub start_is : (es : List Event) (t row number : ℕ) (e : Event) → (s : IsStarted es t row number) → slice_get es number ≡ Some e → e ≡ Start t s.life.values s.life.from
start_is es t row number e s here = let both : Some e ≡ Some (Start t s.life.values s.life.from) = sym here ∙ start_there es t row number s in cc

pub same_life : (es : List Event) (t row number : ℕ) (l : Life) → (s : IsStarted es t row number) → slice_get (row_lives es t) row ≡ Some l → s.life ≡ l
same_life es t row number l s stands = let both : Some s.life ≡ Some l = sym s.stands ∙ stands in cc

-- ---- a row that is open at an instant

pub record IsOpenLife (es : List Event) (t row at : ℕ) : Type 0 where
  pub life : Life
  pub stands : slice_get (row_lives es t) row ≡ Some life
  pub none : life.ending ≡ None
  pub from : life.from < at

pub open_life : (es : List Event) (t row at : ℕ) → IsOpenAt es t row at → IsOpenLife es t row at
open_life es t row at here = by (slice_get (row_lives es t) row) refl here
  where
    by : (o : Option Life) → slice_get (row_lives es t) row ≡ o → IsSomeAnd o (λ (l : Life). (l.ending ≡ None) × (l.from < at)) → IsOpenLife es t row at
    by None stands there = absurd there
    by (Some l) stands there = record { life = l; stands = stands; none = there.0; from = there.1 }

pub is_open_there : (es : List Event) (t row at : ℕ) (l : Life) → slice_get (row_lives es t) row ≡ Some l → l.ending ≡ None → l.from < at → IsOpenAt es t row at
is_open_there es t row at l stands none less = subst (λ o. IsSomeAnd o (λ (l : Life). (l.ending ≡ None) × (l.from < at))) (sym stands) (none, less)

-- ---- prefixes of a history

split_at : {X : Type 0} → (xs : List X) (i : ℕ) (x : X) → slice_get xs i ≡ Some x → (rest : List X) × (xs ≡ take i xs ++ x ∷ rest)
split_at [] i x here = absurd (cc)
split_at (y ∷ xs) zero x here = (xs, let same : y ≡ x = cc in ap (λ z. z ∷ xs) same)
split_at (y ∷ xs) (suc i) x here = let more = split_at xs i x here in (more.0, ap (λ zs. y ∷ zs) more.1)

pub next_admissible : (c : Catalogue) (es : List Event) (i : ℕ) (e : Event) → IsHistory c es → slice_get es i ≡ Some e → IsAdmissible c (take i es) e
next_admissible c es i e history here = let parts = split_at es i e here in history (take i es) e parts.0 parts.1

pub one_more : {X : Type 0} → (xs : List X) (i : ℕ) (x : X) → slice_get xs i ≡ Some x → take i xs ++ x ∷ [] ≡ take (i + 1) xs
one_more xs i x here =
    sym (take_more xs i x (slice_get_within xs i x here) ∙ ap (λ y. take i xs ++ y ∷ []) (get_or_from_slice_get xs i x x here))
