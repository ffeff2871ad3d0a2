-- The index of a table after one more event, and the rows that are open then.
use Rattle.std.proofs.Common.{◌≡◌, ◌≢◌, ℕ, zero, suc, ◌+◌, ◌*◌, ◌<◌, ◌≤◌, ◌==◌, Bool, true, false, List, [], ◌∷◌, ◌++◌, Option, Some, None, length, map, slice_get, slice_set, refl, sym, ap, subst, ◌∙◌, ◌⊎◌, inl, inr, arith, rules, length-append}
use Rattle.std.specs.Prelude.{IfSome, IsSomeAnd, FitsSigned, OnOk, OnErr, Result, Ok, Err, is_some}
use Rattle.std.specs.Option.{option_map}
use Rattle.std.specs.Int.{w64}
use Rattle.std.proofs.lemmas.Bool.{eqb-true}
use Rattle.std.proofs.lemmas.Option.{slice_get-map, slice_get_within, slice_get_past}
use Rattle.std.proofs.lemmas.List.{map-append}
use Rattle.tq_base.specs.declared.period.TheConstants.{FOREVER}
use Rattle.tq_base.specs.declared.value.Value.{Value}
use Rattle.tq_base.specs.RowLists.{RowList}
use Rattle.tq_event.specs.declared.event.Event.{Event}
use Rattle.tq_event.specs.declared.event.Event.TheVariants.{Start, End}
use Rattle.tq_event.specs.Recorded.{table_of}
use Rattle.tq_event.specs.Versions.{Ending, Life, row_lives}
use Rattle.tq_mvbt.specs.NodeState.{NodeState}
use Rattle.std.proofs.lemmas.Bool.Decides.{nat_tests}
use Rattle.tq_mvbt.specs.Points.{now, within}
use Rattle.tq_mvbt.specs.TreeState.{HasLife, TreeState, lives_of}
use Rattle.tq_store.specs.declared.index.Index.{Index}
use Rattle.tq_store.specs.declared.index.RowEvents.{RowEvents}
use Rattle.tq_base.specs.KeyRanges.{key_of}
use Rattle.tq_store.specs.Keys.{shifted, tree_key}
use Rattle.tq_store.specs.Index.{AreIndexes, Begins, Ends, HasRows, IsIndexOf, IsKeyOf, IsOpenAt, IsRowLife, dead_of, ended, events_of, stored_values, values_of, widths_of}
use Rattle.tq_store.proofs.LifeLemmas.{MatchesEvents, IsEventAt, ended_at, eqb-other, eqb-same, lives_end, lives_other, lives_start, lives_match}

-- ---- lists

pub get_set_same : {X : Type 0} → (xs : List X) (i : ℕ) (v : X) → i < length xs → slice_get (slice_set xs i v) i ≡ Some v
get_set_same [] i v less = absurd (omega (arith, less))
get_set_same (x ∷ xs) zero v less = refl
get_set_same (x ∷ xs) (suc i) v less = get_set_same xs i v (omega (arith, less))

pub get_set_other : {X : Type 0} → (xs : List X) (i j : ℕ) (v : X) → j ≢ i → slice_get (slice_set xs i v) j ≡ slice_get xs j
get_set_other [] i j v other = refl
get_set_other (x ∷ xs) zero zero v other = absurd (other refl)
get_set_other (x ∷ xs) zero (suc j) v other = refl
get_set_other (x ∷ xs) (suc i) zero v other = refl
get_set_other (x ∷ xs) (suc i) (suc j) v other = get_set_other xs i j v (λ same. other (ap suc same))

pub set_length : {X : Type 0} → (xs : List X) (i : ℕ) (v : X) → length (slice_set xs i v) ≡ length xs
set_length [] i v = refl
set_length (x ∷ xs) zero v = refl
set_length (x ∷ xs) (suc i) v = ap suc (set_length xs i v)

pub set_same : {X : Type 0} → (xs : List X) (i : ℕ) (v : X) → slice_get xs i ≡ Some v → slice_set xs i v ≡ xs
set_same [] i v here = refl
set_same (x ∷ xs) zero v here = let same : x ≡ v = cc in ap (λ y. y ∷ xs) (sym same)
set_same (x ∷ xs) (suc i) v here = ap (λ l. x ∷ l) (set_same xs i v here)

pub map_set : {X Y : Type 0} → (f : X → Y) (xs : List X) (i : ℕ) (v : X) → map f (slice_set xs i v) ≡ slice_set (map f xs) i (f v)
map_set f [] i v = refl
map_set f (x ∷ xs) zero v = refl
map_set f (x ∷ xs) (suc i) v = ap (λ l. f x ∷ l) (map_set f xs i v)

-- an element after a push is an old one or the new one
pub get_push : {X : Type 0} → (xs : List X) (y : X) (i : ℕ) (x : X) → slice_get (xs ++ y ∷ []) i ≡ Some x → ((i ≡ length xs) × (x ≡ y)) ⊎ (slice_get xs i ≡ Some x)
get_push [] y zero x is = inl (refl, cc)
get_push [] y (suc i) x is = absurd (cc)
get_push (z ∷ xs) y zero x is = inr is
get_push (z ∷ xs) y (suc i) x is = elim (get_push xs y i x is) [
  | inl w ↦ inl (ap suc w.0, w.1)
  | inr w ↦ inr w
]

pub get_before : {X : Type 0} → (xs ys : List X) (i : ℕ) (x : X) → slice_get xs i ≡ Some x → slice_get (xs ++ ys) i ≡ Some x
get_before [] ys i x is = absurd (cc)
get_before (z ∷ xs) ys zero x is = is
get_before (z ∷ xs) ys (suc i) x is = get_before xs ys i x is

pub get_last : {X : Type 0} → (xs : List X) (y : X) → slice_get (xs ++ y ∷ []) (length xs) ≡ Some y
get_last [] y = refl
get_last (z ∷ xs) y = get_last xs y

-- ---- keys

pub same_row : (a b r s : ℕ) → r < 4294967296 → s < 4294967296 → a * 4294967296 + r ≡ b * 4294967296 + s → r ≡ s
same_row a b r s r_small s_small same = omega (arith, r_small, s_small, same)

pub other_key : (v w : List Value) (r s : ℕ) → r < 4294967296 → s < 4294967296 → r ≢ s → tree_key v r ≢ tree_key w s
other_key v w r s r_small s_small other same = other (same_row (shifted (key_of v)) (shifted (key_of w)) r s r_small s_small same)

-- ---- lives of keys

moved : (old new : List NodeState) (key born dead : ℕ) → HasLife old key born dead → ((v : ℕ) → lives_of new key v ≡ lives_of old key v) → HasLife new key born dead
moved old new key born dead life same = record { lived = life.lived; ends = life.ends; lives = λ v less. same v ∙ life.lives v less }

-- the rows of a tree in which a row begins
pub begun_rows : (ls : List Life) (c : ℕ) (old new : TreeState) (l : Life) → c < 16777216 → HasRows ls c old.version old.nodes → Begins old new (tree_key l.values (length ls)) (c + 1)
    → l.start ≡ c → l.ending ≡ None → IsRowLife l → HasRows (ls ++ l ∷ []) (c + 1) new.version new.nodes
begun_rows ls c old new l small has begins start none good = record {
  each = each;
  only = only;
  begun = λ row x stands. elim (get_push ls l row x stands) [
    | inl w ↦ let begin = ap (λ (y : Life). y.start) w.1 in let version = begins.version_is in omega (arith, begin, start, version)
    | inr here ↦ let less = has.begun row x here in let le = has.up_to in let version = begins.version_is in omega (arith, less, le, version)
  ];
  rows = λ row x stands. elim (get_push ls l row x stands) [
    | inl w ↦ subst IsRowLife (sym w.1) good
    | inr here ↦ has.rows row x here
  ];
  up_to = let version = begins.version_is in omega (arith, version);
  few = let len = length-append ls (l ∷ []) in let le = has.few in omega (arith, len, le);
}
  where
    key : ℕ
    key = tree_key l.values (length ls)

    few : length ls < 4294967296
    few = let le = has.few in omega (arith, le, small)

    old_key : (row : ℕ) (x : Life) → slice_get ls row ≡ Some x → tree_key x.values row ≢ key
    old_key row x here =
        let less : row < length ls = slice_get_within ls row x here in
        other_key x.values l.values row (length ls) (omega (arith, less, few)) few (λ same. omega (arith, less, same))

    each : (row : ℕ) (x : Life) → slice_get (ls ++ l ∷ []) row ≡ Some x → HasLife new.nodes (tree_key x.values row) (x.start + 1) (dead_of x.ending)
    each row x stands = elim (get_push ls l row x stands) [
      | inl w ↦ subst (λ (y : Life). HasLife new.nodes (tree_key y.values row) (y.start + 1) (dead_of y.ending)) (sym w.1)
          (subst (λ o. HasLife new.nodes (tree_key l.values row) (l.start + 1) (dead_of o)) (sym none)
          (subst (λ b. HasLife new.nodes (tree_key l.values row) (b + 1) now) (sym start)
          (subst (λ r. HasLife new.nodes (tree_key l.values r) (c + 1) now) (sym w.0) begins.life)))
      | inr here ↦ moved old.nodes new.nodes (tree_key x.values row) (x.start + 1) (dead_of x.ending) (has.each row x here) (λ v. begins.others (tree_key x.values row) v (old_key row x here))
    ]

    only : (k v : ℕ) → lives_of new.nodes k v ≡ true → IsKeyOf (ls ++ l ∷ []) k
    only k v lives = by (k == key) refl
      where
        by : (b : Bool) → (k == key) ≡ b → IsKeyOf (ls ++ l ∷ []) k
        by true is = record { row = length ls; life = l; stands = get_last ls l; same = eqb-true k key is }
        by false is =
            let other : k ≢ key = λ same. let wrong : true ≡ false = sym (eqb-same k) ∙ ap (λ n. k == n) same ∙ is in cc in
            let old_one = has.only k v (sym (begins.others k v other) ∙ lives) in
            record { row = old_one.row; life = old_one.life; stands = get_before ls (l ∷ []) old_one.row old_one.life old_one.stands; same = old_one.same }

-- the rows of a tree in which a row ends
pub ended_rows : (ls : List Life) (c i at : ℕ) (old new : TreeState) (l : Life) → c < 16777216 → HasRows ls c old.version old.nodes → slice_get ls i ≡ Some l → l.ending ≡ None
    → Ends old new (tree_key l.values i) (c + 1) → IsRowLife (ended_at c at l) → HasRows (slice_set ls i (ended_at c at l)) (c + 1) new.version new.nodes
ended_rows ls c i at old new l small has stands none ends good = record {
  each = each;
  only = λ k v lives. only k v lives;
  begun = λ row x here. by_place (λ row (x : Life). x.start < new.version) row x here
      (let less = has.begun i l stands in let le = has.up_to in let version = ends.version_is in omega (arith, less, le, version))
      (λ x_there. let less = has.begun row x x_there in let le = has.up_to in let version = ends.version_is in omega (arith, less, le, version));
  rows = λ row x here. by_place (λ row x. IsRowLife x) row x here good (λ x_there. has.rows row x x_there);
  up_to = let version = ends.version_is in omega (arith, version);
  few = let len = set_length ls i (ended_at c at l) in let le = has.few in omega (arith, len, le);
}
  where
    key : ℕ
    key = tree_key l.values i

    new_life : Life
    new_life = ended_at c at l

    within : i < length ls
    within = slice_get_within ls i l stands

    few : length ls < 4294967296
    few = let le = has.few in omega (arith, le, small)

    by_place : (P : ℕ → Life → Type 0) (row : ℕ) (x : Life) → slice_get (slice_set ls i new_life) row ≡ Some x → P i new_life → (slice_get ls row ≡ Some x → P row x) → P row x
    by_place P row x here same other = by (row == i) refl
      where
        by : (b : Bool) → (row == i) ≡ b → P row x
        by true is =
            let at_i : row ≡ i = eqb-true row i is in
            let both : Some new_life ≡ Some x = sym (get_set_same ls i new_life within) ∙ sym (ap (slice_get (slice_set ls i new_life)) at_i) ∙ here in
            let life_is : new_life ≡ x = cc in
            subst (λ r. P r x) (sym at_i) (subst (P i) life_is same)
        by false is =
            let away : row ≢ i = λ at_i. let wrong : true ≡ false = sym (eqb-same row) ∙ ap (λ n. row == n) at_i ∙ is in cc in
            other (sym (get_set_other ls i row new_life away) ∙ here)

    each : (row : ℕ) (x : Life) → slice_get (slice_set ls i new_life) row ≡ Some x → HasLife new.nodes (tree_key x.values row) (x.start + 1) (dead_of x.ending)
    each row x here = by (row == i) refl
      where
        born : HasLife old.nodes key (l.start + 1) now
        born = subst (λ o. HasLife old.nodes key (l.start + 1) (dead_of o)) none (has.each i l stands)

        by : (b : Bool) → (row == i) ≡ b → HasLife new.nodes (tree_key x.values row) (x.start + 1) (dead_of x.ending)
        by true is =
            let at_i : row ≡ i = eqb-true row i is in
            let both : Some new_life ≡ Some x = sym (get_set_same ls i new_life within) ∙ sym (ap (slice_get (slice_set ls i new_life)) at_i) ∙ here in
            let life_is : new_life ≡ x = cc in
            subst (λ r. HasLife new.nodes (tree_key x.values r) (x.start + 1) (dead_of x.ending)) (sym at_i)
            (subst (λ (y : Life). HasLife new.nodes (tree_key y.values i) (y.start + 1) (dead_of y.ending)) life_is (ends.life (l.start + 1) born))
        by false is =
            let away : row ≢ i = λ at_i. let wrong : true ≡ false = sym (eqb-same row) ∙ ap (λ n. row == n) at_i ∙ is in cc in
            let there : slice_get ls row ≡ Some x = sym (get_set_other ls i row new_life away) ∙ here in
            let less : row < length ls = slice_get_within ls row x there in
            moved old.nodes new.nodes (tree_key x.values row) (x.start + 1) (dead_of x.ending) (has.each row x there)
            (λ v. ends.others (tree_key x.values row) v (other_key x.values l.values row i (omega (arith, less, few)) (omega (arith, within, few)) away))

    still : (k : ℕ) → IsKeyOf ls k → IsKeyOf (slice_set ls i new_life) k
    still k old_one = by (old_one.row == i) refl
      where
        by : (b : Bool) → (old_one.row == i) ≡ b → IsKeyOf (slice_set ls i new_life) k
        by true is =
            let at_i : old_one.row ≡ i = eqb-true old_one.row i is in
            let both : Some old_one.life ≡ Some l = sym old_one.stands ∙ ap (slice_get ls) at_i ∙ stands in
            let life_is : old_one.life ≡ l = cc in
            record { row = i; life = new_life; stands = get_set_same ls i new_life within; same = old_one.same ∙ ap (λ (y : Life). tree_key y.values old_one.row) life_is ∙ ap (tree_key l.values) at_i }
        by false is =
            let away : old_one.row ≢ i = λ at_i. let wrong : true ≡ false = sym (eqb-same old_one.row) ∙ ap (λ n. old_one.row == n) at_i ∙ is in cc in
            record { row = old_one.row; life = old_one.life; stands = get_set_other ls i old_one.row new_life away ∙ old_one.stands; same = old_one.same }

    only : (k v : ℕ) → lives_of new.nodes k v ≡ true → IsKeyOf (slice_set ls i new_life) k
    only k v lives = by (k == key) refl
      where
        by : (b : Bool) → (k == key) ≡ b → IsKeyOf (slice_set ls i new_life) k
        by true is = record { row = i; life = new_life; stands = get_set_same ls i new_life within; same = eqb-true k key is }
        by false is =
            let other : k ≢ key = λ same. let wrong : true ≡ false = sym (eqb-same k) ∙ ap (λ n. k == n) same ∙ is in cc in
            still k (has.only k v (sym (ends.others k v other) ∙ lives))

-- the rows of a tree that does not change
pub same_rows : (ls : List Life) (c version : ℕ) (nodes : List NodeState) → HasRows ls c version nodes → HasRows ls (c + 1) version nodes
same_rows ls c version nodes has =
    record { each = has.each; only = has.only; begun = has.begun; rows = has.rows; up_to = let le = has.up_to in omega (arith, le); few = let le = has.few in omega (arith, le) }

-- ---- the index of a table

pub length_push : {X : Type 0} → (xs : List X) (x : X) → length (xs ++ x ∷ []) ≡ length xs + 1
length_push xs x = length-append xs (x ∷ [])

pub rows_counted : (es : List Event) (t : ℕ) (index : Index) → IsIndexOf es t index → length index.rows.items ≡ length (row_lives es t)
rows_counted es t index is = ap length is.rows ∙ mapped (row_lives es t)
  where
    mapped : (ls : List Life) → length (map events_of ls) ≡ length ls
    mapped [] = refl
    mapped (l ∷ ls) = ap suc (mapped ls)

pub index_start : (es : List Event) (t : ℕ) (v : List Value) (at : ℕ) (old new : Index) → length es < 16777216 → IsIndexOf es t old → FitsSigned w64 (key_of v) → at < FOREVER
    → new.rows.items ≡ old.rows.items ++ record { start = length es; end = None; from = at; to = FOREVER; key = shifted (key_of v) } ∷ [] → Begins old.tree new.tree (tree_key v (length old.rows.items)) (length es + 1)
    → values_of new.kept.items ≡ values_of old.kept.items ++ v ∷ []
    → IsIndexOf (es ++ Start t v at ∷ []) t new
index_start es t v at old new small is fits less rows begins kept = record {
  rows = rows ∙ ap (λ r. r ++ record { start = length es; end = None; from = at; to = FOREVER; key = shifted (key_of v) } ∷ []) is.rows ∙ sym (map-append events_of (row_lives es t) (l ∷ [])) ∙ sym (ap (map events_of) more);
  kept = kept ∙ ap (λ vs. vs ++ v ∷ []) is.kept ∙ sym (map-append (λ (x : Life). x.values) (row_lives es t) (l ∷ [])) ∙ sym (ap (map (λ (x : Life). x.values)) more);
  tree = subst (λ ls. HasRows ls (length (es ++ Start t v at ∷ [])) new.tree.version new.tree.nodes) (sym more)
      (subst (λ c. HasRows (row_lives es t ++ l ∷ []) c new.tree.version new.tree.nodes) (sym (length_push es (Start t v at)))
      (begun_rows (row_lives es t) (length es) old.tree new.tree l small is.tree
      (subst (λ n. Begins old.tree new.tree (tree_key v n) (length es + 1)) (rows_counted es t old is) begins) refl refl
      (record { key = fits; finite = less; lasts = tt; ends = tt })));
}
  where
    l : Life
    l = record { values = v; start = length es; from = at; ending = None }

    more : row_lives (es ++ Start t v at ∷ []) t ≡ row_lives es t ++ l ∷ []
    more = lives_start t 0 0 (length es) es v at (omega arith)

pub index_end : (es : List Event) (t row at : ℕ) (old new : Index) (l : Life) → length es < 16777216 → IsIndexOf es t old → at < FOREVER
    → slice_get (row_lives es t) row ≡ Some l → l.ending ≡ None → l.from < at
    → new.rows.items ≡ slice_set old.rows.items row (ended (length es) at (events_of l)) → Ends old.tree new.tree (tree_key l.values row) (length es + 1)
    → new.kept ≡ old.kept
    → IsIndexOf (es ++ End t row at ∷ []) t new
index_end es t row at old new l small is finite stands none less rows ends kept = record {
  rows = rows ∙ ap (λ r. slice_set r row (ended (length es) at (events_of l))) is.rows ∙ sym (map_set events_of (row_lives es t) row (ended_at (length es) at l)) ∙ sym (ap (map events_of) more);
  kept = ap (λ (r : RowList). values_of r.items) kept ∙ is.kept
      ∙ sym (set_same (stored_values es t) row l.values (slice_get-map (λ (x : Life). x.values) (row_lives es t) row ∙ ap (option_map (λ (x : Life). x.values)) stands))
      ∙ sym (map_set (λ (x : Life). x.values) (row_lives es t) row (ended_at (length es) at l)) ∙ sym (ap (map (λ (x : Life). x.values)) more);
  tree = subst (λ ls. HasRows ls (length (es ++ End t row at ∷ [])) new.tree.version new.tree.nodes) (sym more)
      (subst (λ c. HasRows (slice_set (row_lives es t) row (ended_at (length es) at l)) c new.tree.version new.tree.nodes) (sym (length_push es (End t row at)))
      (ended_rows (row_lives es t) (length es) row at old.tree new.tree l small is.tree stands none ends
      (record { key = good.key; finite = good.finite; lasts = (less, earlier); ends = finite })));
}
  where
    good : IsRowLife l
    good = is.tree.rows row l stands

    earlier : l.start < length es
    earlier = let before = is.tree.begun row l stands in let le = is.tree.up_to in omega (arith, before, le)

    more : row_lives (es ++ End t row at ∷ []) t ≡ slice_set (row_lives es t) row (ended_at (length es) at l)
    more = lives_end t 0 0 (length es) row row at l es (omega arith) (omega arith) stands none

pub index_other : (es : List Event) (t : ℕ) (e : Event) (index : Index) → IsIndexOf es t index → (table_of e == t) ≡ false → IsIndexOf (es ++ e ∷ []) t index
index_other es t e index is other = record {
  rows = is.rows ∙ sym (ap (map events_of) same);
  kept = is.kept ∙ sym (ap (map (λ (x : Life). x.values)) same);
  tree = subst (λ ls. HasRows ls (length (es ++ e ∷ [])) index.tree.version index.tree.nodes) (sym same)
      (subst (λ c. HasRows (row_lives es t) c index.tree.version index.tree.nodes) (sym (length_push es e)) (same_rows (row_lives es t) (length es) index.tree.version index.tree.nodes is.tree));
}
  where
    same : row_lives (es ++ e ∷ []) t ≡ row_lives es t
    same = lives_other t 0 0 es e other

-- an index that is equal to another one for contracts
pub index_like : (es : List Event) (t : ℕ) (old new : Index) → new.tree ≡ old.tree → new.rows.items ≡ old.rows.items → new.kept.items ≡ old.kept.items → IsIndexOf es t old → IsIndexOf es t new
index_like es t old new tree rows kept is = record {
  rows = rows ∙ is.rows;
  kept = ap values_of kept ∙ is.kept;
  tree = subst (λ (s : TreeState). HasRows (row_lives es t) (length es) s.version s.nodes) (sym tree) is.tree;
}

-- ---- the indexes of all tables

pub indexes_set : (es more : List Event) (indexes : List Index) (t : ℕ) (new : Index) → AreIndexes es indexes → t < length indexes → IsIndexOf more t new
    → ((u : ℕ) (index : Index) → u ≢ t → IsIndexOf es u index → IsIndexOf more u index) → AreIndexes more (slice_set indexes t new)
indexes_set es more indexes t new are less is others = record { each = λ u index here. by u index here (u == t) refl }
  where
    by : (u : ℕ) (index : Index) → slice_get (slice_set indexes t new) u ≡ Some index → (b : Bool) → (u == t) ≡ b → IsIndexOf more u index
    by u index here true at_t =
        let same : u ≡ t = eqb-true u t at_t in
        let both : Some new ≡ Some index = sym (get_set_same indexes t new less) ∙ sym (ap (slice_get (slice_set indexes t new)) same) ∙ here in
        let index_is : new ≡ index = cc in
        subst (λ n. IsIndexOf more n index) (sym same) (subst (IsIndexOf more t) index_is is)
    by u index here false at_t =
        let away : u ≢ t = λ same. let wrong : true ≡ false = sym (eqb-same u) ∙ ap (λ n. u == n) same ∙ at_t in cc in
        others u index away (are.each u index (sym (get_set_other indexes t u new away) ∙ here))

pub indexes_after : (es : List Event) (e : Event) (indexes : List Index) (new : Index) → AreIndexes es indexes → table_of e < length indexes → IsIndexOf (es ++ e ∷ []) (table_of e) new
    → AreIndexes (es ++ e ∷ []) (slice_set indexes (table_of e) new)
indexes_after es e indexes new are less is =
    indexes_set es (es ++ e ∷ []) indexes (table_of e) new are less is (λ u index away old. index_other es u e index old (eqb-other (table_of e) u (λ same. away (sym same))))

pub indexes_kept : (es : List Event) (t : ℕ) (indexes : List Index) (new : Index) → AreIndexes es indexes → t < length indexes → IsIndexOf es t new → AreIndexes es (slice_set indexes t new)
indexes_kept es t indexes new are less is = indexes_set es es indexes t new are less is (λ u index away old. old)

-- the width of an index by its number
pub width_at : (indexes : List Index) (t : ℕ) (index : Index) → slice_get indexes t ≡ Some index → slice_get (widths_of indexes) t ≡ Some index.kept.width
width_at indexes t index here = slice_get-map (λ (i : Index). i.kept.width) indexes t ∙ ap (option_map (λ (i : Index). i.kept.width)) here

-- an index that keeps its width
pub widths_kept : (indexes : List Index) (t : ℕ) (old new : Index) → slice_get indexes t ≡ Some old → new.kept.width ≡ old.kept.width → widths_of (slice_set indexes t new) ≡ widths_of indexes
widths_kept indexes t old new here same =
    map_set (λ (i : Index). i.kept.width) indexes t new
    ∙ set_same (widths_of indexes) t new.kept.width (width_at indexes t old here ∙ ap (λ w. Some w) (sym same))

-- ---- the events of a row

pub row_matches : (es : List Event) (t row : ℕ) (l : Life) → slice_get (row_lives es t) row ≡ Some l → MatchesEvents t row 0 es l
row_matches es t row l stands = lives_match t 0 0 row row es l (omega arith) stands

pub start_stands : (es : List Event) (t row : ℕ) (l : Life) → slice_get (row_lives es t) row ≡ Some l → slice_get es l.start ≡ Some (Start t l.values l.from)
start_stands es t row l stands =
    let matches = (row_matches es t row l stands).start in
    ap (slice_get es) (let is = matches.number_is in omega (arith, is)) ∙ matches.event_is

pub end_stands : (es : List Event) (t row : ℕ) (l : Life) (e : Ending) → slice_get (row_lives es t) row ≡ Some l → l.ending ≡ Some e → slice_get es e.event ≡ Some (End t row e.at)
end_stands es t row l e stands is =
    let matches = subst (λ o. IfSome o (λ (x : Ending). IsEventAt es 0 x.event (End t row x.at))) is (row_matches es t row l stands).ending in
    ap (slice_get es) (let number = matches.number_is in omega (arith, number)) ∙ matches.event_is

-- ---- results

pub on_ok : {T E : Type 0} → (r : Result T E) {P Q : Type 0} → OnOk r P → (P → Q) → OnOk r Q
on_ok (Ok x) is step = step is
on_ok (Err e) is step = is

pub on_err : {T E : Type 0} → (r : Result T E) {P Q : Type 0} → OnErr r P → (P → Q) → OnErr r Q
on_err (Ok x) is step = is
on_err (Err e) is step = step is

pub on_both : {T E : Type 0} → (r : Result T E) {P Q R : Type 0} → OnOk r P → OnOk r Q → (P → Q → R) → OnOk r R
on_both (Ok x) p q step = step p q
on_both (Err e) p q step = p

pub on_three : {T E : Type 0} → (r : Result T E) {P Q R S : Type 0} → OnOk r P → OnOk r Q → OnOk r R → (P → Q → R → S) → OnOk r S
on_three (Ok x) p q s step = step p q s
on_three (Err e) p q s step = p

pub on_three_err : {T E : Type 0} → (r : Result T E) {P Q R S : Type 0} → OnErr r P → OnErr r Q → OnErr r R → (P → Q → R → S) → OnErr r S
on_three_err (Ok x) p q s step = p
on_three_err (Err e) p q s step = step p q s

pub on_both_err : {T E : Type 0} → (r : Result T E) {P Q R : Type 0} → OnErr r P → OnErr r Q → (P → Q → R) → OnErr r R
on_both_err (Ok x) p q step = p
on_both_err (Err e) p q step = step p q

-- ---- the rows of an index

-- these are the events of a row of the table
pub record IsKnown (es : List Event) (t row : ℕ) (known : RowEvents) : Type 0 where
  pub life : Life
  pub stands : slice_get (row_lives es t) row ≡ Some life
  pub same : known ≡ events_of life

pub known_row : (es : List Event) (t row : ℕ) (index : Index) (known : RowEvents) → IsIndexOf es t index → slice_get index.rows.items row ≡ Some known → IsKnown es t row known
known_row es t row index known is here =
    by (slice_get (row_lives es t) row) refl (sym (slice_get-map events_of (row_lives es t) row) ∙ sym (ap (λ r. slice_get r row) is.rows) ∙ here)
  where
    by : (o : Option Life) → slice_get (row_lives es t) row ≡ o → option_map events_of o ≡ Some known → IsKnown es t row known
    by None stands there = absurd (cc)
    by (Some l) stands there = record { life = l; stands = stands; same = let same : events_of l ≡ known = cc in sym same }

pub kept_row : (es : List Event) (t row : ℕ) (index : Index) (l : Life) → IsIndexOf es t index → slice_get (row_lives es t) row ≡ Some l → slice_get index.rows.items row ≡ Some (events_of l)
kept_row es t row index l is stands = ap (λ r. slice_get r row) is.rows ∙ slice_get-map events_of (row_lives es t) row ∙ ap (option_map events_of) stands

pub known_start : (es : List Event) (t row : ℕ) (known : RowEvents) → (is : IsKnown es t row known) → slice_get es known.start ≡ Some (Start t is.life.values is.life.from)
known_start es t row known is = ap (λ (k : RowEvents). slice_get es k.start) is.same ∙ start_stands es t row is.life is.stands

-- an open row
pub record IsOpenRow (es : List Event) (t row at : ℕ) (index : Index) : Type 0 where
  pub life : Life
  pub stands : slice_get (row_lives es t) row ≡ Some life
  pub none : life.ending ≡ None
  pub from : life.from < at
  pub kept : slice_get index.rows.items row ≡ Some (events_of life)
  pub starts : slice_get es life.start ≡ Some (Start t life.values life.from)
  pub alive : lives_of index.tree.nodes (tree_key life.values row) index.tree.version ≡ true

alive_now : (born version : ℕ) → born ≤ version → version < now → within born now version ≡ true
alive_now born version le less = search (rules, nat_tests, le, less)

pub open_row : (es : List Event) (t row at : ℕ) (index : Index) → length es < 16777216 → IsIndexOf es t index → IsOpenAt es t row at → IsOpenRow es t row at index
open_row es t row at index small is open_there = by (slice_get (row_lives es t) row) refl open_there
  where
    by : (o : Option Life) → slice_get (row_lives es t) row ≡ o → IsSomeAnd o (λ (l : Life). (l.ending ≡ None) × (l.from < at)) → IsOpenRow es t row at index
    by None stands here = absurd here
    by (Some l) stands here =
        let begun = is.tree.begun row l stands in
        let up_to = is.tree.up_to in
        let version : index.tree.version < now = omega (arith, up_to, small) in
        record {
          life = l;
          stands = stands;
          none = here.0;
          from = here.1;
          kept = kept_row es t row index l is stands;
          starts = start_stands es t row l stands;
          alive = (is.tree.each row l stands).lives index.tree.version version ∙ ap (λ o. within (l.start + 1) (dead_of o) index.tree.version) here.0 ∙ alive_now (l.start + 1) index.tree.version (omega (arith, begun)) version;
        }

-- ---- what an index knows of an open row

not_ended : (o : Option Ending) → is_some (option_map (λ (e : Ending). e.event) o) ≡ false → o ≡ None
not_ended None is = refl
not_ended (Some e) is = absurd (cc)

pub opens : (es : List Event) (t row at : ℕ) (known : RowEvents) → (is : IsKnown es t row known) → is_some known.end ≡ false → is.life.from < at → IsOpenAt es t row at
opens es t row at known is none less =
    subst (λ o. IsSomeAnd o (λ (l : Life). (l.ending ≡ None) × (l.from < at))) (sym is.stands)
    (not_ended is.life.ending (sym (ap (λ (k : RowEvents). is_some k.end) is.same) ∙ none), less)

pub opened : (es : List Event) (t row at : ℕ) (known : RowEvents) → (is : IsKnown es t row known) → IsOpenAt es t row at → (is_some known.end ≡ false) × (is.life.from < at)
opened es t row at known is open_there =
    let here = subst (λ o. IsSomeAnd o (λ (l : Life). (l.ending ≡ None) × (l.from < at))) is.stands open_there in
    (ap (λ (k : RowEvents). is_some k.end) is.same ∙ ap (λ o. is_some (option_map (λ (e : Ending). e.event) o)) here.0, here.1)

pub not_opened : (es : List Event) (t row at : ℕ) (index : Index) → IsIndexOf es t index → length index.rows.items ≤ row → IsOpenAt es t row at → ⊥
not_opened es t row at index is past open_there =
    let len = rows_counted es t index is in
    subst (λ o. IsSomeAnd o (λ (l : Life). (l.ending ≡ None) × (l.from < at))) (slice_get_past (row_lives es t) row (omega (arith, past, len))) open_there
