-- What is read of the rows that clap found.
use Rattle.std.proofs.Common.{is_some, ◌≡◌, ◌∙◌, ◌<◌, ◌^◌, ◌&&◌, ℕ, Bool, true, false, List, [], ◌∷◌, length, get_or, Option, Some, None, Result, Ok, Err, map, option_map, unwrap_or, nat_lt, codes, refl, sym, ap, subst}
use Rattle.std.specs.Prelude.{IfErr, IsErrAnd}
use Rattle.std.specs.List.{Any, list_all}
use Rattle.std.proofs.lemmas.List.{get_or-map, length-map}
use Rattle.std.specs.Option.{option_map_or}
use Rattle.std.specs.Borrow.{Bor}
use Rattle.std.specs.Str.{bytes_eq}
use Rattle.std.specs.Char.{digit_value}
use Rattle.std.specs.Str.Parse.{AllDigits, ParsesBool, ParsesUnsigned, digits_value, without_leading_plus}
use Rattle.std.proofs.lemmas.Slice.Eq.{bytes_eq-Decides}
use Rattle.std.proofs.lemmas.Bool.{lt-ltb, ltb-true}
use Rattle.clap.specs.Words.{ReadsOne, Text, all_of, matched_of, raw_values, rows_of}
use Rattle.clap.specs.declared.parser.matches.Found.{Found}
use Rattle.clap.proofs.WalkLemmas.{both, raw_values-rows}
use Rattle.tq_cli.specs.CommandLine.{bytes_in, list_of, number_in, table_words}

pub text_read : (r : Option (Bor Text)) (d : Bor Text) (o : Option Text) → option_map (λ s. s.now) r ≡ o → d.now ≡ []
    → (unwrap_or r d).now ≡ unwrap_or o []
text_read None d None e empty = empty
text_read None d (Some t) e empty = cc
text_read (Some b) d None e empty = cc
text_read (Some b) d (Some t) e empty = cc

bool_text_read : (E : Type 0) (t : Text) (b : Bool) → ParsesBool {E = E} t (Ok b) → b ≡ bytes_eq t (codes "true")
bool_text_read E t true h = rw h refl
bool_text_read E t false h = rw h refl

bool_refused : {E : Type 0} (t : Text) (e : E) → ParsesBool t (Err e) → false ≡ bytes_eq t (codes "true")
bool_refused t e h = go (bytes_eq t (codes "true")) refl
  where
    go : (b : Bool) → bytes_eq t (codes "true") ≡ b → false ≡ bytes_eq t (codes "true")
    go false eq = sym eq
    go true eq = absurd (h.0 ((bytes_eq-Decides t (codes "true")).0 eq))

pub flag_read : {E : Type 0} (G : List ℕ → Result Bool E → Type 0) (o : Option Text) (r : Option Bool)
    → ((t : Text) (x : Result Bool E) → G t x → ParsesBool t x)
    → (o ≡ None → r ≡ None) → ((t : Text) → o ≡ Some t → ReadsOne G t r)
    → unwrap_or r false ≡ option_map_or (λ text. bytes_eq text (codes "true")) o false
flag_read {E} G None r reads none some = rw (none refl) refl
flag_read {E} G (Some t) (Some b) reads none some = bool_text_read E t b (reads t (Ok b) (some t refl))
flag_read {E} G (Some t) None reads none some =
    let bad = some t refl in bool_refused t bad.0 (reads t (Err bad.0) bad.1)

digits_pass : (ds : List ℕ) → AllDigits 10 ds → list_all (λ d. nat_lt (digit_value d) 10) ds ≡ true
digits_pass [] h = refl
digits_pass (d ∷ ds) h = rw (lt-ltb (digit_value d) 10 h.0) (digits_pass ds h.1)

digits_from : (ds : List ℕ) → list_all (λ d. nat_lt (digit_value d) 10) ds ≡ true → AllDigits 10 ds
digits_from [] e = tt
digits_from (d ∷ ds) e =
    let parts = both _ _ e in
    (ltb-true _ _ parts.0, digits_from ds parts.1)

abbrev is_number : List ℕ → Bool
is_number ds = nat_lt 0 (length ds) && list_all (λ d. nat_lt (digit_value d) 10) ds && nat_lt (digits_value 10 ds) (2 ^ 32)

number_text_read : (E : Type 0) (t : Text) (n : ℕ) → ParsesUnsigned {E = E} 32 10 t (Ok n) → n ≡ number_in t
number_text_read E t n h =
    let ds = without_leading_plus t in
    rw (lt-ltb 0 (length ds) h.0.0.0, digits_pass ds h.0.0.1, lt-ltb (digits_value 10 ds) (2 ^ 32) h.0.1) h.1

number_refused : {E : Type 0} (t : Text) (e : E) → ParsesUnsigned 32 10 t (Err e) → 0 ≡ number_in t
number_refused t e h = go (is_number (without_leading_plus t)) refl
  where
    go : (b : Bool) → is_number (without_leading_plus t) ≡ b → 0 ≡ number_in t
    go false eq = rw eq refl
    go true eq =
        let outer = both _ _ eq in
        let inner = both _ _ outer.0 in
        absurd (h ((ltb-true _ _ inner.0, digits_from (without_leading_plus t) inner.1), ltb-true _ _ outer.1))

pub number_read : {E : Type 0} (G : List ℕ → Result ℕ E → Type 0) (o : Option Text) (r : Option ℕ)
    → ((t : Text) (x : Result ℕ E) → G t x → ParsesUnsigned 32 10 t x)
    → (o ≡ None → r ≡ None) → ((t : Text) → o ≡ Some t → ReadsOne G t r)
    → unwrap_or r 0 ≡ option_map_or number_in o 0
number_read {E} G None r reads none some = rw (none refl) refl
number_read {E} G (Some t) (Some n) reads none some = number_text_read E t n (reads t (Ok n) (some t refl))
number_read {E} G (Some t) None reads none some =
    let bad = some t refl in number_refused t bad.0 (reads t (Err bad.0) bad.1)

pub words_read : (r : Option (Bor (List (Bor Text)))) (d : Bor (List (Bor Text))) (o : Option (List Text))
    → option_map (λ s. map (λ v. v.now) s.now) r ≡ o → d.now ≡ []
    → map (λ v. v.now) (unwrap_or r d).now ≡ unwrap_or o []
words_read None d None e empty = rw empty refl
words_read None d (Some t) e empty = cc
words_read (Some b) d None e empty = cc
words_read (Some b) d (Some t) e empty = cc

map_bytes : (ws : List (Bor Text)) → map (λ w. bytes_in w.now) ws ≡ map bytes_in (map (λ v. v.now) ws)
map_bytes [] = refl
map_bytes (w ∷ ws) = ap (λ (r : List (List ℕ)). bytes_in w.now ∷ r) (map_bytes ws)

-- The words of --table that a command reads are those of its rows.
pub table_words_read : (f : Found) (r : Option (Bor (List (Bor Text)))) (d u : Bor (List (Bor Text)))
    → option_map (λ s. map (λ v. v.now) s.now) r ≡ option_map raw_values (matched_of f (codes "table")) → u ≡ unwrap_or r d → d.now ≡ []
    → map (λ w. bytes_in w.now) u.now ≡ table_words (rows_of f)
table_words_read f r d u e is empty =
    map_bytes u.now ∙ ap (map bytes_in) (ap (λ (b : Bor (List (Bor Text))). map (λ (v : Bor Text). v.now) b.now) is
    ∙ words_read r d (all_of (codes "table") (rows_of f)) (e ∙ raw_values-rows f (codes "table")) empty)

-- The words of any argument that a command reads are those of its rows.
pub list_words_read : (f : Found) (id : Text) (r : Option (Bor (List (Bor Text)))) (d u : Bor (List (Bor Text)))
    → option_map (λ s. map (λ v. v.now) s.now) r ≡ option_map raw_values (matched_of f id) → u ≡ unwrap_or r d → d.now ≡ []
    → map (λ w. bytes_in w.now) u.now ≡ list_of id (rows_of f)
list_words_read f id r d u e is empty =
    map_bytes u.now ∙ ap (map bytes_in) (ap (λ (b : Bor (List (Bor Text))). map (λ (v : Bor Text). v.now) b.now) is
    ∙ words_read r d (all_of id (rows_of f)) (e ∙ raw_values-rows f id) empty)

pub Any-map_at : {X Y : Type 0} (P : Y → Type 0) (f : X → Y) (xs : List X) (i : ℕ) (d : X) → i < length xs → P (f (get_or xs i d))
    → Any P (map f xs)
Any-map_at P f xs i d lt p = (i, f (get_or xs i d), rw (length-map xs f) lt, get_or-map f xs i d _ lt, p)

-- An error that is passed on as it is.
pub passed_on : {T E : Type 0} (r : Result T E) (e : E) (P : E → Type 0) → IsErrAnd r (λ x. x ≡ e) → P e → IfErr r P
passed_on (Ok x) e P h p = tt
passed_on (Err x) e P h p = subst P (sym h) p

pub err_gives : {T E : Type 0} (r : Result T E) (e : E) (P : E → Type 0) → r ≡ Err e → IfErr r P → P e
err_gives r e P is h = rw is at h

abbrev pair_of : {X A B : Type 0} → (X → A) → (X → B) → X → A × B
pair_of f g x = (f x, g x)

-- The name and the rows of a subcommand that was found, together.
pub named_rows : {X A B : Type 0} (f : X → A) (g : X → B) (o : Option X) (a : A) (b : B) → option_map f o ≡ Some a
    → option_map (λ (p : A × B). p.1) (option_map (pair_of f g) o) ≡ Some b → option_map (pair_of f g) o ≡ Some (a, b)
named_rows f g None a b name rows = cc
named_rows f g (Some x) a b name rows = cc

-- A value that is found is given.
pub given_read : (r : Option (Bor Text)) (o : Option Text) → option_map (λ s. s.now) r ≡ o → is_some r ≡ is_some o
given_read None o e = rw (← e) refl
given_read (Some b) o e = rw (← e) refl
