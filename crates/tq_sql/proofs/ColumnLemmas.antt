-- The readers of names, columns and comparisons.
use Rattle.std.proofs.Common.{◌≡◌, ◌≢◌, inl, inr, ℕ, Bool, true, false, List, [], ◌∷◌, ◌++◌, refl, ap, sym, ◌∙◌, subst, append_assoc, append-nil}
use Rattle.std.specs.Prelude.{Option, Some, None, Ok}
use Rattle.tq_sql.specs.declared.token.TokenKind.{TokenKind}
use Rattle.tq_sql.specs.declared.token.TokenKind.TheVariants as k
use Rattle.tq_sql.specs.declared.statement.ColumnRef.{ColumnRef}
use Rattle.tq_base.specs.Names.{folded_name}
use Rattle.tq_sql.specs.Tokens.{Token, same_kind}
use Rattle.tq_sql.specs.Grammar.{After, Optional, IsName, IsColumnOf, IsColumn}
use Rattle.tq_sql.specs.Descent.{Outcome, pure, given, kind_at, next, sees, after, peek_bytes, taken, name_at, optional, column_of, column_at, ◌>>=◌}
use Rattle.tq_sql.proofs.ReaderLemmas.{IsReader, by_test, bind_ok, ok_pair, given_some, kind_seen, seen_here, next_of, after_seen, after_unseen, or_false, same_itself}
use Rattle.tq_sql.proofs.KindLemmas.{is_same}
use Rattle.tq_sql.proofs.ConditionLemmas.{or_mark, dot, sees_kind}

abbrev pub nothing : TokenKind → Bool
nothing kind = false

pub look_some : (kind : TokenKind) (ts mid : List Token) (w : List ℕ) → peek_bytes kind ts ≡ Ok (w, mid) → (t : Token) × (ts ≡ t ∷ next mid) × (t.kind ≡ kind) × (w ≡ t.text)
unfolding peek_bytes
look_some kind [] mid w e = cc
look_some kind (t ∷ ts) mid w e = elim (by_test (same_kind t.kind kind) e) [
  | inl s ↦ (let same = ok_pair t.text w (t ∷ ts) mid s.1 in (t, ap (λ z. t ∷ z) (sym (next_of t ts) ∙ ap next same.1), is_same t.kind kind s.0, sym same.0))
  | inr s ↦ cc
]

pub look_here : (kind : TokenKind) (t : Token) (ts : List Token) → t.kind ≡ kind → peek_bytes kind (t ∷ ts) ≡ Ok (t.text, t ∷ ts)
unfolding peek_bytes
look_here kind t ts e = rw (same_itself t.kind kind e) refl

pub name_sound : (ts rest : List Token) (n : List ℕ) → name_at ts ≡ Ok (n, rest) → (front : List Token) × (ts ≡ front ++ rest) × IsName front n
unfolding name_at
name_sound ts rest n e =
    let step = bind_ok (peek_bytes k.Name ts) (λ w. given (folded_name w) >>= (λ x. taken x)) (n, rest) e in
    let value = bind_ok (given (folded_name step.0) step.1) (λ x. taken x) (n, rest) step.3 in
    let is = given_some (folded_name step.0) value.0 step.1 value.1 value.2 in
    let same = ok_pair value.0 n (next value.1) rest value.3 in
    let word = look_some k.Name ts step.1 step.0 step.2 in
    (word.0 ∷ [], word.1 ∙ ap (λ z. word.0 ∷ z) (ap next is.1 ∙ same.1), (word.0, refl, word.2, ap folded_name (sym word.3) ∙ is.0 ∙ ap Some same.0))

pub name_complete : (front rest : List Token) (n : List ℕ) → IsName front n → nothing (kind_at rest) ≡ false → name_at (front ++ rest) ≡ Ok (n, rest)
unfolding name_at
name_complete front rest n is stop =
    let here : front ++ rest ≡ is.0 ∷ rest = ap (λ z. z ++ rest) is.1 in
    rw (here, look_here k.Name is.0 rest is.2, is.3, next_of is.0 rest) refl

pub name_reader : IsReader IsName nothing name_at
name_reader = record { sound = name_sound; complete = name_complete }

-- ---- what can follow a token of a kind

module _ {A : Type 0} (kind : TokenKind) (real : kind ≢ k.End) (R : List Token → A → Type 0) (goes : TokenKind → Bool) (p : List Token → Outcome A) (reader : IsReader R goes p) where
  abbrev OptionalRead : List Token → List Token → Option A → Type 0
  OptionalRead ts rest o = (front : List Token) × (ts ≡ front ++ rest) × Optional (After kind R) front o

  optional_seen : (ts rest : List Token) (o : Option A) (b : Bool) → sees kind ts ≡ b → optional kind p ts ≡ Ok (o, rest) → OptionalRead ts rest o
  optional_seen ts rest None false s e = let g = ok_pair None None ts rest (rw (s, after_unseen kind ts s) at e) in ([], g.1, refl)
  optional_seen ts rest (Some x) false s e = let g = ok_pair None (Some x) ts rest (rw (s, after_unseen kind ts s) at e) in cc
  optional_seen ts rest None true s e =
      let step = bind_ok (p (next ts)) (λ y. pure (Some y)) (None, rest) (rw (s, after_seen kind ts s) at e) in
      let g = ok_pair (Some step.0) None step.1 rest step.3 in cc
  optional_seen ts rest (Some x) true s e =
      let step = bind_ok (p (next ts)) (λ y. pure (Some y)) (Some x, rest) (rw (s, after_seen kind ts s) at e) in
      let g = ok_pair (Some step.0) (Some x) step.1 rest step.3 in
      let same : step.0 ≡ x = cc in
      let first = kind_seen kind ts s real in
      let one = reader.sound (next ts) step.1 step.0 step.2 in
      let P : A → Type 0 = λ y. R one.0 y in
      (first.0 ∷ one.0, first.1 ∙ ap (λ z. first.0 ∷ z) (one.1 ∙ ap (λ z. one.0 ++ z) g.1), (first.2, subst P same one.2))

  optional_complete : (front rest : List Token) (o : Option A) → Optional (After kind R) front o → or_mark kind goes (kind_at rest) ≡ false → optional kind p (front ++ rest) ≡ Ok (o, rest)
  optional_complete front rest None is stop =
      let parts = or_false (goes (kind_at rest)) (same_kind (kind_at rest) kind) stop in
      let unseen = sees_kind kind rest false parts.1 in
      let here : front ++ rest ≡ rest = ap (λ z. z ++ rest) is in
      let base : optional kind p rest ≡ Ok (None, rest) = rw (unseen, after_unseen kind rest unseen) refl in
      ap (optional kind p) here ∙ base
  optional_complete [] rest (Some x) is stop = absurd is
  optional_complete (t ∷ front) rest (Some x) is stop =
      let parts = or_false (goes (kind_at rest)) (same_kind (kind_at rest) kind) stop in
      let seen = seen_here t (front ++ rest) kind is.0 in
      let moved : after kind (t ∷ (front ++ rest)) ≡ front ++ rest = after_seen kind (t ∷ (front ++ rest)) seen ∙ next_of t (front ++ rest) in
      let inner = reader.complete front rest x is.1 parts.0 in
      rw (seen, moved, inner) refl

  pub optional_reader : IsReader (Optional (After kind R)) (or_mark kind goes) (optional kind p)
  optional_reader = record { sound = λ ts rest o e. optional_seen ts rest o (sees kind ts) refl e; complete = optional_complete }

-- ---- columns

pub dot_real : k.Dot ≢ k.End
dot_real e = cc

second_reader : IsReader (Optional (After k.Dot IsName)) (or_mark k.Dot nothing) (optional k.Dot name_at)
second_reader = optional_reader k.Dot dot_real IsName nothing name_at name_reader

pub column_parts : (a b : List Token) (first : List ℕ) (second : Option (List ℕ)) → IsName a first → Optional (After k.Dot IsName) b second → IsColumn (a ++ b) (column_of first second)
column_parts a b first None x y = let e : a ≡ a ++ b = sym (append-nil a) ∙ ap (λ z. a ++ z) (sym y) in let P : List Token → Type 0 = λ z. IsName z first in subst P e x
column_parts a b first (Some second) x y = (a, b, refl, x, y)

column_sound : (ts rest : List Token) (c : ColumnRef) → column_at ts ≡ Ok (c, rest) → (front : List Token) × (ts ≡ front ++ rest) × IsColumn front c
unfolding column_at
column_sound ts rest c e =
    let one = bind_ok (name_at ts) (λ first. optional k.Dot name_at >>= (λ second. pure (column_of first second))) (c, rest) e in
    let two = bind_ok (optional k.Dot name_at one.1) (λ second. pure (column_of one.0 second)) (c, rest) one.3 in
    let same = ok_pair (column_of one.0 two.0) c two.1 rest two.3 in
    let a = name_sound ts one.1 one.0 one.2 in
    let b = second_reader.sound one.1 two.1 two.0 two.2 in
    let P : ColumnRef → Type 0 = λ z. IsColumn (a.0 ++ b.0) z in
    (a.0 ++ b.0, a.1 ∙ ap (λ z. a.0 ++ z) (b.1 ∙ ap (λ z. b.0 ++ z) same.1) ∙ sym (append_assoc a.0 b.0 rest), subst P same.0 (column_parts a.0 b.0 one.0 two.0 a.2 b.2))

column_by : (source : Option (List ℕ)) (column : List ℕ) (front rest : List Token) → IsColumnOf source front column → dot (kind_at rest) ≡ false → column_at (front ++ rest) ≡ Ok (record { source = source; column = column }, rest)
unfolding column_at
column_by None column front rest is stop =
    let a = name_complete front rest column is refl in
    let b : optional k.Dot name_at rest ≡ Ok (None, rest) = second_reader.complete [] rest None refl stop in
    rw (a, b) refl
column_by (Some source) column front rest is stop =
    let regrouped : front ++ rest ≡ is.0 ++ (is.1 ++ rest) = ap (λ z. z ++ rest) is.2 ∙ append_assoc is.0 is.1 rest in
    let a = name_complete is.0 (is.1 ++ rest) source is.3 refl in
    let b = second_reader.complete is.1 rest (Some column) is.4 stop in
    rw (regrouped, a, b) refl

pub column_reader : IsReader IsColumn dot column_at
column_reader = record { sound = column_sound; complete = λ front rest c is stop. column_by c.source c.column front rest is stop }
