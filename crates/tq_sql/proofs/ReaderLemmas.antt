-- Readers that read exactly what a rule says.
use Rattle.std.proofs.Common.{◌≡◌, ◌≢◌, ◌≤◌, ◌⊎◌, inl, inr, ℕ, zero, suc, Bool, true, false, ◌||◌, cond, List, [], ◌∷◌, ◌++◌, length, refl, ap, sym, ◌∙◌, subst, arith, append_assoc, length-append}
use Rattle.std.specs.Prelude.{Option, Some, None, Result, Ok, Err}
use Rattle.tq_sql.specs.declared.cursor.Refusal.{Refusal}
use denote.Enum.Bare.{true_same}
use Rattle.tq_sql.specs.contracts.token.TokenKind.{the_type}
use Rattle.tq_sql.specs.declared.token.TokenKind.{TokenKind}
use Rattle.tq_sql.specs.declared.token.TokenKind.TheVariants as k
use Rattle.tq_sql.specs.Tokens.{Token, same_kind}
use Rattle.tq_sql.specs.Grammar.{More}
use Rattle.tq_sql.specs.Descent.{Outcome, and_then, given, kind_at, next, sees, after, more_from}
use Rattle.tq_sql.proofs.KindLemmas.{is_same}

-- p reads from the front what R says, if no token of these kinds follows
pub record IsReader {A : Type 0} (R : List Token → A → Type 0) (goes : TokenKind → Bool) (p : List Token → Outcome A) : Type 0 where
  pub sound : (ts rest : List Token) (x : A) → p ts ≡ Ok (x, rest) → (front : List Token) × (ts ≡ front ++ rest) × R front x
  pub complete : (front rest : List Token) (x : A) → R front x → goes (kind_at rest) ≡ false → p (front ++ rest) ≡ Ok (x, rest)

-- ---- tests and outcomes

pub same_itself : (a b : TokenKind) → a ≡ b → same_kind a b ≡ true
unfolding same_kind
same_itself a b e = true_same the_type a b e

pub by_test : {X : Type 0} {x y z : X} (b : Bool) → cond b x y ≡ z → ((b ≡ true) × (x ≡ z)) ⊎ ((b ≡ false) × (y ≡ z))
by_test true e = inl (refl, e)
by_test false e = inr (refl, e)

pub bind_ok : {A B : Type 0} (r : Outcome A) (f : A → List Token → Outcome B) (y : B × List Token) → and_then r f ≡ Ok y
    → (x : A) × (mid : List Token) × (r ≡ Ok (x, mid)) × (f x mid ≡ Ok y)
bind_ok (Err r) f y e = cc
bind_ok (Ok r) f y e = (r.0, r.1, refl, e)

pub kind_seen : (kind : TokenKind) (ts : List Token) → sees kind ts ≡ true → kind ≢ k.End → (t : Token) × (ts ≡ t ∷ next ts) × (t.kind ≡ kind)
unfolding sees kind_at next
kind_seen kind [] e n = absurd (n (sym (is_same k.End kind e)))
kind_seen kind (t ∷ ts) e n = (t, refl, is_same t.kind kind e)

pub seen_here : (t : Token) (ts : List Token) (kind : TokenKind) → t.kind ≡ kind → sees kind (t ∷ ts) ≡ true
unfolding sees kind_at
seen_here t ts kind e = same_itself t.kind kind e

pub next_of : (t : Token) (ts : List Token) → next (t ∷ ts) ≡ ts
unfolding next
next_of t ts = refl

pub after_seen : (kind : TokenKind) (ts : List Token) → sees kind ts ≡ true → after kind ts ≡ next ts
unfolding after
after_seen kind ts e = rw e refl

pub after_unseen : (kind : TokenKind) (ts : List Token) → sees kind ts ≡ false → after kind ts ≡ ts
unfolding after
after_unseen kind ts e = rw e refl

pub kind_of_first : (t : Token) (ts : List Token) → kind_at (t ∷ ts) ≡ t.kind
unfolding kind_at
kind_of_first t ts = refl

pub or_false : (a b : Bool) → (a || b) ≡ false → (a ≡ false) × (b ≡ false)
or_false true b e = cc
or_false false b e = (refl, e)

ok_same : {X E : Type 0} (a b : X) → ◌≡◌ {A = Result X E} (Ok a) (Ok b) → a ≡ b
ok_same a b e = cc

pub ok_pair : {A : Type 0} (x y : A) (ts rest : List Token) → ◌≡◌ {A = Outcome A} (Ok (x, ts)) (Ok (y, rest)) → (x ≡ y) × (ts ≡ rest)
ok_pair {A} x y ts rest e =
    let a : A × List Token = (x, ts) in
    let b : A × List Token = (y, rest) in
    let same : a ≡ b = ok_same {E = Refusal × List Token} a b e in
    (ap (λ (r : A × List Token). r.0) same, ap (λ (r : A × List Token). r.1) same)

pub given_some : {A : Type 0} (o : Option A) (x : A) (ts rest : List Token) → given o ts ≡ Ok (x, rest) → (o ≡ Some x) × (ts ≡ rest)
given_some None x ts rest e = cc
given_some (Some y) x ts rest e = let same = ok_pair y x ts rest e in (ap Some same.0, same.1)

-- ---- further values after separators

abbrev pub added : {A B : Type 0} → (B → A → B) → List A → B → B
added add [] all = all
added add (x ∷ xs) all = added add xs (add all x)

pub more_length : {A : Type 0} (mark : TokenKind) (R : List Token → A → Type 0) (xs : List A) (ts : List Token) → More mark R ts xs → length xs ≤ length ts
more_length mark R [] ts m = omega arith
more_length mark R (x ∷ xs) ts m =
    let t = m.0 in let a = m.1 in let b = m.2 in
    let below = more_length mark R xs b m.6 in
    omega (arith, below, ap length m.3, length-append a b)

-- where further values end, the rest begins; each comes after a separator
pub more_stops : {A : Type 0} (mark : TokenKind) (R : List Token → A → Type 0) (goes : TokenKind → Bool) → goes mark ≡ false → (xs : List A) (b rest : List Token) → More mark R b xs
    → goes (kind_at rest) ≡ false → goes (kind_at (b ++ rest)) ≡ false
more_stops mark R goes g [] b rest m e = let P : List Token → Type 0 = λ c. goes (kind_at (c ++ rest)) ≡ false in subst P (sym m) e
more_stops mark R goes g (x ∷ xs) b rest m e =
    let P : List Token → Type 0 = λ c. goes (kind_at (c ++ rest)) ≡ false in
    let first : goes (kind_at ((m.0 ∷ (m.1 ++ m.2)) ++ rest)) ≡ false = ap goes (kind_of_first m.0 ((m.1 ++ m.2) ++ rest) ∙ m.4) ∙ g in
    subst P (sym m.3) first

module _ {A B : Type 0} (mark : TokenKind) (real : mark ≢ k.End) (R : List Token → A → Type 0) (goes : TokenKind → Bool) (p : List Token → Outcome A) (add : B → A → B) (reader : IsReader R goes p) (apart : goes mark ≡ false) where
  pub more_complete : (n : ℕ) (xs : List A) (ts rest : List Token) (all : B) → More mark R ts xs → length xs ≤ n → goes (kind_at rest) ≡ false → sees mark rest ≡ false
      → more_from mark p add n all (ts ++ rest) ≡ Ok (added add xs all, rest)
  more_complete zero [] ts rest all m le g s = ap (λ c. Ok (all, c ++ rest)) m
  more_complete (suc n) [] ts rest all m le g s =
      let P : List Token → Type 0 = λ c. more_from mark p add (suc n) all (c ++ rest) ≡ Ok (all, rest) in
      let here : more_from mark p add (suc n) all rest ≡ Ok (all, rest) = rw (after_unseen mark rest s, s) refl in
      subst P (sym m) here
  more_complete zero (x ∷ xs) ts rest all m le g s = absurd (omega arith)
  more_complete (suc n) (x ∷ xs) ts rest all m le g s =
      let t = m.0 in let a = m.1 in let b = m.2 in
      let regrouped : (a ++ b) ++ rest ≡ a ++ (b ++ rest) = append_assoc a b rest in
      let seen : sees mark (t ∷ ((a ++ b) ++ rest)) ≡ true = seen_here t ((a ++ b) ++ rest) mark m.4 in
      let moved : after mark (t ∷ ((a ++ b) ++ rest)) ≡ a ++ (b ++ rest) = after_seen mark _ seen ∙ next_of t ((a ++ b) ++ rest) ∙ regrouped in
      let item : p (a ++ (b ++ rest)) ≡ Ok (x, b ++ rest) = reader.complete a (b ++ rest) x m.5 (more_stops mark R goes apart xs b rest m.6 g) in
      let below = more_complete n xs b rest (add all x) m.6 (omega arith) g s in
      let P : List Token → Type 0 = λ c. more_from mark p add (suc n) all (c ++ rest) ≡ Ok (added add (x ∷ xs) all, rest) in
      let here : more_from mark p add (suc n) all (t ∷ ((a ++ b) ++ rest)) ≡ Ok (added add xs (add all x), rest) = rw (seen, moved, item) below in
      subst P (sym m.3) here

  abbrev pub MoreRead : ℕ → B → B → List Token → List Token → Type 0
  MoreRead n all y ts rest = (xs : List A) × (front : List Token) × (ts ≡ front ++ rest) × More mark R front xs × (y ≡ added add xs all) × (length xs ≤ n)

  more_seen : (n : ℕ) (all y : B) (ts rest : List Token) (b : Bool) → sees mark ts ≡ b → ((all' : B) (mid : List Token) → more_from mark p add n all' mid ≡ Ok (y, rest) → MoreRead n all' y mid rest)
      → more_from mark p add (suc n) all ts ≡ Ok (y, rest) → MoreRead (suc n) all y ts rest
  more_seen n all y ts rest false s again f = let g = ok_pair all y ts rest (rw (s, after_unseen mark ts s) at f) in ([], [], g.1, refl, sym g.0, omega arith)
  more_seen n all y ts rest true s again f =
      let g = rw (s, after_seen mark ts s) at f in
      let step = bind_ok (p (next ts)) (λ x. more_from mark p add n (add all x)) (y, rest) g in
      let one = reader.sound (next ts) step.1 step.0 step.2 in
      let others = again (add all step.0) step.1 step.3 in
      let first = kind_seen mark ts s real in
      (step.0 ∷ others.0, first.0 ∷ (one.0 ++ others.1), first.1 ∙ ap (λ c. first.0 ∷ c) (one.1 ∙ ap (λ c. one.0 ++ c) others.2 ∙ sym (append_assoc one.0 others.1 rest)), (first.0, one.0, others.1, refl, first.2, one.2, others.3), others.4, omega (arith, others.5))

  pub more_sound : (n : ℕ) (all y : B) (ts rest : List Token) → more_from mark p add n all ts ≡ Ok (y, rest) → MoreRead n all y ts rest
  more_sound zero all y ts rest e = let g = ok_pair all y ts rest e in ([], [], g.1, refl, sym g.0, omega arith)
  more_sound (suc n) all y ts rest e = more_seen n all y ts rest (sees mark ts) refl (λ all' mid f. more_sound n all' y mid rest f) e
