-- Readers that stop before a token only if some value continues the tokens that they took.
use Rattle.std.proofs.Common.{◌≡◌, ◌≢◌, ◌≤◌, ◌⊎◌, inl, inr, ℕ, zero, suc, Bool, true, false, List, [], ◌∷◌, ◌++◌, length, refl, ap, sym, ◌∙◌, arith, append_assoc, append-nil}
use Rattle.std.specs.Prelude.{Option, Some, None, Ok, Err}
use Rattle.tq_sql.specs.declared.cursor.Refusal.{Refusal}
use Rattle.tq_sql.specs.declared.token.TokenKind.{TokenKind}
use Rattle.tq_sql.specs.declared.token.TokenKind.TheVariants as k
use Rattle.tq_sql.specs.Tokens.{Token}
use Rattle.tq_sql.specs.Grammar.{After, Before, Pair, Optional, More}
use Rattle.tq_sql.specs.Descent.{Outcome, and_then, pure, next, sees, expect, preceded, optional, more_from, ◌>>=◌}
use Rattle.tq_sql.proofs.ReaderLemmas.{by_test, kind_seen, after_seen, after_unseen}
use Rattle.tq_sql.proofs.ConditionLemmas.{expect_some}

-- a value of the rule begins with the tokens
abbrev pub GoesOnAs : {A : Type 0} → (List Token → A → Type 0) → List Token → Type 0
GoesOnAs {A} R front = (more : List Token) × (x : A) × R (front ++ more) x

-- if reading stops, a value of the rule begins with the tokens before that position
pub record IsOpen {A B : Type 0} (R : List Token → A → Type 0) (p : List Token → Outcome B) : Type 0 where
  pub open_at : (ts rest : List Token) (why : Refusal) → p ts ≡ Err (why, rest) → (front : List Token) × (ts ≡ front ++ rest) × GoesOnAs R front

-- some tokens make a value of the rule
abbrev pub Example : {A : Type 0} → (List Token → A → Type 0) → Type 0
Example {A} R = (ts : List Token) × (x : A) × R ts x

abbrev pub token_of : TokenKind → Token
token_of what = record { at = 0; kind = what; text = [] }

-- ---- outcomes

pub bind_err : {A B : Type 0} (r : Outcome A) (f : A → List Token → Outcome B) (e : Refusal × List Token) → and_then r f ≡ Err e → (r ≡ Err e) ⊎ ((x : A) × (mid : List Token) × (r ≡ Ok (x, mid)) × (f x mid ≡ Err e))
bind_err {A} {B} (Err r) f e is = inl (same r e is)
  where
    same : (a b : Refusal × List Token) → ◌≡◌ {A = Outcome B} (Err a) (Err b) → ◌≡◌ {A = Outcome A} (Err a) (Err b)
    same a b is = let equal : a ≡ b = cc in ap Err equal
bind_err (Ok r) f e is = inr (r.0, r.1, refl, is)

pub err_pair : {A : Type 0} (x y : Refusal) (ts rest : List Token) → ◌≡◌ {A = Outcome A} (Err (x, ts)) (Err (y, rest)) → (x ≡ y) × (ts ≡ rest)
err_pair {A} x y ts rest e =
    let a : Refusal × List Token = (x, ts) in
    let b : Refusal × List Token = (y, rest) in
    let same : a ≡ b = err_same a b e in
    (ap (λ (r : Refusal × List Token). r.0) same, ap (λ (r : Refusal × List Token). r.1) same)
  where
    err_same : (a b : Refusal × List Token) → ◌≡◌ {A = Outcome A} (Err a) (Err b) → a ≡ b
    err_same a b e = cc

-- nothing was taken
pub none_taken : {A : Type 0} (R : List Token → A → Type 0) → Example R → (ts rest : List Token) → rest ≡ ts → (front : List Token) × (ts ≡ front ++ rest) × GoesOnAs R front
none_taken R some ts rest same = ([], sym same, (some.0, some.1, some.2))

-- ---- combinators

-- the same reading under a wider rule
pub wider : {A B C : Type 0} (R : List Token → A → Type 0) (S : List Token → C → Type 0) (p : List Token → Outcome B) → ((ts : List Token) (x : A) → R ts x → (y : C) × S ts y) → IsOpen R p → IsOpen S p
wider R S p to opened = record {
  open_at = λ ts rest why e. (let o = opened.open_at ts rest why e in let made = to (o.0 ++ o.2.0) o.2.1 o.2.2 in (o.0, o.1, (o.2.0, made.0, made.1)));
}

pub pure_open : {A B : Type 0} (R : List Token → A → Type 0) (x : B) → IsOpen R (pure x)
pure_open R x = record { open_at = λ ts rest why e. cc }

-- a reader that only changes the value
pub shaped_open : {A B C : Type 0} (R : List Token → A → Type 0) (p : List Token → Outcome B) (f : B → C) → IsOpen R p → IsOpen R (p >>= (λ x. pure (f x)))
shaped_open {A} {B} {C} R p f opened = record { open_at = at }
  where
    at : (ts rest : List Token) (why : Refusal) → (p >>= (λ x. pure (f x))) ts ≡ Err (why, rest) → (front : List Token) × (ts ≡ front ++ rest) × GoesOnAs R front
    at ts rest why e = elim (bind_err (p ts) (λ x. pure (f x)) (why, rest) e) [
      | inl s ↦ opened.open_at ts rest why s
      | inr s ↦ cc
    ]

expect_stops : (kind : TokenKind) (ts rest : List Token) (why : Refusal) → ◌≡◌ {A = Outcome (Unit {0})} (expect kind ts) (Err (why, rest)) → rest ≡ ts
unfolding expect
expect_stops kind ts rest why e = elim (by_test (sees kind ts) e) [
  | inl s ↦ cc
  | inr s ↦ sym (err_pair _ why ts rest s.1).1
]

pub behind_open : {A B : Type 0} (kind : TokenKind) (real : kind ≢ k.End) (R : List Token → A → Type 0) (p : List Token → Outcome B) → Example R → IsOpen R p → IsOpen (After kind R) (preceded kind p)
behind_open {A} {B} kind real R p some opened = record { open_at = at }
  where
    at : (ts rest : List Token) (why : Refusal) → preceded kind p ts ≡ Err (why, rest) → (front : List Token) × (ts ≡ front ++ rest) × GoesOnAs (After kind R) front
    at ts rest why e = elim (bind_err (expect kind ts) (λ _. p) (why, rest) e) [
      | inl s ↦ none_taken (After kind R) (token_of kind ∷ some.0, some.1, (refl, some.2)) ts rest (expect_stops kind ts rest why s)
      | inr s ↦
          (let first = expect_some kind ts s.1 real s.2 in
          let o = opened.open_at s.1 rest why s.3 in
          (first.0 ∷ o.0, first.1 ∙ ap (λ z. first.0 ∷ z) o.1, (o.2.0, o.2.1, (first.2, o.2.2))))
    ]

pub optional_open : {A B : Type 0} (kind : TokenKind) (real : kind ≢ k.End) (R : List Token → A → Type 0) (p : List Token → Outcome B) → IsOpen R p → IsOpen (Optional (After kind R)) (optional kind p)
optional_open {A} {B} kind real R p opened = record { open_at = λ ts rest why e. at ts rest why (sees kind ts) refl e }
  where
    at : (ts rest : List Token) (why : Refusal) (found : Bool) → sees kind ts ≡ found → optional kind p ts ≡ Err (why, rest) → (front : List Token) × (ts ≡ front ++ rest) × GoesOnAs (Optional (After kind R)) front
    at ts rest why false s e = let none : ◌≡◌ {A = Outcome (Option B)} (Ok (None, ts)) (Err (why, rest)) = rw (s, after_unseen kind ts s) at e in cc
    at ts rest why true s e = elim (bind_err (p (next ts)) (λ x. pure (Some x)) (why, rest) (rw (s, after_seen kind ts s) at e)) [
      | inl stops ↦
          (let first = kind_seen kind ts s real in
          let o = opened.open_at (next ts) rest why stops in
          (first.0 ∷ o.0, first.1 ∙ ap (λ z. first.0 ∷ z) o.1, (o.2.0, Some o.2.1, (first.2, o.2.2))))
      | inr goes ↦ cc
    ]

-- one value, and then the other
pub pair_open : {A C D : Type 0} (R : List Token → A → Type 0) (S : List Token → C → Type 0) (p : List Token → Outcome A) (q : A → List Token → Outcome D)
    → ((ts rest : List Token) (x : A) → p ts ≡ Ok (x, rest) → (front : List Token) × (ts ≡ front ++ rest) × R front x) → IsOpen R p → ((x : A) → IsOpen S (q x)) → Example S → IsOpen (Pair R S) (p >>= q)
pair_open {A} {C} {D} R S p q sound one two some = record { open_at = at }
  where
    at : (ts rest : List Token) (why : Refusal) → (p >>= q) ts ≡ Err (why, rest) → (front : List Token) × (ts ≡ front ++ rest) × GoesOnAs (Pair R S) front
    at ts rest why e = elim (bind_err (p ts) q (why, rest) e) [
      | inl s ↦
          (let o = one.open_at ts rest why s in
          (o.0, o.1, (o.2.0 ++ some.0, (o.2.1, some.1), (o.0 ++ o.2.0, some.0, sym (append_assoc o.0 o.2.0 some.0), o.2.2, some.2))))
      | inr s ↦
          (let first = sound ts s.1 s.0 s.2 in
          let o = (two s.0).open_at s.1 rest why s.3 in
          (first.0 ++ o.0, first.1 ∙ ap (λ z. first.0 ++ z) o.1 ∙ sym (append_assoc first.0 o.0 rest), (o.2.0, (s.0, o.2.1), (first.0, o.0 ++ o.2.0, append_assoc first.0 o.0 o.2.0, first.2, o.2.2))))
    ]

-- the value, and then a token of the kind
pub before_open : {A B : Type 0} (kind : TokenKind) (R : List Token → A → Type 0) (p : List Token → Outcome A) (f : A → B)
    → ((ts rest : List Token) (x : A) → p ts ≡ Ok (x, rest) → (front : List Token) × (ts ≡ front ++ rest) × R front x) → IsOpen R p → IsOpen (Before kind R) (p >>= (λ x. expect kind >>= (λ _. pure (f x))))
before_open {A} {B} kind R p f sound opened = record { open_at = at }
  where
    at : (ts rest : List Token) (why : Refusal) → (p >>= (λ x. expect kind >>= (λ _. pure (f x)))) ts ≡ Err (why, rest) → (front : List Token) × (ts ≡ front ++ rest) × GoesOnAs (Before kind R) front
    at ts rest why e = elim (bind_err (p ts) (λ x. expect kind >>= (λ _. pure (f x))) (why, rest) e) [
      | inl s ↦
          (let o = opened.open_at ts rest why s in
          (o.0, o.1, (o.2.0 ++ token_of kind ∷ [], o.2.1, (o.0 ++ o.2.0, token_of kind, sym (append_assoc o.0 o.2.0 (token_of kind ∷ [])), o.2.2, refl))))
      | inr s ↦
          (let first = sound ts s.1 s.0 s.2 in
          elim (bind_err (expect kind s.1) (λ _. pure (f s.0)) (why, rest) s.3) [
            | inl stops ↦ (first.0, first.1 ∙ ap (λ z. first.0 ++ z) (sym (expect_stops kind s.1 rest why stops)), (token_of kind ∷ [], s.0, (first.0, token_of kind, refl, first.2, refl)))
            | inr goes ↦ cc
          ])
    ]

-- ---- lists

module _ {A B : Type 0} (mark : TokenKind) (real : mark ≢ k.End) (R : List Token → A → Type 0) (p : List Token → Outcome A) (add : B → A → B)
    (sound : (ts rest : List Token) (x : A) → p ts ≡ Ok (x, rest) → (front : List Token) × (ts ≡ front ++ rest) × R front x) (opened : IsOpen R p) where
  -- further values begin with the tokens, at most as many as there were iterations
  abbrev pub MoreGoesOn : ℕ → List Token → List Token → Type 0
  MoreGoesOn n ts rest = (front : List Token) × (ts ≡ front ++ rest) × ((more : List Token) × (xs : List A) × More mark R (front ++ more) xs × (length xs ≤ n))

  more_turn : (n : ℕ) (all : B) (ts rest : List Token) (why : Refusal) (found : Bool) → sees mark ts ≡ found
      → ((all' : B) (mid : List Token) → more_from mark p add n all' mid ≡ Err (why, rest) → MoreGoesOn n mid rest)
      → more_from mark p add (suc n) all ts ≡ Err (why, rest) → MoreGoesOn (suc n) ts rest
  more_turn n all ts rest why false s again e = let none : ◌≡◌ {A = Outcome B} (Ok (all, ts)) (Err (why, rest)) = rw (s, after_unseen mark ts s) at e in cc
  more_turn n all ts rest why true s again e =
      let first = kind_seen mark ts s real in
      elim (bind_err (p (next ts)) (λ x. more_from mark p add n (add all x)) (why, rest) (rw (s, after_seen mark ts s) at e)) [
        | inl stops ↦
            (let o = opened.open_at (next ts) rest why stops in
            (first.0 ∷ o.0, first.1 ∙ ap (λ z. first.0 ∷ z) o.1, (o.2.0, o.2.1 ∷ [], (first.0, o.0 ++ o.2.0, [], ap (λ z. first.0 ∷ z) (sym (append-nil (o.0 ++ o.2.0))), first.2, o.2.2, refl), omega arith)))
        | inr goes ↦
            (let one = sound (next ts) goes.1 goes.0 goes.2 in
            let others = again (add all goes.0) goes.1 goes.3 in (
              first.0 ∷ (one.0 ++ others.0),
              first.1 ∙ ap (λ z. first.0 ∷ z) (one.1 ∙ ap (λ z. one.0 ++ z) others.1 ∙ sym (append_assoc one.0 others.0 rest)),
              (others.2.0, goes.0 ∷ others.2.1, (first.0, one.0, others.0 ++ others.2.0, ap (λ z. first.0 ∷ z) (append_assoc one.0 others.0 others.2.0), first.2, one.2, others.2.2), omega (arith, others.2.3)),
            ))
      ]

  pub more_open : (n : ℕ) (all : B) (ts rest : List Token) (why : Refusal) → more_from mark p add n all ts ≡ Err (why, rest) → MoreGoesOn n ts rest
  more_open zero all ts rest why e = cc
  more_open (suc n) all ts rest why e = more_turn n all ts rest why (sees mark ts) refl (λ all' mid f. more_open n all' mid rest why f) e

  -- a first value and further ones, at most one more in all than there were iterations
  abbrev pub ListGoesOn : ℕ → List Token → List Token → Type 0
  ListGoesOn n ts rest = (front : List Token) × (ts ≡ front ++ rest) × ((more : List Token) × (x : A) × (xs : List A) × Pair R (More mark R) (front ++ more) (x, xs) × (length xs ≤ n))

  pub list_open : (turns : List Token → ℕ) (begun : A → B) (n : ℕ) (ts rest : List Token) (why : Refusal) → ((x : A) (mid : List Token) → p ts ≡ Ok (x, mid) → turns mid ≤ n)
      → and_then (p ts) (λ x mid. more_from mark p add (turns mid) (begun x) mid) ≡ Err (why, rest) → ListGoesOn n ts rest
  list_open turns begun n ts rest why few e = elim (bind_err (p ts) (λ x mid. more_from mark p add (turns mid) (begun x) mid) (why, rest) e) [
    | inl stops ↦
        (let o = opened.open_at ts rest why stops in
        (o.0, o.1, (o.2.0, o.2.1, [], (o.0 ++ o.2.0, [], sym (append-nil (o.0 ++ o.2.0)), o.2.2, refl), omega arith)))
    | inr goes ↦
        (let one = sound ts goes.1 goes.0 goes.2 in
        let others = more_open (turns goes.1) (begun goes.0) goes.1 rest why goes.3 in (
          one.0 ++ others.0,
          one.1 ∙ ap (λ z. one.0 ++ z) others.1 ∙ sym (append_assoc one.0 others.0 rest),
          (others.2.0, goes.0, others.2.1, (one.0, others.0 ++ others.2.0, append_assoc one.0 others.0 others.2.0, one.2, others.2.2), omega (arith, others.2.3, few goes.0 goes.1 goes.2)),
        ))
  ]
