-- The readers of conditions.
use Rattle.std.proofs.Common.{◌≡◌, ◌≢◌, ◌≤◌, inl, inr, ℕ, zero, suc, Bool, false, ◌||◌, List, [], ◌∷◌, ◌++◌, length, refl, ap, sym, ◌∙◌, arith, append_assoc, length-append}
use Rattle.std.specs.Prelude.{Ok}
use Rattle.tq_sql.specs.declared.token.TokenKind.{TokenKind}
use Rattle.tq_sql.specs.declared.token.TokenKind.TheVariants as k
use Rattle.tq_sql.specs.declared.statement.Cond.{Cond}
use Rattle.tq_sql.specs.declared.statement.Cond.TheVariants as c
use Rattle.tq_sql.specs.Tokens.{Token, same_kind}
use Rattle.tq_sql.specs.Grammar.{join, IsChain, IsAnd, IsOr, IsComparison, IsNot}
use Rattle.tq_sql.specs.Descent.{Outcome, pure, kind_at, next, sees, expect, more_from, chain, comparison_at, closed, not_at, ◌>>=◌}
use Rattle.tq_sql.proofs.ReaderLemmas.{IsReader, by_test, bind_ok, ok_pair, kind_seen, seen_here, next_of, kind_of_first, or_false, added, more_length, more_stops, more_complete, more_sound}

-- ---- chains

added_join : (both : Cond → Cond → Cond) (xs : List Cond) (x : Cond) → added both xs x ≡ join both xs x
added_join both [] x = refl
added_join both (y ∷ xs) x = added_join both xs (both x y)

-- the kinds with which a chain could continue
abbrev pub or_mark : TokenKind → (TokenKind → Bool) → TokenKind → Bool
or_mark mark goes kind = goes kind || same_kind kind mark

pub sees_kind : (kind : TokenKind) (ts : List Token) (b : Bool) → same_kind (kind_at ts) kind ≡ b → sees kind ts ≡ b
unfolding sees
sees_kind kind ts b e = e

module _ (mark : TokenKind) (real : mark ≢ k.End) (both : Cond → Cond → Cond) (R : List Token → Cond → Type 0) (goes : TokenKind → Bool) (p : List Token → Outcome Cond) (reader : IsReader R goes p) (apart : goes mark ≡ false) where
  chain_complete : (front rest : List Token) (x : Cond) → IsChain mark both R front x → or_mark mark goes (kind_at rest) ≡ false → chain mark both p (front ++ rest) ≡ Ok (x, rest)
  chain_complete front rest x is stop =
      let parts = or_false (goes (kind_at rest)) (same_kind (kind_at rest) mark) stop in
      let unseen = sees_kind mark rest false parts.1 in
      let a = is.spelled.0 in let b = is.spelled.1 in
      let regrouped : front ++ rest ≡ a ++ (b ++ rest) = ap (λ z. z ++ rest) is.spelled.2 ∙ append_assoc a b rest in
      let first : p (a ++ (b ++ rest)) ≡ Ok (is.first, b ++ rest) = reader.complete a (b ++ rest) is.first is.spelled.3 (more_stops mark R goes apart is.more b rest is.spelled.4 parts.0) in
      let enough : length is.more ≤ length (b ++ rest) = omega (arith, more_length mark R is.more b is.spelled.4, length-append b rest) in
      let others : more_from mark p both (length (b ++ rest)) is.first (b ++ rest) ≡ Ok (added both is.more is.first, rest) =
      more_complete mark real R goes p both reader apart (length (b ++ rest)) is.more b rest is.first is.spelled.4 enough parts.0 unseen in
      let whole : chain mark both p (a ++ (b ++ rest)) ≡ Ok (added both is.more is.first, rest) = rw first others in
      ap (chain mark both p) regrouped ∙ whole ∙ ap (λ z. Ok (z, rest)) (added_join both is.more is.first ∙ sym is.value)

  chain_sound : (ts rest : List Token) (x : Cond) → chain mark both p ts ≡ Ok (x, rest) → (front : List Token) × (ts ≡ front ++ rest) × IsChain mark both R front x
  chain_sound ts rest x e =
      let step = bind_ok (p ts) (λ y mid. more_from mark p both (length mid) y mid) (x, rest) e in
      let one = reader.sound ts step.1 step.0 step.2 in
      let others = more_sound mark real R goes p both reader apart (length step.1) step.0 x step.1 rest step.3 in (
        one.0 ++ others.1,
        one.1 ∙ ap (λ z. one.0 ++ z) others.2 ∙ sym (append_assoc one.0 others.1 rest),
        record { first = step.0; more = others.0; value = others.4 ∙ added_join both others.0 step.0; spelled = (one.0, others.1, refl, one.2, others.3) },
      )

  pub chain_reader : IsReader (IsChain mark both R) (or_mark mark goes) (chain mark both p)
  chain_reader = record { sound = chain_sound; complete = chain_complete }

-- ---- factors

abbrev pub dot : TokenKind → Bool
dot kind = same_kind kind k.Dot

abbrev pub and_goes : TokenKind → Bool
and_goes = or_mark k.And dot

abbrev pub or_goes : TokenKind → Bool
or_goes = or_mark k.Or and_goes

pub seen_kind : (t : Token) (ts : List Token) (a b : TokenKind) (r : Bool) → t.kind ≡ a → same_kind a b ≡ r → sees b (t ∷ ts) ≡ r
unfolding sees kind_at
seen_kind t ts a b r e d = ap (λ z. same_kind z b) e ∙ d

open_not : same_kind k.Open k.Not ≡ false
unfolding same_kind
open_not = refl

close_stops : or_goes k.Close ≡ false
unfolding same_kind
close_stops = refl

pub and_dot : dot k.And ≡ false
unfolding same_kind
and_dot = refl

pub or_and_dot : and_goes k.Or ≡ false
unfolding same_kind
or_and_dot = refl

pub and_real : k.And ≢ k.End
and_real e = cc

pub or_real : k.Or ≢ k.End
or_real e = cc

pub not_real : k.Not ≢ k.End
not_real e = cc

pub open_real : k.Open ≢ k.End
open_real e = cc

pub close_real : k.Close ≢ k.End
close_real e = cc

pub expect_some : (kind : TokenKind) (ts rest : List Token) → kind ≢ k.End → ◌≡◌ {A = Outcome (Unit {0})} (expect kind ts) (Ok (tt, rest)) → (t : Token) × (ts ≡ t ∷ rest) × (t.kind ≡ kind)
unfolding expect
expect_some kind ts rest n e = elim (by_test (sees kind ts) e) [
  | inl s ↦ (let first = kind_seen kind ts s.0 n in let same = ok_pair tt tt (next ts) rest s.1 in (first.0, first.1 ∙ ap (λ z. first.0 ∷ z) same.1, first.2))
  | inr s ↦ cc
]

pub expect_here : (kind : TokenKind) (t : Token) (ts : List Token) → t.kind ≡ kind → ◌≡◌ {A = Outcome (Unit {0})} (expect kind (t ∷ ts)) (Ok (tt, ts))
unfolding expect
expect_here kind t ts e = rw (seen_here t ts kind e, next_of t ts) refl

closed_some : (p : List Token → Outcome Cond) (ts rest : List Token) (x : Cond) → closed p ts ≡ Ok (x, rest) → (t : Token) × (p ts ≡ Ok (x, t ∷ rest)) × (t.kind ≡ k.Close)
unfolding closed
closed_some p ts rest x e =
    let step = bind_ok (p ts) (λ y. expect k.Close >>= (λ _. pure y)) (x, rest) e in
    let last = bind_ok (expect k.Close step.1) (λ _. pure step.0) (x, rest) step.3 in
    let same = ok_pair step.0 x last.1 rest last.3 in
    let preceded = expect_some k.Close step.1 last.1 close_real last.2 in
    let here : step.1 ≡ preceded.0 ∷ rest = preceded.1 ∙ ap (λ z. preceded.0 ∷ z) same.1 in
    (preceded.0, rw (same.0, here) at step.2, preceded.2)

closed_here : (p : List Token → Outcome Cond) (ts rest : List Token) (x : Cond) (t : Token) → p ts ≡ Ok (x, t ∷ rest) → t.kind ≡ k.Close → closed p ts ≡ Ok (x, rest)
unfolding closed
closed_here p ts rest x t e n = rw (e, expect_here k.Close t rest n) refl

module _ (comparison : IsReader IsComparison dot comparison_at) (starts : (ts rest : List Token) (x : Cond) → IsComparison ts x → (sees k.Not (ts ++ rest) ≡ false) × (sees k.Open (ts ++ rest) ≡ false)) where
  pub or_reader_of : (R : List Token → Cond → Type 0) (p : List Token → Outcome Cond) → IsReader R dot p → IsReader (IsOr R) or_goes (chain k.Or c.Or (chain k.And c.And p))
  or_reader_of R p reader =
      chain_reader k.Or or_real c.Or (IsAnd R) and_goes (chain k.And c.And p) (chain_reader k.And and_real c.And R dot p reader and_dot) or_and_dot

  abbrev pub Read : ℕ → List Token → List Token → Cond → Type 0
  Read n ts rest x = (front : List Token) × (ts ≡ front ++ rest) × IsNot n front x

  not_sound : (n : ℕ) → IsReader (IsNot n) dot (not_at n) → (ts rest : List Token) (x : Cond) → not_at (suc n) ts ≡ Ok (x, rest) → Read (suc n) ts rest x
  unfolding not_at
  not_sound n reader ts rest x e = elim (by_test (sees k.Not ts) e) [
    | inl s ↦
        (let first = kind_seen k.Not ts s.0 not_real in
        let step = bind_ok (not_at n (next ts)) (λ y. pure (c.Not y)) (x, rest) s.1 in
        let same = ok_pair (c.Not step.0) x step.1 rest step.3 in
        let inner = reader.sound (next ts) step.1 step.0 step.2 in
        (first.0 ∷ inner.0, first.1 ∙ ap (λ z. first.0 ∷ z) (inner.1 ∙ ap (λ z. inner.0 ++ z) same.1), inr (inl (record { inner = step.0; value = sym same.0; spelled = (first.2, inner.2) }))))
    | inr s ↦ elim (by_test (sees k.Open ts) s.1) [
      | inl o ↦
          (let first = kind_seen k.Open ts o.0 open_real in
          let step = closed_some (chain k.Or c.Or (chain k.And c.And (not_at n))) (next ts) rest x o.1 in
          let inner = (or_reader_of (IsNot n) (not_at n) reader).sound (next ts) (step.0 ∷ rest) x step.1 in
          (first.0 ∷ (inner.0 ++ step.0 ∷ []), first.1 ∙ ap (λ z. first.0 ∷ z) (inner.1 ∙ sym (append_assoc inner.0 (step.0 ∷ []) rest)), inr (inr (first.2, (inner.0, step.0, refl, inner.2, step.2)))))
      | inr o ↦ (let found = comparison.sound ts rest x o.1 in (found.0, found.1, inl found.2))
    ]
  ]

  not_complete : (n : ℕ) → IsReader (IsNot n) dot (not_at n) → (front rest : List Token) (x : Cond) → IsNot (suc n) front x → dot (kind_at rest) ≡ false → not_at (suc n) (front ++ rest) ≡ Ok (x, rest)
  unfolding not_at
  not_complete n reader [] rest x (inl cmp) stop = let first = starts [] rest x cmp in rw (first.0, first.1) (comparison.complete [] rest x cmp stop)
  not_complete n reader [] rest x (inr (inl neg)) stop = absurd neg.spelled
  not_complete n reader [] rest x (inr (inr br)) stop = absurd br
  not_complete n reader (t ∷ front) rest x (inl cmp) stop = let first = starts (t ∷ front) rest x cmp in rw (first.0, first.1) (comparison.complete (t ∷ front) rest x cmp stop)
  not_complete n reader (t ∷ front) rest x (inr (inl neg)) stop =
      let seen = seen_here t (front ++ rest) k.Not neg.spelled.0 in
      let inner = reader.complete front rest neg.inner neg.spelled.1 stop in
      rw (seen, next_of t (front ++ rest), inner) (ap (λ z. Ok (z, rest)) (sym neg.value))
  not_complete n reader (t ∷ front) rest x (inr (inr br)) stop =
      let unseen = seen_kind t (front ++ rest) k.Open k.Not false br.0 open_not in
      let seen = seen_here t (front ++ rest) k.Open br.0 in
      let a = br.1.0 in
      let u = br.1.1 in
      let regrouped : front ++ rest ≡ a ++ (u ∷ rest) = ap (λ z. z ++ rest) br.1.2 ∙ append_assoc a (u ∷ []) rest in
      let stops : or_goes (kind_at (u ∷ rest)) ≡ false = ap or_goes (kind_of_first u rest ∙ br.1.4) ∙ close_stops in
      let inner = (or_reader_of (IsNot n) (not_at n) reader).complete a (u ∷ rest) x br.1.3 stops in
      let done : closed (chain k.Or c.Or (chain k.And c.And (not_at n))) (a ++ (u ∷ rest)) ≡ Ok (x, rest) = closed_here (chain k.Or c.Or (chain k.And c.And (not_at n))) (a ++ (u ∷ rest)) rest x u inner br.1.4 in
      rw (unseen, seen, next_of t (front ++ rest), regrouped) done

  zero_sound : (ts rest : List Token) (x : Cond) → not_at 0 ts ≡ Ok (x, rest) → Read 0 ts rest x
  unfolding not_at
  zero_sound ts rest x e = elim (by_test (sees k.Not ts) e) [
    | inl s ↦ cc
    | inr s ↦ elim (by_test (sees k.Open ts) s.1) [ inl o ↦ cc | inr o ↦ comparison.sound ts rest x o.1 ]
  ]

  zero_complete : (front rest : List Token) (x : Cond) → IsNot 0 front x → dot (kind_at rest) ≡ false → not_at 0 (front ++ rest) ≡ Ok (x, rest)
  unfolding not_at
  zero_complete front rest x cmp stop = let first = starts front rest x cmp in rw (first.0, first.1) (comparison.complete front rest x cmp stop)

  pub not_reader : (n : ℕ) → IsReader (IsNot n) dot (not_at n)
  not_reader zero = record { sound = zero_sound; complete = zero_complete }
  not_reader (suc n) = record { sound = not_sound n (not_reader n); complete = not_complete n (not_reader n) }
