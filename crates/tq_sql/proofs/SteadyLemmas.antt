-- Readers that look no further than the token before which they stop: their result does not depend on the tokens after
-- it.
use Rattle.std.proofs.Common.{◌≡◌, ◌≢◌, ◌≤◌, ◌⊎◌, inl, inr, ℕ, zero, suc, ◌+◌, Bool, true, false, cond, List, [], ◌∷◌, ◌++◌, length, refl, ap, sym, ◌∙◌, subst, arith, append_assoc, length-append}
use Rattle.std.specs.Prelude.{Option, Some, None, Ok, Err}
use Rattle.tq_sql.specs.declared.cursor.Refusal.TheVariants.{TooDeep, Unexpected}
use Rattle.tq_sql.specs.declared.token.TokenKind.{TokenKind}
use Rattle.tq_sql.specs.declared.token.TokenKind.TheVariants as k
use Rattle.tq_sql.specs.Tokens.{Token, same_kind}
use Rattle.tq_sql.specs.Descent.{Outcome, and_then, pure, stop, given, kind_at, next, sees, eat, peek_bytes, taken, expect, more_from, optional, preceded, ◌>>=◌}
use Rattle.tq_sql.proofs.ReaderLemmas.{after_seen, after_unseen, kind_seen}

-- two lists that agree up to and including a token
pub record Same (t : Token) (rest more u v : List Token) : Type 0 where
  pub back : List Token
  pub left : u ≡ back ++ t ∷ rest
  pub right : v ≡ back ++ t ∷ more

-- the tokens that a reader leaves, or before which it stops
abbrev pub tail_of : {A : Type 0} → Outcome A → List Token
tail_of (Ok r) = r.1
tail_of (Err r) = r.1

-- the same results before tokens that agree so
abbrev pub Agreeing : {A : Type 0} → Token → List Token → List Token → Outcome A → Outcome A → Type 0
Agreeing t rest more (Ok r) (Ok s) = (r.0 ≡ s.0) × Same t rest more r.1 s.1
Agreeing t rest more (Err r) (Err s) = (r.0 ≡ s.0) × Same t rest more r.1 s.1
Agreeing t rest more (Ok r) (Err s) = ⊥
Agreeing t rest more (Err r) (Ok s) = ⊥

-- .. or the first went past the token
abbrev pub AgreeingTo : {A : Type 0} → Token → List Token → List Token → Outcome A → Outcome A → Type 0
AgreeingTo t rest more r s = Agreeing t rest more r s ⊎ (length (tail_of r) ≤ length rest)

-- a refusal is Unexpected, unless the reader has levels
abbrev pub Says : {A : Type 0} → Bool → Outcome A → Type 0
Says true r = Unit {0}
Says false (Ok r) = Unit {0}
Says false (Err r) = r.0 ≡ Unexpected

-- `deep`: the reader has levels
pub record IsSteady {A : Type 0} (deep : Bool) (p : List Token → Outcome A) : Type 0 where
  pub says : (ts : List Token) → Says deep (p ts)
  pub suffix : (ts : List Token) → (front : List Token) × (ts ≡ front ++ tail_of (p ts))
  pub agrees : (t : Token) (rest more u v : List Token) → Same t rest more u v → AgreeingTo t rest more (p u) (p v)

pub shorter : {A : Type 0} {deep : Bool} (p : List Token → Outcome A) → IsSteady deep p → (ts : List Token) → length (tail_of (p ts)) ≤ length ts
shorter p steady ts = let s = steady.suffix ts in omega (arith, ap length s.1, length-append s.0 (tail_of (p ts)))

-- ---- one reader after another

bind_suffix : {A B : Type 0} {deep : Bool} (r : Outcome A) (f : A → List Token → Outcome B) → ((x : A) → IsSteady deep (f x)) → (ts : List Token) → (front : List Token) × (ts ≡ front ++ tail_of r) → (front : List Token) × (ts ≡ front ++ tail_of (and_then r f))
bind_suffix (Err r) f steady ts is = is
bind_suffix (Ok r) f steady ts is =
    let next_one = (steady r.0).suffix r.1 in
    (is.0 ++ next_one.0, is.1 ∙ ap (λ z. is.0 ++ z) next_one.1 ∙ sym (append_assoc is.0 next_one.0 (tail_of (f r.0 r.1))))

bind_agrees : {A B : Type 0} {deep : Bool} (t : Token) (rest more : List Token) (r s : Outcome A) (f : A → List Token → Outcome B) → ((x : A) → IsSteady deep (f x)) → AgreeingTo t rest more r s → AgreeingTo t rest more (and_then r f) (and_then s f)
bind_agrees t rest more (Ok r) (Ok s) f steady (inl h) =
    let P = λ (z : _). AgreeingTo t rest more (f r.0 r.1) (f z s.1) in
    subst P h.0 ((steady r.0).agrees t rest more r.1 s.1 h.1)
bind_agrees t rest more (Ok r) (Err s) f steady (inl h) = absurd h
bind_agrees t rest more (Err r) (Ok s) f steady (inl h) = absurd h
bind_agrees t rest more (Err r) (Err s) f steady (inl h) = inl h
bind_agrees t rest more (Ok r) s f steady (inr h) = inr (let less = shorter (f r.0) (steady r.0) r.1 in omega (arith, less, h))
bind_agrees t rest more (Err r) s f steady (inr h) = inr h

bind_says : {A B : Type 0} (deep : Bool) (r : Outcome A) (f : A → List Token → Outcome B) → ((x : A) → IsSteady deep (f x)) → Says deep r → Says deep (and_then r f)
bind_says true r f steady says = tt
bind_says false (Err r) f steady says = says
bind_says false (Ok r) f steady says = (steady r.0).says r.1

pub bind_steady : {A B : Type 0} {deep : Bool} (p : List Token → Outcome A) (f : A → List Token → Outcome B) → IsSteady deep p → ((x : A) → IsSteady deep (f x)) → IsSteady deep (p >>= f)
bind_steady {A} {B} {deep} p f one others = record {
  says = λ ts. bind_says deep (p ts) f others (one.says ts);
  suffix = λ ts. bind_suffix (p ts) f others ts (one.suffix ts);
  agrees = λ t rest more u v same. bind_agrees t rest more (p u) (p v) f others (one.agrees t rest more u v same);
}

pub ok_says : {A : Type 0} (deep : Bool) (r : A × List Token) → Says {A = A} deep (Ok r)
ok_says true r = tt
ok_says false r = tt

pub unexpected_says : (A : Type 0) (deep : Bool) (ts : List Token) → Says {A = A} deep (Err (Unexpected, ts))
unexpected_says A true ts = tt
unexpected_says A false ts = refl

pub pure_steady : {A : Type 0} {deep : Bool} (x : A) → IsSteady deep (pure x)
pure_steady {A} {deep} x = record { says = λ ts. ok_says deep (x, ts); suffix = λ ts. ([], refl); agrees = λ t rest more u v same. inl (refl, same) }

pub stop_steady : {A : Type 0} {deep : Bool} → IsSteady deep (stop {A = A} Unexpected)
stop_steady {A} {deep} = record { says = λ ts. unexpected_says A deep ts; suffix = λ ts. ([], refl); agrees = λ t rest more u v same. inl (refl, same) }

pub too_deep_steady : {A : Type 0} → IsSteady true (stop {A = A} TooDeep)
too_deep_steady = record { says = λ ts. tt; suffix = λ ts. ([], refl); agrees = λ t rest more u v same. inl (refl, same) }

pub given_steady : {A : Type 0} {deep : Bool} (o : Option A) → IsSteady deep (given o)
given_steady None = stop_steady
given_steady (Some x) = pure_steady x

pub either_steady : {A : Type 0} {deep : Bool} (b : Bool) (p q : List Token → Outcome A) → IsSteady deep p → IsSteady deep q → IsSteady deep (cond b p q)
either_steady true p q one two = one
either_steady false p q one two = two

-- ---- the next token

-- both lists begin with the same token
same_first : (t : Token) (rest more u v : List Token) → Same t rest more u v → (b : Token) × (us : List Token) × (vs : List Token) × (u ≡ b ∷ us) × (v ≡ b ∷ vs)
same_first t rest more u v same = by same.back same.left same.right
  where
    by : (back : List Token) → u ≡ back ++ t ∷ rest → v ≡ back ++ t ∷ more → (b : Token) × (us : List Token) × (vs : List Token) × (u ≡ b ∷ us) × (v ≡ b ∷ vs)
    by [] l r = (t, rest, more, l, r)
    by (b ∷ bs) l r = (b, bs ++ t ∷ rest, bs ++ t ∷ more, l, r)

pub same_kinds : (t : Token) (rest more u v : List Token) → Same t rest more u v → kind_at u ≡ kind_at v
unfolding kind_at
same_kinds t rest more u v same = let first = same_first t rest more u v same in ap kind_at first.3 ∙ sym (ap kind_at first.4)

same_next : (t : Token) (rest more u v : List Token) → Same t rest more u v → Same t rest more (next u) (next v) ⊎ (length (next u) ≤ length rest)
unfolding next
same_next t rest more u v same = by same.back same.left same.right
  where
    by : (back : List Token) → u ≡ back ++ t ∷ rest → v ≡ back ++ t ∷ more → Same t rest more (next u) (next v) ⊎ (length (next u) ≤ length rest)
    by [] l r = inr (let e = ap length (ap next l) in omega (arith, e))
    by (b ∷ bs) l r = inl (record { back = bs; left = ap next l; right = ap next r })

next_suffix : (ts : List Token) → (front : List Token) × (ts ≡ front ++ next ts)
unfolding next
next_suffix [] = ([], refl)
next_suffix (t ∷ ts) = (t ∷ [], refl)

pub next_steady : {A : Type 0} {deep : Bool} (p : List Token → Outcome A) → IsSteady deep p → IsSteady deep (λ ts. p (next ts))
next_steady {A} p steady = record { says = λ ts. steady.says (next ts); suffix = suffix; agrees = agrees }
  where
    suffix : (ts : List Token) → (front : List Token) × (ts ≡ front ++ tail_of (p (next ts)))
    suffix ts =
        let one = next_suffix ts in
        let two = steady.suffix (next ts) in
        (one.0 ++ two.0, one.1 ∙ ap (λ z. one.0 ++ z) two.1 ∙ sym (append_assoc one.0 two.0 (tail_of (p (next ts)))))

    agrees : (t : Token) (rest more u v : List Token) → Same t rest more u v → AgreeingTo t rest more (p (next u)) (p (next v))
    agrees t rest more u v same = elim (same_next t rest more u v same) [
      | inl s ↦ steady.agrees t rest more (next u) (next v) s
      | inr s ↦ inr (let less = shorter p steady (next u) in omega (arith, less, s))
    ]

pub if_steady : {A : Type 0} {deep : Bool} (kind : TokenKind) (p q : List Token → Outcome A) → IsSteady deep p → IsSteady deep q → IsSteady deep (λ ts. cond (sees kind ts) (p ts) (q ts))
unfolding sees
if_steady {A} {deep} kind p q one two = record { says = λ ts. says ts (sees kind ts); suffix = λ ts. suffix ts (sees kind ts); agrees = agrees }
  where
    says : (ts : List Token) (b : Bool) → Says deep (cond b (p ts) (q ts))
    says ts true = one.says ts
    says ts false = two.says ts

    suffix : (ts : List Token) (b : Bool) → (front : List Token) × (ts ≡ front ++ tail_of (cond b (p ts) (q ts)))
    suffix ts true = one.suffix ts
    suffix ts false = two.suffix ts

    by : (t : Token) (rest more u v : List Token) (b : Bool) → Same t rest more u v → AgreeingTo t rest more (cond b (p u) (q u)) (cond b (p v) (q v))
    by t rest more u v true same = one.agrees t rest more u v same
    by t rest more u v false same = two.agrees t rest more u v same

    agrees : (t : Token) (rest more u v : List Token) → Same t rest more u v → AgreeingTo t rest more (cond (sees kind u) (p u) (q u)) (cond (sees kind v) (p v) (q v))
    agrees t rest more u v same =
        let equal : sees kind u ≡ sees kind v = ap (λ z. same_kind z kind) (same_kinds t rest more u v same) in
        let P = λ (b : Bool). AgreeingTo t rest more (cond (sees kind u) (p u) (q u)) (cond b (p v) (q v)) in
        subst P equal (by t rest more u v (sees kind u) same)

pub equal_steady : {A : Type 0} {deep : Bool} (p q : List Token → Outcome A) → ((ts : List Token) → q ts ≡ p ts) → IsSteady deep q → IsSteady deep p
equal_steady {A} {deep} p q equal steady = record { says = says; suffix = suffix; agrees = agrees }
  where
    says : (ts : List Token) → Says deep (p ts)
    says ts = let P = λ (r : Outcome A). Says deep r in subst P (equal ts) (steady.says ts)

    suffix : (ts : List Token) → (front : List Token) × (ts ≡ front ++ tail_of (p ts))
    suffix ts = let P = λ (r : Outcome A). (front : List Token) × (ts ≡ front ++ tail_of r) in subst P (equal ts) (steady.suffix ts)

    agrees : (t : Token) (rest more u v : List Token) → Same t rest more u v → AgreeingTo t rest more (p u) (p v)
    agrees t rest more u v same =
        let P = λ (r : Outcome A). AgreeingTo t rest more r (p v) in
        let Q = λ (r : Outcome A). AgreeingTo t rest more (q u) r in
        subst P (equal u) (subst Q (equal v) (steady.agrees t rest more u v same))

pub eat_steady : {deep : Bool} (kind : TokenKind) → IsSteady deep (eat kind)
eat_steady kind = equal_steady (eat kind) (λ ts. cond (sees kind ts) (pure true (next ts)) (pure false ts)) (λ ts. by ts (sees kind ts) refl) (if_steady kind (λ ts. pure true (next ts)) (pure false) (next_steady (pure true) (pure_steady true)) (pure_steady false))
  where
    by : (ts : List Token) (b : Bool) → sees kind ts ≡ b → ◌≡◌ {A = Outcome Bool} (cond (sees kind ts) (pure true (next ts)) (pure false ts)) (eat kind ts)
    by ts true s = rw (s, after_seen kind ts s) refl
    by ts false s = rw (s, after_unseen kind ts s) refl

pub expect_steady : {deep : Bool} (kind : TokenKind) → IsSteady deep (expect kind)
unfolding expect
expect_steady kind = if_steady kind (λ ts. pure tt (next ts)) (stop _) (next_steady (pure tt) (pure_steady tt)) stop_steady

pub taken_steady : {A : Type 0} {deep : Bool} (x : A) → IsSteady deep (taken x)
taken_steady x = next_steady (pure x) (pure_steady x)

pub look_steady : {deep : Bool} (kind : TokenKind) → IsSteady deep (peek_bytes kind)
unfolding peek_bytes
look_steady {deep} kind = record { says = says; suffix = suffix; agrees = agrees }
  where
    says_first : (b : Bool) (t : Token) (ts : List Token) → Says deep (cond b (Ok (t.text, t ∷ ts)) (stop {A = List ℕ} Unexpected (t ∷ ts)))
    says_first true t ts = ok_says deep (t.text, t ∷ ts)
    says_first false t ts = unexpected_says (List ℕ) deep (t ∷ ts)

    says : (ts : List Token) → Says deep (peek_bytes kind ts)
    says [] = unexpected_says (List ℕ) deep []
    says (t ∷ ts) = says_first (same_kind t.kind kind) t ts

    at_first : (b : Bool) (t : Token) (ts : List Token) → tail_of (cond b (Ok (t.text, t ∷ ts)) (stop {A = List ℕ} Unexpected (t ∷ ts))) ≡ t ∷ ts
    at_first true t ts = refl
    at_first false t ts = refl

    suffix : (ts : List Token) → (front : List Token) × (ts ≡ front ++ tail_of (peek_bytes kind ts))
    suffix [] = ([], refl)
    suffix (t ∷ ts) = ([], sym (at_first (same_kind t.kind kind) t ts))

    by : (t : Token) (rest more : List Token) (x : Token) (us vs : List Token) (b : Bool) → Same t rest more (x ∷ us) (x ∷ vs)
        → AgreeingTo t rest more (cond b (Ok (x.text, x ∷ us)) (stop {A = List ℕ} Unexpected (x ∷ us))) (cond b (Ok (x.text, x ∷ vs)) (stop {A = List ℕ} Unexpected (x ∷ vs)))
    by t rest more x us vs true same = inl (refl, same)
    by t rest more x us vs false same = inl (refl, same)

    agrees : (t : Token) (rest more u v : List Token) → Same t rest more u v → AgreeingTo t rest more (peek_bytes kind u) (peek_bytes kind v)
    agrees t rest more u v same =
        let first = same_first t rest more u v same in
        let same_here : Same t rest more (first.0 ∷ first.1) (first.0 ∷ first.2) = record { back = same.back; left = sym first.3 ∙ same.left; right = sym first.4 ∙ same.right } in
        let P = λ (z : List Token). AgreeingTo t rest more (peek_bytes kind z) (peek_bytes kind v) in
        let Q = λ (z : List Token). AgreeingTo t rest more (peek_bytes kind (first.0 ∷ first.1)) (peek_bytes kind z) in
        subst P (sym first.3) (subst Q (sym first.4) (by t rest more first.0 first.1 first.2 (same_kind first.0.kind kind) same_here))

-- ---- values after a token, and lists

pub behind_steady : {A : Type 0} {deep : Bool} (kind : TokenKind) (p : List Token → Outcome A) → IsSteady deep p → IsSteady deep (preceded kind p)
behind_steady kind p steady = bind_steady (expect kind) (λ _. p) (expect_steady kind) (λ _. steady)

pub optional_steady : {A : Type 0} {deep : Bool} (kind : TokenKind) (p : List Token → Outcome A) → IsSteady deep p → IsSteady deep (optional kind p)
optional_steady kind p steady =
    bind_steady (eat kind) (λ found. cond found (p >>= (λ x. pure (Some x))) (pure None)) (eat_steady kind)
    (λ found. either_steady found (p >>= (λ x. pure (Some x))) (pure None) (bind_steady p (λ x. pure (Some x)) steady (λ x. pure_steady (Some x))) (pure_steady None))

pub more_steady : {A B : Type 0} {deep : Bool} (mark : TokenKind) (p : List Token → Outcome A) (add : B → A → B) → IsSteady deep p → (n : ℕ) (all : B) → IsSteady deep (more_from mark p add n all)
more_steady mark p add steady zero all = pure_steady all
more_steady mark p add steady (suc n) all =
    bind_steady (eat mark) (λ found. cond found (p >>= (λ x. more_from mark p add n (add all x))) (pure all)) (eat_steady mark)
    (λ found. either_steady found (p >>= (λ x. more_from mark p add n (add all x))) (pure all) (bind_steady p (λ x. more_from mark p add n (add all x)) steady (λ x. more_steady mark p add steady n (add all x))) (pure_steady all))

-- more iterations than needed change nothing
module _ {A B : Type 0} {deep : Bool} (mark : TokenKind) (real : mark ≢ k.End) (p : List Token → Outcome A) (add : B → A → B) (steady : IsSteady deep p) where
  unseen_at_end : (b : Bool) → sees mark [] ≡ b → b ≡ false
  unseen_at_end false e = refl
  unseen_at_end true e = let first = kind_seen mark [] e real in cc

  none_left : (m : ℕ) (all : B) (ts : List Token) → length ts ≤ 0 → more_from mark p add m all ts ≡ Ok (all, ts)
  none_left zero all ts none = refl
  none_left (suc m) all [] none = let s = unseen_at_end (sees mark []) refl in rw (s, after_unseen mark [] s) refl
  none_left (suc m) all (t ∷ ts) none = absurd (omega arith)

  one_more : (r : Outcome A) (f g : A → List Token → Outcome B) → ((x : A) (ts : List Token) → length ts ≤ length (tail_of r) → f x ts ≡ g x ts) → and_then r f ≡ and_then r g
  one_more (Err r) f g same = refl
  one_more (Ok r) f g same = same r.0 r.1 (omega arith)

  pub enough_turns : (n m : ℕ) (all : B) (ts : List Token) → length ts ≤ n → length ts ≤ m → more_from mark p add n all ts ≡ more_from mark p add m all ts
  enough_turns zero m all ts a b = sym (none_left m all ts a)
  enough_turns (suc n) zero all ts a b = none_left (suc n) all ts b
  enough_turns (suc n) (suc m) all ts a b = turn (sees mark ts) refl (λ x us less. enough_turns n m (add all x) us (omega (arith, less)) (omega (arith, less)))
    where
      turn : (found : Bool) → sees mark ts ≡ found → ((x : A) (us : List Token) → suc (length us) ≤ length ts → more_from mark p add n (add all x) us ≡ more_from mark p add m (add all x) us)
          → more_from mark p add (suc n) all ts ≡ more_from mark p add (suc m) all ts
      turn false s again = rw (s, after_unseen mark ts s) refl
      turn true s again =
          let first = kind_seen mark ts s real in
          let left : length ts ≡ suc (length (next ts)) = ap length first.1 in
          rw (s, after_seen mark ts s) (one_more (p (next ts)) (λ x. more_from mark p add n (add all x)) (λ x. more_from mark p add m (add all x)) (λ x us less. again x us (omega (arith, left, less, shorter p steady (next ts)))))

  pub all_steady : (all : B) → IsSteady deep (λ ts. more_from mark p add (length ts) all ts)
  all_steady all = record { says = λ ts. (more_steady mark p add steady (length ts) all).says ts; suffix = λ ts. (more_steady mark p add steady (length ts) all).suffix ts; agrees = agrees }
    where
      agrees : (t : Token) (rest more u v : List Token) → Same t rest more u v → AgreeingTo t rest more (more_from mark p add (length u) all u) (more_from mark p add (length v) all v)
      agrees t rest more u v same =
          let n : ℕ = length u + length v in
          let left : more_from mark p add n all u ≡ more_from mark p add (length u) all u = enough_turns n (length u) all u (omega arith) (omega arith) in
          let right : more_from mark p add n all v ≡ more_from mark p add (length v) all v = enough_turns n (length v) all v (omega arith) (omega arith) in
          let P = λ (r : Outcome B). AgreeingTo t rest more r (more_from mark p add (length v) all v) in
          let Q = λ (r : Outcome B). AgreeingTo t rest more (more_from mark p add n all u) r in
          subst P left (subst Q right ((more_steady mark p add steady n all).agrees t rest more u v same))
