-- The readers of lists, of optional values before the rest, and of values after a token.
use Rattle.std.proofs.Common.{◌≡◌, ◌≢◌, ◌≤◌, ℕ, suc, Bool, false, List, [], ◌∷◌, ◌++◌, length, refl, ap, sym, ◌∙◌, subst, arith, append_assoc, append-nil, length-append}
use Rattle.std.specs.Prelude.{Option, Some, None, Ok}
use Rattle.tq_sql.specs.declared.token.TokenKind.{TokenKind}
use Rattle.tq_sql.specs.declared.token.TokenKind.TheVariants as k
use Rattle.tq_sql.specs.Tokens.{Token, same_kind}
use Rattle.tq_sql.specs.Grammar.{After, Optional, More, Listed}
use Rattle.tq_sql.specs.Descent.{Outcome, kind_at, expect, preceded, more_from, listed, listed_up_to}
use Rattle.tq_sql.proofs.ReaderLemmas.{IsReader, bind_ok, kind_of_first, or_false, added, more_length, more_stops, more_complete, more_sound}
use Rattle.tq_sql.proofs.ConditionLemmas.{or_mark, sees_kind, expect_some, expect_here}

-- ---- a list

abbrev pub snoc : {A : Type 0} → List A → A → List A
snoc all y = all ++ y ∷ []

added_snoc : {A : Type 0} (xs all : List A) → added snoc xs all ≡ all ++ xs
added_snoc [] all = sym (append-nil all)
added_snoc (x ∷ xs) all = added_snoc xs (all ++ x ∷ []) ∙ append_assoc all (x ∷ []) xs

module _ {A : Type 0} (mark : TokenKind) (real : mark ≢ k.End) (R : List Token → A → Type 0) (goes : TokenKind → Bool) (p : List Token → Outcome A) (reader : IsReader R goes p) (apart : goes mark ≡ false) where
  -- the first value, and then the further ones, of which there are at most n
  others_complete : (n : ℕ) (b rest : List Token) (x : A) (xs : List A) → More mark R b xs → length xs ≤ n → or_mark mark goes (kind_at rest) ≡ false
      → more_from mark p snoc n (x ∷ []) (b ++ rest) ≡ Ok (x ∷ xs, rest)
  others_complete n b rest x xs is few stop =
      let parts = or_false (goes (kind_at rest)) (same_kind (kind_at rest) mark) stop in
      let unseen = sees_kind mark rest false parts.1 in
      more_complete mark real R goes p snoc reader apart n xs b rest (x ∷ []) is few parts.0 unseen ∙ ap (λ z. Ok (z, rest)) (added_snoc xs (x ∷ []))

  first_complete : (a b rest : List Token) (x : A) (xs : List A) → R a x → More mark R b xs → or_mark mark goes (kind_at rest) ≡ false → p (a ++ (b ++ rest)) ≡ Ok (x, b ++ rest)
  first_complete a b rest x xs one is stop =
      let parts = or_false (goes (kind_at rest)) (same_kind (kind_at rest) mark) stop in
      reader.complete a (b ++ rest) x one (more_stops mark R goes apart xs b rest is parts.0)

  listed_complete : (front rest : List Token) (xs : List A) → Listed mark R front xs → or_mark mark goes (kind_at rest) ≡ false → listed mark p (front ++ rest) ≡ Ok (xs, rest)
  listed_complete front rest [] is stop = absurd is
  listed_complete front rest (x ∷ xs) is stop =
      let a = is.0 in let b = is.1 in
      let regrouped : front ++ rest ≡ a ++ (b ++ rest) = ap (λ z. z ++ rest) is.2 ∙ append_assoc a b rest in
      let first = first_complete a b rest x xs is.3 is.4 stop in
      let enough : length xs ≤ length (b ++ rest) = omega (arith, more_length mark R xs b is.4, length-append b rest) in
      let whole : listed mark p (a ++ (b ++ rest)) ≡ Ok (x ∷ xs, rest) = rw first (others_complete (length (b ++ rest)) b rest x xs is.4 enough stop) in
      ap (listed mark p) regrouped ∙ whole

  pub few_complete : (n : ℕ) (front rest : List Token) (xs : List A) → Listed mark R front xs → length xs ≤ suc n → or_mark mark goes (kind_at rest) ≡ false → listed_up_to mark p n (front ++ rest) ≡ Ok (xs, rest)
  few_complete n front rest [] is few stop = absurd is
  few_complete n front rest (x ∷ xs) is few stop =
      let a = is.0 in let b = is.1 in
      let regrouped : front ++ rest ≡ a ++ (b ++ rest) = ap (λ z. z ++ rest) is.2 ∙ append_assoc a b rest in
      let first = first_complete a b rest x xs is.3 is.4 stop in
      let whole : listed_up_to mark p n (a ++ (b ++ rest)) ≡ Ok (x ∷ xs, rest) = rw first (others_complete n b rest x xs is.4 (omega arith) stop) in
      ap (listed_up_to mark p n) regrouped ∙ whole

  abbrev ListRead : ℕ → List Token → List Token → List A → Type 0
  ListRead n ts rest xs = (front : List Token) × (ts ≡ front ++ rest) × Listed mark R front xs × (length xs ≤ suc n)

  all_sound : (n : ℕ) (ts mid rest : List Token) (x : A) (all : List A) → p ts ≡ Ok (x, mid) → more_from mark p snoc n (x ∷ []) mid ≡ Ok (all, rest) → ListRead n ts rest all
  all_sound n ts mid rest x all first others =
      let one = reader.sound ts mid x first in
      let more = more_sound mark real R goes p snoc reader apart n (x ∷ []) all mid rest others in
      let same : x ∷ more.0 ≡ all = sym (more.4 ∙ added_snoc more.0 (x ∷ [])) in
      let P : List A → Type 0 = λ z. Listed mark R (one.0 ++ more.1) z × (length z ≤ suc n) in
      let is = subst P same ((one.0, more.1, refl, one.2, more.3), omega (arith, more.5)) in
      (one.0 ++ more.1, one.1 ∙ ap (λ z. one.0 ++ z) more.2 ∙ sym (append_assoc one.0 more.1 rest), is.0, is.1)

  listed_sound : (ts rest : List Token) (xs : List A) → listed mark p ts ≡ Ok (xs, rest) → (front : List Token) × (ts ≡ front ++ rest) × Listed mark R front xs
  listed_sound ts rest xs e =
      let step = bind_ok (p ts) (λ x mid. more_from mark p snoc (length mid) (x ∷ []) mid) (xs, rest) e in
      let all = all_sound (length step.1) ts step.1 rest step.0 xs step.2 step.3 in
      (all.0, all.1, all.2)

  pub few_sound : (n : ℕ) (ts rest : List Token) (xs : List A) → listed_up_to mark p n ts ≡ Ok (xs, rest) → ListRead n ts rest xs
  few_sound n ts rest xs e =
      let step = bind_ok (p ts) (λ x. more_from mark p snoc n (x ∷ [])) (xs, rest) e in
      all_sound n ts step.1 rest step.0 xs step.2 step.3

  pub listed_reader : IsReader (Listed mark R) (or_mark mark goes) (listed mark p)
  listed_reader = record { sound = listed_sound; complete = listed_complete }

-- ---- after a token

pub behind_reader : {A : Type 0} (kind : TokenKind) (real : kind ≢ k.End) (R : List Token → A → Type 0) (goes : TokenKind → Bool) (p : List Token → Outcome A) → IsReader R goes p → IsReader (After kind R) goes (preceded kind p)
behind_reader {A} kind real R goes p reader = record { sound = sound; complete = complete }
  where
    sound : (ts rest : List Token) (x : A) → preceded kind p ts ≡ Ok (x, rest) → (front : List Token) × (ts ≡ front ++ rest) × After kind R front x
    sound ts rest x e =
        let step = bind_ok (expect kind ts) (λ _. p) (x, rest) e in
        let first = expect_some kind ts step.1 real step.2 in
        let inner = reader.sound step.1 rest x step.3 in
        (first.0 ∷ inner.0, first.1 ∙ ap (λ z. first.0 ∷ z) inner.1, (first.2, inner.2))

    complete : (front rest : List Token) (x : A) → After kind R front x → goes (kind_at rest) ≡ false → preceded kind p (front ++ rest) ≡ Ok (x, rest)
    complete [] rest x is stop = absurd is
    complete (t ∷ front) rest x is stop = rw (expect_here kind t (front ++ rest) is.0) (reader.complete front rest x is.1 stop)

-- ---- an optional value before the rest

pub after_stops : {A : Type 0} (kind : TokenKind) (R : List Token → A → Type 0) (goes : TokenKind → Bool) → goes kind ≡ false → (b rest : List Token) (x : A) → After kind R b x → goes (kind_at (b ++ rest)) ≡ false
after_stops kind R goes g [] rest x is = absurd is
after_stops kind R goes g (t ∷ b) rest x is = ap goes (kind_of_first t (b ++ rest) ∙ is.0) ∙ g

pub optional_stops : {A : Type 0} (kind : TokenKind) (R : List Token → A → Type 0) (goes : TokenKind → Bool) → goes kind ≡ false → (b rest : List Token) (o : Option A) → Optional (After kind R) b o
    → goes (kind_at rest) ≡ false → goes (kind_at (b ++ rest)) ≡ false
optional_stops kind R goes g b rest None is e = let P : List Token → Type 0 = λ c. goes (kind_at (c ++ rest)) ≡ false in subst P (sym is) e
optional_stops kind R goes g b rest (Some x) is e = after_stops kind R goes g b rest x is
