-- The readers of operands and comparisons.
use Rattle.std.proofs.Common.{◌≡◌, inl, inr, ℕ, Bool, true, false, cond, List, [], ◌∷◌, ◌++◌, refl, ap, sym, ◌∙◌, subst, append_assoc}
use Rattle.std.specs.Prelude.{Option, Some, None, Ok, ℤ}
use Rattle.tq_base.specs.Numbers.{int_of}
use Rattle.tq_sql.specs.declared.cursor.Refusal.TheVariants.{Unexpected}
use Rattle.std.specs.Str.{is_utf8}
use Rattle.tq_sql.specs.declared.token.TokenKind.{TokenKind}
use Rattle.tq_sql.specs.declared.token.TokenKind.TheVariants as k
use Rattle.tq_sql.specs.declared.statement.Sign.{Sign}
use Rattle.tq_sql.specs.declared.statement.Sign.TheVariants as sign
use Rattle.tq_sql.specs.declared.statement.Term.{Term}
use Rattle.tq_sql.specs.declared.statement.Term.TheVariants as term
use Rattle.tq_sql.specs.declared.statement.Cond.{Cond}
use Rattle.tq_sql.specs.declared.statement.Cond.TheVariants as c
use Rattle.tq_sql.specs.Tokens.{Token, same_kind, unquoted}
use Rattle.tq_sql.specs.Grammar.{After, IsName, IsColumnOf, IsText, IsOperand, IsComparison, kind_of, IsOr, IsNot}
use Rattle.tq_sql.specs.Descent.{pure, stop, given, kind_at, next, sees, peek_bytes, taken, number_at, text_at, column_at, operand_at, sign_of, signed, sign_at, comparison_at, or_at, and_at, not_at, ◌>>=◌}
use Rattle.tq_sql.proofs.ReaderLemmas.{IsReader, by_test, bind_ok, ok_pair, given_some, next_of, kind_of_first, same_itself}
use Rattle.tq_sql.proofs.ConditionLemmas.{dot, or_goes, not_reader, or_reader_of}
use Rattle.tq_sql.proofs.ColumnLemmas.{look_some, look_here, column_reader}

seen_kind : (t : Token) (ts : List Token) (a b : TokenKind) (r : Bool) → t.kind ≡ a → same_kind a b ≡ r → sees b (t ∷ ts) ≡ r
unfolding sees kind_at
seen_kind t ts a b r e d = ap (λ z. same_kind z b) e ∙ d

number_sound : (ts rest : List Token) (n : ℤ) → number_at ts ≡ Ok (n, rest) → (front : List Token) × (ts ≡ front ++ rest) × IsOperand front (term.Int n)
unfolding number_at
number_sound ts rest n e =
    let step = bind_ok (peek_bytes k.Number ts) (λ w. given (int_of w) >>= (λ x. taken x)) (n, rest) e in
    let value = bind_ok (given (int_of step.0) step.1) (λ x. taken x) (n, rest) step.3 in
    let is = given_some (int_of step.0) value.0 step.1 value.1 value.2 in
    let same = ok_pair value.0 n (next value.1) rest value.3 in
    let word = look_some k.Number ts step.1 step.0 step.2 in
    (word.0 ∷ [], word.1 ∙ ap (λ z. word.0 ∷ z) (ap next is.1 ∙ same.1), (word.0, refl, word.2, ap int_of (sym word.3) ∙ is.0 ∙ ap Some same.0))

number_complete : (front rest : List Token) (n : ℤ) → IsOperand front (term.Int n) → number_at (front ++ rest) ≡ Ok (n, rest)
unfolding number_at
number_complete front rest n is =
    let here : front ++ rest ≡ is.0 ∷ rest = ap (λ z. z ++ rest) is.1 in
    rw (here, look_here k.Number is.0 rest is.2, is.3, next_of is.0 rest) refl

text_some : (b : Bool) (s x : List ℕ) (ts rest : List Token) → (cond b (taken s) (stop Unexpected)) ts ≡ Ok (x, rest) → (b ≡ true) × (s ≡ x) × (next ts ≡ rest)
text_some true s x ts rest e = let same = ok_pair s x (next ts) rest e in (refl, same.0, same.1)
text_some false s x ts rest e = cc

pub text_sound : (ts rest : List Token) (s : List ℕ) → text_at ts ≡ Ok (s, rest) → (front : List Token) × (ts ≡ front ++ rest) × IsText front s
unfolding text_at
text_sound ts rest s e =
    let step = bind_ok (peek_bytes k.Text ts) (λ w. cond (is_utf8 (unquoted w)) (taken (unquoted w)) (stop Unexpected)) (s, rest) e in
    let value = text_some (is_utf8 (unquoted step.0)) (unquoted step.0) s step.1 rest step.3 in
    let word = look_some k.Text ts step.1 step.0 step.2 in
    let valid : is_utf8 s ≡ true = ap is_utf8 (sym value.1) ∙ value.0 in
    (word.0 ∷ [], word.1 ∙ ap (λ z. word.0 ∷ z) value.2, (word.0, refl, word.2, sym value.1 ∙ ap unquoted word.3, valid))

pub text_complete : (front rest : List Token) (s : List ℕ) → IsText front s → text_at (front ++ rest) ≡ Ok (s, rest)
unfolding text_at
text_complete front rest s is =
    let here : front ++ rest ≡ is.0 ∷ rest = ap (λ z. z ++ rest) is.1 in
    let valid : is_utf8 (unquoted is.0.text) ≡ true = ap is_utf8 (sym is.3) ∙ is.4 in
    rw (here, look_here k.Text is.0 rest is.2, valid, next_of is.0 rest) (ap (λ z. Ok (z, rest)) (sym is.3))

-- ---- what an operand begins with

pub record Begins (kind : TokenKind) (ts : List Token) : Type 0 where
  pub t : Token
  pub us : List Token
  pub is : ts ≡ t ∷ us
  pub of_kind : t.kind ≡ kind

pub begins_more : (kind : TokenKind) (a b : List Token) → Begins kind a → Begins kind (a ++ b)
begins_more kind a b x = record { t = x.t; us = x.us ++ b; is = ap (λ z. z ++ b) x.is; of_kind = x.of_kind }

pub begins_sees : (kind other : TokenKind) (ts : List Token) (r : Bool) → Begins kind ts → same_kind kind other ≡ r → sees other ts ≡ r
begins_sees kind other ts r x d = ap (sees other) x.is ∙ seen_kind x.t x.us kind other r x.of_kind d

name_begins : (ts : List Token) (n : List ℕ) → IsName ts n → Begins k.Name ts
name_begins ts n x = record { t = x.0; us = []; is = x.1; of_kind = x.2 }

pub column_begins : (source : Option (List ℕ)) (column : List ℕ) (ts : List Token) → IsColumnOf source ts column → Begins k.Name ts
column_begins None column ts x = name_begins ts column x
column_begins (Some source) column ts x =
    let first = begins_more k.Name x.0 x.1 (name_begins x.0 source x.3) in
    record { t = first.t; us = first.us; is = x.2 ∙ first.is; of_kind = first.of_kind }

abbrev starter : Term → TokenKind
starter (term.Column x) = k.Name
starter (term.Int n) = k.Number
starter (term.Text s) = k.Text

operand_begins : (ts : List Token) (x : Term) → IsOperand ts x → Begins (starter x) ts
operand_begins ts (term.Column x) is = column_begins x.source x.column ts is
operand_begins ts (term.Int n) is = record { t = is.0; us = []; is = is.1; of_kind = is.2 }
operand_begins ts (term.Text s) is = record { t = is.0; us = []; is = is.1; of_kind = is.2 }

operand_sound : (ts rest : List Token) (x : Term) → operand_at ts ≡ Ok (x, rest) → (front : List Token) × (ts ≡ front ++ rest) × IsOperand front x
unfolding operand_at
operand_sound ts rest x e = elim (by_test (sees k.Number ts) e) [
  | inl s ↦
      (let step = bind_ok (number_at ts) (λ n. pure (term.Int n)) (x, rest) s.1 in
      let same = ok_pair (term.Int step.0) x step.1 rest step.3 in
      let one = number_sound ts step.1 step.0 step.2 in
      let P : Term → Type 0 = λ z. IsOperand one.0 z in
      (one.0, one.1 ∙ ap (λ z. one.0 ++ z) same.1, subst P same.0 one.2))
  | inr s ↦ elim (by_test (sees k.Text ts) s.1) [
    | inl o ↦
        (let step = bind_ok (text_at ts) (λ n. pure (term.Text n)) (x, rest) o.1 in
        let same = ok_pair (term.Text step.0) x step.1 rest step.3 in
        let one = text_sound ts step.1 step.0 step.2 in
        let P : Term → Type 0 = λ z. IsOperand one.0 z in
        (one.0, one.1 ∙ ap (λ z. one.0 ++ z) same.1, subst P same.0 one.2))
    | inr o ↦
        (let step = bind_ok (column_at ts) (λ n. pure (term.Column n)) (x, rest) o.1 in
        let same = ok_pair (term.Column step.0) x step.1 rest step.3 in
        let one = column_reader.sound ts step.1 step.0 step.2 in
        let P : Term → Type 0 = λ z. IsOperand one.0 z in
        (one.0, one.1 ∙ ap (λ z. one.0 ++ z) same.1, subst P same.0 one.2))
  ]
]

name_number : same_kind k.Name k.Number ≡ false
unfolding same_kind
name_number = refl

name_text : same_kind k.Name k.Text ≡ false
unfolding same_kind
name_text = refl

text_number : same_kind k.Text k.Number ≡ false
unfolding same_kind
text_number = refl

operand_complete : (front rest : List Token) (x : Term) → IsOperand front x → dot (kind_at rest) ≡ false → operand_at (front ++ rest) ≡ Ok (x, rest)
unfolding operand_at
operand_complete front rest (term.Column x) is stop =
    let first = begins_more k.Name front rest (column_begins x.source x.column front is) in
    rw (begins_sees k.Name k.Number (front ++ rest) false first name_number, begins_sees k.Name k.Text (front ++ rest) false first name_text, column_reader.complete front rest x is stop) refl
operand_complete front rest (term.Int n) is stop =
    let first = begins_more k.Number front rest (operand_begins front (term.Int n) is) in
    rw (begins_sees k.Number k.Number (front ++ rest) true first (same_itself k.Number k.Number refl), number_complete front rest n is) refl
operand_complete front rest (term.Text s) is stop =
    let first = begins_more k.Text front rest (operand_begins front (term.Text s) is) in
    rw (begins_sees k.Text k.Number (front ++ rest) false first text_number, begins_sees k.Text k.Text (front ++ rest) true first (same_itself k.Text k.Text refl), text_complete front rest s is) refl

pub operand_reader : IsReader IsOperand dot operand_at
operand_reader = record { sound = operand_sound; complete = operand_complete }

-- ---- signs

some_is : (a b : Sign) → Some a ≡ Some b → a ≡ b
some_is a b e = cc

sign_kind : (kind : TokenKind) (s : Sign) → sign_of kind ≡ Some s → kind ≡ kind_of s
unfolding sign_of
sign_kind k.Eq s e = ap kind_of (some_is sign.Eq s e)
sign_kind k.Ne s e = ap kind_of (some_is sign.Ne s e)
sign_kind k.Lt s e = ap kind_of (some_is sign.Lt s e)
sign_kind k.Le s e = ap kind_of (some_is sign.Le s e)
sign_kind k.Gt s e = ap kind_of (some_is sign.Gt s e)
sign_kind k.Ge s e = ap kind_of (some_is sign.Ge s e)
sign_kind _ s e = cc

kind_sign : (s : Sign) → sign_of (kind_of s) ≡ Some s
unfolding sign_of
kind_sign sign.Eq = refl
kind_sign sign.Ne = refl
kind_sign sign.Lt = refl
kind_sign sign.Le = refl
kind_sign sign.Gt = refl
kind_sign sign.Ge = refl

sign_stops : (s : Sign) → dot (kind_of s) ≡ false
unfolding same_kind
sign_stops sign.Eq = refl
sign_stops sign.Ne = refl
sign_stops sign.Lt = refl
sign_stops sign.Le = refl
sign_stops sign.Gt = refl
sign_stops sign.Ge = refl

signed_some : (o : Option Sign) (s : Sign) (ts rest : List Token) → signed o ts ≡ Ok (s, rest) → (o ≡ Some s) × (next ts ≡ rest)
signed_some None s ts rest e = cc
signed_some (Some x) s ts rest e = let same = ok_pair x s (next ts) rest e in (ap Some same.0, same.1)

none_real : (s : Sign) → sign_of k.End ≡ Some s → ⊥
unfolding sign_of
none_real s e = cc

pub sign_sound : (ts rest : List Token) (s : Sign) → sign_at ts ≡ Ok (s, rest) → (t : Token) × (ts ≡ t ∷ rest) × (t.kind ≡ kind_of s)
unfolding sign_at kind_at next
sign_sound [] rest s e = absurd (none_real s (signed_some (sign_of k.End) s [] rest e).0)
sign_sound (t ∷ ts) rest s e = let got = signed_some (sign_of t.kind) s (t ∷ ts) rest e in (t, ap (λ z. t ∷ z) got.1, sign_kind t.kind s got.0)

sign_complete : (t : Token) (rest : List Token) (s : Sign) → t.kind ≡ kind_of s → sign_at (t ∷ rest) ≡ Ok (s, rest)
unfolding sign_at kind_at next
sign_complete t rest s e = rw (e, kind_sign s) refl

comparison_sound : (ts rest : List Token) (x : Cond) → comparison_at ts ≡ Ok (x, rest) → (front : List Token) × (ts ≡ front ++ rest) × IsComparison front x
unfolding comparison_at
comparison_sound ts rest x e =
    let one = bind_ok (operand_at ts) (λ left. sign_at >>= (λ s. operand_at >>= (λ right. pure (c.Is left s right)))) (x, rest) e in
    let two = bind_ok (sign_at one.1) (λ s. operand_at >>= (λ right. pure (c.Is one.0 s right))) (x, rest) one.3 in
    let three = bind_ok (operand_at two.1) (λ right. pure (c.Is one.0 two.0 right)) (x, rest) two.3 in
    let same = ok_pair (c.Is one.0 two.0 three.0) x three.1 rest three.3 in
    let a = operand_sound ts one.1 one.0 one.2 in
    let s = sign_sound one.1 two.1 two.0 two.2 in
    let b = operand_sound two.1 three.1 three.0 three.2 in
    let back : one.1 ≡ (s.0 ∷ b.0) ++ rest = s.1 ∙ ap (λ z. s.0 ∷ z) (b.1 ∙ ap (λ z. b.0 ++ z) same.1) in (
      a.0 ++ (s.0 ∷ b.0),
      a.1 ∙ ap (λ z. a.0 ++ z) back ∙ sym (append_assoc a.0 (s.0 ∷ b.0) rest),
      record { left = one.0; sign = two.0; right = three.0; value = sym same.0; spelled = (a.0, s.0 ∷ b.0, refl, a.2, (s.2, b.2)) },
    )

comparison_complete_by : (front rest a : List Token) (b : List Token) (x : Cond) (left right : Term) (s : Sign) → x ≡ c.Is left s right → front ≡ a ++ b → IsOperand a left → After (kind_of s) IsOperand b right
    → dot (kind_at rest) ≡ false → comparison_at (front ++ rest) ≡ Ok (x, rest)
unfolding comparison_at
comparison_complete_by front rest a [] x left right s v e l r stop = absurd r
comparison_complete_by front rest a (t ∷ b) x left right s v e l r stop =
    let regrouped : front ++ rest ≡ a ++ (t ∷ (b ++ rest)) = ap (λ z. z ++ rest) e ∙ append_assoc a (t ∷ b) rest in
    let stops : dot (kind_at (t ∷ (b ++ rest))) ≡ false = ap dot (kind_of_first t (b ++ rest) ∙ r.0) ∙ sign_stops s in
    rw (regrouped, operand_complete a (t ∷ (b ++ rest)) left l stops, sign_complete t (b ++ rest) s r.0, operand_complete b rest right r.1 stop) (ap (λ z. Ok (z, rest)) (sym v))

pub comparison_reader : IsReader IsComparison dot comparison_at
comparison_reader = record { sound = comparison_sound; complete = λ front rest x is stop. comparison_complete_by front rest is.spelled.0 is.spelled.1 x is.left is.right is.sign is.value is.spelled.2 is.spelled.3 is.spelled.4 stop }

starter_not : (x : Term) → (same_kind (starter x) k.Not ≡ false) × (same_kind (starter x) k.Open ≡ false)
unfolding same_kind
starter_not (term.Column x) = (refl, refl)
starter_not (term.Int n) = (refl, refl)
starter_not (term.Text s) = (refl, refl)

pub starts : (ts rest : List Token) (x : Cond) → IsComparison ts x → (sees k.Not (ts ++ rest) ≡ false) × (sees k.Open (ts ++ rest) ≡ false)
starts ts rest x is =
    let first = begins_more (starter is.left) is.spelled.0 (is.spelled.1 ++ rest) (operand_begins is.spelled.0 is.left is.spelled.3) in
    let regrouped : ts ++ rest ≡ is.spelled.0 ++ (is.spelled.1 ++ rest) = ap (λ z. z ++ rest) is.spelled.2 ∙ append_assoc is.spelled.0 is.spelled.1 rest in
    let apart = starter_not is.left in (
      ap (sees k.Not) regrouped ∙ begins_sees (starter is.left) k.Not (is.spelled.0 ++ (is.spelled.1 ++ rest)) false first apart.0,
      ap (sees k.Open) regrouped ∙ begins_sees (starter is.left) k.Open (is.spelled.0 ++ (is.spelled.1 ++ rest)) false first apart.1,
    )

-- the whole condition: the reader reads exactly the lists of tokens that the grammar allows
pub condition_reader : (n : ℕ) → IsReader (IsOr (IsNot n)) or_goes (or_at n)
unfolding or_at and_at
condition_reader n = or_reader_of comparison_reader starts (IsNot n) (not_at n) (not_reader comparison_reader starts n)
