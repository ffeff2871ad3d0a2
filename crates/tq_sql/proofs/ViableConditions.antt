-- If the readers of conditions stop, a condition begins with what they took.
use Rattle.std.proofs.Common.{◌≡◌, inl, inr, ℕ, zero, suc, List, ◌∷◌, ◌++◌, refl, ap, sym, ◌∙◌}
use Rattle.std.specs.Prelude.{Option, Some, None, Ok, Err}
use Rattle.tq_sql.specs.declared.cursor.Refusal.{Refusal}
use Rattle.tq_sql.specs.declared.cursor.Refusal.TheVariants.{TooDeep, Unexpected}
use Rattle.tq_sql.specs.declared.statement.Cond.{Cond}
use Rattle.tq_sql.specs.declared.statement.Cond.TheVariants as c
use Rattle.tq_sql.specs.declared.statement.Sign.{Sign}
use Rattle.tq_sql.specs.declared.statement.Sign.TheVariants as sign
use Rattle.tq_sql.specs.declared.statement.Term.{Term}
use Rattle.tq_sql.specs.declared.statement.Term.TheVariants as term
use Rattle.tq_sql.specs.declared.token.TokenKind.TheVariants as k
use Rattle.tq_sql.specs.Tokens.{Token}
use Rattle.tq_sql.specs.Grammar.{After, Before, Pair, Optional, IsColumn, IsOperand, kind_of, IsComparison, IsAnd, IsOr, IsNot, IsCondition}
use Rattle.tq_sql.specs.Descent.{Outcome, pure, kind_at, next, sees, number_at, text_at, chain, column_at, operand_at, sign_of, signed, sign_at, comparison_at, closed, not_at, and_at, or_at, condition_at, ◌>>=◌}
use Rattle.tq_sql.proofs.ReaderLemmas.{IsReader, by_test, kind_seen}
use Rattle.tq_sql.proofs.ConditionLemmas.{dot, and_goes, open_real, and_real, or_real, not_real, and_dot, chain_reader, not_reader, or_reader_of}
use Rattle.tq_sql.proofs.ComparisonLemmas.{comparison_reader, operand_reader, sign_sound, starts}
use Rattle.tq_sql.proofs.StatementLemmas.{where_real}
use Rattle.tq_sql.proofs.OpenLemmas.{GoesOnAs, IsOpen, Example, token_of, bind_err, err_pair, none_taken, wider, shaped_open, optional_open, pair_open, before_open}
use Rattle.tq_sql.proofs.ViableItems.{chain_begun, number_stops, text_stops, operand_example, column_open}

-- ---- conditions

operand_open : IsOpen IsOperand operand_at
unfolding operand_at
operand_open = record { open_at = λ ts rest why e. at ts rest why e }
  where
    at : (ts rest : List Token) (why : Refusal) → operand_at ts ≡ Err (why, rest) → (front : List Token) × (ts ≡ front ++ rest) × GoesOnAs IsOperand front
    at ts rest why e = elim (by_test (sees k.Number ts) e) [
      | inl s ↦ elim (bind_err (number_at ts) (λ n. pure (term.Int n)) (why, rest) s.1) [
        | inl stops ↦ none_taken IsOperand operand_example ts rest (number_stops ts rest why stops)
        | inr goes ↦ cc
      ]
      | inr s ↦ elim (by_test (sees k.Text ts) s.1) [
        | inl o ↦ elim (bind_err (text_at ts) (λ n. pure (term.Text n)) (why, rest) o.1) [
          | inl stops ↦ none_taken IsOperand operand_example ts rest (text_stops ts rest why stops)
          | inr goes ↦ cc
        ]
        | inr o ↦ (let q = (shaped_open IsColumn column_at term.Column column_open).open_at ts rest why o.1 in (q.0, q.1, (q.2.0, term.Column q.2.1, q.2.2)))
      ]
    ]

signed_stops : (o : Option Sign) (ts rest : List Token) (why : Refusal) → signed o ts ≡ Err (why, rest) → rest ≡ ts
signed_stops None ts rest why e = sym (err_pair {A = Sign} Unexpected why ts rest e).1
signed_stops (Some s) ts rest why e = cc

sign_stops : (ts rest : List Token) (why : Refusal) → sign_at ts ≡ Err (why, rest) → rest ≡ ts
unfolding sign_at
sign_stops ts rest why e = signed_stops (sign_of (kind_at ts)) ts rest why e

-- a sign and the operand after it
abbrev IsSigned : List Token → Sign × Term → Type 0
IsSigned ts x = After (kind_of x.0) IsOperand ts x.1

signed_example : Example IsSigned
signed_example = (token_of k.Eq ∷ operand_example.0, (sign.Eq, operand_example.1), (refl, operand_example.2))

signed_open : (left : Term) → IsOpen IsSigned (sign_at >>= (λ s. operand_at >>= (λ right. pure (c.Is left s right))))
signed_open left = record { open_at = λ ts rest why e. at ts rest why e }
  where
    at : (ts rest : List Token) (why : Refusal) → (sign_at >>= (λ s. operand_at >>= (λ right. pure (c.Is left s right)))) ts ≡ Err (why, rest) → (front : List Token) × (ts ≡ front ++ rest) × GoesOnAs IsSigned front
    at ts rest why e = elim (bind_err (sign_at ts) (λ s. operand_at >>= (λ right. pure (c.Is left s right))) (why, rest) e) [
      | inl s ↦ none_taken IsSigned signed_example ts rest (sign_stops ts rest why s)
      | inr s ↦
          (let first = sign_sound ts s.1 s.0 s.2 in
          let o = (shaped_open IsOperand operand_at (λ right. c.Is left s.0 right) operand_open).open_at s.1 rest why s.3 in
          (first.0 ∷ o.0, first.1 ∙ ap (λ z. first.0 ∷ z) o.1, (o.2.0, (s.0, o.2.1), (first.2, o.2.2))))
    ]

of_comparison : (ts : List Token) (x : Term × (Sign × Term)) → Pair IsOperand IsSigned ts x → (y : Cond) × IsComparison ts y
of_comparison ts x is = (c.Is x.0 x.1.0 x.1.1, record { left = x.0; sign = x.1.0; right = x.1.1; value = refl; spelled = is })

comparison_example : Example IsComparison
comparison_example =
    let ts = operand_example.0 ++ signed_example.0 in
    let made = of_comparison ts (operand_example.1, signed_example.1) (operand_example.0, signed_example.0, refl, operand_example.2, signed_example.2) in
    (ts, made.0, made.1)

comparison_open : IsOpen IsComparison comparison_at
unfolding comparison_at
comparison_open = wider (Pair IsOperand IsSigned) IsComparison (operand_at >>= (λ left. sign_at >>= (λ s. operand_at >>= (λ right. pure (c.Is left s right))))) of_comparison
    (pair_open IsOperand IsSigned operand_at (λ left. sign_at >>= (λ s. operand_at >>= (λ right. pure (c.Is left s right)))) operand_reader.sound operand_open signed_open signed_example)

not_example : (n : ℕ) → Example (IsNot n)
not_example zero = comparison_example
not_example (suc n) = (comparison_example.0, comparison_example.1, inl comparison_example.2)

closed_open : (R : List Token → Cond → Type 0) (p : List Token → Outcome Cond) → ((ts rest : List Token) (x : Cond) → p ts ≡ Ok (x, rest) → (front : List Token) × (ts ≡ front ++ rest) × R front x) → IsOpen R p → IsOpen (Before k.Close R) (closed p)
unfolding closed
closed_open R p sound opened = before_open k.Close R p (λ x. x) sound opened

and_reader : (n : ℕ) → IsReader (IsAnd (IsNot n)) and_goes (chain k.And c.And (not_at n))
and_reader n = chain_reader k.And and_real c.And (IsNot n) dot (not_at n) (not_reader comparison_reader starts n) and_dot

or_sound : (n : ℕ) (ts rest : List Token) (x : Cond) → chain k.Or c.Or (chain k.And c.And (not_at n)) ts ≡ Ok (x, rest) → (front : List Token) × (ts ≡ front ++ rest) × IsOr (IsNot n) front x
or_sound n = (or_reader_of comparison_reader starts (IsNot n) (not_at n) (not_reader comparison_reader starts n)).sound

or_begun : (n : ℕ) → IsOpen (IsNot n) (not_at n) → IsOpen (IsOr (IsNot n)) (chain k.Or c.Or (chain k.And c.And (not_at n)))
or_begun n inner =
    chain_begun k.Or or_real c.Or (IsAnd (IsNot n)) (chain k.And c.And (not_at n)) (and_reader n).sound
    (chain_begun k.And and_real c.And (IsNot n) (not_at n) (not_reader comparison_reader starts n).sound inner)

deep_stops : (ts rest : List Token) (why : Refusal) → ◌≡◌ {A = Outcome Cond} (Err (TooDeep, ts)) (Err (why, rest)) → rest ≡ ts
deep_stops ts rest why e = sym (err_pair {A = Cond} TooDeep why ts rest e).1

not_open_zero : (ts rest : List Token) (why : Refusal) → not_at 0 ts ≡ Err (why, rest) → (front : List Token) × (ts ≡ front ++ rest) × GoesOnAs (IsNot 0) front
unfolding not_at
not_open_zero ts rest why e = elim (by_test (sees k.Not ts) e) [
  | inl s ↦ none_taken (IsNot 0) (not_example 0) ts rest (deep_stops ts rest why s.1)
  | inr s ↦ elim (by_test (sees k.Open ts) s.1) [
    | inl o ↦ none_taken (IsNot 0) (not_example 0) ts rest (deep_stops ts rest why o.1)
    | inr o ↦ comparison_open.open_at ts rest why o.1
  ]
]

not_open_more : (n : ℕ) → IsOpen (IsNot n) (not_at n) → (ts rest : List Token) (why : Refusal) → not_at (suc n) ts ≡ Err (why, rest) → (front : List Token) × (ts ≡ front ++ rest) × GoesOnAs (IsNot (suc n)) front
unfolding not_at
not_open_more n inner ts rest why e = elim (by_test (sees k.Not ts) e) [
  | inl s ↦
      (let first = kind_seen k.Not ts s.0 not_real in
      let o = (shaped_open (IsNot n) (not_at n) c.Not inner).open_at (next ts) rest why s.1 in
      (first.0 ∷ o.0, first.1 ∙ ap (λ z. first.0 ∷ z) o.1, (o.2.0, c.Not o.2.1, inr (inl (record { inner = o.2.1; value = refl; spelled = (first.2, o.2.2) })))))
  | inr s ↦ elim (by_test (sees k.Open ts) s.1) [
    | inl b ↦
        (let first = kind_seen k.Open ts b.0 open_real in
        let o = (closed_open (IsOr (IsNot n)) (chain k.Or c.Or (chain k.And c.And (not_at n))) (or_sound n) (or_begun n inner)).open_at (next ts) rest why b.1 in
        (first.0 ∷ o.0, first.1 ∙ ap (λ z. first.0 ∷ z) o.1, (o.2.0, o.2.1, inr (inr (first.2, o.2.2)))))
    | inr b ↦ (let o = comparison_open.open_at ts rest why b.1 in (o.0, o.1, (o.2.0, o.2.1, inl o.2.2)))
  ]
]

not_open : (n : ℕ) → IsOpen (IsNot n) (not_at n)
not_open zero = record { open_at = not_open_zero }
not_open (suc n) = record { open_at = not_open_more n (not_open n) }

or_open : (n : ℕ) → IsOpen (IsOr (IsNot n)) (or_at n)
unfolding or_at and_at
or_open n = or_begun n (not_open n)

pub condition_open : (levels : ℕ) → IsOpen (Optional (After k.Where (IsCondition levels))) (condition_at levels)
unfolding condition_at
condition_open levels = optional_open k.Where where_real (IsCondition levels) (or_at levels) (or_open levels)
