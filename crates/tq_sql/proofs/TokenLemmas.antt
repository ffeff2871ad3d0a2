-- Steps over a text, token by token.
use Rattle.std.proofs.Common.{◌≡◌, ◌≤◌, ◌<◌, ℕ, zero, suc, ◌+◌, ◌-◌, true, false, List, [], ◌∷◌, ◌++◌, length, take, drop, get_or, refl, ap, ◌∙◌, sym, arith, append_assoc}
use Rattle.std.specs.Prelude.{Result, Ok, Err}
use Rattle.tq_sql.specs.declared.token.TokenKind.{TokenKind}
use Rattle.tq_sql.specs.declared.fault.SqlFault.{SqlFault}
use Rattle.tq_sql.specs.Tokens.{Token, is_space, token_at, tokens_from, with_token}

-- tokens before those that are still to come
abbrev pub with_all : List Token → Result (List Token) SqlFault → Result (List Token) SqlFault
with_all front (Ok ts) = Ok (front ++ ts)
with_all front (Err e) = Err e

-- the bytes that belong to the previous token are skipped
skip_all : (n at : ℕ) (bs : List ℕ) → n ≤ length bs → tokens_from n at bs ≡ tokens_from 0 (at + n) (drop n bs)
skip_all zero at bs le = let same : at ≡ at + 0 = omega arith in ap (λ m. tokens_from 0 m bs) same
skip_all (suc n) at [] le = absurd (omega arith)
skip_all (suc n) at (b ∷ bs) le = let same : suc at + n ≡ at + suc n = omega arith in skip_all n (suc at) bs (omega arith) ∙ ap (λ m. tokens_from 0 m (drop n bs)) same

token_step : (at size : ℕ) (kind : TokenKind) (b : ℕ) (bs : List ℕ) → is_space b ≡ false → token_at at (b ∷ bs) ≡ Ok (kind, size) → 0 < size → size ≤ length (b ∷ bs)
    → tokens_from 0 at (b ∷ bs) ≡ with_token (record { at = at; kind = kind; text = take size (b ∷ bs) }) (tokens_from 0 (at + size) (drop size (b ∷ bs)))
token_step at zero kind b bs s e p le = absurd (omega arith)
token_step at (suc size) kind b bs s e p le =
    let same : suc at + size ≡ at + suc size = omega arith in
    let left : suc size - 1 ≡ size = omega arith in
    let skipped = skip_all size (suc at) bs (omega arith) in
    rw (s, e, left) (ap (with_token (record { at = at; kind = kind; text = take (suc size) (b ∷ bs) })) (skipped ∙ ap (λ m. tokens_from 0 m (drop size bs)) same))

fault_step : (at : ℕ) (fault : SqlFault) (b : ℕ) (bs : List ℕ) → is_space b ≡ false → token_at at (b ∷ bs) ≡ Err fault → tokens_from 0 at (b ∷ bs) ≡ Err fault
fault_step at fault b bs s e = rw (s, e) refl

space_step : (at b : ℕ) (bs : List ℕ) → is_space b ≡ true → tokens_from 0 at (b ∷ bs) ≡ tokens_from 0 (at + 1) bs
space_step at b bs s = let same : suc at ≡ at + 1 = omega arith in rw s (ap (λ m. tokens_from 0 m bs) same)

pub with_all_one : (front : List Token) (t : Token) (r : Result (List Token) SqlFault) → with_all front (with_token t r) ≡ with_all (front ++ t ∷ []) r
with_all_one front t (Ok ts) = ap Ok (sym (append_assoc front (t ∷ []) ts))
with_all_one front t (Err e) = refl

-- a token, a fault or a space before the remaining bytes
pub token_next : (at size : ℕ) (kind : TokenKind) (rest : List ℕ) → 0 < length rest → is_space (get_or rest 0 0) ≡ false → token_at at rest ≡ Ok (kind, size) → 0 < size → size ≤ length rest
    → tokens_from 0 at rest ≡ with_token (record { at = at; kind = kind; text = take size rest }) (tokens_from 0 (at + size) (drop size rest))
token_next at size kind [] some s e p le = absurd (omega arith)
token_next at size kind (b ∷ bs) some s e p le = token_step at size kind b bs s e p le

pub fault_next : (at : ℕ) (fault : SqlFault) (rest : List ℕ) → 0 < length rest → is_space (get_or rest 0 0) ≡ false → token_at at rest ≡ Err fault → tokens_from 0 at rest ≡ Err fault
fault_next at fault [] some s e = absurd (omega arith)
fault_next at fault (b ∷ bs) some s e = fault_step at fault b bs s e

pub space_next : (at : ℕ) (rest : List ℕ) → 0 < length rest → is_space (get_or rest 0 0) ≡ true → tokens_from 0 at rest ≡ tokens_from 0 (at + 1) (drop 1 rest)
space_next at [] some s = absurd (omega arith)
space_next at (b ∷ bs) some s = space_step at b bs s

pub ruleset steps = (token_next, fault_next, space_next, with_all_one)
