-- One turn of a list, and its end.
use Rattle.std.proofs.Common.{◌≡◌, ◌<◌, ◌≤◌, ℕ, zero, suc, ◌-◌, true, false, List, [], ◌∷◌, ◌++◌, length, refl, arith}
use Rattle.std.specs.Prelude.{Ok}
use Rattle.tq_sql.specs.declared.token.TokenKind.{TokenKind}
use Rattle.tq_sql.specs.Tokens.{Token}
use Rattle.tq_sql.specs.Descent.{Reader, sees, after, more_from}

pub list_turn : {A : Type 0} (mark : TokenKind) (p : Reader A) (n : ℕ) (all new : List A) (ts mid rest : List Token) (x : A)
    → sees mark ts ≡ true → mid ≡ after mark ts → length mid < length ts → length ts ≤ n → p mid ≡ Ok (x, rest) → new ≡ all ++ x ∷ []
    → more_from mark p (λ all y. all ++ y ∷ []) n all ts ≡ more_from mark p (λ all y. all ++ y ∷ []) (n - 1) new rest
list_turn mark p zero all new ts mid rest x seen moved less enough read is = absurd (omega arith)
list_turn mark p (suc n) all new ts mid rest x seen moved less enough read is =
    let same : n ≡ suc n - 1 = omega arith in
    rw (seen, ← moved, read, is, ← same) refl

pub list_end : {A : Type 0} (mark : TokenKind) (p : Reader A) (n : ℕ) (all : List A) (ts : List Token) → sees mark ts ≡ false
    → more_from mark p (λ all y. all ++ y ∷ []) n all ts ≡ Ok (all, after mark ts)
unfolding after
list_end mark p zero all ts seen = rw seen refl
list_end mark p (suc n) all ts seen = rw seen refl
