-- A flag that says whether there was a value.
use Rattle.std.proofs.Common.{◌≡◌, Bool, true, false, Option, Some, None, refl}
use Rattle.std.specs.Prelude.{MatchOption}

pub none_left : {A : Type 0} (o : Option A) (found : Bool) (P : A → Type 0) → MatchOption o (found ≡ false) (λ a. (found ≡ true) × P a) → found ≡ false → o ≡ None
none_left None found P h is = refl
none_left (Some a) found P h is = cc (h.0, is)

pub some_left : {A : Type 0} (o : Option A) (found : Bool) (P : A → Type 0) → MatchOption o (found ≡ false) (λ a. (found ≡ true) × P a) → found ≡ true → (a : A) × (o ≡ Some a) × P a
some_left None found P h is = cc (h, is)
some_left (Some a) found P h is = (a, refl, h.1)
