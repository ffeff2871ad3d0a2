use Rattle.std.proofs.Common.{◌≡◌, ◌∷◌, [], List, Bool, true, false, ◌&&◌, length, refl, arith}
use Rattle.tq_base.specs.declared.catalogue.Kind.{Kind}
use Rattle.tq_plan.specs.Conditions.{same_kind}
use Rattle.tq_plan.specs.Plans.{same_kinds}
use Rattle.tq_plan.proofs.queries.are_same_kinds.Goals as goal

-- kinds of other lengths differ
other_lengths : (js ks : List Kind) → (length js ≡ length ks → ⊥) → false ≡ same_kinds js ks
other_lengths [] [] differ = absurd (differ refl)
other_lengths [] (k ∷ ks) differ = refl
other_lengths (j ∷ js) [] differ = refl
other_lengths (j ∷ js) (k ∷ ks) differ = both (same_kind j k) (other_lengths js ks (λ same. differ (omega (arith, same))))
  where
    both : (b : Bool) → false ≡ same_kinds js ks → false ≡ (b && same_kinds js ks)
    both true is = is
    both false is = refl

pub returns-then-left-right : goal.returns-then-left-right
returns-then-left-right c = other_lengths c.args.left.now c.args.right.now c.if-left-right.true
