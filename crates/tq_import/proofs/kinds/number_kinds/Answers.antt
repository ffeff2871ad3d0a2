use Rattle.std.proofs.Common.{◌≡◌, ◌∙◌, ◌-◌, ◌++◌, ◌∷◌, [], ℕ, zero, suc, List, ap, arith, refl, rules}
use Rattle.std.specs.List.{repeat}
use Rattle.tq_import.specs.declared.plan.Conversion.{Conversion}
use Rattle.tq_import.specs.declared.plan.Conversion.TheVariants.{Number}
use Rattle.tq_import.proofs.kinds.number_kinds.Goals as goal

one_more : (n : ℕ) (kind : Conversion) → repeat n (kind ∷ []) ++ kind ∷ [] ≡ repeat (suc n) (kind ∷ [])
one_more zero kind = refl
one_more (suc n) kind = ap (λ (l : List Conversion). kind ∷ l) (one_more n kind)

pub columns-init : goal.columns-init
columns-init c =
    let none : 0 ≡ c.args.width - c.args.width = omega arith in
    record { some = omega arith; kinds = c.new-kinds.ensures.items ∙ ap (λ (n : ℕ). repeat n (Number 0 ∷ [])) none }

pub columns-preserved : goal.columns-preserved
columns-preserved c =
    let i = c.columns.invariant in
    let items : c.push.new.self.items ≡ c.columns.kinds.items ++ Number 0 ∷ [] = search rules in
    let count : suc (c.args.width - c.columns.left) ≡ c.args.width - (c.columns.left - 1) = omega (arith, i.some, c.columns-test.true) in
    record {
      some = omega (arith, i.some);
      kinds = items ∙ ap (λ (l : List Conversion). l ++ Number 0 ∷ []) i.kinds ∙ one_more (c.args.width - c.columns.left) (Number 0) ∙ ap (λ (n : ℕ). repeat n (Number 0 ∷ [])) count;
    }

pub returns : goal.returns
returns c =
    let i = c.columns.invariant in
    let all : c.args.width - c.columns.left ≡ c.args.width = omega (arith, c.columns-test.false) in
    i.kinds ∙ ap (λ (n : ℕ). repeat n (Number 0 ∷ [])) all
