use Rattle.std.proofs.Common.{◌≡◌, ◌∙◌, ◌++◌, ◌∷◌, ◌==◌, ◌<◌, [], List, ℕ, ap, arith, false, true, codes, refl}
use Rattle.std.proofs.lemmas.Bool.{eq-eqb}
use Rattle.std.proofs.lemmas.Bool.Decides.{nat_tests}
use Rattle.tq_base.specs.Numbers.{instant_text}
use Rattle.tq_base.specs.declared.period.TheConstants.{FOREVER}
use Rattle.tq_table.specs.Text.{bound_field}
use Rattle.tq_import.proofs.converting.push_bound.Goals as goal

pub returns-in_ok-push_instant-in-Some : goal.returns-in_ok-push_instant-in-Some
returns-in_ok-push_instant-in-Some c before has =
    let h = c.in_ok-push_instant-in-Some.ensures before has in
    let same : c.in-Some.instant ≡ c.args.bound = c.in-Some.ensures.value ∙ c.number.ensures.value in
    let less : c.args.bound < FOREVER = omega (arith, c.in-Some.ensures.valid.0 refl, c.number.ensures.value) in
    let other : (c.args.bound == FOREVER) ≡ false = grind (arith, nat_tests) in
    let text : instant_text c.args.form c.in-Some.instant ≡ bound_field c.args.form c.args.bound = rw (other, same) refl in
    (h.0 ∙ ap (λ (t : List ℕ). before ++ t ∷ []) text, h.1)

pub returns-in_ok-push_field-in-None : goal.returns-in_ok-push_field-in-None
returns-in_ok-push_field-in-None c before has =
    let h = c.in_ok-push_field-in-None.ensures before has in
    let never : c.number.result < FOREVER → ⊥ = λ less. cc (c.in-None.ensures.valid.1 less) in
    let same : c.args.bound ≡ FOREVER = omega (arith, never, c.number.ensures.value, c.number.ensures.in_range) in
    let last : (c.args.bound == FOREVER) ≡ true = eq-eqb c.args.bound FOREVER same in
    let text : codes "forever" ≡ bound_field c.args.form c.args.bound = rw last refl in
    (h.0 ∙ ap (λ (t : List ℕ). before ++ t ∷ []) text, h.1)
