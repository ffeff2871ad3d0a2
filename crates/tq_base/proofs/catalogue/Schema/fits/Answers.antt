use Rattle.std.proofs.Common.{◌≡◌, List, [], ◌∷◌, length, refl, arith}
use Rattle.tq_base.specs.declared.catalogue.Column.{Column}
use Rattle.tq_base.specs.declared.value.Value.{Value}
use Rattle.tq_base.specs.Catalogues.{Fit}
use Rattle.tq_base.proofs.catalogue.Schema.fits.Goals as goal

-- there is one fitting value for each column
as_many : (columns : List Column) (values : List Value) → Fit columns values → length values ≡ length columns
as_many [] [] fit = refl
as_many [] (v ∷ vs) fit = absurd fit
as_many (c ∷ cs) [] fit = absurd fit
as_many (c ∷ cs) (v ∷ vs) fit = omega (arith, as_many cs vs fit.1)

pub returns-then-values-columns : goal.returns-then-values-columns
returns-then-values-columns c =
    (λ no. cc, λ fit. absurd (c.if-values-columns.true (rw (c.get-values.ensures, c.get-columns.ensures) (as_many c.args.self.now.columns c.args.values.now fit))))
