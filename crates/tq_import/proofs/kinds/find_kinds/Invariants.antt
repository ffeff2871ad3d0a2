-- The kinds so far and the remaining records make the kinds of all records.
use Rattle.std.proofs.Common.{◌≡◌, [], ◌∷◌, ℕ, List}
use Rattle.std.specs.List.{repeat}
use Rattle.tq_import.specs.declared.plan.Conversion.TheVariants.{Number}
use Rattle.tq_import.specs.Kinds.{kinds_after}
use Rattle.tq_import.specs.Reading.{HasLeft}
use Rattle.tq_import.proofs.kinds.find_kinds.Given as goal

abbrev pub invariant-records : goal.invariant-records
invariant-records g l = (delimiter : ℕ) (all : List (List (List ℕ))) → HasLeft g.R.Read.remaining delimiter l.fn.reader all
    → (left : List (List (List ℕ))) × HasLeft g.R.Read.remaining delimiter l.reader left
    × (kinds_after l.format (repeat l.width (Number 0 ∷ [])) all ≡ kinds_after l.format l.kinds.items left)
