-- The ordinary operators over lists of rows, after SQL over bags.
use Rattle.std.specs.Prelude.{◌≡◌, ℕ, IsTrue, Bool, true, false, List, [], ◌∷◌, ◌++◌, map, filter, Option, Some, None}
use Rattle.std.specs.List.{flat_map}
use Rattle.tq_base.specs.RowValues.{value_at}
use Rattle.tq_base.specs.declared.value.Value.{Value}
use Rattle.tq_base.specs.declared.period.Period.{Period}
use Rattle.tq_base.specs.declared.fragment.Fragment.{Fragment}
use Rattle.tq_base.specs.Periods.{holds}
use Rattle.tq_base.specs.Fragments.{at, copies}
use Rattle.tq_condition.specs.declared.condition.Test.{Test}
use Rattle.tq_condition.specs.Conditions.{passes}

-- whether the row passes the condition, if there is one
abbrev pub admits : Option Test → List Value → Bool
admits None row = true
admits (Some test) row = passes test row

-- the rows that pass the condition (WHERE)
abbrev pub selection : Option Test → List (List Value) → List (List Value)
selection test rows = filter (admits test) rows

-- each row of the left followed by each row of the right (FROM left, right)
abbrev pub product : List (List Value) → List (List Value) → List (List Value)
product left right = flat_map (λ l. map (λ r. l ++ r) right) left

-- each row of the first list followed by each row of the next, and so on (FROM)
abbrev pub product_of : List (List (List Value)) → List (List Value)
product_of [] = [] ∷ []
product_of (rows ∷ []) = rows
product_of (rows ∷ next ∷ lists) = product rows (product_of (next ∷ lists))

-- the values at the places, in the order of the places (SELECT)
abbrev pub projection : List ℕ → List Value → List Value
projection places row = map (value_at row) places

-- at each instant of the window, as many copies of each row are valid as the count says
abbrev pub HasInside : Period → List Fragment → (ℕ → List Value → ℕ) → Type 0
HasInside window out count = (t : ℕ) (v : List Value) → IsTrue (holds window t) → copies out v t ≡ count t v

-- at no instant outside the window a row is valid
abbrev pub IsEmptyOutside : Period → List Fragment → Type 0
IsEmptyOutside window out = (t : ℕ) → holds window t ≡ false → at out t ≡ []
