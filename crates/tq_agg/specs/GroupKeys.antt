-- The key of a row: its values in the key columns.
use Rattle.std.specs.Prelude.{◌≡◌, ℕ, List, All}
use Rattle.tq_base.specs.declared.value.Value.{Value}
use Rattle.tq_base.specs.declared.fragment.Fragment.{Fragment}
use Rattle.tq_condition.specs.Ordinary.{projection}

abbrev pub key_of : List ℕ → Fragment → List Value
key_of keys row = projection keys row.values

-- each row has the key
abbrev pub AreOfKey : List ℕ → List Value → List Fragment → Type 0
AreOfKey keys key rows = All (λ row. key_of keys row ≡ key) rows
