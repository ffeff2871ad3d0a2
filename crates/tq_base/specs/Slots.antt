-- Rows of which only some columns are stored: where the value of each column is found. This project's own.
use Rattle.std.specs.Prelude.{◌≡◌, ℕ, ◌+◌, pos, List, [], ◌∷◌, length, map}
use Rattle.tq_base.specs.declared.value.Value.{Value}
use Rattle.tq_base.specs.declared.fragment.Fragment.{Fragment}
use Rattle.tq_base.specs.declared.rows.Slot.{Slot}
use Rattle.tq_base.specs.declared.rows.Slot.TheVariants.{Stored, Zero, Empty}
use Rattle.tq_base.specs.Contents.{Int, Text}
use Rattle.tq_base.specs.RowValues.{value_at}

-- the value of a column, given the stored values of the row
abbrev pub slot_value : List Value → Slot → Value
slot_value kept (Stored place) = value_at kept place
slot_value kept Zero = Int (pos 0)
slot_value kept Empty = Text []

-- the values of a row, given its stored values; without slots, all values are stored
abbrev pub values_of_stored : List Slot → List Value → List Value
values_of_stored [] kept = kept
values_of_stored (slot ∷ slots) kept = map (slot_value kept) (slot ∷ slots)

-- the row, valid in the same period
abbrev pub row_of_stored : List Slot → Fragment → Fragment
row_of_stored slots row = record { values = values_of_stored slots row.values; period = row.period }

-- how many values each row has, given how many are stored
abbrev pub width_of_slots : List Slot → ℕ → ℕ
width_of_slots [] width = width
width_of_slots (slot ∷ slots) width = length (slot ∷ slots)

-- the values to store of a row with these values
unfoldable pub kept_of : List Slot → List Value → List Value
kept_of [] values = []
kept_of (slot ∷ slots) [] = []
kept_of (Stored place ∷ slots) (v ∷ values) = v ∷ kept_of slots values
kept_of (Zero ∷ slots) (v ∷ values) = kept_of slots values
kept_of (Empty ∷ slots) (v ∷ values) = kept_of slots values

-- the places of the stored columns count up by one from the first number to the end
unfoldable pub AreNumbered : ℕ → List Slot → ℕ → Type 0
AreNumbered first [] end = first ≡ end
AreNumbered first (Stored place ∷ slots) end = (place ≡ first) × AreNumbered (first + 1) slots end
AreNumbered first (Zero ∷ slots) end = AreNumbered first slots end
AreNumbered first (Empty ∷ slots) end = AreNumbered first slots end

-- the slots of rows that store `width` values: their places count up from 0, and the empty text is available. Without
-- slots nothing is required.
abbrev pub AreSlots : List Slot → ℕ → List Value → Type 0
AreSlots [] kept texts = Unit {0}
AreSlots (slot ∷ slots) kept texts = AreNumbered 0 (slot ∷ slots) kept × (texts ≡ Text [] ∷ [])

-- the empty text is available if the slot needs it
abbrev pub IsText : Slot → List Value → Type 0
IsText (Stored place) texts = Unit {0}
IsText Zero texts = Unit {0}
IsText Empty texts = texts ≡ Text [] ∷ []

-- the slot stores the value, or the value is the one that every row has in this column
abbrev pub IsLeftOut : Slot → Value → Type 0
IsLeftOut (Stored place) value = Unit {0}
IsLeftOut Zero value = value ≡ Int (pos 0)
IsLeftOut Empty value = value ≡ Text []

-- the values that are not stored are those that every row has in their columns
unfoldable pub AreLeftOut : List Slot → List Value → Type 0
AreLeftOut [] values = Unit {0}
AreLeftOut (slot ∷ slots) [] = Unit {0}
AreLeftOut (slot ∷ slots) (v ∷ values) = IsLeftOut slot v × AreLeftOut slots values
