-- The merging of ordered lists of rows, one run after the other: rows of one list of values, or of one group. This project's own.
use Rattle.std.specs.Prelude.{◌≡◌, ◌≤◌, ◌+◌, ◌++◌, ℕ, Bool, false, true, All, IfSome, IsSorted, List, [], ◌∷◌, Option, if◌then◌else◌, length, map, slice_get}
use Rattle.std.specs.List.{flat_map}
use Rattle.std.specs.Ordering.{eq_by_cmp}
use Rattle.std.specs.Io.KnownBytes.{Appends}
use Rattle.tq_base.specs.declared.fragment.Fragment.{Fragment}
use Rattle.tq_base.specs.declared.value.Value.{Value}
use Rattle.tq_base.specs.Fragments.{copies, fragment_cmp}
use Rattle.tq_base.specs.Groups.{Below}
use Rattle.tq_base.specs.Layers.{IsLayers}
use Rattle.tq_base.specs.Ranges.{one_after_other}
use Rattle.tq_base.specs.ValueOrder.{values_cmp}
use Rattle.tq_table.specs.Text.{header_text, rows_text}
use Rattle.tq_split.specs.declared.answer_part.AnswerLayout.{AnswerLayout}
use Rattle.tq_split.specs.declared.answer_part.AnswerPart.{AnswerPart}
use Rattle.tq_split.specs.declared.combine.Combine.{Combine}
use Rattle.tq_split.specs.declared.merging.Merged.{Merged}
use Rattle.tq_split.specs.Adding.{combined, run_values}
use Rattle.tq_split.specs.AnswerTexts.{names_of, HaveRows}

-- the first rows of the run with these values, and below, the rows after them
abbrev pub run_of : Combine → List Value → List Fragment → List Fragment
run_of combine values [] = []
run_of combine values (row ∷ rows) = if eq_by_cmp values_cmp (run_values combine row.values) values then row ∷ run_of combine values rows else []

abbrev pub after_run : Combine → List Value → List Fragment → List Fragment
after_run combine values [] = []
after_run combine values (row ∷ rows) = if eq_by_cmp values_cmp (run_values combine row.values) values then after_run combine values rows else row ∷ rows

-- the first row, if there is one, is of a greater run
abbrev pub BeginsAbove : Combine → List Value → List Fragment → Type 0
BeginsAbove combine values rows = IfSome (slice_get rows 0) (λ (row : Fragment). Below values (run_values combine row.values))

-- the rows of the run of each list
abbrev pub runs_of : Combine → List Value → List (List Fragment) → List Fragment
runs_of combine values lists = flat_map (run_of combine values) lists

-- rows of greater runs are left
abbrev pub AreAfter : Combine → List Value → List (List Fragment) → Type 0
AreAfter combine values lists = All (λ (rows : List Fragment). BeginsAbove combine values (after_run combine values rows)) lists

-- the rows that the answers of this layout make: the layers of all of their rows, or of the sums at each instant
abbrev pub AreCombined : AnswerLayout → List Fragment → List Fragment → Type 0
AreCombined layout rows made = IsLayers (combined layout.combine (length layout.columns.items) rows) made

-- what the rows of one run make was added; the others are left
pub record IsRunMerged {R : Type 0} (remaining : R → Option (List ℕ)) (layout : AnswerLayout) (lists : List (List Fragment)) (parts : List (AnswerPart R)) (old new : List Fragment) : Type 0 where
  pub values : List Value
  pub left : HaveRows remaining layout parts (map (after_run layout.combine values) lists)
  pub after : AreAfter layout.combine values lists
  pub layers : List Fragment
  pub are : AreCombined layout (runs_of layout.combine values lists) layers
  pub added : new ≡ old ++ layers

-- that, or no rows were left
abbrev pub MergesRun : {R : Type 0} → (R → Option (List ℕ)) → AnswerLayout → List (List Fragment) → Bool → List (AnswerPart R) → List Fragment → List Fragment → Type 0
MergesRun remaining layout lists true parts old new = IsRunMerged remaining layout lists parts old new
MergesRun remaining layout lists false parts old new = (one_after_other lists ≡ []) × (new ≡ old)

-- each row of the first list is of a lesser run than each row of the second
abbrev pub AreRunsBelow : Combine → List Fragment → List Fragment → Type 0
AreRunsBelow combine rows others = All (λ (f : Fragment). All (λ (g : Fragment). Below (run_values combine f.values) (run_values combine g.values)) others) rows

-- ordered rows of this many values
abbrev pub AreInOrder : ℕ → List Fragment → Type 0
AreInOrder width rows = IsSorted fragment_cmp rows × All (λ (row : Fragment). length row.values ≡ width) rows

-- the rows so far are what the rows make that are no longer left; they are of lesser runs than the rows that are left
pub record AreMergedSoFar (combine : Combine) (width : ℕ) (lists left : List (List Fragment)) (rows : List Fragment) : Type 0 where
  pub layers : IsLayers (copies rows) rows
  pub counted : (v : List Value) (t : ℕ) → copies rows v t + combined combine width (one_after_other left) v t ≡ combined combine width (one_after_other lists) v t
  pub fewer : (v : List Value) (t : ℕ) → copies (one_after_other left) v t ≤ copies (one_after_other lists) v t
  pub below : AreRunsBelow combine rows (one_after_other left)
  pub ordered : All (AreInOrder width) left

-- the rows of a block are what the first rows make; the other rows are left. Without more, none are left
pub record MergesBlock {R : Type 0} (remaining : R → Option (List ℕ)) (layout : AnswerLayout) (lists : List (List Fragment)) (more : Bool) (parts : List (AnswerPart R)) (rows : List Fragment) : Type 0 where
  pub left : List (List Fragment)
  pub has : more ≡ true → HaveRows remaining layout parts left
  pub merged : All (AreInOrder (length layout.columns.items)) lists → AreMergedSoFar layout.combine (length layout.columns.items) lists left rows
  pub ended : more ≡ false → one_after_other left ≡ []

-- the lines of what all rows make were appended: the layers of the rows, or of the sums at each instant
pub record AreMergedRows (layout : AnswerLayout) (lists : List (List Fragment)) (old new : Option (List ℕ)) (merged : Merged) : Type 0 where
  pub rows : List Fragment
  pub layers : AreCombined layout (one_after_other lists) rows
  pub written : Appends old new (rows_text layout.form rows)
  pub counted : merged.rows ≡ length rows

-- the text of what all rows make was appended, with the names of the columns in front
pub record AreMerged (layout : AnswerLayout) (lists : List (List Fragment)) (old new : Option (List ℕ)) (merged : Merged) : Type 0 where
  pub rows : List Fragment
  pub layers : AreCombined layout (one_after_other lists) rows
  pub written : Appends old new (header_text (names_of layout) ++ rows_text layout.form rows)
  pub counted : merged.rows ≡ length rows
