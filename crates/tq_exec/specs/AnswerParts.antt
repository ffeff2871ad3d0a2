-- What is made of the parts of an answer. This project's own.
use Rattle.std.specs.Prelude.{◌≡◌, ℕ, All, List, length, map, sum_by}
use Rattle.tq_base.specs.declared.fragment.Fragment.{Fragment}
use Rattle.tq_base.specs.Layers.{IsLayers}
use Rattle.tq_agg.specs.Grouping.{Row}
use Rattle.tq_table.specs.Merging.{all_rows, AreOfWidth}
use Rattle.tq_table.specs.Sink.{bytes_of}
use Rattle.tq_table.specs.Text.{rows_text}
use Rattle.tq_exec.specs.declared.answer_parts.AnswerPart.{AnswerPart}
use Rattle.tq_exec.specs.declared.answer_parts.Made.{Made}
use Rattle.tq_exec.specs.declared.answer_parts.Wanted.{Wanted}
use Rattle.tq_exec.specs.declared.answer_parts.Wanted.TheVariants.{Rows, Text}

-- what is wanted is made of rows of `width` values
abbrev pub IsMade : Wanted → ℕ → List Fragment → Made → Type 0
IsMade Rows width rows made = (made.rows.items ≡ rows) × AreOfWidth width made.rows
IsMade (Text form) width rows made = (made.text.items ≡ rows_text form rows) × (made.len ≡ length rows)

-- a part with the layers of rows of `width` values; `times` says how often each row is valid
pub record IsAnswerPart (wanted : Wanted) (width : ℕ) (times : Row → ℕ → ℕ) (part : AnswerPart) : Type 0 where
  pub layers : IsLayers times part.rows
  pub made : IsMade wanted width part.rows part.made

-- what is wanted is made of the rows by all parts together, one after the other
abbrev pub AreMade : Wanted → ℕ → List Fragment → List Made → Type 0
AreMade Rows width rows made = (all_rows (map (λ (one : Made). one.rows) made) ≡ rows) × All (AreOfWidth width) (map (λ (one : Made). one.rows) made)
AreMade (Text form) width rows made = (bytes_of (map (λ (one : Made). one.text) made) ≡ rows_text form rows) × (sum_by (λ (one : Made). one.len) made ≡ length rows)

-- the parts are together the layers of rows of `width` values; `times` says how often each row is valid
pub record HaveAnswer (wanted : Wanted) (width : ℕ) (times : Row → ℕ → ℕ) (made : List Made) : Type 0 where
  pub rows : List Fragment
  pub layers : IsLayers times rows
  pub are : AreMade wanted width rows made
