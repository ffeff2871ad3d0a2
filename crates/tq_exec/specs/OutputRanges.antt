-- Rows in ranges of values. This project's own.
use Rattle.std.specs.Prelude.{ℕ, ◌-◌, ◌==◌, min, List, filter, length, map, slice_index_or}
use Rattle.std.specs.List.{range_with_len}
use Rattle.tq_base.specs.declared.fragment.Fragment.{Fragment}
use Rattle.tq_base.specs.Fragments.{copies}
use Rattle.tq_base.specs.Relations.{row_at}
use Rattle.tq_exec.specs.AnswerParts.{IsAnswerPart}
use Rattle.tq_exec.specs.declared.answer_parts.AnswerPart.{AnswerPart}
use Rattle.tq_exec.specs.declared.answer_parts.Wanted.{Wanted}

-- the range of a row: its id, but at most the last of `count` ranges
abbrev pub range_at : List ℕ → ℕ → ℕ → ℕ
range_at ids count number = min (slice_index_or ids number 0) (count - 1)

-- the numbers of the rows of a range, of `len` rows
abbrev pub numbers_in : List ℕ → ℕ → ℕ → ℕ → List ℕ
numbers_in ids count len range = filter (λ number. range_at ids count number == range) (range_with_len 0 len)

-- the part of the answer that the rows of the range are
abbrev pub IsRange : Wanted → ℕ → List Fragment → List ℕ → ℕ → ℕ → AnswerPart → Type 0
IsRange wanted width rows ids count i range = IsAnswerPart wanted width (copies (map (row_at rows) (numbers_in ids count (length rows) i))) range
