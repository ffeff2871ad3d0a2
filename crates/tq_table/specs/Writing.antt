-- What a `csv` writer over a vector has written so far.
use Rattle.std.specs.Prelude.{◌≡◌, ◌==◌, ◌&&◌, ◌||◌, ◌^◌, ◌-◌, ◌++◌, ℕ, List, false, length, map, min, not, Some}
use Rattle.std.specs.Borrow.{Bor}
use Rattle.std.specs.Global.{Vec}
use Rattle.csv.specs.Writing.{fields_written, has_written, is_blank, row_body, text_written, writer_setup}
use Rattle.csv.specs.declared.writer.Writer.{Writer}
use Rattle.tq_base.specs.declared.value.Value.{Value}
use Rattle.tq_table.specs.Text.{answer_format}

-- the borrowed values
abbrev pub borrowed : List (Bor Value) → List Value
borrowed values = map (λ (v : Bor Value). v.now) values

-- the writer has written whole lines in the format of answers, with this text
pub record HasWritten (writer : Writer (Vec ℕ)) (text : List ℕ) : Type 0 where
  pub written : text_written (λ v. Some v.items) writer ≡ Some text
  pub setup : writer_setup writer ≡ answer_format
  pub fields : fields_written writer ≡ 0
  pub begun : has_written writer ≡ false

-- the writer has written whole lines with this text, and then these fields of one more line
pub record IsWriting (writer : Writer (Vec ℕ)) (text : List ℕ) (fields : List (List ℕ)) : Type 0 where
  pub written : text_written (λ v. Some v.items) writer ≡ Some (text ++ row_body answer_format fields)
  pub setup : writer_setup writer ≡ answer_format
  pub number : fields_written writer ≡ min (length fields) (2 ^ 64 - 1)
  pub begun : is_blank answer_format fields ≡ (not (has_written writer) && ((fields_written writer == 0) || (fields_written writer == 1)))
