-- Answers as text. This project's own.
use Rattle.std.specs.Prelude.{◌≡◌, length}
use Rattle.tq_base.specs.declared.form.Form.{Form}
use Rattle.tq_table.specs.Text.{text_of}
use Rattle.tq_table.specs.declared.table.Table.{Table}
use Rattle.tq_exec.specs.declared.answer_text.RenderedAnswer.{RenderedAnswer}

-- the number of rows and the text are those of a table that satisfies the condition
pub record IsRendered (form : Form) (Is : Table → Type 0) (rendered : RenderedAnswer) : Type 0 where
  pub table : Table
  pub is : Is table
  pub rows : rendered.rows ≡ length table.rows
  pub text : rendered.text ≡ text_of form table
