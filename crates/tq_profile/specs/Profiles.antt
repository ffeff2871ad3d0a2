-- The profile of an executed statement. This project's own.
use Rattle.std.specs.Prelude.{◌≡◌, ℕ, List}
use Rattle.tq_base.specs.declared.form.Form.{Form}
use Rattle.tq_event.specs.Tables.{lists_of}
use Rattle.tq_event.specs.declared.file.Tables.{Tables}
use Rattle.tq_plan.specs.declared.plans.Plan.{Plan}
use Rattle.tq_profile.specs.Figures.{AreFigures}
use Rattle.tq_profile.specs.ProfileText.{figures_text}
use Rattle.tq_profile.specs.declared.figures.Figures.{Figures}
use Rattle.tq_profile.specs.declared.profile_text.RunFigures.{RunFigures}

-- the text is that of the figures of the executed plan, whose answer has this number of rows, and of what the run reports
pub record IsProfile (form : Form) (tables : Tables) (plan : Plan) (rows : ℕ) (run : RunFigures) (text : List ℕ) : Type 0 where
  pub figures : Figures
  pub are_figures : AreFigures (lists_of tables.rows) plan rows figures
  pub is : text ≡ figures_text form tables.catalogue figures run
