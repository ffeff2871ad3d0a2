-- Answers of one statement.
use Rattle.std.proofs.Common.{◌≡◌, ◌≤◌, ◌++◌, ℕ, List, Result, Ok, Err, length, get_or, sym, ap, ◌∙◌, subst}
use Rattle.tq_base.specs.declared.catalogue.Catalogue.{Catalogue}
use Rattle.tq_base.specs.declared.form.Form.{Form}
use Rattle.tq_base.specs.Fragments.{occurrences}
use Rattle.tq_base.specs.Layers.{IsLayers, LayersAreUnique}
use Rattle.tq_event.specs.declared.event.Event.{Event}
use Rattle.tq_event.specs.History.{PrefixLaw}
use Rattle.tq_sql.specs.declared.statement.Statement.{Statement}
use Rattle.tq_table.specs.declared.table.Table.{Table}
use Rattle.tq_plan.specs.declared.fault.PlanFault.{PlanFault}
use Rattle.tq_plan.specs.declared.plans.Plan.{Plan}
use Rattle.tq_exec.specs.Answers.{as_of, tables_read, times_at, AnswersAgree, IsAnswer}

abbrev plan_or : Plan → Result Plan PlanFault → Plan
plan_or other (Ok plan) = plan
plan_or other (Err fault) = other

pub one_answer : LayersAreUnique → (form : Form) (catalogue : Catalogue) (statement : Statement) (history : List Event) (n : ℕ) (a b : Table) → IsAnswer form catalogue statement history n a → IsAnswer form catalogue statement history n b → a ≡ b
one_answer layers_once form catalogue statement history n a b x y =
    λ i. record { columns = same_columns i; rows = same_rows i }
  where
    plans : x.plan ≡ y.plan
    plans = ap (plan_or x.plan) (sym x.planned ∙ y.planned)

    same_columns : a.columns ≡ b.columns
    same_columns = x.is_answer.columns ∙ ap (λ (p : Plan). p.columns) plans ∙ sym y.is_answer.columns

    same_rows : a.rows ≡ b.rows
    same_rows = layers_once (times_at (as_of history n) y.plan) a.rows b.rows (subst (λ p. IsLayers (times_at (as_of history n) p) a.rows) plans x.is_answer.layers) y.is_answer.layers

pub answer_stays : PrefixLaw → AnswersAgree → (form : Form) (catalogue : Catalogue) (statement : Statement) (history more : List Event) (n : ℕ) (table : Table) → n ≤ length history → IsAnswer form catalogue statement history n table → IsAnswer form catalogue statement (history ++ more) n table
answer_stays rows_agree agree form catalogue statement history more n table within x = record {
  plan = x.plan;
  planned = x.planned;
  is_answer = agree (as_of history n) (as_of (history ++ more) n) x.plan table
      (record { form = form; catalogue = catalogue; statement = statement; planned = x.planned })
      (λ k d less t v. ap (λ rows. occurrences rows v) (sym (rows_agree history more n (get_or (tables_read x.plan) k d) t within)))
      x.is_answer;
}
