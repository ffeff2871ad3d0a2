-- The replies to queries.
use Rattle.std.proofs.Common.{◌≡◌, ◌≤◌, ℕ, List, ◌++◌, length, sym, ap, subst, ◌∙◌, append_assoc}
use Rattle.std.specs.Prelude.{Ok}
use mathlib.Core.List.{IsPrefix}
use Rattle.tq_base.specs.declared.form.Form.{Form}
use Rattle.tq_base.specs.declared.catalogue.Catalogue.{Catalogue}
use Rattle.tq_event.specs.declared.event.Event.{Event}
use Rattle.tq_plan.specs.declared.plans.Plan.{Plan}
use Rattle.tq_plan.specs.Plans.{plan_of}
use Rattle.tq_sql.specs.declared.statement.Statement.{Statement}
use Rattle.tq_sql.specs.Reading.{ParsesTo}
use Rattle.tq_exec.specs.Answers.{IsAnswer}
use Rattle.tq_exec.specs.Rendered.{IsRendered}
use Rattle.tq_exec.specs.declared.answer_text.RenderedAnswer.{RenderedAnswer}
use Rattle.tq_session.specs.declared.reply.Reply.TheVariants as outcome
use Rattle.tq_session.specs.Query.{IsPlanOf}
use Rattle.tq_session.specs.Transcripts.{Asks, IsPlanned}

-- the bytes have a plan over the catalogue
pub planned_of : (form : Form) (catalogue other : Catalogue) (bytes : List ℕ) (plan : Plan) → catalogue ≡ other → IsPlanOf form catalogue bytes plan → IsPlanned form other bytes
planned_of form catalogue other bytes plan same is = record {
  statement = is.statement;
  makes = is.makes;
  plan = plan;
  planned = subst (λ (c : Catalogue). plan_of form c is.statement ≡ Ok plan) same is.planned;
}

-- a prefix of a prefix is a prefix
pub prefix_of_prefix : {X : Type 0} (a b c : List X) → IsPrefix a b → IsPrefix b c → IsPrefix a c
prefix_of_prefix a b c (x, first) (y, second) = (x ++ y, sym (append_assoc a x y) ∙ ap (λ l. l ++ y) first ∙ second)

-- the reply is the answer
pub asks_told : (form : Form) (catalogue : Catalogue) (events : List Event) (n : ℕ) (bytes : List ℕ) (answer : RenderedAnswer) (statement : Statement)
    → n ≤ length events → ParsesTo bytes statement → IsRendered form (IsAnswer form catalogue statement events n) answer → Asks form catalogue events n bytes (outcome.Answer answer)
asks_told form catalogue events n bytes answer statement within makes is = record {
  told = within;
  statement = statement;
  makes = makes;
  table = is.table;
  is_answer = is.is;
  rows_are = is.rows;
  text_is = is.text;
}
