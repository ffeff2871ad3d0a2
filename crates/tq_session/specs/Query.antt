-- The replies to queries of a session. This project's own.
use Rattle.std.specs.Prelude.{◌≡◌, ◌≢◌, ℕ, List, Ok, Err}
use Rattle.tq_base.specs.declared.form.Form.{Form}
use Rattle.tq_base.specs.declared.catalogue.Catalogue.{Catalogue}
use Rattle.tq_plan.specs.declared.plans.Plan.{Plan}
use Rattle.tq_plan.specs.Plans.{plan_of}
use Rattle.tq_sql.specs.declared.fault.SqlFaultKind.TheVariants as sql
use Rattle.tq_sql.specs.declared.statement.Statement.{Statement}
use Rattle.tq_sql.specs.Reading.{IsSqlFault, ParsesTo}
use Rattle.tq_session.specs.declared.reply.Refusal.{Refusal}
use Rattle.tq_session.specs.declared.reply.Refusal.TheVariants as refusal

-- the plan is that of the statement with these bytes
pub record IsPlanOf (form : Form) (catalogue : Catalogue) (bytes : List ℕ) (plan : Plan) : Type 0 where
  pub statement : Statement
  pub makes : ParsesTo bytes statement
  pub planned : plan_of form catalogue statement ≡ Ok plan

-- why the bytes have no plan: the first reason that applies, or a failed allocation
abbrev pub NotPlanned : Form → Catalogue → List ℕ → Refusal → Type 0
NotPlanned form catalogue bytes (refusal.Statement fault) = IsSqlFault bytes fault × (fault.kind ≢ sql.OutOfMemory)
NotPlanned form catalogue bytes (refusal.Plan fault) = (statement : Statement) × ParsesTo bytes statement × (plan_of form catalogue statement ≡ Err fault)
NotPlanned form catalogue bytes refusal.OutOfMemory = Unit {0}
NotPlanned form catalogue bytes refusal.BadLine = ⊥
NotPlanned form catalogue bytes refusal.LongLine = ⊥
NotPlanned form catalogue bytes refusal.UnknownTable = ⊥
NotPlanned form catalogue bytes refusal.BadValues = ⊥
NotPlanned form catalogue bytes (refusal.TooEarly last) = ⊥
NotPlanned form catalogue bytes refusal.NoOpenRow = ⊥
NotPlanned form catalogue bytes refusal.TooManyEvents = ⊥
NotPlanned form catalogue bytes (refusal.TooNew count) = ⊥
NotPlanned form catalogue bytes refusal.Closed = ⊥
