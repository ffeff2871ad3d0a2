-- Files and a statement have exactly one outcome.
use Rattle.std.proofs.Common.{◌≡◌, ◌≢◌, ◌⊎◌, ℕ, List, length, Result, Ok, Err, inl, inr, refl, sym, ap, ◌∙◌}
use Rattle.tq_base.specs.declared.form.Form.{Form}
use Rattle.tq_event.specs.declared.fault.LoadFault.{LoadFault}
use Rattle.tq_event.specs.declared.file.Loaded.{Loaded}
use Rattle.tq_event.specs.declared.file.TableFile.{TableFile}
use Rattle.tq_event.specs.Laws.{LoadedExists, LoadedIsUnique}
use Rattle.tq_event.specs.Loading.{Contents, IsLoaded, contents_of}
use Rattle.tq_exec.specs.Answers.{AnswersExist}
use Rattle.tq_plan.specs.declared.fault.PlanFault.{PlanFault}
use Rattle.tq_plan.specs.declared.plans.Plan.{Plan}
use Rattle.tq_plan.specs.Plans.{plan_of}
use Rattle.tq_sql.specs.declared.fault.SqlFault.{SqlFault}
use Rattle.tq_sql.specs.declared.statement.Statement.{Statement}
use Rattle.tq_sql.specs.Laws.{FaultsAreRefusals, FaultsAreUnique, StatementsAreUnique, TextsAreDecided}
use Rattle.tq_sql.specs.Reading.{IsSqlFault, ParsesTo}
use Rattle.tq_table.specs.declared.table.Table.{Table}
use Rattle.tq_engine.specs.declared.execution.AnswerFault.{AnswerFault}
use Rattle.tq_engine.specs.declared.execution.AnswerFault.TheVariants as answer
use Rattle.tq_engine.specs.Answers.{AnswersAreUnique, HasAnswer, IsFault, IsOutcome, OutcomesAreUnique, OutcomesExist}
use Rattle.tq_engine.proofs.UniqueLemmas.{same_catalogue, same_statement}

-- the outcome of files, by their contents, the statement's text and its plan
pub outcomes_exist : LoadedExists → TextsAreDecided → AnswersExist → OutcomesExist
outcomes_exist loaded_exists decided exists form files bytes = by_contents (contents_of form files 16777216) refl
  where
    by_plan : (loaded : Loaded) → IsLoaded form files 16777216 loaded → (s : Statement) → ParsesTo bytes s → (p : Result Plan PlanFault) → plan_of form loaded.catalogue s ≡ p
        → (outcome : Result Table AnswerFault) × IsOutcome form files bytes outcome
    by_plan loaded is_loaded s makes (Err fault) e =
        (Err (answer.Plan fault), (record { loaded = loaded; is_loaded = is_loaded; statement = s; makes = makes; is_fault = e }, λ same. cc))
    by_plan loaded is_loaded s makes (Ok plan) e =
        let (table, is) = exists loaded.events (length loaded.events) plan in
        (Ok table, record { loaded = loaded; is_loaded = is_loaded; statement = s; makes = makes; is_answer = record { plan = plan; planned = e; is_answer = is } })

    by_text : (loaded : Loaded) → IsLoaded form files 16777216 loaded → ((s : Statement) × ParsesTo bytes s) ⊎ ((f : SqlFault) × IsSqlFault bytes f)
        → (outcome : Result Table AnswerFault) × IsOutcome form files bytes outcome
    by_text loaded is_loaded (inl (s, makes)) = by_plan loaded is_loaded s makes (plan_of form loaded.catalogue s) refl
    by_text loaded is_loaded (inr (f, is)) =
        (Err (answer.Sql f), (record { loaded = loaded; is_loaded = is_loaded; is_fault = is }, λ same. cc))

    by_contents : (c : Result Contents LoadFault) → contents_of form files 16777216 ≡ c → (outcome : Result Table AnswerFault) × IsOutcome form files bytes outcome
    by_contents (Err fault) e = (Err (answer.Load fault), (e, λ same. cc))
    by_contents (Ok contents) e =
        let (loaded, is_loaded) = loaded_exists form files 16777216 contents e in
        by_text loaded is_loaded (decided bytes)

-- the fault of an `Err`, else the given one
abbrev err_or : {A E : Type 0} → E → Result A E → E
err_or other (Ok value) = other
err_or other (Err fault) = fault

-- two faults are equal, case by case in the order in which faults come
module _ (loaded_once : LoadedIsUnique) (refusals : FaultsAreRefusals) (faults_once : FaultsAreUnique) (statements_once : StatementsAreUnique) (answers_once : AnswersAreUnique) (form : Form) (files : List TableFile) (bytes : List ℕ) where
  -- loaded files have no fault
  not_both : (loaded : Loaded) (fault : LoadFault) → IsLoaded form files 16777216 loaded → contents_of form files 16777216 ≡ Err fault → ⊥
  not_both loaded fault is e = let both : Ok is.contents ≡ Err fault = sym is.is_contents ∙ e in absurd cc

  same_load : (a b : LoadFault) → contents_of form files 16777216 ≡ Err a → contents_of form files 16777216 ≡ Err b → a ≡ b
  same_load a b x y = ap (err_or a) (sym x ∙ y)

  -- the plans of one statement over one catalogue
  same_plan : (a b : Loaded) → IsLoaded form files 16777216 a → IsLoaded form files 16777216 b → (s u : Statement) → ParsesTo bytes s → ParsesTo bytes u → plan_of form a.catalogue s ≡ plan_of form b.catalogue u
  same_plan a b x y s u m n =
      let once = loaded_once form files 16777216 a b x y in
      let catalogue = same_catalogue a.catalogue b.catalogue once.0 in
      let statement = same_statement statements_once bytes s u m n in
      λ i. plan_of form (catalogue i) (statement i)

  plan_not_both : (x : Result Plan PlanFault) (plan : Plan) (fault : PlanFault) → x ≡ Ok plan → x ≡ Err fault → ⊥
  plan_not_both x plan fault a b = let both : Ok plan ≡ Err fault = sym a ∙ b in absurd cc

  same_refusal : (x : Result Plan PlanFault) (a b : PlanFault) → x ≡ Err a → x ≡ Err b → a ≡ b
  same_refusal x a b p q = ap (err_or a) (sym p ∙ q)

  -- an answer and a fault exclude each other
  no_fault : (table : Table) (fault : AnswerFault) → HasAnswer form files bytes table → IsFault form files bytes fault → fault ≢ answer.OutOfMemory → ⊥
  no_fault table (answer.Load fault) has is known = not_both has.loaded fault has.is_loaded is
  no_fault table (answer.Sql fault) has is known = refusals bytes fault has.statement is.is_fault has.makes
  no_fault table (answer.Plan fault) has is known =
      plan_not_both (plan_of form is.loaded.catalogue is.statement) has.is_answer.plan fault (same_plan is.loaded has.loaded is.is_loaded has.is_loaded is.statement has.statement is.makes has.makes ∙ has.is_answer.planned) is.is_fault
  no_fault table answer.Write has is known = is
  no_fault table answer.OutOfMemory has is known = known refl

  same_fault : (a b : AnswerFault) → IsFault form files bytes a → a ≢ answer.OutOfMemory → IsFault form files bytes b → b ≢ answer.OutOfMemory → a ≡ b
  same_fault answer.Write b x known y other = absurd x
  same_fault answer.OutOfMemory b x known y other = absurd (known refl)
  same_fault (answer.Load a) answer.Write x known y other = absurd y
  same_fault (answer.Load a) answer.OutOfMemory x known y other = absurd (other refl)
  same_fault (answer.Load a) (answer.Load b) x known y other = ap answer.Load (same_load a b x y)
  same_fault (answer.Load a) (answer.Sql b) x known y other = absurd (not_both y.loaded a y.is_loaded x)
  same_fault (answer.Load a) (answer.Plan b) x known y other = absurd (not_both y.loaded a y.is_loaded x)
  same_fault (answer.Sql a) answer.Write x known y other = absurd y
  same_fault (answer.Sql a) answer.OutOfMemory x known y other = absurd (other refl)
  same_fault (answer.Sql a) (answer.Load b) x known y other = absurd (not_both x.loaded b x.is_loaded y)
  same_fault (answer.Sql a) (answer.Sql b) x known y other = ap answer.Sql (faults_once bytes a b x.is_fault y.is_fault)
  same_fault (answer.Sql a) (answer.Plan b) x known y other = absurd (refusals bytes a y.statement x.is_fault y.makes)
  same_fault (answer.Plan a) answer.Write x known y other = absurd y
  same_fault (answer.Plan a) answer.OutOfMemory x known y other = absurd (other refl)
  same_fault (answer.Plan a) (answer.Load b) x known y other = absurd (not_both x.loaded b x.is_loaded y)
  same_fault (answer.Plan a) (answer.Sql b) x known y other = absurd (refusals bytes b x.statement y.is_fault x.makes)
  same_fault (answer.Plan a) (answer.Plan b) x known y other =
      ap answer.Plan (same_refusal (plan_of form y.loaded.catalogue y.statement) a b (same_plan y.loaded x.loaded y.is_loaded x.is_loaded y.statement x.statement y.makes x.makes ∙ x.is_fault) y.is_fault)

  pub one_outcome : (a b : Result Table AnswerFault) → IsOutcome form files bytes a → IsOutcome form files bytes b → a ≡ b
  one_outcome (Ok a) (Ok b) x y = ap Ok (answers_once form files bytes a b x y)
  one_outcome (Ok a) (Err b) x y = absurd (no_fault a b x y.0 y.1)
  one_outcome (Err a) (Ok b) x y = absurd (no_fault b a y x.0 x.1)
  one_outcome (Err a) (Err b) x y = ap Err (same_fault a b x.0 x.1 y.0 y.1)

pub outcomes_unique : LoadedIsUnique → FaultsAreRefusals → FaultsAreUnique → StatementsAreUnique → AnswersAreUnique → OutcomesAreUnique
outcomes_unique loaded_once refusals faults_once statements_once answers_once form files bytes a b x y =
    one_outcome loaded_once refusals faults_once statements_once answers_once form files bytes a b x y
