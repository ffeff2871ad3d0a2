-- Answers over tables without the values of columns that the statement does not name.
use Rattle.std.proofs.Common.{◌≡◌, ℕ, Bool, List, length, get_or, Result, Ok, Err, sym, ap, ◌∙◌, subst}
use Rattle.tq_base.specs.declared.catalogue.Catalogue.{Catalogue}
use Rattle.tq_base.specs.declared.form.Form.{Form}
use Rattle.tq_event.specs.declared.file.TableFile.{TableFile}
use Rattle.tq_event.specs.declared.file.Tables.{Tables}
use Rattle.tq_event.specs.Laws.{LoadedIsHistory}
use Rattle.tq_event.specs.Projection.{AreProjectedTables}
use Rattle.tq_event.specs.Tables.{lists_of, AreLoaded, TablesAreLoaded}
use Rattle.tq_sql.specs.declared.statement.Statement.{Statement}
use Rattle.tq_sql.specs.Laws.{StatementsAreUnique}
use Rattle.tq_sql.specs.Reading.{ParsesTo}
use Rattle.tq_load.specs.Laws.{HeadersAreCatalogue}
use Rattle.tq_load.specs.Parts.{AreHeaded}
use Rattle.tq_plan.specs.Plans.{plan_of}
use Rattle.tq_plan.specs.ValidPlans.{QueriesAreValid}
use Rattle.tq_plan.specs.declared.plans.Plan.{Plan}
use Rattle.tq_exec.specs.Answers.{tables_read, IsTablesAnswer}
use Rattle.tq_exec.specs.Fitting.{AreAllFitting, HeldRowsFit}
use Rattle.tq_exec.specs.Required.{ProjectedTablesAnswer, Serve}
use Rattle.tq_exec.specs.TableAnswers.{TablesAnswer}
use Rattle.tq_engine.specs.Answers.{QueryIsAnswered, QueryIsRefused, IsLoadedQuery, IsStatementFault, ServesQuery}
use Rattle.tq_engine.proofs.FaultLemmas.{statement_fault}
use Rattle.tq_engine.proofs.UniqueLemmas.{same_catalogue, same_statement}

-- rows of completely loaded tables fit the tables of the files
pub whole_fit : HeldRowsFit → LoadedIsHistory → (form : Form) (files : List TableFile) (whole : Tables) → AreLoaded form files 16777216 whole → AreAllFitting whole.catalogue (lists_of whole.rows)
whole_fit held is_history form files whole of =
    subst (λ (catalogue : Catalogue). AreAllFitting catalogue (lists_of whole.rows)) of.catalogue
    (held of.loaded.catalogue (lists_of whole.rows) of.loaded.events (length of.loaded.events) (is_history form files 16777216 of.loaded of.is_loaded) of.hold)

-- the answer of the statement's plan over the tables is its answer over the complete tables, and so the answer over the
-- files
pub answers_asked : TablesAreLoaded → LoadedIsHistory → HeldRowsFit → QueriesAreValid → ProjectedTablesAnswer → TablesAnswer → QueryIsAnswered
answers_asked are_loaded is_history held stand kept_answer tables_answer form files bytes tables statement plan table is_query planned is =
    let wanted = is_query.of_files in
    let whole = wanted.whole in
    let of : AreLoaded form files 16777216 whole = are_loaded form files 16777216 whole wanted.of_files in
    let fit : AreAllFitting whole.catalogue (lists_of whole.rows) = whole_fit held is_history form files whole of in
    let of_whole : plan_of form whole.catalogue statement ≡ Ok plan = subst (λ (catalogue : Catalogue). plan_of form catalogue statement ≡ Ok plan) wanted.kept.catalogue planned in
    let over : plan_of form of.loaded.catalogue statement ≡ Ok plan = subst (λ (catalogue : Catalogue). plan_of form catalogue statement ≡ Ok plan) (sym of.catalogue) of_whole in
    let of_tables : IsTablesAnswer (lists_of whole.rows) plan table =
    kept_answer is_query.wanted whole.catalogue (lists_of whole.rows) (lists_of tables.rows) plan table wanted.kept.rows fit
    (stand whole.catalogue plan (record { form = form; statement = statement; planned = of_whole })) (is_query.serves plan planned) is in
    record {
      loaded = of.loaded;
      is_loaded = of.is_loaded;
      statement = statement;
      makes = is_query.makes;
      is_answer = record {
        plan = plan;
        planned = over;
        is_answer = tables_answer (lists_of whole.rows) of.loaded.events (length of.loaded.events) plan table
            (record { form = form; catalogue = of.loaded.catalogue; statement = statement; planned = over })
            (λ k d less. of.hold (get_or (tables_read plan) k d))
            of_tables;
      };
    }

-- a fault of the statement over the tables is the first fault
pub faults_asked : TablesAreLoaded → QueryIsRefused
faults_asked are_loaded form files bytes tables statement fault is_query is =
    let whole = is_query.of_files.whole in
    let of : AreLoaded form files 16777216 whole = are_loaded form files 16777216 whole is_query.of_files.of_files in
    statement_fault form files bytes of.loaded statement fault of.is_loaded is_query.makes
    (subst (λ (catalogue : Catalogue). IsStatementFault form catalogue statement fault) (is_query.of_files.kept.catalogue ∙ sym of.catalogue) is)

-- the loaded tables and the parsed statement are a loaded query
pub is_asked : (form : Form) (files : List TableFile) (bytes : List ℕ) (wanted : List (List Bool)) (tables : Tables) (statement : Statement)
    → ServesQuery form files bytes wanted → AreProjectedTables form files 16777216 wanted tables → ParsesTo bytes statement → IsLoadedQuery form files bytes tables statement
is_asked form files bytes wanted tables statement serves of makes = record {
  wanted = wanted;
  of_files = of;
  makes = makes;
  serves = λ plan planned.
      let over : plan_of form of.whole.catalogue statement ≡ Ok plan = subst (λ (catalogue : Catalogue). plan_of form catalogue statement ≡ Ok plan) of.kept.catalogue planned in
      serves of.of_files.contents of.whole.catalogue statement plan of.of_files.is_contents of.of_files.catalogue makes over;
}

-- the value of an `Ok`, else the given one: two results that are equal have equal values
abbrev ok_or : {A E : Type 0} → A → Result A E → A
ok_or other (Ok value) = value
ok_or other (Err fault) = other

-- the columns that a plan names over the headers' tables are those that any valid contents of the files need
pub serves_found : HeadersAreCatalogue → StatementsAreUnique → (form : Form) (files : List TableFile) (bytes : List ℕ) (wanted : List (List Bool)) (catalogue : Catalogue) (statement : Statement) (plan : Plan)
    → AreHeaded files catalogue.tables → ParsesTo bytes statement → plan_of form catalogue statement ≡ Ok plan → Serve wanted plan → ServesQuery form files bytes wanted
serves_found headers once form files bytes wanted catalogue statement plan headed makes planned serve contents other is_query over is tables makes_asked planned_over named =
    let same : other ≡ catalogue = same_catalogue other catalogue (tables ∙ headers form files 16777216 catalogue.tables contents headed is) in
    let one : is_query ≡ statement = same_statement once bytes is_query statement makes_asked makes in
    let both : plan_of form other is_query ≡ plan_of form catalogue statement = λ i. plan_of form (same i) (one i) in
    let plans : over ≡ plan = ap (ok_or over) (sym planned_over ∙ both ∙ planned) in
    subst (Serve wanted) (sym plans) serve
