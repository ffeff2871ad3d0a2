-- Two answers of the same files and statement.
use Rattle.std.proofs.Common.{◌≡◌, ◌≤◌, ℕ, List, length, Result, Ok, Err, sym, ap, ◌∙◌, subst}
use Rattle.std.specs.Coded.{le_prop}
use Rattle.tq_base.specs.declared.catalogue.Catalogue.{Catalogue}
use Rattle.tq_base.specs.declared.catalogue.Schema.{Schema}
use Rattle.tq_base.specs.declared.form.Form.{Form}
use Rattle.tq_event.specs.declared.file.TableFile.{TableFile}
use Rattle.tq_event.specs.Laws.{LoadedIsUnique}
use Rattle.tq_exec.specs.Answers.{AnswersAreUnique, IsAnswer}
use Rattle.tq_sql.specs.declared.fault.SqlFault.{SqlFault}
use Rattle.tq_sql.specs.declared.statement.Statement.{Statement}
use Rattle.tq_sql.specs.Grammar.{IsStatement}
use Rattle.tq_sql.specs.Laws.{StatementsAreUnique}
use Rattle.tq_sql.specs.Reading.{ParsesTo}
use Rattle.tq_sql.specs.Tokens.{Token}
use Rattle.tq_table.specs.declared.table.Table.{Table}
use Rattle.tq_engine.specs.Answers.{HasAnswer}

-- catalogues with equal tables are equal
pub same_catalogue : (a b : Catalogue) → a.tables ≡ b.tables → a ≡ b
same_catalogue a b tables = subst (λ (t : List Schema). (few : length t ≤ 16) → a ≡ record { tables = t; few = few }) tables (λ few. ap (λ w. record { tables = a.tables; few = w }) (le_prop a.few few)) b.few

abbrev tokens_or : List Token → Result (List Token) SqlFault → List Token
tokens_or other (Ok tokens) = tokens
tokens_or other (Err fault) = other

-- bytes are those of at most one statement
pub same_statement : StatementsAreUnique → (bytes : List ℕ) (s u : Statement) → ParsesTo bytes s → ParsesTo bytes u → s ≡ u
same_statement once bytes s u x y =
    let tokens : x.0 ≡ y.0 = ap (tokens_or x.0) (sym x.1 ∙ y.1) in
    once y.0 s u (subst (λ ts. IsStatement ts s) tokens x.2) y.2

pub one_answer : LoadedIsUnique → StatementsAreUnique → AnswersAreUnique → (form : Form) (files : List TableFile) (bytes : List ℕ) (a b : Table) → HasAnswer form files bytes a → HasAnswer form files bytes b → a ≡ b
one_answer loaded_once statement_once answer_once form files bytes a b x y =
    answer_once form y.loaded.catalogue y.statement y.loaded.events (length y.loaded.events) a b
    (subst (λ s. IsAnswer form y.loaded.catalogue s y.loaded.events (length y.loaded.events) a) (same_statement statement_once bytes x.statement y.statement x.makes y.makes)
    (subst (λ events. IsAnswer form y.loaded.catalogue x.statement events (length events) a) loaded.1
    (subst (λ catalogue. IsAnswer form catalogue x.statement x.loaded.events (length x.loaded.events) a) (same_catalogue x.loaded.catalogue y.loaded.catalogue loaded.0) x.is_answer)))
    y.is_answer
  where
    loaded : (x.loaded.catalogue.tables ≡ y.loaded.catalogue.tables) × (x.loaded.events ≡ y.loaded.events)
    loaded = loaded_once form files 16777216 x.loaded y.loaded x.is_loaded y.is_loaded
