-- Probes: parts of a query, each planned by itself. The faulty part is the first whose fault is that of the whole. This
-- project's own.
use Rattle.std.specs.Prelude.{ℕ, Bool, false, if◌then◌else◌, List, [], ◌∷◌, take, Option, None, Some, Result, Ok, Err}
use denote.Enum.Bare.{sameb}
use Rattle.tq_base.specs.declared.catalogue.Catalogue.{Catalogue}
use Rattle.tq_base.specs.declared.form.Form.TheVariants.{Numbers}
use Rattle.tq_sql.specs.declared.statement.ColumnRef.{ColumnRef}
use Rattle.tq_sql.specs.declared.statement.Cond.{Cond}
use Rattle.tq_sql.specs.declared.statement.Cond.TheVariants.{Is}
use Rattle.tq_sql.specs.declared.statement.Sign.TheVariants.{Eq}
use Rattle.tq_sql.specs.declared.statement.Term.{Term}
use Rattle.tq_sql.specs.declared.statement.SourceRef.{SourceRef}
use Rattle.tq_sql.specs.declared.statement.Statement.{Statement}
use Rattle.tq_sql.specs.declared.statement.What.{What}
use Rattle.tq_sql.specs.declared.statement.What.TheVariants as what
use Rattle.tq_plan.specs.contracts.fault.PlanFault.{the_type}
use Rattle.tq_plan.specs.declared.fault.PlanFault.{PlanFault}
use Rattle.tq_plan.specs.declared.plans.Plan.{Plan}
use Rattle.tq_plan.specs.Plans.{plan_of}

-- What a probe selects: a count of rows, a column, a sum grouped by the first of these columns, or a count of rows for
-- which two terms are equal.
pub data Probe : Type 0 where
  Count : Probe
  Column : ColumnRef → Probe
  Sum : ColumnRef → List ColumnRef → Probe
  Equality : Term → Term → Probe

-- A part of a query: the number of the statement's names before it, its first name, and its probe over these sources.
pub record QueryPart : Type 0 where
  pub at : ℕ
  pub name : List ℕ
  pub sources : List SourceRef
  pub probe : Probe

abbrev pub probe_item : Probe → What
probe_item Count = what.Count
probe_item (Column column) = what.Column column
probe_item (Sum column group) = what.Sum column
probe_item (Equality left right) = what.Count

abbrev pub probe_condition : Probe → Option Cond
probe_condition Count = None
probe_condition (Column column) = None
probe_condition (Sum column group) = None
probe_condition (Equality left right) = Some (Is left Eq right)

abbrev pub probe_group : Probe → List ColumnRef
probe_group Count = []
probe_group (Column column) = []
probe_group (Sum column group) = take 1 group
probe_group (Equality left right) = []

-- VALIDTIME SELECT what FROM sources [WHERE left = right] [GROUP BY column]
abbrev pub probe_statement : List SourceRef → Probe → Statement
probe_statement sources probe = record {
  window = None;
  left = record {
    items = record { what = probe_item probe; alias = None } ∷ [];
    sources = sources;
    cond = probe_condition probe;
    group = probe_group probe;
  };
  right = None;
}

unfoldable pub same_fault : PlanFault → PlanFault → Bool
same_fault = sameb the_type

abbrev pub is_fault : PlanFault → Result Plan PlanFault → Bool
is_fault fault (Ok plan) = false
is_fault fault (Err other) = same_fault other fault

-- whether the probe over the sources has exactly this fault
unfoldable pub is_refused : Catalogue → PlanFault → List SourceRef → Probe → Bool
is_refused catalogue fault sources probe = is_fault fault (plan_of Numbers catalogue (probe_statement sources probe))

-- the first part that has exactly this fault
abbrev pub first_refused : Catalogue → PlanFault → List QueryPart → Option QueryPart
first_refused catalogue fault [] = None
first_refused catalogue fault (part ∷ parts) =
    if is_refused catalogue fault part.sources part.probe then Some part else first_refused catalogue fault parts
