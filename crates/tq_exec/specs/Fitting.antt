-- Rows that fit the tables of a catalogue. This project's own.
use Rattle.std.specs.Prelude.{ℕ, List, [], ◌∷◌, All}
use Rattle.std.proofs.Props.{props}
use Rattle.tq_base.specs.declared.catalogue.Catalogue.{Catalogue}
use Rattle.tq_base.specs.declared.catalogue.Column.{Column}
use Rattle.tq_base.specs.declared.catalogue.Kind.{Kind}
use Rattle.tq_base.specs.declared.catalogue.Kind.TheVariants as kind
use Rattle.tq_base.specs.declared.fragment.Fragment.{Fragment}
use Rattle.tq_base.specs.declared.value.Value.{Value}
use Rattle.tq_base.specs.Catalogues.{Fit, IsOfKind}
use Rattle.tq_base.specs.Contents.{Int, Text}
use Rattle.tq_event.specs.declared.event.Event.{Event}
use Rattle.tq_event.specs.History.{IsHistory}
use Rattle.tq_event.specs.Recorded.{HasTable}
use Rattle.tq_event.specs.Tables.{HoldsRows, rows_in}
use Rattle.tq_exec.specs.Answers.{ValidRows}

-- each row that is valid in a table at some instant fits the table of this number in the catalogue; so none is valid if
-- the catalogue has no such table
abbrev pub AreFitting : Catalogue → ValidRows → Type 0
AreFitting catalogue valid = (table t : ℕ) → All (HasTable catalogue table) (valid table t)

-- the same for each row of tables of rows, whatever its period
abbrev pub AreAllFitting : Catalogue → List (List Fragment) → Type 0
AreAllFitting catalogue tables = (table : ℕ) → All (λ (row : Fragment). HasTable catalogue table row.values) (rows_in tables table)

-- if tables hold what a history over a catalogue holds, their rows fit the catalogue's tables
abbrev pub HeldRowsFit : Type 0
HeldRowsFit = (catalogue : Catalogue) (tables : List (List Fragment)) (history : List Event) (n : ℕ) → IsHistory catalogue history
    → ((table : ℕ) → HoldsRows tables history n table) → AreAllFitting catalogue tables

-- ---- values fit in one way at most

kind_prop : (k : Kind) (value : Value) → IsProp (IsOfKind k value)
kind_prop kind.Int (Int n) = hlevel props
kind_prop kind.Int (Text t) = hlevel props
kind_prop kind.Text (Int n) = hlevel props
kind_prop kind.Text (Text t) = hlevel props

pub fit_prop : (columns : List Column) (values : List Value) → IsProp (Fit columns values)
fit_prop [] [] = hlevel props
fit_prop [] (v ∷ vs) = hlevel props
fit_prop (c ∷ cs) [] = hlevel props
fit_prop (c ∷ cs) (v ∷ vs) = λ x y i. (kind_prop c.kind v x.0 y.0 i, fit_prop cs vs x.1 y.1 i)
