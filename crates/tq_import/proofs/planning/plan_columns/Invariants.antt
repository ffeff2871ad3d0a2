-- The columns so far are the key and those of the places so far.
use Rattle.std.proofs.Common.{◌≡◌, ◌++◌, List, ℕ}
use Rattle.std.specs.Prelude.{All}
use Rattle.csv.specs.Records.{fields_of}
use Rattle.tq_import.specs.Plans.{IsColumn, IsKeyPlace, is_numbered, places_of, value_places}
use Rattle.tq_import.specs.Tables.{AreTableColumns}
use Rattle.tq_import.proofs.planning.plan_columns.Given as goal

abbrev pub invariant-places : goal.invariant-places
invariant-places l = record {
  key : List ℕ;
  is_key : IsKeyPlace l.options.key (fields_of l.header) key;
  places : places_of l.columns.items ≡ key ++ value_places l.options (fields_of l.header) l.place;
  each : All (IsColumn l.options (fields_of l.header) l.found) l.columns.items;
  table : AreTableColumns (is_numbered l.options.key) l.columns.items;
}
