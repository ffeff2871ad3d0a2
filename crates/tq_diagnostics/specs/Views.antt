-- How contracts see the code's parts, terms and names: by the values that they borrow.
use Rattle.std.specs.Prelude.{ℕ, List, Option, map}
use Rattle.std.specs.Option.{option_map}
use Rattle.std.specs.Borrow.{Bor}
use Rattle.tq_sql.specs.declared.statement.Term.{Term}
use Rattle.tq_diagnostics.specs.declared.probe_statement.Part.{Part}
use Rattle.tq_diagnostics.specs.declared.probe_statement.Probe.{Probe}
use Rattle.tq_diagnostics.specs.declared.probe_statement.Probe.TheVariants as code
use Rattle.tq_diagnostics.specs.Probes.{QueryPart}
use Rattle.tq_diagnostics.specs.Probes as probe_statement

abbrev pub probe_view : Probe → probe_statement.Probe
probe_view code.Count = probe_statement.Count
probe_view (code.Column column) = probe_statement.Column column.now
probe_view (code.Sum column group) = probe_statement.Sum column.now group.now
probe_view (code.Equality left right) = probe_statement.Equality left.now right.now

abbrev pub part_view : Part → QueryPart
part_view part = record { at = part.at; name = part.name.now; sources = part.sources.now; probe = probe_view part.probe }

abbrev pub part_views : List Part → List QueryPart
part_views parts = map part_view parts

abbrev pub optional_part_view : Option Part → Option QueryPart
optional_part_view part = option_map part_view part

abbrev pub pair_views : List (Bor Term × Bor Term) → List (Term × Term)
pair_views pairs = map (λ pair. (pair.0.now, pair.1.now)) pairs

abbrev pub name_views : List (Bor (List ℕ)) → List (List ℕ)
name_views names = map (λ name. name.now) names
