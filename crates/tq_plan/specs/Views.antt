-- How contracts see the code's fields and sources: by the values that they borrow.
use Rattle.std.specs.Prelude.{ℕ, List, map}
use Rattle.tq_base.specs.declared.catalogue.Column.{Column}
use Rattle.tq_plan.specs.declared.scope.Field.{Field}
use Rattle.tq_plan.specs.declared.scope.Scope.{Scope}
use Rattle.tq_plan.specs.Scope.{Sources}

abbrev pub field_view : Field → List ℕ × Column
field_view field = (field.alias.now, field.column.now)

abbrev pub sources_view : Scope → Sources
sources_view scope = record { sources = scope.sources.items; aliases = map (λ alias. alias.now) scope.aliases.items; fields = map field_view scope.fields.items }
