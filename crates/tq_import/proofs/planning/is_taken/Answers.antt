use Rattle.std.proofs.Common.{◌≡◌, ◌∙◌, Bool, ap, bytes_eq, codes, false, map, subst, sym}
use Rattle.std.specs.Prelude.{◌||◌}
use Rattle.tq_event.specs.Loading.{has_column}
use Rattle.tq_import.specs.Tables.{columns_with, table_column}
use Rattle.tq_import.proofs.TableLemmas.{planned_name}
use Rattle.tq_import.proofs.planning.is_taken.Goals as goal

pub returns-then-numbered : goal.returns-then-numbered
returns-then-numbered c =
    let columns = c.args.columns.now in
    let name = c.args.name.now in
    let other : bytes_eq (codes "row") name ≡ false = sym c.is_number_column.ensures ∙ c.if-is_number_column.false in
    let step : (bytes_eq (codes "row") name || has_column (map table_column columns) name) ≡ has_column (map table_column columns) name = ap (λ (b : Bool). b || has_column (map table_column columns) name) other in
    subst (λ (b : Bool). c.has_planned.result ≡ has_column (columns_with b columns) name) (sym c.if-numbered.true) (c.has_planned.ensures ∙ planned_name columns name ∙ sym step)

pub returns : goal.returns
returns c =
    let columns = c.args.columns.now in
    let name = c.args.name.now in
    subst (λ (b : Bool). c.has_planned-2.result ≡ has_column (columns_with b columns) name) (sym c.if-numbered.false) (c.has_planned-2.ensures ∙ planned_name columns name)
