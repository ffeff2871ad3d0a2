-- Rows in the order of their keys, one after another, with only the row of the last key that ends last. This project's
-- own.
use Rattle.std.specs.Prelude.{◌==◌, if◌then◌else◌, List, [], ◌∷◌, Option, Some, None}
use Rattle.std.specs.List.{cons_option}
use Rattle.tq_check.specs.KeyRows.{found_pair, further}
use Rattle.tq_check.specs.declared.findings.Finding.{Finding}
use Rattle.tq_check.specs.declared.findings.KeyPair.{KeyPair}
use Rattle.tq_check.specs.declared.key_rows.KeyedRow.{KeyedRow}

-- the row, if it has the key of the other
abbrev pub of_key : Option KeyedRow → KeyedRow → Option KeyedRow
of_key None row = None
of_key (Some last) row = if last.key == row.key then Some last else None

-- what is found from here on; `last` is the row that ends last of those of the key before
unfoldable pub pairs_after : Finding → Option KeyedRow → List KeyedRow → List KeyPair
pairs_after finding last [] = []
pairs_after finding last (row ∷ rows) =
    cons_option (found_pair finding (of_key last row) row) (pairs_after finding (Some (further (of_key last row) row)) rows)
