use Rattle.std.proofs.Common.{◌≡◌, ◌∙◌, ◌++◌, ◌∷◌, [], ◌+◌, ap, sym, refl, arith, length, take}
use Rattle.std.proofs.lemmas.List.{length-take-le, take_more}
use Rattle.tq_base.specs.RowLists.{RowList}
use Rattle.tq_event.specs.Tables.{entries_from}
use Rattle.tq_event.proofs.TableLemmas.{entries_from-push}
use Rattle.tq_event.proofs.entry.entries_of.Goals as goal

pub tables-init : goal.tables-init
unfolding entries_from
tables-init c = rw c.new-entries.ensures.items refl

pub tables-preserved : goal.tables-preserved
tables-preserved c =
    let tables = c.args.tables.now in
    let i = c.tables.table in
    let rows = c.index-tables-table.result in
    let more : take (i + 1) tables ≡ take i tables ++ rows ∷ [] = take_more tables i rows c.tables-test.true ∙ ap (λ (r : RowList). take i tables ++ r ∷ []) (sym c.index-tables-table.is) in
    let number : 0 + length (take i tables) ≡ i = omega (arith, length-take-le i tables (omega (arith, c.tables-test.true))) in
    c.in_ok-add_entries.ensures ∙ rw (c.tables.invariant, more, entries_from-push 0 (take i tables) rows, number) refl
