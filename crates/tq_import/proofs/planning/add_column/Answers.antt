use Rattle.std.proofs.Common.{rules, ◌≡◌, ◌∙◌, ◌<◌, ◌++◌, ◌∷◌, [], arith, false, length, nat_le, subst, sym}
use Rattle.std.proofs.lemmas.Bool.Decides.{nat_tests}
use Rattle.tq_event.specs.Loading.{has_column}
use Rattle.tq_import.specs.Tables.{AreTableColumns, columns_with}
use Rattle.tq_import.proofs.TableLemmas.{push_column}
use Rattle.tq_import.proofs.planning.add_column.Goals as goal

pub returns-clause-table : goal.returns-clause-table
returns-clause-table c named are =
    let numbered = c.args.numbered in
    let columns = c.args.columns.now.items in
    let same : c.push.new.self.items ≡ columns ++ c.args.column ∷ [] = search rules in
    let new : has_column (columns_with numbered columns) c.args.column.name ≡ false = rw (c.deref.ensures.value, c.bytes.ensures.value) at (sym c.is_taken.ensures ∙ c.if-is_taken.false) in
    let room : nat_le 16 (length (columns_with numbered columns)) ≡ false = rw c.deref-2.ensures.value at (sym c.is_full.ensures ∙ c.if-is_full.false) in
    let few : length (columns_with numbered columns) < 16 = grind (arith, nat_tests) in
    subst (AreTableColumns numbered) (sym same) (push_column numbered columns c.args.column are named new few)
