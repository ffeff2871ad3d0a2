use Rattle.std.proofs.Common.{◌≡◌, ◌∙◌, List, ℕ, ◌<◌, ◌+◌, [], ◌∷◌, ◌++◌, ap, sym, refl, subst, arith, append_assoc, drop, get_or, length}
use Rattle.std.proofs.lemmas.List.{append-nil, drop_all, drop_more}
use Rattle.tq_base.specs.declared.catalogue.Schema.{Schema}
use Rattle.tq_base.specs.declared.form.Form.{Form}
use Rattle.tq_base.specs.RowLists.{RowList}
use Rattle.tq_check.specs.KeyReports.{IsKeyText}
use Rattle.tq_check.specs.Reports.{table_text, IsSummaryOf}
use Rattle.tq_check.specs.declared.key_report.KeyChecks.{KeyChecks}
use Rattle.tq_check.proofs.report.check_text.Goals as goal

module _ (form : Form) (keys : KeyChecks) where
  -- one more table
  one_more : (schemas : List Schema) (tables : List RowList) (at : ℕ) (schema : Schema) (rows : RowList) (lines rest : List ℕ) → at < length schemas → at < length tables
      → schema ≡ get_or schemas at schema → rows ≡ get_or tables at rows → IsKeyText form keys rows.items lines
      → IsSummaryOf form keys (drop (at + 1) schemas) (drop (at + 1) tables) rest
      → IsSummaryOf form keys (drop at schemas) (drop at tables) (table_text form schema rows.items lines ++ rest)
  unfolding IsSummaryOf
  one_more schemas tables at schema rows lines rest in_schemas in_tables schema_is rows_are told is =
      let first : drop at schemas ≡ schema ∷ drop (at + 1) schemas = drop_more schemas at schema in_schemas ∙ ap (λ (s : Schema). s ∷ drop (at + 1) schemas) (sym schema_is) in
      let second : drop at tables ≡ rows ∷ drop (at + 1) tables = drop_more tables at rows in_tables ∙ ap (λ (r : RowList). r ∷ drop (at + 1) tables) (sym rows_are) in
      let text = table_text form schema rows.items lines ++ rest in
      subst (λ (l : List Schema). IsSummaryOf form keys l (drop at tables) text) (sym first)
      (subst (λ (l : List RowList). IsSummaryOf form keys (schema ∷ drop (at + 1) schemas) l text) (sym second) (lines, rest, told, is, refl))

  none_left : (schemas : List Schema) (tables : List RowList) (at : ℕ) → length schemas < at + 1 → IsSummaryOf form keys (drop at schemas) (drop at tables) []
  unfolding IsSummaryOf
  none_left schemas tables at past = subst (λ (l : List Schema). IsSummaryOf form keys l (drop at tables) []) (sym (drop_all at schemas (omega (arith, past)))) refl

pub tables-init : goal.tables-init
tables-init c rest is =
    let form = c.args.form in
    let keys = c.args.keys in
    subst (λ (l : List ℕ). IsSummaryOf form keys c.args.tables.now.catalogue.tables c.args.tables.now.rows (l ++ rest)) (sym c.new-text.ensures.items)
    (subst (λ (l : List Schema). IsSummaryOf form keys l c.args.tables.now.rows rest) c.get-schemas.ensures
    (subst (λ (l : List RowList). IsSummaryOf form keys c.get-schemas.result.now l rest) c.get-rows.ensures is))

pub tables-preserved : goal.tables-preserved
tables-preserved c rest is =
    let form = c.args.form in
    let keys = c.args.keys in
    let schemas = c.get-schemas.result.now in
    let tables = c.get-rows.result.now in
    let at = c.tables.table in
    let schema = c.index-schemas-table.result in
    let rows = c.index-rows-table.result in
    let lines = c.in_ok-lines.lines.items in
    let text = c.tables.text.items in
    let piece = table_text form schema rows.items lines in
    let in_tables : at < length tables = omega (arith, c.tables-test.true, c.requires, ap length c.get-rows.ensures, ap length c.get-schemas.ensures) in
    subst (λ (l : List ℕ). IsSummaryOf form keys c.args.tables.now.catalogue.tables c.args.tables.now.rows l)
    (sym (ap (λ (l : List ℕ). l ++ rest) (c.in_ok-push_table.ensures ∙ ap (λ (l : List ℕ). text ++ table_text form schema rows.items l) c.deref.ensures.value) ∙ append_assoc text piece rest))
    (c.tables.invariant (piece ++ rest)
    (one_more form keys schemas tables at schema rows lines rest c.tables-test.true in_tables c.index-schemas-table.is c.index-rows-table.is c.in_ok-lines.ensures is))

pub returns : goal.returns
returns c =
    let form = c.args.form in
    let keys = c.args.keys in
    subst (λ (l : List ℕ). IsSummaryOf form keys c.args.tables.now.catalogue.tables c.args.tables.now.rows l) (append-nil c.tables.text.items)
    (c.tables.invariant [] (none_left form keys c.get-schemas.result.now c.get-rows.result.now c.tables.table (omega (arith, c.tables-test.false))))
