use Rattle.std.proofs.Common.{◌≡◌, ◌∙◌, ◌++◌, ◌∷◌, [], Bool, ℕ, ap, false, refl, subst, sym, true}
use Rattle.std.specs.Prelude.{◌&&◌, All, not}
use Rattle.std.specs.Str.{bytes_eq}
use Rattle.std.proofs.lemmas.List.{map-append}
use Rattle.std.proofs.lemmas.List.Elements.{All-push}
use Rattle.csv.specs.Records.{fields_of}
use Rattle.tq_import.specs.declared.plan.PlannedColumn.{PlannedColumn}
use Rattle.tq_import.specs.Plans.{IsColumn, IsColumnAt, default_kind, is_key, is_selected, is_value, kind_for, new_name, places_of}
use Rattle.tq_import.specs.Records.{field_of}
use Rattle.tq_import.specs.Tables.{AreTableColumns}
use Rattle.tq_import.proofs.planning.add_value.Goals as goal

no_key : (a b c d : Bool) → (a && not b && not c && not d) ≡ true → b ≡ false
no_key a false c d e = refl
no_key true true c d e = cc e
no_key false true c d e = cc e

pub returns : goal.returns
returns c =
    let options = c.args.options.now in
    let header = fields_of c.args.header.now in
    let found = c.args.found.now in
    let place = c.args.place in
    let field = field_of header place in
    let column = c.in_ok-column.column in
    let old = c.args.columns.now.items in
    let value : is_value options field ≡ true = ap (is_value options) (sym c.field_at.ensures) ∙ sym c.is_value.ensures ∙ c.if-not-is_value.false in
    let other : is_key options.key field ≡ false =
    no_key (is_selected options.selection field) (is_key options.key field) (bytes_eq options.from field) (bytes_eq options.to field) value in
    let at = c.in_ok-column.ensures in
    let kind : c.found_at.result ≡ default_kind options.key found field place = c.found_at.ensures ∙ rw other refl in
    let here : IsColumnAt options place field (default_kind options.key found field place) column = record {
      placed = at.placed;
      named = at.named;
      converts = at.converts ∙ ap (kind_for options.kinds field) kind;
    } in
    let is_column : IsColumn options header found column =
    subst (λ (p : ℕ). IsColumnAt options p (field_of header p) (default_kind options.key found (field_of header p) p) column) (sym at.placed) here in
    let items = c.in_ok-add_column.ensures.items in
    record {
      places = ap places_of items ∙ map-append (λ (x : PlannedColumn). x.place) old (column ∷ []) ∙ rw value (ap (λ (p : ℕ). places_of old ++ p ∷ []) at.placed);
      each = λ all. subst (All (IsColumn options header found)) (sym items) (All-push (IsColumn options header found) old column all is_column);
      table = subst (λ (b : Bool). AreTableColumns b old → AreTableColumns b c.add_column.new.columns.items) c.is_numbered.ensures (c.in_ok-add_column.ensures.table (new_name options.renames field, at.named));
    }
