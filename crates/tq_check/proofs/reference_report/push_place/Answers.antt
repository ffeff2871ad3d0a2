use Rattle.std.proofs.Common.{◌≡◌, ◌∙◌, List, ℕ, [], ◌∷◌, ◌++◌, Option, Some, ap, append_assoc, length, refl, sym}
use Rattle.std.specs.Prelude.{slice_get}
use Rattle.std.specs.Option.{option_map_or}
use Rattle.std.proofs.lemmas.Option.{slice_get_read}
use Rattle.tq_base.specs.declared.catalogue.Schema.{Schema}
use Rattle.tq_check.specs.ReferenceReports.{column_name}
use Rattle.tq_check.proofs.reference_report.push_place.Goals as goal

pub returns : goal.returns
returns c =
    let text = c.args.text.now.items in
    let schemas = c.args.schemas.now in
    let place = c.args.place in
    let schema = c.index-schemas-place.result in
    let column = column_name schema place.column in
    let found : slice_get schemas place.table ≡ Some schema = slice_get_read schemas (length schemas) place.table schema refl c.requires c.index-schemas-place.is in
    let named : c.extend_from_slice.new.self.items ≡ text ++ schema.name = c.in_ok-extend_from_slice.ensures.items ∙ ap (λ (l : List ℕ). text ++ l) c.bytes.ensures.value in
    let pointed : c.push.new.self.items ≡ (text ++ schema.name) ++ 46 ∷ [] = c.in_ok-push.ensures.items ∙ ap (λ (l : List ℕ). l ++ 46 ∷ []) named in
    c.in_ok-extend_from_slice-2.ensures.items
    ∙ (λ i. pointed i ++ c.column_name.ensures i)
    ∙ append_assoc (text ++ schema.name) (46 ∷ []) column
    ∙ append_assoc text schema.name (46 ∷ column)
    ∙ ap (λ (o : Option Schema). text ++ option_map_or (λ (s : Schema). s.name ++ 46 ∷ column_name s place.column) o []) (sym found)
