use Rattle.std.proofs.Common.{◌∙◌, List, ℕ, ◌++◌, ap, codes}
use Rattle.std.specs.List.{flat_map}
use Rattle.tq_report.specs.TypedTexts.{typed_name}
use Rattle.tq_report.proofs.CsvLemmas.{after_comma}
use Rattle.tq_report.proofs.TypedLemmas.{header_is}
use Rattle.tq_report.proofs.typed_texts.push_typed_header.Goals as goal

pub returns : goal.returns
returns c =
    let text = c.args.text.now.items in
    let columns = c.args.columns.now in
    c.in_ok-extend_from_slice-2.ensures.items
    ∙ ap (λ (l : List ℕ). l ++ codes ",from,to\n") c.in_ok-push_typed_names.ensures
    ∙ ap (λ (l : List ℕ). (l ++ flat_map (after_comma typed_name) columns) ++ codes ",from,to\n") c.in_ok-extend_from_slice.ensures.items
    ∙ header_is text columns
