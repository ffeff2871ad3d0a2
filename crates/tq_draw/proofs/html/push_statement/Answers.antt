use Rattle.std.proofs.Common.{◌∙◌, List, ℕ, ◌++◌, ap}
use Rattle.std.specs.Prelude.{codes}
use Rattle.tq_draw.specs.Html.{statement_element}
use Rattle.tq_draw.specs.Labels.{escaped_lines}
use Rattle.tq_draw.specs.Xml.{xml_text}
use Rattle.tq_draw.proofs.Steps.{as_one_piece}
use Rattle.tq_draw.proofs.html.push_statement.Goals as goal

pub returns : goal.returns
unfolding statement_element
returns c =
    let text = c.args.text.now.items in
    let before = codes "<pre><code>" in
    let behind = codes "</code></pre>\n" in
    let statement = c.args.statement.now in
    c.in_ok-extend_from_slice-2.ensures.items
    ∙ ap (λ (l : List ℕ). l ++ behind)
    (c.in_ok-push_xml.ensures
    ∙ ap (λ (l : List ℕ). l ++ xml_text c.deref.result.now) c.in_ok-extend_from_slice.ensures.items
    ∙ ap (λ (l : List ℕ). text ++ before ++ xml_text l) (c.deref.ensures.value ∙ c.in_ok-shown.ensures))
    ∙ as_one_piece text before (xml_text (escaped_lines statement)) behind
