use Rattle.std.proofs.Common.{◌∙◌, List, ℕ, ◌++◌, ap}
use Rattle.std.specs.Prelude.{codes}
use Rattle.tq_draw.specs.Html.{page_head, page_over, statement_element, table_element}
use Rattle.tq_draw.specs.Svg.{svg_over}
use Rattle.tq_draw.proofs.Steps.{five_as_one}
use Rattle.tq_draw.proofs.html.push_page.Goals as goal

pub returns : goal.returns
unfolding page_over
returns g c =
    let text = c.args.text.now.items in
    let rows = c.args.rows.now in
    let columns = c.args.columns.now in
    let statement = statement_element c.args.statement.now in
    let image = svg_over c.args.form c.args.width c.args.window.now columns rows in
    let table = table_element c.args.form columns rows in
    let end = codes "</body>\n</html>\n" in
    c.in_ok-extend_from_slice.ensures.items
    ∙ ap (λ (l : List ℕ). l ++ end)
    (c.in_ok-push_table.ensures
    ∙ ap (λ (l : List ℕ). l ++ table)
    (c.in_ok-push_svg.ensures
    ∙ ap (λ (l : List ℕ). l ++ image)
    (c.in_ok-push_statement.ensures ∙ ap (λ (l : List ℕ). l ++ statement) c.in_ok-push_page_head.ensures)))
    ∙ five_as_one text page_head statement image table end
