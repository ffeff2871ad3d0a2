use Rattle.std.proofs.Common.{◌≡◌, ◌∙◌, List, ℕ, ◌+◌, ◌*◌, ◌++◌, ap, length, max}
use Rattle.std.specs.Prelude.{codes}
use Rattle.tq_draw.specs.Marks.{labels_from, marks_of, marks_text, ruler_from, ruler_text}
use Rattle.tq_draw.specs.Pictures.{name_label}
use Rattle.tq_draw.specs.declared.marks.Tick.{Tick}
use Rattle.tq_draw.specs.Svg.{bar_elements, image_over, label_elements, opening, text_element, values_elements, x_of}
use Rattle.tq_draw.proofs.Steps.{eight_as_one}
use Rattle.tq_draw.proofs.svg.push_image.Goals as goal

pub returns : goal.returns
unfolding image_over marks_text ruler_text
returns g c =
    let form = c.args.form in
    let rows = c.args.rows.now in
    let columns = c.args.columns.now in
    let lefts = c.args.lefts.now in
    let scale = c.args.scale.now in
    let left = c.args.left in
    let text = c.args.text.now.items in
    let wide = 9 * (left + max scale.cells 24 + 3) in
    let tall = 20 * (length rows + 2) + 10 in
    let marks = text_element (x_of left) 20 (labels_from form scale 0 (marks_of form scale)) in
    let names = label_elements lefts 40 (name_label columns) in
    let ruler = text_element (x_of left) 40 (ruler_from scale.cells 0 (marks_of form scale)) in
    let values = values_elements lefts rows in
    let group = codes "<g fill=\"none\" stroke=\"#36c\" stroke-width=\"12\">\n" in
    let bars = bar_elements form scale (length columns) left rows in
    let end = codes "</g>\n</svg>\n" in
    let one = c.in_ok-push_opening.ensures
    ∙ ap (λ (n : ℕ). text ++ opening (9 * (left + n + 3)) (20 * (c.len.result + 2) + 10)) c.max-cells.ensures
    ∙ ap (λ (n : ℕ). text ++ opening wide (20 * (n + 2) + 10)) c.len.ensures in
    let is : c.deref.result.now ≡ marks_of form scale = c.deref.ensures.value ∙ c.in_ok-marks.ensures.value in
    let is_too : c.deref-2.result.now ≡ marks_of form scale = c.deref-2.ensures.value ∙ c.in_ok-marks.ensures.value in
    let two = c.in_ok-push_marks_text.ensures
    ∙ ap (λ (l : List ℕ). l ++ text_element (x_of left) 20 (labels_from form scale 0 c.deref.result.now)) one
    ∙ ap (λ (l : List Tick). text ++ opening wide tall ++ text_element (x_of left) 20 (labels_from form scale 0 l)) is in
    let three = c.in_ok-push_names.ensures ∙ ap (λ (l : List ℕ). l ++ names) two in
    let four = c.in_ok-push_ruler_text.ensures
    ∙ ap (λ (l : List ℕ). l ++ text_element (x_of left) 40 (ruler_from scale.cells 0 c.deref-2.result.now)) three
    ∙ ap (λ (l : List Tick). text ++ opening wide tall ++ marks ++ names ++ text_element (x_of left) 40 (ruler_from scale.cells 0 l)) is_too in
    let five = c.in_ok-push_lines.ensures ∙ ap (λ (l : List ℕ). l ++ values) four in
    let six = c.in_ok-extend_from_slice.ensures.items ∙ ap (λ (l : List ℕ). l ++ group) five in
    let seven = c.in_ok-push_lines-2.ensures ∙ ap (λ (l : List ℕ). l ++ bars) six in
    c.in_ok-extend_from_slice-2.ensures.items ∙ ap (λ (l : List ℕ). l ++ end) seven
    ∙ eight_as_one text (opening wide tall) marks names ruler values group bars end
