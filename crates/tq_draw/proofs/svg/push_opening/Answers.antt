use Rattle.std.proofs.Common.{◌∙◌, List, ℕ, ◌++◌, ap}
use Rattle.std.specs.Prelude.{codes, decimal}
use Rattle.tq_draw.specs.Svg.{opening}
use Rattle.tq_draw.proofs.Steps.{five_as_one}
use Rattle.tq_draw.proofs.svg.push_opening.Goals as goal

pub returns : goal.returns
unfolding opening
returns c =
    let text = c.args.text.now.items in
    let first = codes "<svg xmlns=\"http://www.w3.org/2000/svg\" width=\"" in
    let second = codes "\" height=\"" in
    let third = codes "\" font-family=\"monospace\" font-size=\"15\" xml:space=\"preserve\">\n<rect width=\"100%\" height=\"100%\" fill=\"#fff\"/>\n" in
    c.in_ok-extend_from_slice-3.ensures.items
    ∙ ap (λ (l : List ℕ). l ++ third)
    (c.in_ok-push_number-2.ensures
    ∙ ap (λ (l : List ℕ). l ++ decimal c.args.height)
    (c.in_ok-extend_from_slice-2.ensures.items
    ∙ ap (λ (l : List ℕ). l ++ second)
    (c.in_ok-push_number.ensures ∙ ap (λ (l : List ℕ). l ++ decimal c.args.width) c.in_ok-extend_from_slice.ensures.items)))
    ∙ five_as_one text first (decimal c.args.width) second (decimal c.args.height) third
