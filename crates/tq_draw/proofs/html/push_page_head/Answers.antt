use Rattle.std.proofs.Common.{◌∙◌, List, ℕ, ◌++◌, ap}
use Rattle.std.specs.Prelude.{codes}
use Rattle.tq_draw.specs.Html.{page_head}
use Rattle.tq_draw.proofs.Steps.{four_as_one}
use Rattle.tq_draw.proofs.html.push_page_head.Goals as goal

pub returns : goal.returns
unfolding page_head
returns c =
    let first = codes "<!DOCTYPE html>\n<html>\n<head>\n<meta charset=\"utf-8\">\n<title>tq draw</title>\n<style>\n" in
    let second = codes "body { font-family: sans-serif; }\ntable { border-collapse: collapse; }\n" in
    let third = codes "th, td { border: 1px solid #ccc; padding: 2px 8px; text-align: left; white-space: pre; }\n" in
    let fourth = codes "</style>\n</head>\n<body>\n" in
    c.in_ok-extend_from_slice-4.ensures.items
    ∙ ap (λ (l : List ℕ). l ++ fourth)
    (c.in_ok-extend_from_slice-3.ensures.items
    ∙ ap (λ (l : List ℕ). l ++ third)
    (c.in_ok-extend_from_slice-2.ensures.items ∙ ap (λ (l : List ℕ). l ++ second) c.in_ok-extend_from_slice.ensures.items))
    ∙ four_as_one c.args.text.now.items first second third fourth
