use Rattle.std.proofs.Common.{◌∙◌, List, ℕ, [], ◌∷◌, ◌++◌, ap, map}
use Rattle.std.specs.List.{range_with_len}
use Rattle.tq_draw.specs.Bars.{bar_byte}
use Rattle.tq_draw.proofs.Steps.{map_step}
use Rattle.tq_draw.proofs.bars.push_bar.Goals as goal

pub cells-preserved : goal.cells-preserved
cells-preserved c =
    let byte = bar_byte c.args.scale.now c.args.period.now in
    let text = c.args.text.now.items in
    c.in_ok-push.ensures.items
    ∙ ap (λ (l : List ℕ). l ++ c.bar_byte.result ∷ []) c.cells.invariant
    ∙ ap (λ (b : ℕ). (text ++ map byte (range_with_len 0 c.cells.cell)) ++ b ∷ []) c.bar_byte.ensures
    ∙ map_step byte text c.cells.cell
