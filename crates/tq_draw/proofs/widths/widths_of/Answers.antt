use Rattle.std.proofs.Common.{◌≡◌, ◌∙◌, List, ℕ, [], ◌∷◌, ◌++◌, ap, sym, map, arith, get_or, rules}
use Rattle.std.proofs.lemmas.Grind.{common_steps}
use Rattle.std.proofs.lemmas.List.FromFn.{map-range_with_len_more}
use Rattle.std.specs.List.{range_with_len}
use Rattle.tq_draw.specs.Labels.{columns_in, label_of}
use Rattle.tq_draw.specs.Pictures.{width_of}
use Rattle.tq_draw.specs.Pieces.{widest_of}
use Rattle.tq_draw.proofs.widths.widths_of.Goals as goal

pub columns-preserved : goal.columns-preserved
columns-preserved g c =
    let rows = c.args.rows.now in
    let width = width_of c.args.columns.now rows in
    let at = c.columns.column in
    let named : c.index-columns-column.result ≡ get_or c.args.columns.now at [] = first_of (search rules, grind (arith, common_steps)) in
    c.in_ok-push.ensures.items
    ∙ ap (λ (l : List ℕ). l ++ c.width_of.result ∷ []) c.columns.invariant
    ∙ ap (λ (n : ℕ). map width (range_with_len 0 at) ++ n ∷ []) c.width_of.ensures
    ∙ ap (λ (n : ℕ). map width (range_with_len 0 at) ++ widest_of at rows n ∷ []) c.in_ok-name_width.ensures
    ∙ ap (λ (name : List ℕ). map width (range_with_len 0 at) ++ widest_of at rows (columns_in (label_of name)) ∷ []) named
    ∙ sym (map-range_with_len_more width 0 at at (omega arith))
