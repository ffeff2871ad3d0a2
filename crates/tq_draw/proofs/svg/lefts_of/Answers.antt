use Rattle.std.proofs.Common.{◌≡◌, ◌∙◌, List, ℕ, [], ◌∷◌, ◌++◌, ap, sym, map, arith, length}
use Rattle.std.proofs.lemmas.List.FromFn.{map-range_with_len_more}
use Rattle.std.specs.List.{range_with_len}
use Rattle.tq_draw.specs.Labels.{column_at}
use Rattle.tq_draw.specs.Svg.{left_of}
use Rattle.tq_draw.proofs.Steps.{flat_map_step}
use Rattle.tq_draw.proofs.svg.lefts_of.Goals as goal

pub columns-preserved : goal.columns-preserved
columns-preserved c =
    let widths = c.args.widths.now in
    let at = c.columns.column in
    let column = column_at widths (λ _. []) in
    let long : c.len.result ≡ length c.columns.blanks.items = omega (arith, c.len.ensures, c.columns.blanks.ok.0) in
    let left : c.len.result ≡ left_of widths at = long ∙ ap (λ (l : List ℕ). length l) c.columns.invariant.blanks in
    record {
      blanks = c.in_ok-push_column.ensures ∙ ap (λ (l : List ℕ). l ++ column at) c.columns.invariant.blanks
          ∙ flat_map_step column [] at;
      lefts = c.in_ok-push.ensures.items ∙ ap (λ (l : List ℕ). l ++ c.len.result ∷ []) c.columns.invariant.lefts
          ∙ ap (λ (n : ℕ). map (left_of widths) (range_with_len 0 at) ++ n ∷ []) left
          ∙ sym (map-range_with_len_more (left_of widths) 0 at at (omega arith));
    }
