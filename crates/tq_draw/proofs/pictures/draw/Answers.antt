use Rattle.std.proofs.Common.{◌≡◌, ◌∙◌, List, ℕ, ap, length}
use Rattle.std.proofs.lemmas.List.FromFn.{length-map-range_with_len}
use Rattle.tq_draw.specs.Pictures.{width_of, widths_of}
use Rattle.tq_base.specs.declared.fragment.Fragment.{Fragment}
use Rattle.tq_draw.proofs.pictures.draw.Goals as goal

widths_len : (columns : List (List ℕ)) (rows : List Fragment) → length (widths_of columns rows) ≡ length columns
widths_len columns rows = length-map-range_with_len (width_of columns rows) 0 (length columns)

pub push_names-requires : goal.push_names-requires
push_names-requires g c =
    ap (λ (l : List ℕ). length l) (c.deref.ensures.value ∙ c.in_ok-widths.ensures)
    ∙ widths_len c.get-columns.result.now c.in_ok-rows.rows

pub push_head-requires-clause-widths : goal.push_head-requires-clause-widths
push_head-requires-clause-widths g c =
    ap (λ (l : List ℕ). length l) (c.deref-3.ensures.value ∙ c.in_ok-widths.ensures)
    ∙ widths_len c.get-columns.result.now c.in_ok-rows.rows
