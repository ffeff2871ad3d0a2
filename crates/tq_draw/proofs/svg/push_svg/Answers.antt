use Rattle.std.proofs.Common.{◌≡◌, ◌∙◌, List, ℕ, ap, length}
use Rattle.std.proofs.lemmas.List.FromFn.{length-map-range_with_len}
use Rattle.tq_base.specs.declared.fragment.Fragment.{Fragment}
use Rattle.tq_draw.specs.Pictures.{width_of, widths_of}
use Rattle.tq_draw.specs.Svg.{left_of, lefts_of}
use Rattle.tq_draw.proofs.svg.push_svg.Goals as goal

lefts_len : (columns : List (List ℕ)) (rows : List Fragment) → length (lefts_of (widths_of columns rows)) ≡ length columns
lefts_len columns rows =
    let widths = widths_of columns rows in
    length-map-range_with_len (left_of widths) 0 (length widths) ∙ length-map-range_with_len (width_of columns rows) 0 (length columns)

pub push_empty_image-requires : goal.push_empty_image-requires
push_empty_image-requires g c =
    ap (λ (l : List ℕ). length l) (c.deref-then-len-eq0.ensures.value ∙ c.in_ok-lefts.ensures ∙ ap lefts_of (c.deref.ensures.value ∙ c.in_ok-widths.ensures))
    ∙ lefts_len c.args.columns.now c.args.rows.now

pub push_image-requires-clause-lefts : goal.push_image-requires-clause-lefts
push_image-requires-clause-lefts g c _ _ =
    ap (λ (l : List ℕ). length l) (c.deref-4.ensures.value ∙ c.in_ok-lefts.ensures ∙ ap lefts_of (c.deref.ensures.value ∙ c.in_ok-widths.ensures))
    ∙ lefts_len c.args.columns.now c.args.rows.now
