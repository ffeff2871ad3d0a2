use Rattle.std.proofs.Common.{◌∙◌, ℕ, ◌<◌, ap, arith, length, sym, take}
use Rattle.std.proofs.lemmas.List.Sums.{fold_more}
use Rattle.tq_base.specs.Keys.{no_row}
use Rattle.tq_base.specs.declared.fragment.Fragment.{Fragment}
use Rattle.tq_base.specs.declared.period.Period.{Period}
use Rattle.tq_base.specs.declared.period.TheConstants.{FOREVER}
use Rattle.tq_draw.specs.Scales.{earlier, least_start}
use Rattle.tq_draw.proofs.scale.least_start.Goals as goal

pub rows-preserved : goal.rows-preserved
rows-preserved c =
    let form = c.args.form in
    let rows = c.args.rows.now in
    let at = c.rows.row in
    let within : at < length rows = omega (arith, c.rows-test.true, c.len-row-end.ensures) in
    record {
      value = c.earlier-least.ensures.value
          ∙ ap (λ (n : ℕ). earlier form n c.period.result) c.rows.invariant.value
          ∙ ap (λ (p : Period). earlier form (least_start form (take at rows)) p) (c.period.ensures no_row)
          ∙ sym (fold_more (λ (least : ℕ) (row : Fragment). earlier form least row.period) FOREVER rows at no_row within);
      within = omega (arith, c.earlier-least.ensures.within, c.rows.invariant.within);
    }
