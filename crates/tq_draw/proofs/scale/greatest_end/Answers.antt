use Rattle.std.proofs.Common.{◌∙◌, ℕ, ◌<◌, ap, arith, length, sym, take}
use Rattle.std.proofs.lemmas.List.Sums.{fold_more}
use Rattle.tq_base.specs.Keys.{no_row}
use Rattle.tq_base.specs.declared.fragment.Fragment.{Fragment}
use Rattle.tq_base.specs.declared.period.Period.{Period}
use Rattle.tq_draw.specs.Scales.{greatest_end, later}
use Rattle.tq_draw.proofs.scale.greatest_end.Goals as goal

pub rows-preserved : goal.rows-preserved
rows-preserved c =
    let form = c.args.form in
    let rows = c.args.rows.now in
    let at = c.rows.row in
    let within : at < length rows = omega (arith, c.rows-test.true, c.len-row-end.ensures) in
    record {
      value = c.later-greatest.ensures.value
          ∙ ap (λ (n : ℕ). later form n c.period.result) c.rows.invariant.value
          ∙ ap (λ (p : Period). later form (greatest_end form (take at rows)) p) (c.period.ensures no_row)
          ∙ sym (fold_more (λ (greatest : ℕ) (row : Fragment). later form greatest row.period) 0 rows at no_row within);
      within = c.later-greatest.ensures.within;
    }
