use Rattle.std.proofs.Common.{◌≡◌, ◌∙◌, ℕ, ◌<◌, ap, ap₂, rules, sym, max, get_or, length, arith}
use Rattle.std.proofs.lemmas.List.Sums.{fold_more}
use Rattle.tq_base.specs.Keys.{no_row}
use Rattle.tq_base.specs.declared.fragment.Fragment.{Fragment}
use Rattle.tq_base.specs.declared.period.Period.{Period}
use Rattle.tq_draw.specs.Labels.{columns_in}
use Rattle.tq_draw.proofs.NumberLemmas.{max_is}
use Rattle.tq_report.specs.Texts.{instant_in}
use Rattle.tq_report.specs.declared.format.Format.TheVariants.{Aligned}
use Rattle.tq_report.proofs.layout.start_width.Goals as goal

pub rows-preserved : goal.rows-preserved
rows-preserved c =
    let rows = c.args.table.now.rows in
    let at = c.rows.row in
    let within : at < length rows = omega (arith, c.rows-test.true, c.len-row-end.ensures) in
    let filled : c.push_instant.new.text.items ≡ instant_in Aligned c.args.form c.period-start.result.start = search rules in
    let wide : c.columns_in_bytes.result ≡ columns_in (instant_in Aligned c.args.form (get_or rows at no_row).period.start) =
    c.columns_in_bytes.ensures ∙ ap columns_in (c.deref.ensures.value ∙ filled)
    ∙ ap (λ (p : Period). columns_in (instant_in Aligned c.args.form p.start)) (c.period-start.ensures no_row) in
    let widest : c.max-widest.result ≡ max c.rows.widest c.columns_in_bytes.result = c.max-widest.ensures ∙ max_is c.rows.widest c.columns_in_bytes.result in
    widest ∙ ap₂ max c.rows.invariant wide
    ∙ sym (fold_more (λ (widest : ℕ) (row : Fragment). max widest (columns_in (instant_in Aligned c.args.form row.period.start))) 4 rows at no_row within)
