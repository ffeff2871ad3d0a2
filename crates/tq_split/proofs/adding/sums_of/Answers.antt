use Rattle.std.proofs.Common.{◌≡◌, ◌-◌, ◌∙◌, ap, arith, length, map}
use Rattle.std.specs.List.{range_with_len}
use Rattle.tq_base.specs.Fragments.{at, occurrences}
use Rattle.tq_base.specs.Relations.{projected}
use Rattle.tq_base.specs.RowLists.{RowList}
use Rattle.tq_agg.specs.Grouping.{grouped_rows}
use Rattle.tq_exec.proofs.ItemLemmas.{shown_inside, shown_outside}
use Rattle.tq_split.proofs.AddingLemmas.{shown_long, sums_are}
use Rattle.tq_split.proofs.adding.sums_of.Goals as goal

pub returns-clause-width : goal.returns-clause-width
returns-clause-width c = c.in_ok-project.ensures.width ∙ ap length (c.deref-4.ensures.value ∙ c.in_ok-columns.ensures) ∙ shown_long c.args.groups c.args.width c.requires

pub returns-clause-inside : goal.returns-clause-inside
returns-clause-inside c t v inside =
    let keys = c.deref-2.result.now in
    let sums = c.deref-3.result.now in
    let columns = c.deref-4.result.now in
    let rows = c.args.rows.now.items in
    let first : c.args.groups - 0 ≡ c.args.groups = omega arith in
    shown_inside columns c.args.span.now (λ u. grouped_rows keys sums (at rows u)) c.in_ok-counted.counted.items c.in_ok-project.field-0.items c.in_ok-counted.ensures.inside (c.in_ok-project.ensures.rows ∙ ap (λ (r : RowList). map (projected columns) r.items) c.in_ok-owned.ensures) t v inside
    ∙ ap (λ l. occurrences l v)
    (sums_are c.args.groups c.args.width keys sums columns c.requires (c.deref-2.ensures.value ∙ c.in_ok-keys.ensures ∙ ap (range_with_len 0) first) (c.deref-3.ensures.value ∙ c.in_ok-sums.ensures) (c.deref-4.ensures.value ∙ c.in_ok-columns.ensures)
    (at rows t))

pub returns-clause-outside : goal.returns-clause-outside
returns-clause-outside c =
    shown_outside c.deref-4.result.now c.args.span.now c.in_ok-counted.counted.items c.in_ok-project.field-0.items c.in_ok-counted.ensures.outside
    (c.in_ok-project.ensures.rows ∙ ap (λ (r : RowList). map (projected c.deref-4.result.now) r.items) c.in_ok-owned.ensures)
