use Rattle.std.proofs.Common.{◌≡◌, ◌∙◌, ◌++◌, ◌∷◌, [], ap, ◌+◌, arith, subst, sym, take}
use Rattle.std.proofs.lemmas.List.{flat_map_more, take_all, take_more}
use Rattle.std.specs.List.{flat_map}
use Rattle.tq_table.specs.Writing.{HasWritten}
use Rattle.tq_totals.specs.Text.{total_line}
use Rattle.tq_totals.proofs.text.write_totals.Goals as goal

pub totals-preserved : goal.totals-preserved
totals-preserved c text is =
    let totals = c.args.totals.now in
    let at = c.totals.total-index in
    let item = c.total-item.result in
    let line = total_line c.args.by.now c.args.summed.now c.args.places.now in
    let written = c.in_ok-write_total.ensures (text ++ flat_map line (take at totals)) (c.totals.invariant text is) in
    let longer : (text ++ flat_map line (take at totals)) ++ line item ≡ text ++ flat_map line (take (at + 1) totals) =
    flat_map_more line text (take at totals) item
    ∙ ap (λ t. text ++ flat_map line (take at totals ++ t ∷ [])) c.total-item.is
    ∙ ap (λ l. text ++ flat_map line l) (sym (take_more totals at item c.totals-test.true)) in
    subst (HasWritten c.write_total.new.writer) longer written

pub returns : goal.returns
returns c text is =
    subst (λ l. HasWritten c.totals.writer (text ++ flat_map (total_line c.args.by.now c.args.summed.now c.args.places.now) l)) (take_all c.totals.total-index c.args.totals.now (omega (arith, c.totals-test.false))) (c.totals.invariant text is)
