use Rattle.std.proofs.Common.{◌≡◌, ◌∙◌, sym, subst, take}
use Rattle.tq_totals.specs.Calendar.{label}
use Rattle.tq_totals.proofs.LabelLemmas.{month_label, quarter_label, year_label}
use Rattle.tq_totals.proofs.labels.put_label.Goals as goal

pub returns-in-Month-clause-text : goal.returns-in-Month-clause-text
returns-in-Month-clause-text c =
    subst (λ u. take 7 c.put_instant.new.into ≡ label u c.args.day) (sym c.in-Month.is)
    (month_label c.put_instant.new.into c.put_instant.result c.args.day c.requires c.put_instant.ensures.text)

pub returns-in-Quarter-clause-text : goal.returns-in-Quarter-clause-text
returns-in-Quarter-clause-text c =
    subst (λ u. take 7 c.put_quarter.new.date ≡ label u c.args.day) (sym c.in-Quarter.is)
    (c.put_quarter.ensures ∙ quarter_label c.put_instant.new.into c.put_instant.result c.args.day c.requires c.put_instant.ensures.text)

pub returns-in-Year-clause-text : goal.returns-in-Year-clause-text
returns-in-Year-clause-text c =
    subst (λ u. take 4 c.put_instant.new.into ≡ label u c.args.day) (sym c.in-Year.is)
    (year_label c.put_instant.new.into c.put_instant.result c.args.day c.requires c.put_instant.ensures.text)
