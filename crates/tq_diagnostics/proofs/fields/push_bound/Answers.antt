-- An end that is not empty is reported as an instant.
use Rattle.std.proofs.Common.{◌≡◌, ◌++◌, if◌then◌else◌, OnOk, [], codes, length, subst, sym}
use Rattle.std.proofs.lemmas.Bool.{ne_eqb}
use Rattle.tq_diagnostics.specs.Fields as spec
use Rattle.tq_diagnostics.proofs.fields.push_bound.Goals as goal

pub returns : goal.returns
returns c =
    subst
    (λ empty. OnOk c.push_instant.result (c.push_instant.new.text.items ≡ c.args.text.now.items
    ++ (if empty then spec.reported (codes "to") c.args.to.now [] (codes "write forever for an open end")
    else spec.instant_report c.args.form (codes "to") c.args.to.now (codes ", or forever"))))
    (sym (ne_eqb (length c.args.to.now) 0 c.if-to-eq0.false))
    c.push_instant.ensures
