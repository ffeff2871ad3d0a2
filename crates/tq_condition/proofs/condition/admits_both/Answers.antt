use Rattle.std.proofs.Common.{◌∙◌, ◌++◌, true, ap, sym, option_copied}
use Rattle.tq_condition.specs.Ordinary.{admits}
use Rattle.tq_condition.proofs.Knowing.{pushable}
use Rattle.tq_condition.proofs.condition.admits_both.Goals as goal

pub returns-in-Some : goal.returns-in-Some
returns-in-Some c =
    c.may_be.ensures ∙ pushable (c.args.left.now ++ c.args.right.now) c.in-Some.test.now true
    ∙ sym (ap (λ o. admits (option_copied o) (c.args.left.now ++ c.args.right.now)) c.in-Some.is)
