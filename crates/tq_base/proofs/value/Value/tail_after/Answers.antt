-- The bytes next to the box of a text are those after its first 14.
use Rattle.std.proofs.Common.{ap, subst, sym}
use Rattle.tq_base.specs.Contents.{Text}
use Rattle.tq_base.specs.Values.{IsNormal}
use Rattle.tq_base.proofs.TieBreakLemmas.{after_tail}
use Rattle.tq_base.proofs.value.Value.tail_after.Goals as goal

pub returns-in-Medium : goal.returns-in-Medium
returns-in-Medium c =
    let tail_is = (subst IsNormal c.in-Medium.is c.self.invariant).1 in
    rw (← c.self.view_is, c.in-Medium.is, c.bytes_after.ensures, c.get.ensures, tail_is)
    (ap Text (sym (after_tail c.args.offset c.in-Medium.field-1.value c.if-offset-ge-SHORT.true)))
