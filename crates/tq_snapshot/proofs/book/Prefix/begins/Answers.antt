use Rattle.std.proofs.Common.{List, subst, ap}
use mathlib.Core.List.{IsPrefix}
use Rattle.tq_event.specs.declared.event.Event.{Event}
use Rattle.tq_snapshot.proofs.PrefixLemmas.{compared}
use Rattle.tq_snapshot.proofs.book.Prefix.begins.Goals as goal

pub returns : goal.returns
returns c =
    let all = c.learn.new.self.log in
    let this : IsPrefix c.self.inside.seen.log all = subst (λ (l : List Event). IsPrefix l all) (ap (λ s. s.log) c.again-both.ensures) c.learn.ensures.2 in
    rw (← c.self.view_is, ← c.other.view_is) (compared c.self.inside.seen.log c.other.inside.seen.log all c.self.inside.len c.other.inside.len c.self.invariant c.other.invariant this c.learn.ensures.3)
