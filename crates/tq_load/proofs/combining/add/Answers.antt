use Rattle.std.proofs.Common.{Some, subst, sym}
use Rattle.std.specs.Prelude.{All}
use Rattle.std.proofs.lemmas.List.Elements.{All-pop, All-push}
use Rattle.tq_load.specs.Parts.{IsRead}
use Rattle.tq_load.proofs.combining.add.Goals as goal

pub returns-in_default : goal.returns-in_default
returns-in_default g c form files wanted schemas all next =
    let front = (All-pop (IsRead form files wanted schemas) c.args.all.now.items c.pop.new.self.items c.pop.result c.pop.ensures.items all).0 in
    subst (All (IsRead form files wanted schemas)) (sym c.in_ok-push.ensures.items) (All-push (IsRead form files wanted schemas) c.pop.new.self.items c.args.next front next)

pub returns-in_ok-push-2 : goal.returns-in_ok-push-2
returns-in_ok-push-2 g c form files wanted schemas all next =
    let split = All-pop (IsRead form files wanted schemas) c.args.all.now.items c.pop.new.self.items (Some c.in-Some.last) c.in-Some.ensures.items all in
    subst (All (IsRead form files wanted schemas)) (sym c.in_ok-push-2.ensures.items) (All-push (IsRead form files wanted schemas) c.pop.new.self.items c.in_ok-both.field-0 split.0 (c.in_ok-both.ensures form files wanted schemas split.1 next))

pub returns-in_ok-push-4 : goal.returns-in_ok-push-4
returns-in_ok-push-4 g c form files wanted schemas all next =
    let split = All-pop (IsRead form files wanted schemas) c.args.all.now.items c.pop.new.self.items (Some c.in-Some.last) c.in-Some.ensures.items all in
    let back = subst (All (IsRead form files wanted schemas)) (sym c.in_ok-push-3.ensures.items) (All-push (IsRead form files wanted schemas) c.pop.new.self.items c.in-Some.last split.0 split.1) in
    subst (All (IsRead form files wanted schemas)) (sym c.in_ok-push-4.ensures.items) (All-push (IsRead form files wanted schemas) c.push-else-leads_to.new.self.items c.args.next back next)
