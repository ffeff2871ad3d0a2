use Rattle.std.proofs.Common.{◌++◌, ◌∷◌, [], IsSomeAnd, length, sym, ap, ◌∙◌, subst, append_assoc, length-append}
use Rattle.std.specs.Vec.Iter.{into_iter_items}
use Rattle.tq_run.specs.Results.{IsResultList}
use Rattle.tq_run.proofs.Places.{next_filled, results_next}
use Rattle.tq_run.proofs.ordering.take_out.Goals as goal

pub unreachable-requires : goal.unreachable-requires
unreachable-requires g c =
    let i = c.loop-place.invariant in let relates = g.W.Work.relates c.args.work.now in let done = c.loop-place.yielded in
    let is = ap (λ l. done ++ l) (sym c.in-Some.ensures.steps.0) ∙ i.1 in
    let next = next_filled relates (g.W.Work.count c.args.work.now) done c.in-Some.place (into_iter_items c.next.new.self) c.args.places.items c.requires is in
    subst (λ o. IsSomeAnd o (relates (length done))) c.in_default.is next

pub loop-place-preserved : goal.loop-place-preserved
loop-place-preserved g c =
    let i = c.loop-place.invariant in let relates = g.W.Work.relates c.args.work.now in let done = c.loop-place.yielded in let rest = into_iter_items c.next.new.self in
    let is = ap (λ l. done ++ l) (sym c.in-Some.ensures.steps.0) ∙ i.1 in
    let next = next_filled relates (g.W.Work.count c.args.work.now) done c.in-Some.place rest c.args.places.items c.requires is in
    let mine = subst (λ o. IsSomeAnd o (relates (length done))) c.in-Some-place.is next in
    let more = results_next relates (length done) c.in-Some-place.x c.loop-place.results.items c.push.new.self.items mine i.0 c.in_ok-push.ensures.items in
    (subst (λ n. IsResultList relates n c.push.new.self.items) (sym (length-append done (c.in-Some.place ∷ []))) more, append_assoc done (c.in-Some.place ∷ []) rest ∙ is)
