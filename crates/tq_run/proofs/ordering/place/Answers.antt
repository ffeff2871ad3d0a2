use Rattle.std.proofs.Common.{◌≡◌, ◌++◌, ◌∷◌, [], length, sym, ap, ◌∙◌, subst, append_assoc, rules, arith}
use Rattle.std.specs.Vec.Iter.{into_iter_items}
use Rattle.tq_run.specs.Sharing.{numbers}
use Rattle.tq_run.proofs.Places.{IsFilled, all_come, below_count, filled_none, filled_next, filled_all}
use Rattle.tq_run.proofs.ordering.place.Goals as goal

pub loop-i-init : goal.loop-i-init
loop-i-init g c =
    let is = c.into_iter-i-iterator.ensures.into_iter_gives.0 in
    (filled_none (g.W.Work.relates c.args.work.now) (g.W.Work.count c.args.work.now) c.args.places.now.items (search rules), is)

pub index_mut-requires : goal.index_mut-requires
index_mut-requires g c =
    let i = c.loop-i.invariant in
    let is = ap (λ l. c.loop-i.yielded ++ l) (sym c.in-Some.ensures.steps.0) ∙ i.1 in
    let below = below_count (g.W.Work.count c.args.work.now) c.in-Some.i c.in-Some.x c.loop-i.yielded (into_iter_items c.next.new.self) c.args.done.items c.requires.once is in
    let many = i.0.0 in omega arith

pub loop-i-preserved-in-Some : goal.loop-i-preserved-in-Some
loop-i-preserved-in-Some g c =
    let i = c.loop-i.invariant in let rest = into_iter_items c.next.new.self in
    let is = ap (λ l. c.loop-i.yielded ++ l) (sym c.in-Some.ensures.steps.0) ∙ i.1 in (
      filled_next (g.W.Work.relates c.args.work.now) (g.W.Work.count c.args.work.now) c.in-Some.i c.in-Some.x c.loop-i.yielded rest c.args.done.items c.loop-i.places.items c.requires.once c.requires.relates is i.0,
      append_assoc c.loop-i.yielded ((c.in-Some.i, c.in-Some.x) ∷ []) rest ∙ is,
    )

pub loop-i-preserved : goal.loop-i-preserved
loop-i-preserved g c =
    let i = c.loop-i.invariant in let rest = into_iter_items c.next.new.self in
    let is = ap (λ l. c.loop-i.yielded ++ l) (sym c.in-Some.ensures.steps.0) ∙ i.1 in (
      filled_next (g.W.Work.relates c.args.work.now) (g.W.Work.count c.args.work.now) c.in-Some.i c.in-Some.x c.loop-i.yielded rest c.args.done.items c.loop-i.places.items c.requires.once c.requires.relates is i.0,
      append_assoc c.loop-i.yielded ((c.in-Some.i, c.in-Some.x) ∷ []) rest ∙ is,
    )

pub returns : goal.returns
returns g c =
    let i = c.loop-i.invariant in let count = g.W.Work.count c.args.work.now in let relates = g.W.Work.relates c.args.work.now in
    let none : length (into_iter_items c.loop-i.i-iterator) ≡ 0 = sym c.loop-i.i-iterator.rest.ok.0 ∙ c.in-None.ensures.steps.0 in
    let all = all_come c.loop-i.yielded (into_iter_items c.loop-i.i-iterator) c.args.done.items i.1 none in
    filled_all relates count (numbers c.args.done.items) c.loop-i.places.items c.requires.once (subst (λ l. IsFilled relates count (numbers l) c.loop-i.places.items) all i.0)
