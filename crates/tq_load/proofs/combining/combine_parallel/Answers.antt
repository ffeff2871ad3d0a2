use Rattle.std.proofs.Common.{Option, subst, sym}
use Rattle.std.specs.Prelude.{All, IfSome}
use Rattle.std.proofs.lemmas.List.Elements.{All-drop, All-take}
use Rattle.tq_load.specs.declared.part.PartRows.{PartRows}
use Rattle.tq_load.specs.Parts.{IsRead}
use Rattle.tq_load.proofs.combining.combine_parallel.Goals as goal

pub returns : goal.returns
returns g c form files wanted schemas are =
    let holds = λ (one : Option PartRows). IfSome one (IsRead form files wanted schemas) in
    let place = c.latter_half-place.result in
    let parts = c.args.parts.items in
    let front_are : All holds c.split_off.new.self.items = subst (All holds) (sym c.in_ok-back.ensures.items) (All-take holds place parts are) in
    let back_are : All holds c.in_ok-back.back.items = subst (All holds) (sym c.in_ok-back.ensures.tail) (All-drop holds place parts are) in
    let front : IfSome c.in_ok-front.field-0 (λ all. All (IsRead form files wanted schemas) all.items) = rw c.in_ok-front.was at (c.join-back.ensures.second form files wanted schemas front_are) in
    let back : IfSome c.in_ok-back-2.field-0 (λ all. All (IsRead form files wanted schemas) all.items) = rw c.in_ok-back-2.was at (c.join-back.ensures.first form files wanted schemas back_are) in
    c.chained.ensures form files wanted schemas front back
