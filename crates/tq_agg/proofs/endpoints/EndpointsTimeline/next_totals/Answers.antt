use Rattle.std.proofs.Common.{◌≡◌, ◌-ℤ◌, pos, to_z, of_z, [], ◌∷◌, ap, ◌∙◌, arith}
use Rattle.std.specs.Int.{w128}
use Rattle.std.proofs.lemmas.Int.{ints}
use Rattle.std.proofs.lemmas.Result.{on_ok_weaker}
use Rattle.tq_agg.proofs.endpoints.EndpointsTimeline.next_totals.Goals as goal

pub returns : goal.returns
returns c =
    let count : to_z w128 (of_z w128 c.count_at.result) ≡ pos c.args.to.begun -ℤ pos c.args.to.ended = omega (arith, ints, c.count_at.ensures) in
    on_ok_weaker c.set_totals.result (λ is. is ∙ ap (λ n. n ∷ []) count) c.set_totals.ensures
