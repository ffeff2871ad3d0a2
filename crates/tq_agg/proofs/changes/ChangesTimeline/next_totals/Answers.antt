use Rattle.std.proofs.Common.{◌≡◌, ◌+ℤ◌, ◌-ℤ◌, ◌-◌, pos, to_z, of_z, [], ◌∷◌, take, drop, get_or, ap, ◌∙◌, arith}
use Rattle.std.specs.Int.{w128}
use Rattle.std.proofs.lemmas.Int.{ints}
use Rattle.std.proofs.lemmas.Result.{on_ok_weaker}
use Rattle.tq_agg.specs.Changes.{weights}
use Rattle.tq_agg.proofs.ChangeTotals.{more_fits, sum_fits, sum_to}
use Rattle.tq_agg.proofs.changes.ChangesTimeline.next_totals.Goals as goal

pub overflow_sub-begun : goal.overflow_sub-begun
overflow_sub-begun c =
    let starts = c.args.self.now.starts.items in
    let ends = c.args.self.now.ends.items in
    let from = c.args.from in
    let to = c.args.to in
    let small = c.requires.fits.0 in
    let ends_small = c.requires.fits.1 in
    let begun : c.weight_in-begun.result ≡ weights (take (to.begun - from.begun) (drop from.begun starts)) =
    c.weight_in-begun.ensures ∙ ap (λ l. weights (take (to.begun - from.begun) (drop from.begun l))) c.deref.ensures.value in
    let ended : c.weight_in-ended.result ≡ weights (take (to.ended - from.ended) (drop from.ended ends)) =
    c.weight_in-ended.ensures ∙ ap (λ l. weights (take (to.ended - from.ended) (drop from.ended l))) c.deref-2.ensures.value in
    let more = more_fits starts ends from.begun from.ended to.begun to.ended c.requires.begun c.requires.ended small ends_small c.requires.short c.requires.ends_short in
    omega (arith, ints, more, begun, ended)

pub overflow_add-current : goal.overflow_add-current
overflow_add-current c =
    let starts = c.args.self.now.starts.items in
    let ends = c.args.self.now.ends.items in
    let from = c.args.from in
    let to = c.args.to in
    let small = c.requires.fits.0 in
    let ends_small = c.requires.fits.1 in
    let begun : c.weight_in-begun.result ≡ weights (take (to.begun - from.begun) (drop from.begun starts)) =
    c.weight_in-begun.ensures ∙ ap (λ l. weights (take (to.begun - from.begun) (drop from.begun l))) c.deref.ensures.value in
    let ended : c.weight_in-ended.result ≡ weights (take (to.ended - from.ended) (drop from.ended ends)) =
    c.weight_in-ended.ensures ∙ ap (λ l. weights (take (to.ended - from.ended) (drop from.ended l))) c.deref-2.ensures.value in
    let more = more_fits starts ends from.begun from.ended to.begun to.ended c.requires.begun c.requires.ended small ends_small c.requires.short c.requires.ends_short in
    let before : get_or c.args.current.now 1 (pos 0) ≡ weights (take from.begun starts) -ℤ weights (take from.ended ends) = ap (λ l. get_or l 1 (pos 0)) c.requires.current in
    let before_fits = sum_fits starts ends from.begun from.ended from.begun from.ended (omega arith) (omega arith) small ends_small c.requires.short c.requires.ends_short in
    let fits = sum_fits starts ends from.begun from.ended to.begun to.ended c.requires.begun c.requires.ended small ends_small c.requires.short c.requires.ends_short in
    let sum = sum_to starts ends from.begun from.ended to.begun to.ended c.requires.begun c.requires.ended c.args.current.now c.requires.current in
    omega (arith, ints, more, begun, ended, before, before_fits, fits, sum)

pub returns : goal.returns
returns c =
    let starts = c.args.self.now.starts.items in
    let ends = c.args.self.now.ends.items in
    let from = c.args.from in
    let to = c.args.to in
    let small = c.requires.fits.0 in
    let ends_small = c.requires.fits.1 in
    let begun : c.weight_in-begun.result ≡ weights (take (to.begun - from.begun) (drop from.begun starts)) =
    c.weight_in-begun.ensures ∙ ap (λ l. weights (take (to.begun - from.begun) (drop from.begun l))) c.deref.ensures.value in
    let ended : c.weight_in-ended.result ≡ weights (take (to.ended - from.ended) (drop from.ended ends)) =
    c.weight_in-ended.ensures ∙ ap (λ l. weights (take (to.ended - from.ended) (drop from.ended l))) c.deref-2.ensures.value in
    let more = more_fits starts ends from.begun from.ended to.begun to.ended c.requires.begun c.requires.ended small ends_small c.requires.short c.requires.ends_short in
    let before : get_or c.args.current.now 1 (pos 0) ≡ weights (take from.begun starts) -ℤ weights (take from.ended ends) = ap (λ l. get_or l 1 (pos 0)) c.requires.current in
    let before_fits = sum_fits starts ends from.begun from.ended from.begun from.ended (omega arith) (omega arith) small ends_small c.requires.short c.requires.ends_short in
    let fits = sum_fits starts ends from.begun from.ended to.begun to.ended c.requires.begun c.requires.ended small ends_small c.requires.short c.requires.ends_short in
    let sum = sum_to starts ends from.begun from.ended to.begun to.ended c.requires.begun c.requires.ended c.args.current.now c.requires.current in
    let count : to_z w128 (of_z w128 c.count_at.result) ≡ pos to.begun -ℤ pos to.ended = omega (arith, ints, c.count_at.ensures) in
    let total : to_z w128 (of_z w128 (to_z w128 (of_z w128 (get_or c.args.current.now 1 (pos 0))) +ℤ to_z w128 (of_z w128 (to_z w128 (of_z w128 c.weight_in-begun.result) -ℤ to_z w128 (of_z w128 c.weight_in-ended.result)))))
    ≡ weights (take to.begun starts) -ℤ weights (take to.ended ends) =
    omega (arith, ints, more, begun, ended, before, before_fits, fits, sum) in
    on_ok_weaker c.set_totals.result (λ is. is ∙ (λ i. count i ∷ total i ∷ [])) c.set_totals.ensures
