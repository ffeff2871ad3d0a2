use Rattle.std.proofs.Common.{◌<◌, ◌^◌, ◌-◌, ℤ, get_or, length, arith}
use Rattle.std.proofs.lemmas.Int.{ints}
use Rattle.std.proofs.lemmas.List.{length-map}
use Rattle.tq_base.specs.SortInputs.{state_of}
use Rattle.tq_agg.specs.declared.bounds.End.{End}
use Rattle.tq_agg.specs.declared.summands.Summand.TheVariants.{One}
use Rattle.tq_agg.specs.Bounds.{start_in}
use Rattle.tq_agg.specs.Totals.{end_key, key_weight}
use Rattle.tq_agg.proofs.Totals.{difference_fits, part_fits, sum_to, totals_more}
use Rattle.tq_agg.proofs.groups.SortedGroupTimeline.next_totals.Goals as goal

pub overflow_sub-begun : goal.overflow_sub-begun
overflow_sub-begun c =
    let lt = c.summands-test.true in
    let group = c.args.self.now.group.now in
    let sort_input = state_of group.sort_input.now in
    let summands = group.summands.now in
    let keys = group.keys.now in
    let ends = c.args.self.now.ends.now in
    let from = c.args.from in
    let to = c.args.to in
    let s = get_or summands c.summands.place One in
    let w = key_weight sort_input s in
    let u : End → ℤ = λ e. key_weight sort_input s (end_key e) in
    let small = c.requires.fits.small c.summands.place One lt in
    let ends_small = c.requires.fits.ends_small c.summands.place One lt in
    let short : length keys < 2 ^ 63 = omega (arith, c.requires.short, length-map keys (start_in group.window.now)) in
    let ends_short : length ends < 2 ^ 63 = omega (arith, c.requires.ends_short, length-map ends (λ (e : End). e.at)) in
    let part = part_fits w u keys ends small ends_small short ends_short from.begun (to.begun - from.begun) from.ended (to.ended - from.ended) in
    omega (arith, ints, part, c.added_keys-begun.ensures, c.added_ends-ended.ensures)

pub overflow_add-current : goal.overflow_add-current
overflow_add-current c =
    let lt = c.summands-test.true in
    let group = c.args.self.now.group.now in
    let sort_input = state_of group.sort_input.now in
    let summands = group.summands.now in
    let keys = group.keys.now in
    let ends = c.args.self.now.ends.now in
    let from = c.args.from in
    let to = c.args.to in
    let s = get_or summands c.summands.place One in
    let w = key_weight sort_input s in
    let u : End → ℤ = λ e. key_weight sort_input s (end_key e) in
    let small = c.requires.fits.small c.summands.place One lt in
    let ends_small = c.requires.fits.ends_small c.summands.place One lt in
    let short : length keys < 2 ^ 63 = omega (arith, c.requires.short, length-map keys (start_in group.window.now)) in
    let ends_short : length ends < 2 ^ 63 = omega (arith, c.requires.ends_short, length-map ends (λ (e : End). e.at)) in
    let part = part_fits w u keys ends small ends_small short ends_short from.begun (to.begun - from.begun) from.ended (to.ended - from.ended) in
    let fits = difference_fits w u keys ends small ends_small short ends_short to.begun to.ended in
    let sum = sum_to sort_input summands keys ends from.begun from.ended to.begun to.ended c.requires.begun c.requires.ended c.args.current.now c.requires.current c.summands.place lt One in
    omega (arith, ints, part, fits, sum, c.added_keys-begun.ensures, c.added_ends-ended.ensures)

pub summands-preserved : goal.summands-preserved
summands-preserved c =
    let lt = c.summands-test.true in
    let group = c.args.self.now.group.now in
    let sort_input = state_of group.sort_input.now in
    let summands = group.summands.now in
    let keys = group.keys.now in
    let ends = c.args.self.now.ends.now in
    let from = c.args.from in
    let to = c.args.to in
    let s = get_or summands c.summands.place One in
    let w = key_weight sort_input s in
    let u : End → ℤ = λ e. key_weight sort_input s (end_key e) in
    let small = c.requires.fits.small c.summands.place One lt in
    let ends_small = c.requires.fits.ends_small c.summands.place One lt in
    let short : length keys < 2 ^ 63 = omega (arith, c.requires.short, length-map keys (start_in group.window.now)) in
    let ends_short : length ends < 2 ^ 63 = omega (arith, c.requires.ends_short, length-map ends (λ (e : End). e.at)) in
    let part = part_fits w u keys ends small ends_small short ends_short from.begun (to.begun - from.begun) from.ended (to.ended - from.ended) in
    let fits = difference_fits w u keys ends small ends_small short ends_short to.begun to.ended in
    let sum = sum_to sort_input summands keys ends from.begun from.ended to.begun to.ended c.requires.begun c.requires.ended c.args.current.now c.requires.current c.summands.place lt One in
    totals_more sort_input summands keys ends from.begun from.ended to.begun to.ended c.requires.begun c.requires.ended c.args.current.now c.requires.current c.summands.place lt One
    c.summands.next.items c.push.new.self.items _ c.summands.invariant (omega (arith, ints, part, fits, sum, c.added_keys-begun.ensures, c.added_ends-ended.ensures)) c.in_ok-push.ensures.items
