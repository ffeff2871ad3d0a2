use Rattle.std.proofs.Common.{◌≡◌, ◌++◌, ◌∙◌, ap, arith, length, refl, drop, sym, take}
use Rattle.std.proofs.lemmas.List.{take_all}
use Rattle.tq_event.specs.Loading.{begins_with_bom}
use Rattle.tq_load.specs.Feeds.{ends_in_feed}
use Rattle.tq_load.proofs.PieceLemmas.{behind, cut_at, feed_place, feed_some, place_within}
use Rattle.tq_load.proofs.cut.next_cut.Goals as goal

pub overflow_add-result : goal.overflow_add-result
overflow_add-result c =
    let (more, split) = c.piece_from-here.ensures in
    omega (arith, c.len-all.type_inv, c.len-all.ensures, place_within c.args.bytes.now c.piece_from-here.result.now more c.args.start c.in-Some.place split c.in-Some.ensures.within c.requires)

pub returns-in-Some-clause-after : goal.returns-in-Some-clause-after
returns-in-Some-clause-after c = omega (arith, feed_place c.in-Some.place c.piece_from-here.result.now c.in-Some.ensures.feed)

pub returns-in-Some-clause-within : goal.returns-in-Some-clause-within
returns-in-Some-clause-within c =
    let (more, split) = c.piece_from-here.ensures in
    place_within c.args.bytes.now c.piece_from-here.result.now more c.args.start c.in-Some.place split c.in-Some.ensures.within c.requires

pub returns-in-Some-clause-cut : goal.returns-in-Some-clause-cut
returns-in-Some-clause-cut c =
    let (more, split) = c.piece_from-here.ensures in
    cut_at c.args.bytes.now c.piece_from-here.result.now more c.args.start c.in-Some.place split c.in-Some.ensures.within c.in-Some.ensures.feed (c.in-Some.ensures.no_bom more)

pub overflow_add-end : goal.overflow_add-end
overflow_add-end c =
    let (more, split) = c.piece_from-here.ensures in
    let here = c.piece_from-here.result.now in
    omega (arith, c.len-all.type_inv, c.len-all.ensures, place_within c.args.bytes.now here more c.args.start (length here) split (omega arith) c.requires)

pub returns-then-may_begin-clause-after : goal.returns-then-may_begin-clause-after
returns-then-may_begin-clause-after c = omega (arith, feed_some c.piece_from-here.result.now (sym c.ends_in_feed.ensures ∙ c.if-ends_in_feed.true))

pub returns-then-may_begin-clause-within : goal.returns-then-may_begin-clause-within
returns-then-may_begin-clause-within c =
    let (more, split) = c.piece_from-here.ensures in
    let here = c.piece_from-here.result.now in
    place_within c.args.bytes.now here more c.args.start (length here) split (omega arith) c.requires

pub returns-then-may_begin-clause-cut : goal.returns-then-may_begin-clause-cut
returns-then-may_begin-clause-cut c =
    let (more, split) = c.piece_from-here.ensures in
    let (last, next) = c.piece_from.ensures in
    let bytes = c.args.bytes.now in
    let here = c.piece_from-here.result.now in
    let size = length here in
    let end : take size here ≡ here = take_all size here (omega arith) in
    let left : drop size here ++ more ≡ c.piece_from.result.now ++ last = sym (behind bytes here more c.args.start size split (omega arith)) ∙ next in
    cut_at bytes here more c.args.start size split (omega arith)
    (ap ends_in_feed end ∙ sym c.ends_in_feed.ensures ∙ c.if-ends_in_feed.true)
    (ap begins_with_bom left ∙ c.if-may_begin.ensures refl last)
