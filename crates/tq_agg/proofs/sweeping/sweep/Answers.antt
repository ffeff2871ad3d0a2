use Rattle.std.proofs.Common.{◌≡◌, ◌+◌, ◌&&◌, Bool, true, false, not, cond, nat_le, nat_lt, length, refl, sym, ap, ◌∙◌, arith, length-drop}
use Rattle.std.specs.Cmp.Rules.{signed_items}
use Rattle.std.proofs.lemmas.Result.{on_ok_weaker}
use Rattle.tq_base.specs.Fragments.{copies}
use Rattle.tq_condition.specs.Ordinary.{projection}
use Rattle.tq_agg.specs.Totals.{result_copies}
use Rattle.tq_agg.proofs.Passing.{at_front, none_left}
use Rattle.tq_agg.proofs.Starts.{begins, ends_with, fewer, passes, totals_shown, turns}
use Rattle.tq_agg.proofs.sweeping.sweep.Goals as goal

from_not : (b : Bool) → false ≡ not b → b ≡ true
from_not true is = refl
from_not false is = cc

pub bounds-init : goal.bounds-init
bounds-init g c =
    let timeline = c.args.timeline.now in
    let key = projection c.args.key.now.columns.now c.args.key.now.row.now in
    record {
      empty = c.requires.empty;
      width = refl;
      totals = c.in_ok-first_totals.ensures;
      counting = rw c.at-since.ensures (begins (totals_shown c.args.key.now.shows_zero key (g.T.Timeline.totals timeline)) (g.T.Timeline.starts timeline) (g.T.Timeline.ends timeline) c.args.window.now c.args.out.now.items c.requires.starts c.requires.ends);
    }

pub starts_by-requires-clause-within : goal.starts_by-requires-clause-within
starts_by-requires-clause-within g c = c.bounds.invariant.counting.starts_reached.within

pub ends_by-requires-clause-within : goal.ends_by-requires-clause-within
ends_by-requires-clause-within g c = c.bounds.invariant.counting.ends_reached.within

pub overflow_add-next : goal.overflow_add-next
overflow_add-next g c = omega (arith, c.bounds.invariant.counting.starts_reached.within, c.starts_by.ensures.0, c.requires.short, length-drop c.bounds.place.begun (g.T.Timeline.starts c.args.timeline.now))

pub overflow_add-next-in-Some : goal.overflow_add-next-in-Some
overflow_add-next-in-Some g c = omega (arith, c.bounds.invariant.counting.ends_reached.within, c.ends_by.ensures.0, c.requires.ends_short, length-drop c.bounds.place.ended (g.T.Timeline.ends c.args.timeline.now))

pub next_totals-requires-clause-within : goal.next_totals-requires-clause-within
next_totals-requires-clause-within g c = omega (arith, c.bounds.invariant.counting.starts_reached.within, c.starts_by.ensures.0, length-drop c.bounds.place.begun (g.T.Timeline.starts c.args.timeline.now))

pub next_totals-requires-clause-ends_within : goal.next_totals-requires-clause-ends_within
next_totals-requires-clause-ends_within g c = omega (arith, c.bounds.invariant.counting.ends_reached.within, c.ends_by.ensures.0, length-drop c.bounds.place.ended (g.T.Timeline.ends c.args.timeline.now))

pub add_row-requires-clause-width : goal.add_row-requires-clause-width
add_row-requires-clause-width g c =
    c.bounds.invariant.width ∙ c.requires.width c.bounds.place.begun c.bounds.place.ended
    ∙ ap (λ l. length c.args.key.now.columns.now + length l) (sym (c.deref-then-ne.ensures.value ∙ c.bounds.invariant.totals))

pub add_row-requires-2-clause-width : goal.add_row-requires-2-clause-width
add_row-requires-2-clause-width g c =
    c.bounds.invariant.width ∙ c.requires.width c.bounds.place.begun c.bounds.place.ended
    ∙ ap (λ l. length c.args.key.now.columns.now + length l) (sym (c.deref-2.ensures.value ∙ c.bounds.invariant.totals))

pub bounds-smaller : goal.bounds-smaller
bounds-smaller g c =
    let timeline = c.args.timeline.now in
    let starts = g.T.Timeline.starts timeline in
    let ends = g.T.Timeline.ends timeline in
    let key = projection c.args.key.now.columns.now c.args.key.now.row.now in
    let shown = totals_shown c.args.key.now.shows_zero key (g.T.Timeline.totals timeline) in
    let window = c.args.window.now in
    let place = c.bounds.place in
    fewer shown starts ends window c.args.out.now.items c.requires.starts c.requires.ends place.begun place.ended c.bounds.since c.in-Some.at c.bounds.out.items c.bounds.invariant.counting
    (at_front starts ends place.begun place.ended c.in-Some.at c.start.result c.end.result c.start.ensures c.end.ensures c.in-Some.ensures) c.starts_by.result c.ends_by.result c.starts_by.ensures c.ends_by.ensures

pub bounds-smaller-in_ok-add_row : goal.bounds-smaller-in_ok-add_row
bounds-smaller-in_ok-add_row g c =
    let timeline = c.args.timeline.now in
    let starts = g.T.Timeline.starts timeline in
    let ends = g.T.Timeline.ends timeline in
    let key = projection c.args.key.now.columns.now c.args.key.now.row.now in
    let shown = totals_shown c.args.key.now.shows_zero key (g.T.Timeline.totals timeline) in
    let window = c.args.window.now in
    let place = c.bounds.place in
    fewer shown starts ends window c.args.out.now.items c.requires.starts c.requires.ends place.begun place.ended c.bounds.since c.in-Some.at c.bounds.out.items c.bounds.invariant.counting
    (at_front starts ends place.begun place.ended c.in-Some.at c.start.result c.end.result c.start.ensures c.end.ensures c.in-Some.ensures) c.starts_by.result c.ends_by.result c.starts_by.ensures c.ends_by.ensures

pub bounds-preserved : goal.bounds-preserved
bounds-preserved g c =
    let timeline = c.args.timeline.now in
    let starts = g.T.Timeline.starts timeline in
    let ends = g.T.Timeline.ends timeline in
    let key = projection c.args.key.now.columns.now c.args.key.now.row.now in
    let shown = totals_shown c.args.key.now.shows_zero key (g.T.Timeline.totals timeline) in
    let window = c.args.window.now in
    let place = c.bounds.place in
    let same : c.next_totals.new.next.items ≡ c.bounds.scratch.totals.items = (signed_items c.next_totals.new.next.items c.bounds.scratch.totals.items).0 (from_not _ c.if-ne.ensures) in
    record {
      empty = c.bounds.invariant.empty;
      width = c.bounds.invariant.width;
      totals = sym same ∙ c.in_ok-next_totals.ensures;
      counting =
          passes shown starts ends window c.args.out.now.items c.requires.starts c.requires.ends place.begun place.ended c.bounds.since c.in-Some.at c.bounds.out.items c.bounds.invariant.counting
          (at_front starts ends place.begun place.ended c.in-Some.at c.start.result c.end.result c.start.ensures c.end.ensures c.in-Some.ensures) c.starts_by.result c.ends_by.result c.starts_by.ensures c.ends_by.ensures
          (λ v. ap (λ l. result_copies c.args.key.now.shows_zero key l v) (sym c.in_ok-next_totals.ensures ∙ same ∙ c.bounds.invariant.totals));
    }

pub bounds-preserved-in_ok-add_row : goal.bounds-preserved-in_ok-add_row
bounds-preserved-in_ok-add_row g c =
    let timeline = c.args.timeline.now in
    let starts = g.T.Timeline.starts timeline in
    let ends = g.T.Timeline.ends timeline in
    let key = projection c.args.key.now.columns.now c.args.key.now.row.now in
    let shown = totals_shown c.args.key.now.shows_zero key (g.T.Timeline.totals timeline) in
    let window = c.args.window.now in
    let place = c.bounds.place in
    record {
      empty = c.in_ok-add_row.ensures.emptied;
      width = c.in_ok-add_row.ensures.width ∙ c.bounds.invariant.width;
      totals = ap (λ l. l.items) c.swap.ensures.x_after ∙ c.in_ok-next_totals.ensures;
      counting =
          turns shown starts ends window c.args.out.now.items c.requires.starts c.requires.ends place.begun place.ended c.bounds.since c.in-Some.at c.bounds.out.items c.bounds.invariant.counting
          (at_front starts ends place.begun place.ended c.in-Some.at c.start.result c.end.result c.start.ensures c.end.ensures c.in-Some.ensures) c.starts_by.result c.ends_by.result c.starts_by.ensures c.ends_by.ensures
          c.add_row.new.out.items
          (λ t v. c.in_ok-add_row.ensures.rows t v
          ∙ ap (λ l. copies c.bounds.out.items v t + cond (nat_le c.bounds.since t && nat_lt t c.in-Some.at) (result_copies c.args.key.now.shows_zero key l v) 0) (c.deref-then-ne.ensures.value ∙ c.bounds.invariant.totals));
    }

pub returns-clause-rows : goal.returns-clause-rows
returns-clause-rows g c =
    let timeline = c.args.timeline.now in
    let starts = g.T.Timeline.starts timeline in
    let ends = g.T.Timeline.ends timeline in
    let key = projection c.args.key.now.columns.now c.args.key.now.row.now in
    let shown = totals_shown c.args.key.now.shows_zero key (g.T.Timeline.totals timeline) in
    let window = c.args.window.now in
    let place = c.bounds.place in
    let none = none_left starts ends place.begun place.ended c.start.result c.end.result c.start.ensures c.end.ensures c.in_default.ensures in
    on_ok_weaker c.add_row-2.result
    (λ more. ends_with shown starts ends window c.args.out.now.items c.requires.starts c.requires.ends place.begun place.ended c.bounds.since c.bounds.out.items c.add_row-2.new.out.items c.bounds.invariant.counting none.0 none.1
    (λ t v. more t v
    ∙ ap (λ l. copies c.bounds.out.items v t + cond (nat_le c.bounds.since t && nat_lt t window.end) (result_copies c.args.key.now.shows_zero key l v) 0) (c.deref-2.ensures.value ∙ c.bounds.invariant.totals)))
    c.add_row-2.ensures.rows
