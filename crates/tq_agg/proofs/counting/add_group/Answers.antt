use Rattle.std.proofs.Common.{◌≡◌, ◌+◌, cond, List, [], ◌∷◌, length, map, take, refl, sym, subst, ap, ◌∙◌, arith}
use Rattle.std.specs.Prelude.{None, slice_get}
use Rattle.std.proofs.lemmas.List.{get_or-map, length-map}
use Rattle.std.proofs.lemmas.List.Sorted.{length_permutation}
use Rattle.std.proofs.lemmas.Result.{on_ok_weaker}
use Rattle.tq_base.specs.declared.sort_input.SortKey.{SortKey}
use Rattle.tq_base.specs.SortInputs.{state_of}
use Rattle.tq_base.specs.Keys.{key_row, no_row}
use Rattle.tq_base.specs.Periods.{holds}
use Rattle.tq_base.specs.Fragments.{copies}
use Rattle.tq_condition.specs.Ordinary.{projection}
use Rattle.tq_agg.specs.declared.bounds.End.{End}
use Rattle.tq_agg.specs.Bounds.{end_in, start_in}
use Rattle.tq_agg.specs.Endpoints.{AreInOrder}
use Rattle.tq_agg.specs.GroupKeys.{key_of}
use Rattle.tq_agg.specs.Totals.{shown_copies, total_of, totals_held, totals_upto}
use Rattle.tq_agg.proofs.Grouping.{none_shown, nothing}
use Rattle.tq_agg.proofs.Maps.{map_same}
use Rattle.tq_agg.proofs.Moving.{ends_in_order, ends_small, ends_within, keys_small, starts_in_order, upto_held}
use Rattle.tq_agg.proofs.counting.add_group.Goals as goal

no_keys : (group : List SortKey) → None ≡ slice_get group 0 → group ≡ []
no_keys [] is = refl
no_keys (k ∷ group) is = cc

pub sweep-requires-clause-starts : goal.sweep-requires-clause-starts
sweep-requires-clause-starts c = starts_in_order c.args.group.now.window.now c.args.group.now.keys.now c.requires.starts

pub sweep-requires-clause-ends : goal.sweep-requires-clause-ends
sweep-requires-clause-ends c =
    let s = state_of c.args.group.now.sort_input.now in
    let window = c.args.group.now.window.now in
    let keys = c.args.group.now.keys.now in
    let ends = c.fill_ends.new.ends.items in
    subst (λ (l : List End). AreInOrder window (map (λ (e : End). e.at) l)) (sym c.deref.ensures.value)
    (ends_in_order window ends c.in_ok-fill_ends.ensures.sorted (ends_within s window keys ends c.in_ok-fill_ends.ensures.same))

pub sweep-requires-clause-short : goal.sweep-requires-clause-short
sweep-requires-clause-short c = omega (arith, c.requires.short, length-map c.args.group.now.keys.now (start_in c.args.group.now.window.now))

pub sweep-requires-clause-ends_short : goal.sweep-requires-clause-ends_short
sweep-requires-clause-ends_short c =
    let s = state_of c.args.group.now.sort_input.now in
    let window = c.args.group.now.window.now in
    let keys = c.args.group.now.keys.now in
    let ends = c.fill_ends.new.ends.items in
    omega (
      arith,
      length-map c.deref.result.now (λ (e : End). e.at),
      ap length c.deref.ensures.value,
      length_permutation (map (end_in s window) keys) ends c.in_ok-fill_ends.ensures.same,
      length-map keys (end_in s window),
      c.requires.short,
    )

pub sweep-requires-clause-fits : goal.sweep-requires-clause-fits
sweep-requires-clause-fits c =
    let s = state_of c.args.group.now.sort_input.now in
    let window = c.args.group.now.window.now in
    let keys = c.args.group.now.keys.now in
    let ends = c.fill_ends.new.ends.items in
    let same = c.in_ok-fill_ends.ensures.same in
    record {
      small = λ i d lt. keys_small s window keys ends same _ (c.requires.small i d lt);
      ends_small = λ i d lt. rw c.deref.ensures.value (ends_small s window keys ends same _ (c.requires.small i d lt));
      weights = c.requires.weights;
    }

pub sweep-requires-clause-width : goal.sweep-requires-clause-width
sweep-requires-clause-width c begun ended =
    let group = c.args.group.now in
    omega (arith, c.requires.width, length-map group.summands.now (λ s. total_of (state_of group.sort_input.now) s (take begun group.keys.now) (take ended c.deref.result.now)))

pub returns-clause-rows : goal.returns-clause-rows
returns-clause-rows c =
    let s = state_of c.args.group.now.sort_input.now in
    let columns = c.args.group.now.sort_input.now.left_columns.now in
    let window = c.args.group.now.window.now in
    let keys = c.args.group.now.keys.now in
    let summands = c.args.group.now.summands.now in
    let ends = c.fill_ends.new.ends.items in
    let first = c.in-Some.first.now in
    let item = c.in-Some.ensures.item in
    let same = c.in_ok-fill_ends.ensures.same in
    let starts_rise = starts_in_order window keys c.requires.starts in
    let ends_rise = ends_in_order window ends c.in_ok-fill_ends.ensures.sorted (ends_within s window keys ends same) in
    on_ok_weaker c.sweep.result
    (λ rows k alike t v.
    let of_k : projection columns c.row-row.result ≡ k =
    ap (projection columns) c.row-row.ensures ∙ ap (λ (x : SortKey). key_of columns (key_row s x)) (item.3.1 first)
    ∙ ap (key_of columns) (sym (get_or-map (key_row s) keys 0 first no_row item.3.0)) ∙ alike 0 no_row (omega (arith, item.3.0, length-map keys (key_row s))) in
    let totals : totals_upto s window summands keys c.deref.result.now t ≡ totals_held summands window (map (key_row s) keys) t =
    ap (λ l. totals_upto s window summands keys l t) c.deref.ensures.value
    ∙ map_same _ _ summands (λ i d lt. upto_held s window _ t keys ends c.requires.keys same starts_rise.0 ends_rise.0) in
    rows t v
    ∙ ap (λ u. copies c.args.out.now.items v t + cond (holds window t) (shown_copies u (totals_upto s window summands keys c.deref.result.now t) v) 0) of_k
    ∙ ap (λ l. copies c.args.out.now.items v t + cond (holds window t) (shown_copies k l v) 0) totals)
    c.sweep.ensures.rows

pub returns-in_default-clause-rows : goal.returns-in_default-clause-rows
returns-in_default-clause-rows c k alike t v =
    let s = state_of c.args.group.now.sort_input.now in
    let window = c.args.group.now.window.now in
    let summands = c.args.group.now.summands.now in
    let none = ap (λ l. cond (holds window t) (shown_copies k (totals_held summands window (map (key_row s) l) t) v) 0) (no_keys c.args.group.now.keys.now c.in_default.ensures.value) in
    omega (arith, none, ap (λ m. cond (holds window t) m 0) (none_shown k summands v), nothing (holds window t))
