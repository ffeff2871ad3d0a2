use Rattle.std.proofs.Common.{◌≡◌, ◌≢◌, ℕ, ◌+◌, ◌-◌, ◌<◌, ◌≤◌, Bool, true, false, cond, List, length, take, drop, get_or, map, refl, sym, ap, ◌∙◌, subst, arith, length-drop}
use Rattle.std.specs.Prelude.{All}
use Rattle.std.proofs.lemmas.List.{drop-map, length-map, take-map, take_all, take_rest}
use Rattle.std.proofs.lemmas.List.Elements.{All-drop, All-take}
use Rattle.tq_base.specs.declared.value.Value.{Value}
use Rattle.tq_base.specs.declared.period.Period.{Period}
use Rattle.tq_base.specs.declared.sort_input.SortKey.{SortKey}
use Rattle.tq_base.specs.declared.sort_input.Side.TheVariants.{Left, Right}
use Rattle.tq_base.specs.Fragments.{copies}
use Rattle.tq_base.specs.Keys.{held, key_row, key_values, HaveRunStarts, Held, IsSortKey, SortInputState}
use Rattle.tq_base.specs.SortKeyLaws.{run_starts_rest}
use Rattle.tq_base.specs.SortInputs.{state_of}
use Rattle.tq_base.specs.Periods.{holds}
use Rattle.tq_ops.specs.Differences.{rows_at_periods, periods_on, side_copies, AddsDifference, AreOfValues}
use Rattle.tq_ops.proofs.Turns.{adds_run, group_is, side_counts}
use Rattle.tq_ops.proofs.difference.add_differences.Goals as goal

pub run_len-requires : goal.run_len-requires
run_len-requires c = record {
  keys = subst (All (IsSortKey (state_of c.args.sort_input.now))) (sym (take_rest c.args.keys.now c.groups.start)) (All-drop (IsSortKey (state_of c.args.sort_input.now)) c.groups.start c.args.keys.now c.requires.keys.each);
  run_starts = subst (HaveRunStarts (state_of c.args.sort_input.now)) (sym (take_rest c.args.keys.now c.groups.start)) (run_starts_rest (state_of c.args.sort_input.now) c.args.keys.now c.groups.start c.requires.keys.run_starts);
}

-- the periods of a part of the keys are a part of all periods
cut_periods : (s : SortInputState) (keys : List SortKey) (periods : List Period) (start len : ℕ) → periods ≡ periods_on s keys → take len (drop start periods) ≡ periods_on s (take len (drop start keys))
cut_periods s keys periods start len are =
    let when : SortKey → Period = λ k. (key_row s k).period in
    ap (λ l. take len (drop start l)) are ∙ ap (take len) (drop-map when start keys) ∙ take-map when len (drop start keys)

pub add_difference-requires : goal.add_difference-requires
add_difference-requires c =
    let s = state_of c.args.sort_input.now in
    let keys = c.args.keys.now in
    let start = c.groups.start in
    let len = c.run_len.result in
    let group : take (start + len - start) (drop start keys) ≡ take len (drop start keys) = ap (λ n. take n (drop start keys)) (let same : start + len - start ≡ len = omega arith in same) in
    let are : c.in_ok-periods.periods.items ≡ periods_on s keys = c.in_ok-periods.ensures in
    record {
      periods = rw c.deref.ensures.value (cut_periods s keys c.in_ok-periods.periods.items start (start + len - start) are);
      keys = subst (All (IsSortKey s)) (sym group) (All-take (IsSortKey s) len (drop start keys) (All-drop (IsSortKey s) start keys c.requires.keys.each));
    }

pub groups-smaller : goal.groups-smaller
groups-smaller c =
    let keys = c.args.keys.now in
    let start = c.groups.start in
    let some : 0 < length (take (length keys - start) (drop start keys)) = omega (arith, ap length (take_rest keys start), length-drop start keys, c.groups-test.true) in
    let more : 0 < c.run_len.result = c.run_len.ensures.some some in
    omega (arith, more, c.groups-test.true)

pub groups-preserved : goal.groups-preserved
groups-preserved c =
    let s = state_of c.args.sort_input.now in
    let f = held s in
    let keys = c.args.keys.now in
    let start = c.groups.start in
    let len = c.run_len.result in
    let out = rows_at_periods s c.groups.lines.items in
    let new = rows_at_periods s c.add_difference.new.lines.items in
    let window = c.args.window.now in
    let part : take (length keys - start) (drop start keys) ≡ drop start keys = take_rest keys start in
    let within : len ≤ length (drop start keys) = subst (λ (l : List SortKey). len ≤ length l) part c.run_len.ensures.within in
    let alike : (d : SortKey) → All (λ k. key_values s k ≡ key_values s (get_or (drop start keys) 0 d)) (take len (drop start keys)) =
    subst (λ (l : List SortKey). (d : SortKey) → All (λ k. key_values s k ≡ key_values s (get_or l 0 d)) (take len l)) part c.run_len.ensures.alike in
    let ends : (d : SortKey) → len < length (drop start keys) → key_values s (get_or (drop start keys) len d) ≢ key_values s (get_or (drop start keys) 0 d) =
    subst (λ (l : List SortKey). (d : SortKey) → len < length l → key_values s (get_or l len d) ≢ key_values s (get_or l 0 d)) part c.run_len.ensures.ends in
    let cut : take (start + len - start) (drop start keys) ≡ take len (drop start keys) = ap (λ n. take n (drop start keys)) (let same : start + len - start ≡ len = omega arith in same) in
    let group : map f (take (start + len - start) (drop start keys)) ≡ take len (drop start (map f keys)) =
    ap (map f) cut ∙ sym (group_is s keys c.requires.whole start len c.groups-test.true within alike ends) in
    let adds : (v : List Value) → AreOfValues v (take len (drop start (map f keys))) → AddsDifference window (take len (drop start (map f keys))) v out new =
    subst (λ (l : List Held). (v : List Value) → AreOfValues v l → AddsDifference window l v out new) group c.in_ok-add_difference.ensures.rows in
    record {
      within = c.in_ok-add_difference.ensures.within c.groups.invariant.within;
      grouping = adds_run s keys c.requires.whole start len c.groups-test.true within alike ends window out new c.requires.keys.rising adds c.groups.invariant.grouping;
    }

inside : (b : Bool) {l r n : ℕ} (left right : ℕ) → n ≡ l - r → l ≡ cond b left 0 → r ≡ cond b right 0 → n ≡ cond b (left - right) 0
inside true left right is of_l of_r = omega (arith, is, of_l, of_r)
inside false left right is of_l of_r = omega (arith, is, of_l, of_r)

pub returns-clause-counted : goal.returns-clause-counted
returns-clause-counted c t v =
    let s = state_of c.args.sort_input.now in
    let keys = c.args.keys.now in
    let window = c.args.window.now in
    let all : take c.groups.start (map (held s) keys) ≡ map (held s) keys = take_all c.groups.start (map (held s) keys) (omega (arith, c.groups-test.false, length-map keys (held s))) in
    inside (holds window t) (copies s.left v t) (copies s.right v t) (c.groups.invariant.grouping.counted t v)
    (ap (λ l. side_copies window Left l v t) all ∙ side_counts s window keys c.requires.keys t v Left s.left refl)
    (ap (λ l. side_copies window Right l v t) all ∙ side_counts s window keys c.requires.keys t v Right s.right refl)
