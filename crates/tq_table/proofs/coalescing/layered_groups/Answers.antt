use Rattle.std.proofs.Common.{◌≡◌, ◌≢◌, ℕ, ◌+◌, ◌-◌, ◌<◌, ◌≤◌, List, [], ◌∷◌, refl, sym, ap, ◌∙◌, subst, arith, drop, take, get_or, length, map}
use Rattle.std.specs.Prelude.{All}
use Rattle.std.proofs.lemmas.List.{drop_all, drop-drop, drop-map, get_or-map, length-drop, length-map, take_rest, take-map}
use Rattle.std.proofs.lemmas.List.Elements.{All-drop, All-head, All-nil, All-tail, All-take}
use Rattle.tq_base.specs.declared.value.Value.{Value}
use Rattle.tq_base.specs.declared.fragment.Fragment.{Fragment}
use Rattle.tq_base.specs.declared.period.Period.{Period}
use Rattle.tq_base.specs.declared.relation.RowPeriod.{RowPeriod}
use Rattle.tq_base.specs.declared.sort_input.SortKey.{SortKey}
use Rattle.tq_base.specs.declared.sort_input.Side.TheVariants as side
use Rattle.tq_base.specs.Groups.{grouping_ends, Grouping}
use Rattle.tq_base.specs.SortKeyLaws.{run_starts_rest}
use Rattle.tq_base.specs.SortInputs.{state_of}
use Rattle.tq_base.specs.Keys.{key_row, key_values, no_row, rows_on, IsSortKey, SortInputState}
use Rattle.tq_base.specs.Layering.{AddsLayers}
use Rattle.tq_base.specs.Relations.{row_period_of}
use Rattle.tq_table.specs.Prefetching.{periods_of_keys}
use Rattle.tq_table.proofs.KeyGroups.{all_stand, all_whole, grouping_starts, end_key, takes_group, AreWhole}
use Rattle.tq_table.proofs.coalescing.layered_groups.Goals as goal

abbrev when : Fragment → Period
when row = row.period

-- the period of a left key's row
period_is : (s : SortInputState) (k : SortKey) → k.side ≡ side.Left → k.row < length s.left → get_or (map when s.left) k.row no_row.period ≡ (key_row s k).period
period_is s k left stands = get_or-map when s.left k.row no_row no_row.period stands ∙ subst (λ z. (get_or s.left k.row no_row).period ≡ (get_or (rows_on s z) k.row no_row).period) (sym left) refl

-- the same for all keys
periods_are : (s : SortInputState) (keys : List SortKey) → All (λ k. k.side ≡ side.Left) keys → All (λ k. k.row < length s.left) keys
    → map (λ (k : SortKey). get_or (map when s.left) k.row no_row.period) keys ≡ map (λ (k : SortKey). (key_row s k).period) keys
periods_are s [] left stand = refl
periods_are s (k ∷ keys) left stand =
    let first = period_is s k (All-head (λ k. k.side ≡ side.Left) k keys left) (All-head (λ (k : SortKey). k.row < length s.left) k keys stand) in
    let rest = periods_are s keys (All-tail (λ k. k.side ≡ side.Left) k keys left) (All-tail (λ (k : SortKey). k.row < length s.left) k keys stand) in
    rw (first, rest) refl

-- the periods of some keys are part of those of all
cut : (s : SortInputState) (keys : List SortKey) (periods : List Period) (start len : ℕ) → periods ≡ map (λ (k : SortKey). (key_row s k).period) keys
    → take len (drop start periods) ≡ map (λ (k : SortKey). (key_row s k).period) (take len (drop start keys))
cut s keys periods start len are =
    let f : SortKey → Period = λ k. (key_row s k).period in
    ap (λ l. take len (drop start l)) are ∙ ap (take len) (drop-map f start keys) ∙ take-map f len (drop start keys)

pub groups-init : goal.groups-init
groups-init c =
    let rows = c.args.sort_input.now.left.now.items in
    let keys = c.args.keys.now in
    let s : SortInputState = state_of c.args.sort_input.now in
    let are_whole : AreWhole s keys = all_whole s c.args.sort_input.now.left.now.width keys c.requires.columns c.width.ensures.rows c.requires.keys.keys_are c.requires.keys.left in
    record {
      within = omega arith;
      stand = rw c.in_ok-table.ensures (All-nil (λ (line : RowPeriod). line.row < length rows));
      from = rw c.new-ahead.ensures.from (omega arith);
      ahead = c.new-ahead.ensures.ahead (map when rows) keys;
      grouping = rw c.in_ok-table.ensures (grouping_starts s rows keys c.requires.keys.rows are_whole c.requires.keys.rises);
    }

pub run_len-requires : goal.run_len-requires
run_len-requires c =
    let rows = c.args.sort_input.now.left.now.items in
    let keys = c.args.keys.now in
    let start = c.groups.start in
    let s : SortInputState = state_of c.args.sort_input.now in
    record {
      keys = rw (take_rest keys start) (All-drop (IsSortKey s) start keys c.requires.keys.keys_are);
      run_starts = rw (take_rest keys start) (run_starts_rest s keys start c.requires.keys.run_starts);
    }

pub add_layers-requires-clause-stand : goal.add_layers-requires-clause-stand
add_layers-requires-clause-stand c =
    let rows = c.args.sort_input.now.left.now.items in
    let keys = c.args.keys.now in
    let start = c.groups.start in
    let len = c.groups.start + c.run_len.result - c.groups.start in
    let s : SortInputState = state_of c.args.sort_input.now in
    let Stands : SortKey → Type 0 = λ (k : SortKey). k.row < length rows in
    All-take Stands len (drop start keys) (All-drop Stands start keys (all_stand s keys c.requires.keys.keys_are c.requires.keys.left))

-- all keys refer to rows that exist
stand_all : (rows : List Fragment) (s : SortInputState) (keys : List SortKey) (periods : List Period) (borrows : List SortKey) → s.left ≡ rows → periods ≡ map when rows → borrows ≡ keys
    → All (IsSortKey s) keys → All (λ k. k.side ≡ side.Left) keys → All (λ (k : SortKey). k.row < length periods) borrows
stand_all rows s keys periods borrows same periods_are keys_are is left =
    rw (periods_are, keys_are, length-map rows when) (subst (λ (l : List Fragment). All (λ (k : SortKey). k.row < length l) keys) same (all_stand s keys is left))

pub prefetch_range-requires-clause-stand : goal.prefetch_range-requires-clause-stand
prefetch_range-requires-clause-stand c =
    let rows = c.args.sort_input.now.left.now.items in
    let keys = c.args.keys.now in
    let s : SortInputState = state_of c.args.sort_input.now in
    stand_all rows s keys c.periods-periods.result.now c.args.keys.now refl c.periods-periods.ensures refl c.requires.keys.keys_are c.requires.keys.left

pub prefetch_range-requires-clause-from : goal.prefetch_range-requires-clause-from
prefetch_range-requires-clause-from c = c.groups.invariant.from

pub prefetch_range-requires-clause-ahead : goal.prefetch_range-requires-clause-ahead
prefetch_range-requires-clause-ahead c = rw c.periods-periods.ensures c.groups.invariant.ahead

pub add_layers-requires-clause-periods : goal.add_layers-requires-clause-periods
add_layers-requires-clause-periods c =
    let rows = c.args.sort_input.now.left.now.items in
    let keys = c.args.keys.now in
    let start = c.groups.start in
    let len = c.groups.start + c.run_len.result - c.groups.start in
    let s : SortInputState = state_of c.args.sort_input.now in
    let stand : All (λ (k : SortKey). k.row < length rows) keys = all_stand s keys c.requires.keys.keys_are c.requires.keys.left in
    let all = periods_of_keys c.periods-periods.result.now c.args.keys.now in
    let told : all ≡ map (λ (k : SortKey). get_or (map when rows) k.row no_row.period) keys = rw c.periods-periods.ensures refl in
    let are = told ∙ periods_are s keys c.requires.keys.left stand in
    c.between.ensures c.periods-periods.result.now c.args.keys.now c.in_ok-prefetch_range.ensures.ahead
    ∙ cut s keys all start len are

pub groups-preserved : goal.groups-preserved
groups-preserved c =
    let rows = c.args.sort_input.now.left.now.items in
    let keys = c.args.keys.now in
    let s : SortInputState = state_of c.args.sort_input.now in
    let are_whole : AreWhole s keys = all_whole s c.args.sort_input.now.left.now.width keys c.requires.columns c.width.ensures.rows c.requires.keys.keys_are c.requires.keys.left in
    let start = c.groups.start in
    let len = c.run_len.result in
    let rest = drop start keys in
    let table = map (row_period_of rows) c.groups.table in
    let new = map (row_period_of rows) c.add_layers.new.table in
    let run_within : len ≤ length rest = rw (take_rest keys start) at c.run_len.ensures.within in
    let alike : All (λ k. key_values s k ≡ key_values s (get_or rest 0 end_key)) (take len rest) = rw (take_rest keys start) at (c.run_len.ensures.alike end_key) in
    let ends : len < length rest → key_values s (get_or rest len end_key) ≢ key_values s (get_or rest 0 end_key) = rw (take_rest keys start) at (c.run_len.ensures.ends end_key) in
    let len_is : start + len - start ≡ len = omega arith in
    let adds : (u : List Value) → All (λ k. (key_row s k).values ≡ u) (take len rest) → AddsLayers u (map (key_row s) (take len rest)) table new =
    rw len_is at c.in_ok-add_layers.ensures.layers in
    record {
      within = omega (arith, run_within, length-drop start keys, c.groups.invariant.within);
      stand = c.in_ok-add_layers.ensures.within c.groups.invariant.stand;
      from = omega (arith, c.in_ok-prefetch_range.ensures.from);
      ahead = rw c.periods-periods.ensures at c.in_ok-prefetch_range.ensures.ahead;
      grouping = subst (λ l. Grouping rows (map (key_row s) l) new) (drop-drop len start keys)
          (takes_group s rest len (All-drop (λ k. key_values s k ≡ (key_row s k).values) start keys are_whole) rows table new c.groups.invariant.grouping alike ends adds);
    }

pub returns-clause-layers : goal.returns-clause-layers
returns-clause-layers c =
    let keys = c.args.keys.now in
    let done : length keys ≤ c.groups.start = omega (arith, c.groups-test.false) in
    grouping_ends c.args.sort_input.now.left.now.items (map (row_period_of c.args.sort_input.now.left.now.items) c.groups.table) (rw (drop_all c.groups.start keys done) at c.groups.invariant.grouping)
