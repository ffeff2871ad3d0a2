use Rattle.std.proofs.Common.{◌≡◌, ◌++◌, ◌∙◌, ℕ, ◌<◌, [], ◌∷◌, List, ap, get_or, length, map, refl, subst, sym}
use Rattle.std.specs.Prelude.{All}
use Rattle.std.proofs.lemmas.List.{get_or_default, map-append}
use Rattle.std.proofs.lemmas.Simd.{map-map}
use Rattle.std.proofs.lemmas.List.Elements.{All-append, All-map}
use Rattle.std.proofs.lemmas.Result.{on_ok_weaker}
use Rattle.tq_base.specs.declared.value.Value.{Value}
use Rattle.tq_base.specs.declared.period.Period.{Period}
use Rattle.tq_base.specs.declared.fragment.Fragment.{Fragment}
use Rattle.tq_base.specs.declared.relation.RowPeriod.{RowPeriod}
use Rattle.tq_base.specs.declared.sort_input.SortKey.{SortKey}
use Rattle.tq_base.specs.declared.sort_input.Side.TheVariants as side
use Rattle.tq_base.specs.Keys.{key_row, no_row, rows_on, SortInputState}
use Rattle.tq_base.specs.SortInputs.{state_of}
use Rattle.tq_base.specs.Layering.{rows_of, IsLayering}
use Rattle.tq_base.specs.Relations.{row_period_of}
use Rattle.tq_table.specs.Groups.{row_period_at}
use Rattle.tq_table.proofs.Disjoint.{adds_apart}
use Rattle.tq_table.proofs.KeyGroups.{end_key}
use Rattle.tq_table.proofs.coalescing.add_layers.Goals as goal

-- the periods of the keys' rows
periods_are : (s : SortInputState) (keys : List SortKey) → map (λ (k : SortKey). (key_row s k).period) keys ≡ map (λ (f : Fragment). f.period) (map (key_row s) keys)
periods_are s [] = refl
periods_are s (k ∷ keys) = ap (λ (l : List Period). (key_row s k).period ∷ l) (periods_are s keys)

-- the row of a left key is found by its number
read_left : (s : SortInputState) (k : SortKey) (v : List Value) → k.side ≡ side.Left → (key_row s k).values ≡ v → (get_or s.left k.row no_row).values ≡ v
read_left s k v left is = subst (λ z. (get_or (rows_on s z) k.row no_row).values ≡ v) left is

-- rows with the values are appended
added_lines : (rows : List Fragment) (v : List Value) (row : ℕ) (periods : List Period) (old new : List RowPeriod) → (get_or rows row no_row).values ≡ v → new ≡ old ++ map (row_period_at row) periods
    → map (row_period_of rows) new ≡ map (row_period_of rows) old ++ rows_of v periods
added_lines rows v row periods old new is put =
    ap (map (row_period_of rows)) put
    ∙ map-append (row_period_of rows) old (map (row_period_at row) periods)
    ∙ ap (λ l. map (row_period_of rows) old ++ l) (map-map (row_period_of rows) (row_period_at row) periods)
    ∙ ap (λ (u : List Value). map (row_period_of rows) old ++ rows_of u periods) is

-- and their numbers are valid
lines_within : (rows : List Fragment) (row : ℕ) (periods : List Period) (old new : List RowPeriod) → row < length rows → new ≡ old ++ map (row_period_at row) periods → All (λ (line : RowPeriod). line.row < length rows) old → All (λ (line : RowPeriod). line.row < length rows) new
lines_within rows row periods old new less put before =
    let P : RowPeriod → Type 0 = λ line. line.row < length rows in
    subst (All P) (sym put) (All-append P old (map (row_period_at row) periods) before (All-map P (row_period_at row) periods (λ k d within. less)))

-- the default for a key that does not exist can be any key, also the first
first_lines : (group : List SortKey) (d : SortKey) (periods : List Period) (old new : List RowPeriod) → 0 < length group → new ≡ old ++ map (row_period_at (get_or group 0 d).row) periods → new ≡ old ++ map (row_period_at (get_or group 0 end_key).row) periods
first_lines group d periods old new some put = put ∙ ap (λ (k : SortKey). old ++ map (row_period_at k.row) periods) (get_or_default group 0 d end_key some)

pub returns-then-are_disjoint-clause-within : goal.returns-then-are_disjoint-clause-within
returns-then-are_disjoint-clause-within c =
    let group = c.args.group.now in
    let periods = c.args.periods.now in
    let old = c.args.table.now in
    let new = c.add_row_periods.new.table in
    on_ok_weaker c.add_row_periods.result
    (λ put. lines_within c.args.sort_input.now.left.now.items (get_or group 0 end_key).row periods old new (c.requires.stand 0 end_key c.requires.some) (first_lines group _ periods old new c.requires.some put))
    c.add_row_periods.ensures

pub returns-then-are_disjoint-clause-layers : goal.returns-then-are_disjoint-clause-layers
returns-then-are_disjoint-clause-layers c =
    let s = state_of c.args.sort_input.now in
    let rows = c.args.sort_input.now.left.now.items in
    let group = c.args.group.now in
    let first = get_or group 0 end_key in
    let periods = c.args.periods.now in
    let old = c.args.table.now in
    let new = c.add_row_periods.new.table in
    let given = c.requires.periods ∙ periods_are s group in
    on_ok_weaker c.add_row_periods.result
    (λ put v alike. adds_apart v (map (key_row s) group) (c.if-are_disjoint.ensures (map (key_row s) group) given) (map (row_period_of rows) old) (map (row_period_of rows) new)
    (added_lines rows v first.row periods old new (read_left s first v (c.requires.left 0 end_key c.requires.some) (alike 0 end_key c.requires.some)) (first_lines group _ periods old new c.requires.some put)
    ∙ ap (λ (l : List Period). map (row_period_of rows) old ++ rows_of v l) given))
    c.add_row_periods.ensures

pub returns-clause-within : goal.returns-clause-within
returns-clause-within c =
    let group = c.args.group.now in
    let periods = c.deref.result.now in
    let old = c.args.table.now in
    let new = c.add_row_periods-2.new.table in
    on_ok_weaker c.add_row_periods-2.result
    (λ put. lines_within c.args.sort_input.now.left.now.items (get_or group 0 end_key).row periods old new (c.requires.stand 0 end_key c.requires.some) (first_lines group _ periods old new c.requires.some put))
    c.add_row_periods-2.ensures

pub returns-clause-layers : goal.returns-clause-layers
returns-clause-layers c =
    let s = state_of c.args.sort_input.now in
    let rows = c.args.sort_input.now.left.now.items in
    let group = c.args.group.now in
    let first = get_or group 0 end_key in
    let old = c.args.table.now in
    let new = c.add_row_periods-2.new.table in
    let given = c.requires.periods ∙ periods_are s group in
    on_ok_weaker c.add_row_periods-2.result
    (λ put v alike. record {
      layering = c.in_ok-layering.layering.items;
      is_layering = subst (λ periods. IsLayering periods c.in_ok-layering.layering.items) given c.in_ok-layering.ensures.layering;
      in_order = c.in_ok-layering.ensures.in_order;
      added = added_lines rows v first.row c.deref.result.now old new (read_left s first v (c.requires.left 0 end_key c.requires.some) (alike 0 end_key c.requires.some)) (first_lines group _ c.deref.result.now old new c.requires.some put)
          ∙ ap (λ (l : List Period). map (row_period_of rows) old ++ rows_of v l) c.deref.ensures.value;
    })
    c.add_row_periods-2.ensures
