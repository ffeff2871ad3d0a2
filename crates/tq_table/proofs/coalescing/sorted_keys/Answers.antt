use Rattle.std.proofs.Common.{◌≡◌, List, map, subst}
use Rattle.std.specs.Prelude.{IsPermutation}
use Rattle.std.proofs.lemmas.List.Elements.{All-nil}
use Rattle.tq_base.specs.declared.fragment.Fragment.{Fragment}
use Rattle.tq_base.specs.declared.sort_input.SortKey.{SortKey}
use Rattle.tq_base.specs.declared.sort_input.Side.TheVariants as side
use Rattle.tq_base.specs.Keys.{held, held_on, IsFresh, SortInputState}
use Rattle.tq_base.specs.SortInputs.{state_of}
use Rattle.tq_table.proofs.KeyGroups.{left_moved, rows_moved}
use Rattle.tq_table.proofs.coalescing.sorted_keys.Goals as goal

pub sort-requires : goal.sort-requires
sort-requires c = record { keys = c.in_ok-add_keys.ensures.keys (rw c.new-keys.ensures.items (All-nil (IsFresh (state_of c.args.sort_input.now)))) }

-- the sorted keys stand for the collected rows
moved : (s : SortInputState) (rows : List Fragment) (gathered sorted : List SortKey) → map (held s) gathered ≡ held_on side.Left rows → IsPermutation (map (held s) gathered) (map (held s) sorted) → IsPermutation (held_on side.Left rows) (map (held s) sorted)
moved s rows gathered sorted are same = subst (λ l. IsPermutation l (map (held s) sorted)) are same

pub returns : goal.returns
returns c =
    let s = state_of c.args.sort_input.now in
    let rows = c.args.sort_input.now.left.now.items in
    let sorted = c.sort.new.keys.items in
    let are : map (held s) c.add_keys.new.keys.items ≡ held_on side.Left rows = rw c.new-keys.ensures.items at c.in_ok-add_keys.ensures.rows in
    let same = moved s rows c.add_keys.new.keys.items sorted are c.in_ok-sort.ensures.rows in
    record {
      rows = rows_moved s sorted rows same;
      left = left_moved s sorted rows same;
      keys_are = c.in_ok-sort.ensures.keys;
      run_starts = c.in_ok-sort.ensures.run_starts;
      rises = c.in_ok-sort.ensures.rises;
    }
