use Rattle.std.proofs.Common.{◌≡◌, List, ap, map, subst}
use Rattle.std.specs.Prelude.{IsPermutation}
use Rattle.std.proofs.lemmas.List.Elements.{All-nil}
use Rattle.tq_base.specs.declared.fragment.Fragment.{Fragment}
use Rattle.tq_base.specs.declared.sort_input.SortKey.{SortKey}
use Rattle.tq_base.specs.declared.sort_input.Side.TheVariants as side
use Rattle.tq_base.specs.Keys.{held, held_on, IsFresh, SortInputState}
use Rattle.tq_base.specs.SortInputs.{state_of}
use Rattle.tq_base.specs.RowLists.{RowList}
use Rattle.tq_check.proofs.SortKeyLemmas.{all_ascend, all_whole, rows_moved}
use Rattle.tq_check.proofs.equal_rows.sorted_keys.Goals as goal

pub sort-requires : goal.sort-requires
sort-requires c = record { keys = c.in_ok-add_keys.ensures.keys (rw c.new-keys.ensures.items (All-nil (IsFresh (state_of c.args.sort_input.now)))) }

-- the sorted keys stand for the collected rows
moved : (s : SortInputState) (rows : List Fragment) (gathered sorted : List SortKey) → map (held s) gathered ≡ held_on side.Left rows → IsPermutation (map (held s) gathered) (map (held s) sorted) → IsPermutation (held_on side.Left rows) (map (held s) sorted)
moved s rows gathered sorted are same = subst (λ l. IsPermutation l (map (held s) sorted)) are same

pub returns-clause-rows : goal.returns-clause-rows
returns-clause-rows c =
    let s = state_of c.args.sort_input.now in
    let rows = c.args.sort_input.now.left.now.items in
    let sorted = c.sort.new.keys.items in
    let are : map (held s) c.add_keys.new.keys.items ≡ held_on side.Left rows = rw c.new-keys.ensures.items at c.in_ok-add_keys.ensures.rows in
    rows_moved s sorted rows (moved s rows c.add_keys.new.keys.items sorted are c.in_ok-sort.ensures.rows)

pub returns-clause-order : goal.returns-clause-order
returns-clause-order c =
    let s = state_of c.args.sort_input.now in
    let sorted = c.sort.new.keys.items in
    record {
      each = c.in_ok-sort.ensures.keys;
      run_starts = c.in_ok-sort.ensures.run_starts;
      rises = c.in_ok-sort.ensures.rises;
      ascend = all_ascend s sorted c.in_ok-sort.ensures.order c.in_ok-sort.ensures.keys;
      whole = all_whole s c.args.sort_input.now.left.now.width sorted (ap (λ (r : RowList). r.items) c.requires.rows) c.requires.same c.requires.columns c.width.ensures.rows c.in_ok-sort.ensures.keys;
    }
