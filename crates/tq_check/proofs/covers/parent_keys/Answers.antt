use Rattle.std.proofs.Common.{◌≡◌, List, map, subst}
use Rattle.std.specs.Prelude.{IsPermutation}
use Rattle.std.proofs.lemmas.List.Elements.{All-nil}
use Rattle.tq_base.specs.Keys.{held, held_on, IsFresh, Held}
use Rattle.tq_base.specs.SortInputs.{state_of}
use Rattle.tq_base.specs.declared.sort_input.Side.TheVariants as side
use Rattle.tq_check.proofs.covers.parent_keys.Goals as goal

pub sort-requires : goal.sort-requires
sort-requires c = record { keys = c.in_ok-add_keys.ensures.keys (rw c.new-keys.ensures.items (All-nil (IsFresh (state_of c.args.sort_input.now)))) }

pub returns : goal.returns
returns c =
    let s = state_of c.args.sort_input.now in
    let are : map (held s) c.add_keys.new.keys.items ≡ held_on side.Right s.right = rw c.new-keys.ensures.items at c.in_ok-add_keys.ensures.rows in
    record {
      each = c.in_ok-sort.ensures.keys;
      sorted = c.in_ok-sort.ensures.order;
      permuted = subst (λ (l : List Held). IsPermutation l (map (held s) c.sort.new.keys.items)) are c.in_ok-sort.ensures.rows;
    }
