use Rattle.std.proofs.Common.{◌≡◌, ◌∙◌, ap, rules, arith, get_or, take, drop, ◌/◌}
use Rattle.tq_mvbt.specs.declared.entry.Entry.{Entry}
use Rattle.tq_mvbt.proofs.Divide.{divided_by}
use Rattle.tq_mvbt.proofs.steps.push_two.Goals as goal

pub returns : goal.returns
returns c =
    let blank : Entry = record { low = 0; high = 0; born = 0; dead = 0; child = 0 } in
    let sorted = c.sort_copied.new.copied.items in
    let front : c.split_at.result.0.now ≡ take (c.len.result / 2) sorted = c.split_at.ensures.front ∙ ap (λ xs. take (c.len.result / 2) xs) c.as_slice.ensures.value in
    let back : c.split_at.result.1.now ≡ drop (c.len.result / 2) sorted = c.split_at.ensures.back ∙ ap (λ xs. drop (c.len.result / 2) xs) c.as_slice.ensures.value in
    record {
      lower = c.split_at.result.0.now;
      upper = c.split_at.result.1.now;
      middle = (get_or c.split_at.result.1.now 0 blank).low;
      divided = divided_by c.args.copied.now.items sorted c.split_at.result.0.now c.split_at.result.1.now c.len.result blank (c.len.ensures.value ∙ c.sort_copied.ensures.len) front back (omega arith) c.sort_copied.ensures.same c.sort_copied.ensures.len c.sort_copied.ensures.sorted;
      between = c.push_node.new.nodes;
      lower_entry = c.push_node.result;
      upper_entry = c.push_node-2.result;
      puts_lower = c.push_node.ensures;
      puts_upper = c.push_node-2.ensures;
      added_is = search rules;
    }
