-- What was made so far.
use Rattle.std.proofs.Common.{◌≡◌, ◌++◌, map}
use Rattle.std.specs.Vec.Iter.{into_iter_items}
use Rattle.tq_exec.specs.declared.answer_parts.Made.{Made}
use Rattle.tq_exec.proofs.answer_parts.texts_of.Given as goal

abbrev pub invariant-each : goal.invariant-each
invariant-each l = record {
  reads : l.yielded ++ into_iter_items l.one-iterator ≡ l.fn.made.items;
  made : l.texts.items ≡ map (λ (one : Made). one.text) l.yielded;
}
