-- The texts so far are empty.
use Rattle.std.proofs.Common.{◌≡◌, [], replicate}
use Rattle.tq_split.specs.TableParts.{texts_of}
use Rattle.tq_split.proofs.dividing.empty_texts.Given as goal

abbrev pub invariant-parts : goal.invariant-parts
invariant-parts l = texts_of l.texts.items ≡ replicate l.counter []
