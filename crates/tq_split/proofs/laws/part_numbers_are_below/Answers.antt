use Rattle.tq_split.proofs.PartNumberLemmas.{numbers_below}
use Rattle.tq_split.proofs.laws.part_numbers_are_below.Goals as goal

pub returns : goal.returns
returns c parts value some = numbers_below parts value some
