use Rattle.tq_import.proofs.AmountLemmas.{units_exact}
use Rattle.tq_import.proofs.laws.units_are_exact.Goals as goal

pub returns : goal.returns
returns c format places bytes units e = units_exact format places bytes units e
