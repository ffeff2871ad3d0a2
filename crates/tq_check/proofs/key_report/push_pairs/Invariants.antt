use Rattle.std.proofs.Common.{◌≡◌, ◌++◌, take}
use Rattle.std.specs.List.{flat_map}
use Rattle.tq_check.specs.KeyReports.{pair_text}
use Rattle.tq_check.proofs.key_report.push_pairs.Given as goal

abbrev pub invariant-pairs : goal.invariant-pairs
invariant-pairs l = l.text.items ≡ l.initial.text.items ++ flat_map (pair_text l.form l.finding l.fn.rows.items) (take l.pair-index l.fn.pairs)
