use Rattle.std.proofs.Common.{◌≡◌, map}
use Rattle.std.specs.List.{range_with_len}
use Rattle.tq_report.specs.Layouts.{key_of, lead_of}
use Rattle.tq_report.proofs.layout.leads_of.Given as goal

abbrev pub invariant-columns : goal.invariant-columns
invariant-columns l =
    map (λ lead. lead.items) l.leads.items ≡ map (λ column. lead_of l.format (key_of l.columns column)) (range_with_len 0 l.column)
