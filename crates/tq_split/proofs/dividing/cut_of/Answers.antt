use Rattle.csv.specs.Records.{fields_of}
use Rattle.tq_split.proofs.DivisionLemmas.{header_kind}
use Rattle.tq_split.proofs.dividing.cut_of.Goals as goal

pub returns-in-Err-clause-fault : goal.returns-in-Err-clause-fault
returns-in-Err-clause-fault c =
    header_kind c.args.division (fields_of c.args.header.now) c.in-Err.kind c.header_fault.result c.header_fault.ensures.header c.header_fault.ensures.memory c.in-Err.ensures.fault
