-- The fault of a text that is not a valid statement.
use Rattle.tq_sql.specs.declared.fault.SqlFault.{SqlFault}
use Rattle.tq_sql.specs.declared.fault.SqlFaultKind.TheVariants.{OutOfMemory}

-- if an allocation failed
abbrev pub out_of_memory : SqlFault
out_of_memory = record { kind = OutOfMemory; at = 0 }
