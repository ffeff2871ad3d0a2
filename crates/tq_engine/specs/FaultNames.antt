-- The names of faults that `tq` prints.
use Rattle.std.specs.Prelude.{ℕ, List, codes}
use Rattle.tq_event.specs.declared.fault.LoadFaultKind.{LoadFaultKind}
use Rattle.tq_event.specs.declared.fault.LoadFaultKind.TheVariants as load
use Rattle.tq_plan.specs.declared.fault.PlanFault.{PlanFault}
use Rattle.tq_plan.specs.declared.fault.PlanFault.TheVariants as plan
use Rattle.tq_sql.specs.declared.fault.SqlFaultKind.{SqlFaultKind}
use Rattle.tq_sql.specs.declared.fault.SqlFaultKind.TheVariants as sql

-- The name of a fault of a file. (This project's own.)
abbrev pub load_name : LoadFaultKind → List ℕ
load_name load.BadHeader = codes "BadHeader"
load_name load.DuplicateName = codes "DuplicateName"
load_name load.FieldCount = codes "FieldCount"
load_name load.BadInt = codes "BadInt"
load_name load.TextTooLong = codes "TextTooLong"
load_name load.BadPeriod = codes "BadPeriod"
load_name load.NotUtf8 = codes "NotUtf8"
load_name load.TooManyTables = codes "TooManyTables"
load_name load.TooManyColumns = codes "TooManyColumns"
load_name load.TooManyEvents = codes "TooManyEvents"
load_name load.OutOfMemory = codes "OutOfMemory"

-- The name of a fault of a statement's text. (This project's own.)
abbrev pub sql_name : SqlFaultKind → List ℕ
sql_name sql.BadByte = codes "BadByte"
sql_name sql.UnexpectedToken = codes "UnexpectedToken"
sql_name sql.NumberTooLarge = codes "NumberTooLarge"
sql_name sql.UnclosedText = codes "UnclosedText"
sql_name sql.TooDeep = codes "TooDeep"
sql_name sql.TooLong = codes "TooLong"
sql_name sql.OutOfMemory = codes "OutOfMemory"

-- The name of a fault of a plan. (This project's own.)
abbrev pub plan_name : PlanFault → List ℕ
plan_name plan.UnknownTable = codes "UnknownTable"
plan_name plan.UnknownColumn = codes "UnknownColumn"
plan_name plan.AmbiguousColumn = codes "AmbiguousColumn"
plan_name plan.DuplicateAlias = codes "DuplicateAlias"
plan_name plan.TypeMismatch = codes "TypeMismatch"
plan_name plan.NotGrouped = codes "NotGrouped"
plan_name plan.SumNeedsGroup = codes "SumNeedsGroup"
plan_name plan.SumOfText = codes "SumOfText"
plan_name plan.UnequalColumns = codes "UnequalColumns"
plan_name plan.BadWindow = codes "BadWindow"
plan_name plan.OutOfMemory = codes "OutOfMemory"
