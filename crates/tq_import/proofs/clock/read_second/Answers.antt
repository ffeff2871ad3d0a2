use Rattle.std.proofs.Common.{◌∙◌, length, sym, take}
use Rattle.tq_import.proofs.ClockLemmas.{day_within}
use Rattle.tq_import.proofs.clock.read_second.Goals as goal

pub since_1970-requires-clause-early : goal.since_1970-requires-clause-early
since_1970-requires-clause-early c =
    day_within c.args.format.now (take (length c.args.format.now) c.args.bytes.now) c.in-Some.day (sym c.in_ok-day.ensures ∙ c.in-Some.is)
