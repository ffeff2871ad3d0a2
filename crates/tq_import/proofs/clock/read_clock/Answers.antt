use Rattle.std.proofs.Common.{arith, sym}
use Rattle.std.specs.Prelude.{slice_range}
use Rattle.tq_base.proofs.DateLemmas.{natural_some}
use Rattle.tq_import.proofs.ClockLemmas.{seconds_small}
use Rattle.tq_import.proofs.clock.read_clock.Goals as goal

pub overflow_mul-result : goal.overflow_mul-result
overflow_mul-result c = omega (arith, (natural_some 23 c.in_ok-hours.hours (slice_range c.args.bytes.now 1 3) c.in_ok-hours.ensures).2)

pub overflow_mul-result-2 : goal.overflow_mul-result-2
overflow_mul-result-2 c = omega (arith, (natural_some 59 c.in_ok-minutes.minutes (slice_range c.args.bytes.now 4 6) c.in_ok-minutes.ensures).2)

pub overflow_add-result : goal.overflow_add-result
overflow_add-result c =
    omega (
      arith,
      (natural_some 23 c.in_ok-hours.hours (slice_range c.args.bytes.now 1 3) c.in_ok-hours.ensures).2,
      (natural_some 59 c.in_ok-minutes.minutes (slice_range c.args.bytes.now 4 6) c.in_ok-minutes.ensures).2,
    )

pub overflow_add-result-2 : goal.overflow_add-result-2
overflow_add-result-2 c =
    omega (
      arith,
      (natural_some 23 c.in_ok-hours.hours (slice_range c.args.bytes.now 1 3) c.in_ok-hours.ensures).2,
      (natural_some 59 c.in_ok-minutes.minutes (slice_range c.args.bytes.now 4 6) c.in_ok-minutes.ensures).2,
      seconds_small c.args.bytes.now c.in_ok-seconds.seconds (sym c.in_ok-seconds.ensures),
    )

pub returns-clause-small : goal.returns-clause-small
returns-clause-small c =
    omega (
      arith,
      (natural_some 23 c.in_ok-hours.hours (slice_range c.args.bytes.now 1 3) c.in_ok-hours.ensures).2,
      (natural_some 59 c.in_ok-minutes.minutes (slice_range c.args.bytes.now 4 6) c.in_ok-minutes.ensures).2,
      seconds_small c.args.bytes.now c.in_ok-seconds.seconds (sym c.in_ok-seconds.ensures),
    )
