-- The steps so far were taken, and there is capacity for the replies of the others.
use Rattle.std.proofs.Common.{◌≡◌, ◌≤◌, length, take, vec_len}
use Rattle.std.specs.Vec.{vec_capacity}
use Rattle.tq_core.specs.Machine.{IsRun}
use Rattle.tq_core.proofs.world.World.run.Given as goal

abbrev pub invariant-steps : goal.invariant-steps
invariant-steps g l = record {
  taken : IsRun (g.O.Oracle.value l.oracle) (take l.step-index l.steps) l.fn.self l.replies.items l.self;
  replied : vec_len l.replies ≡ l.step-index;
  room : length l.steps ≤ vec_capacity l.replies;
}
