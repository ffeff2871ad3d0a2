-- The cuts so far follow one another up to the rest of the window; the first bound cuts it.
use Rattle.std.proofs.Common.{◌≡◌, ◌+◌, ◌<◌, ◌≤◌, length}
use Rattle.tq_plan.specs.Cuts.{Follow}
use Rattle.tq_plan.proofs.cuts.cut_window.Given as goal

abbrev pub invariant-pieces : goal.invariant-pieces
invariant-pieces l = record {
  follow : Follow l.window.start l.rest.start l.cuts.items;
  end : l.rest.end ≡ l.window.end;
  few : length l.cuts.items + 1 ≤ l.piece;
  first : l.piece ≡ 1 → l.rest.start ≡ l.window.start;
  several : 2 ≤ l.piece → 0 < length l.bounds → 0 < length l.cuts.items;
}
