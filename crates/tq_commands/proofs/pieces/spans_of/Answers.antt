use Rattle.std.proofs.Common.{◌≡◌, arith, subst}
use Rattle.tq_commands.specs.Spans.{Tile}
use Rattle.tq_commands.proofs.SpanLemmas.{tile_more}
use Rattle.tq_commands.proofs.pieces.spans_of.Goals as goal
use Rattle.tq_commands.proofs.pieces.spans_of.Goals.{in-Some+then-start-end+then-end-len+in_ok-push, in_default, then-start-len+in_ok-push-2, else-start-len}

pub pieces-preserved : goal.pieces-preserved
pieces-preserved g c = elim c.match-cut_near.branch [
  | in-Some+then-start-end+then-end-len+in_ok-push w ↦ record {
    tile = rw (w.spans-is, w.start-is, w.in_ok-push.ensures.items) (tile_more c.pieces.spans.items 0 c.pieces.start w.in-Some.end c.pieces.invariant.tile w.if-start-end.true);
    within = rw w.start-is (omega (arith, w.if-end-len.true));
  }
  | in_default w ↦ record { tile = rw (w.spans-is, w.start-is) c.pieces.invariant.tile; within = rw w.start-is c.pieces.invariant.within }
]

pub returns : goal.returns
returns g c = elim c.if-start-len.branch [
  | then-start-len+in_ok-push-2 w ↦ rw (w.spans-is, w.in_ok-push-2.ensures.items) (tile_more c.pieces.spans.items 0 c.pieces.start c.args.len c.pieces.invariant.tile w.if-start-len.true)
  | else-start-len w ↦
      let here : c.pieces.start ≡ c.args.len = omega (arith, w.if-start-len.false, c.pieces.invariant.within) in
      rw w.spans-is (subst (Tile c.pieces.spans.items 0) here c.pieces.invariant.tile)
]
