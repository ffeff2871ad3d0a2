use Rattle.std.proofs.Common.{◌≡◌, ◌∙◌, [], drop}
use Rattle.std.proofs.lemmas.List.{drop_all}
use Rattle.tq_scan.proofs.Tiles.{parts_tile}
use Rattle.tq_scan.proofs.cutting.cut.Goals as goal

pub returns-clause-parts : goal.returns-clause-parts
returns-clause-parts c =
    let stop : drop c.loop-cut.cut-index c.args.key_cuts.now ≡ [] = drop_all _ _ c.loop-cut-test.false in
    c.in_ok-push_parts-2.ensures ∙ rw stop at c.loop-cut.invariant

pub returns-clause-tiles : goal.returns-clause-tiles
returns-clause-tiles c = rw (returns-clause-parts c) (parts_tile c.args.window.now c.args.key_cuts.now c.args.version_cuts.now c.requires)
