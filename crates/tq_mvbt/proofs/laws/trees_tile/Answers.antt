use Rattle.tq_mvbt.proofs.Tiled.{tiling}
use Rattle.tq_mvbt.proofs.laws.trees_tile.Goals as goal

pub returns : goal.returns
returns c version nodes roots tree = tiling version nodes roots tree
