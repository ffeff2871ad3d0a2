use Rattle.tq_draw.proofs.EdgeLemmas as edges
use Rattle.tq_draw.proofs.laws.cells_tile.Goals as goal

pub returns : goal.returns
returns c = edges.cells_tile
