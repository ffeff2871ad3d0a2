use Rattle.tq_draw.proofs.BarLemmas as bars
use Rattle.tq_draw.proofs.laws.bars_match_rows.Goals as goal

pub returns : goal.returns
returns c = bars.bars_match_rows
