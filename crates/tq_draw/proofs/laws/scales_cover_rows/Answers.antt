use Rattle.tq_draw.proofs.ScaleLemmas as scales
use Rattle.tq_draw.proofs.laws.scales_cover_rows.Goals as goal

pub returns : goal.returns
returns c = scales.scales_cover_rows
