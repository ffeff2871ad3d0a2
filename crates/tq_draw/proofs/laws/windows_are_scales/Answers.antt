use Rattle.tq_draw.proofs.ScaleLemmas as scales
use Rattle.tq_draw.proofs.laws.windows_are_scales.Goals as goal

pub returns : goal.returns
returns c = scales.windows_are_scales
