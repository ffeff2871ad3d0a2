use Rattle.std.proofs.Common.{◌∙◌}
use Rattle.tq_draw.proofs.ColumnLemmas.{columns_of_utf8}
use Rattle.tq_draw.proofs.labels.columns_in.Goals as goal

pub returns : goal.returns
returns c = c.width.ensures.value ∙ columns_of_utf8 c.args.text.now c.utf8.text
