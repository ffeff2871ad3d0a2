use Rattle.tq_base.proofs.SlotLemmas.{text_ready}
use Rattle.tq_base.proofs.rows.push_shown.Goals as goal

pub copied_in-requires : goal.copied_in-requires
copied_in-requires c = text_ready _ c.args.texts.now c.requires
