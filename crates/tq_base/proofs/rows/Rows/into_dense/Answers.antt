use Rattle.std.proofs.Common.{◌∙◌, refl, sym}
use Rattle.tq_base.proofs.SlotLemmas.{seen_dense}
use Rattle.tq_base.proofs.rows.Rows.into_dense.Goals as goal

pub returns-then-has_all_columns : goal.returns-then-has_all_columns
returns-then-has_all_columns c =
    seen_dense c.self.inside.slots.items c.self.inside.dense c.args.self (sym c.deref.ensures.value ∙ c.if-has_all_columns.ensures.all refl) c.self.view_is
