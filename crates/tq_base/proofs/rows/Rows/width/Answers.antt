use Rattle.std.proofs.Common.{◌≡◌, length, subst}
use Rattle.std.specs.Prelude.{All}
use Rattle.tq_base.specs.declared.fragment.Fragment.{Fragment}
use Rattle.tq_base.specs.RowLists.{RowList}
use Rattle.tq_base.proofs.SlotLemmas.{widths_seen}
use Rattle.tq_base.proofs.rows.Rows.width.Goals as goal

pub returns-then-has_all_columns-clause-rows : goal.returns-then-has_all_columns-clause-rows
returns-then-has_all_columns-clause-rows c =
    subst (λ (v : RowList). All (λ (row : Fragment). length row.values ≡ v.width) v.items) c.self.view_is
    (widths_seen c.self.inside.slots.items c.self.inside.dense.width c.self.inside.dense.items c.width-kept.ensures.rows)

pub returns-clause-rows : goal.returns-clause-rows
returns-clause-rows c =
    subst (λ (v : RowList). All (λ (row : Fragment). length row.values ≡ v.width) v.items) c.self.view_is
    (widths_seen c.self.inside.slots.items c.self.inside.dense.width c.self.inside.dense.items c.width-kept.ensures.rows)
