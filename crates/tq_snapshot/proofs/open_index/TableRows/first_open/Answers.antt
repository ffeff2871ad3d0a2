use Rattle.std.proofs.Common.{◌≡◌, ◌++◌, ◌∙◌, true, false, sym}
use Rattle.tq_store.proofs.AdmissibleLemmas.{open_before}
use Rattle.tq_snapshot.proofs.OpenLemmas.{first_is, late_is, none_is}
use Rattle.tq_snapshot.proofs.open_index.TableRows.first_open.Goals as goal

pub returns-then-is_before-clause-row : goal.returns-then-is_before-clause-row
returns-then-is_before-clause-row c =
    first_is (c.args.published.now ++ c.args.pending.now) c.args.table c.requires.rows.good c.args.values.now c.args.at c.in-Some.row c.in-Some.ensures.member c.in-Some.ensures.least
    (c.is_before.ensures.0 c.if-is_before.true)

pub returns-then-is_before-clause-opened : goal.returns-then-is_before-clause-opened
returns-then-is_before-clause-opened c = open_before (c.args.published.now ++ c.args.pending.now) c.args.table c.in-Some.row c.args.at (c.is_before.ensures.0 c.if-is_before.true)

pub returns-else-is_before-clause-row : goal.returns-else-is_before-clause-row
returns-else-is_before-clause-row c =
    late_is (c.args.published.now ++ c.args.pending.now) c.args.table c.requires.rows.good c.args.values.now c.args.at c.in-Some.row c.requires.ordered c.in-Some.ensures.member c.in-Some.ensures.least
    (λ there. let wrong : true ≡ false = sym (c.is_before.ensures.1 there) ∙ c.if-is_before.false in cc)

pub returns-in-None-clause-row : goal.returns-in-None-clause-row
returns-in-None-clause-row c = none_is (c.args.published.now ++ c.args.pending.now) c.args.table c.requires.rows.good c.args.values.now c.args.at c.in-None.ensures.member
