use Rattle.std.proofs.Common.{arith}
use Rattle.std.proofs.lemmas.Result.{IfOk-weaker}
use Rattle.std.proofs.Common.{◌∙◌, subst}
use Rattle.tq_scan.specs.declared.window.Part.{Part}
use Rattle.tq_store.specs.Valid.{ArePart}
use Rattle.tq_store.proofs.ValidLemmas.{keys_in, valid_in, whole_within}
use Rattle.tq_store.proofs.db.Db.rows_in.Goals as goal

pub rows_of_part-requires-clause-inside : goal.rows_of_part-requires-clause-inside
rows_of_part-requires-clause-inside c = whole_within c.window.result _ c.whole-whole.result c.window.ensures c.whole-whole.ensures

pub returns-clause-valid : goal.returns-clause-valid
returns-clause-valid c =
    let counted = c.count-count.ensures.count in
    let few = c.count-count.ensures.few in
    let events = c.args.self.now.events in
    IfOk-weaker c.rows_of_part.result _ _
    (λ rows part. valid_in c.args.self.now.catalogue events c.count-count.ensures.history (omega (arith, counted, few)) c.args.n c.args.table c.requires c.args.range.now c.args.period.now rows.items
    (subst (λ (p : Part). ArePart events c.args.n c.args.table c.args.range.now c.args.period.now p rows.items) (c.whole-whole.ensures ∙ c.window.ensures) part))
    c.rows_of_part.ensures.rows

pub returns-clause-keys : goal.returns-clause-keys
returns-clause-keys c =
    IfOk-weaker c.rows_of_part.result _ _
    (λ rows part. keys_in c.args.self.now.events c.args.n c.args.table c.args.range.now c.args.period.now c.whole-whole.result rows.items part)
    c.rows_of_part.ensures.rows
