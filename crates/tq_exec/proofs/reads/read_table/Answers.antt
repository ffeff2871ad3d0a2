use Rattle.std.proofs.Common.{◌∙◌, ap, arith, subst, sym}
use Rattle.std.specs.Prelude.{All}
use Rattle.std.proofs.lemmas.Result.{IfOk-weaker}
use Rattle.tq_base.specs.declared.catalogue.Catalogue.{Catalogue}
use Rattle.tq_store.specs.Valid.{width_of}
use Rattle.tq_table.specs.Merging.{AreOfWidth}
use Rattle.tq_exec.proofs.ReadLemmas.{table_is_read, table_is_wide}
use Rattle.tq_exec.proofs.reads.read_table.Goals as goal

pub chained-requires : goal.chained-requires
chained-requires c =
    let table = c.args.pieces.now in
    let db = c.args.db.now in
    let counted = c.count-count.ensures.count in
    let few = c.count-count.ensures.few in
    subst (λ width. All (AreOfWidth width) c.args.lists.items) (sym (c.width_of.ensures ∙ ap (λ (k : Catalogue). width_of k table.table) c.catalogue.ensures))
    (table_is_wide db.catalogue db.events c.args.n c.args.plan.now.window table.table c.count-count.ensures.history (omega (arith, counted, few)) c.requires.within c.parts_are_valid.ensures c.requires.cut.ranges table.pieces.items c.args.lists.items
    c.requires.cut.cut c.requires.read)

pub returns : goal.returns
returns c =
    let db = c.args.db.now in
    let counted = c.count-count.ensures.count in
    let few = c.count-count.ensures.few in
    IfOk-weaker c.chained.result _ _
    (λ rows are. table_is_read db.catalogue db.events c.args.n c.args.plan.now c.count-count.ensures.history (omega (arith, counted, few)) c.requires.within c.parts_are_valid.ensures c.args.pieces.now c.args.lists.items rows
    c.requires.cut c.requires.read are)
    c.chained.ensures.rows
