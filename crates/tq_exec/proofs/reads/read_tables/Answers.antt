use Rattle.std.proofs.Common.{◌∙◌, ap, get_or, length, subst, sym}
use Rattle.std.specs.Prelude.{All}
use Rattle.tq_exec.specs.Answers.{as_of}
use Rattle.tq_exec.specs.Reads.{AreAllCut, AreRead, IsPieceIn, all_pieces}
use Rattle.tq_exec.proofs.HeldRows.{fit_as_of}
use Rattle.tq_exec.proofs.NeededLemmas.{answer_needed, tables_read_fit}
use Rattle.tq_exec.proofs.ReadLemmas.{pieces_in, pieces_of_table_in, read_in_order}
use Rattle.tq_exec.proofs.reads.read_tables.Goals as goal

-- the pieces have keys and versions of the windows of their tables
pub invariant_of-work-clause-inside : goal.invariant_of-work-clause-inside
invariant_of-work-clause-inside g c =
    let db = c.args.db.now in
    let plan = c.args.plan.now in
    let tables = c.in_ok-tables.tables.items in
    subst (All (IsPieceIn db.events c.args.n plan.window)) (sym (c.deref-2.ensures.value ∙ c.in_ok-pieces.ensures ∙ ap all_pieces c.deref.ensures.value))
    (pieces_in db.catalogue db.events c.args.n plan.window tables
    (λ k d less. let here = c.in_ok-tables.ensures.each k d less in pieces_of_table_in db.catalogue db.events c.args.n plan.window k here.ranges (get_or tables k d).pieces.items here.cut))

pub join_pieces-requires-clause-cut : goal.join_pieces-requires-clause-cut
join_pieces-requires-clause-cut g c =
    let db = c.args.db.now in
    subst (AreAllCut db.events c.args.n c.args.plan.now (length db.catalogue.tables)) (sym c.deref-3.ensures.value) c.in_ok-tables.ensures

-- the list at each place has the rows of the piece there
pub join_pieces-requires-clause-read : goal.join_pieces-requires-clause-read
join_pieces-requires-clause-read g c =
    let db = c.args.db.now in
    subst (λ ps. AreRead db.catalogue db.events c.args.n c.args.plan.now.window ps c.in_ok-lists.lists.items)
    (c.deref-2.ensures.value ∙ c.in_ok-pieces.ensures ∙ ap all_pieces (c.deref.ensures.value ∙ sym c.deref-3.ensures.value))
    (read_in_order db.catalogue db.events c.args.n c.args.plan.now.window c.deref-2.result.now c.in_ok-lists.lists.items c.in_ok-lists.ensures.0 (λ i d less p. c.in_ok-lists.ensures.1 i d less p))

pub returns-clause-fit : goal.returns-clause-fit
returns-clause-fit g c =
    let db = c.args.db.now in
    tables_read_fit db.catalogue (as_of db.events c.args.n) c.args.plan.now c.in_ok-join_pieces.field-0.items c.in_ok-join_pieces.ensures

pub returns-clause-same : goal.returns-clause-same
returns-clause-same g c v t =
    let db = c.args.db.now in
    answer_needed db.catalogue (as_of db.events c.args.n) c.args.plan.now c.in_ok-join_pieces.field-0.items c.in_ok-join_pieces.ensures
    (fit_as_of db.catalogue db.events c.args.n c.count-count.ensures.history) c.requires.over v t
