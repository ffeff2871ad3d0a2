use Rattle.std.proofs.Common.{◌++◌, ◌∙◌, take, sym, ap, append-nil}
use Rattle.std.proofs.lemmas.List.{drop_all}
use Rattle.tq_reference.proofs.HistoryLemmas.{valid_from, valid_from-first}
use Rattle.tq_reference.proofs.history.valid_at.Goals as goal

pub returns : goal.returns
returns c =
    let events = c.args.events.now in
    let rows = c.events.rows.items in
    let valid = valid_from c.args.table c.args.instant in
    sym (append-nil rows)
    ∙ ap (λ l. rows ++ valid c.events.number l) (sym (drop_all c.events.place (take c.min.result events) c.events-test.false))
    ∙ c.events.invariant.0
    ∙ ap (λ m. valid 0 (take m events)) c.min.ensures
    ∙ valid_from-first c.args.table c.args.instant c.args.n events
