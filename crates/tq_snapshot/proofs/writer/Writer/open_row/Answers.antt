use Rattle.std.proofs.Common.{◌≡◌, ◌++◌, List, ap, subst, ◌∙◌}
use Rattle.std.specs.Prelude.{IfSome}
use Rattle.tq_event.specs.declared.event.Event.{Event}
use Rattle.tq_event.specs.History.{IsOpenBefore}
use Rattle.tq_snapshot.specs.Calls.{all_of}
use Rattle.tq_snapshot.specs.StoreValue.{StoreValue}
use Rattle.tq_snapshot.proofs.writer.Writer.open_row.Goals as goal

pub returns-clause-opened : goal.returns-clause-opened
returns-clause-opened g c =
    let published : c.events-published.result ≡ c.self.inside.inner.desk.shown.value.events = c.events-published.ensures ∙ ap (λ (v : StoreValue). v.events) c.published.ensures in
    let all : c.events-published.result ++ c.deref.result.now ≡ all_of c.args.self.now = (λ i. published i ++ c.deref.ensures.value i) ∙ ap all_of c.self.view_is in
    subst (λ (l : List Event). IfSome c.open_row.result (λ row. IsOpenBefore l c.args.table row c.args.at)) all c.open_row.ensures.opened
