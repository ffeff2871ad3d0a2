use Rattle.std.proofs.Common.{◌≡◌, ◌++◌, List, refl, sym, ap, subst, ◌∙◌, append-nil}
use Rattle.tq_event.specs.declared.event.Event.{Event}
use Rattle.tq_snapshot.specs.OpenIndex.{IsOpenIndex}
use Rattle.tq_snapshot.specs.StoreValue.{StoreValue, store_value}
use Rattle.tq_snapshot.proofs.WriterLemmas.{sound_shown}
use Rattle.tq_snapshot.proofs.writer.Writer.publish.Goals as goal

pub invariant_of-self-2 : goal.invariant_of-self-2
invariant_of-self-2 g c =
    let catalogue = g.J.StoreId.catalogue in
    let book = g.J.StoreId.book in
    let before = c.self.inside.inner.desk.shown.value.events in
    let pending = c.self.inside.pending.items in
    let all : List Event = before ++ pending in
    let s = c.self.invariant.1 in
    let published : c.events-published.result ≡ before = c.events-published.ensures ∙ ap (λ (v : StoreValue). v.events) c.published.ensures in
    let written : c.commit.new.prefix.list ≡ all = c.if-not-commit.ensures.done refl ∙ (λ i. published i ++ c.deref.ensures.value i) in
    let shown : c.show.new.inner.desk.shown.value ≡ store_value catalogue book all
    = c.in_ok-show.ensures.0 ∙ ap (store_value catalogue book) (λ i. (c.stage-sent.ensures.shown i).events ++ c.deref-3.ensures.value i) in
    let every : all ≡ c.show.new.inner.desk.shown.value.events ++ c.clear.new.self.items
    = sym (ap (λ (v : StoreValue). v.events) shown) ∙ (sym (append-nil c.show.new.inner.desk.shown.value.events) ∙ ap (λ (l : List Event). c.show.new.inner.desk.shown.value.events ++ l) (sym c.clear.ensures.items)) in (
      c.self.invariant.0,
      sound_shown catalogue book all _ _ c.clear.new.self.items _ _ shown c.in_ok-show.ensures.1 c.clear.ensures.items (c.commit.ensures.book ∙ s.named) written s.history s.room s.small,
      subst (λ (l : List Event). IsOpenIndex l c.self.inside.rows) every c.self.invariant.2,
      c.self.invariant.3,
    )
