use Rattle.std.proofs.Common.{◌≡◌, ◌<◌, ◌++◌, ◌∷◌, [], List, length, sym, ap, subst, ◌∙◌, append_assoc}
use Rattle.tq_event.specs.declared.event.Event.{Event}
use Rattle.tq_event.specs.History.{IsAdmissible}
use Rattle.tq_snapshot.specs.OpenIndex.{IsOpenIndex}
use Rattle.tq_snapshot.specs.Calls.{WriterState, all_of}
use Rattle.tq_snapshot.specs.StoreValue.{StoreValue}
use Rattle.tq_snapshot.proofs.WriterLemmas.{sound_grows}
use Rattle.tq_snapshot.proofs.writer.Writer.append.Goals as goal

pub take-requires-clause-follows : goal.take-requires-clause-follows
take-requires-clause-follows g c =
    let shown = c.self.inside.inner.desk.shown.value.events in
    let published : c.events-published.result ≡ shown = c.events-published.ensures ∙ ap (λ (v : StoreValue). v.events) c.published.ensures in
    let pending : c.deref.result.now ≡ c.self.inside.pending.items = c.deref.ensures.value ∙ c.reserve.ensures.items in
    let all : c.events-published.result ++ c.deref.result.now ≡ shown ++ c.self.inside.pending.items = λ i. published i ++ pending i in
    record {
      catalogue = g.J.StoreId.catalogue;
      same = sym c.self.invariant.3;
      admissible = subst (λ (l : List Event). IsAdmissible g.J.StoreId.catalogue l c.args.event) (sym all)
          (subst (λ (s : WriterState). IsAdmissible g.J.StoreId.catalogue (all_of s) c.args.event) (sym c.self.view_is) c.requires.admissible);
    }

pub invariant_of-self-2 : goal.invariant_of-self-2
invariant_of-self-2 g c =
    let shown = c.self.inside.inner.desk.shown.value.events in
    let e = c.args.event in
    let published : c.events-published.result ≡ shown = c.events-published.ensures ∙ ap (λ (v : StoreValue). v.events) c.published.ensures in
    let pending : c.deref.result.now ≡ c.self.inside.pending.items = c.deref.ensures.value ∙ c.reserve.ensures.items in
    let all : c.events-published.result ++ c.deref.result.now ≡ shown ++ c.self.inside.pending.items = λ i. published i ++ pending i in
    let pushed : c.push_reserved.new.self.items ≡ c.self.inside.pending.items ++ e ∷ [] = c.push_reserved.ensures.items ∙ ap (λ (l : List Event). l ++ e ∷ []) c.reserve.ensures.items in
    let more : (c.events-published.result ++ c.deref.result.now) ++ e ∷ [] ≡ shown ++ c.push_reserved.new.self.items
    = ap (λ (l : List Event). l ++ e ∷ []) all ∙ (append_assoc shown c.self.inside.pending.items (e ∷ []) ∙ ap (λ (l : List Event). shown ++ l) (sym pushed)) in (
      c.self.invariant.0,
      sound_grows _ _ _ _ c.self.inside.pending.items _ _ _ c.push_reserved.new.self.items e c.self.invariant.1 pushed
          (subst (λ (s : WriterState). IsAdmissible g.J.StoreId.catalogue (all_of s) e) (sym c.self.view_is) c.requires.admissible)
          (subst (λ (s : WriterState). length (all_of s) < s.limit) (sym c.self.view_is) c.requires.room),
      subst (λ (l : List Event). IsOpenIndex l c.take.new.self) more c.in_ok-take.ensures.ok,
      c.take.ensures.tables ∙ c.self.invariant.3,
    )
