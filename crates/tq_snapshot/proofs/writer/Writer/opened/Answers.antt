use Rattle.std.proofs.Common.{◌≡◌, ◌++◌, List, length, refl, sym, ap, subst, ◌∙◌, append-nil, rules}
use Rattle.tq_base.specs.declared.catalogue.Catalogue.{Catalogue}
use Rattle.tq_event.specs.declared.event.Event.{Event}
use Rattle.tq_snapshot.specs.OpenIndex.{IsOpenIndex}
use Rattle.tq_snapshot.specs.StoreValue.{StoreValue, PrefixValue, store_value, known}
use Rattle.tq_snapshot.proofs.WriterLemmas.{sound_shown}
use Rattle.tq_snapshot.proofs.writer.Writer.opened.Goals as goal

pub new-requires-clause-rule : goal.new-requires-clause-rule
new-requires-clause-rule g c =
    let b = g.J.StoreId.book in
    let all = c.args.events.items in
    let named : c.commit.new.prefix.book ≡ b = c.commit.ensures.book ∙ (ap (λ (k : PrefixValue). k.book) c.opened.invariant ∙ (c.opened.view_is ∙ c.requires.named.0)) in
    let list : c.commit.new.prefix.list ≡ all = c.if-not-commit.ensures.done refl ∙ ap (λ (l : List Event). l ++ c.deref.result.now) c.none.ensures ∙ c.deref.ensures.value in
    let prefix : c.copy.result ≡ known b all = c.copy.ensures ∙ (λ i. known (named i) (list i)) in
    let catalogue : c.in_ok-try_copy.field-0 ≡ g.J.StoreId.catalogue = c.in_ok-try_copy.ensures ∙ c.requires.named.1 in
    let first : c.in_ok-first.first ≡ store_value g.J.StoreId.catalogue b all = c.in_ok-first.ensures ∙ (λ i. record { catalogue = catalogue i; events = c.deref-3.ensures.value i; prefix = prefix i }) in
    (first ∙ ap (store_value g.J.StoreId.catalogue b) (sym (ap (λ (v : StoreValue). v.events) first)), search rules)

pub invariant_of-result : goal.invariant_of-result
invariant_of-result g c =
    let b = g.J.StoreId.book in
    let all = c.args.events.items in
    let named : c.commit.new.prefix.book ≡ b = c.commit.ensures.book ∙ (ap (λ (k : PrefixValue). k.book) c.opened.invariant ∙ (c.opened.view_is ∙ c.requires.named.0)) in
    let list : c.commit.new.prefix.list ≡ all = c.if-not-commit.ensures.done refl ∙ ap (λ (l : List Event). l ++ c.deref.result.now) c.none.ensures ∙ c.deref.ensures.value in
    let prefix : c.copy.result ≡ known b all = c.copy.ensures ∙ (λ i. known (named i) (list i)) in
    let catalogue : c.in_ok-try_copy.field-0 ≡ g.J.StoreId.catalogue = c.in_ok-try_copy.ensures ∙ c.requires.named.1 in
    let first : c.in_ok-first.first ≡ store_value g.J.StoreId.catalogue b all = c.in_ok-first.ensures ∙ (λ i. record { catalogue = catalogue i; events = c.deref-3.ensures.value i; prefix = prefix i }) in
    let shown : c.in_ok-inner.inner.desk.shown.value ≡ store_value g.J.StoreId.catalogue b all = c.in_ok-inner.ensures.0 ∙ first in
    let every : all ≡ c.in_ok-inner.inner.desk.shown.value.events ++ c.new-2.result.items
    = sym (ap (λ (v : StoreValue). v.events) shown) ∙ (sym (append-nil c.in_ok-inner.inner.desk.shown.value.events) ∙ ap (λ (l : List Event). c.in_ok-inner.inner.desk.shown.value.events ++ l) (sym c.new-2.ensures.items)) in (
      c.opened.view_is ∙ c.requires.named.0,
      sound_shown g.J.StoreId.catalogue b all _ _ c.new-2.result.items _ _ shown c.in_ok-inner.ensures.1 c.new-2.ensures.items named list c.requires.history c.requires.limit.0 c.requires.limit.1,
      subst (λ (l : List Event). IsOpenIndex l c.in_ok-rows.rows) (c.deref-2.ensures.value ∙ every) c.in_ok-rows.ensures.index,
      c.in_ok-rows.ensures.tables ∙ ap (λ (k : Catalogue). length k.tables) c.requires.named.1,
    )
