use Rattle.std.proofs.Common.{sym, ap, subst, ◌∙◌}
use Rattle.tq_snapshot.specs.StoreValue.{StoreValue}
use Rattle.tq_snapshot.specs.Sound.{FindsOwn}
use Rattle.tq_snapshot.proofs.FindLemmas.{own_shown, shown_book, stays}
use Rattle.tq_snapshot.proofs.entering.begin.Goals as goal

pub enter_as-requires : goal.enter_as-requires
enter_as-requires g c x = stays g.J.StoreId.catalogue g.J.StoreId.book _ _ x

pub found_in-requires-clause-book : goal.found_in-requires-clause-book
found_in-requires-clause-book g c = ap (λ (x : StoreValue). x.prefix.book) c.get.ensures ∙ (shown_book g.J.StoreId.catalogue g.J.StoreId.book _ c.in-Ok.ensures.1.0 ∙ sym c.requires.book)

pub found_in-requires-clause-own : goal.found_in-requires-clause-own
found_in-requires-clause-own g c =
    subst (λ (x : StoreValue). FindsOwn c.args.observed.now.list c.args.own x.prefix.list) (sym c.get.ensures)
    (own_shown g.J.StoreId.catalogue g.J.StoreId.book _ c.in-Ok.ensures.1.0 c.args.observed.now.list _ c.args.own c.requires.own c.in-Ok.ensures.1.1)
