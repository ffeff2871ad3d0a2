use Rattle.std.proofs.Common.{◌∙◌, ap}
use Rattle.tq_snapshot.specs.StoreValue.{PrefixValue}
use Rattle.tq_snapshot.proofs.FindLemmas.{own_all, shown_book}
use Rattle.tq_snapshot.proofs.reader.Reader.text_with.Goals as goal

pub invariant_of-self : goal.invariant_of-self
invariant_of-self g c =
    let shown = c.in-Ok.ensures.shown in
    let found = c.in-Ok.ensures.found in (
      ap (λ (p : PrefixValue). p.book) shown.1 ∙ shown_book g.J.StoreId.catalogue g.J.StoreId.book _ shown.0,
      own_all c.in-Ok.prefix.list _ c.len-self-inside.result c.len-self-inside.ensures (c.leave.ensures.1 ∙ found.2),
    )
