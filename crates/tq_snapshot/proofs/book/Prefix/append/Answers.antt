use Rattle.std.proofs.Common.{◌≡◌, ◌∙◌, ap}
use Rattle.tq_snapshot.proofs.BookLemmas.{may_append}
use Rattle.tq_snapshot.proofs.book.Prefix.append.Goals as goal

pub compare_exchange-found-requires : goal.compare_exchange-found-requires
compare_exchange-found-requires c =
    let word = c.args.book.now.count_is in
    let offer = c.plain-offer.ensures in
    let pen = c.no_pen-pen.ensures in
    let same : c.self.inside.seen.book ≡ c.args.book.now.count.book = ap (λ k. k.book) c.self.view_is ∙ c.requires.book in (
      ap (λ w. w.tracked) word,
      same,
      pen.0 ∙ same,
      offer.0,
      rw (ap (λ w. w.key) word, pen.1, offer.1, offer.3) (may_append c.self.inside.seen.log c.args.event.now c.self.inside.len c.self.invariant),
    )
