use Rattle.std.proofs.Common.{◌≡◌, ◌++◌, drop, fold, sym, ap, ◌∙◌}
use mathlib.Core.List.{IsPrefix}
use Rattle.tq_snapshot.specs.StoreValue.{StoreValue, absorbed, store_value}
use Rattle.tq_snapshot.proofs.FindLemmas.{goes_on}
use Rattle.tq_snapshot.proofs.StagingLemmas.{hand_all, of_book, publishes}
use Rattle.tq_snapshot.proofs.staging.show_all.Goals as goal

pub publish_as-requires : goal.publish_as-requires
publish_as-requires g c next is =
    let w = c.args.writer in
    let all = w.desk.shown.value.events ++ c.args.pending.now in
    let to = store_value g.J.StoreId.catalogue g.J.StoreId.book all in
    let taken : fold absorbed w.desk.shown.value (drop w.behind w.log.items) ≡ to = hand_all _ _ w.desk.shown.value (drop w.behind w.log.items) c.args.pending.now c.requires.shows c.requires.handed in
    let is_all : next ≡ to = is ∙ taken in
    let more : IsPrefix w.desk.shown.value.events next.events = (c.args.pending.now, sym (ap (λ (v : StoreValue). v.events) is_all)) in
    goes_on g.J.StoreId.catalogue g.J.StoreId.book _ _ w.desk.shown.value next (of_book g.J.StoreId.catalogue g.J.StoreId.book next all is_all) more

pub returns : goal.returns
returns g c =
    let w = c.args.writer in
    let v = c.publish_as.result.0 in
    publishes w.desk.shown.value v.desk.shown.value (store_value g.J.StoreId.catalogue g.J.StoreId.book (w.desk.shown.value.events ++ c.args.pending.now)) (drop w.behind w.log.items) (drop v.behind v.log.items) c.publish_as.result.1
    (hand_all _ _ w.desk.shown.value (drop w.behind w.log.items) c.args.pending.now c.requires.shows c.requires.handed)
    c.publish_as.ensures.values
