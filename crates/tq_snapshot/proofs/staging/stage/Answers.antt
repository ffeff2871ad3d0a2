use Rattle.std.proofs.Common.{◌≡◌, ◌+◌, ◌-◌, ◌++◌, ◌∷◌, [], List, length, take, drop, sym, ap, subst, ◌∙◌, arith, length-append}
use Rattle.tq_event.specs.declared.event.Event.{Event}
use Rattle.tq_snapshot.specs.StoreValue.{Arrival, PrefixValue, known}
use Rattle.tq_snapshot.specs.Sound.{IsStaged}
use Rattle.tq_snapshot.proofs.StagingLemmas.{hand_one, take_behind}
use Rattle.tq_snapshot.proofs.staging.stage.Goals as goal

pub pending-preserved : goal.pending-preserved
pending-preserved g c =
    let b = c.args.prefix.now.book in
    let pending = c.args.pending.now in
    let sent = c.pending.sent in
    let e = c.index-pending-sent.result in
    let before = c.pending.inner in
    let after = c.append.new.self in
    let first = c.args.inner.now.desk.shown.value.events in
    let waiting : List Arrival = drop before.behind before.log.items in
    let waiting' : List Arrival = drop after.behind after.log.items in
    let whole : c.args.prefix.now.list ≡ first ++ pending = c.requires.whole in
    let many : length c.args.prefix.now.list ≡ length first + length pending = ap length whole ∙ length-append first pending in
    let len = c.len.ensures in
    let cut : take (c.len.result - length pending + sent + 1) c.args.prefix.now.list ≡ first ++ take (sent + 1) pending
    = ap (λ n. take n c.args.prefix.now.list) (omega (arith, many, len)) ∙ ap (take (length first + (sent + 1))) whole ∙ take_behind first pending (sent + 1) in
    let prefix : c.first.result ≡ known b (first ++ take (sent + 1) pending) = c.first.ensures ∙ ap (known b) cut in
    let entry : c.in-Ok.entry ≡ record { event = e; prefix = known b (first ++ take (sent + 1) pending) } = c.in-Ok.ensures ∙ ap (λ (f : PrefixValue). record { event = e; prefix = f }) prefix in
    let shown = c.pending.invariant.shown in
    let events : before.desk.shown.value.events ≡ first = ap (λ v. v.events) shown in
    record {
      shown = ap (λ d. d.shown.value) c.append.ensures.desk ∙ shown;
      handed = subst (λ (z : List Event). IsStaged b z waiting' pending (sent + 1)) (sym events ∙ sym (ap (λ d. d.shown.value.events) c.append.ensures.desk))
          (hand_one b first waiting waiting' pending sent e (subst (λ (z : List Event). IsStaged b z waiting pending sent) events c.pending.invariant.handed) c.pending-test.true c.index-pending-sent.is
          (c.in-Ok-append.ensures.pending ∙ ap (λ (z : Arrival). waiting ++ z ∷ []) entry));
    }
