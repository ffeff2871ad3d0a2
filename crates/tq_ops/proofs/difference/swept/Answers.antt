use Rattle.std.proofs.Common.{append-nil, ◌≡◌, ℕ, ◌<◌, inl, inr, ◌++◌, ◌∷◌, [], ◌+◌, ◌≤◌, take, drop, length, sym, ap, ◌∙◌, subst, arith}
use Rattle.std.proofs.lemmas.Bool.{cases_lt}
use Rattle.std.proofs.lemmas.List.{drop_all, take_all, take_more}
use Rattle.std.proofs.lemmas.List.Sorted.{IsNonDecreasingBy-from_sort}
use Rattle.tq_base.specs.Sweep.{drop_read}
use Rattle.tq_ops.specs.declared.difference.Change.{Change}
use Rattle.tq_ops.proofs.Sweeping.{Sweeping, begins, ends, pays, opens, waits, closes, drops}
use Rattle.tq_ops.proofs.difference.swept.Goals as goal
use Rattle.tq_ops.proofs.difference.swept.Goals.{then-change+then-owed-gt0, then-change+else-owed-gt0+in_ok-push, else-change+in-Some+in-Some-between+in_ok-push-2, else-change+in-Some+in_default-between, else-change+in_default}

not_below : (a b : ℕ) → (a < b → ⊥) → b ≤ a
not_below a b apart = elim (cases_lt a b) [ inl lt ↦ absurd (apart lt) | inr le ↦ le ]

pub changes-init : goal.changes-init
changes-init c = record {
  sweeping = rw (c.new-opened.ensures.items, c.new-made.ensures.items)
      (begins c.args.changes.now (λ i j d lt below. IsNonDecreasingBy-from_sort (λ (c : Change). c.at) c.args.changes.now c.requires.sorted i j d (omega arith) below));
  few = omega arith;
}

pub changes-preserved : goal.changes-preserved
changes-preserved c =
    let all = c.args.changes.now in
    let i = c.changes.change-index in
    let change = c.change-item.result in
    let more : take (i + 1) all ≡ take i all ++ change ∷ [] = take_more all i change c.changes-test.true ∙ ap (λ x. take i all ++ x ∷ []) (sym c.change-item.is) in
    let split : drop i all ≡ change ∷ drop (i + 1) all = drop_read all i change c.changes-test.true c.change-item.is in
    let before : Sweeping (take i all) (change ∷ drop (i + 1) all) c.changes.opened.items c.changes.owed c.changes.made.items =
    subst (λ rest. Sweeping (take i all) rest c.changes.opened.items c.changes.owed c.changes.made.items) split c.changes.invariant.sweeping in
    elim c.if-change.branch [
      | then-change+then-owed-gt0 w ↦ record {
        sweeping = rw (more, w.opened-is, w.owed-is, w.made-is)
            (pays change (take i all) (drop (i + 1) all) c.changes.opened.items c.changes.owed c.changes.made.items before w.if-change.true w.if-owed-gt0.true);
        few = omega (arith, w.owed-is, c.changes.invariant.few);
      }
      | then-change+else-owed-gt0+in_ok-push w ↦ record {
        sweeping = rw (more, w.opened-is, w.owed-is, w.made-is, w.in_ok-push.ensures.items)
            (opens change (take i all) (drop (i + 1) all) c.changes.opened.items c.changes.owed c.changes.made.items before w.if-change.true (omega (arith, w.if-owed-gt0.false)));
        few = omega (arith, w.owed-is, c.changes.invariant.few);
      }
      | else-change+in-Some+in-Some-between+in_ok-push-2 w ↦ record {
        sweeping = rw (more, w.opened-is, w.owed-is, w.made-is, w.in_ok-push-2.ensures.items)
            (closes change (take i all) (drop (i + 1) all) c.changes.opened.items c.changes.owed c.changes.made.items before w.in-Some.start w.pop.new.self.items w.in-Some.ensures.items
            w.in-Some-between.period w.if-change.false w.in-Some-between.ensures.start w.in-Some-between.ensures.end);
        few = omega (arith, w.owed-is, c.changes.invariant.few);
      }
      | else-change+in-Some+in_default-between w ↦ record {
        sweeping = rw (more, w.opened-is, w.owed-is, w.made-is)
            (drops change (take i all) (drop (i + 1) all) c.changes.opened.items c.changes.owed c.changes.made.items before w.in-Some.start w.pop.new.self.items w.in-Some.ensures.items
            w.if-change.false (not_below w.in-Some.start change.at (λ below. let some = w.in_default-between.ensures.some.1 below in cc)));
        few = omega (arith, w.owed-is, c.changes.invariant.few);
      }
      | else-change+in_default w ↦
          let none : length c.changes.opened.items ≡ 0 = omega (arith, w.in_default.ensures.cases.0, c.changes.opened.ok.0) in
          let kept : w.pop.new.self.items ≡ c.changes.opened.items = sym (append-nil w.pop.new.self.items) ∙ sym w.in_default.ensures.items in
          record {
            sweeping = rw (more, w.opened-is, w.owed-is, w.made-is, kept)
                (waits change (take i all) (drop (i + 1) all) c.changes.opened.items c.changes.owed c.changes.made.items before w.if-change.false none);
            few = omega (arith, w.owed-is, c.changes.invariant.few);
          }
    ]

pub returns : goal.returns
returns c t =
    let done = take_all c.changes.change-index c.args.changes.now c.changes-test.false in
    let rest = drop_all c.changes.change-index c.args.changes.now c.changes-test.false in
    ends c.args.changes.now c.changes.opened.items c.changes.owed c.changes.made.items c.requires.even (rw (done, rest) at c.changes.invariant.sweeping) t
