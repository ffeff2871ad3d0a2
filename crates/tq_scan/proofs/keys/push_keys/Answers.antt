use Rattle.std.proofs.Common.{◌≡◌, ◌∙◌, ◌<◌, ◌-◌, ◌++◌, [], ◌∷◌, arith, true, false, ap, sym, length, take}
use Rattle.std.specs.Prelude.{vec_capacity, vec_len}
use Rattle.std.proofs.Math.Seq.{take-append_seam}
use Rattle.std.proofs.lemmas.Option.{slice_get-get_or}
use Rattle.tq_mvbt.specs.declared.entry.Entry.{Entry}
use Rattle.tq_scan.specs.Reports.{is_reported}
use Rattle.tq_scan.proofs.Lists.{filter_step, append-nil}
use Rattle.tq_scan.proofs.keys.push_keys.Goals as goal
use Rattle.tq_scan.proofs.keys.push_keys.Goals.{then-not-reports, else-not-reports}

abbrev blank : Entry
blank = record { low = 0; high = 0; born = 0; dead = 0; child = 0 }

pub loop-place-preserved : goal.loop-place-preserved
loop-place-preserved c =
    let entries = c.args.leaf.now.entries in
    let i = c.loop-place.place in
    let p = is_reported c.args.window.now c.args.part.now c.args.leaf.now in
    let inside : i < length entries = (let a = c.loop-place-test.true in let b = c.len-place-end.ensures in omega arith) in
    let there = slice_get-get_or entries i blank inside in
    let step = filter_step (λ (e : Entry). e.low) p entries i blank in
    let key = rw there at c.key.ensures in
    let before = c.loop-place.keys.items in
    let pushed = c.push_reserved.ensures.items ∙ ap (λ x. before ++ x ∷ []) key in
    elim c.if-not-reports.branch [
      | then-not-reports w ↦
          let last : vec_len c.push_reserved.new.self - 1 ≡ length before = omega (arith, c.push_reserved.ensures.len, c.loop-place.keys.ok.0) in
          let kept : take (vec_len c.push_reserved.new.self - 1) (before ++ c.key.result ∷ []) ≡ before =
          ap (λ n. take n (before ++ c.key.result ∷ [])) last ∙ take-append_seam before (c.key.result ∷ []) in
          let items : c.if-not-reports.keys.items ≡ before =
          ap (λ v. v.items) w.keys-is ∙ w.pop-left_out.ensures.rest ∙ ap (take (vec_len c.push_reserved.new.self - 1)) c.push_reserved.ensures.items ∙ kept in
          record {
            keys = step false c.reserve.new.self.items before c.if-not-reports.keys.items inside (sym (rw there at w.if-not-reports.ensures)) (items ∙ sym (append-nil before)) c.loop-place.invariant.keys;
            room = omega (arith, ap length items, c.if-not-reports.keys.ok.0, c.loop-place.keys.ok.0, ap (λ v. vec_capacity v) w.keys-is, w.pop-left_out.ensures.capacity, c.push_reserved.ensures.capacity, c.loop-place.invariant.room);
          }
      | else-not-reports w ↦
          record {
            keys = step true c.reserve.new.self.items before c.if-not-reports.keys.items inside (sym (rw there at w.if-not-reports.ensures)) (ap (λ v. v.items) w.keys-is ∙ pushed) c.loop-place.invariant.keys;
            room = omega (arith, ap (λ v. vec_len v) w.keys-is, ap (λ v. vec_capacity v) w.keys-is, c.push_reserved.ensures.len, c.push_reserved.ensures.capacity, c.loop-place.invariant.room);
          }
    ]
