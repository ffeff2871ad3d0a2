use Rattle.std.proofs.Common.{◌≡◌, ◌∙◌, ℕ, ◌<◌, ◌++◌, [], ◌∷◌, arith, true, false, ap, sym, length}
use Rattle.std.proofs.lemmas.Option.{slice_get-get_or}
use Rattle.tq_arena.specs.declared.arena.NodeNo.{NodeNo}
use Rattle.tq_mvbt.specs.declared.entry.Entry.{Entry}
use Rattle.tq_scan.specs.Follows.{is_met_child}
use Rattle.tq_scan.proofs.Lists.{filter_step, append-nil}
use Rattle.tq_scan.proofs.leaves.push_children.Goals as goal
use Rattle.tq_scan.proofs.leaves.push_children.Goals.{then-leads_to_part+in_ok-push, else-leads_to_part}

abbrev blank : Entry
blank = record { low = 0; high = 0; born = 0; dead = 0; child = 0 }

abbrev child_of : Entry → NodeNo
child_of e = record { 0 = e.child }

pub loop-place-preserved : goal.loop-place-preserved
loop-place-preserved c =
    let entries = c.args.node.now.entries in
    let i = c.loop-place.place in
    let inside : i < length entries = (let a = c.loop-place-test.true in let b = c.len-place-end.ensures in omega arith) in
    let there = slice_get-get_or entries i blank inside in
    let step = filter_step child_of (is_met_child c.args.part.now) entries i blank in
    elim c.if-leads_to_part.branch [
      | then-leads_to_part+in_ok-push w ↦
          (let k = ap (λ (x : ℕ). let n : NodeNo = record { 0 = x } in n) (rw there at w.child.ensures) in
          let items : c.if-leads_to_part.row.items ≡ c.loop-place.row.items ++ w.child.result ∷ [] = ap (λ v. v.items) w.row-is ∙ w.in_ok-push.ensures.ok in
          step true c.args.row.now.items c.loop-place.row.items c.if-leads_to_part.row.items inside (sym (rw there at w.if-leads_to_part.ensures)) (items ∙ ap (λ x. c.loop-place.row.items ++ x ∷ []) k) c.loop-place.invariant)
      | else-leads_to_part w ↦
          step false c.args.row.now.items c.loop-place.row.items c.if-leads_to_part.row.items inside (sym (rw there at w.if-leads_to_part.ensures)) (ap (λ v. v.items) w.row-is ∙ sym (append-nil c.loop-place.row.items)) c.loop-place.invariant
    ]
