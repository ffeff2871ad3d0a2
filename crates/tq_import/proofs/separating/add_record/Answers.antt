use Rattle.std.proofs.Common.{[], List, append-nil, refl, subst, sym, ℕ}
use Rattle.tq_import.specs.Rejects.{HasRejected}
use Rattle.tq_import.proofs.separating.add_record.Goals as goal

pub returns-in_ok-write_line-in-Ok-clause-line : goal.returns-in_ok-write_line-in-Ok-clause-line
returns-in_ok-write_line-in-Ok-clause-line g c text has = rw c.in-Ok.ensures.ok (c.in_ok-write_line-in-Ok.ensures text has)

pub returns-in_ok-write_line-in-Ok-clause-rejected : goal.returns-in_ok-write_line-in-Ok-clause-rejected
returns-in_ok-write_line-in-Ok-clause-rejected g c before held =
    rw c.in-Ok.ensures.ok ([], refl, subst (λ (t : List ℕ). HasRejected c.args.separation.now.rejects c.args.batch.now.rejected t) (sym (append-nil before)) held)

pub returns-in_ok-add_reject-in_default : goal.returns-in_ok-add_reject-in_default
returns-in_ok-add_reject-in_default g c =
    let is = c.in-Err.ensures.fault c.in_default.not-OutOfMemory in
    record {
      fault = tt;
      line = λ text has. rw (is, append-nil text, c.in_ok-add_reject-in_default.ensures.writer) has;
      rejected = λ before held.
          let (bytes, row, added) = c.in_ok-add_reject-in_default.ensures.text c.args.number before held in
          rw is (bytes, (bytes, [], sym (append-nil bytes), row, refl), added);
      invalid = rw is c.in_ok-add_reject-in_default.ensures.counted;
    }
