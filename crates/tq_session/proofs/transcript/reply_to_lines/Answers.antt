use Rattle.std.proofs.Common.{◌≡◌, ◌∙◌, ◌-◌, Bool, if◌then◌else◌, ap, arith, refl, sym}
use Rattle.tq_table.specs.Sink.{one_more}
use Rattle.tq_session.specs.Input.{reads_after}
use Rattle.tq_session.proofs.InputLemmas.{reads_after-add}
use Rattle.tq_session.proofs.SessionLemmas.{broken_ended, end_all, not_there, reply_fewer, reply_last, reply_on, reply_unwritten, so_far_none, there, when_err, when_ok}
use Rattle.tq_session.proofs.transcript.reply_to_lines.Goals as goal

pub lines-init : goal.lines-init
lines-init g c =
    let none : c.args.input.now.left - c.args.input.now.left ≡ 0 = omega arith in
    record {
      so_far = so_far_none c.args.settings.form _ _ _ _ c.requires;
      source_failed = refl;
      sink_failed = refl;
      reads = sym (ap (reads_after c.args.source.now.reads) none);
      left = omega arith;
    }

pub returns-in_err-reply-clause-read : goal.returns-in_err-reply-clause-read
returns-in_err-reply-clause-read g c e = broken_ended c.args.settings.form _ _ _ _ _ _ _ _ c.lines.invariant.so_far c.in_err-reply.ensures.broken

pub returns-in_default-clause-all : goal.returns-in_default-clause-all
returns-in_default-clause-all g c = end_all c.args.settings.form _ _ _ _ _ _ _ _ c.lines.invariant.so_far (not_there _ _ _ c.in_default.is c.in_ok-reply.ensures.replied)

pub returns-then-is_err-clause-write : goal.returns-then-is_err-clause-write
returns-then-is_err-clause-write g c e =
    reply_unwritten c.args.settings.form _ _ _ _ _ _ _ _ _ _ _ c.lines.invariant.so_far (there _ _ _ (c.in-Some.reply, c.in-Some.last) c.in-Some.is c.in_ok-reply.ensures.replied) (when_err _ c.send.result c.if-is_err.ensures.value c.send.ensures.prefix)

pub returns-then-last-clause-all : goal.returns-then-last-clause-all
returns-then-last-clause-all g c =
    reply_last c.args.settings.form _ _ _ _ _ _ _ _ _ _ _ c.lines.invariant.so_far (there _ _ _ (c.in-Some.reply, c.in-Some.last) c.in-Some.is c.in_ok-reply.ensures.replied) c.if-last.true (when_ok _ c.send.result c.if-is_err.ensures.value c.send.ensures.whole)

pub lines-smaller-else-last : goal.lines-smaller-else-last
lines-smaller-else-last g c =
    reply_fewer c.args.settings.form _ _ _ _ _ _ _ _ _ (there _ _ _ (c.in-Some.reply, c.in-Some.last) c.in-Some.is c.in_ok-reply.ensures.replied) c.if-last.false c.next_reply.ensures.left

pub lines-preserved-else-last : goal.lines-preserved-else-last
lines-preserved-else-last g c =
    let i = c.lines.invariant in
    let left = c.lines.input.left in
    let later = c.next_reply.new.input.left in
    record {
      so_far = reply_on c.args.settings.form _ _ _ _ _ _ _ _ _ _ _ i.so_far (there _ _ _ (c.in-Some.reply, c.in-Some.last) c.in-Some.is c.in_ok-reply.ensures.replied) c.if-last.false (when_ok _ c.send.result c.if-is_err.ensures.value c.send.ensures.whole);
      source_failed = c.in_ok-reply.ensures.unfailed ∙ i.source_failed;
      sink_failed = c.send.ensures.failed ∙ ap (λ (b : Bool). if b then one_more c.lines.sink.failed else c.lines.sink.failed) (sym c.if-is_err.ensures.value) ∙ i.sink_failed;
      reads = c.next_reply.ensures.reads ∙ ap (λ r. reads_after r (left - later)) i.reads
          ∙ reads_after-add c.args.source.now.reads (c.args.input.now.left - left) (left - later) (c.args.input.now.left - later) (omega (arith, i.left, c.next_reply.ensures.left));
      left = omega (arith, i.left, c.next_reply.ensures.left);
    }

pub lines-smaller : goal.lines-smaller
lines-smaller g c =
    reply_fewer c.args.settings.form _ _ _ _ _ _ _ _ _ (there _ _ _ (c.in-Some.reply, c.in-Some.last) c.in-Some.is c.in_ok-reply.ensures.replied) c.if-last.false c.next_reply.ensures.left

pub lines-preserved : goal.lines-preserved
lines-preserved g c =
    let i = c.lines.invariant in
    let left = c.lines.input.left in
    let later = c.next_reply.new.input.left in
    record {
      so_far = reply_on c.args.settings.form _ _ _ _ _ _ _ _ _ _ _ i.so_far (there _ _ _ (c.in-Some.reply, c.in-Some.last) c.in-Some.is c.in_ok-reply.ensures.replied) c.if-last.false (when_ok _ c.send.result c.if-is_err.ensures.value c.send.ensures.whole);
      source_failed = c.in_ok-reply.ensures.unfailed ∙ i.source_failed;
      sink_failed = c.send.ensures.failed ∙ ap (λ (b : Bool). if b then one_more c.lines.sink.failed else c.lines.sink.failed) (sym c.if-is_err.ensures.value) ∙ i.sink_failed;
      reads = c.next_reply.ensures.reads ∙ ap (λ r. reads_after r (left - later)) i.reads
          ∙ reads_after-add c.args.source.now.reads (c.args.input.now.left - left) (left - later) (c.args.input.now.left - later) (omega (arith, i.left, c.next_reply.ensures.left));
      left = omega (arith, i.left, c.next_reply.ensures.left);
    }
