use Rattle.std.proofs.Common.{◌∙◌, ◌-◌, ap, arith, rules, sym}
use Rattle.std.proofs.lemmas.List.{nil_from_length}
use Rattle.tq_table.specs.Sink.{one_more}
use Rattle.tq_session.proofs.InputLemmas.{midway_end, midway_found, midway_moved, midway_no_feed, midway_read, reads_after-more}
use Rattle.tq_session.proofs.input.Input.next.Goals as goal

pub returns-then-branch-eq0-clause-found : goal.returns-then-branch-eq0-clause-found
returns-then-branch-eq0-clause-found g c =
    let i = c.reads.invariant in
    let read = c.in_ok-fill.ensures in
    let none = nil_from_length c.fill.new.self (sym read.count ∙ c.if-branch-eq0.true) in
    midway_end c.args.self.now (c.reads.self-inside.left - 1) c.fill.new.self c.collect_line.new.line _ _ _ c.at_end.result
    (midway_read _ _ _ _ _ _ _ _ (midway_moved _ _ _ _ _ _ _ _ i.midway c.reads-test.ensures) read.taken read.most (omega (arith, i.left, c.if-self-eq0.false)))
    c.at_end.ensures none (read.end none)

pub reads-preserved : goal.reads-preserved
reads-preserved g c =
    let i = c.reads.invariant in
    let left = c.reads.self-inside.left in
    record {
      midway = midway_read _ _ _ _ _ _ _ _ (midway_moved _ _ _ _ _ _ _ _ i.midway c.reads-test.ensures) c.in_ok-fill.ensures.taken c.in_ok-fill.ensures.most
          (omega (arith, i.left, c.if-self-eq0.false));
      failed = search rules;
      reads = c.fill.ensures.reads ∙ ap one_more i.reads
          ∙ sym (reads_after-more c.args.source.now.reads (c.args.self.now.left - left) (c.args.self.now.left - (left - 1)) (omega (arith, i.left, c.if-self-eq0.false)));
      ready = λ feed. absurd (feed (midway_no_feed _ _ _ _ _ _ _ _ i.midway c.reads-test.ensures));
      left = omega (arith, i.left);
    }

pub returns-clause-found : goal.returns-clause-found
returns-clause-found g c =
    midway_found c.args.self.now c.reads.self-inside.left c.reads.self-inside.chunk c.collect_line.new.chunk c.reads.self-inside.line c.collect_line.new.line c.at_feed.new.self _ _ _ c.at_feed.result
    c.reads.invariant.midway c.reads-test.ensures c.at_feed.ensures
