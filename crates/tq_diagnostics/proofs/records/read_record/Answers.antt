use Rattle.std.proofs.Common.{◌≡◌, ◌∙◌, ◌+◌, ◌-◌, ap, sym, arith, drop, slice_get}
use Rattle.tq_event.specs.Loading.{csv_records}
use Rattle.tq_diagnostics.proofs.RecordLemmas.{ended_of, last_of, next_of}
use Rattle.tq_diagnostics.proofs.records.read_record.Goals as goal

pub returns-then-not-branch : goal.returns-then-not-branch
returns-then-not-branch c =
    let i = c.records.invariant in
    let none = rw c.if-not-branch.true at (c.in_ok-next_record.ensures i.left i.has) in
    ended_of (c.records._before - 1) (c.args.number - 1) (csv_records c.args.bytes.now) (sym i.after ∙ none) (omega (arith, c.records-test.true))

pub records-preserved : goal.records-preserved
records-preserved c =
    let i = c.records.invariant in
    let all = csv_records c.args.bytes.now in
    let before = c.records._before in
    let (more, split, has) = rw c.if-not-branch.false at (c.in_ok-next_record.ensures i.left i.has) in
    let place : before - 1 + 1 ≡ before + 1 - 1 = omega (arith, c.records.auto._before) in
    record {
      left = more;
      has = has;
      after = (next_of (before - 1) all _ more (sym i.after ∙ split)).1 ∙ ap (λ n. drop n all) place;
    }

pub returns : goal.returns
returns c =
    let i = c.records.invariant in
    let all = csv_records c.args.bytes.now in
    let same : c.args.number - 1 ≡ c.records._before - 1 = omega (arith, c.requires, c.records-test.false, c.records.auto._before, c.records.auto._before-end) in
    ap (λ n. slice_get all n) same ∙ last_of (c.records._before - 1) all c.in_ok-found.found _ i.left _ i.after (c.in_ok-found.ensures i.left i.has)
