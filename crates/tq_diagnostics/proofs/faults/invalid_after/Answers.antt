use Rattle.std.proofs.Common.{◌≡◌, ◌∙◌, [], max, true, false, nat_le, ap, sym, arith, count_by, drop}
use Rattle.std.proofs.lemmas.Bool.{leb-false, leb-true}
use Rattle.std.proofs.lemmas.List.{drop_all}
use Rattle.csv.specs.Records.{fields_of}
use Rattle.tq_event.specs.Loading.{csv_records}
use Rattle.tq_diagnostics.specs.Faults.{is_invalid}
use Rattle.tq_diagnostics.proofs.RecordLemmas.{count_next, few_records, next_of, none_behind}
use Rattle.tq_diagnostics.proofs.faults.invalid_after.Goals as goal

pub returns-then-not-branch : goal.returns-then-not-branch
returns-then-not-branch c =
    let i = c.records.invariant in
    let all = csv_records c.args.bytes.now in
    let none = rw c.if-not-branch.true at (c.in_ok-next_record.ensures i.left i.has) in
    let gone : drop (max c.args.number c.records.before) all ≡ [] = none_behind c.records.before (max c.args.number c.records.before) all (sym i.after ∙ none) (omega arith) in
    omega (arith, i.counted, ap (count_by (is_invalid c.args.form c.args.columns.now)) gone)

pub returns : goal.returns
returns c =
    let i = c.records.invariant in
    let all = csv_records c.args.bytes.now in
    let gone : drop (max c.args.number c.records.before) all ≡ [] = drop_all (max c.args.number c.records.before) all (omega (arith, few_records c.args.bytes.now, c.records-test.false)) in
    omega (arith, i.counted, ap (count_by (is_invalid c.args.form c.args.columns.now)) gone)

pub records-preserved : goal.records-preserved
records-preserved c =
    let i = c.records.invariant in
    let all = csv_records c.args.bytes.now in
    let before = c.records.before in
    let number = c.args.number in
    let fields = fields_of c.next_record.new.record in
    let (more, split, has) = rw c.if-not-branch.false at (c.in_ok-next_record.ensures i.left i.has) in
    let rest = (next_of before all fields more (sym i.after ∙ split)).1 in
    let step = count_next (is_invalid c.args.form c.args.columns.now) all number before fields more (nat_le number before) (sym i.after ∙ split) rest (λ (e : nat_le number before ≡ true). leb-true number before e) (λ (e : nat_le number before ≡ false). leb-false number before e) in
    record {
      left = more;
      has = has;
      after = rest;
      counted = omega (arith, i.counted, step, c.in_ok-count.ensures.count);
      few = omega (arith, i.few, c.in_ok-count.ensures.few);
    }
