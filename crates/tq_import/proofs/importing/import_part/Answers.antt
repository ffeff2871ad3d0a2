use Rattle.std.proofs.Common.{◌≡◌, ◌∙◌, ◌+◌, ◌++◌, [], ℕ, List, length, ap, append-nil, append_assoc, arith, refl, sym}
use Rattle.csv.specs.Records.{fields_of}
use Rattle.csv.specs.Writing.{row_text}
use Rattle.tq_table.specs.Text.{answer_format}
use Rattle.tq_import.specs.Imports.{lines_after}
use Rattle.tq_import.proofs.LineLemmas.{faulty, line_fault, line_more}
use Rattle.tq_import.proofs.importing.import_part.Goals as goal

pub records-init : goal.records-init
records-init g c = record {
  done = [];
  written = c.line_writer-writer.ensures;
  later = omega arith;
  rest = λ delimiter all has. (all, has, λ text. ap (λ (t : List ℕ). lines_after c.args.plan.now t c.args.number all) (sym (append-nil text)), refl);
}

pub records-preserved : goal.records-preserved
records-preserved g c =
    let i = c.records.invariant in
    let plan = c.args.plan.now in
    let line = fields_of c.import_record.new.fields in
    let text_of = row_text answer_format line in
    let after : c.in-Some.after ≡ c.records.next + 1 = c.in-Some.ensures.1 in
    record {
      done = i.done ++ text_of;
      written = c.in_ok-write_line.ensures i.done i.written;
      later = omega (arith, after, i.later);
      rest = λ delimiter all has.
          let (left, has_left, same, counted) = i.rest delimiter all has in
          let (more, split, has_more) = rw c.if-not-branch.false at (c.in_ok-next_record.ensures delimiter left has_left) in (
            more,
            has_more,
            λ text. same text
                ∙ ap (λ (l : List (List (List ℕ))). lines_after plan (text ++ i.done) c.records.next l) split
                ∙ line_more plan (text ++ i.done) c.records.next (fields_of c.next_record.new.record) more line c.in_default.ensures.ok
                ∙ ap (λ (t : List ℕ). lines_after plan t (c.records.next + 1) more) (append_assoc text i.done text_of)
                ∙ ap (λ (n : ℕ). lines_after plan (text ++ (i.done ++ text_of)) n more) (sym after),
            omega (arith, after, counted, ap length split),
          );
    }

pub returns-then-not-branch-clause-ok : goal.returns-then-not-branch-clause-ok
returns-then-not-branch-clause-ok g c delimiter all has =
    let i = c.records.invariant in
    let plan = c.args.plan.now in
    let (left, has_left, same, counted) = i.rest delimiter all has in
    let none = rw c.if-not-branch.true at (c.in_ok-next_record.ensures delimiter left has_left) in
    let text_is = c.in_ok-text.ensures i.done i.written in
    record {
      rest = [];
      has = λ e. cc e;
      lines = λ text. same text ∙ ap (λ (l : List (List (List ℕ))). lines_after plan (text ++ i.done) c.records.next l) none
          ∙ ap (λ (t : List ℕ). lines_after plan (text ++ t) c.records.next []) (sym text_is);
      counted = omega (arith, counted, ap length none);
      ended = λ e. refl;
    }

pub returns-in-Err-clause-fault : goal.returns-in-Err-clause-fault
returns-in-Err-clause-fault g c delimiter all has =
    let i = c.records.invariant in
    let plan = c.args.plan.now in
    let (left, has_left, same, counted) = i.rest delimiter all has in
    let (more, split, has_more) = rw c.if-not-branch.false at (c.in_ok-next_record.ensures delimiter left has_left) in
    let last = fields_of c.next_record.new.record in
    faulty plan c.args.number all last c.records.next c.in-Err.fault c.fault_of.result c.fault_of.ensures.record c.fault_of.ensures.memory (λ known. (
      λ text. same text ∙ ap (λ (l : List (List (List ℕ))). lines_after plan (text ++ i.done) c.records.next l) split
          ∙ line_fault plan (text ++ i.done) c.records.next last more c.in-Err.fault (c.in-Err.ensures.fault known),
      c.in-Err.ensures.fault known,
    ))

pub returns-clause-ok : goal.returns-clause-ok
returns-clause-ok g c delimiter all has =
    let i = c.records.invariant in
    let plan = c.args.plan.now in
    let (left, has_left, same, counted) = i.rest delimiter all has in
    let text_is = c.in_ok-text-2.ensures i.done i.written in
    record {
      rest = left;
      has = λ e. has_left;
      lines = λ text. same text ∙ ap (λ (t : List ℕ). lines_after plan (text ++ t) c.records.next left) (sym text_is);
      counted = counted;
      ended = λ e. cc e;
    }
