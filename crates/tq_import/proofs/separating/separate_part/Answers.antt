use Rattle.std.proofs.Common.{◌≡◌, ◌∙◌, ◌+◌, ◌++◌, [], ℕ, List, length, ap, append_assoc, arith, length-append, refl, subst, sym}
use Rattle.csv.specs.Records.{fields_of}
use Rattle.tq_import.specs.Records.{import_record}
use Rattle.tq_import.specs.Rejects.{AreRejectTexts, fault_of, faults_from, line_of, valid_lines}
use Rattle.tq_import.proofs.RejectLemmas.{texts_append}
use Rattle.tq_import.proofs.separating.separate_part.Goals as goal

pub records-init : goal.records-init
records-init g c = record {
  done = [];
  written = c.new-batch.ensures.writer;
  texts = [];
  rejected = c.new-batch.ensures.rejected;
  later = omega arith;
  rest = λ delimiter all has. (
    all,
    has,
    refl,
    λ text are. are,
    omega arith,
    refl,
  );
}

pub records-preserved : goal.records-preserved
records-preserved g c =
    let i = c.records.invariant in
    let plan = c.args.separation.now.plan.now in
    let header = fields_of c.args.separation.now.header.now in
    let rejects = c.args.separation.now.rejects in
    let next = c.records.next in
    let fields = fields_of c.next_record.new.record in
    let here = import_record plan next fields in
    let after : c.in-Some.after ≡ next + 1 = c.in-Some.ensures.1 in
    let (bytes, are, added) = c.in_ok-add_record.ensures.rejected i.texts i.rejected in
    record {
      done = i.done ++ line_of here;
      written = c.in_ok-add_record.ensures.line i.done i.written;
      texts = i.texts ++ bytes;
      rejected = added;
      later = omega (arith, after, i.later);
      rest = λ delimiter all has.
          let (left, has_left, lines, texts, invalid, counted) = i.rest delimiter all has in
          let (more, split, has_more) = rw c.if-not-branch.false at (c.in_ok-next_record.ensures delimiter left has_left) in (
            more,
            has_more,
            lines
                ∙ ap (λ (l : List (List (List ℕ))). i.done ++ valid_lines plan next l) split
                ∙ sym (append_assoc i.done (line_of here) (valid_lines plan (next + 1) more))
                ∙ ap (λ (n : ℕ). (i.done ++ line_of here) ++ valid_lines plan n more) (sym after),
            λ text later.
                let behind = subst (λ (n : ℕ). AreRejectTexts rejects plan header (faults_from plan n more) text) after later in
                let both = texts_append rejects plan header (fault_of next fields here) (faults_from plan (next + 1) more) bytes text are behind in
                let whole = texts (bytes ++ text) (subst (λ (l : List (List (List ℕ))). AreRejectTexts rejects plan header (faults_from plan next l) (bytes ++ text)) (sym split) both) in
                subst (λ (t : List ℕ). AreRejectTexts rejects plan header (faults_from plan c.args.number all) t)
                (sym (append_assoc i.texts bytes text))
                whole,
            omega (
              arith,
              invalid,
              c.in_ok-add_record.ensures.invalid,
              ap (λ (l : List (List (List ℕ))). length (faults_from plan next l)) split,
              length-append (fault_of next fields here) (faults_from plan (next + 1) more),
              ap (λ (n : ℕ). length (faults_from plan n more)) after,
            ),
            omega (arith, after, counted, ap length split),
          );
    }

pub returns-then-not-branch-clause-ok : goal.returns-then-not-branch-clause-ok
returns-then-not-branch-clause-ok g c delimiter all has =
    let i = c.records.invariant in
    let plan = c.args.separation.now.plan.now in
    let header = fields_of c.args.separation.now.header.now in
    let (left, has_left, lines, texts, invalid, counted) = i.rest delimiter all has in
    let none = rw c.if-not-branch.true at (c.in_ok-next_record.ensures delimiter left has_left) in
    let p = c.in_ok-part.ensures in
    record {
      rest = [];
      has = λ e. cc (e, p.more);
      lines = lines
          ∙ ap (λ (l : List (List (List ℕ))). i.done ++ valid_lines plan c.records.next l) none
          ∙ ap (λ (t : List ℕ). t ++ []) (sym (p.text i.done i.written));
      texts = λ text are. subst (λ (t : List ℕ). AreRejectTexts c.args.separation.now.rejects plan header (faults_from plan c.args.number all) (t ++ text)) (sym (p.rejected c.args.separation.now.rejects i.texts i.rejected))
          (texts text (subst (λ (l : List (List (List ℕ))). AreRejectTexts c.args.separation.now.rejects plan header (faults_from plan c.records.next l) text) (sym none) are));
      invalid = omega (arith, invalid, p.invalid, ap (λ (l : List (List (List ℕ))). length (faults_from plan c.records.next l)) none);
      counted = omega (arith, counted, p.next, ap length none);
      ended = λ e. refl;
    }

pub returns-clause-ok : goal.returns-clause-ok
returns-clause-ok g c delimiter all has =
    let i = c.records.invariant in
    let plan = c.args.separation.now.plan.now in
    let header = fields_of c.args.separation.now.header.now in
    let (left, has_left, lines, texts, invalid, counted) = i.rest delimiter all has in
    let p = c.in_ok-part-2.ensures in
    record {
      rest = left;
      has = λ e. has_left;
      lines = lines
          ∙ (λ j. sym (p.text i.done i.written) j ++ valid_lines plan (sym p.next j) left);
      texts = λ text are. subst (λ (t : List ℕ). AreRejectTexts c.args.separation.now.rejects plan header (faults_from plan c.args.number all) (t ++ text)) (sym (p.rejected c.args.separation.now.rejects i.texts i.rejected))
          (texts text (subst (λ (n : ℕ). AreRejectTexts c.args.separation.now.rejects plan header (faults_from plan n left) text) p.next are));
      invalid = omega (arith, invalid, p.invalid, ap (λ (n : ℕ). length (faults_from plan n left)) p.next);
      counted = omega (arith, counted, p.next);
      ended = λ e. cc (e, p.more);
    }
