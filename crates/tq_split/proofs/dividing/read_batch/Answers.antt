use Rattle.std.proofs.Common.{◌≡◌, ◌∙◌, ◌+◌, ◌++◌, ◌∷◌, [], ℕ, List, length, get_or, set, ap, append_assoc, arith, length-append, refl, replicate, subst, sym}
use Rattle.std.proofs.lemmas.List.{length-map, length-replicate, length-set}
use Rattle.std.proofs.lemmas.List.Elements.{All-nil, All-push}
use Rattle.std.specs.Global.{Vec}
use Rattle.csv.specs.Records.{fields_of}
use Rattle.csv.specs.Writing.{row_text}
use Rattle.tq_table.specs.Text.{answer_format}
use Rattle.tq_split.specs.TableParts.{HasEntry, record_part, texts_of}
use Rattle.tq_split.proofs.DivisionLemmas.{fresh_flushed, record_faulty, texts_none, texts_push}
use Rattle.tq_split.proofs.dividing.read_batch.Goals as goal

pub records-init : goal.records-init
records-init g c =
    let cut = c.args.cut.now in
    let made : texts_of c.in_ok-texts.texts.items ≡ replicate c.args.parts [] = c.in_ok-texts.ensures in
    record {
      many = sym (length-map c.in_ok-texts.texts.items (λ (t : Vec ℕ). t.items)) ∙ ap length made ∙ length-replicate c.args.parts [];
      flushed = ([], fresh_flushed c.line_writer-writer.result c.line_writer-writer.ensures);
      later = omega arith;
      rest = λ all has. record {
        done = [];
        left = all;
        split = refl;
        has = has;
        entries = All-nil (HasEntry cut.form cut.columns.items);
        texts_are = texts_none c.args.parts cut.form cut.columns.items cut.column (texts_of c.in_ok-texts.texts.items) c.args.parts made;
        counted = omega arith;
      };
    }

pub records-preserved : goal.records-preserved
records-preserved g c =
    let i = c.records.invariant in
    let cut = c.args.cut.now in
    let fields = fields_of c.next_record.new.record in
    let old = texts_of c.records.texts.items in
    let new = texts_of c.add_record.new.texts.items in
    let row = row_text answer_format fields in
    let after : c.in-Some.after ≡ c.records.next + 1 = c.in-Some.ensures.1 in
    let line : new ≡ set old (record_part c.args.parts cut.form cut.columns.items cut.column fields) (get_or old (record_part c.args.parts cut.form cut.columns.items cut.column fields) [] ++ row) =
    subst (λ (n : ℕ). new ≡ set old (record_part n cut.form cut.columns.items cut.column fields) (get_or old (record_part n cut.form cut.columns.items cut.column fields) [] ++ row)) i.many c.in_default.ensures.line in
    record {
      many = sym (length-map c.add_record.new.texts.items (λ (t : Vec ℕ). t.items)) ∙ ap length line ∙ length-set old _ _ ∙ length-map c.records.texts.items (λ (t : Vec ℕ). t.items) ∙ i.many;
      flushed = c.in_default.ensures.flushed;
      later = omega (arith, after, i.later);
      rest = λ all has.
          let s = i.rest all has in
          let (more, split, has_more) = rw c.if-not-branch.false at (c.in_ok-next_record.ensures 44 s.left s.has) in
          record {
            done = s.done ++ fields ∷ [];
            left = more;
            split = s.split ∙ ap (λ (l : List (List (List ℕ))). s.done ++ l) split ∙ sym (append_assoc s.done (fields ∷ []) more);
            has = has_more;
            entries = All-push (HasEntry cut.form cut.columns.items) s.done fields s.entries c.in_default.ensures.entry;
            texts_are = texts_push c.args.parts cut.form cut.columns.items cut.column old new s.done fields s.texts_are line;
            counted = omega (arith, after, s.counted, length-append s.done (fields ∷ []));
          };
    }

pub returns-then-not-branch-clause-ok : goal.returns-then-not-branch-clause-ok
returns-then-not-branch-clause-ok g c left has =
    let s = c.records.invariant.rest left has in
    let none = rw c.if-not-branch.true at (c.in_ok-next_record.ensures 44 s.left s.has) in
    record {
      done = s.done;
      rest = [];
      split = s.split ∙ ap (λ (l : List (List (List ℕ))). s.done ++ l) none;
      has = λ e. cc e;
      ended = λ e. refl;
      entries = s.entries;
      texts = s.texts_are;
      counted = s.counted;
    }

pub returns-in-Err-clause-fault : goal.returns-in-Err-clause-fault
returns-in-Err-clause-fault g c left has =
    let s = c.records.invariant.rest left has in
    let cut = c.args.cut.now in
    let (more, split, has_more) = rw c.if-not-branch.false at (c.in_ok-next_record.ensures 44 s.left s.has) in
    record_faulty cut.form cut.columns.items c.args.number c.records.next left s.done more (fields_of c.next_record.new.record) c.in-Err.kind c.record_fault.result
    (s.split ∙ ap (λ (l : List (List (List ℕ))). s.done ++ l) split) s.entries s.counted c.record_fault.ensures.record c.record_fault.ensures.memory c.in-Err.ensures.fault

pub returns-clause-ok : goal.returns-clause-ok
returns-clause-ok g c left has =
    let s = c.records.invariant.rest left has in
    record {
      done = s.done;
      rest = s.left;
      split = s.split;
      has = λ e. s.has;
      ended = λ e. cc e;
      entries = s.entries;
      texts = s.texts_are;
      counted = s.counted;
    }
