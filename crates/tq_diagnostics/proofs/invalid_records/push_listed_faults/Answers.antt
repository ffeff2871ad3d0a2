use Rattle.std.proofs.Common.{◌≡◌, ◌∙◌, ◌&&◌, ◌+◌, ◌++◌, [], ℕ, Bool, true, false, List, nat_lt, ap, append-nil, append_assoc, arith, drop, length, refl, slice_get, sym, take}
use Rattle.std.specs.List.{flat_map}
use Rattle.std.proofs.lemmas.List.{drop-drop, drop_all}
use Rattle.csv.specs.Records.{fields_of}
use Rattle.tq_event.specs.Loading.{csv_records}
use Rattle.tq_diagnostics.specs.InvalidRecords.{InvalidRecord, fault_text, record_fault_text, invalid_records_from, invalid_record, text_if}
use Rattle.tq_diagnostics.specs.Faults.{invalid_count, is_invalid}
use Rattle.tq_diagnostics.specs.Lines.{record_line, record_lines}
use Rattle.tq_diagnostics.proofs.FaultLemmas.{count_more, first_behind, text_more}
use Rattle.tq_diagnostics.proofs.RecordLemmas.{few_records, next_of}
use Rattle.tq_diagnostics.proofs.invalid_records.push_listed_faults.Goals as goal

pub records-init : goal.records-init
records-init c =
    let bytes = c.args.bytes.now in
    record {
      left = drop 1 (csv_records bytes);
      has = c.requires;
      after = refl;
      within = c.next_line-header.ensures.within;
      early = c.next_line-header.ensures.few;
      lines = c.next_line-header.ensures.rest ∙ ap (drop 1) c.line_scanner-scanner.ensures.lines;
      reported = [];
      split = refl;
      count = refl;
      few = omega arith;
      text = sym (append-nil c.args.text.now.items);
    }

pub records-preserved-then-not-branch-2 : goal.records-preserved-then-not-branch-2
records-preserved-then-not-branch-2 c =
    let i = c.records.invariant in
    let form = c.args.form in
    let columns = c.args.columns.now in
    let name = c.args.name.now in
    let bytes = c.args.bytes.now in
    let all = csv_records bytes in
    let before = c.records.before in
    let fields = fields_of c.next_record.new.record in
    let (more, split, has) = rw c.if-not-branch.false at (c.in_ok-next_record.ensures i.left i.has) in
    let text = c.records.text.items in
    let part = record_fault_text form columns name (before + 1) c.next_line-line.result fields in
    let valid : is_invalid form columns fields ≡ false = sym c.in_ok-is_invalid.ensures ∙ c.if-not-branch-2.true in
    let line : c.next_line-line.result ≡ record_line bytes (before + 1) = c.next_line-line.ensures.first ∙ ap (λ (l : List ℕ). slice_get l 0) i.lines ∙ first_behind before (record_lines bytes) ∙ ap (λ n. slice_get (record_lines bytes) n) (omega arith) in
    let same : text ≡ text ++ text_if (is_invalid form columns fields && nat_lt c.records.count 100) part = sym (append-nil text) ∙ ap (λ (b : Bool). text ++ text_if (b && nat_lt c.records.count 100) part) (sym valid) in
    record {
      left = more;
      has = has;
      after = (next_of before all fields more (sym i.after ∙ split)).1;
      within = c.next_line-line.ensures.within;
      early = c.next_line-line.ensures.few;
      lines = c.next_line-line.ensures.rest ∙ ap (λ (l : List ℕ). drop 1 l) i.lines ∙ drop-drop 1 before (record_lines bytes);
      reported = i.reported ++ invalid_record form columns (before + 1) fields;
      split = i.split ∙ ap (λ l. i.reported ++ invalid_records_from form columns (before + 1) l) split ∙ sym (append_assoc i.reported (invalid_record form columns (before + 1) fields) (invalid_records_from form columns (before + 1 + 1) more));
      count = omega (arith, i.count, ap (invalid_count true) valid, count_more form columns i.reported (before + 1) fields);
      few = omega (arith, i.few);
      text = text_more form columns i.reported (before + 1) fields name bytes c.args.text.now.items text text c.records.count c.next_line-line.result line i.count i.text same;
    }

pub records-preserved : goal.records-preserved
records-preserved c =
    let i = c.records.invariant in
    let form = c.args.form in
    let columns = c.args.columns.now in
    let name = c.args.name.now in
    let bytes = c.args.bytes.now in
    let all = csv_records bytes in
    let before = c.records.before in
    let fields = fields_of c.next_record.new.record in
    let (more, split, has) = rw c.if-not-branch.false at (c.in_ok-next_record.ensures i.left i.has) in
    let text = c.records.text.items in
    let part = record_fault_text form columns name (before + 1) c.next_line-line.result fields in
    let invalid : is_invalid form columns fields ≡ true = sym c.in_ok-is_invalid.ensures ∙ c.if-not-branch-2.false in
    let line : c.next_line-line.result ≡ record_line bytes (before + 1) = c.next_line-line.ensures.first ∙ ap (λ (l : List ℕ). slice_get l 0) i.lines ∙ first_behind before (record_lines bytes) ∙ ap (λ n. slice_get (record_lines bytes) n) (omega arith) in
    record {
      left = more;
      has = has;
      after = (next_of before all fields more (sym i.after ∙ split)).1;
      within = c.next_line-line.ensures.within;
      early = c.next_line-line.ensures.few;
      lines = c.next_line-line.ensures.rest ∙ ap (λ (l : List ℕ). drop 1 l) i.lines ∙ drop-drop 1 before (record_lines bytes);
      reported = i.reported ++ invalid_record form columns (before + 1) fields;
      split = i.split ∙ ap (λ l. i.reported ++ invalid_records_from form columns (before + 1) l) split ∙ sym (append_assoc i.reported (invalid_record form columns (before + 1) fields) (invalid_records_from form columns (before + 1 + 1) more));
      count = omega (arith, i.count, ap (invalid_count true) invalid, count_more form columns i.reported (before + 1) fields);
      few = omega (arith, i.few);
      text = text_more form columns i.reported (before + 1) fields name bytes c.args.text.now.items text _ c.records.count c.next_line-line.result line i.count i.text
          (c.in_ok-push_fault_if_listed.ensures ∙ ap (λ (b : Bool). text ++ text_if (b && nat_lt c.records.count 100) part) (sym invalid));
    }

pub returns-then-not-branch-clause-count : goal.returns-then-not-branch-clause-count
returns-then-not-branch-clause-count c =
    let i = c.records.invariant in
    let none = rw c.if-not-branch.true at (c.in_ok-next_record.ensures i.left i.has) in
    let whole = i.split ∙ ap (λ l. i.reported ++ invalid_records_from c.args.form c.args.columns.now (c.records.before + 1) l) none ∙ append-nil i.reported in
    i.count ∙ sym (ap (λ (l : List InvalidRecord). length l) whole)

pub returns-then-not-branch-clause-text : goal.returns-then-not-branch-clause-text
returns-then-not-branch-clause-text c =
    let i = c.records.invariant in
    let none = rw c.if-not-branch.true at (c.in_ok-next_record.ensures i.left i.has) in
    let whole = i.split ∙ ap (λ l. i.reported ++ invalid_records_from c.args.form c.args.columns.now (c.records.before + 1) l) none ∙ append-nil i.reported in
    i.text ∙ ap (λ (l : List InvalidRecord). c.args.text.now.items ++ flat_map (fault_text c.args.form c.args.columns.now c.args.name.now c.args.bytes.now) (take 100 l)) (sym whole)

pub returns-clause-count : goal.returns-clause-count
returns-clause-count c =
    let i = c.records.invariant in
    let all = csv_records c.args.bytes.now in
    let none = i.after ∙ drop_all c.records.before all (omega (arith, few_records c.args.bytes.now, c.records-test.false)) in
    let whole = i.split ∙ ap (λ l. i.reported ++ invalid_records_from c.args.form c.args.columns.now (c.records.before + 1) l) none ∙ append-nil i.reported in
    i.count ∙ sym (ap (λ (l : List InvalidRecord). length l) whole)

pub returns-clause-text : goal.returns-clause-text
returns-clause-text c =
    let i = c.records.invariant in
    let all = csv_records c.args.bytes.now in
    let none = i.after ∙ drop_all c.records.before all (omega (arith, few_records c.args.bytes.now, c.records-test.false)) in
    let whole = i.split ∙ ap (λ l. i.reported ++ invalid_records_from c.args.form c.args.columns.now (c.records.before + 1) l) none ∙ append-nil i.reported in
    i.text ∙ ap (λ (l : List InvalidRecord). c.args.text.now.items ++ flat_map (fault_text c.args.form c.args.columns.now c.args.name.now c.args.bytes.now) (take 100 l)) (sym whole)
