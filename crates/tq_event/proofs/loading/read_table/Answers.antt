use Rattle.std.proofs.Common.{◌≡◌, ◌∙◌, ◌+◌, ◌≤◌, ◌++◌, ◌∷◌, [], List, Result, Err, ℕ, drop, length, map, sum_by, sym, ap, refl, append_assoc, append-nil, arith}
use Rattle.std.proofs.lemmas.Result.{err_from_is_err_and}
use Rattle.std.proofs.lemmas.List.{map-append}
use Rattle.std.proofs.lemmas.List.Sums.{sum_by_push}
use Rattle.csv.specs.Records.{fields_of}
use Rattle.tq_base.specs.declared.fragment.Fragment.{Fragment}
use Rattle.tq_event.specs.declared.fault.LoadFaultKind.TheVariants.{BadHeader, OutOfMemory, TooManyEvents}
use Rattle.tq_event.specs.declared.fault.LoadFaultKind.{LoadFaultKind}
use Rattle.tq_event.specs.Entries.{Entry}
use Rattle.tq_event.specs.Loading.{csv_records, entries_after, event_count, next_entries}
use Rattle.tq_event.specs.Tables.{row_entry}
use Rattle.tq_event.proofs.ProjectionLemmas.{rows_push}
use Rattle.tq_event.proofs.LoadLemmas.{known_kind, header_fault, columns_first, columns_none, read_ok, read_fault, entry_fault, add_fault, add_ok, makes_events, next_ok, next_many, told_count}
use Rattle.tq_event.proofs.loading.read_table.Goals as goal

bad_header : (BadHeader ≡ OutOfMemory) → ⊥
bad_header e = cc

pub returns-then-not-branch-clause-fault : goal.returns-then-not-branch-clause-fault
returns-then-not-branch-clause-fault c before same known =
    let bytes = c.args.bytes.now in
    let none = rw c.if-not-branch.true at (c.in_ok-next_record.ensures (csv_records bytes) c.record_reader-reader.ensures) in
    header_fault c.args.rules.form c.args.rules.limit c.args.table before bytes BadHeader c.fault_at-then-not-branch.result
    (columns_none bytes (sym c.has_two_boms.ensures ∙ c.if-has_two_boms.false) none)
    (c.fault_at-then-not-branch.ensures.named bad_header)

pub returns-in-Err-clause-fault : goal.returns-in-Err-clause-fault
returns-in-Err-clause-fault c before same known =
    let bytes = c.args.bytes.now in
    let (more, split, has) = rw c.if-not-branch.false at (c.in_ok-next_record.ensures (csv_records bytes) c.record_reader-reader.ensures) in
    let kind = known_kind c.in-Err.kind c.fault_at-in-Err.result c.fault_at-in-Err.ensures.out_of_memory known in
    header_fault c.args.rules.form c.args.rules.limit c.args.table before bytes c.in-Err.kind c.fault_at-in-Err.result
    (columns_first bytes (fields_of c.next_record.new.record) more (sym c.has_two_boms.ensures ∙ c.if-has_two_boms.false) split ∙ c.in-Err.ensures.fault kind)
    (c.fault_at-in-Err.ensures.named kind)

pub records-init : goal.records-init
records-init c =
    let bytes = c.args.bytes.now in
    let (more, split, has) = rw c.if-not-branch.false at (c.in_ok-next_record.ensures (csv_records bytes) c.record_reader-reader.ensures) in
    record {
      columns = columns_first bytes (fields_of c.next_record.new.record) more (sym c.has_two_boms.ensures ∙ c.if-has_two_boms.false) split ∙ c.in-Ok.ensures.ok;
      width = c.in_ok-rows.ensures.width ∙ ap length c.deref.ensures.value;
      whole = [];
      kept = c.in_ok-rows.ensures.rows;
      counted = omega arith;
      within = c.requires.within;
      few = omega arith;
      left = more;
      has = has;
      rest = λ before same. ap (λ (l : List (List (List ℕ))). entries_after c.args.rules.form c.args.rules.limit c.args.table c.in-Ok.columns.items 2 before (drop 1 l)) split
          ∙ ap (λ es. entries_after c.args.rules.form c.args.rules.limit c.args.table c.in-Ok.columns.items 2 es more) (sym (append-nil before));
    }

pub records-preserved : goal.records-preserved
records-preserved c =
    let i = c.records.invariant in
    let (more, split, has) = rw c.if-not-branch-2.false at (c.in_ok-next_record-2.ensures i.left i.has) in
    let table = c.args.table in
    let parsed = map (row_entry table) i.whole in
    let of_record = c.in-Ok-read_entry.ensures.ok in
    let row : Fragment = record { values = of_record.whole; period = c.in-Ok-read_entry.period } in
    let entry : Entry = row_entry table row in
    let grown : map (row_entry table) (i.whole ++ row ∷ []) ≡ parsed ++ entry ∷ [] = map-append (row_entry table) i.whole (row ∷ []) in
    let counted : c.add_row.new.events ≡ c.records.events + event_count entry = c.in_default.ensures.events in
    let pushed : sum_by event_count (parsed ++ entry ∷ []) ≡ sum_by event_count parsed + event_count entry = sum_by_push event_count parsed entry in
    let some : 1 ≤ event_count entry = makes_events entry in
    record {
      columns = i.columns;
      width = c.add_row.ensures.width ∙ i.width;
      whole = i.whole ++ row ∷ [];
      kept = rows_push c.args.wanted.now i.whole c.records.rows.items c.add_row.new.rows.items c.read_entry.new.values.items of_record.whole c.in-Ok-read_entry.period i.kept of_record.kept c.in_default.ensures.rows;
      counted = omega (arith, counted, pushed, i.counted, ap (sum_by event_count) grown);
      within = c.in_default.ensures.within;
      few = omega (arith, i.few, counted, some);
      left = more;
      has = has;
      rest = λ before same. i.rest before same
          ∙ add_ok c.args.rules.form c.args.rules.limit table c.in-Ok.columns.items c.records.number (before ++ parsed) (fields_of c.next_record-in-records.new.record) more i.left split entry ((before ++ parsed) ++ entry ∷ [])
          (rw c.deref-in-records.ensures.value at (of_record.parsed table))
          (next_ok c.args.rules.limit (before ++ parsed) entry c.add_row.new.events (omega (arith, counted, told_count before parsed c.args.events.now c.records.events same i.counted)) c.in_default.ensures.within)
          ∙ ap (λ es. entries_after c.args.rules.form c.args.rules.limit table c.in-Ok.columns.items (c.records.number + 1) es more) (append_assoc before parsed (entry ∷ []) ∙ ap (λ es. before ++ es) (sym grown));
    }

pub returns-then-not-branch-2-clause-ok : goal.returns-then-not-branch-2-clause-ok
returns-then-not-branch-2-clause-ok c =
    let i = c.records.invariant in
    let none = rw c.if-not-branch-2.true at (c.in_ok-next_record-2.ensures i.left i.has) in
    record {
      whole = i.whole;
      kept = i.kept;
      counted = i.counted;
      parsed = λ before same.
          read_ok c.args.rules.form c.args.rules.limit c.args.table before c.args.bytes.now c.in-Ok.columns.items (before ++ map (row_entry c.args.table) i.whole) i.columns (i.rest before same ∙ rw none refl);
    }

pub returns-in-Err-read_entry-clause-fault : goal.returns-in-Err-read_entry-clause-fault
returns-in-Err-read_entry-clause-fault c before same known =
    let i = c.records.invariant in
    let (more, split, has) = rw c.if-not-branch-2.false at (c.in_ok-next_record-2.ensures i.left i.has) in
    let kind = known_kind c.in-Err-read_entry.kind c.fault_at-in-Err-read_entry.result c.fault_at-in-Err-read_entry.ensures.out_of_memory known in
    read_fault c.args.rules.form c.args.rules.limit c.args.table before c.args.bytes.now c.in-Ok.columns.items c.fault_at-in-Err-read_entry.result i.columns
    (i.rest before same ∙ entry_fault c.args.rules.form c.args.rules.limit c.args.table c.in-Ok.columns.items c.records.number (before ++ map (row_entry c.args.table) i.whole) (fields_of c.next_record-in-records.new.record) more i.left split
    c.in-Err-read_entry.kind c.fault_at-in-Err-read_entry.result (rw c.deref-in-records.ensures.value at (c.in-Err-read_entry.ensures.fault c.args.table kind)) (c.fault_at-in-Err-read_entry.ensures.named kind))

pub returns-in-Err-add_row-clause-fault : goal.returns-in-Err-add_row-clause-fault
returns-in-Err-add_row-clause-fault c before same known =
    let i = c.records.invariant in
    let (more, split, has) = rw c.if-not-branch-2.false at (c.in_ok-next_record-2.ensures i.left i.has) in
    let kind = known_kind c.in-Err-add_row.kind c.fault_at-in-Err-add_row.result c.fault_at-in-Err-add_row.ensures.out_of_memory known in
    let table = c.args.table in
    let parsed = map (row_entry table) i.whole in
    let of_record = c.in-Ok-read_entry.ensures.ok in
    let row : Fragment = record { values = of_record.whole; period = c.in-Ok-read_entry.period } in
    let entry : Entry = row_entry table row in
    let many : next_entries c.args.rules.limit (before ++ parsed) entry ≡ Err TooManyEvents = next_many c.args.rules.limit (before ++ parsed) entry (c.records.events + event_count entry)
    (omega (arith, told_count before parsed c.args.events.now c.records.events same i.counted)) (c.in-Err-add_row.ensures.many kind) in
    read_fault c.args.rules.form c.args.rules.limit table before c.args.bytes.now c.in-Ok.columns.items c.fault_at-in-Err-add_row.result i.columns
    (i.rest before same ∙ add_fault c.args.rules.form c.args.rules.limit table c.in-Ok.columns.items c.records.number (before ++ parsed) (fields_of c.next_record-in-records.new.record) more i.left split entry
    c.in-Err-add_row.kind c.fault_at-in-Err-add_row.result (rw c.deref-in-records.ensures.value at (of_record.parsed table))
    (many ∙ ap (λ (k : LoadFaultKind). let r : Result (List Entry) LoadFaultKind = Err k in r) (sym (c.in-Err-add_row.ensures.kind kind))) (c.fault_at-in-Err-add_row.ensures.named kind))

pub returns-in_err-next_record-2-clause-fault : goal.returns-in_err-next_record-2-clause-fault
returns-in_err-next_record-2-clause-fault c before same =
    let p = err_from_is_err_and c.from_residual-in_err-next_record-2.result c.from_residual-in_err-next_record-2.ensures.1 in
    rw (p.1, p.2) (λ known. absurd (known refl))
