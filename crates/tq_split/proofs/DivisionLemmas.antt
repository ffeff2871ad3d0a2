-- Steps of a division.
use Rattle.std.proofs.Common.{◌≡◌, ◌≢◌, ◌∙◌, ◌≤◌, ◌<◌, ◌+◌, ◌-◌, ◌==◌, ◌⊎◌, inl, inr, ℕ, zero, suc, Bool, true, false, List, [], ◌∷◌, ◌++◌, length, get_or, set, replicate, Option, Some, None, Ok, Err, ap, append_assoc, append-nil, arith, length-append, refl, subst, sym}
use Rattle.std.specs.Prelude.{All, if◌then◌else◌, pos}
use Rattle.std.specs.Global.{Vec}
use Rattle.std.specs.Io.KnownBytes.{Appends, Keeps}
use Rattle.std.proofs.KnownBytes.{Appends-nil, Appends-trans}
use Rattle.std.proofs.lemmas.Bool.{eqb-false, eqb-true}
use Rattle.std.proofs.lemmas.List.{get_or-map, get_or-replicate, get_or_read, get_or-set_other, get_or-set_same, length-map, length-replicate, length-set, map-set}
use Rattle.std.proofs.lemmas.List.Elements.{All-append, filter-append}
use Rattle.csv.specs.Writing.{fields_written, has_written, row_text, text_written, writer_pending, writer_setup, writer_under}
use Rattle.csv.specs.declared.writer.Writer.{Writer}
use Rattle.tq_base.specs.declared.catalogue.Column.{Column}
use Rattle.tq_base.specs.declared.form.Form.{Form}
use Rattle.tq_base.specs.declared.value.Value.{Value}
use Rattle.tq_base.specs.Contents.{Int}
use Rattle.tq_event.specs.Entries.{Entry}
use Rattle.tq_event.specs.declared.fault.LoadFaultKind.{LoadFaultKind}
use Rattle.tq_event.specs.declared.fault.LoadFaultKind.TheVariants.{BadHeader, BadInt, BadPeriod, DuplicateName, FieldCount, NotUtf8, TextTooLong, TooManyColumns, TooManyEvents, TooManyTables}
use Rattle.tq_event.specs.declared.fault.LoadFaultKind.TheVariants as kind
use Rattle.tq_event.specs.Loading.{csv_records, entry_of, header_of}
use Rattle.tq_event.specs.Projection.{is_wanted, projected_value, projected_values}
use Rattle.tq_import.specs.Reading.{HasLeft}
use Rattle.tq_table.specs.Sink.{SinkState}
use Rattle.tq_table.specs.Text.{answer_format}
use Rattle.tq_table.specs.Writing.{HasWritten}
use Rattle.csv.specs.declared.reader.Reader.{Reader}
use Rattle.tq_split.specs.declared.division.Batch.{Batch}
use Rattle.tq_split.specs.declared.division.Cut.{Cut}
use Rattle.tq_split.specs.declared.division.Division.{Division}
use Rattle.tq_split.specs.declared.division.DivisionFault.{DivisionFault}
use Rattle.tq_split.specs.declared.division.DivisionFault.TheVariants.{Header, Input, NoColumn, NoHeader, OutOfMemory, Record, Write}
use Rattle.tq_split.specs.PartNumbers.{part_number}
use Rattle.tq_split.specs.TableParts.{AreAppended, AreDivided, AreTexts, HasEntry, HasFlushed, IsBatch, IsCut, IsDivided, IsDivisionFault, IsFirstInvalid, IsHeaderFault, IsRecordsFault, PartsAppend, header_text, known_bytes, part_lines, part_text, read_part, record_part, records_in, records_text, texts_of}

-- ---- values

-- a wanted value is kept
pub wanted_kept : (wanted : List Bool) (whole : List Value) (column : ℕ) (d : Value) → is_wanted wanted column ≡ true → get_or (projected_values wanted whole) column d ≡ get_or whole column d
unfolding projected_values
wanted_kept wanted [] column d h = refl
wanted_kept [] (v ∷ whole) column d h = refl
wanted_kept (w ∷ wanted) (v ∷ whole) zero d h = ap (λ (b : Bool). projected_value b v) h
wanted_kept (w ∷ wanted) (v ∷ whole) (suc column) d h = wanted_kept wanted whole column d h

-- the part of the value that was read is that of the record
pub value_part : (parts : ℕ) (form : Form) (columns : List Column) (column : ℕ) (fields : List (List ℕ)) (entry : Entry) (wanted : List Bool) (values : List Value) (value : Value)
    → entry_of form 0 columns fields ≡ Ok entry → values ≡ projected_values wanted entry.values → is_wanted wanted column ≡ true → column < length values → value ≡ get_or values column value
    → part_number parts value ≡ record_part parts form columns column fields
value_part parts form columns column fields entry wanted values value parsed kept h below is =
    ap (part_number parts)
    (get_or_read values column value below is (Int (pos 0)) ∙ ap (λ (l : List Value). get_or l column (Int (pos 0))) kept ∙ wanted_kept wanted entry.values column (Int (pos 0)) h)
    ∙ sym (ap (read_part parts column) parsed)

-- ---- lines

records_append : (front rest : List (List (List ℕ))) → records_text (front ++ rest) ≡ records_text front ++ records_text rest
records_append [] rest = refl
records_append (fields ∷ front) rest =
    ap (λ (t : List ℕ). row_text answer_format fields ++ t) (records_append front rest) ∙ sym (append_assoc (row_text answer_format fields) (records_text front) (records_text rest))

module _ (parts : ℕ) (form : Form) (columns : List Column) (column : ℕ) where
  -- the lines of a part after one more record, if it belongs to the part
  lines_push : (done : List (List (List ℕ))) (fields : List (List ℕ)) (part : ℕ)
      → part_lines parts form columns column (done ++ fields ∷ []) part
      ≡ part_lines parts form columns column done part ++ (if record_part parts form columns column fields == part then row_text answer_format fields else [])
  lines_push done fields part =
      ap records_text (filter-append (λ (f : List (List ℕ)). record_part parts form columns column f == part) done (fields ∷ []))
      ∙ records_append (records_in parts form columns column part done) (records_in parts form columns column part (fields ∷ []))
      ∙ ap (λ (t : List ℕ). part_lines parts form columns column done part ++ t) (one (record_part parts form columns column fields == part))
    where
      one : (b : Bool) → records_text (if b then fields ∷ [] else []) ≡ (if b then row_text answer_format fields else [])
      one true = append-nil (row_text answer_format fields)
      one false = refl

  -- the texts of the parts after one more record
  pub texts_push : (texts new : List (List ℕ)) (done : List (List (List ℕ))) (fields : List (List ℕ)) → AreTexts texts (part_lines parts form columns column done)
      → new ≡ set texts (record_part parts form columns column fields) (get_or texts (record_part parts form columns column fields) [] ++ row_text answer_format fields)
      → AreTexts new (part_lines parts form columns column (done ++ fields ∷ []))
  texts_push texts new done fields are is part below = ap (λ (l : List (List ℕ)). get_or l part []) is ∙ by (here == part) refl ∙ sym (lines_push done fields part)
    where
      here : ℕ
      here = record_part parts form columns column fields

      line : List ℕ
      line = row_text answer_format fields

      there : part < length texts
      there = omega (arith, below, ap length is, length-set texts here (get_or texts here [] ++ line))

      by : (b : Bool) → (here == part) ≡ b → get_or (set texts here (get_or texts here [] ++ line)) part [] ≡ part_lines parts form columns column done part ++ (if here == part then line else [])
      by true same =
          let e : here ≡ part = eqb-true here part same in
          let inside : here < length texts = omega (arith, there, e) in
          ap (λ (n : ℕ). get_or (set texts here (get_or texts here [] ++ line)) n []) (sym e)
          ∙ get_or-set_same texts here (get_or texts here [] ++ line) [] inside
          ∙ ap (λ (n : ℕ). get_or texts n [] ++ line) e
          ∙ ap (λ (t : List ℕ). t ++ line) (are part there)
          ∙ ap (λ (q : Bool). part_lines parts form columns column done part ++ (if q then line else [])) (sym same)
      by false other =
          get_or-set_other texts here part (get_or texts here [] ++ line) [] (λ e. eqb-false here part other (sym e))
          ∙ are part there
          ∙ sym (append-nil (part_lines parts form columns column done part))
          ∙ ap (λ (q : Bool). part_lines parts form columns column done part ++ (if q then line else [])) (sym other)

  -- at first each text is empty
  pub texts_none : (texts : List (List ℕ)) (n : ℕ) → texts ≡ replicate n [] → AreTexts texts (part_lines parts form columns column [])
  texts_none texts n is part below =
      let many : length texts ≡ n = ap length is ∙ length-replicate n [] in
      ap (λ (l : List (List ℕ)). get_or l part []) is ∙ get_or-replicate n part [] [] (omega (arith, below, many))

  -- the lines of records that come one after the other
  pub lines_append : (front rest : List (List (List ℕ))) (part : ℕ)
      → part_lines parts form columns column (front ++ rest) part ≡ part_lines parts form columns column front part ++ part_lines parts form columns column rest part
  lines_append front rest part =
      ap records_text (filter-append (λ (f : List (List ℕ)). record_part parts form columns column f == part) front rest)
      ∙ records_append (records_in parts form columns column part front) (records_in parts form columns column part rest)

-- ---- several files

pub parts_appended : PartsAppend
parts_appended parts form columns column begins header other records more part =
    ap (λ (t : List ℕ). header_text begins header ++ t) (lines_append parts form columns column records more part)
    ∙ sym (append_assoc (header_text begins header) (part_lines parts form columns column records part) (part_lines parts form columns column more part))

-- ---- writers

none_before : (front rest : List ℕ) → front ++ rest ≡ [] → front ≡ []
none_before [] rest e = refl
none_before (b ∷ front) rest e = cc e

-- a writer that has written nothing
pub fresh_flushed : (writer : Writer (Vec ℕ)) → HasWritten writer [] → HasFlushed writer []
fresh_flushed writer is =
    let none : (writer_under writer).items ++ writer_pending writer ≡ [] = cc (is.written) in
    record { whole = is; held = none_before (writer_under writer).items (writer_pending writer) none }

-- a writer after a flush
pub flushed_now : (old new : Writer (Vec ℕ)) (text : List ℕ) → HasWritten old text
    → Keeps (text_written (λ v. Some v.items) old) (text_written (λ v. Some v.items) new) → writer_pending new ≡ [] → fields_written new ≡ fields_written old
    → has_written new ≡ has_written old → writer_setup new ≡ writer_setup old → HasFlushed new text
flushed_now old new text is kept pending fields begun setup =
    let was : (writer_under old).items ++ writer_pending old ≡ text = cc (is.written) in
    let whole : (writer_under new).items ++ writer_pending new ≡ text = kept ∙ was in
    record {
      whole = record { written = ap (λ (t : List ℕ). Some t) whole; setup = setup ∙ is.setup; fields = fields ∙ is.fields; begun = begun ∙ is.begun };
      held = sym (append-nil (writer_under new).items) ∙ ap (λ (t : List ℕ). (writer_under new).items ++ t) (sym pending) ∙ whole;
    }

-- ---- batches

-- the texts have the lines of the records so far, and the reader has the others left
pub record BatchSoFar {R : Type 0} (cut : Cut) (parts number : ℕ) (all : List (List (List ℕ))) (remaining : R → Option (List ℕ)) (reader : Reader R) (texts : List (List ℕ)) (next : ℕ) : Type 0 where
  pub done : List (List (List ℕ))
  pub left : List (List (List ℕ))
  pub split : all ≡ done ++ left
  pub has : HasLeft remaining 44 reader left
  pub entries : All (HasEntry cut.form cut.columns.items) done
  pub texts_are : AreTexts texts (part_lines parts cut.form cut.columns.items cut.column done)
  pub counted : next ≡ number + length done

-- the records so far were written to their parts, and the reader has the others left
pub record DividedSoFar {R : Type 0} (cut : Cut) (all : List (List (List ℕ))) (remaining : R → Option (List ℕ)) (reader : Reader R) (old new : List (Option (List ℕ))) (number : ℕ) : Type 0 where
  pub done : List (List (List ℕ))
  pub left : List (List (List ℕ))
  pub split : all ≡ done ++ left
  pub has : HasLeft remaining 44 reader left
  pub entries : All (HasEntry cut.form cut.columns.items) done
  pub written : AreAppended old new (part_lines (length old) cut.form cut.columns.items cut.column done)
  pub counted : number ≡ 2 + length done

-- ---- sinks

pub many_bytes : {W : Type 0} (contents : W → Option (List ℕ)) (sinks : List (SinkState W)) → length (known_bytes contents sinks) ≡ length sinks
many_bytes {W} contents sinks = length-map sinks (λ (sink : SinkState W). contents sink.writer)

pub appended_none : (old : List (Option (List ℕ))) → AreAppended old old (λ part. [])
appended_none old part below = Appends-nil (get_or old part None)

pub appended_more : (old mid new : List (Option (List ℕ))) (first second whole : ℕ → List ℕ) → length mid ≡ length old → AreAppended old mid first → AreAppended mid new second
    → ((part : ℕ) → part < length old → whole part ≡ first part ++ second part) → AreAppended old new whole
appended_more old mid new first second whole many a b are part below =
    subst (Appends (get_or old part None) (get_or new part None)) (sym (are part below))
    (Appends-trans (get_or old part None) (get_or mid part None) (get_or new part None) (first part) (second part) (a part below) (b part (omega (arith, below, many))))

pub appended_same : (old new : List (Option (List ℕ))) (first second : ℕ → List ℕ) → AreAppended old new first → ((part : ℕ) → part < length old → first part ≡ second part) → AreAppended old new second
appended_same old new first second a are part below = subst (Appends (get_or old part None) (get_or new part None)) (are part below) (a part below)

-- the texts before this part were appended, and the other sinks are as they were
pub record PutSoFar {W : Type 0} (contents : W → Option (List ℕ)) (old sinks : List (SinkState W)) (part : ℕ) (text : ℕ → List ℕ) : Type 0 where
  pub done : (k : ℕ) → k < part → Appends (get_or (known_bytes contents old) k None) (get_or (known_bytes contents sinks) k None) (text k)
  pub rest : (k : ℕ) → part ≤ k → get_or (known_bytes contents sinks) k None ≡ get_or (known_bytes contents old) k None

pub put_none : {W : Type 0} (contents : W → Option (List ℕ)) (old : List (SinkState W)) (text : ℕ → List ℕ) → PutSoFar contents old old 0 text
put_none contents old text = record { done = λ k below. absurd (omega (arith, below)); rest = λ k past. refl }

-- the known bytes of a sink
pub known_read : {W : Type 0} (contents : W → Option (List ℕ)) (sinks : List (SinkState W)) (part : ℕ) (d : SinkState W) → part < length sinks
    → contents (get_or sinks part d).writer ≡ get_or (known_bytes contents sinks) part None
known_read {W} contents sinks part d below = sym (get_or-map (λ (s : SinkState W). contents s.writer) sinks part d None below)

pub text_at : (texts : List (Vec ℕ)) (part : ℕ) (text : Vec ℕ) → part < length texts → text ≡ get_or texts part text → text.items ≡ get_or (texts_of texts) part []
text_at texts part text below is = ap (λ (t : Vec ℕ). t.items) is ∙ sym (get_or-map (λ (t : Vec ℕ). t.items) texts part text [] below)

-- a line after the text of its part
pub line_put : (texts : List (Vec ℕ)) (part here : ℕ) (old new : Vec ℕ) (row : List ℕ) → part ≡ here → part < length texts → old ≡ get_or texts part old → new.items ≡ old.items ++ row
    → texts_of (set texts part new) ≡ set (texts_of texts) here (get_or (texts_of texts) here [] ++ row)
line_put texts part here old new row same below is line =
    map-set (λ (t : Vec ℕ). t.items) texts part new
    ∙ ap (set (texts_of texts) part) (line ∙ ap (λ (l : List ℕ). l ++ row) (text_at texts part old below is))
    ∙ ap (λ (n : ℕ). set (texts_of texts) n (get_or (texts_of texts) n [] ++ row)) same

pub put_more : {W : Type 0} (contents : W → Option (List ℕ)) (old sinks : List (SinkState W)) (part : ℕ) (text : ℕ → List ℕ) (sink : SinkState W) → PutSoFar contents old sinks part text → part < length sinks
    → Appends (get_or (known_bytes contents sinks) part None) (contents sink.writer) (text part)
    → PutSoFar contents old (set sinks part sink) (part + 1) text
put_more {W} contents old sinks part text sink so below put = record {
  done = λ k less. by k (k == part) refl less;
  rest = λ k past.
      ap (λ (l : List (Option (List ℕ))). get_or l k None) made
      ∙ get_or-set_other (known_bytes contents sinks) part k (contents sink.writer) None (λ e. absurd (omega (arith, past, e)))
      ∙ so.rest k (omega (arith, past));
}
  where
    made : known_bytes contents (set sinks part sink) ≡ set (known_bytes contents sinks) part (contents sink.writer)
    made = map-set (λ (s : SinkState W). contents s.writer) sinks part sink

    by : (k : ℕ) (b : Bool) → (k == part) ≡ b → k < part + 1 → Appends (get_or (known_bytes contents old) k None) (get_or (known_bytes contents (set sinks part sink)) k None) (text k)
    by k true same less =
        let e : k ≡ part = eqb-true k part same in
        let new : get_or (known_bytes contents (set sinks part sink)) part None ≡ contents sink.writer =
        ap (λ (l : List (Option (List ℕ))). get_or l part None) made
        ∙ get_or-set_same (known_bytes contents sinks) part (contents sink.writer) None (omega (arith, below, many_bytes contents sinks)) in
        subst (λ (n : ℕ). Appends (get_or (known_bytes contents old) n None) (get_or (known_bytes contents (set sinks part sink)) n None) (text n)) (sym e)
        (subst (λ (o : Option (List ℕ)). Appends o (get_or (known_bytes contents (set sinks part sink)) part None) (text part)) (so.rest part (omega arith))
        (subst (λ (o : Option (List ℕ)). Appends (get_or (known_bytes contents sinks) part None) o (text part)) (sym new) put))
    by k false other less =
        let apart : k ≢ part = eqb-false k part other in
        let new : get_or (known_bytes contents (set sinks part sink)) k None ≡ get_or (known_bytes contents sinks) k None =
        ap (λ (l : List (Option (List ℕ))). get_or l k None) made ∙ get_or-set_other (known_bytes contents sinks) part k (contents sink.writer) None apart in
        let before : k < part = omega (arith, less, apart) in
        subst (λ (o : Option (List ℕ)). Appends (get_or (known_bytes contents old) k None) o (text k)) (sym new) (so.done k before)

pub put_whole : {W : Type 0} (contents : W → Option (List ℕ)) (old sinks : List (SinkState W)) (part : ℕ) (text : ℕ → List ℕ) → PutSoFar contents old sinks part text → length old ≤ part
    → AreAppended (known_bytes contents old) (known_bytes contents sinks) text
put_whole contents old sinks part text so all k below = so.done k (omega (arith, below, all, many_bytes contents old))

-- ---- faults

pub memory_or : (k : LoadFaultKind) → (k ≡ kind.OutOfMemory) ⊎ (k ≢ kind.OutOfMemory)
memory_or kind.OutOfMemory = inl refl
memory_or BadHeader = inr (λ e. cc e)
memory_or DuplicateName = inr (λ e. cc e)
memory_or FieldCount = inr (λ e. cc e)
memory_or BadInt = inr (λ e. cc e)
memory_or TextTooLong = inr (λ e. cc e)
memory_or BadPeriod = inr (λ e. cc e)
memory_or NotUtf8 = inr (λ e. cc e)
memory_or TooManyTables = inr (λ e. cc e)
memory_or TooManyColumns = inr (λ e. cc e)
memory_or TooManyEvents = inr (λ e. cc e)

-- the fault of a record after valid ones, unless memory failed
pub record_faulty : (form : Form) (columns : List Column) (number next : ℕ) (all done more : List (List (List ℕ))) (fields : List (List ℕ)) (k : LoadFaultKind) (out : DivisionFault)
    → all ≡ done ++ fields ∷ more → All (HasEntry form columns) done → next ≡ number + length done
    → (k ≢ kind.OutOfMemory → out ≡ Record next k) → (k ≡ kind.OutOfMemory → out ≡ OutOfMemory) → (k ≢ kind.OutOfMemory → entry_of form 0 columns fields ≡ Err k)
    → IsRecordsFault form columns number all out
record_faulty form columns number next all done more fields k out split valid place is memory invalid = by (memory_or k)
  where
    by : (k ≡ kind.OutOfMemory) ⊎ (k ≢ kind.OutOfMemory) → IsRecordsFault form columns number all out
    by (inl e) = subst (IsRecordsFault form columns number all) (sym (memory e)) tt
    by (inr e) = subst (IsRecordsFault form columns number all) (sym (is e)) (record { valid = done; fields = fields; rest = more; split = split; entries = valid; invalid = invalid e; place_is = place })

-- the fault of the remaining records is that of all
pub fault_later : (form : Form) (columns : List Column) (number next : ℕ) (all done left : List (List (List ℕ))) (fault : DivisionFault)
    → all ≡ done ++ left → All (HasEntry form columns) done → next ≡ number + length done → IsRecordsFault form columns next left fault → IsRecordsFault form columns number all fault
fault_later form columns number next all done left (Record place k) split valid count h = record {
  valid = done ++ h.valid;
  fields = h.fields;
  rest = h.rest;
  split = split ∙ ap (λ (l : List (List (List ℕ))). done ++ l) h.split ∙ sym (append_assoc done h.valid (h.fields ∷ h.rest));
  entries = All-append (HasEntry form columns) done h.valid valid h.entries;
  invalid = h.invalid;
  place_is = omega (arith, h.place_is, count, length-append done h.valid);
}
fault_later form columns number next all done left (Input fault) split valid count h = tt
fault_later form columns number next all done left Write split valid count h = tt
fault_later form columns number next all done left OutOfMemory split valid count h = tt
fault_later form columns number next all done left NoHeader split valid count h = absurd h
fault_later form columns number next all done left (Header k) split valid count h = absurd h
fault_later form columns number next all done left NoColumn split valid count h = absurd h

-- ---- batches that are written

module _ {R : Type 0} (cut : Cut) (all : List (List (List ℕ))) (remaining : R → Option (List ℕ)) (old_reader new_reader : Reader R) (old mid new : List (Option (List ℕ))) (number parts : ℕ) (batch : Batch) (texts : List (Vec ℕ))
    (parts_are : parts ≡ length old) (sinks_are : length mid ≡ length old) (same : texts ≡ batch.texts.items) (many : length batch.texts.items ≡ parts)
    (s : DividedSoFar cut all remaining old_reader old mid number) (b : IsBatch cut parts number s.left remaining new_reader batch)
    (put : AreAppended mid new (λ part. get_or (texts_of texts) part [])) where
  -- the text that was written to a part
  text_is : (part : ℕ) → part < length old → get_or (texts_of texts) part [] ≡ part_lines (length old) cut.form cut.columns.items cut.column b.done part
  text_is part below =
      ap (λ (l : List (Vec ℕ)). get_or (texts_of l) part []) same
      ∙ b.texts part (omega (arith, below, length-map batch.texts.items (λ (t : Vec ℕ). t.items), many, parts_are))
      ∙ ap (λ (n : ℕ). part_lines n cut.form cut.columns.items cut.column b.done part) parts_are

  written : AreAppended old new (part_lines (length old) cut.form cut.columns.items cut.column (s.done ++ b.done))
  written =
      appended_more old mid new (part_lines (length old) cut.form cut.columns.items cut.column s.done) (λ part. get_or (texts_of texts) part []) (part_lines (length old) cut.form cut.columns.items cut.column (s.done ++ b.done)) sinks_are
      s.written put
      (λ part below. lines_append (length old) cut.form cut.columns.items cut.column s.done b.done part
      ∙ ap (λ (t : List ℕ). part_lines (length old) cut.form cut.columns.items cut.column s.done part ++ t) (sym (text_is part below)))

  split : all ≡ (s.done ++ b.done) ++ b.rest
  split = s.split ∙ ap (λ (l : List (List (List ℕ))). s.done ++ l) b.split ∙ sym (append_assoc s.done b.done b.rest)

  entries : All (HasEntry cut.form cut.columns.items) (s.done ++ b.done)
  entries = All-append (HasEntry cut.form cut.columns.items) s.done b.done s.entries b.entries

  pub divided_more : batch.more ≡ true → DividedSoFar cut all remaining new_reader old new batch.next
  divided_more more = record {
    done = s.done ++ b.done;
    left = b.rest;
    split = split;
    has = b.has more;
    entries = entries;
    written = written;
    counted = omega (arith, s.counted, b.counted, length-append s.done b.done);
  }

  pub divided_all : batch.more ≡ false → AreDivided cut all old new (batch.next - 2)
  divided_all last =
      let whole : all ≡ s.done ++ b.done = split ∙ ap (λ (l : List (List (List ℕ))). (s.done ++ b.done) ++ l) (b.ended last) ∙ append-nil (s.done ++ b.done) in
      record {
        entries = subst (All (HasEntry cut.form cut.columns.items)) (sym whole) entries;
        written = subst (λ (l : List (List (List ℕ))). AreAppended old new (part_lines (length old) cut.form cut.columns.items cut.column l)) (sym whole) written;
        rows_are = omega (arith, s.counted, b.counted, length-append s.done b.done, ap length whole);
      }

-- ---- the file

pub file_divided : (division : Division) (text : List ℕ) (header : List (List ℕ)) (records : List (List (List ℕ))) (cut : Cut) (old mid new : List (Option (List ℕ))) (begin : List ℕ) (rows : ℕ)
    → csv_records text ≡ header ∷ records → IsCut division header cut → begin ≡ header_text division.begins header → length mid ≡ length old
    → AreAppended old mid (λ part. begin) → AreDivided cut records mid new rows → IsDivided division text old new (record { rows = rows; columns = cut.columns })
file_divided division text header records cut old mid new begin rows whole is begin_is many first d = record {
  header = header;
  records = records;
  split = whole;
  columns = is.columns;
  column = subst (λ (n : ℕ). n < length cut.columns.items) is.column is.within;
  entries = subst (λ (f : Form). All (HasEntry f cut.columns.items) records) is.form d.entries;
  written = appended_more old mid new (λ part. begin) (part_lines (length mid) cut.form cut.columns.items cut.column records)
      (part_text (length old) division.form cut.columns.items division.column division.begins header records) many first d.written
      (λ part below. λ i. sym begin_is i ++ part_lines (sym many i) (sym is.form i) cut.columns.items (sym is.column i) records part);
  rows = d.rows_are;
}

pub header_faulty : (division : Division) (all records : List (List (List ℕ))) (header : List (List ℕ)) (fault : DivisionFault) → all ≡ header ∷ records → IsHeaderFault division header fault → IsDivisionFault division all fault
header_faulty division all records header (Header k) whole h = (header, records, whole, h)
header_faulty division all records header NoColumn whole h = (header, records, h.0, whole, h.1, h.2)
header_faulty division all records header OutOfMemory whole h = tt
header_faulty division all records header (Record place k) whole h = absurd h
header_faulty division all records header (Input fault) whole h = absurd h
header_faulty division all records header Write whole h = absurd h
header_faulty division all records header NoHeader whole h = absurd h

pub records_faulty : (division : Division) (all records : List (List (List ℕ))) (header : List (List ℕ)) (cut : Cut) (fault : DivisionFault) → all ≡ header ∷ records → IsCut division header cut
    → IsRecordsFault cut.form cut.columns.items 2 records fault → IsDivisionFault division all fault
records_faulty division all records header cut (Record place k) whole is h =
    (header, records, cut.columns.items, whole, is.columns, subst (λ (n : ℕ). n < length cut.columns.items) is.column is.within, subst (λ (f : Form). IsFirstInvalid f cut.columns.items 2 records place k) is.form h)
records_faulty division all records header cut (Input fault) whole is h = tt
records_faulty division all records header cut Write whole is h = tt
records_faulty division all records header cut OutOfMemory whole is h = tt
records_faulty division all records header cut NoHeader whole is h = absurd h
records_faulty division all records header cut (Header k) whole is h = absurd h
records_faulty division all records header cut NoColumn whole is h = absurd h

-- the header's fault, unless memory failed
pub header_kind : (division : Division) (header : List (List ℕ)) (k : LoadFaultKind) (out : DivisionFault)
    → (k ≢ kind.OutOfMemory → out ≡ Header k) → (k ≡ kind.OutOfMemory → out ≡ OutOfMemory) → (k ≢ kind.OutOfMemory → header_of header ≡ Err k) → IsHeaderFault division header out
header_kind division header k out is memory invalid = by (memory_or k)
  where
    by : (k ≡ kind.OutOfMemory) ⊎ (k ≢ kind.OutOfMemory) → IsHeaderFault division header out
    by (inl e) = subst (IsHeaderFault division header) (sym (memory e)) tt
    by (inr e) = subst (IsHeaderFault division header) (sym (is e)) (invalid e)
