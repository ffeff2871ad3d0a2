use Rattle.std.proofs.Common.{◌≡◌, ◌≢◌, Ok, Err, Result, arith}
use Rattle.std.specs.Prelude.{IfErr, IfOk}
use Rattle.std.proofs.lemmas.Result.{err_from_is_err_and}
use Rattle.csv.specs.Records.{fields_of}
use Rattle.tq_base.specs.declared.period.Period.{Period}
use Rattle.tq_event.specs.declared.fault.LoadFaultKind.{LoadFaultKind}
use Rattle.tq_event.specs.declared.fault.LoadFaultKind.TheVariants.{OutOfMemory}
use Rattle.tq_event.specs.Projection.{IsProjectedEntry}
use Rattle.tq_event.specs.Loading.{entry_of, period_fields, period_of}
use Rattle.tq_event.proofs.FieldLemmas.{entry_fails, entry_told}
use Rattle.tq_event.proofs.reading.read_entry.Goals as goal

pub returns-in_err-read_fields-clause-fault : goal.returns-in_err-read_fields-clause-fault
returns-in_err-read_fields-clause-fault c table =
    let p = err_from_is_err_and c.from_residual.result c.from_residual.ensures.1 in
    rw (p.1, p.2) (λ known. entry_fails c.args.form table c.args.columns.now (fields_of c.args.record.now) (omega (arith, c.len-width.ensures, c.if-width-lt2.false, c.if-width-columns.false)) _ (c.in_err-read_fields.ensures.fault known))

pub returns-clause-ok : goal.returns-clause-ok
returns-clause-ok c = by c.read_period.result c.read_period.ensures.ok
  where
    by : (r : Result Period LoadFaultKind) → IfOk r (λ period. period_of c.args.form (period_fields (fields_of c.args.record.now)) ≡ Ok (period.start, period.end))
        → IfOk r (IsProjectedEntry c.args.form c.args.columns.now c.args.wanted.now (fields_of c.args.record.now) c.read_fields.new.values.items)
    by (Ok period) until = record {
      whole = c.in_ok-read_fields.ensures.ok.whole;
      parsed = λ table.
          entry_told c.args.form table c.args.columns.now (fields_of c.args.record.now) (omega (arith, c.len-width.ensures, c.if-width-lt2.false, c.if-width-columns.false)) c.in_ok-read_fields.ensures.ok.whole _
          c.in_ok-read_fields.ensures.ok.parsed until;
      kept = c.in_ok-read_fields.ensures.ok.kept;
    }
    by (Err fault) until = tt

pub returns-clause-fault : goal.returns-clause-fault
returns-clause-fault c table = by c.read_period.result c.read_period.ensures.fault
  where
    by : (r : Result Period LoadFaultKind) → IfErr r (λ fault. period_of c.args.form (period_fields (fields_of c.args.record.now)) ≡ Err fault)
        → IfErr r (λ fault. fault ≢ OutOfMemory → entry_of c.args.form table c.args.columns.now (fields_of c.args.record.now) ≡ Err fault)
    by (Ok period) until = tt
    by (Err fault) until = λ known.
        entry_told c.args.form table c.args.columns.now (fields_of c.args.record.now) (omega (arith, c.len-width.ensures, c.if-width-lt2.false, c.if-width-columns.false)) c.in_ok-read_fields.ensures.ok.whole _
        c.in_ok-read_fields.ensures.ok.parsed until
