-- One more line.
use Rattle.std.proofs.Common.{◌≡◌, ◌≢◌, ◌∙◌, ℕ, ◌+◌, List, ◌∷◌, ◌++◌, Ok, Err, refl, subst, sym}
use Rattle.csv.specs.Writing.{row_text}
use Rattle.tq_table.specs.Text.{answer_format}
use Rattle.tq_import.specs.declared.fault.RecordFault.{RecordFault}
use Rattle.tq_import.specs.declared.fault.RecordFaultKind.{RecordFaultKind}
use Rattle.tq_import.specs.declared.fault.RecordFaultKind.TheVariants.{FieldCount, BadNumber, NotUtf8, TextTooLong, BadFrom, BadTo, EmptyPeriod, OutOfMemory}
use Rattle.tq_import.specs.declared.plan.Plan.{Plan}
use Rattle.tq_import.specs.declared.fault.ImportFault.{ImportFault}
use Rattle.tq_import.specs.declared.fault.ImportFault.TheVariants as import
use Rattle.tq_import.specs.Imports.{IsFaultAfter, IsFirstFault, import_of, lines_after}
use Rattle.tq_import.specs.Records.{import_record}

pub line_more : (plan : Plan) (text : List ℕ) (number : ℕ) (fields : List (List ℕ)) (more : List (List (List ℕ))) (line : List (List ℕ)) → import_record plan number fields ≡ Ok line
    → lines_after plan text number (fields ∷ more) ≡ lines_after plan (text ++ row_text answer_format line) (number + 1) more
line_more plan text number fields more line is = rw is refl

pub line_fault : (plan : Plan) (text : List ℕ) (number : ℕ) (fields : List (List ℕ)) (more : List (List (List ℕ))) (fault : RecordFault) → import_record plan number fields ≡ Err fault
    → lines_after plan text number (fields ∷ more) ≡ Err (record { number = number; fault = fault })
line_fault plan text number fields more fault is = rw is refl

-- the first fault of the remaining records is that of the file
pub first_fault : (plan : Plan) (all left : List (List (List ℕ))) (number : ℕ) (done : List ℕ) (last : List (List ℕ)) (fault : ImportFault)
    → import_of plan all ≡ lines_after plan done number left → IsFaultAfter plan number left last fault → IsFirstFault plan all last fault
first_fault plan all left number done last (import.Record fault) same h = (same ∙ h.0 done, h.1)
first_fault plan all left number done last import.Read same h = tt
first_fault plan all left number done last import.Write same h = tt
first_fault plan all left number done last import.OutOfMemory same h = tt

-- the fault of a record, unless memory failed
pub faulty : (plan : Plan) (number : ℕ) (records : List (List (List ℕ))) (last : List (List ℕ)) (next : ℕ) (fault : RecordFault) (out : ImportFault)
    → (fault.kind ≢ OutOfMemory → out ≡ import.Record (record { number = next; fault = fault }))
    → (fault.kind ≡ OutOfMemory → out ≡ import.OutOfMemory)
    → (fault.kind ≢ OutOfMemory → ((text : List ℕ) → lines_after plan text number records ≡ Err (record { number = next; fault = fault })) × (import_record plan next last ≡ Err fault))
    → IsFaultAfter plan number records last out
faulty plan number records last next fault out is memory first = by fault.kind refl
  where
    known : fault.kind ≢ OutOfMemory → IsFaultAfter plan number records last out
    known other = subst (IsFaultAfter plan number records last) (sym (is other)) (first other)

    by : (kind : RecordFaultKind) → fault.kind ≡ kind → IsFaultAfter plan number records last out
    by OutOfMemory e = subst (IsFaultAfter plan number records last) (sym (memory e)) tt
    by FieldCount e = known (λ f. cc (e, f))
    by BadNumber e = known (λ f. cc (e, f))
    by NotUtf8 e = known (λ f. cc (e, f))
    by TextTooLong e = known (λ f. cc (e, f))
    by BadFrom e = known (λ f. cc (e, f))
    by BadTo e = known (λ f. cc (e, f))
    by EmptyPeriod e = known (λ f. cc (e, f))
