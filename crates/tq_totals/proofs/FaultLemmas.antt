-- Faults that a function passes on.
use Rattle.std.proofs.Common.{◌≡◌, Result, Ok, Err, subst, sym}
use Rattle.std.specs.Result.{IfErr, IsErrAnd}
use Rattle.tq_totals.specs.declared.fault.TotalsFault.{TotalsFault}

-- what holds of a fault holds of the same fault passed on
pub passed_on : {T : Type 0} (P : TotalsFault → Type 0) (r : Result T TotalsFault) (fault : TotalsFault) → IsErrAnd r (λ passed. passed ≡ fault) → P fault → IfErr r P
passed_on P (Ok x) fault is h = absurd is
passed_on P (Err e) fault is h = subst P (sym is) h
