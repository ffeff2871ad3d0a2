use Rattle.std.proofs.Common.{Ok, Err, Result}
use Rattle.std.specs.Result.{OnOk}
use Rattle.std.proofs.lemmas.List.Sorted.{IsNonDecreasingBy-from_sort}
use Rattle.tq_scan.proofs.scanning.sort_keys.Goals as goal

on_ok : {T E A B : Type 0} (r : Result T E) → (A → B) → OnOk r A → OnOk r B
on_ok (Ok x) f h = f h
on_ok (Err e) f h = h

pub returns-clause-sorted : goal.returns-clause-sorted
returns-clause-sorted c = on_ok _ (IsNonDecreasingBy-from_sort (λ x. x) _) c.sort.ensures.sorted
