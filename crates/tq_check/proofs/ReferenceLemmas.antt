-- References and their faults.
use Rattle.std.proofs.Common.{List, [], ◌∷◌, ◌++◌, subst, sym}
use Rattle.std.specs.List.{AllZip}
use Rattle.tq_base.specs.declared.catalogue.Catalogue.{Catalogue}
use Rattle.tq_check.specs.References.{name_of, HasNoColumn, HasNoTable, IsColumnFault, IsReferenceFault}
use Rattle.tq_check.specs.declared.references.Part.{Part}
use Rattle.tq_check.specs.declared.references.ReferenceFault.{ReferenceFault}
use Rattle.tq_check.specs.declared.references.ReferenceFault.TheVariants.{UnknownTable, UnknownColumn, KindMismatch, OutOfMemory}
use Rattle.tq_check.specs.declared.references.ReferenceNames.{ReferenceNames}

-- a fault of a column is one of the reference
pub from_part : (catalogue : Catalogue) (names : ReferenceNames) (of : Part) (fault : ReferenceFault) → IsColumnFault catalogue (name_of of names) of fault → IsReferenceFault catalogue names fault
from_part catalogue names of (UnknownTable other) is = subst (λ p. HasNoTable catalogue (name_of p names)) (sym is.0) is.1
from_part catalogue names of (UnknownColumn other) is = subst (λ p. HasNoColumn catalogue (name_of p names)) (sym is.0) is.1
from_part catalogue names of KindMismatch is = absurd is
from_part catalogue names of OutOfMemory is = is

-- one more pair
pub zip_push : {A B : Type 0} (R : A → B → Type 0) (xs : List A) (ys : List B) (x : A) (y : B) → AllZip R xs ys → R x y → AllZip R (xs ++ x ∷ []) (ys ++ y ∷ [])
zip_push R [] [] x y all one = (one, tt)
zip_push R [] (z ∷ ys) x y all one = absurd all
zip_push R (z ∷ xs) [] x y all one = absurd all
zip_push R (z ∷ xs) (w ∷ ys) x y all one = (all.0, zip_push R xs ys x y all.1 one)
