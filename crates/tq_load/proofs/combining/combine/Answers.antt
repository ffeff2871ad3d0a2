use Rattle.std.proofs.Common.{◌++◌, ◌∷◌, [], List, Option, ap, ◌∙◌, append_assoc, subst, sym}
use Rattle.std.specs.Prelude.{All, IfSome}
use Rattle.std.specs.Vec.Iter.{into_iter_items}
use Rattle.std.proofs.lemmas.List.Elements.{All-head, All-tail}
use Rattle.tq_load.specs.declared.part.PartRows.{PartRows}
use Rattle.tq_load.specs.Parts.{IsRead}
use Rattle.tq_load.proofs.combining.combine.Goals as goal

middle_holds : {A : Type 0} (P : A → Type 0) (front : List A) (x : A) (rest : List A) → All P (front ++ x ∷ rest) → P x
middle_holds P [] x rest all = All-head P x rest all
middle_holds P (y ∷ front) x rest all = middle_holds P front x rest (All-tail P y (front ++ x ∷ rest) all)

pub parts-preserved : goal.parts-preserved
parts-preserved g c =
    let is = ap (λ l. c.parts.yielded ++ l) (sym c.in-Some.ensures.steps.0) ∙ c.parts.invariant.reads in
    record {
      reads = append_assoc c.parts.yielded (c.in-Some.part ∷ []) (into_iter_items c.next.new.self) ∙ is;
      all = λ form files wanted schemas are.
          let read = middle_holds (λ (one : Option PartRows). IfSome one (IsRead form files wanted schemas)) c.parts.yielded c.in-Some.part (into_iter_items c.next.new.self)
          (subst (All (λ (one : Option PartRows). IfSome one (IsRead form files wanted schemas))) (sym is) are) in
          c.in_ok-add.ensures form files wanted schemas (c.parts.invariant.all form files wanted schemas are) (subst (λ (one : Option PartRows). IfSome one (IsRead form files wanted schemas)) c.in-Some-part.is read);
    }
