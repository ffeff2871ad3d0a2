use Rattle.std.proofs.Common.{◌≡◌, ◌∙◌, ◌+◌, List, [], ◌∷◌, ◌++◌, ap, length, refl, subst, sym, take}
use Rattle.std.specs.Prelude.{All}
use Rattle.std.specs.List.{AllZip}
use Rattle.std.proofs.lemmas.List.{take_more}
use Rattle.std.proofs.lemmas.List.Elements.{All-push}
use Rattle.std.proofs.lemmas.Option.{slice_get_read}
use Rattle.tq_check.specs.References.{IsReferenceOf, IsWithin}
use Rattle.tq_check.specs.declared.references.Reference.{Reference}
use Rattle.tq_check.specs.declared.references.ReferenceNames.{ReferenceNames}
use Rattle.tq_check.proofs.ReferenceLemmas.{zip_push}
use Rattle.tq_check.proofs.references.resolve_all.Goals as goal

pub returns-in-Err-clause-refused : goal.returns-in-Err-clause-refused
returns-in-Err-clause-refused c differs =
    let names = c.args.names.now in
    record {
      names = c.index-names-number.result;
      at_number = slice_get_read names (length names) c.numbers.number c.index-names-number.result refl c.numbers-test.true c.index-names-number.is;
      is_fault = c.in-Err.ensures.fault;
      before = c.numbers.references.items;
      resolved = c.numbers.invariant.all;
    }

pub numbers-preserved : goal.numbers-preserved
numbers-preserved c =
    let catalogue = c.args.catalogue.now in
    let names = c.args.names.now in
    let at = c.numbers.number in
    let one = c.index-names-number.result in
    let before = c.numbers.references.items in
    let more : take (at + 1) names ≡ take at names ++ one ∷ [] =
    take_more names at one c.numbers-test.true ∙ ap (λ (n : ReferenceNames). take at names ++ n ∷ []) (sym c.index-names-number.is) in
    record {
      all =
          subst (λ (l : List Reference). AllZip (IsReferenceOf catalogue) (take (at + 1) names) l) (sym c.in_ok-add_reference-in-Ok.ensures)
          (subst (λ (l : List ReferenceNames). AllZip (IsReferenceOf catalogue) l (before ++ c.in-Ok.reference ∷ [])) (sym more)
          (zip_push (IsReferenceOf catalogue) (take at names) before one c.in-Ok.reference c.numbers.invariant.all c.in-Ok.ensures.reference));
      within =
          subst (All (IsWithin catalogue)) (sym c.in_ok-add_reference-in-Ok.ensures) (All-push (IsWithin catalogue) before c.in-Ok.reference c.numbers.invariant.within c.in-Ok.ensures.within);
    }
