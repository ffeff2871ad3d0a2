use Rattle.std.proofs.Common.{◌≡◌, ◌∙◌, ◌++◌, ◌∷◌, [], ap, append-nil, append_assoc, length, map, sym}
use Rattle.std.specs.Vec.Iter.{into_iter_items}
use Rattle.std.proofs.lemmas.List.{map-append, nil_from_length}
use Rattle.tq_exec.specs.declared.answer_parts.AnswerPart.{AnswerPart}
use Rattle.tq_exec.proofs.answer_parts.made_of.Goals as goal

pub each-preserved : goal.each-preserved
each-preserved c =
    let field = λ (part : AnswerPart). part.made in
    let is = ap (λ l. c.each.yielded ++ l) (sym c.in-Some.ensures.steps.0) ∙ c.each.invariant.reads in
    record {
      reads = append_assoc c.each.yielded (c.in-Some.part ∷ []) (into_iter_items c.next.new.self) ∙ is;
      made = c.in_ok-push.ensures.items ∙ ap (λ m. c.each.made.items ++ m ∷ []) c.made_of_part.ensures ∙ ap (λ l. l ++ c.in-Some.part.made ∷ []) c.each.invariant.made ∙ sym (map-append field c.each.yielded (c.in-Some.part ∷ []));
    }

pub returns : goal.returns
returns c =
    let rest = into_iter_items c.each.part-iterator in
    let none : length rest ≡ 0 = sym c.each.part-iterator.rest.ok.0 ∙ c.in-None.ensures.steps.0 in
    let all : c.each.yielded ≡ c.args.parts.items = sym (append-nil c.each.yielded) ∙ ap (λ l. c.each.yielded ++ l) (sym (nil_from_length rest none)) ∙ c.each.invariant.reads in
    c.each.invariant.made ∙ ap (map (λ (part : AnswerPart). part.made)) all
