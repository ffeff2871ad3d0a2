use Rattle.std.proofs.Common.{◌≡◌, ◌<◌, ◌-◌, ◌++◌, ◌∙◌, ◌∷◌, [], List, ap, append-nil, append_assoc, arith, get_or, inl, inr, length, length-append, refl, subst, sym}
use Rattle.std.proofs.lemmas.Bool.{cases_lt}
use Rattle.std.proofs.lemmas.List.{get_or-append_right, get_or_append_left, nil_from_length}
use Rattle.std.specs.Vec.Iter.{into_iter_items}
use Rattle.tq_split.specs.declared.answer_part.AnswerPart.{AnswerPart}
use Rattle.tq_split.specs.AnswerTexts.{HasRows}
use Rattle.tq_split.proofs.AnswerLemmas.{at_middle}
use Rattle.tq_split.proofs.merging.open_parts.Goals as goal

pub inputs-preserved : goal.inputs-preserved
inputs-preserved g c =
    let i = c.inputs.invariant in
    let rest = into_iter_items c.next.new.self in
    let seen = c.inputs.yielded in
    let old = c.inputs.parts.items in
    let part = c.in_ok-part.part in
    let split : seen ++ c.in-Some.input ∷ rest ≡ c.args.inputs.items = ap (λ l. seen ++ l) (sym c.in-Some.ensures.steps.0) ∙ i.reads in
    let pushed = c.in_ok-push_part.ensures in
    record {
      reads = append_assoc seen (c.in-Some.input ∷ []) rest ∙ split;
      many = ap length pushed ∙ omega (arith, length-append old (part ∷ []), length-append seen (c.in-Some.input ∷ []), i.many);
      rest = λ lists are k d e less.
          let bound : k < length (old ++ part ∷ []) = subst (λ (l : List (AnswerPart g.row.R.Denot)). k < length l) pushed less in
          subst (λ (l : List (AnswerPart g.row.R.Denot)). HasRows g.R.Read.remaining c.args.layout.now (get_or l k d) (get_or lists k e)) (sym pushed)
          (elim (cases_lt k (length old)) [
            | inl inside ↦
                subst (λ (p : AnswerPart g.row.R.Denot). HasRows g.R.Read.remaining c.args.layout.now p (get_or lists k e)) (sym (get_or_append_left old (part ∷ []) d k inside)) (i.rest lists are k d e inside)
            | inr past ↦
                let here : k ≡ length seen = omega (arith, bound, past, length-append old (part ∷ []), i.many) in
                let last : k - length old ≡ 0 = omega (arith, bound, past, length-append old (part ∷ [])) in
                let own : get_or (old ++ part ∷ []) k d ≡ part = get_or-append_right old (part ∷ []) (length old) k d refl past ∙ ap (λ n. get_or (part ∷ []) n d) last in
                let within : k < length c.args.inputs.items = subst (λ l. k < length l) split (omega (arith, here, length-append seen (c.in-Some.input ∷ rest))) in
                let (text, known, is) = are.each k c.in-Some.input e within in
                let input : get_or c.args.inputs.items k c.in-Some.input ≡ c.in-Some.input =
                ap (λ l. get_or l k c.in-Some.input) (sym split) ∙ ap (λ n. get_or (seen ++ c.in-Some.input ∷ rest) n c.in-Some.input) here ∙ at_middle seen c.in-Some.input rest c.in-Some.input in
                subst (λ (p : AnswerPart g.row.R.Denot). HasRows g.R.Read.remaining c.args.layout.now p (get_or lists k e)) (sym own)
                (c.in_ok-part.ensures text (get_or lists k e) (ap g.R.Read.remaining (sym input) ∙ known) is)
          ]);
    }

pub returns : goal.returns
returns g c lists are =
    let i = c.inputs.invariant in
    let rest = into_iter_items c.inputs.input-iterator in
    let none : length rest ≡ 0 = sym c.inputs.input-iterator.rest.ok.0 ∙ c.in-None.ensures.steps.0 in
    let all : c.inputs.yielded ≡ c.args.inputs.items = sym (append-nil c.inputs.yielded) ∙ ap (λ l. c.inputs.yielded ++ l) (sym (nil_from_length rest none)) ∙ i.reads in
    record { many = i.many ∙ ap length all ∙ are.many; each = i.rest lists are }
