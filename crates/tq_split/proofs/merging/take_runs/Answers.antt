use Rattle.std.proofs.Common.{◌≡◌, ◌<◌, ◌≤◌, ◌++◌, ◌∙◌, [], ℕ, List, ap, append_assoc, arith, get_or, inl, inr, length, set, subst, sym, take}
use Rattle.std.proofs.lemmas.Bool.{cases_eq}
use Rattle.std.proofs.lemmas.List.{get_or-map, get_or-set_other, get_or-set_same, length-map, length-set, take_all}
use Rattle.tq_base.specs.declared.fragment.Fragment.{Fragment}
use Rattle.tq_split.specs.declared.answer_part.AnswerPart.{AnswerPart}
use Rattle.tq_split.specs.Adding.{run_values}
use Rattle.tq_split.specs.AnswerTexts.{HasRows}
use Rattle.tq_split.specs.Merges.{AreAfter, after_run, run_of, runs_of}
use Rattle.tq_split.proofs.AnswerLemmas.{after_more, runs_more}
use Rattle.tq_split.proofs.merging.take_runs.Goals as goal

pub parts-preserved : goal.parts-preserved
parts-preserved g c =
    let i = c.parts.invariant in
    let layout = c.args.layout.now in
    let combine = c.args.layout.now.combine in
    let v = run_values combine c.args.run.now.row.values in
    let place = c.parts.part-index in
    let parts = c.parts.parts in
    let inside : place < length parts = omega (arith, c.parts-test.true, i.many) in
    let new = c.take_run.new.part in
    record {
      width = c.take_run.ensures.width ∙ i.width;
      many = length-set parts place new ∙ i.many;
      rest = λ lists has.
          let (done, others, group, after) = i.rest lists has in
          let within : place < length lists = omega (arith, inside, i.many, has.many) in
          let own : (e : List Fragment) → HasRows g.R.Read.remaining layout (get_or parts place c.part-item.result) (get_or lists place e) = λ e. others place c.part-item.result e (omega arith) inside in (
            λ k d e less.
                elim (cases_eq k place) [
                  | inl same ↦
                      subst (λ (n : ℕ). HasRows g.R.Read.remaining layout (get_or (set parts place new) n d) (after_run combine v (get_or lists n e))) (sym same)
                      (subst (λ (p : AnswerPart g.row.R.Denot). HasRows g.R.Read.remaining layout p (after_run combine v (get_or lists place e))) (sym (get_or-set_same parts place new d inside))
                      (c.in_default.ensures.rows (get_or lists place e) (own e)))
                  | inr differs ↦
                      subst (λ (p : AnswerPart g.row.R.Denot). HasRows g.R.Read.remaining layout p (after_run combine v (get_or lists k e))) (sym (get_or-set_other parts place k new d differs))
                      (done k d e (omega (arith, less, differs)))
                ],
            λ k d e from less.
                subst (λ (p : AnswerPart g.row.R.Denot). HasRows g.R.Read.remaining layout p (get_or lists k e)) (sym (get_or-set_other parts place k new d (λ same. omega (arith, from, same))))
                (others k d e (omega (arith, from)) (omega (arith, less, length-set parts place new))),
            c.in_default.ensures.group (get_or lists place []) (own [])
                ∙ ap (λ (l : List Fragment). l ++ run_of combine v (get_or lists place [])) group
                ∙ append_assoc c.args.group.now.items (runs_of combine v (take place lists)) (run_of combine v (get_or lists place []))
                ∙ ap (λ (l : List Fragment). c.args.group.now.items ++ l) (sym (runs_more combine v lists place [] within)),
            after_more combine v lists place [] within after (c.in_default.ensures.above (get_or lists place []) (own [])),
          );
    }

pub returns-clause-rows : goal.returns-clause-rows
returns-clause-rows g c lists has =
    let i = c.parts.invariant in
    let combine = c.args.layout.now.combine in
    let v = run_values combine c.args.run.now.row.values in
    let (done, others, group, after) = i.rest lists has in
    let past : length c.parts.parts ≤ c.parts.part-index = omega (arith, c.parts-test.false) in
    record {
      many = i.many ∙ has.many ∙ sym (length-map lists (after_run combine v));
      each = λ k d e less.
          let within : k < length lists = omega (arith, less, i.many, has.many) in
          subst (HasRows g.R.Read.remaining c.args.layout.now (get_or c.parts.parts k d)) (sym (get_or-map (after_run combine v) lists k [] e within)) (done k d [] (omega (arith, less, past)));
    }

pub returns-clause-above : goal.returns-clause-above
returns-clause-above g c lists has =
    let i = c.parts.invariant in
    let combine = c.args.layout.now.combine in
    let v = run_values combine c.args.run.now.row.values in
    let (done, others, group, after) = i.rest lists has in
    let all : take c.parts.part-index lists ≡ lists = take_all c.parts.part-index lists (omega (arith, c.parts-test.false, i.many, has.many)) in
    subst (AreAfter combine v) all after
