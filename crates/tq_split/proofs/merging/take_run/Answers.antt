use Rattle.std.proofs.Common.{◌++◌, ◌∷◌, ◌∙◌, [], List, ap, append-nil, append_assoc, refl, subst, sym}
use Rattle.tq_base.specs.declared.fragment.Fragment.{Fragment}
use Rattle.tq_split.specs.Adding.{run_values}
use Rattle.tq_split.specs.AnswerTexts.{HasRows}
use Rattle.tq_split.specs.Merges.{BeginsAbove, after_run, run_of}
use Rattle.tq_split.proofs.AnswerLemmas.{after_past, after_within, begins_above, first_within, run_past, run_within}
use Rattle.tq_split.proofs.merging.take_run.Goals as goal

pub returns-in-After-clause-rows : goal.returns-in-After-clause-rows
returns-in-After-clause-rows g c rows has =
    let combine = c.args.layout.now.combine in
    let v = run_values combine c.args.run.now.row.values in
    let (left, has_left, after, group) = c.rows.invariant.rest rows has in
    let begins = begins_above g.R.Read.remaining c.args.layout.now c.rows.part.reader v c.rows.part.next left has_left (c.in-After.ensures.after refl) in
    subst (HasRows g.R.Read.remaining c.args.layout.now c.rows.part) (sym (after ∙ after_past combine v left begins)) has_left

pub returns-in-After-clause-group : goal.returns-in-After-clause-group
returns-in-After-clause-group g c rows has =
    let combine = c.args.layout.now.combine in
    let v = run_values combine c.args.run.now.row.values in
    let (left, has_left, after, group) = c.rows.invariant.rest rows has in
    let begins = begins_above g.R.Read.remaining c.args.layout.now c.rows.part.reader v c.rows.part.next left has_left (c.in-After.ensures.after refl) in
    sym (group ∙ ap (λ (l : List Fragment). c.rows.group.items ++ l) (run_past combine v left begins) ∙ append-nil c.rows.group.items)

pub returns-in-After-clause-above : goal.returns-in-After-clause-above
returns-in-After-clause-above g c rows has =
    let combine = c.args.layout.now.combine in
    let v = run_values combine c.args.run.now.row.values in
    let (left, has_left, after, group) = c.rows.invariant.rest rows has in
    let begins = begins_above g.R.Read.remaining c.args.layout.now c.rows.part.reader v c.rows.part.next left has_left (c.in-After.ensures.after refl) in
    subst (BeginsAbove combine v) (sym (after ∙ after_past combine v left begins)) begins

pub rows-preserved : goal.rows-preserved
rows-preserved g c =
    let combine = c.args.layout.now.combine in
    let v = run_values combine c.args.run.now.row.values in
    let i = c.rows.invariant in
    let taken = c.in_ok-take_row-in-Within.ensures in
    record {
      width = taken.width ∙ i.width;
      rest = λ rows has.
          let (left, has_left, after, group) = i.rest rows has in
          let (row, others, is, same) = first_within g.R.Read.remaining c.args.layout.now c.rows.part.reader v c.rows.part.next left has_left (c.in-Within.ensures.within refl) in
          let has_first = subst (HasRows g.R.Read.remaining c.args.layout.now c.rows.part) is has_left in (
            others,
            taken.rows row others has_first,
            after ∙ ap (after_run combine v) is ∙ after_within combine v row others same,
            group
                ∙ ap (λ (l : List Fragment). c.rows.group.items ++ l) (ap (run_of combine v) is ∙ run_within combine v row others same)
                ∙ sym (append_assoc c.rows.group.items (row ∷ []) (run_of combine v others))
                ∙ ap (λ (l : List Fragment). l ++ run_of combine v others) (sym (taken.group row others has_first)),
          );
    }
