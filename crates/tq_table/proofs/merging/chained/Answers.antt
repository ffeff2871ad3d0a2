use Rattle.std.proofs.Common.{◌≡◌, ◌++◌, ◌∷◌, [], length, sym, ap, ◌∙◌, subst, append-nil, append_assoc}
use Rattle.std.specs.Prelude.{All}
use Rattle.std.specs.Vec.Iter.{into_iter_items}
use Rattle.std.proofs.lemmas.List.{nil_from_length}
use Rattle.tq_table.specs.Merging.{all_rows, AreOfWidth}
use Rattle.tq_table.proofs.MergeLemmas.{all_and_next, middle_holds, of_same_width}
use Rattle.tq_table.proofs.merging.chained.Goals as goal

pub append_rows-requires : goal.append_rows-requires
append_rows-requires c =
    let is = ap (λ l. c.lists.yielded ++ l) (sym c.in-Some.ensures.steps.0) ∙ c.lists.invariant.reads in
    of_same_width c.in-Some.rows c.args.width c.lists.all.width c.lists.invariant.width
    (middle_holds (AreOfWidth c.args.width) c.lists.yielded c.in-Some.rows (into_iter_items c.next.new.self) (subst (λ l. All (AreOfWidth c.args.width) l) (sym is) c.requires))

pub lists-preserved : goal.lists-preserved
lists-preserved c =
    let is = ap (λ l. c.lists.yielded ++ l) (sym c.in-Some.ensures.steps.0) ∙ c.lists.invariant.reads in
    record {
      reads = append_assoc c.lists.yielded (c.in-Some.rows ∷ []) (into_iter_items c.next.new.self) ∙ is;
      width = c.in_ok-all.ensures.width ∙ c.lists.invariant.width;
      rows = c.in_ok-all.ensures.rows ∙ ap (λ l. l ++ c.in-Some.rows.items) c.lists.invariant.rows ∙ sym (all_and_next c.lists.yielded c.in-Some.rows);
    }

pub returns-clause-rows : goal.returns-clause-rows
returns-clause-rows c =
    let rest = into_iter_items c.lists.rows-iterator in
    let none : length rest ≡ 0 = sym c.lists.rows-iterator.rest.ok.0 ∙ c.in-None.ensures.steps.0 in
    let all : c.lists.yielded ≡ c.args.lists.items = sym (append-nil c.lists.yielded) ∙ ap (λ l. c.lists.yielded ++ l) (sym (nil_from_length rest none)) ∙ c.lists.invariant.reads in
    c.lists.invariant.rows ∙ ap all_rows all
