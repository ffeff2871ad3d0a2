use Rattle.std.proofs.Common.{◌<◌, ◌++◌, ◌∷◌, [], ◌∙◌, ap, append-nil, append_assoc, length, map, refl, subst, sym}
use Rattle.std.specs.Prelude.{All}
use Rattle.std.proofs.lemmas.List.Elements.{All-head, All-tail}
use Rattle.tq_base.specs.Keys.{no_row}
use Rattle.tq_base.specs.Relations.{row_at}
use Rattle.tq_exec.proofs.PartitionPartLemmas.{at_places, places_within}
use Rattle.tq_exec.proofs.group_partitions.add_partition.Goals as goal

pub rows-init : goal.rows-init
rows-init c =
    let items = c.args.rows.now.items in
    let are = c.into_iter-row-iterator.ensures.into_iter_gives ∙ c.memchr_iter-row-items.ensures.value in
    record {
      width = refl;
      left = places_within c.args.number c.args.ids.now c.into_iter-row-iterator.result (length items) are c.requires.ids;
      rows = ap (λ l. c.args.out.now.items ++ map (row_at items) l) are;
    }

pub push_row-requires-clause-row : goal.push_row-requires-clause-row
push_row-requires-clause-row c =
    let items = c.args.rows.now.items in
    All-head (λ k. k < length items) c.in-Some.row c.next.new.self (subst (All (λ k. k < length items)) c.in-Some.ensures.steps c.rows.invariant.left)

pub push_row-requires-clause-width : goal.push_row-requires-clause-width
push_row-requires-clause-width c d =
    let items = c.args.rows.now.items in
    let within : c.in-Some.row < length items = All-head (λ k. k < length items) c.in-Some.row c.next.new.self (subst (All (λ k. k < length items)) c.in-Some.ensures.steps c.rows.invariant.left) in
    c.requires.wide c.in-Some.row d within ∙ sym c.rows.invariant.width

pub rows-preserved : goal.rows-preserved
rows-preserved c =
    let items = c.args.rows.now.items in
    let row = c.in-Some.row in
    let rest = c.next.new.self in
    let left = subst (All (λ k. k < length items)) c.in-Some.ensures.steps c.rows.invariant.left in
    record {
      width = c.in_ok-push_row.ensures.width ∙ c.rows.invariant.width;
      left = All-tail (λ k. k < length items) row rest left;
      rows = ap (λ l. l ++ map (row_at items) rest) (c.in_ok-push_row.ensures.pushed no_row)
          ∙ append_assoc c.rows.out.items (row_at items row ∷ []) (map (row_at items) rest)
          ∙ ap (λ l. c.rows.out.items ++ map (row_at items) l) (sym c.in-Some.ensures.steps)
          ∙ c.rows.invariant.rows;
    }

pub returns-clause-rows : goal.returns-clause-rows
returns-clause-rows c =
    λ partition ids.
    let items = c.args.rows.now.items in
    sym (append-nil c.rows.out.items)
    ∙ ap (λ l. c.rows.out.items ++ map (row_at items) l) (sym c.in-None.ensures.steps.0)
    ∙ c.rows.invariant.rows
    ∙ ap (λ l. c.args.out.now.items ++ l) (at_places partition c.args.number c.args.ids.now items no_row ids)
