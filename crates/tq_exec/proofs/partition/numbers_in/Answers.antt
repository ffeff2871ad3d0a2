use Rattle.std.proofs.Common.{◌<◌, ◌++◌, ◌∷◌, [], ◌∙◌, ap, append-nil, append_assoc, length, refl, subst, sym}
use Rattle.std.specs.Prelude.{All}
use Rattle.std.proofs.lemmas.List.Elements.{All-tail}
use Rattle.tq_exec.proofs.PartitionPartLemmas.{places_within}
use Rattle.tq_exec.proofs.partition.numbers_in.Goals as goal

pub found-init : goal.found-init
found-init c =
    let are = c.into_iter-place-iterator.ensures.into_iter_gives ∙ c.memchr_iter-place-items.ensures.value in
    record {
      left = places_within c.args.number c.args.ids.now c.into_iter-place-iterator.result (length c.args.ids.now) are refl;
      numbers = ap (λ l. l ++ c.into_iter-place-iterator.result) c.new-numbers.ensures.items ∙ are;
    }

pub found-preserved : goal.found-preserved
found-preserved c =
    let place = c.in-Some.place in
    let rest = c.next.new.self in
    let left = subst (All (λ k. k < length c.args.ids.now)) c.in-Some.ensures.steps c.found.invariant.left in
    record {
      left = All-tail (λ k. k < length c.args.ids.now) place rest left;
      numbers = ap (λ l. l ++ rest) c.in_ok-push.ensures.items
          ∙ append_assoc c.found.numbers.items (place ∷ []) rest
          ∙ ap (λ l. c.found.numbers.items ++ l) (sym c.in-Some.ensures.steps)
          ∙ c.found.invariant.numbers;
    }

pub returns : goal.returns
returns c =
    sym (append-nil c.found.numbers.items)
    ∙ ap (λ l. c.found.numbers.items ++ l) (sym c.in-None.ensures.steps.0)
    ∙ c.found.invariant.numbers
