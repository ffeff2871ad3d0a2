use Rattle.std.proofs.Common.{◌≡◌, ◌∙◌, ◌≤◌, ◌*◌, List, ℕ, [], ◌∷◌, ◌++◌, ap, arith, map, sym}
use Rattle.std.proofs.lemmas.List.Elements.{All-push}
use Rattle.std.proofs.lemmas.List.FromFn.{map-range_with_len_more}
use Rattle.std.specs.List.{range_with_len}
use Rattle.tq_draw.specs.Marks.{regular_mark}
use Rattle.tq_draw.specs.declared.marks.Tick.{Tick}
use Rattle.tq_draw.proofs.marks.regular_marks.Goals as goal

pub marks-preserved : goal.marks-preserved
marks-preserved c =
    let scale = c.args.scale.now in
    let at = c.marks.mark in
    let mark : Tick = record { cell = at * 16; instant = c.edge.result } in
    let is : mark ≡ regular_mark scale at = ap (λ (n : ℕ). let m : Tick = record { cell = at * 16; instant = n } in m) c.edge.ensures.value in
    rw c.in_ok-push.ensures.items
    (record {
      value = ap (λ (l : List Tick). l ++ mark ∷ []) c.marks.invariant.value
          ∙ ap (λ (m : Tick). map (regular_mark scale) (range_with_len 0 at) ++ m ∷ []) is
          ∙ sym (map-range_with_len_more (regular_mark scale) 0 at at (omega arith));
      within = All-push (λ (m : Tick). (m.cell ≤ 10000) × (m.instant ≤ 1000000000000)) c.marks.marks.items mark c.marks.invariant.within
          (omega (arith, c.marks-test.true, c.marks_on-mark-end.ensures, c.requires.few), omega (arith, c.edge.ensures.within, c.requires.within));
    })
