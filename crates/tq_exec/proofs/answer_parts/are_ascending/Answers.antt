use Rattle.std.proofs.Common.{◌≡◌, ◌<◌, arith, inl, inr, length, refl}
use Rattle.std.proofs.lemmas.Bool.{cases_lt}
use Rattle.std.proofs.lemmas.List.{get_or-map, length-map}
use Rattle.tq_exec.specs.declared.answer_parts.AnswerPart.{AnswerPart}
use Rattle.tq_exec.proofs.answer_parts.are_ascending.Goals as goal

pub second-preserved : goal.second-preserved
second-preserved c j d past below = elim (cases_lt j c.second.second) [
  | inl before ↦ c.second.invariant j d past before
  | inr least ↦
      let parts = c.args.parts.now in
      let same : j ≡ c.second.second = omega (arith, below, least) in
      let first_in : c.first.first < length parts = omega (arith, c.first-test.true) in
      let second_in : c.second.second < length parts = omega (arith, c.second-test.true) in
      let one = get_or-map (λ (r : AnswerPart). r.rows) parts c.first.first c.index-parts-first.result d first_in in
      let other = get_or-map (λ (r : AnswerPart). r.rows) parts c.second.second c.index-parts-second.result d second_in in
      rw (same, one, other) (c.if-not-are_below.ensures refl)
]

pub first-preserved : goal.first-preserved
first-preserved c i j d below past within = elim (cases_lt i c.first.first) [
  | inl before ↦ c.first.invariant i j d before past within
  | inr least ↦
      let same : i ≡ c.first.first = omega (arith, below, least) in
      rw same (c.second.invariant j d (omega (arith, past, same)) (omega (arith, within, length-map c.args.parts.now (λ (r : AnswerPart). r.rows), c.second-test.false)))
]

pub returns : goal.returns
returns c is i j d past within =
    c.first.invariant i j d (omega (arith, past, within, length-map c.args.parts.now (λ (r : AnswerPart). r.rows), c.first-test.false)) past within
