use Rattle.std.proofs.Common.{◌∙◌, List, ◌++◌, ap, sym, arith, reverse}
use Rattle.tq_sql.specs.declared.statement.Term.{Term}
use Rattle.tq_diagnostics.specs.Parts.{pairs_of}
use Rattle.tq_diagnostics.specs.Views.{pair_views}
use Rattle.tq_diagnostics.proofs.Compared.{first_next, pairs_of-Is, pairs_of-And, pairs_of-Or, pairs_of-Not, weight, weight-And, weight-Or, weight-Not}
use Rattle.tq_diagnostics.proofs.parts.+push_backwards.Goals as goal

pub returns-in-Is : goal.returns-in-Is
returns-in-Is t c =
    c.in_ok-push_sides-in-Is.ensures
    ∙ ap (λ (p : List (Term × Term)). pair_views c.parts.pairs.items ++ reverse p) (sym (ap pairs_of c.in-Is.is ∙ pairs_of-Is c.in-Is.left c.in-Is.sign c.in-Is.right))
    ∙ c.parts.invariant.leads_back

pub push_backwards-requires : goal.push_backwards-requires
push_backwards-requires t c =
    omega (arith, c.parts.invariant.no_deeper, ap weight c.in-And.is, weight-And c.in-And.first c.in-And.last, ap weight c.get.ensures)

pub parts-smaller-in-And : goal.parts-smaller-in-And
parts-smaller-in-And t c = omega (arith, ap weight c.in-And.is, weight-And c.in-And.first c.in-And.last, ap weight c.get-part.ensures)

pub parts-preserved-in-And : goal.parts-preserved-in-And
parts-preserved-in-And t c = record {
  no_deeper = omega (arith, c.parts.invariant.no_deeper, ap weight c.in-And.is, weight-And c.in-And.first c.in-And.last, ap weight c.get-part.ensures);
  leads_back = first_next (pair_views c.parts.pairs.items) (pair_views c.push_backwards.new.pairs.items) _
      (pairs_of c.get-part.result.now) (pairs_of c.get.result.now) (pairs_of c.parts.part.now)
      c.in_ok-push_backwards-in-And.ensures
      (ap pairs_of c.in-And.is ∙ pairs_of-And c.in-And.first c.in-And.last
      ∙ ap (λ a. pairs_of a ++ pairs_of c.in-And.last) (sym c.get-part.ensures)
      ∙ ap (λ b. pairs_of c.get-part.result.now ++ pairs_of b) (sym c.get.ensures))
      c.parts.invariant.leads_back;
}

pub push_backwards-requires-in-Or : goal.push_backwards-requires-in-Or
push_backwards-requires-in-Or t c =
    omega (arith, c.parts.invariant.no_deeper, ap weight c.in-Or.is, weight-Or c.in-Or.first c.in-Or.last, ap weight c.get-in-Or.ensures)

pub parts-smaller-in-Or : goal.parts-smaller-in-Or
parts-smaller-in-Or t c = omega (arith, ap weight c.in-Or.is, weight-Or c.in-Or.first c.in-Or.last, ap weight c.get-part-in-Or.ensures)

pub parts-preserved-in-Or : goal.parts-preserved-in-Or
parts-preserved-in-Or t c = record {
  no_deeper = omega (arith, c.parts.invariant.no_deeper, ap weight c.in-Or.is, weight-Or c.in-Or.first c.in-Or.last, ap weight c.get-part-in-Or.ensures);
  leads_back = first_next (pair_views c.parts.pairs.items) (pair_views c.push_backwards-in-Or.new.pairs.items) _
      (pairs_of c.get-part-in-Or.result.now) (pairs_of c.get-in-Or.result.now) (pairs_of c.parts.part.now)
      c.in_ok-push_backwards-in-Or.ensures
      (ap pairs_of c.in-Or.is ∙ pairs_of-Or c.in-Or.first c.in-Or.last
      ∙ ap (λ a. pairs_of a ++ pairs_of c.in-Or.last) (sym c.get-part-in-Or.ensures)
      ∙ ap (λ b. pairs_of c.get-part-in-Or.result.now ++ pairs_of b) (sym c.get-in-Or.ensures))
      c.parts.invariant.leads_back;
}

pub parts-smaller : goal.parts-smaller
parts-smaller t c = omega (arith, ap weight c.in-Not.is, weight-Not c.in-Not.inner, ap weight c.get-part-in-Not.ensures)

pub parts-preserved : goal.parts-preserved
parts-preserved t c = record {
  no_deeper = omega (arith, c.parts.invariant.no_deeper, ap weight c.in-Not.is, weight-Not c.in-Not.inner, ap weight c.get-part-in-Not.ensures);
  leads_back = ap (λ (p : List (Term × Term)). pair_views c.parts.pairs.items ++ reverse p)
      (ap pairs_of c.get-part-in-Not.ensures ∙ sym (ap pairs_of c.in-Not.is ∙ pairs_of-Not c.in-Not.inner))
      ∙ c.parts.invariant.leads_back;
}
