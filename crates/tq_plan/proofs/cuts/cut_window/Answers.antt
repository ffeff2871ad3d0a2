use Rattle.std.proofs.Common.{◌∙◌, ap, length, refl, sym, subst, arith}
use Rattle.std.proofs.lemmas.Bool.{false≢true}
use Rattle.std.proofs.lemmas.List.Elements.{All-weaker}
use Rattle.tq_plan.specs.Cuts.{Follow, LiesInside}
use Rattle.tq_plan.proofs.CutLemmas.{of_each, one_more_is}
use Rattle.tq_plan.proofs.cuts.cut_window.Goals as goal
use Rattle.tq_plan.proofs.cuts.cut_window.Goals.{in-Some+in_ok-push, in_default}

pub pieces-preserved : goal.pieces-preserved
pieces-preserved c =
    let window = c.args.window.now in
    let rest = c.pieces.rest in
    elim c.match-cut_rest.branch [
      | in-Some+in_ok-push w ↦ record {
        follow =
            one_more_is window.start rest.start c.match-cut_rest.rest.start w.in-Some.part c.pieces.cuts.items c.match-cut_rest.cuts.items c.pieces.invariant.follow w.in-Some.ensures.parts.0
            (w.in-Some.ensures.parts.1 ∙ ap (λ r. r.start) (sym w.rest-is)) (ap (λ v. v.items) w.cuts-is ∙ w.in_ok-push.ensures.items);
        end = ap (λ r. r.end) w.rest-is ∙ w.in-Some.ensures.parts.2 ∙ c.pieces.invariant.end;
        few = omega (arith, ap (λ v. length v.items) w.cuts-is, w.in_ok-push.ensures.len, c.pieces.invariant.few);
        first = λ one. absurd (omega (arith, one, c.pieces.invariant.few));
        several = λ two some. omega (arith, ap (λ v. length v.items) w.cuts-is, w.in_ok-push.ensures.len);
      }
      | in_default w ↦ record {
        follow = subst (λ r. Follow window.start r c.match-cut_rest.cuts.items) (ap (λ r. r.start) (sym w.rest-is)) (subst (λ v. Follow window.start rest.start v.items) (sym w.cuts-is) c.pieces.invariant.follow);
        end = ap (λ r. r.end) w.rest-is ∙ c.pieces.invariant.end;
        few = omega (arith, ap (λ v. length v.items) w.cuts-is, c.pieces.invariant.few);
        first = λ one. absurd (omega (arith, one, c.pieces.invariant.few));
        several = λ two some.
            of_each c.pieces.piece (length c.match-cut_rest.cuts.items) (omega (arith, c.pieces.invariant.few))
            (λ later. omega (arith, ap (λ v. length v.items) w.cuts-is, c.pieces.invariant.several later some))
            (λ first. false≢true (w.in_default.ensures.some
            (All-weaker (LiesInside window) (LiesInside rest) (λ b is. (omega (arith, is.0, c.pieces.invariant.first first), omega (arith, is.1, c.pieces.invariant.end))) c.args.bounds.now c.requires.inside)
            some));
      }
    ]

pub returns-clause-tile : goal.returns-clause-tile
returns-clause-tile c =
    one_more_is c.args.window.now.start c.pieces.rest.start c.args.window.now.end c.pieces.rest c.pieces.cuts.items c.push-2.new.self.items c.pieces.invariant.follow refl c.pieces.invariant.end c.in_ok-push-2.ensures.items
