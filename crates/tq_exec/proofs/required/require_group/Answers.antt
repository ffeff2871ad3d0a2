use Rattle.tq_event.specs.Projection.{is_wanted}
use Rattle.std.proofs.Common.{◌≡◌, ℕ, true, arith, subst, take}
use Rattle.std.specs.Prelude.{All}
use Rattle.std.proofs.lemmas.List.{take_all}
use Rattle.std.proofs.lemmas.List.Elements.{All-more, All-weaker}
use Rattle.tq_exec.proofs.required.require_group.Goals as goal

pub group-preserved : goal.group-preserved
group-preserved c =
    let group = c.args.group.now in
    let place = c.group.place-index in
    let Before : ℕ → Type 0 = λ k. is_wanted c.group.places.items k ≡ true in
    let After : ℕ → Type 0 = λ k. is_wanted c.require.new.places.items k ≡ true in
    record {
      required = All-more After group place 0 (omega (arith, c.group-test.true)) (All-weaker Before After c.require.ensures.more (take place group) c.group.invariant.required) c.require.ensures.required;
      more = λ k is. c.require.ensures.more k (c.group.invariant.more k is);
    }

pub returns-clause-required : goal.returns-clause-required
returns-clause-required c =
    subst (All (λ k. is_wanted c.group.places.items k ≡ true)) (take_all c.group.place-index c.args.group.now (omega (arith, c.group-test.false))) c.group.invariant.required
