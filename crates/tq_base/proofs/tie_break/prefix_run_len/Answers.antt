use Rattle.std.proofs.Common.{◌≡◌, All, length, subst, take, arith}
use Rattle.std.proofs.lemmas.List.Elements.{All-more}
use Rattle.tq_base.specs.declared.sort_input.SortKey.{SortKey}
use Rattle.tq_base.proofs.tie_break.prefix_run_len.Goals as goal

pub keys-preserved : goal.keys-preserved
keys-preserved c = All-more (λ (k : SortKey). k.prefix ≡ c.args.prefix) c.args.keys.now c.keys.len _ c.keys-test.true c.keys.invariant c.if-key-prefix.false

pub returns-clause-alike : goal.returns-clause-alike
returns-clause-alike c =
    let at : c.keys.len ≡ length c.args.keys.now = omega (arith, c.keys-test.false, c.keys.auto.len-end) in
    subst (λ n. All (λ (k : SortKey). k.prefix ≡ c.args.prefix) (take n c.args.keys.now)) at c.keys.invariant
