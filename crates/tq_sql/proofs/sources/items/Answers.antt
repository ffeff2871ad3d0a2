use Rattle.std.proofs.Common.{◌-◌, arith, sym, ◌∙◌, refl}
use Rattle.tq_sql.specs.declared.token.TokenKind.TheVariants as k
use Rattle.tq_sql.specs.Descent as spec
use Rattle.tq_sql.proofs.ListLemmas.{list_end, list_turn}
use Rattle.tq_sql.proofs.sources.items.Goals as goal

pub more-preserved : goal.more-preserved
more-preserved c =
    let n = c.more.invariant.0 in
    let inv = c.more.invariant.1 in
    let seen = sym c.more-test.ensures.found in
    let less = c.more-test.ensures.taken refl (λ e. cc) in (
      n - 1,
      record {
        enough = omega (arith, less, inv.enough, c.item-in-more.ensures.shorter);
        same = inv.same ∙ list_turn k.Comma spec.item_at n c.more.found.items c.push-in-more.new.items.items c.more.cursor c.eat.new.self c.item-in-more.new.cursor c.in_ok-item-2.field-0 seen c.more-test.ensures.after less inv.enough c.in_ok-item-2.ensures.reads c.in_ok-push-2.ensures;
        shorter = omega (arith, less, inv.shorter, c.item-in-more.ensures.shorter);
      },
    )

pub returns-clause-reads : goal.returns-clause-reads
returns-clause-reads c =
    let n = c.more.invariant.0 in
    let inv = c.more.invariant.1 in
    inv.same ∙ rw (c.of.ensures, c.more-test.ensures.after) (list_end k.Comma spec.item_at n c.more.found.items c.more.cursor (sym c.more-test.ensures.found))
