use Rattle.std.proofs.Common.{◌≡◌, ◌++◌, ◌/◌, ◌∙◌, ap, false, subst, sym, ℕ}
use Rattle.std.specs.Prelude.{IfNone, IfSome}
use Rattle.std.specs.BTreeSet.{contains}
use Rattle.std.specs.Ordering.{nat_cmp}
use Rattle.tq_snapshot.specs.OpenRows.{has}
use Rattle.tq_snapshot.proofs.FirstLemmas.{none_there}
use Rattle.tq_snapshot.proofs.open_index.TableRows.first_like.Goals as goal

pub find_first_in-requires-clause-near : goal.find_first_in-requires-clause-near
find_first_in-requires-clause-near c =
    let near = subst (λ o. IfSome o (λ set. (q : ℕ) → q / 4294967296 ≡ c.open_key.result / 4294967296 → has c.args.self.now.opened q ≡ contains nat_cmp set.now q)) c.in-Some.is c.near.ensures.set in
    λ k same. near k (same ∙ sym (ap (λ n. n / 4294967296) c.open_key.ensures))

pub returns-in-None-clause-member : goal.returns-in-None-clause-member
returns-in-None-clause-member c =
    none_there (c.args.published.now ++ c.args.pending.now) c.args.table c.args.self.now.opened c.requires.rows.open_rows c.requires.few c.args.wanted.now
    (subst (λ o. IfNone o ((q : ℕ) → has c.args.self.now.opened q ≡ false)) c.in-None.is c.near.ensures.none)

pub returns-in-None-clause-least : goal.returns-in-None-clause-least
returns-in-None-clause-least c =
    none_there (c.args.published.now ++ c.args.pending.now) c.args.table c.args.self.now.opened c.requires.rows.open_rows c.requires.few c.args.wanted.now
    (subst (λ o. IfNone o ((q : ℕ) → has c.args.self.now.opened q ≡ false)) c.in-None.is c.near.ensures.none)
