-- Each node keeps its number: what a step leaves unchanged.
use Rattle.std.proofs.Common.{◌≡◌, ◌≢◌, ℕ, ◌<◌, ◌≤◌, ◌⊎◌, inl, inr, List, ◌++◌, Bool, true, false, set, refl, sym, ◌∙◌, subst, arith, nat_eq, slice_get, Some}
use Rattle.std.proofs.lemmas.Bool.Decides.{nat_tests}
use Rattle.std.proofs.lemmas.Option.{slice_get_within}
use Rattle.tq_arena.specs.Contents.{Contents}
use Rattle.tq_mvbt.specs.declared.entry.Entry.{Entry}
use Rattle.tq_mvbt.specs.NodeState.{NodeState}
use Rattle.tq_mvbt.specs.Points.{now}
use Rattle.tq_mvbt.specs.Shape.{IsFound}
use Rattle.tq_mvbt.specs.Steps.{edited, retired, Changes}
use Rattle.tq_mvbt.specs.Unsettled.{IsGrown, Grows}
use Rattle.tq_mvbt.proofs.Places.{at_set_same, at_set_other, at_left}

-- one node changes
pub grows_set : (version level : ℕ) (nodes : List NodeState) (i : ℕ) (n m : NodeState) → slice_get nodes i ≡ Some n → m.level ≡ n.level → m.low ≡ n.low → m.high ≡ n.high → m.born ≡ n.born → (m.died ≡ n.died) ⊎ ((n.died ≡ now) × (m.died ≡ version)) → (level ≤ n.level → m.died ≡ n.died) → Grows version level nodes (set nodes i m)
grows_set version level nodes i n m e l a b c d k j x f = split (nat_eq i j) refl
  where
    split : (t : Bool) → nat_eq i j ≡ t → IsGrown version level (set nodes i m) j x
    split true s =
        let at : i ≡ j = grind (arith, nat_tests) in
        let g : slice_get nodes j ≡ Some n = subst (λ y. slice_get nodes y ≡ Some n) at e in
        let same : n ≡ x = cc in
        let there : slice_get (set nodes i m) j ≡ Some m = subst (λ y. slice_get (set nodes i m) y ≡ Some m) at (at_set_same nodes i m (slice_get_within nodes i n e)) in
        subst (λ (y : NodeState). IsGrown version level (set nodes i m) j y) same (record { later = m; stands = there; level_is = l; low = a; high = b; born = c; died = d; kept = k })
    split false s =
        let differ : i ≢ j = grind (arith, nat_tests) in
        record { later = x; stands = at_set_other nodes i j m differ ∙ f; level_is = refl; low = refl; high = refl; born = refl; died = inl refl; kept = λ h. refl }

pub grows_retired : (version level last : ℕ) (s t : Contents NodeState) (i : ℕ) (n : NodeState) → slice_get s.nodes i ≡ Some n → n.level < level → n.died ≡ now → Changes s t i (retired version last) → Grows version level s.nodes t.nodes
grows_retired version level last s t i n e l d change =
    let f = change.stands in
    let same : change.node ≡ n = cc in
    rw (change.nodes, same) (grows_set version level s.nodes i n (retired version last n) e refl refl refl refl (inr (d, refl)) (λ h. absurd (omega arith)))

pub grows_edited : (version level low high at : ℕ) (s t : Contents NodeState) (i : ℕ) (added : List Entry) → Changes s t i (edited low high at added) → Grows version level s.nodes t.nodes
grows_edited version level low high at s t i added change =
    rw (change.nodes) (grows_set version level s.nodes i change.node (edited low high at added change.node) change.stands refl refl refl refl (inl refl) (λ h. refl))

pub grows_appended : (version level : ℕ) (nodes new more : List NodeState) → new ≡ nodes ++ more → Grows version level nodes new
grows_appended version level nodes new more is =
    rw is (λ i n e. record { later = n; stands = at_left nodes more i n e; level_is = refl; low = refl; high = refl; born = refl; died = inl refl; kept = λ h. refl })

pub grows_more : (version level level' : ℕ) (old new : List NodeState) → level ≤ level' → Grows version level old new → Grows version level' old new
grows_more version level level' old new le grows i n e =
    let g = grows i n e in
    record { later = g.later; stands = g.stands; level_is = g.level_is; low = g.low; high = g.high; born = g.born; died = g.died; kept = λ h. g.kept (omega arith) }

pub grows_both : (version level : ℕ) (a b c : List NodeState) → version < now → Grows version level a b → Grows version level b c → Grows version level a c
grows_both version level a b c small f g i n e =
    let x = f i n e in
    let y = g i x.later x.stands in
    record {
      later = y.later;
      stands = y.stands;
      level_is = y.level_is ∙ x.level_is;
      low = y.low ∙ x.low;
      high = y.high ∙ x.high;
      born = y.born ∙ x.born;
      died = join x.later y.later x.died y.died;
      kept = λ h. (let l = x.level_is in y.kept (omega arith)) ∙ x.kept h;
    }
  where
    join : (m o : NodeState) → (m.died ≡ n.died) ⊎ ((n.died ≡ now) × (m.died ≡ version)) → (o.died ≡ m.died) ⊎ ((m.died ≡ now) × (o.died ≡ version)) → (o.died ≡ n.died) ⊎ ((n.died ≡ now) × (o.died ≡ version))
    join m o (inl p) (inl q) = inl (q ∙ p)
    join m o (inl p) (inr q) = inr (sym p ∙ q.0, q.1)
    join m o (inr p) (inl q) = inr (p.0, q ∙ p.1)
    join m o (inr p) (inr q) = let a = p.1 in let b = q.0 in absurd (omega arith)

-- a node that was found on the level is still found there
pub found_grows : (version level key number : ℕ) (old new : List NodeState) → Grows version level old new → IsFound old level key number → IsFound new level key number
found_grows version level key number old new grows found =
    let g = grows number found.node found.stands in
    let l = found.at_level in
    let a = found.low in
    let b = found.high in
    let x = g.low in
    let y = g.high in
    record {
      node = g.later;
      stands = g.stands;
      at_level = g.level_is ∙ l;
      died = g.kept (omega arith) ∙ found.died;
      low = omega arith;
      high = omega arith;
    }
