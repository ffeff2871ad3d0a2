use Rattle.std.proofs.Common.{◌≡◌, ℕ, zero, suc, refl, subst, sym, take}
use Rattle.tq_base.specs.Groups.{Below}
use Rattle.tq_split.specs.Adding.{run_values}
use Rattle.tq_split.proofs.merging.is_past.Goals as goal

pub returns-then-groups-ne0 : goal.returns-then-groups-ne0
returns-then-groups-ne0 c less =
    subst (λ combine. Below (run_values combine c.args.run.now.row.values) (run_values combine c.args.row.now.row.values)) (sym c.in-Add.is)
    (by c.in-Add.groups c.if-groups-ne0.true)
  where
    by : (n : ℕ) → (n ≡ 0 → ⊥) → Below (take n c.args.run.now.row.values) (take n c.args.row.now.row.values)
    by zero some = absurd (some refl)
    by (suc n) some =
        c.is_less_key-then-groups-ne0.ensures.first c.args.run.now.row.values c.args.row.now.row.values n c.args.run.now.keyed c.args.row.now.keyed less
