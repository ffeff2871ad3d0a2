use Rattle.std.proofs.Common.{◌<◌, ℕ, Bool, true, false, Option, Some, None, nat_lt, subst, sym, if◌then◌else◌}
use Rattle.tq_base.specs.declared.period.TheConstants.{FOREVER}
use Rattle.tq_store.specs.Stored.{end_as_of}
use Rattle.tq_store.proofs.stored.period.Goals as goal

later : (from n to : ℕ) (o : Option ℕ) → from < to → from < FOREVER → from < end_as_of n o to
later from n to None before finite = finite
later from n to (Some e) before finite = by (nat_lt e n)
  where
    by : (b : Bool) → from < (if b then to else FOREVER)
    by true = before
    by false = finite

pub unwrap-requires : goal.unwrap-requires
unwrap-requires c =
    let finite : c.args.row.now.from < FOREVER = subst (λ n. n < FOREVER) c.number-finite.ensures.value c.number-finite.ensures.in_range in
    c.new.ensures.valid.1 (subst (λ n. c.args.row.now.from < n) (sym c.end.ensures) (later c.args.row.now.from c.args.n c.args.row.now.to c.args.row.now.end c.requires finite))
