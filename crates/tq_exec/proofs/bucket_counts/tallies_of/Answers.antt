use Rattle.std.proofs.Common.{◌≡◌, true, refl, subst}
use Rattle.std.specs.Prelude.{All}
use Rattle.tq_agg.specs.declared.buckets.Tally.{Tally}
use Rattle.tq_exec.proofs.BucketLemmas.{table_tallied}
use Rattle.tq_exec.proofs.bucket_counts.tallies_of.Goals as goal

pub returns-then-are_whole : goal.returns-then-are_whole
returns-then-are_whole g c =
    table_tallied c.args.rows.now.items c.args.window.now c.args.column c.in_ok-tallies.tallies.items c.in_ok-tallies.ensures
    (subst (All (λ (tally : Tally). tally.is_whole ≡ true)) c.deref.ensures.value (c.if-are_whole.ensures refl))
