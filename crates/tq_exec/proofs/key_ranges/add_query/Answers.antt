use Rattle.std.proofs.Common.{◌≡◌, ◌<◌, ◌∙◌, ap, arith, get_or, inl, inr, length, subst, sym}
use Rattle.std.proofs.lemmas.Bool.{cases_lt}
use Rattle.std.proofs.lemmas.List.{get_or_default}
use Rattle.tq_plan.specs.declared.plans.QuerySource.{QuerySource}
use Rattle.tq_plan.specs.KeyRanges.{key_at}
use Rattle.tq_exec.specs.Reads.{HasSourceKeys}
use Rattle.tq_exec.proofs.SourceLemmas.{no_source}
use Rattle.tq_exec.proofs.key_ranges.add_query.Goals as goal

pub sources-preserved : goal.sources-preserved
sources-preserved c =
    let sources = c.args.query.now.sources in
    let index = c.sources.source-index in
    record {
      apart = c.in_ok-more.ensures.apart;
      kept = λ key has. c.in_ok-more.ensures.kept key (c.sources.invariant.kept key has);
      added = λ k d less here row has passes. elim (cases_lt k index) [
        | inl before ↦ c.in_ok-more.ensures.kept (key_at (get_or sources k d) row) (c.sources.invariant.added k d before here row has passes)
        | inr least ↦
            let same : k ≡ index = omega (arith, less, least) in
            let within : index < length sources = subst (λ l. index < length l) c.get-source-items.ensures c.sources-test.true in
            let is = ap (λ l. get_or l index no_source) c.get-source-items.ensures ∙ get_or_default sources index no_source d within ∙ ap (λ n. get_or sources n d) (sym same) in
            subst (λ (source : QuerySource). source.table ≡ c.args.table → HasSourceKeys c.args.query.now source c.in_ok-more.more.items) is c.in_ok-more.ensures.added here row has passes
      ];
    }
