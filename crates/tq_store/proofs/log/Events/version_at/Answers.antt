use Rattle.std.proofs.Common.{◌∙◌, rules, sym, ap, subst, take}
use Rattle.std.specs.List.Sorted.{IsNonDecreasingBy}
use Rattle.std.proofs.lemmas.List.Sorted.{IsNonDecreasingBy-take, IsPartitionedBy-leb, IsPartitionPoint-from_clause}
use Rattle.tq_event.specs.History.{time_of}
use Rattle.tq_event.specs.Versions.{version_at}
use Rattle.tq_store.specs.declared.log.LoggedEvent.{LoggedEvent}
use Rattle.tq_store.proofs.LogLemmas.{no_later, ordered_log, version_is}
use Rattle.tq_store.proofs.VersionLemmas.{place_counts}
use Rattle.tq_store.proofs.log.Events.version_at.Goals as goal

pub returns-clause-value : goal.returns-clause-value
returns-clause-value c =
    let log = c.self.inside.log.now in
    let indexes = c.self.inside.indexes.now in
    let first = take c.args.n log in
    let test = no_later c.args.at in
    let ordered = ordered_log indexes log (subst (IsNonDecreasingBy time_of) (sym c.self.view_is) c.requires.ordered) in
    let point = IsPartitionPoint-from_clause test first c.partition_point.result c.partition_point.ensures.partitioned
    (IsPartitionedBy-leb (λ (e : LoggedEvent). e.at) first c.args.at (IsNonDecreasingBy-take (λ (e : LoggedEvent). e.at) c.args.n log ordered)) (λ a r q k. search rules) in
    place_counts test first c.partition_point.result c.partition_point.ensures.bound point.0 point.1
    ∙ sym (version_is indexes c.args.n c.args.at log)
    ∙ ap (λ es. version_at es c.args.n c.args.at) c.self.view_is
