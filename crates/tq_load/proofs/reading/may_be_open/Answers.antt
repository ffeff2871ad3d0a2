use Rattle.std.proofs.Common.{◌∙◌, ap, sym}
use Rattle.csv.specs.Records.{fields_of}
use Rattle.tq_load.specs.Feeds.{ends_in_feed}
use Rattle.tq_load.proofs.FeedLemmas.{field_told, no_field_told, no_fields}
use Rattle.tq_load.proofs.reading.may_be_open.Goals as goal

pub returns-then-count-eq0 : goal.returns-then-count-eq0
returns-then-count-eq0 c = no_fields (fields_of c.args.record.now) (sym c.len-count.ensures ∙ c.if-count-eq0.true)

pub returns-in-Some : goal.returns-in-Some
returns-in-Some c = c.ends_in_feed.ensures ∙ ap ends_in_feed (field_told (fields_of c.args.record.now) c.len-count.result c.in-Some.field.now c.len-count.ensures c.in-Some.ensures.value)

pub returns-in-None : goal.returns-in-None
returns-in-None c = no_field_told (fields_of c.args.record.now) c.len-count.result c.len-count.ensures c.in-None.ensures.value
