use Rattle.std.proofs.Common.{◌∙◌, inr}
use Rattle.csv.specs.Reading.{default_config, strip_bom}
use Rattle.tq_event.proofs.RecordLemmas.{chain-of-records}
use Rattle.tq_event.proofs.records.record_reader.Goals as goal

pub returns : goal.returns
returns c =
    let fr = c.from_reader.ensures in
    let e = c.has_headers.ensures in
    let g = c.flexible.ensures in
    let text = strip_bom c.args.bytes.now in (
      rw (g, e) at fr.trim ∙ c.new.ensures.trim,
      inr (inr (rw (g, e) at fr.has_headers, fr.headers)),
      rw (g, e) at fr.config ∙ c.new.ensures.config,
      rw g at fr.flexible,
      text,
      fr.source,
      rw fr.state (chain-of-records default_config text),
    )
