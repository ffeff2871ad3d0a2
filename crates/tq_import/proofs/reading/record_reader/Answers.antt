use Rattle.std.proofs.Common.{◌∙◌, ap, inr}
use Rattle.std.specs.Prelude.{option_map}
use Rattle.csv.specs.Reading.{strip_bom}
use Rattle.csv.specs.declared.parser.Config.{Config}
use Rattle.tq_event.proofs.RecordLemmas.{chain-of-records}
use Rattle.tq_import.specs.Reading.{separated_by}
use Rattle.tq_import.proofs.reading.record_reader.Goals as goal

pub returns : goal.returns
returns g c text is =
    let fr = c.from_reader.ensures in
    let e = c.has_headers.ensures in
    let f = c.flexible.ensures in
    let d = c.delimiter.ensures in
    record {
      untrimmed = rw (d, f, e) at fr.trim ∙ c.new.ensures.trim;
      ready = inr (inr (rw (d, f, e) at fr.has_headers, fr.headers));
      config = rw (d, f, e) at fr.config ∙ ap (λ (cfg : Config). record cfg { delimiter = c.args.delimiter }) c.new.ensures.config;
      flexible = rw (d, f) at fr.flexible;
      text = strip_bom text;
      source = fr.source ∙ ap (option_map strip_bom) is;
      are = rw fr.state (chain-of-records (separated_by c.args.delimiter) (strip_bom text));
    }
