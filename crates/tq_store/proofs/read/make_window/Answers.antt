use Rattle.std.proofs.Common.{◌-◌, ◌∙◌, arith, ap, rules}
use Rattle.std.specs.Prelude.{FitsSigned}
use Rattle.std.specs.Int.{w64}
use Rattle.std.proofs.lemmas.Int.{to_z-of_z}
use Rattle.tq_event.specs.Versions.{version_at}
use Rattle.tq_store.specs.Keys.{shifted}
use Rattle.tq_store.proofs.SortKeyLemmas.{shifted-le}
use Rattle.tq_store.proofs.VersionLemmas.{version_rises}
use Rattle.tq_store.proofs.read.make_window.Goals as goal

pub unwrap-requires : goal.unwrap-requires
unwrap-requires c =
    let fits_low : FitsSigned w64 c.args.range.now.low = search rules in
    let fits_high : FitsSigned w64 c.args.range.now.high = search rules in
    let low = c.shift_key-low.ensures.value ∙ ap shifted (to_z-of_z w64 c.args.range.now.low fits_low) in
    let high = c.shift_key.ensures.value ∙ ap shifted (to_z-of_z w64 c.args.range.now.high fits_high) in
    let small = c.shift_key.ensures.small in
    let keys = shifted-le c.args.range.now.low c.args.range.now.high c.args.range.now.ordered in
    let ordered = c.args.period.now.ordered in
    let start = c.number.ensures.value in
    let first_at = c.version_at-first.ensures.value ∙ ap (version_at c.args.events.now c.args.n) start in
    let last_at = c.find_last-last.ensures.value in
    let within = c.find_last-last.ensures.within in
    let known = c.requires.known in
    let few = c.len-count.ensures.few in
    let rises = version_rises c.args.events.now c.args.n c.args.period.now.start (c.args.period.now.end - 1) (omega (arith, ordered)) in
    c.new.ensures.valid.1 (record {
      wide = omega (arith, low, high, keys);
      in_keys = omega (arith, small);
      long = omega (arith, first_at, last_at, rises);
      in_versions = omega (arith, within, known, few);
    })
