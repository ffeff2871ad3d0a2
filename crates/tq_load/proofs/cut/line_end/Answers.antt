use Rattle.std.proofs.Common.{◌≡◌, ◌+◌, ◌-◌, ◌<◌, ◌∙◌, ap, arith, drop, get_or-drop, length, length-drop, subst, sym, take}
use Rattle.std.specs.Prelude.{slice_index}
use Rattle.std.proofs.lemmas.List.{take_all}
use Rattle.tq_load.proofs.CutLemmas.{feed_taken}
use Rattle.tq_load.proofs.cut.line_end.Goals as goal

pub returns-clause-feed : goal.returns-clause-feed
returns-clause-feed c =
    let bytes = c.args.bytes.now in
    let from = c.args.from in
    let feed = c.in_ok-feed.feed in
    let rest : take (length bytes - from) (drop from bytes) ≡ drop from bytes = take_all (length bytes - from) (drop from bytes) (omega (arith, length-drop from bytes)) in
    let within : feed < length (drop from bytes) = subst (λ l. feed < length l) rest c.in_ok-feed.ensures.within in
    feed_taken bytes (from + feed) (omega (arith, within, length-drop from bytes)) (sym (get_or-drop from bytes feed 0) ∙ ap (λ l. slice_index l feed) (sym rest) ∙ c.in_ok-feed.ensures.feed)
