use Rattle.std.proofs.Common.{arith, rules}
use Rattle.tq_cli.proofs.CommentLemmas.{all_shown, byte_shown}
use Rattle.tq_cli.proofs.comments.blank_comments.Goals as goal

pub bytes-preserved : goal.bytes-preserved
bytes-preserved c =
    let left = c.bytes.left.now in
    byte_shown c.bytes.text.items c.push.new.self.items left _ c.bytes.place c.place_at-here.result c.place_after-place.result
    (λ few. absurd (omega (arith, few, c.in-len1-up.len_at_least))) c.bytes.invariant (search rules) (search rules) c.place_after-place.ensures

pub returns : goal.returns
returns c = all_shown c.bytes.text.items c.bytes.left.now _ c.bytes.place c.in_default.len_below c.bytes.invariant
