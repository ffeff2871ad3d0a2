-- All that is shown begins with what is shown so far.
use Rattle.std.proofs.Common.{◌≡◌, ◌++◌, length}
use Rattle.tq_cli.specs.Comments.{blanked}
use Rattle.tq_cli.specs.declared.comments.Place.TheVariants.{Outside}
use Rattle.tq_cli.proofs.comments.blank_comments.Given as goal

abbrev pub invariant-bytes : goal.invariant-bytes
invariant-bytes l = l.text.items ++ blanked l.place l.left ≡ blanked Outside l.bytes

abbrev pub decreases-bytes : goal.decreases-bytes
decreases-bytes l = length l.left
