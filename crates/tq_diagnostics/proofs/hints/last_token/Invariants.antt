use Rattle.std.proofs.Common.{◌≡◌, [], false, take}
use Rattle.std.specs.List.{fold}
use Rattle.tq_diagnostics.specs.Hints.{token_after}
use Rattle.tq_diagnostics.proofs.hints.last_token.Given as goal

abbrev pub invariant-bytes : goal.invariant-bytes
invariant-bytes l = (l.token.items, l.open) ≡ fold token_after ([], false) (take l.byte-index l.bytes)
