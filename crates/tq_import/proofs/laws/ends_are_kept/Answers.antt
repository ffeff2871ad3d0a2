use Rattle.std.proofs.Common.{◌≡◌, ℕ, ◌+◌, Bool, true, false, Some, sym}
use Rattle.std.specs.Prelude.{None, nat_lt, if◌then◌else◌}
use Rattle.tq_import.specs.Times.{form_of, last_instant}
use Rattle.tq_import.proofs.laws.ends_are_kept.Goals as goal

kept : (inclusive : Bool) (later : Bool) (end bound : ℕ) → (if inclusive then (if later then Some (end + 1) else None) else Some end) ≡ Some bound → bound ≡ (if inclusive then end + 1 else end)
kept true true end bound e = sym (cc e)
kept true false end bound e = cc e
kept false later end bound e = sym (cc e)

pub returns : goal.returns
returns c times field end bound shut at_end is = kept times.inclusive (nat_lt end (last_instant (form_of times))) end bound (rw (shut, at_end) at is)
