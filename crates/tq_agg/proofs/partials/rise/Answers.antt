use Rattle.std.proofs.Common.{rules, ◌≡◌, ◌<◌, ℕ, Bool, true, false, List, nat_lt, arith}
use Rattle.std.specs.List.{AllPairs, IsAllAdjacentAnswer}
use Rattle.std.proofs.lemmas.Bool.Decides.{nat_tests}
use Rattle.std.proofs.lemmas.Fn.{always_returns_same}
use Rattle.std.proofs.lemmas.List.Kept.{AllPairs-from_increasing}
use Rattle.tq_agg.proofs.partials.rise.Goals as goal

-- numbers of which each is below the next
from_neighbours : (ranks : List ℕ) (r : Bool) → IsAllAdjacentAnswer (λ prefix next b. b ≡ nat_lt prefix next) ranks r → r ≡ true → AllPairs (λ prefix next. prefix < next) ranks
from_neighbours ranks true each is = AllPairs-from_increasing ranks (λ k below. let exact = each k 0 below in grind (arith, nat_tests, exact))
from_neighbours ranks false each is = cc

pub returns : goal.returns
returns c = from_neighbours c.args.ranks.now c.is_sorted_by.result (c.is_sorted_by.ensures.cases nat_lt (always_returns_same _ _ _ (λ a r f k. search rules)))
