-- The keys of the rows of a query's sources, as far as its condition restricts them. This project's own.
use Rattle.std.specs.Prelude.{◌≡◌, ◌==◌, ℕ, ℤ, pos, IsTrue, if◌then◌else◌, List, Option, Some, None, FitsSigned, slice_get}
use Rattle.std.specs.Int.{w64}
use Rattle.tq_base.specs.declared.key_range.KeyRange.{KeyRange}
use Rattle.tq_base.specs.declared.value.Value.{Value}
use Rattle.tq_base.specs.Contents.{Int}
use Rattle.tq_base.specs.KeyRanges.{IsInSomeRange}
use Rattle.tq_base.specs.RowValues.{number_of, value_at}
use Rattle.tq_condition.specs.Ordinary.{admits}
use Rattle.tq_plan.specs.declared.plans.Plan.{Plan}
use Rattle.tq_plan.specs.declared.plans.QueryPlan.{QueryPlan}
use Rattle.tq_plan.specs.declared.plans.QuerySource.{QuerySource}

-- the key of the source's row in a joined row: the number at the place of its first column if that column holds
-- numbers, else 0
abbrev pub key_at : QuerySource → List Value → ℤ
key_at source row = if source.numbered then number_of (value_at row source.first) else pos 0

-- if the first column of the source holds numbers, the value at its place is a number of 64 signed bits
abbrev pub HasKey : QuerySource → List Value → Type 0
HasKey source row = IsTrue source.numbered → (n : ℤ) × (value_at row source.first ≡ Int n) × FitsSigned w64 n

-- for each joined row that passes the query's condition, the key of the source's row lies in the range; without a
-- range, no row passes
abbrev pub HasKeysOf : QueryPlan → QuerySource → Option KeyRange → Type 0
HasKeysOf query source range = (row : List Value) → HasKey source row → IsTrue (admits query.test row) → IsInSomeRange range (key_at source row)

-- the same for the source with this number, if there is one
abbrev pub HasKeys : QueryPlan → ℕ → Option KeyRange → Type 0
HasKeys query number range = (source : QuerySource) → slice_get query.sources number ≡ Some source → HasKeysOf query source range

-- the query of this side of a plan: 0 is the left one, 1 the right one
abbrev pub query_on : Plan → ℕ → Option QueryPlan
query_on plan side = if side == 0 then Some plan.left else (if side == 1 then plan.right else None)
