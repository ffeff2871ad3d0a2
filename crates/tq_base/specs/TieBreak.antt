-- The values of keys that are still to compare after equal prefixes: those from a column on, and of the text in that
-- column the bytes from an offset on. This project's own.
use Rattle.std.specs.Prelude.{◌≡◌, ◌<◌, ◌≤◌, ◌-◌, ℕ, List, [], ◌∷◌, drop, length, map, slice_index_or, take, All, IsPermutation, IsSorted}
use Rattle.std.specs.Ordering.{nat_cmp, on, then_cmp}
use Rattle.std.specs.declared.cmp.Ordering.{Ordering}
use Rattle.tq_base.specs.declared.value.Value.{Value}
use Rattle.tq_base.specs.declared.sort_input.SortKey.{SortKey}
use Rattle.tq_base.specs.declared.sort_input.RunStart.TheVariants.{Unknown, GoesOn}
use Rattle.tq_base.specs.Contents.{Int, Text}
use Rattle.tq_base.specs.ValueOrder.{values_cmp}
use Rattle.tq_base.specs.Keys.{first_prefix, key_values, HaveRunStarts, BeginsWithBytes, SortInputState}

-- the bytes of a text; none of a number
abbrev pub text_of : Value → List ℕ
text_of (Int n) = []
text_of (Text t) = t

-- a number, or the text from the offset on
abbrev pub value_after : ℕ → Value → Value
value_after offset (Int n) = Int n
value_after offset (Text t) = Text (drop offset t)

-- a list of values, with its first value taken from the offset on
abbrev pub values_after : ℕ → List Value → List Value
values_after offset [] = []
values_after offset (v ∷ values) = value_after offset v ∷ values

-- the text at the front of the values; empty if they do not begin with a text
abbrev pub first_text : List Value → List ℕ
first_text [] = []
first_text (v ∷ values) = text_of v

-- the values of a key that are still to compare: from the place on, the first of them from the offset on
abbrev pub values_from : SortInputState → ℕ → ℕ → SortKey → List Value
values_from s place offset k = values_after offset (drop place (key_values s k))

-- by the values still to compare, then by start
abbrev pub from_cmp : SortInputState → ℕ → ℕ → SortKey → SortKey → Ordering
from_cmp s place offset = then_cmp (on (values_from s place offset) values_cmp) (on (λ k. k.start) nat_cmp)

-- by prefix alone
abbrev pub prefix_cmp : SortKey → SortKey → Ordering
prefix_cmp = on (λ k. k.prefix) nat_cmp

-- the key with another prefix
abbrev pub with_prefix : ℕ → SortKey → SortKey
with_prefix prefix k = record { prefix = prefix; start = k.start; row = k.row; side = k.side; run_start = k.run_start }

-- the key with the prefix of the values still to compare
abbrev pub with_next_prefix : SortInputState → ℕ → ℕ → SortKey → SortKey
with_next_prefix s place offset k = with_prefix (first_prefix (values_from s place offset k)) k

-- the key with run start `Unknown`
abbrev pub without_run_start : SortKey → SortKey
without_run_start k = record { prefix = k.prefix; start = k.start; row = k.row; side = k.side; run_start = Unknown }

-- the key with run start `GoesOn`
abbrev pub goes_on : SortKey → SortKey
goes_on k = record { prefix = k.prefix; start = k.start; row = k.row; side = k.side; run_start = GoesOn }

-- every run start is `Unknown`
abbrev pub HaveNoRunStarts : List SortKey → Type 0
HaveNoRunStarts keys = All (λ k. k.run_start ≡ Unknown) keys

-- the same keys in some order, run starts aside
abbrev pub SameKeys : List SortKey → List SortKey → Type 0
SameKeys xs ys = IsPermutation (map without_run_start xs) (map without_run_start ys)

-- the key has the prefix of the values still to compare
pub record HasNextPrefix (s : SortInputState) (place offset : ℕ) (k : SortKey) : Type 0 where
  pub prefix : k.prefix ≡ first_prefix (values_from s place offset k)
  pub bytes : BeginsWithBytes (values_from s place offset k)

-- the texts at the front of the keys' remaining values have their first `len` bytes in common
abbrev pub Share : SortInputState → ℕ → ℕ → ℕ → List SortKey → Type 0
Share s place offset len keys =
    All (λ a. All (λ b. take len (first_text (values_from s place offset a)) ≡ take len (first_text (values_from s place offset b))) keys) keys

-- comparing the two keys from the later place on gives the same result as comparing them from the earlier one
abbrev pub IsSameOrder : SortInputState → ℕ → ℕ → ℕ → ℕ → SortKey → SortKey → Type 0
IsSameOrder s place offset next next_offset a b =
    values_cmp (values_from s next next_offset a) (values_from s next next_offset b) ≡ values_cmp (values_from s place offset a) (values_from s place offset b)

-- the same for every two of the keys
abbrev pub SameOrder : SortInputState → ℕ → ℕ → ℕ → ℕ → List SortKey → Type 0
SameOrder s place offset next next_offset keys = All (λ a. All (IsSameOrder s place offset next next_offset a) keys) keys

-- the keys before `start` are sorted by the values still to compare, with right run starts; their prefixes are less
-- than those of the later keys
pub record RunsDone (s : SortInputState) (place offset : ℕ) (keys : List SortKey) (start : ℕ) : Type 0 where
  pub within : start ≤ length keys
  pub rise : IsSorted prefix_cmp keys
  pub done : IsSorted (from_cmp s place offset) (take start keys)
  pub run_starts : HaveRunStarts s (take start keys)
  pub rest : HaveNoRunStarts (drop start keys)
  pub apart : (d : SortKey) → 0 < start → start < length keys → (slice_index_or keys (start - 1) d).prefix < (slice_index_or keys start d).prefix
