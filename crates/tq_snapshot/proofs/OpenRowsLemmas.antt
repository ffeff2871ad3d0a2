-- Keys of open rows, with one more row and with one less.
use Rattle.std.proofs.Common.{◌≡◌, ◌≢◌, ℕ, ◌&&◌, not, Bool, true, false, cond, refl, ◌+◌, ◌*◌, ◌%◌, ◌<◌}
use Rattle.std.specs.Prelude.{◌||◌, List}
use Rattle.std.specs.Cmp.{Equal-is, eq_by_cmp_equiv, nat_cmp_total}
use Rattle.std.specs.Ordering.{eq_by_cmp, nat_cmp}
use Rattle.std.proofs.lemmas.Map.Lookups.{exact_unsigned}
use Rattle.tq_base.specs.declared.value.Value.{Value}
use Rattle.tq_base.specs.KeyRanges.{key_of}
use Rattle.tq_snapshot.specs.Digests.{digest_of}
use Rattle.tq_store.specs.Keys.{shifted}
use Rattle.tq_snapshot.specs.OpenRows.{index_key}
use Rattle.tq_store.proofs.SortKeyLemmas.{key_row}

pub or-false : (b : Bool) → (b || false) ≡ b
or-false true = refl
or-false false = refl

pub and-false : (b : Bool) → (b && false) ≡ false
and-false true = refl
and-false false = refl

pub and-yes : (b : Bool) → (b && true) ≡ b
and-yes true = refl
and-yes false = refl

pub or-cond : (c b : Bool) → cond c true b ≡ (b || c)
or-cond true true = refl
or-cond true false = refl
or-cond false true = refl
or-cond false false = refl

pub and-cond : (c b : Bool) → cond c false b ≡ (b && not c)
and-cond true true = refl
and-cond true false = refl
and-cond false true = refl
and-cond false false = refl

pub same_number : (a b : ℕ) → eq_by_cmp nat_cmp a b ≡ true → a ≡ b
same_number a b is = exact_unsigned a b ((Equal-is (nat_cmp a b)).0 is)

pub number_same : (a : ℕ) → eq_by_cmp nat_cmp a a ≡ true
number_same a = (eq_by_cmp_equiv nat_cmp_total).refl a

pub number_other : (a b : ℕ) → a ≢ b → eq_by_cmp nat_cmp a b ≡ false
number_other a b other = by (eq_by_cmp nat_cmp a b) refl
  where
    by : (test : Bool) → eq_by_cmp nat_cmp a b ≡ test → eq_by_cmp nat_cmp a b ≡ false
    by true is = absurd (other (same_number a b is))
    by false is = is

-- an index key has the number of its row
pub place_row : (v : List Value) (r : ℕ) → r < 4294967296 → index_key v r % 4294967296 ≡ r
place_row v r less = key_row (shifted (key_of v) * 4294967296 + digest_of v) r less
