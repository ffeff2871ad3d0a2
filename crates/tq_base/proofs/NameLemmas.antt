-- A folded name may be shown.
use Rattle.std.proofs.Common.{◌≡◌, ℕ, true, ◌&&◌, not, List, [], ◌∷◌, length, nat_le, refl, arith}
use Rattle.std.specs.Char.{is_ascii_uppercase, to_ascii_lowercase}
use Rattle.std.specs.List.{list_all}
use Rattle.std.proofs.lemmas.Bool.{and_parts}
use Rattle.std.proofs.lemmas.Bool.Decides.{nat_tests}
use Rattle.tq_base.specs.Names.{folded, has_name_form, is_name, is_name_byte, is_name_start, is_reserved, is_shown_name}

folded_start : (b : ℕ) → is_name_start b ≡ true → is_name_start (to_ascii_lowercase b) ≡ true
folded_start b h = grind (arith, nat_tests)

folded_byte : (b : ℕ) → is_name_byte b ≡ true → is_name_byte (to_ascii_lowercase b) ≡ true
folded_byte b h = grind (arith, nat_tests)

lower : (b : ℕ) → not (is_ascii_uppercase (to_ascii_lowercase b)) ≡ true
lower b = grind (arith, nat_tests)

lower_twice : (b : ℕ) → to_ascii_lowercase (to_ascii_lowercase b) ≡ to_ascii_lowercase b
lower_twice b = grind (arith, nat_tests)

folded_bytes : (bytes : List ℕ) → list_all is_name_byte bytes ≡ true → list_all is_name_byte (folded bytes) ≡ true
folded_bytes [] h = refl
folded_bytes (b ∷ bs) h =
    let parts = and_parts (is_name_byte b) (list_all is_name_byte bs) h in
    rw (folded_byte b parts.0, folded_bytes bs parts.1) refl

folded_form : (bytes : List ℕ) → has_name_form bytes ≡ true → has_name_form (folded bytes) ≡ true
folded_form [] h = h
folded_form (b ∷ bs) h =
    let parts = and_parts (is_name_start b) (list_all is_name_byte bs) h in
    rw (folded_start b parts.0, folded_bytes bs parts.1) refl

all_lower : (bytes : List ℕ) → list_all (λ b. not (is_ascii_uppercase b)) (folded bytes) ≡ true
all_lower [] = refl
all_lower (b ∷ bs) = rw (lower b, all_lower bs) refl

folded_twice : (bytes : List ℕ) → folded (folded bytes) ≡ folded bytes
folded_twice [] = refl
folded_twice (b ∷ bs) = rw (lower_twice b, folded_twice bs) refl

same_reserved : (bytes : List ℕ) → is_reserved (folded bytes) ≡ is_reserved bytes
unfolding is_reserved
same_reserved bytes = simp (folded_twice bytes)

same_length : (bytes : List ℕ) → length (folded bytes) ≡ length bytes
same_length [] = refl
same_length (b ∷ bs) = omega (arith, same_length bs)

-- what a folded name satisfies
pub shown-folded : (bytes : List ℕ) → is_name bytes ≡ true → is_shown_name (folded bytes) ≡ true
shown-folded bytes h =
    let most = and_parts (has_name_form bytes && nat_le (length bytes) 64) (not (is_reserved bytes)) h in
    let first = and_parts (has_name_form bytes) (nat_le (length bytes) 64) most.0 in
    let form = folded_form bytes first.0 in
    let short : nat_le (length (folded bytes)) 64 ≡ true = rw (same_length bytes) first.1 in
    let free : not (is_reserved (folded bytes)) ≡ true = rw (same_reserved bytes) most.1 in
    rw (form, short, all_lower bytes, free) refl
