-- Numbers as exported files write them, and their whole number of units. This project's own.
use Rattle.std.specs.Prelude.{ℕ, zero, suc, ◌+◌, ◌-◌, ◌%◌, ◌^◌, ◌==◌, ◌&&◌, ◌||◌, ℤ, pos, neg_ℤ, nat_le, nat_lt, not, Bool, true, false, if◌then◌else◌, List, [], ◌∷◌, ◌++◌, filter, length, Option, Some, None, option_map}
use Rattle.std.specs.List.{after_first, before_first, list_any}
use Rattle.std.specs.Option.{option_and_then}
use Rattle.tq_base.specs.Numbers.{natural_up_to}
use Rattle.tq_import.specs.declared.plan.NumberFormat.{NumberFormat}

-- ---- separators of thousands

abbrev pub begins_with : ℕ → List ℕ → Bool
begins_with mark [] = false
begins_with mark (b ∷ bs) = b == mark

-- the byte is the mark exactly if three digits, or groups of three digits with marks between them, come after it
abbrev pub is_placed : ℕ → ℕ → ℕ → Bool
is_placed mark b more = if more % 4 == 3 then b == mark else not (b == mark)

-- a mark is before each three digits, counted from the end, and nowhere else
abbrev pub is_marked : ℕ → List ℕ → Bool
is_marked mark [] = true
is_marked mark (b ∷ bs) = is_placed mark b (length bs) && is_marked mark bs

-- no mark at all, or groups of three bytes after the first group, which has one to three
abbrev pub is_grouped : ℕ → List ℕ → Bool
is_grouped mark whole = not (list_any (λ b. b == mark) whole) || (not (begins_with mark whole) && is_marked mark whole)

-- the digits before the point, without separators of thousands
abbrev pub whole_digits : Option ℕ → List ℕ → Option (List ℕ)
whole_digits None whole = Some whole
whole_digits (Some mark) whole = if is_grouped mark whole then Some (filter (λ b. not (b == mark)) whole) else None

-- ---- parts of a number

abbrev pub is_negative : List ℕ → Bool
is_negative [] = false
is_negative (b ∷ bs) = b == 45

-- the bytes after a `-` in front
abbrev pub unsigned : List ℕ → List ℕ
unsigned [] = []
unsigned (b ∷ bs) = if b == 45 then bs else b ∷ bs

-- the bytes before the point, and below, those after it
abbrev pub whole_part : ℕ → List ℕ → List ℕ
whole_part point number = before_first (λ b. b == point) number

abbrev pub fraction_part : ℕ → List ℕ → List ℕ
fraction_part point number = after_first (λ b. b == point) number

-- something before the point and, if there is a point, something after it; at most `places` bytes after it
abbrev pub are_parts : ℕ → ℕ → List ℕ → List ℕ → Bool
are_parts places len whole fraction = nat_lt 0 (length whole) && not (length whole + 1 == len) && nat_le (length fraction) places

abbrev pub has_parts : ℕ → ℕ → List ℕ → Bool
has_parts point places number = are_parts places (length number) (whole_part point number) (fraction_part point number)

-- the digits, then this many zeros
unfoldable pub with_zeros : ℕ → List ℕ → List ℕ
with_zeros zero digits = digits
with_zeros (suc n) digits = with_zeros n (digits ++ 48 ∷ [])

-- ---- conversion

-- the digits of the number of units: those before the point, those after it, and zeros up to `places` of these
abbrev pub unit_digits : NumberFormat → ℕ → List ℕ → Option (List ℕ)
unit_digits format places number =
    if has_parts format.point places number
    then option_map (λ whole. with_zeros (places - length (fraction_part format.point number)) (whole ++ fraction_part format.point number))
    (whole_digits format.thousands (whole_part format.point number))
    else None

-- the number that the digits write, below zero after a `-`, if it has 64 signed bits
abbrev pub signed_units : Bool → List ℕ → Option ℤ
signed_units negative digits =
    if negative then option_map (λ n. neg_ℤ (pos n)) (natural_up_to (2 ^ 63) digits)
    else option_map pos (natural_up_to (2 ^ 63 - 1) digits)

-- the number of units of 10^-places that the bytes write: `[-]digits[POINT digits]` with at most `places` digits after the
-- point, so that `9` is 900 units with two places. None if the bytes have another form or the units do not fit 64 signed
-- bits
abbrev pub units_in : NumberFormat → ℕ → List ℕ → Option ℤ
units_in format places bytes = option_and_then (signed_units (is_negative bytes)) (unit_digits format places (unsigned bytes))
