-- Names of tables, columns and aliases. This project's own.
use Rattle.std.specs.Prelude.{ℕ, Bool, false, ◌&&◌, ◌||◌, not, if◌then◌else◌, ◌==◌, nat_le, List, [], ◌∷◌, length, map, Option, Some, None, codes}
use Rattle.std.specs.Char.{is_ascii_alphabetic, is_ascii_alphanumeric, is_ascii_uppercase, to_ascii_lowercase}
use Rattle.std.specs.List.{list_all, list_any}
use Rattle.std.specs.Str.{str_eq_ignore_ascii_case}

-- an ASCII letter or `_`
abbrev pub is_name_start : ℕ → Bool
is_name_start b = is_ascii_alphabetic b || b == 95

-- an ASCII letter, a digit or `_`
abbrev pub is_name_byte : ℕ → Bool
is_name_byte b = is_ascii_alphanumeric b || b == 95

-- a name's first byte, followed by name bytes
abbrev pub has_name_form : List ℕ → Bool
has_name_form [] = false
has_name_form (b ∷ bs) = is_name_start b && list_all is_name_byte bs

-- the reserved words of the language
abbrev pub reserved_words : List (List ℕ)
reserved_words =
    codes "validtime" ∷ codes "period" ∷ codes "select" ∷ codes "from" ∷ codes "where" ∷ codes "group" ∷ codes "by" ∷ codes "and"
    ∷ codes "or" ∷ codes "not" ∷ codes "count" ∷ codes "sum" ∷ codes "as" ∷ codes "except" ∷ codes "all" ∷ []

-- a reserved word, in any ASCII case
unfoldable pub is_reserved : List ℕ → Bool
is_reserved bytes = list_any (λ word. str_eq_ignore_ascii_case word bytes) reserved_words

-- 1 to 64 bytes in the form of a name, and not a reserved word
abbrev pub is_name : List ℕ → Bool
is_name bytes = has_name_form bytes && nat_le (length bytes) 64 && not (is_reserved bytes)

-- each ASCII letter in lower case
abbrev pub folded : List ℕ → List ℕ
folded bytes = map to_ascii_lowercase bytes

-- the name that the bytes write, folded to lower case
abbrev pub folded_name : List ℕ → Option (List ℕ)
folded_name bytes = if is_name bytes then Some (folded bytes) else None

-- a folded name, or the name `count` or `sum` of an answer's column
abbrev pub is_shown_name : List ℕ → Bool
is_shown_name bytes =
    has_name_form bytes && nat_le (length bytes) 64 && list_all (λ b. not (is_ascii_uppercase b)) bytes
    && (not (is_reserved bytes) || str_eq_ignore_ascii_case (codes "count") bytes || str_eq_ignore_ascii_case (codes "sum") bytes)
