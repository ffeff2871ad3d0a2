-- The places of the names in a statement's text: its words outside quotes that are not keywords. This project's own.
use Rattle.std.specs.Prelude.{ℕ, ◌+◌, ◌-◌, ◌==◌, Bool, false, not, ◌&&◌, if◌then◌else◌, List, [], ◌∷◌, drop, take, Option, None, Some}
use Rattle.std.specs.List.{prefix_len}
use Rattle.std.specs.Str.{str_eq_ignore_ascii_case}
use Rattle.tq_base.specs.Names.{is_name_byte, is_name_start, is_reserved}
use Rattle.tq_diagnostics.specs.Pointing.{pointed}

-- the first word
abbrev pub first_word : List ℕ → List ℕ
first_word bytes = take (prefix_len is_name_byte bytes) bytes

-- whether a quote is open after the byte
abbrev pub quoted_after : Bool → ℕ → Bool
quoted_after quoted byte = if byte == 39 then not quoted else quoted

-- whether the byte belongs to a word; given whether a quote is open before it, and whether the byte before belongs to a
-- word
abbrev pub within_after : Bool → Bool → ℕ → Bool
within_after quoted within byte = not quoted && (if within then is_name_byte byte else is_name_start byte)

-- whether a name begins with the first byte
abbrev pub begins_name : Bool → Bool → List ℕ → Bool
begins_name quoted within [] = false
begins_name quoted within (byte ∷ bytes) = not quoted && not within && is_name_start byte && not (is_reserved (first_word (byte ∷ bytes)))

-- the number of names that remain to be skipped
abbrev pub left_after : Bool → ℕ → ℕ
left_after begins left = if begins then left - 1 else left

-- The byte at which the name after n others begins; the first of the bytes has the given place.
abbrev pub name_from : Bool → Bool → ℕ → ℕ → List ℕ → Option ℕ
name_from quoted within left place [] = None
name_from quoted within left place (byte ∷ bytes) = let begins = begins_name quoted within (byte ∷ bytes) in
    if begins && left == 0 then Some place
    else name_from (quoted_after quoted byte) (within_after quoted within byte) (left_after begins left) (place + 1) bytes

-- the byte at which the name with this number begins; the first one has number 0
abbrev pub name_place : List ℕ → ℕ → Option ℕ
name_place bytes number = name_from false false number 0 bytes

-- the line of this place with a caret, if the name is there, in any ASCII case
abbrev pub pointed_if : List ℕ → List ℕ → Option ℕ → List ℕ
pointed_if bytes name None = []
pointed_if bytes name (Some place) = if str_eq_ignore_ascii_case (first_word (drop place bytes)) name then pointed bytes place else []

-- the line of the name with this number, with a caret below it
abbrev pub pointed_name : List ℕ → ℕ → List ℕ → List ℕ
pointed_name bytes number name = pointed_if bytes name (name_place bytes number)
