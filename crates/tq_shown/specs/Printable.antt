-- Characters that a terminal obeys and does not show, and text without them. This project's own, based on the control
-- and bidirectional characters of Unicode and the characters of XML 1.0.
use Rattle.std.specs.Prelude.{ℕ, zero, suc, ◌-◌, ◌==◌, nat_le, nat_lt, ◌&&◌, ◌||◌, Bool, not, if◌then◌else◌, List, [], ◌∷◌, length, slice_index}
use Rattle.std.specs.Char.{is_ascii_control}

-- two bytes of UTF-8 that are a control character from U+0080 to U+009F, or U+061C
abbrev pub is_hidden_pair : ℕ → ℕ → Bool
is_hidden_pair one two = ((one == 194) && (nat_le 128 two && nat_le two 159)) || ((one == 216) && (two == 156))

-- three bytes that are U+200E, U+200F, U+202A to U+202E, U+2066 to U+2069, U+FFFE or U+FFFF
abbrev pub is_hidden_triple : ℕ → ℕ → ℕ → Bool
is_hidden_triple one two three =
    ((one == 226) && ((two == 128) && ((three == 142) || (three == 143))))
    || ((one == 226) && ((two == 128) && (nat_le 170 three && nat_le three 174)))
    || ((one == 226) && ((two == 129) && (nat_le 166 three && nat_le three 169)))
    || ((one == 239) && ((two == 191) && ((three == 190) || (three == 191))))

-- the length in bytes of the hidden character at the front, else 0
abbrev pub hidden_len : List ℕ → ℕ
hidden_len bytes =
    if nat_lt 0 (length bytes) && is_ascii_control (slice_index bytes 0) then 1 else
    if nat_lt 1 (length bytes) && is_hidden_pair (slice_index bytes 0) (slice_index bytes 1) then 2 else
    if nat_lt 2 (length bytes) && is_hidden_triple (slice_index bytes 0) (slice_index bytes 1) (slice_index bytes 2) then 3 else 0

-- how the character that begins with this byte is shown, with `hidden` bytes if it is hidden: as a question mark if it
-- is hidden and not the tab, else as the byte
abbrev pub mark_of : ℕ → ℕ → ℕ
mark_of hidden byte = if nat_lt 0 hidden && not (byte == 9) then 63 else byte

-- the text after the remaining `hidden` bytes of a hidden character, with a mark for each hidden character
abbrev pub printable_after : ℕ → List ℕ → List ℕ
printable_after hidden [] = []
printable_after zero (byte ∷ bytes) = mark_of (hidden_len (byte ∷ bytes)) byte ∷ printable_after (hidden_len (byte ∷ bytes) - 1) bytes
printable_after (suc hidden) (byte ∷ bytes) = printable_after hidden bytes

-- text with a mark for each hidden character
abbrev pub printable_text : List ℕ → List ℕ
printable_text bytes = printable_after 0 bytes
