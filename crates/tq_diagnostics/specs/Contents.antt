-- What the bytes of a file are, by the first of them. This project's own; the marks are those of gzip (RFC 1952), of zip
-- archives and of Unicode's byte order marks.
use Rattle.std.specs.Prelude.{ℕ, ◌==◌, ◌||◌, Bool, true, false, if◌then◌else◌, List, [], ◌∷◌}
use Rattle.std.specs.List.{list_all, starts_with}
use Rattle.tq_event.specs.Loading.{has_two_boms}
use Rattle.tq_diagnostics.specs.Lines.{is_line_end}
use Rattle.tq_diagnostics.specs.declared.contents.Content.{Content}
use Rattle.tq_diagnostics.specs.declared.contents.Content.TheVariants.{Empty, Gzip, Plain, TwoMarks, Utf16, Zip}

-- whether the bytes begin with the mark
abbrev pub begins_with : List ℕ → List ℕ → Bool
begins_with bytes mark = starts_with (λ a b. a == b) bytes mark

-- whether the bytes begin with a byte order mark of UTF-16
abbrev pub begins_as_utf16 : List ℕ → Bool
begins_as_utf16 bytes = begins_with bytes (254 ∷ 255 ∷ []) || begins_with bytes (255 ∷ 254 ∷ [])

-- whether the bytes are line ends alone
abbrev pub is_blank : List ℕ → Bool
is_blank bytes = list_all is_line_end bytes

-- what the bytes of a file are
unfoldable pub content_of : List ℕ → Content
content_of bytes =
    if has_two_boms bytes then TwoMarks
    else (if begins_with bytes (31 ∷ 139 ∷ []) then Gzip
    else (if begins_with bytes (80 ∷ 75 ∷ 3 ∷ 4 ∷ []) then Zip
    else (if begins_as_utf16 bytes then Utf16
    else (if is_blank bytes then Empty else Plain))))

-- whether the file may be a text of the right form, so that its header is looked at
abbrev pub is_plain : Content → Bool
is_plain Plain = true
is_plain TwoMarks = false
is_plain Gzip = false
is_plain Zip = false
is_plain Utf16 = false
is_plain Empty = false
