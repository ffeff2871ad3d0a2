-- Texts in XML and HTML. This project's own, after XML 1.0.
use Rattle.std.specs.Prelude.{ℕ, ◌==◌, if◌then◌else◌, List, [], ◌∷◌, codes}
use Rattle.std.specs.List.{flat_map}

-- a byte of a text
abbrev pub xml_byte : ℕ → List ℕ
xml_byte byte =
    if byte == 38 then codes "&amp;" else
    if byte == 60 then codes "&lt;" else
    if byte == 62 then codes "&gt;" else byte ∷ []

-- a text
abbrev pub xml_text : List ℕ → List ℕ
xml_text bytes = flat_map xml_byte bytes
