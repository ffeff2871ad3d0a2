-- How the text of a file is encoded: UTF-8 (RFC 3629) or ISO 8859-1.
use Rattle.std.specs.Prelude.{◌≡◌, ℕ, List, ◌++◌, MatchResult, Option, Result, encode_utf8_all, option_map, slice_range, take}
use Rattle.std.specs.Io.KnownBytes.{Consumes, IsAtEnd, Keeps}
use Rattle.tq_import.specs.declared.encoding.Decoder.{Decoder}
use Rattle.tq_import.specs.declared.encoding.Encoding.{Encoding}
use Rattle.tq_import.specs.declared.encoding.Encoding.TheVariants.{Utf8, Latin1}

-- the bytes of a file as UTF-8: those of a file in UTF-8 itself; in Latin-1, each byte is the code point of a character, and
-- becomes the UTF-8 of that character
abbrev pub utf8_of : Encoding → List ℕ → List ℕ
utf8_of Utf8 bytes = bytes
utf8_of Latin1 bytes = encode_utf8_all bytes

-- the bytes that a decoder has left: the decoded ones, then those of its reader
abbrev pub bytes_left : {R : Type 0} → (R → Option (List ℕ)) → Decoder R → Option (List ℕ)
bytes_left remaining decoder =
    option_map (λ bytes. slice_range decoder.decoded decoder.start decoder.end ++ utf8_of decoder.encoding bytes) (remaining decoder.reader)

-- at `Ok(len)`, the first `len` of the bytes are the UTF-8 of bytes in Latin-1 that were read: none only at the end
abbrev pub IsDecoded : {E : Type 0} → Option (List ℕ) → Option (List ℕ) → List ℕ → Result ℕ E → Type 0
IsDecoded old new decoded result =
    MatchResult result (λ len. (bytes : List ℕ) × Consumes old new bytes × (take len decoded ≡ encode_utf8_all bytes) × (len ≡ 0 → IsAtEnd new)) (λ _. Keeps old new)
