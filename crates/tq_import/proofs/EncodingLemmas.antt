-- Bytes in Latin-1 as UTF-8.
use Rattle.std.proofs.Common.{◌≡◌, ◌∙◌, ◌<◌, ◌≤◌, ◌+◌, ◌-◌, ◌/◌, ◌%◌, ℕ, suc, true, false, List, [], ◌∷◌, ◌++◌, All, Option, Some, None, ap, append_assoc, append-nil, arith, drop, encode_utf8, encode_utf8_all, length, option_map, refl, set, sym, take}
use Rattle.std.specs.Prelude.{nat_lt, slice_range}
use Rattle.std.specs.Io.KnownBytes.{Consumes, IsAtEnd}
use Rattle.std.specs.Str.{all_scalars}
use Rattle.std.proofs.lemmas.Bool.Decides.{nat_tests}
use Rattle.std.proofs.lemmas.List.{length-set, take_more_set}
use Rattle.std.proofs.lemmas.Str.{chars-encodes, encodes-append, is_utf8-from_IsUtf8, length-le-encodes}
use lib.Utf8.{encode, low_scalar}
use Rattle.tq_import.specs.declared.encoding.Decoder.{Decoder}
use Rattle.tq_import.specs.declared.encoding.Encoding.TheVariants.{Latin1, Utf8}
use Rattle.tq_import.specs.Encodings.{bytes_left, utf8_of}
use Rattle.tq_import.specs.Laws.{Latin1IsKept}

scalars_below : (bytes : List ℕ) → All (λ b. b < 256) bytes → all_scalars bytes ≡ true
scalars_below [] below = refl
scalars_below (b ∷ bytes) below =
    let first = low_scalar b (let less : b < 256 = below 0 b (omega arith) in omega arith) in
    rw first (scalars_below bytes (λ k d less. below (suc k) d (omega arith)))

pub latin1_kept : Latin1IsKept
latin1_kept bytes below =
    let scalars = scalars_below bytes below in
    (is_utf8-from_IsUtf8 (encode_utf8_all bytes) (bytes, (scalars, refl)), chars-encodes bytes scalars)

-- a character from 128 to 255 has two bytes
pub two_bytes : (c : ℕ) → 128 ≤ c → c < 256 → encode_utf8 c ≡ (192 + c / 64) ∷ (128 + c % 64) ∷ []
unfolding encode
two_bytes c low high =
    let more : nat_lt c 128 ≡ false = grind (arith, nat_tests) in
    let less : nat_lt c 2048 ≡ true = grind (arith, nat_tests) in
    rw (more, less) refl

-- two bytes that are written one after the other
pub two_more : (xs : List ℕ) (at a b : ℕ) → at + 2 ≤ length xs → take (at + 2) (set (set xs at a) (at + 1) b) ≡ take at xs ++ a ∷ b ∷ []
two_more xs at a b fits =
    let next : at + 2 ≡ at + 1 + 1 = omega arith in
    let room : at + 1 < length (set xs at a) = omega (arith, length-set xs at a) in
    ap (λ (n : ℕ). take n (set (set xs at a) (at + 1) b)) next
    ∙ take_more_set (set xs at a) (at + 1) b room
    ∙ ap (λ (l : List ℕ). l ++ b ∷ []) (take_more_set xs at a (omega (arith, fits)))
    ∙ append_assoc (take at xs) (a ∷ []) (b ∷ [])

-- the UTF-8 of one more character
pub encodes_push : (cs : List ℕ) (c : ℕ) → encode_utf8_all (cs ++ c ∷ []) ≡ encode_utf8_all cs ++ encode_utf8 c
encodes_push cs c = encodes-append cs (c ∷ []) ∙ ap (λ (l : List ℕ). encode_utf8_all cs ++ l) (append-nil (encode_utf8 c))

-- no character has no bytes
pub none_encoded : (cs : List ℕ) → [] ≡ encode_utf8_all cs → length cs ≤ 0
none_encoded cs none = let le = length-le-encodes cs in omega (arith, le, ap length none)

-- ---- decoders

pub no_bytes : (xs : List ℕ) (start end : ℕ) → end ≤ start → slice_range xs start end ≡ []
no_bytes xs start end less =
    let none : end - start ≡ 0 = omega arith in
    ap (λ (n : ℕ). take n (drop start xs)) none

pub front : (xs : List ℕ) (n : ℕ) → slice_range xs 0 n ≡ take n xs
front xs n =
    let all : n - 0 ≡ n = omega arith in
    ap (λ (k : ℕ). take k xs) all

nothing_behind : (a b : List ℕ) → [] ≡ a ++ b → b ≡ []
nothing_behind [] b e = sym e
nothing_behind (x ∷ a) b e = cc e

given : (known : Option (List ℕ)) (f : List ℕ → List ℕ) (before out after : List ℕ) → before ≡ out ++ after
    → Consumes (option_map (λ bytes. before ++ f bytes) known) (option_map (λ bytes. after ++ f bytes) known) out
given None f before out after e = tt
given (Some bytes) f before out after e = ap (λ (l : List ℕ). l ++ f bytes) e ∙ append_assoc out after (f bytes)

-- decoded bytes are given
pub given_bytes : {R : Type 0} (remaining : R → Option (List ℕ)) (old new : Decoder R) (out : List ℕ) → new.reader ≡ old.reader → new.encoding ≡ old.encoding
    → slice_range old.decoded old.start old.end ≡ out ++ slice_range new.decoded new.start new.end
    → Consumes (bytes_left remaining old) (bytes_left remaining new) out
given_bytes remaining old new out reader encoding e =
    rw (reader, encoding) (given (remaining old.reader) (utf8_of old.encoding) (slice_range old.decoded old.start old.end) out (slice_range new.decoded new.start new.end) e)

decoded_consumes : (old new : Option (List ℕ)) (bytes out after : List ℕ) → Consumes old new bytes → encode_utf8_all bytes ≡ out ++ after
    → Consumes (option_map (λ (b : List ℕ). encode_utf8_all b) old) (option_map (λ (b : List ℕ). after ++ encode_utf8_all b) new) out
decoded_consumes None new bytes out after h e = tt
decoded_consumes (Some xs) None bytes out after h e = absurd h
decoded_consumes (Some xs) (Some ys) bytes out after h e =
    ap (λ (l : List ℕ). encode_utf8_all l) h ∙ encodes-append bytes ys ∙ ap (λ (l : List ℕ). l ++ encode_utf8_all ys) e ∙ append_assoc out after (encode_utf8_all ys)

-- bytes are read, decoded and given
pub decoded_bytes : {R : Type 0} (remaining : R → Option (List ℕ)) (old new : Decoder R) (bytes out : List ℕ) → old.start ≡ old.end → old.encoding ≡ Latin1 → new.encoding ≡ Latin1
    → Consumes (remaining old.reader) (remaining new.reader) bytes
    → encode_utf8_all bytes ≡ out ++ slice_range new.decoded new.start new.end
    → Consumes (bytes_left remaining old) (bytes_left remaining new) out
decoded_bytes remaining old new bytes out same old_is new_is took e =
    let none = no_bytes old.decoded old.start old.end (omega (arith, same)) in
    rw (none, old_is, new_is) (decoded_consumes (remaining old.reader) (remaining new.reader) bytes out (slice_range new.decoded new.start new.end) took e)

ended : (known : Option (List ℕ)) → IsAtEnd known → IsAtEnd (option_map (λ (b : List ℕ). encode_utf8_all b) known)
ended None e = tt
ended (Some bytes) e = ap (λ (l : List ℕ). encode_utf8_all l) e

-- nothing was read and nothing is left
pub decoded_end : {R : Type 0} (remaining : R → Option (List ℕ)) (new : Decoder R) (out : List ℕ) → new.encoding ≡ Latin1
    → [] ≡ out ++ slice_range new.decoded new.start new.end → IsAtEnd (remaining new.reader) → IsAtEnd (bytes_left remaining new)
decoded_end remaining new out is e at_end =
    let none = nothing_behind out (slice_range new.decoded new.start new.end) e in
    rw (none, is) (ended (remaining new.reader) at_end)

as_it_is : (known : Option (List ℕ)) → option_map (λ (b : List ℕ). b) known ≡ known
as_it_is None = refl
as_it_is (Some bytes) = refl

-- a decoder of UTF-8 has what its reader has
pub plain_bytes : {R : Type 0} (remaining : R → Option (List ℕ)) (decoder : Decoder R) → decoder.end ≤ decoder.start → decoder.encoding ≡ Utf8
    → bytes_left remaining decoder ≡ remaining decoder.reader
plain_bytes remaining decoder less is =
    let none = no_bytes decoder.decoded decoder.start decoder.end less in
    rw (none, is) (as_it_is (remaining decoder.reader))
