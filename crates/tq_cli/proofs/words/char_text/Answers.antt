use Rattle.std.proofs.Common.{◌≡◌, ◌∙◌, ℕ, suc, ◌+◌, ◌<◌, arith, ap, sym, refl, true, length, get_or, take, take_all, List, [], ◌∷◌, ◌++◌, append-nil}
use Rattle.std.proofs.Math.Utf8.{encode, encodes, low_scalar, scalars}
use Rattle.std.proofs.lemmas.List.{take_more}
use Rattle.std.proofs.lemmas.Str.{chars-encodes, encodes-append}
use Rattle.std.specs.Str.{chars}
use Rattle.tq_cli.proofs.words.char_text.Goals as goal

-- the characters of one more byte
encodes-take_more : (bytes : List ℕ) (i : ℕ) → i < length bytes → encodes (take (i + 1) bytes) ≡ encodes (take i bytes) ++ encode (get_or bytes i 0)
encodes-take_more bytes i h =
    ap encodes (take_more bytes i 0 h) ∙ encodes-append (take i bytes) (get_or bytes i 0 ∷ [])
    ∙ ap (λ e. encodes (take i bytes) ++ e) (append-nil (encode (get_or bytes i 0)))

-- numbers below 256 are characters
scalars_below : (bytes : List ℕ) → ((k : ℕ) → get_or bytes k 0 < 256) → scalars bytes ≡ true
scalars_below [] h = refl
scalars_below (b ∷ bytes) h =
    let first : b < 55296 = omega (arith, h 0) in
    rw (low_scalar b first) (scalars_below bytes (λ k. h (suc k)))

pub loop-byte-preserved : goal.loop-byte-preserved
loop-byte-preserved c =
    c.in_ok-push.ensures.bytes
    ∙ ap (λ t. t ++ encode c.from.result) c.loop-byte.invariant
    ∙ ap (λ b. encodes (take c.loop-byte.byte-index c.args.bytes.now) ++ encode b) c.from.ensures
    ∙ sym (encodes-take_more c.args.bytes.now c.loop-byte.byte-index c.loop-byte-test.true)

pub returns : goal.returns
returns c =
    let all : encodes (take c.loop-byte.byte-index c.args.bytes.now) ≡ encodes c.args.bytes.now =
    ap encodes (take_all c.loop-byte.byte-index c.args.bytes.now c.loop-byte-test.false) in
    ap chars (c.loop-byte.invariant ∙ all) ∙ chars-encodes c.args.bytes.now (scalars_below c.args.bytes.now (λ k. omega (arith, c.type_inv.bytes k)))
