-- Spans of a source that is read at any place. This project's own.
use Rattle.std.specs.Prelude.{◌≡◌, ◌<◌, ◌≤◌, ◌-◌, ℕ, List, [], ◌∷◌, Option, IfSome, Result, IfOk, length, take, drop}
use Rattle.std.specs.Global.{Vec}
use Rattle.tq_commands.specs.declared.spans.Span.{Span}

-- the number of bytes of a span
abbrev pub span_len : Span → ℕ
span_len span = span.end - span.start

-- the bytes of a span in the bytes of its source
abbrev pub bytes_of : List ℕ → Span → List ℕ
bytes_of all span = take (span_len span) (drop span.start all)

-- the spans tile the places from a start up to an end: each span begins where the previous one ends, and none is empty
abbrev pub Tile : List Span → ℕ → ℕ → Type 0
Tile [] start end = start ≡ end
Tile (span ∷ spans) start end = (span.start ≡ start) × (start < span.end) × Tile spans span.end end

-- a read returned the bytes of the source at the place; 0 bytes only at the end or with an empty buffer
abbrev pub ReadsFrom : {E : Type 0} → Option (List ℕ) → ℕ → Result ℕ E → List ℕ → Type 0
ReadsFrom known place result buffer =
    IfSome known (λ all. IfOk result (λ n. (take n buffer ≡ take n (drop place all)) × (n ≡ 0 → 0 < length buffer → length all ≤ place)))

-- the bytes are those of the span: their number is right, and they are the source's bytes if these are known
pub record IsSpan (known : Option (List ℕ)) (span : Span) (bytes : List ℕ) : Type 0 where
  pub len : length bytes ≡ span_len span
  pub same : IfSome known (λ all. bytes ≡ bytes_of all span)

-- the lists have the bytes of the spans, one list for each span, in order
abbrev pub AreSpans : Option (List ℕ) → List Span → List (Vec ℕ) → Type 0
AreSpans known [] [] = Unit {0}
AreSpans known [] (piece ∷ pieces) = ⊥
AreSpans known (span ∷ spans) [] = ⊥
AreSpans known (span ∷ spans) (piece ∷ pieces) = IsSpan known span piece.items × AreSpans known spans pieces

-- the bytes are the first `n` of the source
pub record AreFirst (known : Option (List ℕ)) (n : ℕ) (bytes : List ℕ) : Type 0 where
  pub len : length bytes ≡ n
  pub same : IfSome known (λ all. bytes ≡ take n all)

-- the bytes are all that a reader had left, if these are known
abbrev pub IsRemainder : Option (List ℕ) → List ℕ → Type 0
IsRemainder known bytes = IfSome known (λ all. bytes ≡ all)
