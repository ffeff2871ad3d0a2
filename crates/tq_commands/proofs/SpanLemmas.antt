-- Spans: what a read leaves of a span, one more span, two lists of spans, and the bytes of spans that tile.
use Rattle.std.proofs.Common.{◌≡◌, ◌<◌, ◌≤◌, ◌+◌, ◌-◌, ◌++◌, ℕ, zero, suc, List, [], ◌∷◌, Option, None, Some, Result, Err, Ok, IfOk, IfSome, ap, sym, refl, subst, ◌∙◌, arith, drop, take, take_all, get_or, length, length-append, length-drop, min, option_map}
use Rattle.std.proofs.Math.ListN.{drop_of_length-le}
use Rattle.std.proofs.Math.Seq.{take-add}
use Rattle.std.proofs.lemmas.List.{append-nil, drop-drop, take-append-le, take_more}
use Rattle.std.proofs.lemmas.List.Concat.{flat_map-cons}
use Rattle.std.specs.Global.{Vec}
use Rattle.std.specs.Io.KnownBytes.{Consumes, IsAtEnd}
use Rattle.tq_event.specs.FileBytes.{bytes_in}
use Rattle.tq_commands.specs.declared.spans.Span.{Span}
use Rattle.tq_commands.specs.Spans.{AreFirst, AreSpans, IsSpan, Tile, bytes_of, span_len}

-- the bytes between two places, split at a third one
slice_split : (all : List ℕ) (s m e : ℕ) → s ≤ m → m ≤ e → take (e - s) (drop s all) ≡ take (m - s) (drop s all) ++ take (e - m) (drop m all)
slice_split all s m e p q =
    let counts : e - s ≡ (m - s) + (e - m) = omega arith in
    let place : s + (m - s) ≡ m = omega arith in
    ap (λ k. take k (drop s all)) counts
    ∙ take-add (m - s) (e - m) (drop s all)
    ∙ ap (λ l. take (m - s) (drop s all) ++ take (e - m) l) (drop-drop (m - s) s all ∙ ap (λ k. drop k all) place)

-- what remains of a span after `n` bytes
rest_left : (all : List ℕ) (s e next n left : ℕ) → left ≡ (e - s) - n → next ≡ e - left → take left (drop n (drop s all)) ≡ take left (drop next all)
rest_left all s e next n zero is next_is = refl
rest_left all s e next n (suc left) is next_is =
    let place : s + n ≡ next = omega arith in
    ap (take (suc left)) (drop-drop n s all ∙ ap (λ k. drop k all) place)

-- a read takes the first bytes of a span, and the rest remains
slice_read : (all : List ℕ) (s e next n : ℕ) → n ≤ e - s → next ≡ e - ((e - s) - n) → take (e - s) (drop s all) ≡ take n (drop s all) ++ take (e - next) (drop next all)
slice_read all s e next n within next_is =
    let counts : e - s ≡ n + ((e - s) - n) = omega arith in
    let left : (e - s) - n ≡ e - next = omega arith in
    ap (λ k. take k (drop s all)) counts
    ∙ take-add n ((e - s) - n) (drop s all)
    ∙ ap (λ l. take n (drop s all) ++ l) (rest_left all s e next n ((e - s) - n) refl next_is ∙ ap (λ k. take k (drop next all)) left)

-- nothing remains of a span that begins after the last byte, or has no places left
nothing_left : (all : List ℕ) (next left : ℕ) → (0 < left → length all ≤ next) → take left (drop next all) ≡ []
nothing_left all next zero past = refl
nothing_left all next (suc left) past =
    let within : length all ≤ next = past (omega arith) in ap (take (suc left)) (drop_of_length-le all within)

pub read_consumes : (known : Option (List ℕ)) (s e next n most : ℕ) (buffer room : List ℕ)
    → most ≡ min (e - s) (length room) → length buffer ≡ most → n ≤ length buffer → next ≡ e - ((e - s) - n)
    → IfSome known (λ all. (take n buffer ≡ take n (drop s all)) × (n ≡ 0 → 0 < length buffer → length all ≤ s))
    → Consumes (option_map (λ all. take (e - s) (drop s all)) known) (option_map (λ all. take (e - next) (drop next all)) known) (take n (buffer ++ drop most room))
    × (n ≡ 0 → 0 < length (buffer ++ drop most room) → IsAtEnd (option_map (λ all. take (e - next) (drop next all)) known))
read_consumes None s e next n most buffer room most_is len within next_is read = (tt, λ _ _. tt)
read_consumes (Some all) s e next n most buffer room most_is len within next_is read =
    let few : n ≤ e - s = omega arith in
    let front : take n (buffer ++ drop most room) ≡ take n (drop s all) = take-append-le n buffer (drop most room) within ∙ read.0 in (
      slice_read all s e next n few next_is ∙ ap (λ l. l ++ take (e - next) (drop next all)) (sym front),
      λ none some. nothing_left all next (e - next) (λ more.
          let some_room : 0 < length buffer = omega (arith, length-append buffer (drop most room), length-drop most room) in
          let past : length all ≤ s = read.1 none some_room in
          omega arith),
    )

-- a reader of a span that came to the end returned the bytes of the span
pub span_read : (known new : Option (List ℕ)) (span : Span) (bytes : List ℕ) → Consumes (option_map (λ all. bytes_of all span) known) new bytes → IsAtEnd new → length bytes ≡ span_len span → IsSpan known span bytes
span_read None new span bytes taken end len = record { len = len; same = tt }
span_read (Some all) None span bytes taken end len = absurd taken
span_read (Some all) (Some left) span bytes taken end len =
    record { len = len; same = sym (taken ∙ ap (λ l. bytes ++ l) end ∙ append-nil bytes) }

-- one more span, and its bytes
pub spans_more : (known : Option (List ℕ)) (spans : List Span) (pieces : List (Vec ℕ)) (span : Span) (piece : Vec ℕ)
    → AreSpans known spans pieces → IsSpan known span piece.items → AreSpans known (spans ++ span ∷ []) (pieces ++ piece ∷ [])
spans_more known [] [] span piece are is = (is, tt)
spans_more known [] (p ∷ pieces) span piece are is = absurd are
spans_more known (s ∷ spans) [] span piece are is = absurd are
spans_more known (s ∷ spans) (p ∷ pieces) span piece are is = (are.0, spans_more known spans pieces span piece are.1 is)

pub spans_step : (known : Option (List ℕ)) (spans : List Span) (i : ℕ) (d : Span) (pieces : List (Vec ℕ)) (piece : Vec ℕ) → i < length spans
    → AreSpans known (take i spans) pieces → IsSpan known (get_or spans i d) piece.items → AreSpans known (take (i + 1) spans) (pieces ++ piece ∷ [])
spans_step known spans i d pieces piece lt are is =
    subst (λ (l : List Span). AreSpans known l (pieces ++ piece ∷ [])) (sym (take_more spans i d lt)) (spans_more known (take i spans) pieces (get_or spans i d) piece are is)

-- the spans of two lists, and their bytes
pub spans_joined : (known : Option (List ℕ)) (front back : List Span) (pieces more : List (Vec ℕ))
    → AreSpans known front pieces → AreSpans known back more → AreSpans known (front ++ back) (pieces ++ more)
spans_joined known [] back [] more are_front are_back = are_back
spans_joined known [] back (p ∷ pieces) more are_front are_back = absurd are_front
spans_joined known (s ∷ front) back [] more are_front are_back = absurd are_front
spans_joined known (s ∷ front) back (p ∷ pieces) more are_front are_back = (are_front.0, spans_joined known front back pieces more are_front.1 are_back)

-- the pieces of two halves are the pieces of the whole
pub both_spans : {E : Type 0} (known : Option (List ℕ)) (spans front back : List Span) → spans ≡ front ++ back
    → (a b r : Result (Vec (Vec ℕ)) E) → IfOk a (λ p. AreSpans known front p.items) → IfOk b (λ p. AreSpans known back p.items)
    → IfOk r (λ p. (f : Vec (Vec ℕ)) × (l : Vec (Vec ℕ)) × (a ≡ Ok f) × (b ≡ Ok l) × (p.items ≡ f.items ++ l.items))
    → IfOk r (λ p. AreSpans known spans p.items)
both_spans known spans front back whole a b (Err e) first last joined = tt
both_spans known spans front back whole a b (Ok p) first last joined =
    let first_is : AreSpans known front joined.0.items = rw joined.2 at first in
    let last_is : AreSpans known back joined.1.items = rw joined.3 at last in
    subst (λ (l : List (Vec ℕ)). AreSpans known spans l) (sym joined.4)
    (subst (λ (s : List Span). AreSpans known s (joined.0.items ++ joined.1.items)) (sym whole) (spans_joined known front back joined.0.items joined.1.items first_is last_is))

-- one more span at the end
pub tile_more : (spans : List Span) (start m end : ℕ) → Tile spans start m → m < end → Tile (spans ++ record { start = m; end = end } ∷ []) start end
tile_more [] start m end tile less =
    let at : m ≡ start = sym tile in
    let first : start < end = omega arith in (at, first, refl)
tile_more (span ∷ spans) start m end tile less = (tile.0, tile.1, tile_more spans span.end m end tile.2 less)

-- the end of spans that tile is not before their start
pub tile_le : (spans : List Span) (start end : ℕ) → Tile spans start end → start ≤ end
tile_le [] start end tile = omega arith
tile_le (span ∷ spans) start end tile =
    let more : span.end ≤ end = tile_le spans span.end end tile.2 in
    let first : span.start ≡ start = tile.0 in
    let less : start < span.end = tile.1 in omega arith

bytes_cons : (piece : Vec ℕ) (pieces : List (Vec ℕ)) → bytes_in (piece ∷ pieces) ≡ piece.items ++ bytes_in pieces
bytes_cons piece pieces = flat_map-cons (λ (p : Vec ℕ). p.items) piece pieces

-- spans that tile have as many bytes as places
tiled_len : (known : Option (List ℕ)) (spans : List Span) (pieces : List (Vec ℕ)) (start end : ℕ) → Tile spans start end → AreSpans known spans pieces → length (bytes_in pieces) ≡ end - start
tiled_len known [] [] start end tile are = let at : start ≡ end = tile in omega arith
tiled_len known [] (piece ∷ pieces) start end tile are = absurd are
tiled_len known (span ∷ spans) [] start end tile are = absurd are
tiled_len known (span ∷ spans) (piece ∷ pieces) start end tile are =
    let more : length (bytes_in pieces) ≡ end - span.end = tiled_len known spans pieces span.end end tile.2 are.1 in
    let after : span.end ≤ end = tile_le spans span.end end tile.2 in
    let at : span.start ≡ start = tile.0 in
    let less : start < span.end = tile.1 in
    let here : length piece.items ≡ span.end - span.start = are.0.len in
    ap length (bytes_cons piece pieces) ∙ omega (arith, length-append piece.items (bytes_in pieces))

-- the bytes of spans that tile are those from the start up to the end
tiled_bytes : (all : List ℕ) (spans : List Span) (pieces : List (Vec ℕ)) (start end : ℕ) → Tile spans start end → AreSpans (Some all) spans pieces → bytes_in pieces ≡ take (end - start) (drop start all)
tiled_bytes all [] [] start end tile are =
    let none : 0 ≡ end - start = (let at : start ≡ end = tile in omega arith) in ap (λ k. take k (drop start all)) none
tiled_bytes all [] (piece ∷ pieces) start end tile are = absurd are
tiled_bytes all (span ∷ spans) [] start end tile are = absurd are
tiled_bytes all (span ∷ spans) (piece ∷ pieces) start end tile are =
    let after : span.end ≤ end = tile_le spans span.end end tile.2 in
    let at : span.start ≡ start = tile.0 in
    let less : start < span.end = tile.1 in
    let before : start ≤ span.end = omega arith in
    bytes_cons piece pieces
    ∙ ap (λ l. l ++ bytes_in pieces) (are.0.same ∙ ap (λ k. take (span.end - k) (drop k all)) at)
    ∙ ap (λ l. take (span.end - start) (drop start all) ++ l) (tiled_bytes all spans pieces span.end end tile.2 are.1)
    ∙ sym (slice_split all start span.end end before after)

-- the bytes of spans that tile a source from its first byte on are its first bytes
pub tiled_first : (known : Option (List ℕ)) (spans : List Span) (pieces : List (Vec ℕ)) (len : ℕ) → Tile spans 0 len → AreSpans known spans pieces → AreFirst known len (bytes_in pieces)
tiled_first None spans pieces len tile are =
    let count : length (bytes_in pieces) ≡ len - 0 = tiled_len None spans pieces 0 len tile are in record { len = omega arith; same = tt }
tiled_first (Some all) spans pieces len tile are =
    let count : length (bytes_in pieces) ≡ len - 0 = tiled_len (Some all) spans pieces 0 len tile are in
    let from_first : len - 0 ≡ len = omega arith in
    record { len = omega arith; same = tiled_bytes all spans pieces 0 len tile are ∙ ap (λ k. take k all) from_first }

pub first_found : (known : Option (List ℕ)) (spans : List Span) (pieces : List (Vec ℕ)) (len : ℕ) → Tile spans 0 len → AreSpans known spans pieces
    → (found : Option (List ℕ)) → IfSome found (λ read. read ≡ bytes_in pieces) → IfSome found (AreFirst known len)
first_found known spans pieces len tile are None is = tt
first_found known spans pieces len tile are (Some read) is = subst (AreFirst known len) (sym is) (tiled_first known spans pieces len tile are)

-- the first bytes of a source that has no more are all of its bytes
pub whole_found : (known : Option (List ℕ)) (len : ℕ) (found : Option (List ℕ)) → IfSome found (AreFirst known len)
    → IfSome found (λ read. IfSome known (λ all. length all ≡ len → read ≡ all))
whole_found known len None first = tt
whole_found None len (Some read) first = tt
whole_found (Some all) len (Some read) first = λ same. first.same ∙ take_all len all (omega arith)
