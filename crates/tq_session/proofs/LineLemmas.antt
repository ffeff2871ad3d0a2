-- The lines of bytes, split at a line feed.
use Rattle.std.proofs.Common.{◌≡◌, ◌≢◌, ◌<◌, ℕ, if◌then◌else◌, List, [], ◌∷◌, ◌++◌, Bool, true, false, length, arith, refl, sym, ap, ◌∙◌, append_assoc, append-nil}
use Rattle.std.specs.Prelude.{All}
use Rattle.std.proofs.lemmas.Bool.{ne_eqb}
use Rattle.std.proofs.lemmas.List.Elements.{All-head, All-tail}
use Rattle.tq_session.specs.Lines.{HasNoFeed, Line, SplitsLines, ended_line, ended_lines, prepend_byte, lines_of, open_line}

-- a byte that is not a line feed is added to the first line
lines_of-other : (byte : ℕ) (bytes : List ℕ) → byte ≢ 10 → lines_of (byte ∷ bytes) ≡ prepend_byte byte (lines_of bytes)
unfolding lines_of
lines_of-other byte bytes other =
    ap (λ is. if is then ended_line [] ∷ lines_of bytes else prepend_byte byte (lines_of bytes)) (ne_eqb byte 10 other)

-- bytes up to a line feed are the first line
pub lines_of-feed : (bytes rest : List ℕ) → HasNoFeed bytes → lines_of (bytes ++ 10 ∷ rest) ≡ ended_line bytes ∷ lines_of rest
unfolding lines_of
lines_of-feed [] rest none = refl
lines_of-feed (byte ∷ bytes) rest none =
    lines_of-other byte (bytes ++ 10 ∷ rest) (All-head (λ b. b ≢ 10) byte bytes none)
    ∙ ap (prepend_byte byte) (lines_of-feed bytes rest (All-tail (λ b. b ≢ 10) byte bytes none))

-- bytes without a line feed are one line without a line feed
pub lines_of-open : (bytes : List ℕ) → HasNoFeed bytes → 0 < length bytes → lines_of bytes ≡ open_line bytes ∷ []
unfolding lines_of
lines_of-open [] none some = absurd (omega (arith, some))
lines_of-open (byte ∷ []) none some = lines_of-other byte [] (All-head (λ b. b ≢ 10) byte [] none)
lines_of-open (byte ∷ next ∷ bytes) none some =
    lines_of-other byte (next ∷ bytes) (All-head (λ b. b ≢ 10) byte (next ∷ bytes) none)
    ∙ ap (prepend_byte byte) (lines_of-open (next ∷ bytes) (All-tail (λ b. b ≢ 10) byte (next ∷ bytes) none) (omega arith))

-- no bytes have no lines
pub SplitsLines-nil : SplitsLines [] []
SplitsLines-nil = λ rest. refl

-- one more complete line after others
pub SplitsLines-line : (done bytes : List ℕ) (lines : List Line) → SplitsLines done lines → HasNoFeed bytes
    → SplitsLines (done ++ (bytes ++ 10 ∷ [])) (lines ++ ended_line bytes ∷ [])
SplitsLines-line done bytes lines parts none = λ rest.
    ap lines_of (append_assoc done (bytes ++ 10 ∷ []) rest)
    ∙ parts ((bytes ++ 10 ∷ []) ++ rest)
    ∙ ap (λ more. lines ++ lines_of more) (append_assoc bytes (10 ∷ []) rest)
    ∙ ap (λ more. lines ++ more) (lines_of-feed bytes rest none)
    ∙ sym (append_assoc lines (ended_line bytes ∷ []) (lines_of rest))

-- bytes without a line feed have no complete line
pub ended_lines-open : (part : List ℕ) → HasNoFeed part → ended_lines (lines_of part) ≡ []
unfolding lines_of ended_lines
ended_lines-open [] none = refl
ended_lines-open (byte ∷ bytes) none = ap ended_lines (lines_of-open (byte ∷ bytes) none (omega arith))

-- the complete lines of two lists
pub ended_lines-append : (before after : List Line) → ended_lines (before ++ after) ≡ ended_lines before ++ ended_lines after
unfolding ended_lines
ended_lines-append [] after = refl
ended_lines-append (line ∷ lines) after = by_case line.ended (ended_lines-append lines after)
  where
    by_case : (ended : Bool) → ended_lines (lines ++ after) ≡ ended_lines lines ++ ended_lines after
        → (if ended then line ∷ ended_lines (lines ++ after) else ended_lines (lines ++ after))
        ≡ (if ended then line ∷ ended_lines lines else ended_lines lines) ++ ended_lines after
    by_case true more = ap (λ l. line ∷ l) more
    by_case false more = more

-- if all lines are complete
pub ended_lines-all : (lines : List Line) → All (λ (line : Line). line.ended ≡ true) lines → ended_lines lines ≡ lines
unfolding ended_lines
ended_lines-all [] ended = refl
ended_lines-all (line ∷ lines) ended =
    ap (λ is. if is then line ∷ ended_lines lines else ended_lines lines) (All-head (λ (l : Line). l.ended ≡ true) line lines ended)
    ∙ ap (λ more. line ∷ more) (ended_lines-all lines (All-tail (λ (l : Line). l.ended ≡ true) line lines ended))

-- the complete lines of complete lines and a part of one more are those complete lines
pub ended_lines-parts : (done part : List ℕ) (lines : List Line) → SplitsLines done lines → All (λ (line : Line). line.ended ≡ true) lines
    → HasNoFeed part → ended_lines (lines_of (done ++ part)) ≡ lines
ended_lines-parts done part lines parts ended none =
    ap ended_lines (parts part) ∙ ended_lines-append lines (lines_of part)
    ∙ ap (λ more. ended_lines lines ++ more) (ended_lines-open part none)
    ∙ append-nil (ended_lines lines)
    ∙ ended_lines-all lines ended
