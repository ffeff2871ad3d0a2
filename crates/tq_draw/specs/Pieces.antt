-- The pieces of the rows of a picture. This project's own.
use Rattle.std.specs.Prelude.{ℕ, ◌≡◌, ◌+◌, ◌*◌, ◌/◌, ◌<◌, nat_le, max, if◌then◌else◌, List, ◌++◌, length, take, slice_index_or}
use Rattle.std.specs.List.{flat_map, fold, range_with_len}
use Rattle.tq_base.specs.declared.fragment.Fragment.{Fragment}
use Rattle.tq_draw.specs.Labels.{columns_in}
use Rattle.tq_draw.specs.Pictures.{value_label}
use Rattle.tq_draw.specs.declared.pieces.TheConstants.{FEW_ROWS, MOST_PIECES}

-- how many pieces that many rows are
abbrev pub pieces_of : ℕ → ℕ
pieces_of len = if nat_le len FEW_ROWS then 1 else MOST_PIECES

-- the first row of a piece, which is the end of the piece before it
abbrev pub piece_start : ℕ → ℕ → ℕ
piece_start len piece = piece * len / pieces_of len

-- the texts of the first n rows, if each row has a text by its number
abbrev pub texts_of : (ℕ → List ℕ) → ℕ → List ℕ
texts_of line n = flat_map line (range_with_len 0 n)

-- a text is that of a piece: it continues the texts of the rows before the piece up to the end of the piece
abbrev pub IsPiece : (ℕ → List ℕ) → ℕ → ℕ → List ℕ → Type 0
IsPiece line len piece text = texts_of line (piece_start len piece) ++ text ≡ texts_of line (piece_start len (piece + 1))

-- the width of the widest value of a column, at least `least`
abbrev pub widest_of : ℕ → List Fragment → ℕ → ℕ
widest_of column rows least = fold (λ widest (row : Fragment). max widest (columns_in (value_label row.values column))) least rows

-- a width is that of the widest value of a column in the rows from `first` up to `end`
abbrev pub IsWidest : ℕ → List Fragment → ℕ → ℕ → ℕ → Type 0
IsWidest column rows first end width = (least : ℕ) → max (widest_of column (take first rows) least) width ≡ widest_of column (take end rows) least

-- widths are those of the widest values of each column in a piece
abbrev pub AreWidest : ℕ → List Fragment → ℕ → List ℕ → Type 0
AreWidest columns rows piece widths =
    (length widths ≡ columns)
    × ((column d : ℕ) → column < columns → IsWidest column rows (piece_start (length rows) piece) (piece_start (length rows) (piece + 1)) (slice_index_or widths column d))
