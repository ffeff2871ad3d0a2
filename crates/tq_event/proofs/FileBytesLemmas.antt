-- Lists of bytes, one after the other: adding a list, and a place in one of them.
use Rattle.std.proofs.Common.{◌≡◌, ◌++◌, ◌∷◌, [], ◌+◌, ◌-◌, ◌<◌, ◌≤◌, ℕ, List, take, drop, length, get_or, ap, sym, ◌∙◌, arith}
use Rattle.std.specs.Global.{Vec}
use Rattle.std.proofs.Math.Seq.{drop-append-add}
use Rattle.std.proofs.lemmas.List.{append-nil, drop-append-le, drop_more, take_more}
use Rattle.std.proofs.lemmas.List.Concat.{flat_map-append, flat_map-cons}
use Rattle.tq_event.specs.FileBytes.{bytes_in}

-- the bytes of a list and those of the lists after it
bytes_cons : (piece : Vec ℕ) (pieces : List (Vec ℕ)) → bytes_in (piece ∷ pieces) ≡ piece.items ++ bytes_in pieces
bytes_cons piece pieces = flat_map-cons (λ (p : Vec ℕ). p.items) piece pieces

bytes_one : (piece : Vec ℕ) → bytes_in (piece ∷ []) ≡ piece.items
bytes_one piece = bytes_cons piece [] ∙ append-nil piece.items

-- one more list
pub bytes_step : (pieces : List (Vec ℕ)) (i : ℕ) (piece : Vec ℕ) → i < length pieces → piece ≡ get_or pieces i piece → bytes_in (take (i + 1) pieces) ≡ bytes_in (take i pieces) ++ piece.items
bytes_step pieces i piece lt is =
    ap bytes_in (take_more pieces i piece lt ∙ ap (λ p. take i pieces ++ p ∷ []) (sym is))
    ∙ flat_map-append (λ (p : Vec ℕ). p.items) (take i pieces) (piece ∷ [])
    ∙ ap (λ l. bytes_in (take i pieces) ++ l) (bytes_one piece)

-- one list fewer
pub bytes_rest : (pieces : List (Vec ℕ)) (i : ℕ) (piece : Vec ℕ) → i < length pieces → piece ≡ get_or pieces i piece → bytes_in (drop i pieces) ≡ piece.items ++ bytes_in (drop (i + 1) pieces)
bytes_rest pieces i piece lt is =
    ap bytes_in (drop_more pieces i piece lt ∙ ap (λ p. p ∷ drop (i + 1) pieces) (sym is)) ∙ bytes_cons piece (drop (i + 1) pieces)

-- the bytes from a place in the first list on
pub rest_here : (piece : Vec ℕ) (more : List ℕ) (rest : ℕ) → rest ≤ length piece.items → drop rest (piece.items ++ more) ≡ drop rest piece.items ++ more
rest_here piece more rest within = drop-append-le rest piece.items more within

-- the bytes from a place after the first list on
pub rest_behind : (piece : Vec ℕ) (more : List ℕ) (rest : ℕ) → length piece.items ≤ rest → drop rest (piece.items ++ more) ≡ drop (rest - length piece.items) more
rest_behind piece more rest past =
    ap (λ n. drop n (piece.items ++ more)) (let n : rest ≡ length piece.items + (rest - length piece.items) = omega (arith, past) in n)
    ∙ drop-append-add piece.items more (rest - length piece.items)
