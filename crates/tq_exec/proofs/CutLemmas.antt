-- Cuts of a window, one by one, and how many parts they make.
use Rattle.std.proofs.Common.{ℕ, ◌<◌, ◌≤◌, List, [], ◌∷◌, ◌++◌, length, length-append, arith}
use Rattle.tq_scan.specs.declared.window.Window.{Window}
use Rattle.tq_scan.specs.Cuts.{KeysAscend, parts_by_key, parts_by_version, parts_of}

-- one more cut, above the last
pub one_above : (low high : ℕ) (cuts : List ℕ) (b c : ℕ) → KeysAscend low high (cuts ++ b ∷ []) → b < c → c < high → KeysAscend low high ((cuts ++ b ∷ []) ++ c ∷ [])
one_above low high [] b c ascend above below = (ascend.0, (ascend.1.0, (above, (below, tt))))
one_above low high (a ∷ cuts) b c ascend above below = (ascend.0, (ascend.1.0, one_above a high cuts b c ascend.1.1 above below))

some_by_version : (low high first last : ℕ) (versions : List ℕ) → 1 ≤ length (parts_by_version low high first last versions)
some_by_version low high first last [] = omega arith
some_by_version low high first last (v ∷ versions) = omega arith

some_by_key : (low high first last : ℕ) (versions keys : List ℕ) → 1 ≤ length (parts_by_key low high first last versions keys)
some_by_key low high first last versions [] = some_by_version low high first last versions
some_by_key low high first last versions (k ∷ keys) =
    let some = some_by_version low k first last versions in
    let both = length-append (parts_by_version low k first last versions) (parts_by_key k high first last versions keys) in
    omega (arith, some, both)

-- a window that is cut at some key has several parts
pub several_parts : (w : Window) (keys versions : List ℕ) → 1 ≤ length keys → 2 ≤ length (parts_of w keys versions)
several_parts w [] versions some = absurd (omega (arith, some))
several_parts w (k ∷ keys) versions some =
    let front = some_by_version w.low k w.first w.last versions in
    let rest = some_by_key k w.high w.first w.last versions keys in
    let both = length-append (parts_by_version w.low k w.first w.last versions) (parts_by_key k w.high w.first w.last versions keys) in
    omega (arith, front, rest, both)
