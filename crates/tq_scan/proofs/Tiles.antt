-- The parts of a cut window tile it.
use Rattle.std.proofs.Common.{◌≡◌, ℕ, ◌+◌, ◌-◌, ◌<◌, ◌≤◌, Bool, true, false, cond, ◌&&◌, List, [], ◌∷◌, refl, arith, count_by, nat_lt, nat_le}
use Rattle.std.specs.Prelude.{All}
use Rattle.std.proofs.lemmas.Bool.Decides.{nat_tests}
use Rattle.std.proofs.lemmas.List.Elements.{All-nil, All-cons, All-append}
use Rattle.std.proofs.lemmas.List.Sums.{sum_by-cons, sum_by-append}
use Rattle.tq_scan.specs.declared.window.Part.{Part}
use Rattle.tq_scan.specs.declared.window.Window.{Window}
use Rattle.tq_scan.specs.Windows.{IsInside, lies_in}
use Rattle.tq_scan.specs.Cuts.{KeysAscend, VersionsAscend, AreCuts, parts_by_version, parts_by_key, parts_of, AreTiles}

abbrev tally : Bool → ℕ
tally b = cond b 1 0

abbrev part : ℕ → ℕ → ℕ → ℕ → Part
part low high first last = record { low = low; high = high; first = first; last = last }

-- a cut between two versions
versions_cut : (first cut last v : ℕ) → first < cut → cut ≤ last → tally (nat_le first v && nat_le v last) ≡ tally (nat_le first v && nat_le v (cut - 1)) + tally (nat_le cut v && nat_le v last)
versions_cut first cut last v a b = grind (arith, nat_tests)

-- a cut between two keys
keys_cut : (low cut high k : ℕ) → low < cut → cut < high → tally (nat_le low k && nat_lt k high) ≡ tally (nat_le low k && nat_lt k cut) + tally (nat_le cut k && nat_lt k high)
keys_cut low cut high k a b = grind (arith, nat_tests)

and_right : (b c d e : Bool) → tally c ≡ tally d + tally e → tally (b && c) ≡ tally (b && d) + tally (b && e)
and_right true c d e h = h
and_right false c d e h = refl

and_left : (b c d e : Bool) → tally c ≡ tally d + tally e → tally (c && b) ≡ tally (d && b) + tally (e && b)
and_left b true true true h = absurd (omega arith)
and_left b true true false h = omega arith
and_left b true false true h = omega arith
and_left b true false false h = absurd (omega arith)
and_left b false true e h = absurd (omega arith)
and_left b false false true h = absurd (omega arith)
and_left b false false false h = omega arith

count_one : (p : Part) (k v : ℕ) → count_by (λ q. lies_in q k v) (p ∷ []) ≡ tally (lies_in p k v)
count_one p k v = omega (arith, sum_by-cons (λ q. tally (lies_in q k v)) p [])

versions_tile : (low high first last : ℕ) (cuts : List ℕ) (k v : ℕ) → VersionsAscend first last cuts → count_by (λ p. lies_in p k v) (parts_by_version low high first last cuts) ≡ tally (lies_in (part low high first last) k v)
versions_tile low high first last [] k v h = count_one (part low high first last) k v
versions_tile low high first last (c ∷ cuts) k v (a, (b, h)) =
    let cut = and_right (nat_le low k && nat_lt k high) (nat_le first v && nat_le v last) (nat_le first v && nat_le v (c - 1)) (nat_le c v && nat_le v last) (versions_cut first c last v a b) in
    omega (arith, cut, sum_by-cons (λ q. tally (lies_in q k v)) (part low high first (c - 1)) (parts_by_version low high c last cuts), versions_tile low high c last cuts k v h)

keys_tile : (low high first last : ℕ) (versions cuts : List ℕ) (k v : ℕ) → KeysAscend low high cuts → VersionsAscend first last versions → count_by (λ p. lies_in p k v) (parts_by_key low high first last versions cuts) ≡ tally (lies_in (part low high first last) k v)
keys_tile low high first last versions [] k v g h = versions_tile low high first last versions k v h
keys_tile low high first last versions (c ∷ cuts) k v (a, (b, g)) h =
    let cut = and_left (nat_le first v && nat_le v last) (nat_le low k && nat_lt k high) (nat_le low k && nat_lt k c) (nat_le c k && nat_lt k high) (keys_cut low c high k a b) in
    omega (arith, cut, sum_by-append (λ q. tally (lies_in q k v)) (parts_by_version low c first last versions) (parts_by_key c high first last versions cuts), versions_tile low c first last versions k v h, keys_tile c high first last versions cuts k v g h)

versions_inside : (w : Window) (low high first last : ℕ) (cuts : List ℕ) → IsInside w (part low high first last) → VersionsAscend first last cuts → All (IsInside w) (parts_by_version low high first last cuts)
versions_inside w low high first last [] i h = All-cons (IsInside w) (part low high first last) [] i (All-nil (IsInside w))
versions_inside w low high first last (c ∷ cuts) i (a, (b, h)) =
    let x1 = i.wide in let x2 = i.long in let x3 = i.low in let x4 = i.high in let x5 = i.first in let x6 = i.last in
    All-cons (IsInside w) (part low high first (c - 1)) (parts_by_version low high c last cuts)
    (record { wide = x1; long = omega arith; low = x3; high = x4; first = x5; last = omega arith })
    (versions_inside w low high c last cuts (record { wide = x1; long = b; low = x3; high = x4; first = omega arith; last = x6 }) h)

keys_inside : (w : Window) (low high first last : ℕ) (versions cuts : List ℕ) → IsInside w (part low high first last) → KeysAscend low high cuts → VersionsAscend first last versions → All (IsInside w) (parts_by_key low high first last versions cuts)
keys_inside w low high first last versions [] i g h = versions_inside w low high first last versions i h
keys_inside w low high first last versions (c ∷ cuts) i (a, (b, g)) h =
    let x1 = i.wide in let x2 = i.long in let x3 = i.low in let x4 = i.high in let x5 = i.first in let x6 = i.last in
    All-append (IsInside w) (parts_by_version low c first last versions) (parts_by_key c high first last versions cuts)
    (versions_inside w low c first last versions (record { wide = a; long = x2; low = x3; high = omega arith; first = x5; last = x6 }) h)
    (keys_inside w c high first last versions cuts (record { wide = b; long = x2; low = omega arith; high = x4; first = x5; last = x6 }) g h)

-- the parts of a cut window tile it
pub parts_tile : (w : Window) (keys versions : List ℕ) → AreCuts w keys versions → AreTiles w (parts_of w keys versions)
parts_tile w keys versions cuts =
    record {
      inside = keys_inside w w.low w.high w.first w.last versions keys (let a = w.wide in let b = w.long in record { wide = a; long = b; low = omega arith; high = omega arith; first = omega arith; last = omega arith }) cuts.key_cuts cuts.version_cuts;
      tiles = λ k v. keys_tile w.low w.high w.first w.last versions keys k v cuts.key_cuts cuts.version_cuts;
    }
