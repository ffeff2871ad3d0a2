-- Cuts of a window at keys and at versions (this project's own).
use Rattle.std.specs.Prelude.{◌≡◌, ℕ, ◌-◌, ◌<◌, ◌≤◌, ⊤, List, [], ◌∷◌, ◌++◌, All, count_by, cond}
use Rattle.tq_scan.specs.declared.window.Part.{Part}
use Rattle.tq_scan.specs.declared.window.Window.{Window}
use Rattle.tq_scan.specs.Windows.{IsInside, lies_in, whole_of}

-- each cut is greater than the one before it, the first one greater than the low key, and all less than the high one
abbrev pub KeysAscend : ℕ → ℕ → List ℕ → Type 0
KeysAscend low high [] = ⊤
KeysAscend low high (c ∷ cuts) = (low < c) × ((c < high) × KeysAscend c high cuts)

-- each cut is greater than the one before it, the first one greater than the first version, and none greater than the
-- last version
abbrev pub VersionsAscend : ℕ → ℕ → List ℕ → Type 0
VersionsAscend first last [] = ⊤
VersionsAscend first last (c ∷ cuts) = (first < c) × ((c ≤ last) × VersionsAscend c last cuts)

-- the window can be cut at these keys and versions
pub record AreCuts (w : Window) (keys versions : List ℕ) : Type 0 where
  pub key_cuts : KeysAscend w.low w.high keys
  pub version_cuts : VersionsAscend w.first w.last versions

-- the parts over a range of keys, in the order of their versions: a cut is the first version of a part
abbrev pub parts_by_version : ℕ → ℕ → ℕ → ℕ → List ℕ → List Part
parts_by_version low high first last [] = record { low = low; high = high; first = first; last = last } ∷ []
parts_by_version low high first last (c ∷ cuts) = record { low = low; high = high; first = first; last = c - 1 } ∷ parts_by_version low high c last cuts

-- the parts by keys, and for each range of keys by versions: a cut is the least key of the parts above it
abbrev pub parts_by_key : ℕ → ℕ → ℕ → ℕ → List ℕ → List ℕ → List Part
parts_by_key low high first last versions [] = parts_by_version low high first last versions
parts_by_key low high first last versions (c ∷ cuts) = parts_by_version low c first last versions ++ parts_by_key c high first last versions cuts

-- the parts of a window that is cut at the keys and versions
abbrev pub parts_of : Window → List ℕ → List ℕ → List Part
parts_of w keys versions = parts_by_key w.low w.high w.first w.last versions keys

-- each point of the window lies in exactly one of the parts, and all parts lie in the window
pub record AreTiles (w : Window) (parts : List Part) : Type 0 where
  pub inside : All (IsInside w) parts
  pub tiles : (key version : ℕ) → count_by (λ p. lies_in p key version) parts ≡ cond (lies_in (whole_of w) key version) 1 0
