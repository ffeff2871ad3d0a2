-- Windows of keys and versions, and their parts, as sets of points, each a key at a version (van den Bercken and Seeger
-- 1996).
use Rattle.std.specs.Prelude.{◌≡◌, ℕ, ◌<◌, ◌≤◌, Bool, nat_le, nat_lt, ◌&&◌}
use Rattle.tq_scan.specs.declared.window.Part.{Part}
use Rattle.tq_scan.specs.declared.window.Window.{Window}

-- at least one key, all below 2^96, and at least one version, all at most 16,777,216
pub record IsWindow (low high first last : ℕ) : Type 0 where
  pub wide : low < high
  pub in_keys : high ≤ 79228162514264337593543950336
  pub long : first ≤ last
  pub in_versions : last ≤ 16777216

-- the window of these keys and versions
pub record IsOf (low high first last : ℕ) (w : Window) : Type 0 where
  pub low_is : w.low ≡ low
  pub high_is : w.high ≡ high
  pub first_is : w.first ≡ first
  pub last_is : w.last ≡ last

-- the whole window as a part
abbrev pub whole_of : Window → Part
whole_of w = record { low = w.low; high = w.high; first = w.first; last = w.last }

-- the part has keys and versions, all of them in the window
pub record IsInside (w : Window) (p : Part) : Type 0 where
  pub wide : p.low < p.high
  pub long : p.first ≤ p.last
  pub low : w.low ≤ p.low
  pub high : p.high ≤ w.high
  pub first : w.first ≤ p.first
  pub last : p.last ≤ w.last

-- whether the key at the version lies in the part
abbrev pub lies_in : Part → ℕ → ℕ → Bool
lies_in p key version = (nat_le p.low key && nat_lt key p.high) && (nat_le p.first version && nat_le version p.last)

-- the part has keys, all below 2^96, and versions up to 16,777,216
pub record IsSmall (p : Part) : Type 0 where
  pub wide : p.low < p.high
  pub in_keys : p.high ≤ 79228162514264337593543950336
  pub long : p.first ≤ p.last
  pub in_versions : p.last ≤ 16777216
