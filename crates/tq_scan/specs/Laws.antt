-- Each key of a window is found in exactly one part of any cut.
use Rattle.std.specs.Prelude.{◌≡◌, ℕ, List, slice_get, Some}
use Rattle.tq_mvbt.specs.NodeState.{NodeState}
use Rattle.tq_scan.specs.declared.window.Part.{Part}
use Rattle.tq_scan.specs.declared.window.Window.{Window}
use Rattle.tq_scan.specs.Windows.{whole_of}
use Rattle.tq_scan.specs.Scans.{FoundIn}

-- the key is found in one of the parts, and in no other
pub record IsInOnePart (nodes : List NodeState) (w : Window) (parts : List Part) (key : ℕ) : Type 0 where
  pub place : ℕ
  pub part : Part
  pub stands : slice_get parts place ≡ Some part
  pub found : FoundIn nodes w part key
  pub only : (i : ℕ) (p : Part) → slice_get parts i ≡ Some p → FoundIn nodes w p key → i ≡ place

-- each key that is found in the whole window is found in exactly one part, and no other key is found in a part
pub record KeysAreInOnePart (nodes : List NodeState) (w : Window) (parts : List Part) : Type 0 where
  pub one : (key : ℕ) → FoundIn nodes w (whole_of w) key → IsInOnePart nodes w parts key
  pub all : (i key : ℕ) (p : Part) → slice_get parts i ≡ Some p → FoundIn nodes w p key → FoundIn nodes w (whole_of w) key
