-- The steps of taking a line: the bytes collected, and those that one step moves. This project's own.
use Rattle.std.specs.Prelude.{◌≡◌, ℕ, ◌<◌, ◌≤◌, List, [], ◌∷◌, ◌++◌, length, Bool, true, false}
use Rattle.tq_session.specs.Lines.{HasNoFeed, max_line, without_return}
use Rattle.tq_session.specs.declared.input.Found.{Found}
use Rattle.tq_session.specs.declared.input.Found.TheVariants as found

-- the bytes of a line, and whether there are too many of them to be kept
pub record LineBufferState : Type 0 where
  pub bytes : List ℕ
  pub too_long : Bool

-- the bytes collected are these
pub record HasCollected (state : LineBufferState) (bytes : List ℕ) : Type 0 where
  pub kept : state.too_long ≡ false → state.bytes ≡ bytes
  pub fits : state.too_long ≡ false → length bytes ≤ max_line
  pub over : state.too_long ≡ true → max_line < length bytes

-- the bytes are collected after those before
abbrev pub Collects : LineBufferState → LineBufferState → List ℕ → Type 0
Collects before after more = (bytes : List ℕ) → HasCollected before bytes → HasCollected after (bytes ++ more)

-- the bytes up to the first line feed are moved into the line, and the line feed is removed
pub record TakesLine (before after : List ℕ) (old new : LineBufferState) : Type 0 where
  pub bytes : List ℕ
  pub no_feed : HasNoFeed bytes
  pub split : before ≡ bytes ++ 10 ∷ after
  pub gathers : Collects old new bytes

-- all bytes are moved into the line, and none is a line feed
pub record TakesAll (before after : List ℕ) (old new : LineBufferState) : Type 0 where
  pub no_feed : HasNoFeed before
  pub none : after ≡ []
  pub gathers : Collects old new before

-- what is found after a line of these bytes that ends with a line feed, and the bytes kept then
abbrev pub IsEnded : List ℕ → LineBufferState → Found → Type 0
IsEnded bytes after (found.Line last) = (last ≡ false) × (length bytes ≤ max_line) × (after.bytes ≡ without_return bytes)
IsEnded bytes after (found.TooLong last) = (last ≡ false) × (max_line < length bytes)
IsEnded bytes after found.End = ⊥

-- what is found after the last line of these bytes, which has no line feed, and the bytes kept then
abbrev pub IsLast : List ℕ → LineBufferState → Found → Type 0
IsLast bytes state (found.Line last) = (last ≡ true) × (0 < length bytes) × (length bytes ≤ max_line) × (state.bytes ≡ bytes)
IsLast bytes state (found.TooLong last) = (last ≡ true) × (max_line < length bytes)
IsLast bytes state found.End = bytes ≡ []
