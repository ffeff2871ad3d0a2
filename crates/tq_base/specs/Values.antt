-- Values as contracts see them, and their representation. This project's own.
use Rattle.std.specs.Prelude.{◌≡◌, Bool, true, false, drop}
use Rattle.tq_base.specs.declared.value.Repr.{Repr}
use Rattle.tq_base.specs.declared.value.Repr.TheVariants as kept
use Rattle.tq_base.specs.declared.value.ValueRef.{ValueRef}
use Rattle.tq_base.specs.declared.value.ValueRef.TheVariants as seen
use Rattle.tq_base.specs.Contents.{Content, Int, Text, has_exact_prefix}

-- the content of a value, in any representation
abbrev pub content_of : Repr → Content
content_of (kept.Int n) = Int n
content_of (kept.Short t) = Text t
content_of (kept.Medium tail t) = Text t.value
content_of (kept.Long t) = Text t.value
content_of (kept.Wide n) = Int n.value

-- whether the value stores its content without a box
abbrev pub is_in_place : Repr → Bool
is_in_place (kept.Int n) = true
is_in_place (kept.Short t) = true
is_in_place (kept.Medium tail t) = false
is_in_place (kept.Long t) = false
is_in_place (kept.Wide n) = false

-- a text in a box of middle size has the bytes after its first 14 next to the box
abbrev pub HasTail : Repr → Type 0
HasTail (kept.Int n) = true ≡ true
HasTail (kept.Short t) = true ≡ true
HasTail (kept.Medium tail t) = tail ≡ drop 14 t.value
HasTail (kept.Long t) = true ≡ true
HasTail (kept.Wide n) = true ≡ true

-- a value uses no box exactly when its prefix determines it
abbrev pub IsNormal : Repr → Type 0
IsNormal kept = (has_exact_prefix (content_of kept) ≡ is_in_place kept) × HasTail kept

-- the content of a borrowed value
abbrev pub value_ref : ValueRef → Content
value_ref (seen.Int n) = Int n
value_ref (seen.Text t) = Text t.now
