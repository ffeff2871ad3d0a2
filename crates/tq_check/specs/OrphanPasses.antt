-- What a row of a child misses, from the covers of its parents. This project's own.
use Rattle.std.specs.Prelude.{ℕ, min, nat_le, if◌then◌else◌, Option, Some, None}
use Rattle.std.specs.Ordering.{is_eq}
use Rattle.tq_base.specs.Keys.{value_key_cmp, SortInputState}
use Rattle.tq_base.specs.declared.sort_input.SortKey.{SortKey}
use Rattle.tq_check.specs.declared.covers.Cover.{Cover}
use Rattle.tq_check.specs.declared.missing.Missing.{Missing}

-- the cover, if it has the values of the key
abbrev pub of_values : SortInputState → SortKey → Option Cover → Option Cover
of_values s key None = None
of_values s key (Some cover) = if is_eq (value_key_cmp s cover.key key) then Some cover else None

-- up to the start of the next cover, or up to the end
abbrev pub missing_until : ℕ → ℕ → Option Cover → Missing
missing_until from end None = record { from = from; to = end }
missing_until from end (Some cover) = record { from = from; to = min end cover.key.start }

-- what is missing in a period, of which the first cover contains the start, or else begins after it; `next` is the cover
-- after that
abbrev pub missing_case : Option Cover → Option Cover → ℕ → ℕ → Option Missing
missing_case None next start end = Some (missing_until start end None)
missing_case (Some cover) next start end =
    if nat_le cover.key.start start then (if nat_le end cover.end then None else Some (missing_until cover.end end next))
    else Some (missing_until start end (Some cover))
