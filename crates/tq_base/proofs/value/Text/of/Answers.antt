-- The bytes of a string are UTF-8.
use Rattle.std.proofs.lemmas.Str.{IsUtf8-string_bytes}
use Rattle.tq_base.proofs.value.Text.of.Goals as goal

pub invariant_of-result : goal.invariant_of-result
invariant_of-result c = rw (c.from_vec.ensures.items, c.into_bytes.ensures.value) (IsUtf8-string_bytes c.args.content)
