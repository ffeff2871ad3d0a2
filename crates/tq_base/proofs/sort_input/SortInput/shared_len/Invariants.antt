-- The texts of the keys so far begin with the first `len` bytes of the first text.
use Rattle.std.proofs.Common.{◌≡◌, ◌≤◌, All, length, take}
use Rattle.tq_base.specs.declared.sort_input.SortKey.{SortKey}
use Rattle.tq_base.specs.SortInputs.{state_of}
use Rattle.tq_base.specs.TieBreak.{first_text, values_from}
use Rattle.tq_base.proofs.sort_input.SortInput.shared_len.Given as goal

abbrev pub invariant-keys : goal.invariant-keys
invariant-keys l = record {
  within : l.len ≤ length l.text;
  same : All (λ (k : SortKey). take l.len (first_text (values_from (state_of l.self) l.place l.offset k)) ≡ take l.len l.text) (take l.key-index l.keys);
}
