-- The names so far are those of the references so far.
use Rattle.std.proofs.Common.{take}
use Rattle.std.specs.Prelude.{All}
use Rattle.std.specs.List.{AllZip}
use Rattle.tq_check.specs.References.{IsReferenceOf, IsWithin}
use Rattle.tq_check.proofs.references.resolve_all.Given as goal

abbrev pub invariant-numbers : goal.invariant-numbers
invariant-numbers l = record {
  all : AllZip (IsReferenceOf l.catalogue) (take l.number l.names) l.references.items;
  within : All (IsWithin l.catalogue) l.references.items;
}
