use Rattle.std.proofs.Common.{◌≡◌, drop}
use Rattle.tq_diagnostics.specs.NamePlaces.{name_from, name_place}
use Rattle.tq_diagnostics.proofs.name_places.name_place.Given as goal

abbrev pub invariant-bytes : goal.invariant-bytes
invariant-bytes l = name_from l.quoted l.within l.left l.place (drop l.place l.bytes) ≡ name_place l.bytes l.fn.number
