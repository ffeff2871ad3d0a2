-- The values fit if the remaining values fit the remaining columns.
use Rattle.std.proofs.Common.{◌≡◌, length, drop}
use Rattle.tq_base.specs.Catalogues.{Fit}
use Rattle.tq_base.proofs.catalogue.Schema.fits.Given as goal

abbrev pub invariant-places : goal.invariant-places
invariant-places l = record {
  as_many : length l.values ≡ length l.columns;
  left : Fit (drop l.place l.columns) (drop l.place l.values) → Fit l.columns l.values;
  all : Fit l.columns l.values → Fit (drop l.place l.columns) (drop l.place l.values);
}
