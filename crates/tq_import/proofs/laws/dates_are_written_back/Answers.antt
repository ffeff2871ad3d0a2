use Rattle.std.proofs.Common.{◌≡◌, ◌∙◌, true, Option, Some, None, ap, refl, sym}
use Rattle.std.specs.Prelude.{nat_le}
use Rattle.std.specs.Option.{option_and_then}
use Rattle.std.proofs.lemmas.Bool.{le-leb}
use Rattle.tq_base.specs.Dates.{date_of, date_text}
use Rattle.tq_base.specs.Numbers.{instant_of}
use Rattle.tq_base.specs.declared.dates.TheConstants.{LAST_DAY}
use Rattle.tq_base.specs.declared.form.Form.TheVariants.{Dates}
use Rattle.tq_import.specs.Dates.{DateDigits, digits_in, iso_text, no_digits}
use Rattle.tq_import.specs.Laws.{written}
use Rattle.tq_import.proofs.DateLemmas.{written_back}
use Rattle.tq_import.proofs.laws.dates_are_written_back.Goals as goal

pub returns : goal.returns
returns c format bytes day e = by (digits_in format no_digits bytes) refl e
  where
    by : (o : Option DateDigits) → digits_in format no_digits bytes ≡ o → option_and_then (λ digits. instant_of Dates (iso_text digits)) o ≡ Some day
        → (digits : DateDigits) × (iso_text digits ≡ date_text (date_of day)) × (written format digits ≡ bytes)
    by None is f = cc f
    by (Some out) is f =
        let w = written_back format no_digits bytes out is in
        let (short, text) = c.dates_round_trip.ensures.1 (iso_text out) day f in
        let early : nat_le day LAST_DAY ≡ true = le-leb day LAST_DAY short in
        (w.rest, ap iso_text (sym w.are) ∙ sym (rw early at text), w.is)
