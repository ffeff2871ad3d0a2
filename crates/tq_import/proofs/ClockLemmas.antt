-- Times of days, and the seconds that they count.
use Rattle.std.proofs.Common.{◌≡◌, ◌<◌, ◌≤◌, ◌+◌, ◌-◌, ◌*◌, ◌==◌, ℕ, Bool, true, false, List, drop, length, take, nat_lt, Option, Some, None, arith, refl, sym}
use Rattle.std.specs.Prelude.{if◌then◌else◌, option_map, slice_range}
use Rattle.std.specs.Option.{option_and_then}
use Rattle.std.proofs.lemmas.Bool.{ltb-false}
use Rattle.tq_base.specs.Numbers.{instant_of, natural_up_to}
use Rattle.tq_base.specs.declared.dates.TheConstants.{LAST_DAY}
use Rattle.tq_base.specs.declared.period.TheConstants.{FOREVER}
use Rattle.tq_base.specs.declared.form.Form.TheVariants.{Dates}
use Rattle.tq_base.proofs.DateLemmas.{natural_some}
use Rattle.tq_base.proofs.DateTextLemmas.{dates_told}
use Rattle.tq_import.specs.Clock.{clock_in, has_time_form, second_in, seconds_of, since_1970, time_in}
use Rattle.tq_import.specs.Dates.{DateDigits, day_in, digits_in, iso_text, no_digits}

-- a day in a format has a date
pub day_within : (format bytes : List ℕ) (n : ℕ) → day_in format bytes ≡ Some n → n ≤ LAST_DAY
day_within format bytes n e = by (digits_in format no_digits bytes) e
  where
    by : (o : Option DateDigits) → option_and_then (λ digits. instant_of Dates (iso_text digits)) o ≡ Some n → n ≤ LAST_DAY
    by None f = cc f
    by (Some digits) f = (dates_told.1 (iso_text digits) n f).0

pub seconds_small : (bytes : List ℕ) (s : ℕ) → seconds_of bytes ≡ Some s → s ≤ 59
seconds_small bytes s e = by (length bytes == 9) e
  where
    by : (t : Bool) → (if t then natural_up_to 59 (slice_range bytes 7 9) else Some 0) ≡ Some s → s ≤ 59
    by true f = (natural_some 59 s (slice_range bytes 7 9) (sym f)).2
    by false f = let same : 0 ≡ s = cc f in omega (arith, same)

pub clock_small : (bytes : List ℕ) (t : ℕ) → clock_in bytes ≡ Some t → t < 86400
clock_small bytes t e = by (natural_up_to 23 (slice_range bytes 1 3)) (natural_up_to 59 (slice_range bytes 4 6)) (seconds_of bytes) refl refl refl e
  where
    by : (h m s : Option ℕ) → natural_up_to 23 (slice_range bytes 1 3) ≡ h → natural_up_to 59 (slice_range bytes 4 6) ≡ m → seconds_of bytes ≡ s
        → option_and_then (λ hours. option_and_then (λ minutes. option_map (λ seconds. hours * 3600 + minutes * 60 + seconds) s) m) h ≡ Some t → t < 86400
    by None m s hi mi si f = cc f
    by (Some h) None s hi mi si f = cc f
    by (Some h) (Some m) None hi mi si f = cc f
    by (Some h) (Some m) (Some s) hi mi si f =
        let same : h * 3600 + m * 60 + s ≡ t = cc f in
        omega (arith, same, (natural_some 23 h (slice_range bytes 1 3) (sym hi)).2, (natural_some 59 m (slice_range bytes 4 6) (sym mi)).2, seconds_small bytes s si)

-- a time is one of a day
pub time_small : (bytes : List ℕ) (t : ℕ) → time_in bytes ≡ Some t → t < 86400
time_small bytes t e = by (length bytes == 0) (has_time_form bytes) e
  where
    by : (none form : Bool) → (if none then Some 0 else if form then clock_in bytes else None) ≡ Some t → t < 86400
    by true form f = let same : 0 ≡ t = cc f in omega (arith, same)
    by false true f = clock_small bytes t f
    by false false f = cc f

-- the day and the time that a second is counted from
pub record Counted (format bytes : List ℕ) (second : ℕ) : Type 0 where
  pub day : ℕ
  pub time : ℕ
  pub day_is : day_in format (take (length format) bytes) ≡ Some day
  pub time_is : time_in (drop (length format) bytes) ≡ Some time
  pub early : day ≤ LAST_DAY
  pub small : time < 86400
  pub is : second + 719162 * 86400 ≡ day * 86400 + time

counted_since : (format bytes : List ℕ) (second day time : ℕ) → day_in format (take (length format) bytes) ≡ Some day → time_in (drop (length format) bytes) ≡ Some time
    → since_1970 day time ≡ Some second → Counted format bytes second
counted_since format bytes second day time day_is time_is e = by (nat_lt day 719162) refl e
  where
    by : (t : Bool) → nat_lt day 719162 ≡ t → (if t then None else Some ((day - 719162) * 86400 + time)) ≡ Some second → Counted format bytes second
    by true i f = cc f
    by false i f =
        let same : (day - 719162) * 86400 + time ≡ second = cc f in
        record {
          day = day;
          time = time;
          day_is = day_is;
          time_is = time_is;
          early = day_within format (take (length format) bytes) day day_is;
          small = time_small (drop (length format) bytes) time time_is;
          is = omega (arith, same, ltb-false day 719162 i);
        }

pub counted : (format bytes : List ℕ) (second : ℕ) → second_in format bytes ≡ Some second → Counted format bytes second
counted format bytes second e =
    by (nat_lt (length bytes) (length format)) (day_in format (take (length format) bytes)) (time_in (drop (length format) bytes)) refl refl e
  where
    by : (short : Bool) (d t : Option ℕ) → day_in format (take (length format) bytes) ≡ d → time_in (drop (length format) bytes) ≡ t
        → (if short then None else option_and_then (λ day. option_and_then (λ time. since_1970 day time) t) d) ≡ Some second → Counted format bytes second
    by true d t di ti f = cc f
    by false None t di ti f = cc f
    by false (Some day) None di ti f = cc f
    by false (Some day) (Some time) di ti f = counted_since format bytes second day time di ti f

pub second_within : (format bytes : List ℕ) (second : ℕ) → second_in format bytes ≡ Some second → second ≤ FOREVER - 1
second_within format bytes second e =
    let c = counted format bytes second e in
    omega (arith, c.early, c.small, c.is)
