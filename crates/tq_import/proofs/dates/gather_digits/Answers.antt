use Rattle.std.proofs.Common.{◌≡◌, ◌≢◌, ◌∷◌, [], List, ℕ, Option, None, Some, arith, length, refl}
use Rattle.std.specs.Option.{option_and_then}
use Rattle.tq_import.specs.Dates.{DateDigits, digits_in, more_digits, no_digits}
use Rattle.tq_import.proofs.dates.gather_digits.Goals as goal

-- bytes of another length than the format are not written in it
other_length : (format : List ℕ) (digits : DateDigits) (bytes : List ℕ) → length format ≢ length bytes → digits_in format digits bytes ≡ None
other_length [] digits [] other = absurd (other refl)
other_length [] digits (b ∷ bytes) other = refl
other_length (mark ∷ format) digits [] other = refl
other_length (mark ∷ format) digits (b ∷ bytes) other =
    by (more_digits mark b digits) (λ more. other_length format more bytes (λ same. other (omega arith)))
  where
    by : (o : Option DateDigits) → ((more : DateDigits) → digits_in format more bytes ≡ None) → option_and_then (λ more. digits_in format more bytes) o ≡ None
    by None rest = refl
    by (Some more) rest = rest more

pub returns-then-format-bytes : goal.returns-then-format-bytes
returns-then-format-bytes c =
    let none = other_length c.args.format.now no_digits c.args.bytes.now c.if-format-bytes.true in
    rw none refl
