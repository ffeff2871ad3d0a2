-- Sinks as contracts see them, and the effect of their calls on the bytes of the writer.
use Rattle.std.specs.Prelude.{ℕ, ◌+◌, ◌-◌, ◌^◌, ◌≡◌, ◌++◌, List, min, Option, refl}
use Rattle.std.specs.Global.{Vec}
use Rattle.std.specs.List.{flat_map}
use Rattle.std.specs.Coded.{Coded, code_by, coded×, coded_ℕ}
use Rattle.std.specs.Io.KnownBytes.{Appends}

-- A writer, and the number of its calls that failed. (This project's own.)
pub record SinkState (W : Type 0) : Type 0 where
  pub writer : W
  pub failed : ℕ

-- A sink is stored as the pair of its fields. (This project's own.)
abbrev pub sink_code : {W : Type 0} → Coded W → Coded (SinkState W)
sink_code {W} code =
    code_by (W × ℕ) (coded× code coded_ℕ) (λ s. (s.writer, s.failed)) (λ p. record { writer = p.0; failed = p.1 }) (λ _. refl)

-- A count plus one, at most `u64::MAX`. (This project's own.)
abbrev pub one_more : ℕ → ℕ
one_more count = min (count + 1) (2 ^ 64 - 1)

-- The known bytes grow by a prefix of these bytes, possibly none or all of them. (This project's own.)
abbrev pub AppendsPrefix : Option (List ℕ) → Option (List ℕ) → List ℕ → Type 0
AppendsPrefix old new bytes = (sent : List ℕ) × (unsent : List ℕ) × (bytes ≡ sent ++ unsent) × Appends old new sent

-- The bytes of some texts, one text after the other. (This project's own.)
abbrev pub bytes_of : List (Vec ℕ) → List ℕ
bytes_of texts = flat_map (λ (text : Vec ℕ). text.items) texts
