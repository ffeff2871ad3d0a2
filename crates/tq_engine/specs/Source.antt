-- The model of a source, and the effect of its calls on the known bytes of its reader.
use Rattle.std.specs.Prelude.{ℕ, ◌<◌, List, length, Option, refl}
use Rattle.std.specs.Coded.{Coded, code_by, coded×, coded_ℕ}
use Rattle.std.specs.Io.KnownBytes.{Consumes}

-- A reader, the number of its reads and the number of its failed reads. (This project's own.)
pub record SourceState (R : Type 0) : Type 0 where
  pub reader : R
  pub reads : ℕ
  pub failed : ℕ

-- A source is stored as the triple of its fields. (This project's own.)
abbrev pub source_code : {R : Type 0} → Coded R → Coded (SourceState R)
source_code {R} code =
    code_by (R × (ℕ × ℕ)) (coded× code (coded× coded_ℕ coded_ℕ)) (λ s. (s.reader, (s.reads, s.failed)))
    (λ p. record { reader = p.0; reads = p.1.0; failed = p.1.1 }) (λ _. refl)

-- The most bytes that a file may have. (This project's own.)
abbrev pub most_bytes : ℕ
most_bytes = 1073741824

-- The most reads of one file. (This project's own.)
abbrev pub most_reads : ℕ
most_reads = 2147483648

-- Some known bytes are consumed. (This project's own.)
abbrev pub ConsumesSome : Option (List ℕ) → Option (List ℕ) → Type 0
ConsumesSome old new = (taken : List ℕ) × Consumes old new taken

-- More than `count` known bytes are consumed. (This project's own.)
abbrev pub ConsumesMore : Option (List ℕ) → Option (List ℕ) → ℕ → Type 0
ConsumesMore old new count = (taken : List ℕ) × Consumes old new taken × (count < length taken)
