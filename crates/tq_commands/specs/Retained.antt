-- What the program retains of the files that it reads, to explain their faults. This project's own.
use Rattle.std.specs.Prelude.{◌≡◌, ℕ, true, List, [], ◌∷◌, IfSome, Vec, codes, is_some}
use Rattle.std.specs.declared.alloc.Global.{Global}
use Rattle.tq_event.specs.declared.file.TableFile.{TableFile}
use Rattle.tq_commands.specs.declared.retained.RetainedFile.{RetainedFile}

-- the name and the path of a file, and all its bytes if any; of standard input, whose path is `-`, the bytes are there
pub record IsRetained (file : TableFile) (path : List ℕ) (retained : RetainedFile) : Type 0 where
  pub named : retained.name.items ≡ file.name
  pub at : retained.path.items ≡ path
  pub whole : IfSome retained.bytes (λ kept. kept.items ≡ file.bytes)
  pub of_input : path ≡ codes "-" → is_some retained.bytes ≡ true

-- the same for each file and its path, in order
abbrev pub AreRetained : List TableFile → List (Vec ℕ Global) → List RetainedFile → Type 0
AreRetained [] paths [] = Unit {0}
AreRetained [] paths (kept ∷ more) = ⊥
AreRetained (file ∷ files) [] [] = Unit {0}
AreRetained (file ∷ files) [] (kept ∷ more) = ⊥
AreRetained (file ∷ files) (path ∷ paths) [] = ⊥
AreRetained (file ∷ files) (path ∷ paths) (kept ∷ more) = IsRetained file path.items kept × AreRetained files paths more
