use Rattle.std.proofs.Common.{◌<◌, ℕ, List, [], ◌∷◌, arith, length, subst}
use Rattle.std.proofs.lemmas.List.{append-nil}
use Rattle.std.specs.Prelude.{Vec}
use Rattle.std.specs.declared.alloc.Global.{Global}
use Rattle.tq_event.specs.declared.file.TableFile.{TableFile}
use Rattle.tq_commands.specs.Retained.{AreRetained}
use Rattle.tq_commands.specs.declared.retained.RetainedFile.{RetainedFile}
use Rattle.tq_commands.proofs.retained.retain_files.Goals as goal

-- nothing is retained if no files are left
no_files : (files : List TableFile) (paths : List (Vec ℕ Global)) → length files < 1 → AreRetained files paths []
no_files [] paths none = tt
no_files (file ∷ files) paths none = absurd (omega arith)

-- nothing is retained if no paths are left
no_paths : (files : List TableFile) (paths : List (Vec ℕ Global)) → length paths < 1 → AreRetained files paths []
no_paths [] paths none = tt
no_paths (file ∷ files) [] none = tt
no_paths (file ∷ files) (path ∷ paths) none = absurd (omega arith)

pub returns-in_default-paths : goal.returns-in_default-paths
returns-in_default-paths g c =
    subst (λ (l : List RetainedFile). AreRetained c.args.files.now c.args.paths.now l) (append-nil c.files.retained.items)
    (c.files.invariant [] (no_paths c.files.files.now c.files.paths.now c.in_default-paths.len_below))

pub returns : goal.returns
returns g c =
    subst (λ (l : List RetainedFile). AreRetained c.args.files.now c.args.paths.now l) (append-nil c.files.retained.items)
    (c.files.invariant [] (no_files c.files.files.now c.files.paths.now c.in_default.len_below))
