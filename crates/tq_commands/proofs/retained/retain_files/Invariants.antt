-- What is retained of all files begins with what is retained so far.
use Rattle.std.proofs.Common.{◌++◌, List, length}
use Rattle.tq_commands.specs.Retained.{AreRetained}
use Rattle.tq_commands.specs.declared.retained.RetainedFile.{RetainedFile}
use Rattle.tq_commands.proofs.retained.retain_files.Given as goal

abbrev pub invariant-files : goal.invariant-files
invariant-files g l = (more : List RetainedFile) → AreRetained l.files l.paths more → AreRetained l.fn.files l.fn.paths (l.retained.items ++ more)

abbrev pub decreases-files : goal.decreases-files
decreases-files g l = length l.files
