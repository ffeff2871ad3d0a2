use Rattle.std.proofs.Common.{◌≡◌, map, take}
use Rattle.tq_commands.specs.HeaderLines.{header_file}
use Rattle.tq_commands.proofs.headers.header_files.Given as goal

abbrev pub invariant-files : goal.invariant-files
invariant-files l = l.headers.items ≡ map header_file (take l.file-index l.files)
