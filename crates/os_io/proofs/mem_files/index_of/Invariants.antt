use Rattle.std.proofs.Common.{◌≡◌, map, drop}
use Rattle.std.specs.Str.{bytes_eq}
use Rattle.std.specs.Map.{lookup}
use Rattle.os_io.specs.Views.{file}
use Rattle.os_io.proofs.mem_files.index_of.Given as goal

abbrev pub invariant-loop-i : goal.invariant-loop-i
invariant-loop-i l =
    lookup (bytes_eq l.name) (map file (drop l.i l.entries)) ≡ lookup (bytes_eq l.name) (map file l.entries)
