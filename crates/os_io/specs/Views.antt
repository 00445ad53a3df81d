-- What contracts see of the fields of the files and the sink in memory.
use Rattle.std.specs.Prelude.{ℕ, zero, suc, ◌<◌, ◌≤◌, List, [], ◌∷◌, map, length, drop, Option, None, Some, string_bytes}
use Rattle.os_io.specs.StoredFiles.{StoredFiles}
use Rattle.os_io.specs.declared.mem_files.Entry.{Entry}
use Rattle.os_io.specs.declared.mem_files.Place.{Place}
use Rattle.os_io.specs.declared.mem_files.MemFiles.TheInside.{Inside}

-- the name and the bytes of an entry
abbrev pub file : Entry → List ℕ × List ℕ
file entry = (string_bytes entry.name, entry.bytes.items)

-- the bytes of the entry at an index
abbrev pub bytes_at : List Entry → ℕ → List ℕ
bytes_at [] i = []
bytes_at (entry ∷ entries) zero = entry.bytes.items
bytes_at (entry ∷ entries) (suc i) = bytes_at entries i

-- the bytes from a place on
abbrev pub rest_at : List Entry → Option Place → List ℕ
rest_at entries None = []
rest_at entries (Some place) = drop place.position (bytes_at entries place.entry)

abbrev pub stored_files : Inside → StoredFiles
stored_files s = record {
  files = map file s.entries.items;
  rest = rest_at s.entries.items s.place;
  failing = s.calls.failing.items;
  calls = s.calls.made;
  opens = s.opens;
  given = s.given;
  faults = s.calls.faults;
  most = s.most;
}

-- the place is within an entry
abbrev pub IsPlaceIn : List Entry → Option Place → Type 0
IsPlaceIn entries None = Unit {0}
IsPlaceIn entries (Some place) =
    (place.entry < length entries) × (place.position ≤ length (bytes_at entries place.entry))
