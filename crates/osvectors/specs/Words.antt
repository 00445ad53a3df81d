-- The words by which a case is run, and its files.
use Rattle.std.specs.Prelude.{ℕ, List, [], ◌∷◌, Some, codes, true}
use Rattle.os_io.specs.declared.files.Files.{Ghosts as FilesView}
use Rattle.os_io.specs.StoredFiles.{StoredFiles, held, no_files}

-- how the program and the input of a case are called while it is run
abbrev pub program_name : List ℕ
program_name = codes "program"

abbrev pub input_name : List ℕ
input_name = codes "input"

-- `osrun run` over these two files, with the options of the case
abbrev pub run_words : (options : List (List ℕ)) → List (List ℕ)
run_words options = codes "run" ∷ program_name ∷ input_name ∷ options

-- the two files, which hold these bytes
abbrev pub files_with : (program input : List ℕ) → StoredFiles
files_with program input = record no_files { files = (program_name, program) ∷ (input_name, input) ∷ [] }

-- files in memory as files: they tell what they hold, and each name may be opened
abbrev pub stored_files : FilesView StoredFiles
stored_files = record {
  faults = λ s. s.faults;
  given = λ s. s.given;
  holds = held;
  rest = λ s. Some s.rest;
  opens = λ s. s.opens;
  may = λ _ _ _. true;
}
