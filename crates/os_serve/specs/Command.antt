-- The words that ask for a server, and what it may open.
use Rattle.std.specs.Prelude.{◌≡◌, ℕ, Bool, false, List, [], ◌∷◌, Option, None, Some, IfSome, IsTrue, codes, if◌then◌else◌, slice_get}
use Rattle.std.specs.Option.{ForSome}
use Rattle.std.specs.Str.{bytes_eq}
use Rattle.osrun_core_jobs.specs.Files.{JobFile, files_of}
use Rattle.osrun_core_words.specs.Command.{command}
use Rattle.os_serve_jobs.specs.Lines.{IsJobIn}
use Rattle.os_serve_jobs.specs.Words.{IsText, line_words}

-- a word, as bytes
abbrev pub Text : Type 0
Text = List ℕ

-- the first word is `serve`
abbrev pub is_serve : List Text → Bool
is_serve [] = false
is_serve (first ∷ rest) = bytes_eq first (codes "serve")

-- The name of the file of jobs: the words are exactly `serve` and that name.
abbrev pub named_jobs : List Text → Option Text
named_jobs [] = None
named_jobs (first ∷ []) = None
named_jobs (first ∷ name ∷ []) = if bytes_eq first (codes "serve") then Some name else None
named_jobs (first ∷ name ∷ next ∷ more) = None

-- whatever files the words of a line name may be opened at any time
abbrev pub MayRun : (ℕ → List ℕ → Bool) → List ℕ → Type 0
MayRun may line = ForSome (command (line_words line))
    (λ request. (number k : ℕ) (file : JobFile) → slice_get (files_of request) k ≡ Some file → IsTrue (may number file.name))

-- Each line that is a job of the file of jobs may open its files; where what that file holds isn't told, any line may be a job.
abbrev pub MayServe : (held : Option (List ℕ)) → (ℕ → List ℕ → Bool) → Type 0
MayServe held may = (line : List ℕ) → IfSome held (λ bytes. IsJobIn bytes line) → IsText line → MayRun may line
