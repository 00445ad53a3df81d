-- Which stream a word names.
use Rattle.std.specs.Prelude.{◌≡◌, ◌⊎◌, ℕ, ◌<◌, true, if◌then◌else◌, List, ◌∷◌, ◌++◌, Option, None, Some, All, bytes_eq, codes}
use Rattle.osview_sentences.specs.Names.{called, covers}
use Rattle.osview_sentences.specs.declared.stream_name.StreamName.{StreamName}

-- A stream, one of `streams` streams, has this name, and with it and, in an array, its index it is called `word`.
pub record IsOf (text : List ℕ) (streams : ℕ) (word : List ℕ) (name : StreamName) (stream : ℕ) : Type 0 where
  pub exists : stream < streams
  pub covered : covers stream name ≡ true
  pub is_called : called text stream name ≡ word

-- none of the streams of these names is called so
abbrev pub IsNoneOf : List ℕ → (streams : ℕ) → List ℕ → List StreamName → Type 0
IsNoneOf text streams word names = All (λ name. (stream : ℕ) → ¬ (IsOf text streams word name stream)) names

-- The stream that the names of a text call so: one of the first name, in the order of the text, of which one is called so.
pub record IsCalled (text : List ℕ) (streams : ℕ) (names : List StreamName) (word : List ℕ) (stream : ℕ) : Type 0 where
  pub before : List StreamName
  pub name : StreamName
  pub behind : List StreamName
  pub names_are : names ≡ before ++ name ∷ behind
  pub none_before : IsNoneOf text streams word before
  pub is_of : IsOf text streams word name stream

-- The streams that each program has, whether its text names them or not: `osin` is stream 0, and `osout` is stream 1.
abbrev pub standard_stream : List ℕ → Option ℕ
standard_stream word = if bytes_eq word (codes "osin") then Some 0 else (if bytes_eq word (codes "osout") then Some 1 else None)

-- The stream that a word names: the one that the names of the text call so, or, where none is called so, the one of each program.
abbrev pub IsNamed : List ℕ → (streams : ℕ) → List StreamName → List ℕ → (stream : ℕ) → Type 0
IsNamed text streams names word stream =
    IsCalled text streams names word stream ⊎ (IsNoneOf text streams word names × (standard_stream word ≡ Some stream))

-- A word names no stream: none of the text is called so, nor one of those that each program has.
pub record NamesNoStream (text : List ℕ) (streams : ℕ) (names : List StreamName) (word : List ℕ) : Type 0 where
  pub none_called : IsNoneOf text streams word names
  pub not_standard : standard_stream word ≡ None
