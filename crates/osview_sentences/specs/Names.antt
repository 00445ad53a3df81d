-- The names of streams, as places in the program's text.
use Rattle.std.specs.Prelude.{ℕ, ◌==◌, ◌-◌, ◌&&◌, Bool, nat_le, nat_lt, if◌then◌else◌, List, ◌++◌, codes, drop, find, take}
use Rattle.std.specs.Fmt.{decimal}
use Rattle.std.specs.Option.{option_map_or}
use Rattle.osview_sentences.specs.declared.stream_name.StreamName.{StreamName}

-- the bytes of a text from one place to another
abbrev pub slice : List ℕ → (start end : ℕ) → List ℕ
slice text start end = take (end - start) (drop start text)

-- whether a stream is the one with this name, or one of the array
abbrev pub covers : ℕ → StreamName → Bool
covers stream name = nat_le name.first stream && nat_lt (stream - name.first) name.count

-- what a stream is called: the name, and in an array of several streams its index too
abbrev pub called : List ℕ → ℕ → StreamName → List ℕ
called text stream name =
    if name.count == 1 then slice text name.start name.end
    else slice text name.start name.end ++ codes "[" ++ decimal (stream - name.first) ++ codes "]"

-- What a stream is called, by the first name that covers it; where there is none, by its number.
abbrev pub stream_text : List ℕ → List StreamName → ℕ → List ℕ
stream_text text names stream = option_map_or (called text stream) (find (covers stream) names) (decimal stream)
