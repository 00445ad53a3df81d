-- Up to which position streams are read, as it is kept.
use Rattle.std.specs.Prelude.{◌≡◌, ℕ, List, unwrap_or}
use Rattle.std.specs.BTreeMap.{get}
use Rattle.std.specs.Ordering.{nat_cmp}
use Rattle.osview_sentences.specs.Amounts.{asked_length}
use Rattle.osview_sentences.specs.declared.amounts.Asked.{Asked}
use Rattle.stream_match_layouts.specs.declared.span.Span.{Span}

-- what is kept for a stream
abbrev pub kept_end : Asked → ℕ → ℕ
kept_end asked stream = unwrap_or (get nat_cmp asked.ends stream) 0

-- what is kept is how many elements of each stream the claims ask for
abbrev pub IsAsked : List Span → Asked → Type 0
IsAsked spans asked = (stream : ℕ) → kept_end asked stream ≡ asked_length spans stream
