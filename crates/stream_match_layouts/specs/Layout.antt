-- What a layout says of activations.
use Rattle.std.specs.Prelude.{◌≡◌, ℕ, ◌+◌, ◌≤◌, Bool, false, List, ◌++◌, slice_get, take, map, filter, length}
use Rattle.std.specs.Option.{option_map_or}
use Rattle.std.specs.List.{range_with_len}
use Rattle.flow_core_laws.specs.declared.claim.Claim.{Claim}
use Rattle.flow_core_laws.specs.declared.activation.Activation.{Activation}
use Rattle.flow_core_laws.specs.FirstPosition.{is_write_to, read_cursor, write_cursor}
use Rattle.flow_core_laws.specs.Window.{Window, windows, claims_of}
use Rattle.stream_match_layouts.specs.declared.span.Span.{Span}
use Rattle.stream_match_layouts.specs.declared.layout.Layout.{Layout}
use Rattle.stream_match_layouts.specs.Lawful.{AreLawful}

-- the span of a window
abbrev pub span_of : Window → Span
span_of w = record { frame = w.activation; stream = w.claim.stream; write = w.claim.write; first = w.first; count = w.claim.horizon; offset = w.offset }

-- whether the window of a number writes to a stream
abbrev pub writes_at : ℕ → List Window → ℕ → Bool
writes_at stream windows number = option_map_or (λ (w : Window). is_write_to stream w.claim) (slice_get windows number) false

-- the numbers of the windows that write to a stream, in order
abbrev pub writers_of : List Window → ℕ → List ℕ
writers_of windows stream = filter (writes_at stream windows) (range_with_len 0 (length windows))

-- the claims of windows
abbrev pub claims_in : List Window → List Claim
claims_in windows = map (λ (w : Window). w.claim) windows

-- Spans, writers and cursors are those of a list of windows: for each stream its write spans in order,
-- and how far its cursors have moved.
pub record IsOfWindows (layout : Layout) (windows : List Window) : Type 0 where
  pub spans : layout.spans ≡ map span_of windows
  pub writers : layout.writers ≡ map (writers_of windows) (range_with_len 0 (length layout.writers))
  pub reads : layout.cursors.reads ≡ map (λ stream. read_cursor stream (claims_in windows)) (range_with_len 0 (length layout.writers))
  pub writes : layout.cursors.writes ≡ map (λ stream. write_cursor stream (claims_in windows)) (range_with_len 0 (length layout.writers))

-- where the spans of each activation begin, and where those of the last one end
abbrev pub starts_of : List Activation → List ℕ
starts_of activations = map (λ a. length (claims_of (take a activations))) (range_with_len 0 (length activations + 1))

-- A layout is that of activations where its fields are those of their windows.
pub record IsLayoutOf (layout : Layout) (activations : List Activation) : Type 0 where
  pub of_windows : IsOfWindows layout (windows activations)
  pub starts : layout.starts ≡ starts_of activations

-- A layout is that of some lawful activations, over streams of which two are the input and the output. Each
-- call that takes one asks this.
pub record IsLayout (layout : Layout) : Type 0 where
  pub has_output : 2 ≤ length layout.writers
  pub activations : List Activation
  pub is_of : IsLayoutOf layout activations
  pub lawful : AreLawful (length layout.writers) activations

-- A layout takes more activations where it is that of some with which they are lawful.
pub record TakesMore (layout : Layout) (more : List Activation) : Type 0 where
  pub before : List Activation
  pub is_of : IsLayoutOf layout before
  pub lawful : AreLawful (length layout.writers) (before ++ more)
