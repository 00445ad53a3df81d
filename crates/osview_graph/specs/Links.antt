-- The boxes of activations, and the arrows between those that write elements and those that read them.
use Rattle.std.specs.Prelude.{ℕ, ◌+◌, ◌-◌, ◌==◌, Bool, ◌&&◌, max, min, nat_le, nat_lt, if◌then◌else◌, List, [], ◌++◌, codes, length, slice_index_or, take}
use Rattle.std.specs.Fmt.{decimal}
use Rattle.std.specs.List.{flat_map, range_with_len}
use Rattle.std.specs.Option.{option_map_or}
use Rattle.flow_core_laws.specs.Window.{Window, claims_of, producer}
use Rattle.osview_graph.specs.DrawnRun.{DrawnRun, end_at, end_word, task_at}
use Rattle.osview_graph.specs.Streams.{window_at}
use Rattle.osview_sentences.specs.Names.{stream_text}

-- the activations that are shown: from a number on to one before another
pub record Shown : Type 0 where
  pub first : ℕ
  pub end : ℕ

abbrev pub is_shown : Shown → ℕ → Bool
is_shown shown a = nat_le shown.first a && nat_lt a shown.end

-- what a box of an activation says: its number, the line of its task's pragma, and how it ended
abbrev pub box_text : DrawnRun → (a : ℕ) → List ℕ
box_text run a =
    codes "label=\"" ++ decimal a ++ codes ": line " ++ decimal (slice_index_or run.lines (task_at run a) 0) ++ codes "\\n" ++ end_word (end_at run a)
    ++ codes "\"];\n"

-- the box of an activation that is shown
abbrev pub box : DrawnRun → (a : ℕ) → List ℕ
box run a = codes "  a" ++ decimal a ++ codes " [" ++ box_text run a

-- the dashed box of one that isn't
abbrev pub outer_box : DrawnRun → Shown → (a : ℕ) → List ℕ
outer_box run shown a = if is_shown shown a then [] else codes "  a" ++ decimal a ++ codes " [style=dashed, " ++ box_text run a

-- the label of an arrow: positions of a stream, the last one not among them
abbrev pub positions_text : DrawnRun → (stream first end : ℕ) → List ℕ
positions_text run stream first end =
    codes " [label=\"" ++ stream_text run.text run.names stream ++ codes "[" ++ decimal first ++ codes ".." ++ decimal end ++ codes "]\"];\n"

-- the arrow from the window that writes elements to the one that reads them: with the positions that both cover
abbrev pub link : DrawnRun → Shown → (reader writer : Window) → List ℕ
link run shown reader writer =
    outer_box run shown writer.activation ++ codes "  a" ++ decimal writer.activation ++ codes " -> a" ++ decimal reader.activation
    ++ positions_text run reader.claim.stream (max reader.first writer.first)
    (min (reader.first + reader.claim.horizon) (writer.first + writer.claim.horizon))

-- at a position of a window that reads: an arrow where it is the first one of those that its producer gives
abbrev pub link_at : DrawnRun → Shown → (reader : Window) → (position : ℕ) → List ℕ
link_at run shown reader position = option_map_or
    (λ (writer : Window). if position == max reader.first writer.first then link run shown reader writer else [])
    (producer run.activations reader.claim.stream position) []

-- the arrow from the input, to a window that reads some of it
abbrev pub input_link : DrawnRun → (reader : Window) → List ℕ
input_link run reader =
    if nat_lt reader.first run.input_len
    then codes "  input -> a" ++ decimal reader.activation ++ positions_text run 0 reader.first (min (reader.first + reader.claim.horizon) run.input_len)
    else []

-- The arrows to a window that reads: one from the input, or one from each window that writes what it reads, position by position.
abbrev pub links : DrawnRun → Shown → (reader : Window) → List ℕ
links run shown reader =
    if reader.claim.stream == 0 then input_link run reader
    else flat_map (link_at run shown reader) (range_with_len reader.first reader.claim.horizon)

-- the arrows to a window, if it reads
abbrev pub window_links : DrawnRun → Shown → Window → List ℕ
window_links run shown w = if w.claim.write then [] else links run shown w

-- the number of an activation's first window: as many windows have the activations before it
abbrev pub first_window : DrawnRun → (a : ℕ) → ℕ
first_window run a = length (claims_of (take a run.activations))

-- the arrows to a window by its number
abbrev pub links_of : DrawnRun → Shown → (k : ℕ) → List ℕ
links_of run shown k = window_links run shown (window_at run k)

-- An activation: its box, and the arrows to its windows.
abbrev pub activation_text : DrawnRun → Shown → (a : ℕ) → List ℕ
activation_text run shown a =
    box run a ++ flat_map (links_of run shown)
    (range_with_len (first_window run a) (first_window run (a + 1) - first_window run a))

-- The activations that are shown.
abbrev pub shown_text : DrawnRun → Shown → List ℕ
shown_text run shown = flat_map (activation_text run shown) (range_with_len shown.first (min shown.end (length run.activations) - shown.first))
