-- What became of the elements of a stream.
use Rattle.std.specs.Prelude.{ℕ, ◌+◌, ◌-◌, ◌==◌, ◌&&◌, Bool, nat_le, nat_lt, not, if◌then◌else◌, List, [], ◌++◌, codes, count_by, length, slice_index_or, take}
use Rattle.std.specs.Fmt.{decimal}
use Rattle.std.specs.List.{flat_map, list_any, range_with_len}
use Rattle.flow_core_laws.specs.Window.{Window, no_claim, windows}
use Rattle.collector.specs.Status.{has_done}
use Rattle.osview_graph.specs.DrawnRun.{DrawnRun, end_at, has_run, total}
use Rattle.osview_sentences.specs.Names.{stream_text}

-- what stands for a window where there is none
abbrev pub no_window : Window
no_window = record { activation = 0; claim = no_claim; first = 0; offset = 0 }

-- a window by its number
abbrev pub window_at : DrawnRun → ℕ → Window
window_at run k = slice_index_or (windows run.activations) k no_window

-- the stream of a window
abbrev pub stream_at : DrawnRun → ℕ → ℕ
stream_at run k = (window_at run k).claim.stream

-- How many windows activations have on a stream.
abbrev pub window_count : DrawnRun → (stream : ℕ) → ℕ
window_count run stream = total (stream_at run) (λ k. 1) (length (windows run.activations)) stream

-- how many elements a window wrote: all that it covers, where the activation is done; poison is none
abbrev pub written_by : DrawnRun → Window → ℕ
written_by run w = if w.claim.write && has_done (end_at run w.activation) then w.claim.horizon else 0

-- How many elements of a stream are there: as many as the input has, or those that windows wrote.
abbrev pub element_count : DrawnRun → (stream : ℕ) → ℕ
element_count run stream =
    if stream == 0 then run.input_len
    else total (stream_at run) (λ k. written_by run (window_at run k)) (length (windows run.activations)) stream

-- whether a window reads for an activation that ran
abbrev pub has_read : DrawnRun → Window → Bool
has_read run w = not w.claim.write && has_run (end_at run w.activation)

-- whether such a window covers a position of a stream
abbrev pub reads_at : DrawnRun → (stream position : ℕ) → Window → Bool
reads_at run stream position w =
    has_read run w && w.claim.stream == stream && nat_le w.first position && nat_lt position (w.first + w.claim.horizon)

-- how many positions a window reads that none of those before it read
abbrev pub newly_read : DrawnRun → (before : List Window) → Window → ℕ
newly_read run before w =
    if has_read run w
    then count_by (λ position. not (list_any (reads_at run w.claim.stream position) before)) (range_with_len w.first w.claim.horizon) else 0

-- How many elements of a stream were read: each is counted once, at the first window that covers it.
abbrev pub read : DrawnRun → (stream : ℕ) → ℕ
read run stream =
    total (stream_at run) (λ k. newly_read run (take k (windows run.activations)) (window_at run k)) (length (windows run.activations)) stream

-- how many elements of a stream were written, how many of them were read, and how many nobody read; the output leaves the run
abbrev pub elements_text : (stream written read : ℕ) → List ℕ
elements_text stream written read =
    if stream == 1 then decimal written ++ codes " written"
    else decimal written ++ codes " written, " ++ decimal read ++ codes " read, " ++ decimal (written - read) ++ codes " left"

-- The ellipse of a stream, with its name.
abbrev pub ellipse : DrawnRun → (stream : ℕ) → List ℕ
ellipse run stream =
    codes "  stream" ++ decimal stream ++ codes " [shape=ellipse, label=\"" ++ stream_text run.text run.names stream ++ codes "\\n"
    ++ elements_text stream (element_count run stream) (read run stream) ++ codes "\"];\n"

-- The ellipse of a stream on which activations have windows.
abbrev pub ellipse_if_used : DrawnRun → (stream : ℕ) → List ℕ
ellipse_if_used run stream = if window_count run stream == 0 then [] else ellipse run stream

-- The ellipses of the streams that are used.
abbrev pub ellipses : DrawnRun → List ℕ
ellipses run = flat_map (ellipse_if_used run) (range_with_len 0 run.streams)
