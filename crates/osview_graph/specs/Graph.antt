-- The graph of a run as Graphviz text.
use Rattle.std.specs.Prelude.{List, ℕ, ◌++◌, codes}
use Rattle.osview_graph.specs.Arrows.{arrows}
use Rattle.osview_graph.specs.Links.{Shown, shown_text}
use Rattle.osview_graph.specs.DrawnRun.{DrawnRun}
use Rattle.osview_graph.specs.Streams.{ellipses}
use Rattle.osview_graph.specs.Tasks.{task_boxes}
use Rattle.osview_graph.specs.declared.drawn.GraphChoice.{GraphChoice}
use Rattle.osview_graph.specs.declared.drawn.GraphChoice.TheVariants as view

-- The graph of tasks and streams: a box for each task, an ellipse for each stream on which activations have windows, an arrow for each item
-- that some activation has.
abbrev pub stream_graph : DrawnRun → List ℕ
stream_graph run =
    codes "digraph streams {\n  node [fontname=\"sans-serif\"];\n" ++ task_boxes run ++ ellipses run ++ arrows run ++ codes "}\n"

-- The graph of some activations: a box for each, and an arrow from each that writes what one of them reads.
abbrev pub activation_graph : DrawnRun → Shown → List ℕ
activation_graph run shown =
    codes "digraph activations {\n  node [shape=box, fontname=\"sans-serif\"];\n" ++ codes "  input [shape=ellipse];\n" ++ shown_text run shown ++ codes "}\n"

-- The graph of a run that is asked for.
unfoldable pub graph_of : DrawnRun → GraphChoice → List ℕ
graph_of run view.Streams = stream_graph run
graph_of run (view.Activations first end) = activation_graph run (record { first = first; end = end })
