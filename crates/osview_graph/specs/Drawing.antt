-- A run as the code has it, by its layout.
use Rattle.std.specs.Prelude.{Bool, Option, true}
use Rattle.flow_core_laws.specs.declared.task_end.TaskEnd.{TaskEnd}
use Rattle.collector.specs.Status.{has_done}
use Rattle.osview_graph.specs.DrawnRun.{DrawnRun, is_over_budget, is_poisoned, is_starved, is_trapped}
use Rattle.osview_graph.specs.declared.drawn.Drawn.{Drawn}
use Rattle.osview_graph.specs.declared.ending.Ending.{Ending}
use Rattle.osview_graph.specs.declared.ending.Ending.TheVariants as ending
use Rattle.osview_graph.specs.Links.{Shown}
use Rattle.osview_graph.specs.declared.links.Range.{Range}
use Rattle.stream_match_layouts.specs.Lawful.{AreLawful}
use Rattle.stream_match_layouts.specs.Layout.{IsLayout, IsLayoutOf}

-- the run that is drawn
abbrev pub run_of : Drawn → DrawnRun
run_of d = record {
  text = d.text.now;
  names = d.names.now;
  lines = d.lines.now;
  streams = d.streams;
  activations = d.activations.now;
  input_len = d.layout.now.input_len;
  ends = d.ends.now;
}

-- the layout is that of the activations, which are lawful over the streams
pub record IsDrawn (drawn : Drawn) : Type 0 where
  pub layout : IsLayout drawn.layout.now
  pub laid : IsLayoutOf drawn.layout.now drawn.activations.now
  pub lawful : AreLawful drawn.streams drawn.activations.now

-- how activations end that are counted
abbrev pub is_so : Ending → Option TaskEnd → Bool
is_so ending.Any = λ _. true
is_so ending.Done = has_done
is_so ending.Trapped = is_trapped
is_so ending.OverBudget = is_over_budget
is_so ending.Poisoned = is_poisoned
is_so ending.Starved = is_starved

-- the activations that are shown
abbrev pub shown_of : Range → Shown
shown_of r = record { first = r.first; end = r.end }
