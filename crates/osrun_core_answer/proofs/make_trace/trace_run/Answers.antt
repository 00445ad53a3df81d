use Rattle.std.proofs.Common.{◌∙◌, ap}
use Rattle.trace_replay_text.specs.Trace.{trace}
use Rattle.osrun_core_answer.proofs.make_trace.trace_run.Goals as goal

pub returns-clause-traces : goal.returns-clause-traces
returns-clause-traces g c = record {
  lists = c.in_ok-traced.traced.lists;
  one_each = c.in_ok-traced.ensures.one_each;
  hold_the_ended = c.in_ok-traced.ensures.lists;
  text_is = c.in_ok-text.ensures ∙ ap trace c.as_slice.ensures;
}
