-- What an error of a text, of an object or of a trace is told as.
use Rattle.std.specs.Prelude.{None, Some}
use Rattle.front_end.specs.Codes.{refusal_code}
use Rattle.front_end.specs.declared.text_error.TextError.{TextError}
use Rattle.front_end.specs.declared.text_error.TextError.TheVariants as errors
use Rattle.os_object.specs.declared.object_error.ObjectError.{ObjectError}
use Rattle.os_object.specs.declared.object_error.ObjectError.TheVariants as objects
use Rattle.osrun_core_jobs.specs.declared.refusal.Refusal.{Refusal}
use Rattle.osrun_core_jobs.specs.declared.refusal.Refusal.TheVariants as refusals
use Rattle.osrun_core_run.specs.Refusal.{no_parts, no_trace, not_valid}
use Rattle.trace_replay_text.specs.declared.trace_error.TraceError.{TraceError}
use Rattle.trace_replay_text.specs.declared.trace_error.TraceError.TheVariants as traces

abbrev pub text_refusal : TextError → Refusal
text_refusal (errors.Refused refusal line) = refusals.Refused (refusal_code refusal) (Some line)
text_refusal errors.Memory = refusals.Memory

abbrev pub object_refusal : ObjectError → Refusal
object_refusal objects.Format = refusals.Refused no_parts None
object_refusal objects.Invalid = refusals.Refused not_valid None
object_refusal objects.Memory = refusals.Memory

abbrev pub trace_refusal : TraceError → Refusal
trace_refusal (traces.Line line) = refusals.Refused no_trace (Some line)
trace_refusal traces.Memory = refusals.Memory
