-- A trace is read as its lists or refused, and never both.
use Rattle.std.proofs.Common.{◌≡◌, ◌⊎◌, ◌<◌, ◌≤◌, ◌++◌, ◌^◌, ◌∷◌, [], inl, inr, ℕ, suc, All, List, Some, None, ap, arith, codes, length, refl}
use Rattle.std.specs.List.{flat_map}
use Rattle.std.proofs.lemmas.List.{length-append}
use Rattle.std.proofs.lemmas.List.Elements.{All-cons, All-nil, All-weaker}
use Rattle.osrun_core_jobs.specs.declared.refusal.Refusal.{Refusal}
use Rattle.osrun_core_jobs.specs.declared.refusal.Refusal.TheVariants as refusals
use Rattle.osrun_core_jobs.specs.declared.subject.Subject.TheVariants.{Trace}
use Rattle.osrun_core_run.specs.Accepting.{trace_refusal}
use Rattle.osrun_core_run.specs.Refusal.{IsRefusalAs}
use Rattle.trace_replay_text.specs.Fields.{IsTraceRefused}
use Rattle.trace_replay_text.specs.Laws.{TracesAreTold}
use Rattle.os_io.specs.Lines.{field}
use Rattle.trace_replay_text.specs.Trace.{IsTraceOf, lines_from, worker_line}
use Rattle.trace_replay_text.specs.declared.trace_error.TraceError.{TraceError}
use Rattle.trace_replay_text.specs.declared.trace_error.TraceError.TheVariants as errors

-- an error of a trace is told as what is wrong with it
pub trace_told : (bytes : List ℕ) (e : TraceError) → IsTraceRefused bytes e → (trace_refusal e ≡ refusals.Memory) ⊎ IsRefusalAs Trace bytes (trace_refusal e)
trace_told bytes (errors.Line line) h = inr (refl, h)
trace_told bytes errors.Memory h = inl refl

-- a trace has no error but want of memory
pub trace_error_is_memory : TracesAreTold → (bytes : List ℕ) (lists : List (List ℕ)) (e : TraceError) → IsTraceOf bytes lists → IsTraceRefused bytes e
    → trace_refusal e ≡ refusals.Memory
trace_error_is_memory told bytes lists (errors.Line line) is h = absurd (told.not_both bytes lists line is h)
trace_error_is_memory told bytes lists errors.Memory is h = refl

-- and it isn't refused
pub trace_not_refused : TracesAreTold → (bytes : List ℕ) (lists : List (List ℕ)) → IsTraceOf bytes lists → (cause : Refusal) → IsRefusalAs Trace bytes cause → ⊥
trace_not_refused told bytes lists is (refusals.Refused code (Some line)) h = told.not_both bytes lists line is h.1
trace_not_refused told bytes lists is (refusals.Refused code None) h = h
trace_not_refused told bytes lists is (refusals.TooLong _) h = h
trace_not_refused told bytes lists is (refusals.ReadFault _) h = h
trace_not_refused told bytes lists is refusals.Memory h = h

-- ---- a list of a trace has no more numbers than the trace has bytes

fields_length : (frames : List ℕ) → length frames ≤ length (flat_map field frames)
fields_length [] = omega arith
fields_length (f ∷ frames) = omega (arith, fields_length frames, length-append (field f) (flat_map field frames))

line_length : (worker : ℕ) (frames : List ℕ) → length frames ≤ length (worker_line worker frames)
line_length worker frames = omega (
  arith,
  fields_length frames,
  length-append (field worker) (flat_map field frames),
  length-append (codes "worker") (flat_map field (worker ∷ frames) ++ codes "\n"),
  length-append (flat_map field (worker ∷ frames)) (codes "\n"),
)

lists_length : (worker : ℕ) (lists : List (List ℕ)) → All (λ (list : List ℕ). length list ≤ length (lines_from worker lists)) lists
lists_length worker [] = All-nil (λ (list : List ℕ). length list ≤ 0)
lists_length worker (frames ∷ lists) =
    let most = length (lines_from worker (frames ∷ lists)) in
    let parts = length-append (worker_line worker frames) (lines_from (suc worker) lists) in
    All-cons (λ (list : List ℕ). length list ≤ most) frames lists (omega (arith, line_length worker frames, parts))
    (All-weaker (λ (list : List ℕ). length list ≤ length (lines_from (suc worker) lists)) (λ (list : List ℕ). length list ≤ most)
    (λ list few. omega (arith, few, parts)) lists (lists_length (suc worker) lists))

pub short_lists : (bytes : List ℕ) (lists : List (List ℕ)) → IsTraceOf bytes lists → length bytes ≤ 4194304 → All (λ (list : List ℕ). length list < 2 ^ 32) lists
short_lists bytes lists is few =
    All-weaker (λ (list : List ℕ). length list ≤ length (lines_from 0 lists)) (λ (list : List ℕ). length list < 2 ^ 32)
    (λ list long. omega (arith, long, few, ap (λ (text : List ℕ). length text) is.spelled)) lists (lists_length 0 lists)
