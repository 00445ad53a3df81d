-- The spans of an activation of a run, the ends so far with one more, and streams without elements.
use Rattle.flow_core_laws.specs.declared.outcome.Outcome.{Outcome}
use Rattle.std.proofs.Common.{◌≡◌, ℕ, ℤ, ◌+◌, ◌<◌, List, [], ◌∷◌, ◌++◌, Option, None, length, get_or, take, replicate, ap, ◌∙◌, subst, arith, zero, suc}
use Rattle.std.proofs.lemmas.List.FromFn.{length-map-range_with_len}
use Rattle.os_io.proofs.Repeated.{get_or-repeated}
use Rattle.flow_core_laws.specs.declared.activation.Activation.{Activation}
use Rattle.flow_core_laws.specs.declared.elem.Elem.{Elem}
use Rattle.flow_core_laws.specs.Window.{claims_of}
use Rattle.flow_core_epochs.specs.Epoch.{ServesAll}
use Rattle.stream_match_layouts.specs.declared.layout.Layout.{Layout}
use Rattle.stream_match_layouts.specs.Layout.{IsLayoutOf}
use Rattle.stream_match_layouts.specs.Spans.{frame_count, spans_of}
use Rattle.stream_match_layouts.proofs.FrameSpans.{spans_of-windows}
use Rattle.stream_match_layouts.proofs.Tallies.{counts-few}
use Rattle.epoch_run_batches.specs.declared.ended.Ended.{Ended}
use Rattle.epoch_run_batches.specs.declared.streams.Streams.{Streams}
use Rattle.epoch_run_batches.specs.Meant.{AreEndsMeant, HoldMeant, IsEndMeant, Run}
use Rattle.epoch_run_batches.specs.Workload.{AreSpansOf, IsWorkload, takes_from}

pub frames_of : (layout : Layout) (given : List Activation) → IsLayoutOf layout given → frame_count layout ≡ length given
frames_of layout given is = let e = ap length is.starts ∙ length-map-range_with_len (λ a. length (claims_of (take a given))) 0 (length given + 1) in omega arith

-- the spans of the layout are those of the run
pub are_spans : (run : Run) (first : ℕ) (layout : Layout) (number : ℕ) (outcome : ℕ → List ℤ → Outcome) (takes : ℕ → ℕ → ℕ → Type 0) → IsWorkload run first layout outcome takes → number < frame_count layout → AreSpansOf run number (spans_of layout number)
are_spans run first layout number outcome takes program lt =
    let exists : number < length run.activations = omega (arith, lt, frames_of layout run.activations program.is_of) in
    let few = counts-few layout program.is_layout.activations program.is_layout.is_of program.is_layout.lawful.positions_are_few number in
    record {
      exists = exists;
      are_theirs = spans_of-windows layout run.activations program.is_of number exists;
      few = few;
    }

-- bodies that serve all activations serve those from a number on
pub serves_from : (first : ℕ) (activations : List Activation) (body : ℕ → List ℤ → Outcome) (takes : ℕ → ℕ → ℕ → Type 0) → ServesAll activations body takes → ServesAll activations body (takes_from first takes)
serves_from first activations body takes serves = record {
  takes_each = λ a x at later. serves.takes_each a x at;
  fills_outputs = serves.fills_outputs;
  traps_have_codes = serves.traps_have_codes;
  are_never_poisoned = serves.are_never_poisoned;
}

-- no stream has an element
pub empty_meant : (run : Run) (streams : Streams) (n : ℕ) → streams.elements ≡ replicate n [] → HoldMeant run streams
empty_meant run streams n is stream k e at =
    let none : get_or streams.elements stream [] ≡ [] = ap (λ (es : List (List (Option Elem))). get_or es stream []) is ∙ get_or-repeated n stream [] in
    let h : get_or {A = Option Elem} (get_or streams.elements stream []) k None ≡ None = ap (λ (xs : List (Option Elem)). get_or xs k None) none in
    absurd (cc)

-- one end more
pub more_ends : (run : Run) (ended : List Ended) (e : Ended) → AreEndsMeant run ended → IsEndMeant run e → AreEndsMeant run (ended ++ e ∷ [])
more_ends run [] e all one zero f at = subst (IsEndMeant run) (let s : e ≡ f = cc in s) one
more_ends run [] e all one (suc k) f at = absurd (cc)
more_ends run (x ∷ ended) e all one zero f at = all zero f at
more_ends run (x ∷ ended) e all one (suc k) f at = more_ends run ended e (λ j g. all (suc j) g) one k f at
