-- The newest activations, where all of them wait.
use Rattle.std.proofs.Common.{◌≡◌, ℕ, zero, suc, ◌+◌, ◌-◌, ◌<◌, ◌≤◌, ◌⊎◌, List, [], ◌++◌, Option, Some, None, Bool, true, false, inl, inr, length, get_or, replicate, refl, subst, arith}
use Rattle.std.specs.Prelude.{slice_get}
use Rattle.std.proofs.lemmas.Bool.{cases_lt}
use Rattle.std.proofs.lemmas.List.{get_or_past, length-append, length-replicate}
use Rattle.flow_core_epochs.proofs.Frames.{open_all}
use Rattle.flow_core_epochs.proofs.Members.{Has}
use Rattle.flow_core_epochs.specs.Epoch.{CannotCome, unwritten, left_out, open_in}
use Rattle.flow_core_laws.specs.Element.{Source}
use Rattle.flow_core_laws.specs.declared.activation.Activation.{Activation}
use Rattle.flow_core_laws.specs.declared.task_end.TaskEnd.{TaskEnd}
use Rattle.stream_match_layouts.proofs.Tallies.{frame_count-is}
use Rattle.stream_match_layouts.specs.Layout.{IsLayoutOf}
use Rattle.stream_match_layouts.specs.Spans.{frame_count, spans_of}
use Rattle.stream_match_layouts.specs.declared.layout.Layout.{Layout}
use Rattle.stream_match_layouts.specs.declared.span.Span.{Span}
use Rattle.epoch_run_ready.specs.Newest.{WaitFrom, marked_from}
use Rattle.epoch_run_ready.specs.Waiting.{HasWaitingSpan, WaitAround}
use Rattle.epoch_run_ready.proofs.Stuck.{reads_it}

-- marks behind none
marks_behind : (first more a : ℕ) → first ≤ a → a < first + more → get_or (replicate first false ++ replicate more true) a false ≡ true
marks_behind zero zero a le lt = absurd (omega arith)
marks_behind zero (suc more) zero le lt = refl
marks_behind zero (suc more) (suc a) le lt = marks_behind zero more a (omega arith) (omega arith)
marks_behind (suc first) more zero le lt = absurd (omega arith)
marks_behind (suc first) more (suc a) le lt = marks_behind first more a (omega arith) (omega arith)

no_marks_before : (first more a : ℕ) → a < first → get_or (replicate first false ++ replicate more true) a false ≡ false
no_marks_before zero more a lt = absurd (omega arith)
no_marks_before (suc first) more zero lt = refl
no_marks_before (suc first) more (suc a) lt = no_marks_before first more a (omega arith)

no_marks_past : (first more a : ℕ) → first + more ≤ a → get_or (replicate first false ++ replicate more true) a false ≡ false
no_marks_past first more a le = get_or_past (replicate first false ++ replicate more true) a false (omega (arith, length-append (replicate first false) (replicate more true), length-replicate first false, length-replicate more true))

-- one from the number on has a mark
pub has_mark : (first count a : ℕ) → first ≤ a → a < count → get_or (marked_from first count) a false ≡ true
has_mark first count a le lt = marks_behind first (count - first) a le (omega arith)

-- and no other one
pub is_marked : (first count a : ℕ) → first ≤ count → get_or (marked_from first count) a false ≡ true → (first ≤ a) × (a < count)
is_marked first count a few m = elim (cases_lt a first) [
  | inl lt ↦ (let z = no_marks_before first (count - first) a lt in absurd (cc))
  | inr ge ↦ elim (cases_lt a count) [
    | inl lt ↦ (ge, lt)
    | inr past ↦ (let z = no_marks_past first (count - first) a (omega arith) in absurd (cc))
  ]
]

-- what can't come where some run can't come where none runs
none_runs : (ends : List (Option TaskEnd)) (frames : List ℕ) (source : Source) → CannotCome ends frames source → CannotCome ends [] source
none_runs ends frames source unwritten = unwritten
none_runs ends frames source (left_out producer place none out) = left_out producer place none refl

-- where each of them has a span that waits, they wait
pub wait_all : (layout : Layout) (readers : List ℕ) (first : ℕ) → ((a : ℕ) (s : Span) → a < frame_count layout → Has (spans_of layout a) s → s.stream < length layout.writers)
    → WaitAround layout readers first → (activations : List Activation) (input : List ℕ) (ends : List (Option TaskEnd)) → IsLayoutOf layout activations → length input ≡ layout.input_len → length ends ≡ first
    → readers ≡ open_in ends (frame_count layout) → WaitFrom activations input ends first
wait_all layout readers first exist around activations input ends of over many are_open a le lt =
    let (p, reads, cannot) = reads_it layout activations of input over ends (open_in ends count) refl marks open_one a lt (λ s h. exist a s (omega (arith, is)) h) (around.wait a le (omega (arith, is))) in
    (p, reads, none_runs ends _ _ cannot)
  where
    count : ℕ
    count = frame_count layout

    is : frame_count layout ≡ length activations
    is = frame_count-is layout activations of

    marks : List Bool
    marks = marked_from around.from (frame_count layout)

    few : around.from ≤ frame_count layout
    few = omega (arith, is, around.few)

    open_one : (b : ℕ) → get_or (marked_from around.from (frame_count layout)) b false ≡ true → (f : ℕ) × (slice_get (open_in ends (frame_count layout)) f ≡ Some b)
    open_one b m =
        let (from, to) = is_marked around.from (frame_count layout) b few m in
        by from to (cases_lt b first)
      where
        by : around.from ≤ b → b < frame_count layout → (b < first) ⊎ (first ≤ b) → (f : ℕ) × (slice_get (open_in ends (frame_count layout)) f ≡ Some b)
        by from to (inl before) = let (f, at) = around.are_readers b from before in (f, subst (λ xs. slice_get xs f ≡ Some b) are_open at)
        by from to (inr new) = open_all ends (frame_count layout) b to (get_or_past ends b None (omega (arith, many)))

-- so it is where they wait without those before them
pub around_none : (layout : Layout) (readers : List ℕ) (first : ℕ) → ((a : ℕ) → first ≤ a → a < frame_count layout → HasWaitingSpan layout (marked_from first (frame_count layout)) (spans_of layout a))
    → WaitAround layout readers first
around_none layout readers first spans = record { from = first; few = omega arith; are_readers = λ a le lt. absurd (omega arith); wait = spans }
