-- The laws of the core with poison, as statements.
use Rattle.std.specs.Prelude.{◌≡◌, ℕ, ℤ, ◌+◌, ◌<◌, ◌≤◌, true, false, List, Some, None, IsSome, All, is_some, length, map, sum_by, slice_get, ⊤}
use Rattle.std.specs.Option.{option_map}
use Rattle.flow_core_laws.specs.declared.plan.Piece.{Piece}
use Rattle.flow_core_laws.specs.Outcome.{outcome_at, State, IsTrapCode}
use Rattle.flow_core_laws.specs.Round.{IsEnabled, gathered, inputs_in}
use Rattle.flow_core_laws.specs.Laws.{Reached}
use Rattle.flow_core_concurrent.specs.declared.view.FrameRun.{FrameRun}
use Rattle.flow_core_concurrent.specs.States.{times, CoreState, IsSeat, opening, runs_of, times_in_all, knows}
use Rattle.flow_core_concurrent.specs.Counted.{one, counted_at}
use Rattle.flow_core_concurrent.specs.Choices.{Choice, after_choice, choice_of, reached_by}
use Rattle.flow_core_laws.specs.declared.outcome.Outcome.{Outcome}
use Rattle.flow_core_laws.specs.declared.task_end.TaskEnd.{TaskEnd}
use Rattle.flow_core_laws.specs.declared.task_end.TaskEnd.TheVariants.{Done, Trapped}
use Rattle.flow_core_laws.specs.Plans.{plan_element, frame_at, held_at, cells_of, cell_source, plan_reads, plan_meaning}
use Rattle.flow_core_laws.specs.IsSound.{IsSound, HasCell}
use Rattle.flow_core_laws.specs.Serves.{Serves}
use Rattle.flow_core_laws.specs.declared.elem.Elem.{Elem}
use Rattle.flow_core_laws.specs.Poisoning.{poisoning}
use Rattle.flow_core_concurrent.specs.declared.known.Known.{Known}
use Rattle.flow_core_concurrent.specs.declared.view.View.{View}
use Rattle.flow_core_concurrent.specs.declared.word.Word.TheVariants.{Wait, Ended}
use Rattle.flow_core_concurrent.specs.Words.{word_at, opening_words, waits, is_open, is_started, end_in}
use Rattle.flow_core_concurrent.specs.Steps.{end_of, meant_at, output_of, CanSplit, after_split, CanJoin, after_join, CanClaim, after_claim, CanRead}
use Rattle.flow_core_concurrent.specs.Steps.{CanStore, after_store, CanSub, after_sub, CanFinish, after_finish, CanLook, after_look, Step}
use Rattle.flow_core_concurrent.specs.IsGood.{IsGood, IsLast}
use Rattle.flow_core_concurrent.specs.Ways.{Way, stores}

-- What is known of a run is fit: the plan is sound, a frame whose inputs are all there has an outcome, one that is Done
-- has all its outputs, and traps have codes 1 to 8.
pub record IsFit (known : Known) : Type 0 where
  pub plan_is_sound : IsSound known.plan
  pub full_has_outcome : (f : ℕ) (inputs : List Elem) → f < length known.plan.frames
      → inputs_in (plan_element known.plan) (plan_reads known.plan) known.meaning f ≡ Some inputs
      → IsSome (outcome_at known.meaning f)
  pub done_has_outputs : (f : ℕ) (o : Outcome) → f < length known.plan.frames → outcome_at known.meaning f ≡ Some o → o.end ≡ Done
      → length o.outputs ≡ (frame_at known.plan f).outputs
  pub traps_have_codes : (f : ℕ) (o : Outcome) (code line : ℕ) → f < length known.plan.frames → outcome_at known.meaning f ≡ Some o
      → o.end ≡ Trapped code line
      → IsTrapCode code

-- The meaning is that of the plan under bodies with this outcome.
abbrev pub IsMeant : Known → (ℕ → List ℤ → Outcome) → Type 0
IsMeant known outcome = known.meaning ≡ plan_meaning known.plan outcome

-- a sound plan with its meaning under bodies that serve it is fit
abbrev pub MeaningsAreFit : Type 0
MeaningsAreFit =
    (known : Known) (outcome : ℕ → List ℤ → Outcome) → IsSound known.plan → Serves known.plan outcome (λ f inputs outputs. ⊤)
    → IsMeant known outcome
    → IsFit known

-- the state at opening is good
abbrev pub OpensGood : Type 0
OpensGood = (known : Known) → IsFit known → IsGood known (opening known)

-- each kind of step keeps a state good
abbrev pub SplitKeepsGood : Type 0
SplitKeepsGood =
    (known : Known) (state : CoreState) (seat : ℕ) (view : View) → IsFit known → IsGood known state → CanSplit state seat view
    → IsGood known (after_split state seat view)

abbrev pub JoinKeepsGood : Type 0
JoinKeepsGood =
    (known : Known) (state : CoreState) (seat : ℕ) (view : View) (other : ℕ) (guest : View) → IsFit known → IsGood known state
    → CanJoin state seat view other guest → IsGood known (after_join state seat view other guest)

abbrev pub ClaimKeepsGood : Type 0
ClaimKeepsGood =
    (known : Known) (state : CoreState) (seat : ℕ) (view : View) (frame : ℕ) → IsFit known → IsGood known state → CanClaim known state seat view frame
    → IsGood known (after_claim known state seat view frame)

abbrev pub StoreKeepsGood : Type 0
StoreKeepsGood =
    (known : Known) (state : CoreState) (seat : ℕ) (view : View) (run : FrameRun) (piece : Piece) → IsFit known → IsGood known state
    → CanStore known state seat view run piece → IsGood known (after_store known state seat view run piece)

abbrev pub SubKeepsGood : Type 0
SubKeepsGood =
    (known : Known) (state : CoreState) (seat : ℕ) (view : View) (run : FrameRun) (piece : Piece) → IsFit known → IsGood known state
    → CanSub known state seat view run piece → IsGood known (after_sub state seat view run piece)

abbrev pub FinishKeepsGood : Type 0
FinishKeepsGood =
    (known : Known) (state : CoreState) (seat : ℕ) (view : View) (run : FrameRun) (end : TaskEnd) → IsFit known → IsGood known state
    → CanFinish known state seat view run end → IsGood known (after_finish state seat view run end)

abbrev pub LookKeepsGood : Type 0
LookKeepsGood =
    (known : Known) (state : CoreState) (seat : ℕ) (view : View) → IsFit known → IsGood known state → CanLook known state seat view
    → IsGood known (after_look known state seat view)

-- every step keeps a state good, and every state that steps reach is good
abbrev pub StepsKeepGood : Type 0
StepsKeepGood = (known : Known) (old new : CoreState) → IsFit known → IsGood known old → Step known old new → IsGood known new

abbrev pub ReachedIsGood : Type 0
ReachedIsGood = (known : Known) (state : CoreState) → IsFit known → Way known state → IsGood known state

-- what a READ gives is there, and is the meaning's element, a value or poison
abbrev pub ReadsTheMeaning : Type 0
ReadsTheMeaning =
    (known : Known) (state : CoreState) (seat : ℕ) (view : View) (run : FrameRun) (cell : ℕ) → IsFit known → IsGood known state
    → CanRead known state seat view run cell → (elem : Elem) × (held_at state.cells cell ≡ Some elem) × (meant_at known cell ≡ Some elem)

-- What a frame that a seat runs reads is all there, and decides its end: its outcome in the meaning is that of what it reads,
-- poisoned by the least root among these elements, or else what its body makes of their values.
abbrev pub ReadsDecideTheEnd : Type 0
ReadsDecideTheEnd =
    (known : Known) (outcome : ℕ → List ℤ → Outcome) (state : CoreState) (seat : ℕ) (view : View) (run : FrameRun) → IsFit known → IsMeant known outcome
    → IsGood known state → slice_get state.seats seat ≡ Some view → view.run ≡ Some run
    → (inputs : List Elem) × (gathered (map (held_at state.cells) (cells_of known.plan run.frame)) ≡ Some inputs)
    × (outcome_at known.meaning run.frame ≡ Some (poisoning outcome run.frame inputs))

-- a STORE finds its cell empty, and has an element for it
abbrev pub StoresIntoEmpty : Type 0
StoresIntoEmpty =
    (known : Known) (state : CoreState) (seat : ℕ) (view : View) (run : FrameRun) (piece : Piece) → IsFit known → IsGood known state
    → CanStore known state seat view run piece → (held_at state.cells (piece.at + run.stored) ≡ None)
    × ((elem : Elem) × (output_of known run.frame (piece.first + run.stored) ≡ Some elem))

-- a SUB finds a frame that waits for at least as many elements as come
abbrev pub SubFindsItsCount : Type 0
SubFindsItsCount =
    (known : Known) (state : CoreState) (seat : ℕ) (view : View) (run : FrameRun) (piece : Piece) → IsFit known → IsGood known state
    → CanSub known state seat view run piece → (n : ℕ) × (word_at state.words piece.to ≡ Wait n) × (piece.count ≤ n)

-- a frame stands in the ran lists of all seats together at most once
abbrev pub RunsAtMostOnce : Type 0
RunsAtMostOnce = (known : Known) (state : CoreState) (f : ℕ) → IsGood known state → times_in_all (λ v. v.ran) state f ≤ 1

-- the ran list of a seat has frames of the plan alone
abbrev pub RanAreFrames : Type 0
RanAreFrames =
    (known : Known) (state : CoreState) (seat : ℕ) (view : View) → IsGood known state → slice_get state.seats seat ≡ Some view
    → All (λ f. f < length known.plan.frames) view.ran

-- the ran list of a seat has at most as many entries as the plan has frames, and so have those of all seats together
abbrev pub RanAreFew : Type 0
RanAreFew =
    (known : Known) (state : CoreState) (seat : ℕ) (view : View) → IsGood known state → slice_get state.seats seat ≡ Some view
    → length view.ran ≤ length known.plan.frames

abbrev pub RanAreFewInAll : Type 0
RanAreFewInAll =
    (known : Known) (state : CoreState) → IsGood known state → sum_by (λ (v : View). length v.ran) state.seats ≤ length known.plan.frames

-- a frame that waited at opening stands in the made lists of all seats together exactly once, as soon as
-- it waits no more
abbrev pub IsMadeOnce : Type 0
IsMadeOnce =
    (known : Known) (state : CoreState) (f : ℕ) → IsGood known state → waits (word_at (opening_words known.plan) f) ≡ true
    → waits (word_at state.words f) ≡ false → times_in_all (λ v. v.made) state f ≡ 1

-- a frame that is Open stands in no ran list yet, and one that waits in no made list
abbrev pub OpenIsNew : Type 0
OpenIsNew =
    (known : Known) (state : CoreState) (seat : ℕ) (view : View) (f : ℕ) → IsGood known state → slice_get state.seats seat ≡ Some view
    → is_open (word_at state.words f) ≡ true → times f view.ran ≡ 0

abbrev pub WaitingIsNew : Type 0
WaitingIsNew =
    (known : Known) (state : CoreState) (seat : ℕ) (view : View) (f : ℕ) → IsGood known state → slice_get state.seats seat ≡ Some view
    → waits (word_at state.words f) ≡ true → times f view.made ≡ 0

-- where a CLAIM succeeds each cell of the frame was filled at opening or its piece counts, once
abbrev pub ClaimFindsItsCells : Type 0
ClaimFindsItsCells =
    (known : Known) (state : CoreState) (f c : ℕ) → IsFit known → IsGood known state → is_open (word_at state.words f) ≡ true
    → f < length known.plan.frames
    → HasCell known.plan f c → one (is_some (held_at known.plan.filled c)) + counted_at known.plan state.words (runs_of state) c ≡ 1

-- on every way from opening a cell that is filled was filled at opening or stored into exactly once
abbrev pub IsStoredOnce : Type 0
IsStoredOnce =
    (known : Known) (state : CoreState) (way : Way known state) (c : ℕ) → IsFit known
    → one (is_some (held_at state.cells c)) ≡ one (is_some (held_at known.plan.filled c)) + stores known state c way

-- a frame that was claimed stays so: it is never Open again
abbrev pub StartedStays : Type 0
StartedStays =
    (known : Known) (old new : CoreState) (f : ℕ) → Step known old new → is_started (word_at old.words f) ≡ true
    → is_started (word_at new.words f) ≡ true

-- a frame that doesn't wait never waits again, and one that a seat knows doesn't wait
abbrev pub WaitsNoMore : Type 0
WaitsNoMore =
    (known : Known) (old new : CoreState) (f : ℕ) → Step known old new → waits (word_at old.words f) ≡ false → waits (word_at new.words f) ≡ false

abbrev pub KnownWaitsNoMore : Type 0
KnownWaitsNoMore =
    (known : Known) (state : CoreState) (seat : ℕ) (view : View) (f : ℕ) → IsFit known → IsGood known state → IsSeat state seat view
    → knows view f ≡ true
    → waits (word_at state.words f) ≡ false

-- The frames that were claimed ran in an order in which each was enabled: a state that is reached by giving
-- enabled frames their outcomes, one at a time, has outcomes for exactly these frames. The ends of frames
-- and the cells are those of this state. It agrees with the meaning, and where nothing more is enabled in
-- it, it is the meaning.
pub record IsInOrder (known : Known) (state : CoreState) (outcome : ℕ → List ℤ → Outcome) : Type 0 where
  pub outcomes : State
  pub ran_in_order : Reached (plan_element known.plan) (plan_reads known.plan) (poisoning outcome) (length known.plan.frames) outcomes
  pub of_the_claimed : (f : ℕ) → f < length known.plan.frames → is_some (outcome_at outcomes f) ≡ is_started (word_at state.words f)
  pub has_the_ends : (f : ℕ) (end : TaskEnd) → f < length known.plan.frames → word_at state.words f ≡ Ended end
      → option_map (λ (o : Outcome). o.end) (outcome_at outcomes f) ≡ Some end
  pub has_the_elements : (c : ℕ) (elem : Elem) → held_at state.cells c ≡ Some elem
      → plan_element known.plan outcomes (cell_source known.plan c) ≡ Some elem
  pub agrees : (f : ℕ) (o : Outcome) → outcome_at outcomes f ≡ Some o → outcome_at (plan_meaning known.plan outcome) f ≡ Some o
  pub ends_there : ((f : ℕ) → f < length known.plan.frames → ¬ (IsEnabled (plan_element known.plan) (plan_reads known.plan) outcomes f))
      → outcomes ≡ plan_meaning known.plan outcome

abbrev pub RunsAreConfluent : Type 0
RunsAreConfluent =
    (known : Known) (outcome : ℕ → List ℤ → Outcome) (state : CoreState) → IsFit known → IsMeant known outcome → Way known state
    → IsInOrder known state outcome

-- Nothing is left out: each frame has the end of the meaning, or none, and each cell the meaning's element,
-- or none.
pub record IsComplete (known : Known) (state : CoreState) : Type 0 where
  pub ends : (f : ℕ) → f < length known.plan.frames → end_in (word_at state.words f) ≡ end_of known f
  pub cells : (c : ℕ) → held_at state.cells c ≡ meant_at known c

abbrev pub LeavesNothing : Type 0
LeavesNothing =
    (known : Known) (outcome : ℕ → List ℤ → Outcome) (state : CoreState) (seat : ℕ) (view : View) → IsFit known → IsMeant known outcome
    → IsGood known state
    → slice_get state.seats seat ≡ Some view → IsLast known view → view.run ≡ None → length known.plan.frames ≤ view.looks
    → IsComplete known state

-- the choices that can be taken are exactly the steps, each of its kind
abbrev pub ChoicesAreSteps : Type 0
ChoicesAreSteps =
    (known : Known) (state new : CoreState) (choice : Choice) → after_choice known state choice ≡ Some new
    → (step : Step known state new) × (choice_of known state new step ≡ choice)

abbrev pub StepsAreChoices : Type 0
StepsAreChoices =
    (known : Known) (state new : CoreState) (step : Step known state new) → after_choice known state (choice_of known state new step) ≡ Some new

-- every state that choices reach from opening is one that steps reach
abbrev pub ChoicesAreWays : Type 0
ChoicesAreWays = (known : Known) (state : CoreState) (choices : List Choice) → reached_by known choices ≡ Some state → Way known state
