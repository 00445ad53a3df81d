-- Steps that would break a state. Each is made at a state that steps reach from opening, and leaves one
-- that isn't good.
use Rattle.std.specs.Prelude.{◌≡◌, ℕ, ℤ, pos, ◌+◌, ◌==◌, ◌&&◌, true, if◌then◌else◌, List, [], ◌∷◌, Some, None, map, length, count_by, slice_set}
use Rattle.std.specs.List.{range_with_len, list_any}
use Rattle.flow_core_laws.specs.declared.plan.Piece.{Piece}
use Rattle.flow_core_concurrent.specs.declared.view.FrameRun.{FrameRun}
use Rattle.flow_core_laws.specs.declared.outcome.Outcome.{Outcome}
use Rattle.flow_core_laws.specs.declared.plan.Plan.{Plan}
use Rattle.flow_core_laws.specs.declared.task_end.TaskEnd.TheVariants.{Done, Trapped, Poisoned}
use Rattle.flow_core_laws.specs.Outcome.{outcome_of}
use Rattle.flow_core_concurrent.specs.declared.known.Known.{Known}
use Rattle.flow_core_concurrent.specs.declared.view.View.{View}
use Rattle.flow_core_concurrent.specs.declared.word.Word.{Word}
use Rattle.flow_core_concurrent.specs.declared.word.Word.TheVariants.{Wait, Open, Taken}
use Rattle.flow_core_concurrent.specs.Words.{word_at}
use Rattle.flow_core_concurrent.specs.States.{CoreState, opening}
use Rattle.flow_core_concurrent.specs.Steps.{Step, with_view, with_claim, with_sub, after_claim, after_sub, after_finish}
use Rattle.flow_core_concurrent.specs.IsGood.{IsGood}
use Rattle.flow_core_concurrent.specs.Laws.{IsFit}
use Rattle.flow_core_concurrent.specs.Ways.{Way}
use Rattle.flow_core_concurrent.specs.Tables.{value, at, seat, state}
use Rattle.flow_core_concurrent.specs.ReaderFirst as reader
use Rattle.flow_core_concurrent.specs.TwoProducers as two

-- Steps reach a state of a plan that is sound, and what a wrong step leaves of it isn't good.
pub record Breaks (known : Known) (state : CoreState) (wrong : CoreState → CoreState) : Type 0 where
  pub is_fit : IsFit known
  pub reached : Way known state
  pub is_not_good : ¬ (IsGood known (wrong state))

-- The giver of the two frames of which the reader was created first runs, and stored nothing yet.
abbrev pub giver_run : FrameRun
giver_run = record { frame = 1; piece = 1; stored = 0 }

abbrev pub giver_view : View
giver_view = seat reader.known (Some giver_run) [] (1 ∷ []) [] [] [] 0 1

abbrev pub giver_runs : CoreState
giver_runs = state (Wait 1 ∷ Taken ∷ Wait 1 ∷ []) (None ∷ None ∷ []) (giver_view ∷ [])

abbrev pub giver_piece : Piece
giver_piece = record { from = 1; to = 0; first = 0; count = 1; at = 0 }

-- a SUB of a piece before its elements are stored
abbrev pub SubsBeforeItStores : Type 0
SubsBeforeItStores = Breaks reader.known giver_runs (λ s. after_sub s 0 giver_view giver_run giver_piece)

-- a FINISH with Done before all pieces are given
abbrev pub FinishesBeforeItGives : Type 0
FinishesBeforeItGives = Breaks reader.known giver_runs (λ s. after_finish s 0 giver_view giver_run Done)

-- A claim in two steps, a load and then a store: the frame may be Taken when the store comes.
abbrev pub blind_claim : Known → CoreState → ℕ → View → ℕ → CoreState
blind_claim known s i view frame = record { words = slice_set s.words frame Taken; cells = s.cells; seats = slice_set s.seats i (with_claim known view frame) }

abbrev pub one_producer_runs : CoreState
one_producer_runs =
    state (Taken ∷ Open ∷ Wait 2 ∷ Wait 1 ∷ []) (None ∷ None ∷ None ∷ [])
    (seat two.known (at 0 0 0) [] (0 ∷ []) [] [] [] 0 1 ∷ seat two.known None [] [] [] [] [] 0 1 ∷ [])

abbrev pub idle_view : View
idle_view = seat two.known None [] [] [] [] [] 0 1

abbrev pub ClaimsWithoutLooking : Type 0
ClaimsWithoutLooking = Breaks two.known one_producer_runs (λ s. blind_claim two.known s 1 idle_view 0)

abbrev pub none_runs : CoreState
none_runs = state (Open ∷ Open ∷ Wait 2 ∷ Wait 1 ∷ []) (None ∷ None ∷ None ∷ []) (idle_view ∷ idle_view ∷ [])

-- A claim by a load and a later store. The second seat loads the word of frame 0, which is Open: stored at once it would be a claim. But
-- the first seat claims the frame between the two, and the store comes all the same.
pub record ClaimsByALoadAndAStore : Type 0 where
  pub loads_at : Way two.known none_runs
  pub loads_open : word_at none_runs.words 0 ≡ Open
  pub is_a_claim_at_once : blind_claim two.known none_runs 1 idle_view 0 ≡ after_claim two.known none_runs 1 idle_view 0
  pub another_claims_between : Step two.known none_runs one_producer_runs
  pub breaks : ClaimsWithoutLooking

-- A frame that gives two elements to another one, by a piece each.
abbrev pub pairs : Known
pairs = record {
  plan = record {
    frames =
        (record { cell = 0; inputs = 0; outputs = 2; wait = 0; piece = 0; pieces = 2 })
        ∷ (record { cell = 0; inputs = 2; outputs = 0; wait = 2; piece = 2; pieces = 0 }) ∷ [];
    sink = record { cell = 2; inputs = 0; outputs = 0; wait = 0; piece = 2; pieces = 0 };
    pieces = (record { from = 0; to = 1; first = 0; count = 1; at = 0 }) ∷ (record { from = 0; to = 1; first = 1; count = 1; at = 1 }) ∷ [];
    filled = None ∷ None ∷ [];
    numbers = 0 ∷ 1 ∷ [];
  };
  meaning = Some (outcome_of Done (pos 5 ∷ pos 7 ∷ [])) ∷ Some (outcome_of Done []) ∷ [];
  seats = 1;
}

abbrev pub pairs_outcome : ℕ → List ℤ → Outcome
pairs_outcome frame inputs = if frame == 0 then outcome_of Done (pos 5 ∷ pos 7 ∷ []) else outcome_of Done []

-- A counter of producers: a frame waits for as many frames as give it something.
abbrev pub producer_count : Plan → ℕ → ℕ
producer_count plan frame = count_by (λ f. list_any (λ (p : Piece). p.from == f && p.to == frame) plan.pieces) (range_with_len 0 (length plan.frames))

abbrev pub word_by_producers : Plan → ℕ → Word
word_by_producers plan frame = if producer_count plan frame == 0 then Open else Wait (producer_count plan frame)

abbrev pub by_producers : Plan → CoreState → CoreState
by_producers plan s = record { words = map (word_by_producers plan) (range_with_len 0 (length plan.frames + 1)); cells = s.cells; seats = s.seats }

abbrev pub CountsProducers : Type 0
CountsProducers = Breaks pairs (opening pairs) (by_producers pairs.plan)

-- With such a counter a SUB opens a frame of one producer at its first piece, though more elements are missing.
abbrev pub opens_at_once : CoreState → ℕ → View → FrameRun → Piece → CoreState
opens_at_once s i view run piece =
    record { words = slice_set s.words piece.to Open; cells = s.cells; seats = slice_set s.seats i (with_sub view run piece.to true) }

abbrev pub first_run : FrameRun
first_run = record { frame = 0; piece = 0; stored = 1 }

abbrev pub first_view : View
first_view = seat pairs (Some first_run) [] (0 ∷ []) [] [] [] 0 1

abbrev pub first_stored : CoreState
first_stored = state (Taken ∷ Wait 2 ∷ Open ∷ []) (value 5 ∷ None ∷ []) (first_view ∷ [])

abbrev pub OpensAtTheFirstPiece : Type 0
OpensAtTheFirstPiece = Breaks pairs first_stored (λ s. opens_at_once s 0 first_view first_run (record { from = 0; to = 1; first = 0; count = 1; at = 0 }))

-- The giver traps: it has no values, whatever its body wrote before, and poisons the reader.
abbrev pub trapped_outcome : ℕ → List ℤ → Outcome
trapped_outcome frame inputs = if frame == 0 then outcome_of Done inputs else outcome_of (Trapped 2 5) (pos 41 ∷ [])

abbrev pub trapped : Known
trapped = record {
  plan = reader.plan;
  meaning = Some (outcome_of (Poisoned 1) []) ∷ Some (outcome_of (Trapped 2 5) (pos 41 ∷ [])) ∷ [];
  seats = 1;
}

abbrev pub trapped_view : View
trapped_view = seat trapped (Some giver_run) [] (1 ∷ []) [] [] [] 0 1

abbrev pub trapped_runs : CoreState
trapped_runs = state (Wait 1 ∷ Taken ∷ Wait 1 ∷ []) (None ∷ None ∷ []) (trapped_view ∷ [])

-- A STORE of a value that the body wrote, whether the meaning is Done or not.
abbrev pub store_anyway : ℕ → CoreState → ℕ → View → FrameRun → Piece → CoreState
store_anyway number s i view run piece =
    record {
      words = s.words;
      cells = slice_set s.cells (piece.at + run.stored) (value number);
      seats = slice_set s.seats i (record view { run = Some (record run { stored = run.stored + 1 }) });
    }

abbrev pub StoresOfTrapped : Type 0
StoresOfTrapped = Breaks trapped trapped_runs (λ s. store_anyway 41 s 0 trapped_view giver_run giver_piece)

-- a FINISH of a trapped frame that gave nothing yet
abbrev pub FinishesWithoutPoison : Type 0
FinishesWithoutPoison = Breaks trapped trapped_runs (λ s. after_finish s 0 trapped_view giver_run (Trapped 2 5))

-- A LOOK that counts whether its frame is Open or not.
abbrev pub look_anyway : CoreState → ℕ → View → CoreState
look_anyway s i view = with_view s i (record view { looks = view.looks + 1 })

abbrev pub missed_view : View
missed_view = seat reader.known None [] [] (0 ∷ []) [] [] 1 1

abbrev pub CountsAnOpenFrame : Type 0
CountsAnOpenFrame =
    Breaks reader.known (state (Wait 1 ∷ Open ∷ Wait 1 ∷ []) (None ∷ None ∷ []) (missed_view ∷ [])) (λ s. look_anyway s 0 missed_view)
