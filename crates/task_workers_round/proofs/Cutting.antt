-- What a round is run with, and a part of it that is cut in two.
use Rattle.std.proofs.Common.{◌≡◌, ℕ, ◌+◌, ◌<◌, ◌≤◌, ℤ, List, All, ◌++◌, length, take, drop, sym, ap, ◌∙◌, subst, arith}
use Rattle.std.proofs.lemmas.List.{take-append-drop}
use Rattle.std.proofs.lemmas.List.Sums.{sum_by-append}
use Rattle.std.proofs.lemmas.List.Elements.{All-take, All-drop}
use Rattle.flow_core.specs.declared.board.Board.{Board}
use Rattle.flow_core_laws.specs.declared.outcome.Outcome.{Outcome}
use Rattle.flow_core_laws.specs.declared.plan.Plan.{Plan}
use Rattle.flow_core_laws.specs.declared.task_end.TaskEnd.{TaskEnd}
use Rattle.flow_core.specs.declared.waits.Waits.{Waits}
use Rattle.flow_core_laws.specs.Plans.{plan_meaning}
use Rattle.flow_core_laws.specs.IsSound.{IsSound}
use Rattle.flow_core_laws.specs.Serves.{Serves}
use Rattle.flow_core.specs.Counted.{IsCounted}
use Rattle.flow_core.specs.Shows.{Shows}
use Rattle.task_workers_round.specs.Results.{MayRun, outputs_of, room_of}
use Rattle.task_workers_round.specs.Parts.{IsShared, IsPartOfRound}

pub IsShared-from : (plan : Plan) (outcome : ℕ → List ℤ → Outcome) (takes : ℕ → ℕ → ℕ → Type 0) (board : Board) → IsSound plan → Serves plan outcome takes → IsCounted plan board.cells.items board.waits → Shows plan (plan_meaning plan outcome) board.cells.items board.ends.items → IsShared plan outcome takes board
IsShared-from plan outcome takes board is served counts shown = record { sound = is; served = served; counted = counts; shows = shown }

pub IsPart-from : {W : Type 0} (plan : Plan) (waits : Waits) (fits : W → Type 0) (frames : List ℕ) (ends : List TaskEnd) (outputs : List ℤ) (workers : List W) → All (MayRun plan waits) frames → length ends ≡ length frames → length outputs ≡ room_of plan frames → room_of plan frames ≤ 4194304 → length frames ≤ 65536 → (0 < length workers) × (length workers ≤ 64) → All fits workers → IsPartOfRound plan waits fits frames ends outputs workers
IsPart-from plan waits fits frames ends outputs workers may each room_is few short count fit = record { may_run = may; end_each = each; room = room_is; few = few; frames_are_few = short; some = count.0; at_most = count.1; fitting = fit }

-- the room of a list is that of its front and that of the rest
pub room_cut : (plan : Plan) (frames front back : List ℕ) (n : ℕ) → front ≡ take n frames → back ≡ drop n frames → room_of plan front + room_of plan back ≡ room_of plan frames
room_cut plan frames front back n at_front at_back =
    sym (sum_by-append (outputs_of plan) front back)
    ∙ ap (λ (xs : List ℕ). room_of plan (xs ++ back)) at_front
    ∙ ap (λ (xs : List ℕ). room_of plan (take n frames ++ xs)) at_back
    ∙ ap (room_of plan) (take-append-drop n frames)

module _ {W : Type 0} (plan : Plan) (waits : Waits) (fits : W → Type 0) (frames front back : List ℕ) (ends front_ends back_ends : List TaskEnd) (outputs front_outputs back_outputs : List ℤ) (workers first second : List W) (n low : ℕ) where
  pub IsPart-cut : IsPartOfRound plan waits fits frames ends outputs workers → front ≡ take n frames → back ≡ drop n frames → length front + length back ≡ length frames → length front_ends ≡ length front → length front_ends + length back_ends ≡ length ends → length front_outputs ≡ room_of plan front → length front_outputs + length back_outputs ≡ length outputs → first ≡ take low workers → second ≡ drop low workers → length first + length second ≡ length workers → 0 < length first → 0 < length second → IsPartOfRound plan waits fits front front_ends front_outputs first × IsPartOfRound plan waits fits back back_ends back_outputs second
  IsPart-cut part at_front at_back frames_of front_end_each ends_of front_room outputs_of at_first at_second workers_of some_first some_second =
      let cut = room_cut plan frames front back n at_front at_back in
      let end_each = part.end_each in
      let room = part.room in
      let few = part.few in
      let frames_are_few = part.frames_are_few in
      let at_most = part.at_most in (
        record {
          may_run = subst (λ (xs : List ℕ). All (MayRun plan waits) xs) (sym at_front) (All-take (MayRun plan waits) n frames part.may_run);
          end_each = front_end_each;
          room = front_room;
          few = omega arith;
          frames_are_few = omega arith;
          some = some_first;
          at_most = omega arith;
          fitting = subst (λ (xs : List W). All fits xs) (sym at_first) (All-take fits low workers part.fitting);
        },
        record {
          may_run = subst (λ (xs : List ℕ). All (MayRun plan waits) xs) (sym at_back) (All-drop (MayRun plan waits) n frames part.may_run);
          end_each = omega arith;
          room = omega arith;
          few = omega arith;
          frames_are_few = omega arith;
          some = some_second;
          at_most = omega arith;
          fitting = subst (λ (xs : List W). All fits xs) (sym at_second) (All-drop fits low workers part.fitting);
        },
      )
