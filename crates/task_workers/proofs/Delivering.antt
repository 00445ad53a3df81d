-- A delivery, frame by frame.
use Rattle.std.proofs.Common.{◌≡◌, ℕ, ◌+◌, ◌<◌, ◌≤◌, ℤ, List, Some, length, get_or, set, take, drop, refl, sym, ap, ◌∙◌, subst, arith, count_by}
use Rattle.std.specs.Prelude.{is_none}
use Rattle.std.specs.List.{between}
use Rattle.std.proofs.lemmas.List.{get_or-drop, length-drop}
use Rattle.flow_core.specs.declared.board.Board.{Board}
use Rattle.flow_core_laws.specs.declared.plan.Plan.{Plan}
use Rattle.flow_core_laws.specs.declared.task_end.TaskEnd.{TaskEnd}
use Rattle.flow_core_laws.specs.declared.task_end.TaskEnd.TheVariants.{Done}
use Rattle.flow_core_laws.specs.Outcome.{State}
use Rattle.flow_core.specs.Waits.{OpensMore}
use Rattle.flow_core_laws.specs.IsSound.{IsSound}
use Rattle.flow_core.specs.Counted.{IsCounted, IsUnfed}
use Rattle.flow_core.specs.Shows.{Shows, HasOutcome}
use Rattle.flow_core.specs.Board.{IsRun}
use Rattle.flow_core.proofs.Carrying.{OpensMore-trans, OpensMore-none}
use Rattle.flow_core.proofs.Showing.{AreEmpty-waiting}
use Rattle.flow_core.proofs.Running.{IsRun-more, IsRun-fewer}
use Rattle.task_workers_round.specs.Results.{AreResults, outputs_of, outputs_at, room_of}
use Rattle.task_workers_round.proofs.Joining.{HasOutcome-same, room_more, room_within}

-- the frames of the round that begins at a turn
abbrev pub round_of : Board → ℕ → List ℕ
round_of board turn = drop turn board.waits.opened.items

-- a round of a run came to these ends and outputs
abbrev pub CameTo : Plan → ℕ → List TaskEnd → List ℤ → Board → State → Type 0
CameTo plan turn ends outputs board m = IsRun plan m board turn × AreResults plan m (round_of board turn) ends outputs

-- the first frames of a round are delivered
pub record HasDelivered (plan : Plan) (turn : ℕ) (ends : List TaskEnd) (outputs : List ℤ) (old new : Board) (first k : ℕ) : Type 0 where
  pub runs : (m : State) → CameTo plan turn ends outputs old m → IsRun plan m new (turn + k)
  pub opens : OpensMore old.waits new.waits
  pub at : first ≡ room_of plan (take k (round_of old turn))
  pub fewer : count_by is_none new.ends.items + k ≤ count_by is_none old.ends.items

pub HasDelivered-none : (plan : Plan) (turn : ℕ) (ends : List TaskEnd) (outputs : List ℤ) (board : Board) → HasDelivered plan turn ends outputs board board 0 0
HasDelivered-none plan turn ends outputs board = record {
  runs = λ m came. subst (λ (k : ℕ). IsRun plan m board k) (omega arith) came.0;
  opens = OpensMore-none board.waits;
  at = refl;
  fewer = omega arith;
}

-- the frame that is next
pub next_frame : (plan : Plan) (turn : ℕ) (ends : List TaskEnd) (outputs : List ℤ) (old mid : Board) (first k f : ℕ) → HasDelivered plan turn ends outputs old mid first k → turn + k < length old.waits.opened.items → f ≡ get_or mid.waits.opened.items (turn + k) 0 → f ≡ get_or (round_of old turn) k 0
next_frame plan turn ends outputs old mid first k f delivered lt is = is ∙ delivered.opens.keeps (turn + k) lt ∙ sym (get_or-drop turn old.waits.opened.items k 0)

-- its outputs are there
pub next_fits : (plan : Plan) (turn : ℕ) (ends : List TaskEnd) (outputs : List ℤ) (old mid : Board) (first k n f : ℕ) → HasDelivered plan turn ends outputs old mid first k → turn + k < length old.waits.opened.items → f ≡ get_or mid.waits.opened.items (turn + k) 0 → n ≡ outputs_of plan f → length outputs ≡ room_of plan (round_of old turn) → first + n ≤ length outputs
next_fits plan turn ends outputs old mid first k n f delivered lt is count room =
    let at_f = next_frame plan turn ends outputs old mid first k f delivered lt is in
    let len = length-drop turn old.waits.opened.items in
    let within = room_within plan (round_of old turn) k n first (omega arith) delivered.at (count ∙ ap (outputs_of plan) at_f) in
    omega arith

-- the cells that it feeds have no value
pub next_empty : (plan : Plan) (m : State) (board : Board) (turn f : ℕ) → IsSound plan → IsRun plan m board turn → turn < length board.waits.opened.items → f ≡ get_or board.waits.opened.items turn 0 → IsUnfed plan f board.cells.items
next_empty plan m board turn f sound run lt is = subst (λ (g : ℕ). IsUnfed plan g board.cells.items) (sym is) (AreEmpty-waiting plan m board.cells.items board.ends.items (get_or board.waits.opened.items turn 0) sound run.counted.cells_of_plan run.shows (let e = run.counted.opens_full.exist turn lt in let n = run.counted.frames_of_plan in omega arith) (run.wait_their_turn turn (omega arith) lt))

pub HasDelivered-more : (plan : Plan) (turn : ℕ) (ends : List TaskEnd) (outputs stretch : List ℤ) (old mid new : Board) (first k n f : ℕ) (e : TaskEnd) (m0 : State) → CameTo plan turn ends outputs old m0 → HasDelivered plan turn ends outputs old mid first k → turn + k < length old.waits.opened.items → f ≡ get_or mid.waits.opened.items (turn + k) 0 → n ≡ outputs_of plan f → e ≡ get_or ends k Done → stretch ≡ between first (first + n) outputs → IsCounted plan new.cells.items new.waits → new.ends.items ≡ set mid.ends.items f (Some e) → OpensMore mid.waits new.waits → ((m : State) → Shows plan m mid.cells.items mid.ends.items → HasOutcome m f e stretch → Shows plan m new.cells.items new.ends.items) → HasDelivered plan turn ends outputs old new (first + n) (k + 1)
HasDelivered-more plan turn ends outputs stretch old mid new first k n f e m0 came0 delivered lt is count end part counted ends_set opens shows = record {
  runs = λ m came. subst (λ (i : ℕ). IsRun plan m new i) (omega arith) (IsRun-more plan m mid new (turn + k) e (delivered.runs m came) in_mid counted (shows m (delivered.runs m came).shows (gives m came)) opens set_at);
  opens = OpensMore-trans _ _ _ delivered.opens opens;
  at = omega (arith, delivered.at, room_more plan frames k in_round, count ∙ ap (outputs_of plan) at_f);
  fewer = (let less = IsRun-fewer plan m0 mid (turn + k) e new.ends.items (delivered.runs m0 came0) in_mid set_at in let before = delivered.fewer in omega arith);
}
  where
    frames : List ℕ
    frames = round_of old turn

    in_round : k < length frames
    in_round = let len = length-drop turn old.waits.opened.items in omega arith

    in_mid : turn + k < length mid.waits.opened.items
    in_mid = let g = delivered.opens.grows in omega arith

    at_f : f ≡ get_or frames k 0
    at_f = next_frame plan turn ends outputs old mid first k f delivered lt is

    set_at : new.ends.items ≡ set mid.ends.items (get_or mid.waits.opened.items (turn + k) 0) (Some e)
    set_at = ends_set ∙ ap (λ (g : ℕ). set mid.ends.items g (Some e)) is

    stretch_at : outputs_at plan frames outputs k ≡ stretch
    stretch_at =
        ap (λ (a : ℕ). between a (a + outputs_of plan (get_or frames k 0)) outputs) (sym delivered.at)
        ∙ ap (λ (g : ℕ). between first (first + outputs_of plan g) outputs) (sym at_f)
        ∙ ap (λ (c : ℕ). between first (first + c) outputs) (sym count)
        ∙ sym part

    gives : (m : State) → CameTo plan turn ends outputs old m → HasOutcome m f e stretch
    gives m came = HasOutcome-same m _ _ _ _ _ _ (sym at_f) (sym end) stretch_at (came.1.gives k in_round)
