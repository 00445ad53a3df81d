-- Steps by choice, for tables of states: what a state becomes where a seat makes a step of a kind, or none
-- where it can't. The choices are those of `flow_core_concurrent`. Laws say that this is so exactly for the steps of that kind.
use Rattle.std.specs.Prelude.{[], ℕ, ◌+◌, ◌==◌, Bool, not, ◌&&◌, nat_lt, nat_le, if◌then◌else◌, List, ◌∷◌, ◌++◌, Option}
use Rattle.std.specs.Prelude.{Some, None, is_none, is_some, map, length, take, count_by, slice_get, option_and_then}
use Rattle.std.specs.List.{fold, range_with_len}
use Rattle.flow_core_laws.specs.declared.plan.Piece.{Piece}
use Rattle.flow_core_concurrent.specs.declared.view.FrameRun.{FrameRun}
use Rattle.flow_core_laws.specs.declared.plan.Plan.{Plan}
use Rattle.flow_core_laws.specs.declared.task_end.TaskEnd.{TaskEnd}
use Rattle.flow_core_laws.specs.Plans.{frame_at}
use Rattle.flow_core_concurrent.specs.declared.known.Known.{Known}
use Rattle.flow_core_concurrent.specs.declared.view.View.{View}
use Rattle.flow_core_concurrent.specs.States.{CoreState, opening}
use Rattle.flow_core_concurrent.specs.Steps.{end_of, after_split, after_join, after_claim, after_store, after_sub, after_finish}
use Rattle.flow_core_concurrent.specs.Steps.{after_look, Step, split, join, claim, read, store, sub, finish, look}

-- A kind of step, with its seat and what it is made at.
pub data Choice : Type 0 where
  to_split : ℕ → Choice
  to_join : ℕ → ℕ → Choice
  to_claim : ℕ → ℕ → Choice
  to_read : ℕ → ℕ → Choice
  to_store : ℕ → Choice
  to_sub : ℕ → Choice
  to_finish : ℕ → Choice
  to_look : ℕ → Choice

-- the view of a seat that isn't spent
abbrev pub seat_in : CoreState → ℕ → Option View
seat_in state seat = option_and_then (λ (v : View). if nat_le 1 v.shares then Some v else None) (slice_get state.seats seat)

-- the piece at which a run stands, where it is one of its frame
abbrev pub own_piece : Plan → FrameRun → Option Piece
own_piece plan run = option_and_then (λ (p : Piece). if p.from == run.frame then Some p else None) (slice_get plan.pieces run.piece)

-- whether nothing was given of what a run runs, and whether all was
abbrev pub is_first_place : Plan → FrameRun → Bool
is_first_place plan run = run.piece == (frame_at plan run.frame).piece && run.stored == 0

abbrev pub is_behind_last : Plan → FrameRun → Bool
is_behind_last plan run = run.piece == (frame_at plan run.frame).piece + (frame_at plan run.frame).pieces

-- whether a cell is a frame's
abbrev pub is_cell_of : Plan → ℕ → ℕ → Bool
is_cell_of plan frame cell = nat_le (frame_at plan frame).cell cell && nat_lt cell ((frame_at plan frame).cell + (frame_at plan frame).inputs)

-- What becomes of a state by a choice.
abbrev pub after_choice : Known → CoreState → Choice → Option CoreState
after_choice known s (to_split i) = option_and_then (λ (v : View). if nat_le 2 v.shares then Some (after_split s i v) else None) (seat_in s i)
after_choice known s (to_join i j) =
    option_and_then (λ (v : View). option_and_then (λ (w : View). if not (j == i) && is_none w.run then Some (after_join s i v j w) else None) (seat_in s j))
    (seat_in s i)
after_choice known s (to_claim i f) =
    option_and_then (λ (v : View). if is_none v.run && nat_lt f (length known.plan.frames) then Some (after_claim known s i v f) else None) (seat_in s i)
after_choice known s (to_read i c) =
    option_and_then (λ (v : View). option_and_then (λ (r : FrameRun). if is_first_place known.plan r
    && is_cell_of known.plan r.frame c then Some s else None) v.run)
    (seat_in s i)
after_choice known s (to_store i) =
    option_and_then (λ (v : View). option_and_then (λ (r : FrameRun). option_and_then
    (λ (p : Piece). if nat_lt r.stored p.count then Some (after_store known s i v r p) else None) (own_piece known.plan r)) v.run) (seat_in s i)
after_choice known s (to_sub i) =
    option_and_then (λ (v : View). option_and_then (λ (r : FrameRun). option_and_then
    (λ (p : Piece). if r.stored == p.count then Some (after_sub s i v r p) else None) (own_piece known.plan r)) v.run) (seat_in s i)
after_choice known s (to_finish i) =
    option_and_then (λ (v : View). option_and_then (λ (r : FrameRun). option_and_then
    (λ (e : TaskEnd). if is_behind_last known.plan r then Some (after_finish s i v r e) else None) (end_of known r.frame)) v.run) (seat_in s i)
after_choice known s (to_look i) =
    option_and_then (λ (v : View). if is_none v.run && nat_le 1 (length known.plan.frames) then Some (after_look known s i v) else None) (seat_in s i)

-- The choice that a step is.
abbrev pub choice_of : (known : Known) (old new : CoreState) → Step known old new → Choice
choice_of known old new (split seat view needs) = to_split seat
choice_of known old new (join seat view other guest needs) = to_join seat other
choice_of known old new (claim seat view frame needs) = to_claim seat frame
choice_of known old new (read seat view run cell needs) = to_read seat cell
choice_of known old new (store seat view run piece needs) = to_store seat
choice_of known old new (sub seat view run piece needs) = to_sub seat
choice_of known old new (finish seat view run end needs) = to_finish seat
choice_of known old new (look seat view needs) = to_look seat

-- The state after the choices of a list, from opening, where each can be taken.
abbrev pub reached_by : Known → List Choice → Option CoreState
reached_by known choices =
    fold (λ (s : Option CoreState) (c : Choice). option_and_then (λ (t : CoreState). after_choice known t c) s) (Some (opening known)) choices

-- The states along the choices of a list, from opening on.
abbrev pub states_along : Known → List Choice → List (Option CoreState)
states_along known choices = map (λ (k : ℕ). reached_by known (take k choices)) (range_with_len 0 (length choices + 1))

-- How many of some choices can be taken after the first few of a list.
abbrev pub allowed_after : Known → List Choice → List Choice → ℕ
allowed_after known before tries = count_by (λ (c : Choice). is_some (reached_by known (before ++ c ∷ []))) tries
