-- What a seat may do on the table of the reader that was created first, and what it sees then.
use Rattle.std.proofs.Common.{◌≡◌, ℕ, ℤ, pos, zero, suc, ◌<◌, Bool, true, List, Some, length, get_or, refl, sym, ap, ◌∙◌, subst, arith}
use Rattle.std.specs.Prelude.{◌+ℤ◌, All, ⊤, slice_get}
use Rattle.std.proofs.lemmas.List.{length-map}
use Rattle.std.proofs.lemmas.List.Elements.{All-get_or}
use Rattle.flow_core_laws.specs.declared.plan.Piece.{Piece}
use Rattle.flow_core_laws.specs.declared.plan.Plan.{Plan}
use Rattle.flow_core_laws.specs.declared.task_end.TaskEnd.{TaskEnd}
use Rattle.flow_core_laws.specs.declared.task_end.TaskEnd.TheVariants.{Done}
use Rattle.flow_core_laws.specs.declared.outcome.Outcome.{Outcome}
use Rattle.flow_core_laws.specs.Plans.{frame_at, cell_source}
use Rattle.flow_core_laws.specs.Round.{round, rounds, meaning}
use Rattle.flow_core_laws.specs.Serves.{Serves}
use Rattle.flow_core_concurrent.specs.declared.known.Known.{Known}
use Rattle.flow_core_concurrent.specs.declared.view.FrameRun.{FrameRun}
use Rattle.flow_core_concurrent.specs.declared.view.View.{View}
use Rattle.flow_core_concurrent.specs.States as states
use Rattle.flow_core_concurrent.specs.ReaderFirst.{plan, outcome, known}
use Rattle.frame_table.specs.declared.seat.FrameSeat.{FrameSeat}
use Rattle.frame_table.specs.declared.table.FrameTable.{FrameTable}
use Rattle.frame_table.specs.Opened.{known_for}
use Rattle.frame_table.specs.Plays.{subbed}
use Rattle.frame_table.specs.Seats.{MayDeliver, MayFinish}
use Rattle.frame_table.specs.Tokens.{IsFresh, known_of}
use Rattle.runtime_tests.specs.OneSeat.{IsAfter, view_after}

pub may_deliver : (k : Known) (v : View) (steps number : ℕ) (piece : Piece) (outcome : Outcome) → k ≡ known → v ≡ view_after steps
    → MayDeliver known (view_after steps) number piece outcome → MayDeliver k v number piece outcome
may_deliver k v steps number piece outcome is_known is_view may =
    subst (λ k. MayDeliver k v number piece outcome) (sym is_known) (subst (λ v. MayDeliver known v number piece outcome) (sym is_view) may)

pub may_finish : (k : Known) (v : View) (steps : ℕ) (run : FrameRun) (end : TaskEnd) → k ≡ known → v ≡ view_after steps
    → MayFinish known (view_after steps) run end → MayFinish k v run end
may_finish k v steps run end is_known is_view may =
    subst (λ k. MayFinish k v run end) (sym is_known) (subst (λ v. MayFinish known v run end) (sym is_view) may)

-- the view after a piece was delivered that opened its frame
pub delivered : (table : FrameTable) (v w : View) (steps number : ℕ) (piece : Piece) (opened : Bool) → known_of table ≡ known
    → v ≡ view_after steps → slice_get known.plan.pieces number ≡ Some piece
    → ((p : Piece) → slice_get table.plan.now.pieces number ≡ Some p → w ≡ subbed v p.to opened) → opened ≡ true
    → w ≡ subbed (view_after steps) piece.to true
delivered table v w steps number piece opened is_known is_view has step opens =
    let plan : table.plan.now ≡ known.plan = sym table.plan_is ∙ ap (λ (k : Known). k.plan) is_known in
    step piece (ap (λ (p : Plan). slice_get p.pieces number) plan ∙ has) ∙ (λ i. subbed (is_view i) piece.to (opens i))

-- the bodies give as many elements as the plan says, and none of them traps
gives_all : (f : ℕ) (inputs : List ℤ) → f < 2 → length inputs ≡ (frame_at plan f).inputs → length (outcome f inputs).outputs ≡ (frame_at plan f).outputs
gives_all zero inputs few same = length-map inputs (λ x. x +ℤ pos 1) ∙ same
gives_all (suc zero) inputs few same = refl
gives_all (suc (suc f)) inputs few same = absurd (omega arith)

is_done : (f : ℕ) (inputs : List ℤ) → f < 2 → (outcome f inputs).end ≡ Done
is_done zero inputs few = refl
is_done (suc zero) inputs few = refl
is_done (suc (suc f)) inputs few = absurd (omega arith)

pub serves : Serves plan outcome (λ f inputs outputs. ⊤)
serves = record {
  takes_each = λ f few. tt;
  fills_outputs = λ f inputs few same done. gives_all f inputs few same;
  traps_have_codes = λ f inputs code line few same traps. let done = is_done f inputs few in absurd (cc (done, traps));
  are_never_poisoned = λ f inputs root few same poisoned. let done = is_done f inputs few in absurd (cc (done, poisoned));
}

-- what is known of a table that was opened for this plan with one seat
pub opened_for : (p : Plan) → p ≡ plan → known_for p outcome 1 ≡ known
unfolding meaning rounds round cell_source
opened_for p is = ap (λ p. known_for p outcome 1) is ∙ refl

-- the only seat of such a table
pub only_seat : (table : FrameTable) (seats : List FrameSeat) (seat : FrameSeat) → known_of table ≡ known → length seats ≡ 1
    → All (λ s. IsFresh table s) seats → seat ≡ get_or seats 0 seat → IsAfter table seat 0
only_seat table seats seat is_known one fresh is =
    let f : IsFresh table seat = subst (λ s. IsFresh table s) (sym is) (All-get_or (λ s. IsFresh table s) seats 0 seat (omega (arith, one)) fresh) in
    record { is_its_seat = f.is_of_it; knows_the_plan = is_known; has_this_view = f.did_nothing ∙ ap (λ k. states.fresh k 1) is_known }
