-- Choices that can be taken are exactly the steps.
use Rattle.std.proofs.Common.{◌≡◌, ℕ, ◌+◌, ◌≤◌, Bool, true, false, List, [], ◌∷◌, Option, Some, None, length, refl, sym, ap, ◌∙◌, subst, eq-eqb}
use Rattle.std.specs.Prelude.{◌==◌, ◌&&◌, not, nat_lt, nat_le, is_none, if◌then◌else◌, option_and_then, slice_get}
use Rattle.std.specs.List.{fold}
use Rattle.std.proofs.lemmas.Bool.{eqb-true, ne_eqb, and_parts, and_from, le-leb, leb-true, lt-ltb, ltb-true}
use Rattle.std.proofs.lemmas.Option.{cond_some, same_Some}
use Rattle.flow_core_laws.specs.declared.plan.Piece.{Piece}
use Rattle.flow_core_concurrent.specs.declared.view.FrameRun.{FrameRun}
use Rattle.flow_core_concurrent.specs.Choices.{Choice, to_split, to_join, to_claim, to_read, to_store, to_sub, to_finish, to_look, seat_in, own_piece, is_first_place, is_behind_last, is_cell_of, after_choice, choice_of, reached_by}
use Rattle.flow_core_laws.specs.declared.plan.Plan.{Plan}
use Rattle.flow_core_laws.specs.declared.task_end.TaskEnd.{TaskEnd}
use Rattle.flow_core_laws.specs.Plans.{frame_at}
use Rattle.flow_core_concurrent.specs.declared.known.Known.{Known}
use Rattle.flow_core_concurrent.specs.declared.view.View.{View}
use Rattle.flow_core_concurrent.specs.States.{CoreState, IsSeat, opening}
use Rattle.flow_core_concurrent.specs.Steps.{end_of, first_place, StandsAt, after_split, after_join, after_claim, after_store, after_sub, after_finish, after_look, Step, split, join, claim, read, store, sub, finish, look}
use Rattle.flow_core_concurrent.specs.Ways.{Way, opens, goes}

-- what a bind that gives something was given
bound : {X Y : Type 0} (f : X → Option Y) (o : Option X) (y : Y) → option_and_then f o ≡ Some y → (x : X) × (o ≡ Some x) × (f x ≡ Some y)
bound f None y h = absurd (cc)
bound f (Some x) y h = (x, refl, h)

-- a choice whose test passes
chosen : {X : Type 0} (b : Bool) (x y : X) → (if b then Some x else None) ≡ Some y → (b ≡ true) × (x ≡ y)
chosen b x y h = cond_some b x y h

passed : {X : Type 0} (b : Bool) (x : X) → b ≡ true → (if b then Some x else None) ≡ Some x
passed b x e = ap (λ b. if b then Some x else None) e

is_seat : (s : CoreState) (i : ℕ) (v : View) → seat_in s i ≡ Some v → IsSeat s i v
is_seat s i v h =
    let (w, there, e) = bound (λ (v : View). if nat_le 1 v.shares then Some v else None) (slice_get s.seats i) v h in
    let (some, same) = chosen (nat_le 1 w.shares) w v e in
    record { sees = there ∙ ap Some same; is_not_spent = subst (λ (v : View). 1 ≤ v.shares) same (leb-true 1 w.shares some) }

seat_is : (s : CoreState) (i : ℕ) (v : View) → IsSeat s i v → seat_in s i ≡ Some v
seat_is s i v seat = ap (option_and_then (λ (v : View). if nat_le 1 v.shares then Some v else None)) seat.sees ∙ passed (nat_le 1 v.shares) v (le-leb 1 v.shares seat.is_not_spent)

stands_at : (plan : Plan) (r : FrameRun) (p : Piece) → own_piece plan r ≡ Some p → StandsAt plan r p
stands_at plan r p h =
    let (q, there, e) = bound (λ (p : Piece). if p.from == r.frame then Some p else None) (slice_get plan.pieces r.piece) p h in
    let (own, same) = chosen (q.from == r.frame) q p e in
    record { has_number = there ∙ ap Some same; is_its_own = sym (ap (λ (p : Piece). p.from) same) ∙ eqb-true q.from r.frame own }

piece_is : (plan : Plan) (r : FrameRun) (p : Piece) → StandsAt plan r p → own_piece plan r ≡ Some p
piece_is plan r p stands = ap (option_and_then (λ (p : Piece). if p.from == r.frame then Some p else None)) stands.has_number ∙ passed (p.from == r.frame) p (eq-eqb p.from r.frame stands.is_its_own)

is_first : (plan : Plan) (r : FrameRun) → is_first_place plan r ≡ true → r ≡ first_place plan r.frame
is_first plan r h =
    let (a, b) = and_parts (r.piece == (frame_at plan r.frame).piece) (r.stored == 0) h in
    let piece : r.piece ≡ (frame_at plan r.frame).piece = eqb-true r.piece (frame_at plan r.frame).piece a in
    let stored : r.stored ≡ 0 = eqb-true r.stored 0 b in
    (λ k. record { frame = r.frame; piece = piece k; stored = stored k })

first_is : (plan : Plan) (r : FrameRun) → r ≡ first_place plan r.frame → is_first_place plan r ≡ true
first_is plan r h = and_from (r.piece == (frame_at plan r.frame).piece) (r.stored == 0) (eq-eqb r.piece (frame_at plan r.frame).piece (ap (λ (r : FrameRun). r.piece) h)) (eq-eqb r.stored 0 (ap (λ (r : FrameRun). r.stored) h))

is_none_is : {X : Type 0} (o : Option X) → is_none o ≡ true → o ≡ None
is_none_is None h = refl
is_none_is (Some x) h = absurd (cc)

not_same : (b : Bool) → not b ≡ true → b ≡ false
not_same true h = absurd (cc)
not_same false h = refl

pub choices_are_steps : (known : Known) (s t : CoreState) (c : Choice) → after_choice known s c ≡ Some t → (step : Step known s t) × (choice_of known s t step ≡ c)
choices_are_steps known s t (to_split i) h =
    let (v, seat, e) = bound (λ (v : View). if nat_le 2 v.shares then Some (after_split s i v) else None) (seat_in s i) t h in
    let (two, same) = chosen (nat_le 2 v.shares) (after_split s i v) t e in
    subst (λ (u : CoreState). (step : Step known s u) × (choice_of known s u step ≡ to_split i)) same (split i v (record { is_seat = is_seat s i v seat; has_two_shares = leb-true 2 v.shares two }), refl)
choices_are_steps known s t (to_join i j) h =
    let (v, seat, e) = bound (λ (v : View). option_and_then (λ (w : View). if not (j == i) && is_none w.run then Some (after_join s i v j w) else None) (seat_in s j)) (seat_in s i) t h in
    let (w, other, e') = bound (λ (w : View). if not (j == i) && is_none w.run then Some (after_join s i v j w) else None) (seat_in s j) t e in
    let (may, same) = chosen (not (j == i) && is_none w.run) (after_join s i v j w) t e' in
    let (two, idle) = and_parts (not (j == i)) (is_none w.run) may in
    subst (λ (u : CoreState). (step : Step known s u) × (choice_of known s u step ≡ to_join i j)) same (join i v j w (record { is_seat = is_seat s i v seat; is_other_seat = is_seat s j w other; are_two = λ e. let a : (j == i) ≡ true = eq-eqb j i e in let b = not_same (j == i) two in cc; runs_nothing = is_none_is w.run idle }), refl)
choices_are_steps known s t (to_claim i f) h =
    let (v, seat, e) = bound (λ (v : View). if is_none v.run && nat_lt f (length known.plan.frames) then Some (after_claim known s i v f) else None) (seat_in s i) t h in
    let (may, same) = chosen (is_none v.run && nat_lt f (length known.plan.frames)) (after_claim known s i v f) t e in
    let (idle, lt) = and_parts (is_none v.run) (nat_lt f (length known.plan.frames)) may in
    subst (λ (u : CoreState). (step : Step known s u) × (choice_of known s u step ≡ to_claim i f)) same (claim i v f (record { is_seat = is_seat s i v seat; runs_nothing = is_none_is v.run idle; exists = ltb-true f (length known.plan.frames) lt }), refl)
choices_are_steps known s t (to_read i c) h =
    let (v, seat, e) = bound (λ (v : View). option_and_then (λ (r : FrameRun). if is_first_place known.plan r && is_cell_of known.plan r.frame c then Some s else None) v.run) (seat_in s i) t h in
    let (r, runs, e') = bound (λ (r : FrameRun). if is_first_place known.plan r && is_cell_of known.plan r.frame c then Some s else None) v.run t e in
    let (may, same) = chosen (is_first_place known.plan r && is_cell_of known.plan r.frame c) s t e' in
    let (nothing, cell) = and_parts (is_first_place known.plan r) (is_cell_of known.plan r.frame c) may in
    let (low, high) = and_parts (nat_le (frame_at known.plan r.frame).cell c) (nat_lt c ((frame_at known.plan r.frame).cell + (frame_at known.plan r.frame).inputs)) cell in
    subst (λ (u : CoreState). (step : Step known s u) × (choice_of known s u step ≡ to_read i c)) same (read i v r c (record { is_seat = is_seat s i v seat; runs = runs; gave_nothing = is_first known.plan r nothing; is_its_cell = (leb-true (frame_at known.plan r.frame).cell c low, ltb-true c ((frame_at known.plan r.frame).cell + (frame_at known.plan r.frame).inputs) high) }), refl)
choices_are_steps known s t (to_store i) h =
    let (v, seat, e) = bound (λ (v : View). option_and_then (λ (r : FrameRun). option_and_then (λ (p : Piece). if nat_lt r.stored p.count then Some (after_store known s i v r p) else None) (own_piece known.plan r)) v.run) (seat_in s i) t h in
    let (r, runs, e') = bound (λ (r : FrameRun). option_and_then (λ (p : Piece). if nat_lt r.stored p.count then Some (after_store known s i v r p) else None) (own_piece known.plan r)) v.run t e in
    let (p, piece, e'') = bound (λ (p : Piece). if nat_lt r.stored p.count then Some (after_store known s i v r p) else None) (own_piece known.plan r) t e' in
    let (more, same) = chosen (nat_lt r.stored p.count) (after_store known s i v r p) t e'' in
    subst (λ (u : CoreState). (step : Step known s u) × (choice_of known s u step ≡ to_store i)) same (store i v r p (record { is_seat = is_seat s i v seat; runs = runs; stands = stands_at known.plan r p piece; has_more = ltb-true r.stored p.count more }), refl)
choices_are_steps known s t (to_sub i) h =
    let (v, seat, e) = bound (λ (v : View). option_and_then (λ (r : FrameRun). option_and_then (λ (p : Piece). if r.stored == p.count then Some (after_sub s i v r p) else None) (own_piece known.plan r)) v.run) (seat_in s i) t h in
    let (r, runs, e') = bound (λ (r : FrameRun). option_and_then (λ (p : Piece). if r.stored == p.count then Some (after_sub s i v r p) else None) (own_piece known.plan r)) v.run t e in
    let (p, piece, e'') = bound (λ (p : Piece). if r.stored == p.count then Some (after_sub s i v r p) else None) (own_piece known.plan r) t e' in
    let (all, same) = chosen (r.stored == p.count) (after_sub s i v r p) t e'' in
    subst (λ (u : CoreState). (step : Step known s u) × (choice_of known s u step ≡ to_sub i)) same (sub i v r p (record { is_seat = is_seat s i v seat; runs = runs; stands = stands_at known.plan r p piece; has_stored_all = eqb-true r.stored p.count all }), refl)
choices_are_steps known s t (to_finish i) h =
    let (v, seat, e) = bound (λ (v : View). option_and_then (λ (r : FrameRun). option_and_then (λ (e : TaskEnd). if is_behind_last known.plan r then Some (after_finish s i v r e) else None) (end_of known r.frame)) v.run) (seat_in s i) t h in
    let (r, runs, e') = bound (λ (r : FrameRun). option_and_then (λ (e : TaskEnd). if is_behind_last known.plan r then Some (after_finish s i v r e) else None) (end_of known r.frame)) v.run t e in
    let (end, meant, e'') = bound (λ (e : TaskEnd). if is_behind_last known.plan r then Some (after_finish s i v r e) else None) (end_of known r.frame) t e' in
    let (all, same) = chosen (is_behind_last known.plan r) (after_finish s i v r end) t e'' in
    subst (λ (u : CoreState). (step : Step known s u) × (choice_of known s u step ≡ to_finish i)) same (finish i v r end (record { is_seat = is_seat s i v seat; runs = runs; is_meant = meant; gave_all = eqb-true r.piece ((frame_at known.plan r.frame).piece + (frame_at known.plan r.frame).pieces) all }), refl)
choices_are_steps known s t (to_look i) h =
    let (v, seat, e) = bound (λ (v : View). if is_none v.run && nat_le 1 (length known.plan.frames) then Some (after_look known s i v) else None) (seat_in s i) t h in
    let (may, same) = chosen (is_none v.run && nat_le 1 (length known.plan.frames)) (after_look known s i v) t e in
    let (idle, some) = and_parts (is_none v.run) (nat_le 1 (length known.plan.frames)) may in
    subst (λ (u : CoreState). (step : Step known s u) × (choice_of known s u step ≡ to_look i)) same (look i v (record { is_seat = is_seat s i v seat; runs_nothing = is_none_is v.run idle; has_frames = leb-true 1 (length known.plan.frames) some }), refl)

pub steps_are_choices : (known : Known) (s t : CoreState) (step : Step known s t) → after_choice known s (choice_of known s t step) ≡ Some t
steps_are_choices known s t (split i v can) =
    ap (option_and_then (λ (v : View). if nat_le 2 v.shares then Some (after_split s i v) else None)) (seat_is s i v can.is_seat)
    ∙ passed (nat_le 2 v.shares) (after_split s i v) (le-leb 2 v.shares can.has_two_shares)
steps_are_choices known s t (join i v j w can) =
    ap (option_and_then (λ (v : View). option_and_then (λ (w : View). if not (j == i) && is_none w.run then Some (after_join s i v j w) else None) (seat_in s j))) (seat_is s i v can.is_seat)
    ∙ ap (option_and_then (λ (w : View). if not (j == i) && is_none w.run then Some (after_join s i v j w) else None)) (seat_is s j w can.is_other_seat)
    ∙ passed (not (j == i) && is_none w.run) (after_join s i v j w) (and_from (not (j == i)) (is_none w.run) (ap not (ne_eqb j i can.are_two)) (ap is_none can.runs_nothing))
steps_are_choices known s t (claim i v f can) =
    ap (option_and_then (λ (v : View). if is_none v.run && nat_lt f (length known.plan.frames) then Some (after_claim known s i v f) else None)) (seat_is s i v can.is_seat)
    ∙ passed (is_none v.run && nat_lt f (length known.plan.frames)) (after_claim known s i v f) (and_from (is_none v.run) (nat_lt f (length known.plan.frames)) (ap is_none can.runs_nothing) (lt-ltb f (length known.plan.frames) can.exists))
steps_are_choices known s t (read i v r c can) =
    ap (option_and_then (λ (v : View). option_and_then (λ (r : FrameRun). if is_first_place known.plan r && is_cell_of known.plan r.frame c then Some s else None) v.run)) (seat_is s i v can.is_seat)
    ∙ ap (option_and_then (λ (r : FrameRun). if is_first_place known.plan r && is_cell_of known.plan r.frame c then Some s else None)) can.runs
    ∙ passed (is_first_place known.plan r && is_cell_of known.plan r.frame c) s (and_from (is_first_place known.plan r) (is_cell_of known.plan r.frame c) (first_is known.plan r can.gave_nothing) (and_from (nat_le (frame_at known.plan r.frame).cell c) (nat_lt c ((frame_at known.plan r.frame).cell + (frame_at known.plan r.frame).inputs)) (le-leb (frame_at known.plan r.frame).cell c can.is_its_cell.0) (lt-ltb c ((frame_at known.plan r.frame).cell + (frame_at known.plan r.frame).inputs) can.is_its_cell.1)))
steps_are_choices known s t (store i v r p can) =
    ap (option_and_then (λ (v : View). option_and_then (λ (r : FrameRun). option_and_then (λ (p : Piece). if nat_lt r.stored p.count then Some (after_store known s i v r p) else None) (own_piece known.plan r)) v.run)) (seat_is s i v can.is_seat)
    ∙ ap (option_and_then (λ (r : FrameRun). option_and_then (λ (p : Piece). if nat_lt r.stored p.count then Some (after_store known s i v r p) else None) (own_piece known.plan r))) can.runs
    ∙ ap (option_and_then (λ (p : Piece). if nat_lt r.stored p.count then Some (after_store known s i v r p) else None)) (piece_is known.plan r p can.stands)
    ∙ passed (nat_lt r.stored p.count) (after_store known s i v r p) (lt-ltb r.stored p.count can.has_more)
steps_are_choices known s t (sub i v r p can) =
    ap (option_and_then (λ (v : View). option_and_then (λ (r : FrameRun). option_and_then (λ (p : Piece). if r.stored == p.count then Some (after_sub s i v r p) else None) (own_piece known.plan r)) v.run)) (seat_is s i v can.is_seat)
    ∙ ap (option_and_then (λ (r : FrameRun). option_and_then (λ (p : Piece). if r.stored == p.count then Some (after_sub s i v r p) else None) (own_piece known.plan r))) can.runs
    ∙ ap (option_and_then (λ (p : Piece). if r.stored == p.count then Some (after_sub s i v r p) else None)) (piece_is known.plan r p can.stands)
    ∙ passed (r.stored == p.count) (after_sub s i v r p) (eq-eqb r.stored p.count can.has_stored_all)
steps_are_choices known s t (finish i v r e can) =
    ap (option_and_then (λ (v : View). option_and_then (λ (r : FrameRun). option_and_then (λ (e : TaskEnd). if is_behind_last known.plan r then Some (after_finish s i v r e) else None) (end_of known r.frame)) v.run)) (seat_is s i v can.is_seat)
    ∙ ap (option_and_then (λ (r : FrameRun). option_and_then (λ (e : TaskEnd). if is_behind_last known.plan r then Some (after_finish s i v r e) else None) (end_of known r.frame))) can.runs
    ∙ ap (option_and_then (λ (e : TaskEnd). if is_behind_last known.plan r then Some (after_finish s i v r e) else None)) can.is_meant
    ∙ passed (is_behind_last known.plan r) (after_finish s i v r e) (eq-eqb r.piece ((frame_at known.plan r.frame).piece + (frame_at known.plan r.frame).pieces) can.gave_all)
steps_are_choices known s t (look i v can) =
    ap (option_and_then (λ (v : View). if is_none v.run && nat_le 1 (length known.plan.frames) then Some (after_look known s i v) else None)) (seat_is s i v can.is_seat)
    ∙ passed (is_none v.run && nat_le 1 (length known.plan.frames)) (after_look known s i v) (and_from (is_none v.run) (nat_le 1 (length known.plan.frames)) (ap is_none can.runs_nothing) (le-leb 1 (length known.plan.frames) can.has_frames))

-- the states that choices reach
ways : (known : Known) (t : CoreState) (cs : List Choice) (o : Option CoreState) → ((s : CoreState) → o ≡ Some s → Way known s) → fold (λ (s : Option CoreState) (c : Choice). option_and_then (λ (t : CoreState). after_choice known t c) s) o cs ≡ Some t → Way known t
ways known t [] o way h = way t h
ways known t (c ∷ cs) o way h = ways known t cs (option_and_then (λ (s : CoreState). after_choice known s c) o) (λ s e. next s (bound (λ (s : CoreState). after_choice known s c) o s e)) h
  where
    next : (s : CoreState) → (old : CoreState) × (o ≡ Some old) × (after_choice known old c ≡ Some s) → Way known s
    next s (old, is, e) = goes old s (way old is) (choices_are_steps known old s c e).0

pub choices_are_ways : (known : Known) (t : CoreState) (cs : List Choice) → reached_by known cs ≡ Some t → Way known t
choices_are_ways known t cs h = ways known t cs (Some (opening known)) (λ s e. subst (Way known) (same_Some (opening known) s e) opens) h
