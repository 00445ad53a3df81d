use Rattle.std.proofs.Common.{arith, ap, sym, subst, refl, ◌∙◌, ◌≡◌, ◌++◌, ◌≤◌, ◌<◌, [], ◌∷◌, List, length, get_or, Some, append-nil, ℕ}
use Rattle.std.specs.Prelude.{slice_get}
use Rattle.flow_core_laws.specs.declared.plan.Plan.{Plan}
use Rattle.flow_core_laws.specs.declared.plan.Piece.{Piece}
use Rattle.flow_core_concurrent.specs.declared.view.View.{View}
use Rattle.frame_table.specs.Tokens.{view_of, known_of}
use Rattle.steal_pool.specs.Hands.{pushed_by, spare_of}
use Rattle.task_workers_worker.proofs.Steps.{sub_is, gave_closed, gave_opened, made_closed, made_opened, at_number}
use Rattle.task_workers_worker.proofs.Unmade.{unmade_other, unmade_less, below_one, below_none, waited}
use Rattle.task_workers_worker.specs.Worked.{unmade}
use Rattle.task_workers_worker.proofs.running.give_one.Goals as goal

pub returns-then-not-deliver-clause-runs : goal.returns-then-not-deliver-clause-runs
returns-then-not-deliver-clause-runs c =
    let t = c.args.table.now in
    let known = known_of t in
    let v = view_of c.args.seat.now in
    let w = view_of c.deliver.new.seat in
    let d = c.requires.may_deliver in
    let p = d.0 in
    let has = d.2.stands.has_number in
    let there = subst (λ (q : Plan). slice_get q.pieces c.args.piece ≡ Some p) t.plan_is has in
    let is = sub_is v w c.args.frame c.args.piece p.to c.deliver.result c.requires.runs (c.deliver.ensures.step p there) in
    ap (λ (u : View). u.run) is

pub returns-then-to-len-clause-runs : goal.returns-then-to-len-clause-runs
returns-then-to-len-clause-runs c =
    let t = c.args.table.now in
    let known = known_of t in
    let v = view_of c.args.seat.now in
    let w = view_of c.deliver.new.seat in
    let d = c.requires.may_deliver in
    let p = d.0 in
    let has = d.2.stands.has_number in
    let there = subst (λ (q : Plan). slice_get q.pieces c.args.piece ≡ Some p) t.plan_is has in
    let is = sub_is v w c.args.frame c.args.piece p.to c.deliver.result c.requires.runs (c.deliver.ensures.step p there) in
    ap (λ (u : View). u.run) is

pub returns-clause-runs : goal.returns-clause-runs
returns-clause-runs c =
    let t = c.args.table.now in
    let known = known_of t in
    let v = view_of c.args.seat.now in
    let w = view_of c.deliver.new.seat in
    let d = c.requires.may_deliver in
    let p = d.0 in
    let has = d.2.stands.has_number in
    let there = subst (λ (q : Plan). slice_get q.pieces c.args.piece ≡ Some p) t.plan_is has in
    let is = sub_is v w c.args.frame c.args.piece p.to c.deliver.result c.requires.runs (c.deliver.ensures.step p there) in
    ap (λ (u : View). u.run) is

pub returns-then-not-deliver-clause-gave : goal.returns-then-not-deliver-clause-gave
returns-then-not-deliver-clause-gave c =
    let t = c.args.table.now in
    let known = known_of t in
    let v = view_of c.args.seat.now in
    let w = view_of c.deliver.new.seat in
    let d = c.requires.may_deliver in
    let p = d.0 in
    let has = d.2.stands.has_number in
    let there = subst (λ (q : Plan). slice_get q.pieces c.args.piece ≡ Some p) t.plan_is has in
    let is = sub_is v w c.args.frame c.args.piece p.to c.deliver.result c.requires.runs (c.deliver.ensures.step p there) in
    gave_closed (length known.plan.frames) v w c.args.frame c.args.piece p.to c.deliver.result (pushed_by c.args.hand.now) (pushed_by c.args.hand.now) is c.if-not-deliver.true refl

pub returns-then-not-deliver-clause-serves : goal.returns-then-not-deliver-clause-serves
returns-then-not-deliver-clause-serves c =
    let t = c.args.table.now in
    let known = known_of t in
    let v = view_of c.args.seat.now in
    let w = view_of c.deliver.new.seat in
    let d = c.requires.may_deliver in
    let p = d.0 in
    let has = d.2.stands.has_number in
    let there = subst (λ (q : Plan). slice_get q.pieces c.args.piece ≡ Some p) t.plan_is has in
    let is = sub_is v w c.args.frame c.args.piece p.to c.deliver.result c.requires.runs (c.deliver.ensures.step p there) in
    record { bounded = c.requires.serves.bounded; room = subst (λ (m : List ℕ). unmade known.plan (length known.plan.frames) m ≤ spare_of c.args.hand.now) (sym (made_closed v w c.args.frame c.args.piece p.to c.deliver.result is c.if-not-deliver.true)) c.requires.serves.room }

pub returns-then-to-len-clause-gave : goal.returns-then-to-len-clause-gave
returns-then-to-len-clause-gave c =
    let t = c.args.table.now in
    let known = known_of t in
    let v = view_of c.args.seat.now in
    let w = view_of c.deliver.new.seat in
    let d = c.requires.may_deliver in
    let p = d.0 in
    let has = d.2.stands.has_number in
    let there = subst (λ (q : Plan). slice_get q.pieces c.args.piece ≡ Some p) t.plan_is has in
    let is = sub_is v w c.args.frame c.args.piece p.to c.deliver.result c.requires.runs (c.deliver.ensures.step p there) in
    let n : length known.plan.frames ≡ length t.plan.now.frames = ap (λ (q : Plan). length q.frames) t.plan_is in
    let len : c.len.result ≡ length t.plan.now.frames = c.len.ensures ∙ ap (λ (q : Plan). length q.frames) c.plan-2.ensures in
    let none : Piece = record { from = 0; to = 0; first = 0; count = 0; at = 0 } in
    let pieces : c.as_slice.result.now ≡ t.plan.now.pieces = c.as_slice.ensures ∙ ap (λ (q : Plan). q.pieces) c.plan.ensures in
    let to : (get_or c.as_slice.result.now c.args.piece none).to ≡ p.to = ap (λ (xs : List Piece). (get_or xs c.args.piece none).to) pieces ∙ ap (λ (q : Piece). q.to) (at_number t.plan.now.pieces c.args.piece p none there) in
    let high = c.if-to-len.true in
    let past : (length known.plan.frames) ≤ p.to = omega (arith, n, len, to, high) in
    gave_opened (length known.plan.frames) v w c.args.frame c.args.piece p.to c.deliver.result (pushed_by c.args.hand.now) (pushed_by c.args.hand.now) is c.if-not-deliver.false (sym (append-nil (pushed_by c.args.hand.now)) ∙ ap (λ xs. pushed_by c.args.hand.now ++ xs) (sym (below_none (length known.plan.frames) p.to past)))

pub returns-then-to-len-clause-serves : goal.returns-then-to-len-clause-serves
returns-then-to-len-clause-serves c =
    let t = c.args.table.now in
    let known = known_of t in
    let v = view_of c.args.seat.now in
    let w = view_of c.deliver.new.seat in
    let d = c.requires.may_deliver in
    let p = d.0 in
    let has = d.2.stands.has_number in
    let there = subst (λ (q : Plan). slice_get q.pieces c.args.piece ≡ Some p) t.plan_is has in
    let is = sub_is v w c.args.frame c.args.piece p.to c.deliver.result c.requires.runs (c.deliver.ensures.step p there) in
    let n : length known.plan.frames ≡ length t.plan.now.frames = ap (λ (q : Plan). length q.frames) t.plan_is in
    let len : c.len.result ≡ length t.plan.now.frames = c.len.ensures ∙ ap (λ (q : Plan). length q.frames) c.plan-2.ensures in
    let none : Piece = record { from = 0; to = 0; first = 0; count = 0; at = 0 } in
    let pieces : c.as_slice.result.now ≡ t.plan.now.pieces = c.as_slice.ensures ∙ ap (λ (q : Plan). q.pieces) c.plan.ensures in
    let to : (get_or c.as_slice.result.now c.args.piece none).to ≡ p.to = ap (λ (xs : List Piece). (get_or xs c.args.piece none).to) pieces ∙ ap (λ (q : Piece). q.to) (at_number t.plan.now.pieces c.args.piece p none there) in
    let high = c.if-to-len.true in
    let past : (length known.plan.frames) ≤ p.to = omega (arith, n, len, to, high) in
    record { bounded = c.requires.serves.bounded; room = subst (λ (m : List ℕ). unmade known.plan (length known.plan.frames) m ≤ spare_of c.args.hand.now) (sym (made_opened v w c.args.frame c.args.piece p.to c.deliver.result is c.if-not-deliver.false)) (let a = unmade_other known.plan (length known.plan.frames) v.made p.to past in let b = c.requires.serves.room in omega (arith, a, b)) }

pub push-requires-clause-room : goal.push-requires-clause-room
push-requires-clause-room c =
    let t = c.args.table.now in
    let known = known_of t in
    let v = view_of c.args.seat.now in
    let w = view_of c.deliver.new.seat in
    let d = c.requires.may_deliver in
    let p = d.0 in
    let has = d.2.stands.has_number in
    let there = subst (λ (q : Plan). slice_get q.pieces c.args.piece ≡ Some p) t.plan_is has in
    let is = sub_is v w c.args.frame c.args.piece p.to c.deliver.result c.requires.runs (c.deliver.ensures.step p there) in
    let n : length known.plan.frames ≡ length t.plan.now.frames = ap (λ (q : Plan). length q.frames) t.plan_is in
    let len : c.len.result ≡ length t.plan.now.frames = c.len.ensures ∙ ap (λ (q : Plan). length q.frames) c.plan-2.ensures in
    let none : Piece = record { from = 0; to = 0; first = 0; count = 0; at = 0 } in
    let pieces : c.as_slice.result.now ≡ t.plan.now.pieces = c.as_slice.ensures ∙ ap (λ (q : Plan). q.pieces) c.plan.ensures in
    let to : (get_or c.as_slice.result.now c.args.piece none).to ≡ p.to = ap (λ (xs : List Piece). (get_or xs c.args.piece none).to) pieces ∙ ap (λ (q : Piece). q.to) (at_number t.plan.now.pieces c.args.piece p none there) in
    let low = c.if-to-len.false in
    let inside : p.to < (length known.plan.frames) = omega (arith, n, len, to, low) in
    let less = unmade_less known.plan (length known.plan.frames) v.made p.to inside (c.deliver.ensures.new p there c.if-not-deliver.false) (waited known.plan c.args.piece p t.fit.plan_is_sound has) in
    let room = c.requires.serves.room in
    omega (arith, less, room)

pub returns-clause-gave : goal.returns-clause-gave
returns-clause-gave c =
    let t = c.args.table.now in
    let known = known_of t in
    let v = view_of c.args.seat.now in
    let w = view_of c.deliver.new.seat in
    let d = c.requires.may_deliver in
    let p = d.0 in
    let has = d.2.stands.has_number in
    let there = subst (λ (q : Plan). slice_get q.pieces c.args.piece ≡ Some p) t.plan_is has in
    let is = sub_is v w c.args.frame c.args.piece p.to c.deliver.result c.requires.runs (c.deliver.ensures.step p there) in
    let n : length known.plan.frames ≡ length t.plan.now.frames = ap (λ (q : Plan). length q.frames) t.plan_is in
    let len : c.len.result ≡ length t.plan.now.frames = c.len.ensures ∙ ap (λ (q : Plan). length q.frames) c.plan-2.ensures in
    let none : Piece = record { from = 0; to = 0; first = 0; count = 0; at = 0 } in
    let pieces : c.as_slice.result.now ≡ t.plan.now.pieces = c.as_slice.ensures ∙ ap (λ (q : Plan). q.pieces) c.plan.ensures in
    let to : (get_or c.as_slice.result.now c.args.piece none).to ≡ p.to = ap (λ (xs : List Piece). (get_or xs c.args.piece none).to) pieces ∙ ap (λ (q : Piece). q.to) (at_number t.plan.now.pieces c.args.piece p none there) in
    let low = c.if-to-len.false in
    let inside : p.to < (length known.plan.frames) = omega (arith, n, len, to, low) in
    gave_opened (length known.plan.frames) v w c.args.frame c.args.piece p.to c.deliver.result (pushed_by c.args.hand.now) (pushed_by c.push.new.self) is c.if-not-deliver.false (c.push.ensures.pushed ∙ ap (λ f. pushed_by c.args.hand.now ++ f ∷ []) to ∙ ap (λ xs. pushed_by c.args.hand.now ++ xs) (sym (below_one (length known.plan.frames) p.to inside)))

pub returns-clause-serves : goal.returns-clause-serves
returns-clause-serves c =
    let t = c.args.table.now in
    let known = known_of t in
    let v = view_of c.args.seat.now in
    let w = view_of c.deliver.new.seat in
    let d = c.requires.may_deliver in
    let p = d.0 in
    let has = d.2.stands.has_number in
    let there = subst (λ (q : Plan). slice_get q.pieces c.args.piece ≡ Some p) t.plan_is has in
    let is = sub_is v w c.args.frame c.args.piece p.to c.deliver.result c.requires.runs (c.deliver.ensures.step p there) in
    let n : length known.plan.frames ≡ length t.plan.now.frames = ap (λ (q : Plan). length q.frames) t.plan_is in
    let len : c.len.result ≡ length t.plan.now.frames = c.len.ensures ∙ ap (λ (q : Plan). length q.frames) c.plan-2.ensures in
    let none : Piece = record { from = 0; to = 0; first = 0; count = 0; at = 0 } in
    let pieces : c.as_slice.result.now ≡ t.plan.now.pieces = c.as_slice.ensures ∙ ap (λ (q : Plan). q.pieces) c.plan.ensures in
    let to : (get_or c.as_slice.result.now c.args.piece none).to ≡ p.to = ap (λ (xs : List Piece). (get_or xs c.args.piece none).to) pieces ∙ ap (λ (q : Piece). q.to) (at_number t.plan.now.pieces c.args.piece p none there) in
    let low = c.if-to-len.false in
    let inside : p.to < (length known.plan.frames) = omega (arith, n, len, to, low) in
    let less = unmade_less known.plan (length known.plan.frames) v.made p.to inside (c.deliver.ensures.new p there c.if-not-deliver.false) (waited known.plan c.args.piece p t.fit.plan_is_sound has) in
    let room = c.requires.serves.room in
    let spare = c.push.ensures.spare in
    record { bounded = c.push.ensures.bounded ∙ c.requires.serves.bounded; room = subst (λ (m : List ℕ). unmade known.plan (length known.plan.frames) m ≤ spare_of c.push.new.self) (sym (made_opened v w c.args.frame c.args.piece p.to c.deliver.result is c.if-not-deliver.false)) (omega (arith, less, room, spare)) }
