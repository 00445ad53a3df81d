-- The runs of seats, and what they say of the words.
use Rattle.std.proofs.Common.{◌≡◌, ℕ, ◌<◌, ◌≤◌, ◌≢◌, false, Some, length, refl, sym, ap, ◌∙◌, subst, ◌⊎◌, inl, inr, arith, count_by, true, eq-eqb}
use Rattle.std.specs.Prelude.{slice_get, ◌==◌, ◌&&◌, nat_lt}
use Rattle.std.proofs.lemmas.Bool.{cases_eq, ne_eqb, lt-ltb, le-ltb, and_left, and_right}
use Rattle.flow_core_laws.specs.declared.plan.Piece.{Piece}
use Rattle.flow_core_concurrent.specs.declared.view.FrameRun.{FrameRun}
use Rattle.flow_core_concurrent.specs.Counted.{one, is_run_of, is_past, has_stored}
use Rattle.flow_core_concurrent.proofs.Sums.{count_by-has}
use Rattle.flow_core_concurrent.proofs.Words.{one_is_true, taken_is}
use Rattle.flow_core_laws.specs.declared.plan.Plan.{Plan}
use Rattle.flow_core_laws.specs.IsSound.{IsSound}
use Rattle.flow_core_laws.specs.Plans.{frame_at}
use Rattle.flow_core_concurrent.specs.declared.known.Known.{Known}
use Rattle.flow_core_concurrent.specs.declared.view.View.{View}
use Rattle.flow_core_concurrent.specs.declared.word.Word.{Word}
use Rattle.flow_core_concurrent.specs.declared.word.Word.TheVariants.{Taken}
use Rattle.flow_core_concurrent.specs.Words.{is_taken, word_at}
use Rattle.flow_core_concurrent.specs.States.{CoreState, runs_of}
use Rattle.flow_core_concurrent.specs.Steps.{first_place}
use Rattle.flow_core_concurrent.specs.IsGood.{IsGood, IsRunPlace}
use Rattle.flow_core_concurrent.proofs.Counts.{piece_of_frame}
use Rattle.flow_core_concurrent.proofs.Parts.{run_at}

pub same_frame : (f : ℕ) → (f == f) ≡ true
same_frame f = eq-eqb f f refl

-- a run is past a piece of its frame exactly where its number is greater, and past none of another frame
pub is_past-later : (r : FrameRun) (from q : ℕ) → r.frame ≡ from → q < r.piece → is_past from q (Some r) ≡ true
is_past-later r from q e lt = ap (λ b. b && nat_lt q r.piece) (eq-eqb r.frame from e) ∙ lt-ltb q r.piece lt

pub is_past-earlier : (r : FrameRun) (from q : ℕ) → r.piece ≤ q → is_past from q (Some r) ≡ false
is_past-earlier r from q le = and_right (r.frame == from) (nat_lt q r.piece) (le-ltb q r.piece le)

pub is_past-other : (r : FrameRun) (from q : ℕ) → r.frame ≢ from → is_past from q (Some r) ≡ false
is_past-other r from q n = and_left (r.frame == from) (nat_lt q r.piece) (ne_eqb r.frame from n)

-- where nothing of a piece is stored
pub has_stored-none : (r : FrameRun) (from q k : ℕ) → r.stored ≡ 0 → has_stored from q k (Some r) ≡ false
has_stored-none r from q k e = and_right (r.frame == from && r.piece == q) (nat_lt k r.stored) (le-ltb k r.stored (omega (arith, e)))

-- the run of a seat, among all runs
pub run_there : (s : CoreState) (i : ℕ) (v : View) (r : FrameRun) → slice_get s.seats i ≡ Some v → v.run ≡ Some r → slice_get (runs_of s) i ≡ Some (Some r)
run_there s i v r sees runs = run_at s.seats i v sees ∙ ap Some runs

-- a frame that a seat runs is Taken
pub running_is_taken : (known : Known) (s : CoreState) (i : ℕ) (v : View) (r : FrameRun) → IsGood known s → slice_get s.seats i ≡ Some v → v.run ≡ Some r → word_at s.words r.frame ≡ Taken
running_is_taken known s i v r g sees runs =
    let a = count_by-has (is_run_of r.frame) (runs_of s) i (Some r) (run_there s i v r sees runs) (same_frame r.frame) in
    let b = g.taken_is_run_by_one r.frame in
    taken_is (word_at s.words r.frame) (one_is_true (is_taken (word_at s.words r.frame)) (omega (arith, a, b)))

-- it alone runs it
pub runs_alone : (known : Known) (s : CoreState) (i : ℕ) (v : View) (r : FrameRun) → IsGood known s → slice_get s.seats i ≡ Some v → v.run ≡ Some r → count_by (is_run_of r.frame) (runs_of s) ≡ 1
runs_alone known s i v r g sees runs = g.taken_is_run_by_one r.frame ∙ ap (λ (w : Word). one (is_taken w)) (running_is_taken known s i v r g sees runs)

-- the first place of a frame is one of its places
pub first_is_place : (plan : Plan) (f : ℕ) → f < length plan.frames → IsRunPlace plan (first_place plan f)
first_is_place plan f lt = record {
  of_a_frame = lt;
  from_its_first = omega arith;
  to_its_last = omega arith;
  stores_its_elements = λ p h. omega arith;
  has_none_behind = λ h. refl;
}

-- a run of which nothing was given is past no piece
pub is_past-first : (plan : Plan) (f q : ℕ) (p : Piece) → IsSound plan → slice_get plan.pieces q ≡ Some p → is_past p.from q (Some (first_place plan f)) ≡ false
is_past-first plan f q p sound h = by (cases_eq f p.from)
  where
    by : (f ≡ p.from) ⊎ (f ≢ p.from) → is_past p.from q (Some (first_place plan f)) ≡ false
    by (inl e) = is_past-earlier (first_place plan f) p.from q (subst (λ g. (frame_at plan g).piece ≤ q) (sym e) (piece_of_frame plan q p sound h).0)
    by (inr n) = is_past-other (first_place plan f) p.from q n
