-- What the steps of a worker do to its view.
use Rattle.std.proofs.Common.{◌≡◌, ℕ, zero, suc, ◌+◌, ◌%◌, ◌==◌, ◌<◌, ◌≤◌, Bool, true, false, if◌then◌else◌, List, [], ◌∷◌, ◌++◌, length, Option, Some, None, refl, sym, ap, ◌∙◌, subst, append-nil, append_assoc, arith, eq-eqb, get_or}
use Rattle.std.specs.Option.{option_map_or}
use Rattle.flow_core_concurrent.specs.declared.known.Known.{Known}
use Rattle.flow_core_concurrent.specs.declared.view.FrameRun.{FrameRun}
use Rattle.flow_core_concurrent.specs.declared.view.View.{View}
use Rattle.flow_core_concurrent.specs.States.{times, knows}
use Rattle.flow_core_concurrent.specs.Steps.{with_claim, with_miss, with_sub, lost_with}
use Rattle.frame_table.specs.Plays.{claimed, looked, subbed}
use Rattle.frame_table.specs.Seats.{at}
use Rattle.task_workers_worker.specs.Worked.{Begins, below}
use Rattle.task_workers_worker.specs.Turns.{Claimed, Idled, Gave}
use Rattle.std.specs.Prelude.{slice_get}

pub begins_same : (xs : List ℕ) → Begins xs xs
begins_same xs = ([], sym (append-nil xs))

pub begins_on : (xs ys zs : List ℕ) → Begins xs ys → Begins ys zs → Begins xs zs
begins_on xs ys zs a b = (a.0 ++ b.0, b.1 ∙ ap (λ l. l ++ b.0) a.1 ∙ append_assoc xs a.0 b.0)

pub begins_push : (xs ys : List ℕ) (f : ℕ) → Begins xs ys → Begins xs (ys ++ f ∷ [])
begins_push xs ys f a = begins_on xs ys (ys ++ f ∷ []) a (f ∷ [], refl)

begins_lost : (xs : List ℕ) (v : View) (f : ℕ) → Begins xs v.lost → Begins xs (lost_with v f)
begins_lost xs v f a = by (knows v f)
  where
    by : (b : Bool) → Begins xs (if b then v.lost ++ f ∷ [] else v.lost)
    by true = begins_push xs v.lost f a
    by false = a

pub idled_same : (v : View) → v.run ≡ None → Idled v v
idled_same v none = record { run = none; ran = refl; made = refl; missed = begins_same v.missed; found = begins_same v.found; lost = begins_same v.lost; shares = refl }

pub idled_on : (u v w : View) → Idled u v → Idled v w → Idled u w
idled_on u v w a b = record { run = b.run; ran = b.ran ∙ a.ran; made = b.made ∙ a.made; missed = begins_on u.missed v.missed w.missed a.missed b.missed; found = begins_on u.found v.found w.found a.found b.found; lost = begins_on u.lost v.lost w.lost a.lost b.lost; shares = b.shares ∙ a.shares }

pub claimed_on : (known : Known) (u v w : View) (f : ℕ) → Idled u v → Claimed known v w f → Claimed known u w f
claimed_on known u v w f a b = record {
  exists = b.exists;
  runs = b.runs;
  is_new = ap (times f) (sym a.ran) ∙ b.is_new;
  ran = b.ran ∙ ap (λ (r : List ℕ). r ++ f ∷ []) a.ran;
  made = b.made ∙ a.made;
  missed = begins_on u.missed v.missed w.missed a.missed b.missed;
  found = begins_on u.found v.found w.found a.found b.found;
  lost = begins_on u.lost v.lost w.lost a.lost b.lost;
  shares = b.shares ∙ a.shares;
}

-- a look
pub idled_looked : (v w : View) (f : ℕ) (b : Bool) → v.run ≡ None → w ≡ looked v f b → Idled v w
idled_looked v w f b none is = subst (Idled v) (sym is) (by b)
  where
    by : (b : Bool) → Idled v (looked v f b)
    by true = record { run = none; ran = refl; made = refl; missed = begins_same v.missed; found = begins_push v.found v.found f (begins_same v.found); lost = begins_same v.lost; shares = refl }
    by false = record { run = none; ran = refl; made = refl; missed = begins_same v.missed; found = begins_same v.found; lost = begins_lost v.lost v f (begins_same v.lost); shares = refl }

pub looks_looked : (v w : View) (f : ℕ) (b : Bool) → w ≡ looked v f b → w.looks ≡ (if b then v.looks else v.looks + 1)
looks_looked v w f b is = ap (λ (u : View). u.looks) is ∙ by b
  where
    by : (b : Bool) → (looked v f b).looks ≡ (if b then v.looks else v.looks + 1)
    by true = refl
    by false = refl

-- a claim that missed
pub idled_missed : (known : Known) (v w : View) (f : ℕ) (b : Bool) → v.run ≡ None → w ≡ claimed known v f b → b ≡ false → Idled v w
idled_missed known v w f b none is missed =
    let e : w ≡ with_miss known v f = is ∙ ap (claimed known v f) missed in
    subst (Idled v) (sym e) (record { run = none; ran = refl; made = refl; missed = begins_push v.missed v.missed f (begins_same v.missed); found = begins_same v.found; lost = begins_lost v.lost v f (begins_same v.lost); shares = refl })

one_more : (b : Bool) (n : ℕ) → (n ≤ (if b then n + 1 else n)) × ((if b then n + 1 else n) ≤ n + 1)
one_more true n = (omega arith, omega arith)
one_more false n = (omega arith, omega arith)

pub looks_missed : (known : Known) (v w : View) (f : ℕ) (b : Bool) → w ≡ claimed known v f b → b ≡ false → (v.looks ≤ w.looks) × (w.looks ≤ v.looks + 1)
looks_missed known v w f b is missed =
    let e : w ≡ with_miss known v f = is ∙ ap (claimed known v f) missed in
    subst (λ (u : View). (v.looks ≤ u.looks) × (u.looks ≤ v.looks + 1)) (sym e) (one_more (f == v.looks % length known.plan.frames) v.looks)

pub looks_missed_turn : (known : Known) (v w : View) (f : ℕ) (b : Bool) → w ≡ claimed known v f b → b ≡ false → f ≡ v.looks % length known.plan.frames → w.looks ≡ v.looks + 1
looks_missed_turn known v w f b is missed turn =
    let e : w ≡ with_miss known v f = is ∙ ap (claimed known v f) missed in
    ap (λ (u : View). u.looks) e ∙ ap (λ (t : Bool). if t then v.looks + 1 else v.looks) (eq-eqb f (v.looks % length known.plan.frames) turn)

-- a claim that succeeded
pub claimed_now : (known : Known) (v w : View) (f : ℕ) (b : Bool) → w ≡ claimed known v f b → b ≡ true → f < length known.plan.frames → times f v.ran ≡ 0 → Claimed known v w f
claimed_now known v w f b is took exists new =
    let e : w ≡ with_claim known v f = is ∙ ap (claimed known v f) took in
    subst (λ (u : View). Claimed known v u f) (sym e) (record { exists = exists; runs = refl; is_new = new; ran = refl; made = refl; missed = begins_same v.missed; found = begins_same v.found; lost = begins_same v.lost; shares = refl })

pub claimed_looks : (known : Known) (v w : View) (f : ℕ) (b : Bool) → w ≡ claimed known v f b → b ≡ true → w.looks ≡ 0
claimed_looks known v w f b is took = ap (λ (u : View). u.looks) (is ∙ ap (claimed known v f) took)

-- a piece was counted
pub sub_is : (v w : View) (f n to : ℕ) (opens : Bool) → v.run ≡ Some (at f n 0) → w ≡ subbed v to opens → w ≡ with_sub v (at f n 0) to opens
sub_is v w f n to opens runs is = is ∙ ap (λ (r : Option FrameRun). option_map_or (λ (r : FrameRun). with_sub v r to opens) r v) runs

pub gave_closed : (n : ℕ) (v w : View) (f k to : ℕ) (opens : Bool) (pushed pushed' : List ℕ) → w ≡ with_sub v (at f k 0) to opens → opens ≡ false → pushed' ≡ pushed → Gave n v w pushed pushed'
gave_closed n v w f k to opens pushed pushed' is shut same =
    let e : w ≡ with_sub v (at f k 0) to false = is ∙ ap (with_sub v (at f k 0) to) shut in record {
      opened = [];
      made = ap (λ (u : View). u.made) e ∙ sym (append-nil v.made);
      pushes = same ∙ sym (append-nil pushed);
      ran = ap (λ (u : View). u.ran) e;
      missed = ap (λ (u : View). u.missed) e;
      found = ap (λ (u : View). u.found) e;
      lost = ap (λ (u : View). u.lost) e;
      shares = ap (λ (u : View). u.shares) e;
      looks = let l : w.looks ≡ v.looks = ap (λ (u : View). u.looks) e in omega (arith, l);
    }

pub gave_opened : (n : ℕ) (v w : View) (f k to : ℕ) (opens : Bool) (pushed pushed' : List ℕ) → w ≡ with_sub v (at f k 0) to opens → opens ≡ true → pushed' ≡ pushed ++ below n (to ∷ []) → Gave n v w pushed pushed'
gave_opened n v w f k to opens pushed pushed' is open_ more =
    let e : w ≡ with_sub v (at f k 0) to true = is ∙ ap (with_sub v (at f k 0) to) open_ in record {
      opened = to ∷ [];
      made = ap (λ (u : View). u.made) e;
      pushes = more;
      ran = ap (λ (u : View). u.ran) e;
      missed = ap (λ (u : View). u.missed) e;
      found = ap (λ (u : View). u.found) e;
      lost = ap (λ (u : View). u.lost) e;
      shares = ap (λ (u : View). u.shares) e;
      looks = let l : w.looks ≡ 0 = ap (λ (u : View). u.looks) e in omega (arith, l);
    }

pub made_closed : (v w : View) (f k to : ℕ) (opens : Bool) → w ≡ with_sub v (at f k 0) to opens → opens ≡ false → w.made ≡ v.made
made_closed v w f k to opens is shut = ap (λ (u : View). u.made) (is ∙ ap (with_sub v (at f k 0) to) shut)

pub made_opened : (v w : View) (f k to : ℕ) (opens : Bool) → w ≡ with_sub v (at f k 0) to opens → opens ≡ true → w.made ≡ v.made ++ to ∷ []
made_opened v w f k to opens is open_ = ap (λ (u : View). u.made) (is ∙ ap (with_sub v (at f k 0) to) open_)

abbrev is_none' : {A : Type 0} → Option A → Type 0
is_none' None = Unit {0}
is_none' (Some x) = ⊥

pub at_number : {A : Type 0} (xs : List A) (i : ℕ) (a d : A) → slice_get xs i ≡ Some a → get_or xs i d ≡ a
at_number [] i a d e = absurd (subst is_none' e tt)
at_number (x ∷ xs) zero a d e = ap (λ o. option_map_or (λ y. y) o d) e
at_number (x ∷ xs) (suc i) a d e = at_number xs i a d e
