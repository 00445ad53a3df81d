-- What a worker did, one turn after another.
use Rattle.std.proofs.Common.{◌≡◌, ℕ, ◌+◌, ◌*◌, ◌≤◌, List, [], ◌∷◌, ◌++◌, length, refl, sym, ap, ◌∙◌, subst, append-nil, append_assoc, arith}
use Rattle.flow_core_concurrent.specs.declared.known.Known.{Known}
use Rattle.flow_core_concurrent.specs.declared.view.View.{View}
use Rattle.frame_table.specs.Plays.{finished}
use Rattle.task_workers_worker.specs.Worked.{Begins, below, Worked}
use Rattle.task_workers_worker.specs.Turns.{Claimed, Idled, Gave}
use Rattle.task_workers_worker.specs.Left.{left_of}
use Rattle.task_workers_worker.proofs.Counts.{left_less}
use Rattle.task_workers_worker.proofs.Steps.{begins_same, begins_on}
use Rattle.task_workers_worker.proofs.Unmade.{below_append}
use Rattle.os_io.specs.Counts.{raised}

pub gave_nothing : (n : ℕ) (v : View) (pushed : List ℕ) → Gave n v v pushed pushed
gave_nothing n v pushed = record { opened = []; made = sym (append-nil v.made); pushes = sym (append-nil pushed); ran = refl; missed = refl; found = refl; lost = refl; shares = refl; looks = omega arith }

joined : (n : ℕ) (p p' p'' a b : List ℕ) → p' ≡ p ++ below n a → p'' ≡ p' ++ below n b → p'' ≡ p ++ below n (a ++ b)
joined n p p' p'' a b e f = f ∙ ap (λ l. l ++ below n b) e ∙ append_assoc p (below n a) (below n b) ∙ ap (λ l. p ++ l) (sym (below_append n a b))

longer : (xs ys zs a b : List ℕ) → ys ≡ xs ++ a → zs ≡ ys ++ b → zs ≡ xs ++ (a ++ b)
longer xs ys zs a b e f = f ∙ ap (λ l. l ++ b) e ∙ append_assoc xs a b

pub gave_on : (n : ℕ) (u v w : View) (p p' p'' : List ℕ) → Gave n u v p p' → Gave n v w p' p'' → Gave n u w p p''
gave_on n u v w p p' p'' a b = record {
  opened = a.opened ++ b.opened;
  made = longer u.made v.made w.made a.opened b.opened a.made b.made;
  pushes = joined n p p' p'' a.opened b.opened a.pushes b.pushes;
  ran = b.ran ∙ a.ran;
  missed = b.missed ∙ a.missed;
  found = b.found ∙ a.found;
  lost = b.lost ∙ a.lost;
  shares = b.shares ∙ a.shares;
  looks = let x = a.looks in let y = b.looks in omega (arith, x, y);
}

pub gave_finished : (n : ℕ) (u v w : View) (p p' : List ℕ) → Gave n u v p p' → w ≡ finished v → Gave n u w p p'
gave_finished n u v w p p' a is = subst (λ (x : View). Gave n u x p p') (sym is) (record { opened = a.opened; made = a.made; pushes = a.pushes; ran = a.ran; missed = a.missed; found = a.found; lost = a.lost; shares = a.shares; looks = a.looks })

pub worked_nothing : (n : ℕ) (v : View) (p l : List ℕ) → Worked n v v p p l l
worked_nothing n v p l = record { opened = []; made = sym (append-nil v.made); pushes = sym (append-nil p); newly = []; ran = sym (append-nil v.ran); logs = sym (append-nil l); missed = begins_same v.missed; found = begins_same v.found; lost = begins_same v.lost; shares = refl }

pub worked_idled : (n : ℕ) (u v : View) (p p' l : List ℕ) → Idled u v → p' ≡ p → Worked n u v p p' l l
worked_idled n u v p p' l i same = record { opened = []; made = i.made ∙ sym (append-nil u.made); pushes = same ∙ sym (append-nil p); newly = []; ran = i.ran ∙ sym (append-nil u.ran); logs = sym (append-nil l); missed = i.missed; found = i.found; lost = i.lost; shares = i.shares }

as_begins : (xs ys zs : List ℕ) → Begins xs ys → zs ≡ ys → Begins xs zs
as_begins xs ys zs a e = (a.0, e ∙ a.1)

pub worked_ran : (known : Known) (n : ℕ) (u v w : View) (f : ℕ) (p p' p'' l l' : List ℕ) → Claimed known u v f → p' ≡ p → Gave n v w p' p'' → l' ≡ l ++ f ∷ [] → Worked n u w p p'' l l'
worked_ran known n u v w f p p' p'' l l' c same g logged = record {
  opened = g.opened;
  made = g.made ∙ ap (λ m. m ++ g.opened) c.made;
  pushes = g.pushes ∙ ap (λ m. m ++ below n g.opened) same;
  newly = f ∷ [];
  ran = g.ran ∙ c.ran;
  logs = logged;
  missed = as_begins u.missed v.missed w.missed c.missed g.missed;
  found = as_begins u.found v.found w.found c.found g.found;
  lost = as_begins u.lost v.lost w.lost c.lost g.lost;
  shares = g.shares ∙ c.shares;
}

pub worked_on : (n : ℕ) (u v w : View) (p p' p'' l l' l'' : List ℕ) → Worked n u v p p' l l' → Worked n v w p' p'' l' l'' → Worked n u w p p'' l l''
worked_on n u v w p p' p'' l l' l'' a b = record {
  opened = a.opened ++ b.opened;
  made = longer u.made v.made w.made a.opened b.opened a.made b.made;
  pushes = joined n p p' p'' a.opened b.opened a.pushes b.pushes;
  newly = a.newly ++ b.newly;
  ran = longer u.ran v.ran w.ran a.newly b.newly a.ran b.ran;
  logs = longer l l' l'' a.newly b.newly a.logs b.logs;
  missed = begins_on u.missed v.missed w.missed a.missed b.missed;
  found = begins_on u.found v.found w.found a.found b.found;
  lost = begins_on u.lost v.lost w.lost a.lost b.lost;
  shares = b.shares ∙ a.shares;
}

-- one more ask
pub asked_more : (before now after k : ℕ) → raised before k ≤ now → after ≡ raised now 1 → raised before (k + 1) ≤ after
asked_more before now after k a b = omega (arith, a, b)

pub looks_more : (looks : ℕ) (looks' k : ℕ) → looks ≤ 65 * k → looks' ≤ looks + 65 → looks' ≤ 65 * (k + 1)
looks_more looks looks' k a b = omega (arith, a, b)

-- a frame that was claimed and run is left no more
pub ran_less : (known : Known) (n : ℕ) (u v w : View) (f : ℕ) (p p' : List ℕ) → n ≡ length known.plan.frames → Claimed known u v f → Gave n v w p p' → left_of n w.ran + 1 ≡ left_of n u.ran
ran_less known n u v w f p p' is c g =
    let e : w.ran ≡ u.ran ++ f ∷ [] = g.ran ∙ c.ran in
    let lt = c.exists in
    ap (λ r. left_of n r + 1) e ∙ left_less n u.ran f (omega (arith, is, lt)) c.is_new
