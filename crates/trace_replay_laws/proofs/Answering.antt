-- One right answer.
use Rattle.std.proofs.Common.{◌≡◌, ◌≢◌, ℕ, ℤ, ◌<◌, ◌≤◌, List, Option, Some, None, length, refl, sym, ap, ◌∙◌, subst, ◌⊎◌, inl, inr, arith}
use Rattle.std.specs.Prelude.{is_some, IsSome, true, false}
use Rattle.std.proofs.lemmas.Bool.{cases_order}
use Rattle.std.proofs.lemmas.Option.{same_Some}
use Rattle.flow_core_laws.specs.declared.plan.Plan.{Plan}
use Rattle.flow_core_laws.specs.declared.ends.Ends.{Ends}
use Rattle.flow_core_laws.specs.declared.elem.Elem.{Elem}
use Rattle.flow_core_laws.specs.declared.outcome.Outcome.{Outcome}
use Rattle.flow_core_laws.specs.Outcome.{State}
use Rattle.flow_core_laws.specs.Round.{IsEnabled}
use Rattle.flow_core_laws.specs.Poisoning.{poisoning}
use Rattle.flow_core_laws.specs.Plans.{frame_at, number_at, cell_source, plan_reads, plan_element}
use Rattle.flow_core_laws.proofs.Elements.{element_kept}
use Rattle.trace_replay_laws.specs.declared.replayed.Replayed.{Replayed}
use Rattle.trace_replay_laws.specs.declared.replayed.Replayed.TheVariants.{Whole, Short, Stuck, Repeat, Stranger}
use Rattle.trace_replay_laws.specs.Lists.{number_in, AreBelow, IsBefore, IsFirstStranger, HaveNoRepeat, IsFirstRepeat, Taken, taken_from, head_after, HaveRun}
use Rattle.trace_replay_laws.specs.Answers.{plan_after, IsLawfulOrder, IsEnabledAfter, IsFirstEmpty, AreStuck, AreShort, AreWhole, AreFrames, IsAnswer}
use Rattle.trace_replay_laws.proofs.Heads.{agree, as_many, run_of_order}

-- of two places one comes before the other, or they are one
places : (l p m q : ℕ) → ((l ≡ m) × (p ≡ q)) ⊎ (IsBefore l p m q ⊎ IsBefore m q l p)
places l p m q = by (cases_order l m) (cases_order p q)
  where
    by : (l ≡ m) ⊎ ((l < m) ⊎ (m < l)) → (p ≡ q) ⊎ ((p < q) ⊎ (q < p)) → ((l ≡ m) × (p ≡ q)) ⊎ (IsBefore l p m q ⊎ IsBefore m q l p)
    by (inr (inl lt)) places = inr (inl (inl lt))
    by (inr (inr gt)) places = inr (inr (inl gt))
    by (inl e) (inl same) = inl (e, same)
    by (inl e) (inr (inl lt)) = inr (inl (inr (e, lt)))
    by (inl e) (inr (inr gt)) = inr (inr (inr (sym e, gt)))

not_itself : (l p m q : ℕ) → IsBefore l p m q → l ≡ m → p ≡ q → ⊥
not_itself l p m q (inl lt) e same = omega arith
not_itself l p m q (inr (is, lt)) e same = omega arith

not_strange : (n : ℕ) (lists : List (List ℕ)) (l p : ℕ) → IsFirstStranger n lists l p → AreBelow n lists → ⊥
not_strange n lists l p s below = let lt = below l p s.frame s.stands in let ge = s.is_strange in omega (arith, lt, ge)

not_repeated : (lists : List (List ℕ)) (f : ℕ) → IsFirstRepeat lists f → HaveNoRepeat lists → ⊥
not_repeated lists f r once =
    let (l, p, before, is) = r.stood_before in
    let (same_list, same_place) = once l p r.list r.place f is r.stands in
    not_itself l p r.list r.place before same_list same_place

not_stranger_before : (n : ℕ) (lists : List (List ℕ)) (l p m q : ℕ) → IsFirstStranger n lists l p → IsFirstStranger n lists m q → IsBefore l p m q → ⊥
not_stranger_before n lists l p m q s t before = let lt = t.is_first l p s.frame before s.stands in let ge = s.is_strange in omega (arith, lt, ge)

one_stranger : (n : ℕ) (lists : List (List ℕ)) (l p m q : ℕ) → IsFirstStranger n lists l p → IsFirstStranger n lists m q → Stranger l p ≡ Stranger m q
one_stranger n lists l p m q s t = by (places l p m q)
  where
    by : ((l ≡ m) × (p ≡ q)) ⊎ (IsBefore l p m q ⊎ IsBefore m q l p) → Stranger l p ≡ Stranger m q
    by (inl (e, same)) = λ i. Stranger (e i) (same i)
    by (inr (inl before)) = absurd (not_stranger_before n lists l p m q s t before)
    by (inr (inr before)) = absurd (not_stranger_before n lists m q l p t s before)

one_repeat : (lists : List (List ℕ)) (f g : ℕ) → IsFirstRepeat lists f → IsFirstRepeat lists g → f ≡ g
one_repeat lists f g r s = by (places r.list r.place s.list s.place)
  where
    by : ((r.list ≡ s.list) × (r.place ≡ s.place)) ⊎ (IsBefore r.list r.place s.list s.place ⊎ IsBefore s.list s.place r.list r.place) → f ≡ g
    by (inl (e, same)) = same_Some f g (sym r.stands ∙ (λ i. number_in lists (e i) (same i)) ∙ s.stands)
    by (inr (inl before)) = absurd (s.is_first r.list r.place f before r.stands r.stood_before)
    by (inr (inr before)) = absurd (r.is_first s.list s.place g before s.stands s.stood_before)

module _ (plan : Plan) (outcome : ℕ → List ℤ → Outcome) (lists : List (List ℕ)) (frames : AreFrames plan outcome lists) where
  abbrev Run : List Taken → Type 0
  Run order = HaveRun (plan_element plan) (plan_reads plan) (poisoning outcome) (length plan.frames) lists order

  same_state : (order other : List Taken) → Run order → Run other → plan_after plan outcome order ≡ plan_after plan outcome other
  same_state order other run runs = agree (plan_element plan) (plan_reads plan) (poisoning outcome) (element_kept (number_at plan)) (length plan.frames) lists frames.have_no_repeat order other run runs

  run_of : (order : List Taken) → IsLawfulOrder plan outcome lists order → Run order
  run_of order is = run_of_order (plan_element plan) (plan_reads plan) (poisoning outcome) (element_kept (number_at plan)) (length plan.frames) lists frames.have_no_repeat order is.of_lists is.lawful

  enabled_too : (order other : List Taken) → IsLawfulOrder plan outcome lists order → IsLawfulOrder plan outcome lists other → (f : ℕ) → IsEnabledAfter plan outcome order f → IsEnabledAfter plan outcome other f
  enabled_too order other is it f e = record { exists = e.exists; enabled = subst (λ (s : State). IsEnabled (plan_element plan) (plan_reads plan) s f) (same_state order other (run_of order is) (run_of other it)) e.enabled }

  one_short : (f g : ℕ) → AreShort plan outcome lists f → AreShort plan outcome lists g → f ≡ g
  one_short f g s t = by (cases_order f g)
    where
      by : (f ≡ g) ⊎ ((f < g) ⊎ (g < f)) → f ≡ g
      by (inl e) = e
      by (inr (inl lt)) = absurd (t.is_least f lt (enabled_too s.order t.order s.is_lawful t.is_lawful f s.enabled))
      by (inr (inr gt)) = absurd (s.is_least g gt (enabled_too t.order s.order t.is_lawful s.is_lawful g t.enabled))

  same_heads : (order other : List Taken) → Run order → Run other → (k : ℕ) → head_after lists order k ≡ head_after lists other k
  same_heads order other run runs k = ap (number_in lists k) (as_many (plan_element plan) (plan_reads plan) (poisoning outcome) (element_kept (number_at plan)) (length plan.frames) lists frames.have_no_repeat order other run runs k)

  -- a cell that holds nothing isn't before the first one
  not_there : (order other : List Taken) → Run order → Run other → (f c : ℕ) → plan_element plan (plan_after plan outcome order) (cell_source plan c) ≡ None → IsSome (plan_element plan (plan_after plan outcome other) (cell_source plan c)) → ⊥
  not_there order other run runs f c none there =
      let e : is_some (plan_element plan (plan_after plan outcome other) (cell_source plan c)) ≡ false = ap (λ (s : State). is_some (plan_element plan s (cell_source plan c))) (sym (same_state order other run runs)) ∙ ap is_some none in
      absurd (cc)

  stuck_before : (k m f g c d : ℕ) → AreStuck plan outcome lists k f c → AreStuck plan outcome lists m g d → k < m → ⊥
  stuck_before k m f g c d s t lt =
      let n : ◌≡◌ {A = Option ℕ} None (Some f) = sym (t.others_are_used_up k lt) ∙ same_heads t.order s.order t.have_run s.have_run k ∙ s.has_head in
      absurd (cc)

  empty_before : (k m f g c d : ℕ) → AreStuck plan outcome lists k f c → AreStuck plan outcome lists m g d → f ≡ g → c < d → ⊥
  empty_before k m f g c d s t same lt =
      not_there s.order t.order s.have_run t.have_run f c s.lacks.is_empty (t.lacks.others_are_there c (subst (λ (h : ℕ). (frame_at plan h).cell ≤ c) same s.lacks.is_cell.0) lt)

  one_stuck : (k m f g c d : ℕ) → AreStuck plan outcome lists k f c → AreStuck plan outcome lists m g d → Stuck k f c ≡ Stuck m g d
  one_stuck k m f g c d s t = by (cases_order k m)
    where
      cells : k ≡ m → f ≡ g → (c ≡ d) ⊎ ((c < d) ⊎ (d < c)) → Stuck k f c ≡ Stuck m g d
      cells e same (inl is) = λ i. Stuck (e i) (same i) (is i)
      cells e same (inr (inl lt)) = absurd (empty_before k m f g c d s t same lt)
      cells e same (inr (inr gt)) = absurd (empty_before m k g f d c t s (sym same) gt)

      by : (k ≡ m) ⊎ ((k < m) ⊎ (m < k)) → Stuck k f c ≡ Stuck m g d
      by (inl e) = cells e (same_Some f g (sym s.has_head ∙ ap (head_after lists s.order) e ∙ same_heads s.order t.order s.have_run t.have_run m ∙ t.has_head)) (cases_order c d)
      by (inr (inl lt)) = absurd (stuck_before k m f g c d s t lt)
      by (inr (inr gt)) = absurd (stuck_before m k g f d c t s gt)

  one_whole : (e d : Ends) → AreWhole plan outcome lists e → AreWhole plan outcome lists d → Whole e ≡ Whole d
  one_whole e d s t = λ i. Whole (record { ends = (s.has_ends ∙ sym t.has_ends) i; output = (s.has_output ∙ sym t.has_output) i })

  not_short_and_whole : (f : ℕ) (e : Ends) → AreShort plan outcome lists f → AreWhole plan outcome lists e → ⊥
  not_short_and_whole f e s t = t.none_is_enabled f (enabled_too s.order t.order s.is_lawful t.is_lawful f s.enabled)

pub one : (plan : Plan) (outcome : ℕ → List ℤ → Outcome) (lists : List (List ℕ)) (answer other : Replayed) → IsAnswer plan outcome lists answer → IsAnswer plan outcome lists other → answer ≡ other
one plan outcome lists (Stranger l p) (Stranger m q) a b = one_stranger (length plan.frames) lists l p m q a b
one plan outcome lists (Stranger l p) (Repeat g) a b = absurd (not_strange (length plan.frames) lists l p a b.0)
one plan outcome lists (Stranger l p) (Stuck k g c) a b = absurd (not_strange (length plan.frames) lists l p a b.0.are_below)
one plan outcome lists (Stranger l p) (Short g) a b = absurd (not_strange (length plan.frames) lists l p a b.0.are_below)
one plan outcome lists (Stranger l p) (Whole e) a b = absurd (not_strange (length plan.frames) lists l p a b.0.are_below)
one plan outcome lists (Repeat f) (Stranger m q) a b = absurd (not_strange (length plan.frames) lists m q b a.0)
one plan outcome lists (Repeat f) (Repeat g) a b = ap Repeat (one_repeat lists f g a.1 b.1)
one plan outcome lists (Repeat f) (Stuck k g c) a b = absurd (not_repeated lists f a.1 b.0.have_no_repeat)
one plan outcome lists (Repeat f) (Short g) a b = absurd (not_repeated lists f a.1 b.0.have_no_repeat)
one plan outcome lists (Repeat f) (Whole e) a b = absurd (not_repeated lists f a.1 b.0.have_no_repeat)
one plan outcome lists (Stuck k f c) (Stranger m q) a b = absurd (not_strange (length plan.frames) lists m q b a.0.are_below)
one plan outcome lists (Stuck k f c) (Repeat g) a b = absurd (not_repeated lists g b.1 a.0.have_no_repeat)
one plan outcome lists (Stuck k f c) (Stuck m g d) a b = one_stuck plan outcome lists a.0 k m f g c d a.1 b.1
one plan outcome lists (Stuck k f c) (Short g) a b = absurd (a.1.has_no_order b.1.order b.1.is_lawful)
one plan outcome lists (Stuck k f c) (Whole e) a b = absurd (a.1.has_no_order b.1.order b.1.is_lawful)
one plan outcome lists (Short f) (Stranger m q) a b = absurd (not_strange (length plan.frames) lists m q b a.0.are_below)
one plan outcome lists (Short f) (Repeat g) a b = absurd (not_repeated lists g b.1 a.0.have_no_repeat)
one plan outcome lists (Short f) (Stuck m g d) a b = absurd (b.1.has_no_order a.1.order a.1.is_lawful)
one plan outcome lists (Short f) (Short g) a b = ap Short (one_short plan outcome lists a.0 f g a.1 b.1)
one plan outcome lists (Short f) (Whole e) a b = absurd (not_short_and_whole plan outcome lists a.0 f e a.1 b.1)
one plan outcome lists (Whole e) (Stranger m q) a b = absurd (not_strange (length plan.frames) lists m q b a.0.are_below)
one plan outcome lists (Whole e) (Repeat g) a b = absurd (not_repeated lists g b.1 a.0.have_no_repeat)
one plan outcome lists (Whole e) (Stuck m g d) a b = absurd (b.1.has_no_order a.1.order a.1.is_lawful)
one plan outcome lists (Whole e) (Short g) a b = absurd (not_short_and_whole plan outcome lists a.0 g e b.1 a.1)
one plan outcome lists (Whole e) (Whole d) a b = one_whole plan outcome lists a.0 e d a.1 b.1
