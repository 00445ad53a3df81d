-- What the workers of a crew logged, and what their seats ran.
use Rattle.std.proofs.Common.{◌≡◌, ◌≢◌, ℕ, ℤ, zero, suc, ◌+◌, ◌==◌, ◌<◌, ◌≤◌, true, false, Bool, List, [], ◌∷◌, ◌++◌, All, Option, Some, None, length, get_or, set, take, drop, map, refl, sym, ap, ◌∙◌, ◌⊎◌, inl, inr, subst, arith, append-nil}
use Rattle.std.specs.Prelude.{sum_by, is_some, slice_get}
use Rattle.std.specs.Option.{option_map}
use Rattle.std.proofs.lemmas.Bool.{cases_eq, cases_lt}
use Rattle.std.proofs.lemmas.List.{get_or-map, get_or-set_other, get_or_past, map-append, length-map}
use Rattle.std.proofs.lemmas.List.Sums.{sum_by-cons, sum_by-append, sum_by_more}
use Rattle.std.proofs.lemmas.Option.{same_Some, slice_get-map}
use Rattle.flow_core_laws.specs.declared.outcome.Outcome.{Outcome}
use Rattle.flow_core_laws.specs.declared.task_end.TaskEnd.{TaskEnd}
use Rattle.flow_core_laws.specs.Poisoning.{poisoning}
use Rattle.flow_core_laws.specs.Plans.{plan_reads, plan_element}
use Rattle.flow_core_laws.proofs.Rounds.{length-meaning}
use Rattle.flow_core_concurrent.specs.declared.known.Known.{Known}
use Rattle.flow_core_concurrent.specs.declared.view.FrameRun.{FrameRun}
use Rattle.flow_core_concurrent.specs.declared.view.View.{View}
use Rattle.flow_core_concurrent.specs.declared.word.Word.{Word}
use Rattle.flow_core_concurrent.specs.declared.word.Word.TheVariants.{Wait, Open, Taken, Ended}
use Rattle.flow_core_concurrent.specs.Counted.{one, is_run_of}
use Rattle.flow_core_concurrent.specs.IsGood.{IsGood, IsLast}
use Rattle.flow_core_concurrent.specs.Laws.{IsMeant}
use Rattle.flow_core_concurrent.specs.States.{CoreState, fresh, times, times_in_all, runs_of}
use Rattle.flow_core_concurrent.proofs.Parts.{run_at}
use Rattle.flow_core_concurrent.specs.Steps.{end_of, with_joined}
use Rattle.flow_core_concurrent.specs.Words.{word_at, is_taken, is_started, end_in}
use Rattle.flow_core_concurrent.proofs.Complete.{none_pass}
use Rattle.flow_core_concurrent.proofs.Subs.{last_is_only}
use Rattle.flow_core_concurrent.proofs.Words.{one_is_false}
use Rattle.frame_table.specs.declared.seat.FrameSeat.{FrameSeat}
use Rattle.frame_table.specs.Tokens.{view_of}
use Rattle.frame_table.specs.Left.{IsLeft}
use Rattle.frame_table.specs.Seats.{IsWhole}
use Rattle.frame_table.specs.Shown.{shown}
use Rattle.frame_table.proofs.Showing.{frame_shown}
use Rattle.task_workers_worker.specs.declared.log.WorkLog.{WorkLog}
use Rattle.task_workers_crew.specs.declared.crew.Worker.{Worker}
use Rattle.task_workers_crew.specs.Crew.{HasLogged, ran_of, logs_of, lists_of, times_in}
use Rattle.task_workers_crew.specs.Dealt.{worker_numbers}

-- numbers, and lists, are those of the logs
numbers_logged : {S : Type 0} (crew : List (Worker S)) → worker_numbers crew ≡ map (λ (l : WorkLog). l.worker) (logs_of crew)
numbers_logged [] = refl
numbers_logged (w ∷ crew) = ap (λ ns. w.log.worker ∷ ns) (numbers_logged crew)

pub numbers_of_logs : {S : Type 0} (crew others : List (Worker S)) → logs_of crew ≡ logs_of others → worker_numbers crew ≡ worker_numbers others
numbers_of_logs crew others is = numbers_logged crew ∙ ap (map (λ (l : WorkLog). l.worker)) is ∙ sym (numbers_logged others)

-- how often a frame stands in two lists, one behind the other
pub times-append : (f : ℕ) (xs ys : List ℕ) → times f (xs ++ ys) ≡ times f xs + times f ys
times-append f xs ys = sum_by-append (λ (g : ℕ). one (g == f)) xs ys

-- what a seat ran that took in another
pub ran_joined : (f : ℕ) (s t guest : FrameSeat) → view_of t ≡ with_joined (view_of s) (view_of guest) → times f (view_of t).ran ≡ times f (view_of s).ran + times f (view_of guest).ran
ran_joined f s t guest is = ap (λ (v : View). times f v.ran) is ∙ times-append f (view_of s).ran (view_of guest).ran

-- the list of one more worker
pub times_one_more : {S : Type 0} (crew : List (Worker S)) (lists : List (List ℕ)) (k f : ℕ) (w : Worker S) → lists_of crew ≡ lists → k < length crew → w ≡ get_or crew k w → times_in (take (k + 1) lists) f ≡ times_in (take k lists) f + times f w.log.frames.items
times_one_more {S} crew lists k f w are lt is =
    let long : length lists ≡ length crew = ap length (sym are) ∙ length-map crew (λ (v : Worker S). v.log.frames.items) in
    let at : get_or lists k [] ≡ w.log.frames.items = ap (λ (ls : List (List ℕ)). get_or ls k []) (sym are) ∙ get_or-map (λ (v : Worker S). v.log.frames.items) crew k w [] lt ∙ ap (λ (v : Worker S). v.log.frames.items) (sym is) in
    sum_by_more (λ (list : List ℕ). times f list) lists k [] (omega (arith, long, lt)) ∙ ap (λ (list : List ℕ). times_in (take k lists) f + times f list) at

-- the workers behind one that was written
pub behind_set : {X : Type 0} (P : X → Type 0) (xs : List X) (k : ℕ) (x : X) → ((i : ℕ) (d : X) → k ≤ i → i < length xs → P (get_or xs i d)) → (i : ℕ) (d : X) → k + 1 ≤ i → i < length xs → P (get_or (set xs k x) i d)
behind_set P xs k x old i d low lt = subst P (sym (get_or-set_other xs k i x d (λ e. omega (arith, e, low)))) (old i d (omega (arith, low)) lt)

-- what stands at a place of lists of which one is made of the other
pub at_mapped : {X Y : Type 0} (f : X → Y) (xs ys : List X) (i : ℕ) (d e : X) → map f xs ≡ map f ys → i < length xs → i < length ys → f (get_or xs i d) ≡ f (get_or ys i e)
at_mapped f xs ys i d e same lt lt' = sym (get_or-map f xs i d (f d) lt) ∙ ap (λ (l : List _). get_or l i (f d)) same ∙ get_or-map f ys i e (f d) lt'

-- a worker that logged and ran nothing has logged what it ran
pub logged_nothing : {S : Type 0} (crew old : List (Worker S)) → logs_of crew ≡ logs_of old → All (λ (w : Worker S). ran_of w.seat ≡ []) crew → All (λ (w : Worker S). w.log.frames.items ≡ []) old → length crew ≡ length old → All (λ (w : Worker S). HasLogged w.seat w.log) crew
logged_nothing {S} crew old same ran none long = λ i d lt.
    ap (λ (l : WorkLog). l.frames.items) (at_mapped (λ (w : Worker S). w.log) crew old i d d same lt (omega (arith, lt, long))) ∙ none i d (omega (arith, lt, long)) ∙ sym (ran i d lt)

-- sums of which no term counts, and of which one alone does
sum_by-nothing : {X : Type 0} (g : X → ℕ) (xs : List X) → ((j : ℕ) (y : X) → slice_get xs j ≡ Some y → g y ≡ 0) → sum_by g xs ≡ 0
sum_by-nothing g [] none = refl
sum_by-nothing g (y ∷ xs) none = sum_by-cons g y xs ∙ (let a : g y ≡ 0 = none 0 y refl in let b : sum_by g xs ≡ 0 = sum_by-nothing g xs (λ j z h. none (suc j) z h) in omega (arith, a, b))

sum_by-only : {X : Type 0} (g : X → ℕ) (xs : List X) (i : ℕ) (x : X) → slice_get xs i ≡ Some x → ((j : ℕ) (y : X) → j ≢ i → slice_get xs j ≡ Some y → g y ≡ 0) → sum_by g xs ≡ g x
sum_by-only g [] i x there others = absurd (cc)
sum_by-only g (y ∷ xs) zero x there others =
    let b : sum_by g xs ≡ 0 = sum_by-nothing g xs (λ j z h. others (suc j) z (λ e. omega arith) h) in
    let e : g y ≡ g x = ap g (same_Some y x there) in
    sum_by-cons g y xs ∙ omega (arith, b, e)
sum_by-only g (y ∷ xs) (suc i) x there others =
    let a : g y ≡ 0 = others 0 y (λ e. omega arith) refl in
    let b : sum_by g xs ≡ g x = sum_by-only g xs i x there (λ j z n h. others (suc j) z (λ e. n (omega arith)) h) in
    sum_by-cons g y xs ∙ omega (arith, a, b)

-- A seat that has all shares and runs nothing ran each frame that ended, once, and nothing else.
module _ (known : Known) (s : CoreState) (i : ℕ) (v : View) (good : IsGood known s) (sees : slice_get s.seats i ≡ Some v) (last : IsLast known v) (runs_nothing : v.run ≡ None) where
  spent : (j : ℕ) (u : View) → j ≢ i → slice_get s.seats j ≡ Some u → u ≡ fresh u.about 0
  spent j u n there = by (cases_lt 0 u.shares)
    where
      by : (0 < u.shares) ⊎ (u.shares ≤ 0) → u ≡ fresh u.about 0
      by (inl some) = absurd (last_is_only known s j i u v good there (omega arith) (λ e. n (sym e)) sees last)
      by (inr none) = (good.views_are_sound j u there).spent_is_empty (omega arith)

  idle : (j : ℕ) (x : Option FrameRun) → slice_get (runs_of s) j ≡ Some x → x ≡ None
  idle j x h = by (slice_get s.seats j) refl
    where
      at : (u : View) → slice_get s.seats j ≡ Some u → (j ≡ i) ⊎ (j ≢ i) → u.run ≡ None
      at u there (inl e) = ap (λ (w : View). w.run) (same_Some u v (sym there ∙ ap (slice_get s.seats) e ∙ sees)) ∙ runs_nothing
      at u there (inr n) = ap (λ (w : View). w.run) (spent j u n there)

      by : (o : Option View) → slice_get s.seats j ≡ o → x ≡ None
      by None e = let z : None ≡ Some x = sym (slice_get-map (λ (w : View). w.run) s.seats j ∙ ap (option_map (λ (w : View). w.run)) e) ∙ h in absurd (cc)
      by (Some u) e = same_Some x u.run (sym h ∙ run_at s.seats j u e) ∙ at u e (cases_eq j i)

  untaken : (f : ℕ) → is_taken (word_at s.words f) ≡ false
  untaken f = one_is_false (is_taken (word_at s.words f)) (sym (good.taken_is_run_by_one f) ∙ none_pass (is_run_of f) (runs_of s) (λ j x h. ap (is_run_of f) (idle j x h)))

  ended_word : (w : Word) → is_taken w ≡ false → one (is_started w) ≡ one (is_some (end_in w))
  ended_word (Wait n) h = refl
  ended_word Open h = refl
  ended_word Taken h = absurd (cc)
  ended_word (Ended e) h = refl

  pub ran_ended : (f : ℕ) → times f v.ran ≡ one (is_some (end_in (word_at s.words f)))
  ran_ended f = sym (sum_by-only (λ (w : View). times f w.ran) s.seats i v sees (λ j u n there. ap (λ (w : View). times f w.ran) (spent j u n there))) ∙ good.ran_once f ∙ ended_word (word_at s.words f) (untaken f)

-- so it ran each frame that has an end in the meaning
pub ran_meant : (known : Known) (outcome : ℕ → List ℤ → Outcome) (numbers : List ℕ) (v : View) → IsLeft known numbers v → IsWhole known numbers → IsMeant known outcome → IsLast known v → v.run ≡ None → (f : ℕ) → times f v.ran ≡ one (is_some (end_of known f))
ran_meant known outcome numbers v left whole meant last idle f = ran_ended known s left.seat v left.good left.sees last idle f ∙ ap (λ (o : Option TaskEnd). one (is_some o)) (by (cases_lt f (length known.plan.frames)))
  where
    s : CoreState
    s = shown known.plan numbers left.views

    long : length known.meaning ≡ length known.plan.frames
    long = ap length meant ∙ length-meaning (plan_element known.plan) (plan_reads known.plan) (poisoning outcome) (length known.plan.frames)

    no_end : (w : Word) → is_started w ≡ false → end_in w ≡ None
    no_end (Wait n) h = refl
    no_end Open h = refl
    no_end Taken h = refl
    no_end (Ended e) h = absurd (cc)

    behind : (f ≡ length known.plan.frames) ⊎ (f ≢ length known.plan.frames) → length known.plan.frames ≤ f → end_in (word_at s.words f) ≡ None
    behind (inl e) ge = ap (λ k. end_in (word_at s.words k)) e ∙ no_end (word_at s.words (length known.plan.frames)) left.good.sink_is_not_taken
    behind (inr n) ge = ap end_in (get_or_past s.words f Open (let w = left.good.words_of_plan in omega (arith, w, n, ge)))

    by : (f < length known.plan.frames) ⊎ (length known.plan.frames ≤ f) → end_in (word_at s.words f) ≡ end_of known f
    by (inl lt) = ap end_in (frame_shown known.plan numbers left.views f left.good.words_of_plan (omega (arith, lt))) ∙ whole.ends f lt
    by (inr ge) = behind (cases_eq f (length known.plan.frames)) ge ∙ sym (ap (option_map (λ (o : Outcome). o.end)) (get_or_past known.meaning f None (omega (arith, long, ge))))

-- the list of the first worker, and those of the others
pub lists_first : {S : Type 0} (crew : List (Worker S)) (w : Worker S) → 0 < length crew → w ≡ get_or crew 0 w → w.log.frames.items ∷ lists_of (drop 1 crew) ≡ lists_of crew
lists_first [] w some is = absurd (omega arith)
lists_first {S} (v ∷ crew) w some is = ap (λ (u : Worker S). u.log.frames.items ∷ lists_of crew) is

pub none_left : {S : Type 0} (lists : List (List ℕ)) (crew : List (Worker S)) (all : List (List ℕ)) → lists ++ lists_of crew ≡ all → length crew ≡ 0 → lists ≡ all
none_left lists [] all is none = sym (append-nil lists) ∙ is
none_left lists (w ∷ crew) all is none = absurd (omega arith)

-- the lists of a crew whose worker 0 ran more
pub times_went_on : {S : Type 0} (crew : List (Worker S)) (v w : Worker S) (newly : List ℕ) (f : ℕ) → 0 < length crew → v ≡ get_or crew 0 v → w.log.frames.items ≡ v.log.frames.items ++ newly → times_in (lists_of (set crew 0 w)) f ≡ times_in (lists_of crew) f + times f newly
times_went_on {S} [] v w newly f some is more = absurd (omega arith)
times_went_on {S} (u ∷ crew) v w newly f some is more =
    let here : times f u.log.frames.items ≡ times f v.log.frames.items = ap (λ (x : Worker S). times f x.log.frames.items) (sym is) in
    let new : times f w.log.frames.items ≡ times f v.log.frames.items + times f newly = ap (times f) more ∙ times-append f v.log.frames.items newly in
    let a = sum_by-cons (λ (list : List ℕ). times f list) w.log.frames.items (lists_of crew) in
    let b = sum_by-cons (λ (list : List ℕ). times f list) u.log.frames.items (lists_of crew) in
    omega (arith, here, new, a, b)
