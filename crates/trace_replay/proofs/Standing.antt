-- Steps of a replay.
use Rattle.std.proofs.Common.{◌≡◌, ◌≢◌, ℕ, ℤ, ◌+◌, ◌<◌, ◌≤◌, List, [], ◌∷◌, ◌++◌, Option, Some, None, false, map, length, get_or, set, replicate, refl, sym, ap, ◌∙◌, subst, ◌⊎◌, inl, inr, arith, length-append, append_assoc, append-nil}
use Rattle.std.specs.Prelude.{is_some, slice_get}
use Rattle.std.proofs.lemmas.Bool.{cases_lt, cases_eq}
use Rattle.std.proofs.lemmas.List.{get_or-set_same, get_or-set_other, length-set}
use Rattle.std.proofs.lemmas.List.Elements.{All-push}
use Rattle.std.proofs.lemmas.Option.{same_Some, slice_get_within}
use Rattle.flow_core_laws.specs.declared.plan.FramePlan.{FramePlan}
use Rattle.flow_core_laws.specs.declared.plan.Plan.{Plan}
use Rattle.flow_core_laws.specs.declared.outcome.Outcome.{Outcome}
use Rattle.flow_core_laws.specs.declared.task_end.TaskEnd.{TaskEnd}
use Rattle.flow_core_laws.specs.Outcome.{outcome_at, State}
use Rattle.flow_core_laws.specs.Round.{IsEnabled, after_round}
use Rattle.flow_core_laws.specs.Poisoning.{poisoning}
use Rattle.flow_core_laws.specs.Plans.{plan_reads, plan_element, plan_meaning}
use Rattle.flow_core_laws.specs.IsSound.{IsSound}
use Rattle.flow_core.specs.declared.board.Board.{Board}
use Rattle.flow_core.specs.Waits.{OpensMore}
use Rattle.flow_core.specs.Counted.{IsCounted}
use Rattle.flow_core.specs.Shows.{Shows, end_at}
use Rattle.flow_core.proofs.Running.{IsRun-opening, no_end as no_end_yet}
use Rattle.os_io.proofs.Repeated.{get_or-repeated}
use Rattle.trace_replay_laws.specs.Orders.{after, after_all, IsLawful}
use Rattle.trace_replay_laws.specs.Lists.{number_in, HaveNoRepeat, Taken, frames_of, taken_from, IsOrderOfHeads, head_after}
use Rattle.trace_replay_laws.specs.Answers.{plan_after, AreFrames}
use Rattle.trace_replay_laws.proofs.Lawful.{IsIn, outcome_after, ran_before, lawful_more, after_all-more}
use Rattle.trace_replay_laws.proofs.Taking.{behind as stands_behind, taken-more, taken-more_elsewhere, frames-append, frame_taken, taken_stands, list_of}
use Rattle.trace_replay.specs.Owners.{AreOwners}
use Rattle.trace_replay.specs.Standing.{Stands, HeadWaits, AreQueued}
use Rattle.trace_replay.proofs.State.{behind, free_is_enabled}

pub stands_first : (plan : Plan) (outcome : ℕ → List ℤ → Outcome) (lists : List (List ℕ)) (places : List ℕ) (board : Board) → IsCounted plan board.cells.items board.waits → board.cells.items ≡ plan.filled → board.ends.items ≡ map (λ (p : FramePlan). None) plan.frames → length places ≡ length lists → ((k : ℕ) → k < length places → get_or places k 0 ≡ 0) → Stands plan outcome lists places board
stands_first plan outcome lists places board counted cells ends len zeros = record {
  order = [];
  of_heads = record { of_lists = λ i d lt. absurd (omega arith); takes_fronts = λ k list is. (list, refl) };
  lawful = tt;
  places_of_lists = len;
  at_places = λ k lt. zeros k (omega (arith, len, lt));
  counted = counted;
  shows = (IsRun-opening plan (plan_meaning plan outcome) board counted cells ends).shows;
  ended = λ f. ap is_some (ap (λ (xs : List (Option TaskEnd)). end_at xs f) ends ∙ no_end_yet plan.frames f) ∙ sym (ap is_some (get_or-repeated {A = Option Outcome} (length plan.frames) f None));
}

-- a head behind an order isn't one of its numbers
head_is_new : (lists : List (List ℕ)) (order : List Taken) → HaveNoRepeat lists → IsOrderOfHeads lists order → (k f : ℕ) → head_after lists order k ≡ Some f → IsIn (frames_of order) f → ⊥
head_is_new lists order once heads k f head there =
    let (l, j, at, exists) = frame_taken order f there in
    let number = taken_stands lists order heads l j f (exists (length lists) heads.of_lists) at in
    let (same_list, same_place) = once l j k (length (taken_from k order)) f number head in
    let lt : j < length (taken_from l order) = slice_get_within (taken_from l order) j f at in
    let len : length (taken_from l order) ≡ length (taken_from k order) = ap (λ (n : ℕ). length (taken_from n order)) same_list in
    omega (arith, same_place, lt, len)

-- a front of a list and its head are a front
longer_front : (taken rest list : List ℕ) (f : ℕ) → taken ++ rest ≡ list → slice_get list (length taken) ≡ Some f → (more : List ℕ) × ((taken ++ f ∷ []) ++ more ≡ list)
longer_front taken [] list f parts there =
    let l : length list ≡ length taken = ap length (sym parts ∙ append-nil taken) in
    let lt : length taken < length list = slice_get_within list (length taken) f there in
    absurd (omega (arith, l, lt))
longer_front taken (g ∷ more) list f parts there =
    let same : g ≡ f = same_Some g f (sym (stands_behind taken g more) ∙ ap (λ (l : List ℕ). slice_get l (length taken)) parts ∙ there) in
    (more, append_assoc taken (f ∷ []) more ∙ ap (λ (n : ℕ). taken ++ n ∷ more) (sym same) ∙ parts)

module _ (plan : Plan) (outcome : ℕ → List ℤ → Outcome) (lists : List (List ℕ)) (sound : IsSound plan) (frames : AreFrames plan outcome lists) (places : List ℕ) (board : Board) (stands : Stands plan outcome lists places board) (k f : ℕ) (exists : k < length lists) (number : number_in lists k (get_or places k 0) ≡ Some f) (full : get_or board.waits.missing.items f 0 ≡ 0) where
  abbrev s : State
  s = behind plan outcome lists places board sound stands

  head : head_after lists stands.order k ≡ Some f
  head = ap (number_in lists k) (sym (stands.at_places k exists)) ∙ number

  pub head_exists : f < length plan.frames
  head_exists = frames.are_below k (get_or places k 0) f number

  no_outcome_yet : (o : Option Outcome) → outcome_at s f ≡ o → outcome_at s f ≡ None
  no_outcome_yet None e = e
  no_outcome_yet (Some o) e = absurd (head_is_new lists stands.order frames.have_no_repeat stands.of_heads k f head (ran_before (plan_element plan) (plan_reads plan) (poisoning outcome) (length plan.frames) (frames_of stands.order) f o stands.lawful e))

  no_end : (o : Option TaskEnd) → is_some o ≡ false → o ≡ None
  no_end None h = refl
  no_end (Some e) h = absurd (cc)

  pub head_has_no_end : end_at board.ends.items f ≡ None
  head_has_no_end = no_end (end_at board.ends.items f) (stands.ended f ∙ ap is_some (no_outcome_yet (outcome_at s f) refl))

  enabled : IsEnabled (plan_element plan) (plan_reads plan) s f
  enabled = free_is_enabled plan outcome lists places board sound stands f head_exists (record { misses_nothing = full; has_no_end = head_has_no_end })

  abbrev longer : List Taken
  longer = stands.order ++ record { list = k; frame = f } ∷ []

  longer_frames : frames_of longer ≡ frames_of stands.order ++ f ∷ []
  longer_frames = frames-append stands.order (record { list = k; frame = f } ∷ [])

  still_lawful : IsLawful (plan_element plan) (plan_reads plan) (poisoning outcome) (length plan.frames) (frames_of longer)
  still_lawful = subst (IsLawful (plan_element plan) (plan_reads plan) (poisoning outcome) (length plan.frames)) (sym longer_frames) (lawful_more (plan_element plan) (plan_reads plan) (poisoning outcome) (length plan.frames) (replicate (length plan.frames) None) (frames_of stands.order) f stands.lawful head_exists enabled)

  next_state : plan_after plan outcome longer ≡ after (plan_element plan) (plan_reads plan) (poisoning outcome) s f
  next_state = ap (after_all (plan_element plan) (plan_reads plan) (poisoning outcome) (replicate (length plan.frames) None)) longer_frames ∙ after_all-more (plan_element plan) (plan_reads plan) (poisoning outcome) (replicate (length plan.frames) None) (frames_of stands.order) f

  fronts : (j : ℕ) (list : List ℕ) → slice_get lists j ≡ Some list → (j ≡ k) ⊎ (j ≢ k) → (rest : List ℕ) × (taken_from j longer ++ rest ≡ list)
  fronts j list is (inr other) =
      let (rest, parts) = stands.of_heads.takes_fronts j list is in
      (rest, ap (λ (l : List ℕ). l ++ rest) (taken-more_elsewhere j k stands.order f (λ e. other (sym e))) ∙ parts)
  fronts j list is (inl same) =
      let (rest, parts) = stands.of_heads.takes_fronts j list is in
      let (numbers, it, there) = list_of lists k (length (taken_from k stands.order)) f head in
      let same_list : numbers ≡ list = same_Some numbers list (sym it ∙ ap (slice_get lists) (sym same) ∙ is) in
      let at : slice_get list (length (taken_from j stands.order)) ≡ Some f = ap (λ (l : List ℕ). slice_get l (length (taken_from j stands.order))) (sym same_list) ∙ ap (λ (n : ℕ). slice_get numbers (length (taken_from n stands.order))) same ∙ there in
      let (more, longer_parts) = longer_front (taken_from j stands.order) rest list f parts at in
      (more, ap (λ (l : List ℕ). l ++ more) (ap (λ (n : ℕ). taken_from n longer) same ∙ taken-more k stands.order f ∙ ap (λ (n : ℕ). taken_from n stands.order ++ f ∷ []) (sym same)) ∙ longer_parts)

  pub stands_more : (new : Board) (end : TaskEnd) → IsCounted plan new.cells.items new.waits → Shows plan (plan_meaning plan outcome) new.cells.items new.ends.items → new.ends.items ≡ set board.ends.items f (Some end) → Stands plan outcome lists (set places k (get_or places k 0 + 1)) new
  stands_more new end counted shows ends = record {
    order = longer;
    of_heads = record {
      of_lists = All-push (λ (t : Taken). t.list < length lists) stands.order (record { list = k; frame = f }) stands.of_heads.of_lists exists;
      takes_fronts = λ j list is. fronts j list is (cases_eq j k);
    };
    lawful = still_lawful;
    places_of_lists = length-set places k (get_or places k 0 + 1) ∙ stands.places_of_lists;
    at_places = λ j lt. at j lt (cases_eq j k);
    counted = counted;
    shows = shows;
    ended = λ g. ended g (cases_eq g f);
  }
    where
      at : (j : ℕ) → j < length lists → (j ≡ k) ⊎ (j ≢ k) → get_or (set places k (get_or places k 0 + 1)) j 0 ≡ length (taken_from j longer)
      at j lt (inr other) = get_or-set_other places k j (get_or places k 0 + 1) 0 other ∙ stands.at_places j lt ∙ ap length (sym (taken-more_elsewhere j k stands.order f (λ e. other (sym e))))
      at j lt (inl same) =
          let place : get_or (set places k (get_or places k 0 + 1)) k 0 ≡ get_or places k 0 + 1 = get_or-set_same places k (get_or places k 0 + 1) 0 (let l = stands.places_of_lists in omega (arith, l, exists)) in
          let before = stands.at_places k exists in
          let l : length (taken_from k longer) ≡ length (taken_from k stands.order ++ f ∷ []) = ap length (taken-more k stands.order f) in
          let more = length-append (taken_from k stands.order) (f ∷ []) in
          subst (λ (n : ℕ). get_or (set places k (get_or places k 0 + 1)) n 0 ≡ length (taken_from n longer)) (sym same) (omega (arith, place, before, l, more))

      f_in : IsIn (frames_of longer) f
      f_in = (length (frames_of stands.order), ap (λ (l : List ℕ). slice_get l (length (frames_of stands.order))) longer_frames ∙ stands_behind (frames_of stands.order) f [])

      ended : (g : ℕ) → (g ≡ f) ⊎ (g ≢ f) → is_some (end_at new.ends.items g) ≡ is_some (outcome_at (plan_after plan outcome longer) g)
      ended g (inr other) =
          ap is_some (ap (λ (xs : List (Option TaskEnd)). end_at xs g) ends ∙ get_or-set_other board.ends.items f g (Some end) None other)
          ∙ stands.ended g
          ∙ sym (ap is_some (ap (λ (t : State). outcome_at t g) next_state ∙ get_or-set_other s f g (after_round (plan_element plan) (plan_reads plan) (poisoning outcome) s f) None other))
      ended g (inl same) =
          let (o, there) = outcome_after (plan_element plan) (plan_reads plan) (poisoning outcome) (length plan.frames) (frames_of longer) f still_lawful f_in in
          let here : end_at new.ends.items f ≡ Some end = ap (λ (xs : List (Option TaskEnd)). end_at xs f) ends ∙ get_or-set_same board.ends.items f (Some end) None (let l = stands.shows.ends_of_plan in let lt = head_exists in omega (arith, l, lt)) in
          ap (λ (n : ℕ). is_some (end_at new.ends.items n)) same ∙ ap is_some here ∙ sym (ap (λ (n : ℕ). is_some (outcome_at (plan_after plan outcome longer) n)) same ∙ ap is_some there)

-- the heads that are queued once the frame of a turn was looked at
pub queued_past : (plan : Plan) (lists : List (List ℕ)) (owners places : List ℕ) (board : Board) (turn owner : ℕ) → AreOwners lists (length plan.frames) owners → get_or owners (get_or board.waits.opened.items turn 0) 0 ≡ owner → length lists ≤ owner → AreQueued lists places board turn → AreQueued lists places board (turn + 1)
queued_past plan lists owners places board turn owner own is nobody queued k f lt h full =
    let (j, ge, j_lt, at) = queued k f lt h full in
    (j, later j ge at (cases_eq j turn), j_lt, at)
  where
    later : (j : ℕ) → turn ≤ j → get_or board.waits.opened.items j 0 ≡ f → (j ≡ turn) ⊎ (j ≢ turn) → turn + 1 ≤ j
    later j ge at (inr other) = omega (arith, ge, other)
    later j ge at (inl same) =
        let mine = own.own k (get_or places k 0) f h in
        let e : get_or owners f 0 ≡ owner = ap (λ (n : ℕ). get_or owners n 0) (sym at ∙ ap (λ (n : ℕ). get_or board.waits.opened.items n 0) same) ∙ is in
        absurd (omega (arith, mine, e, nobody, lt))

pub queued_more : (plan : Plan) (lists : List (List ℕ)) (owners places others : List ℕ) (board new : Board) (turn owner : ℕ) → ((l p f : ℕ) → number_in lists l p ≡ Some f → f < length plan.frames) → AreOwners lists (length plan.frames) owners → IsCounted plan board.cells.items board.waits → IsCounted plan new.cells.items new.waits → turn < length board.waits.opened.items → get_or owners (get_or board.waits.opened.items turn 0) 0 ≡ owner → ((k : ℕ) → k ≢ owner → get_or others k 0 ≡ get_or places k 0) → OpensMore board.waits new.waits → HeadWaits lists others new owner → AreQueued lists places board turn → AreQueued lists others new (turn + 1)
queued_more plan lists owners places others board new turn owner below own counted counted_new opened is same opens waits queued k f lt h full = by (cases_eq k owner)
  where
    now : (k ≢ owner) → number_in lists k (get_or places k 0) ≡ Some f
    now other = ap (number_in lists k) (sym (same k other)) ∙ h

    later : (k ≢ owner) → (j : ℕ) → turn ≤ j → get_or board.waits.opened.items j 0 ≡ f → (j ≡ turn) ⊎ (j ≢ turn) → turn + 1 ≤ j
    later other j ge at (inr not_turn) = omega (arith, ge, not_turn)
    later other j ge at (inl turn_is) =
        let mine = own.own k (get_or places k 0) f (now other) in
        let e : get_or owners f 0 ≡ owner = ap (λ (n : ℕ). get_or owners n 0) (sym at ∙ ap (λ (n : ℕ). get_or board.waits.opened.items n 0) turn_is) ∙ is in
        absurd (other (sym mine ∙ e))

    was_open : (k ≢ owner) → get_or board.waits.missing.items f 0 ≡ 0 → (j : ℕ) × (turn + 1 ≤ j) × (j < length new.waits.opened.items) × (get_or new.waits.opened.items j 0 ≡ f)
    was_open other before =
        let (j, ge, j_lt, at) = queued k f lt (now other) before in
        (j, later other j ge at (cases_eq j turn), (let g = opens.grows in omega (arith, g, j_lt)), opens.keeps j j_lt ∙ at)

    behind_old : get_or board.waits.missing.items f 0 ≢ 0 → (j : ℕ) → get_or new.waits.opened.items j 0 ≡ f → (j < length board.waits.opened.items) ⊎ (length board.waits.opened.items ≤ j) → turn + 1 ≤ j
    behind_old missed j at (inr ge) = omega (arith, ge, opened)
    behind_old missed j at (inl j_lt) = absurd (missed (ap (λ (n : ℕ). get_or board.waits.missing.items n 0) (sym (sym (opens.keeps j j_lt) ∙ at)) ∙ counted.opens_full.miss_nothing j j_lt))

    was_waiting : get_or board.waits.missing.items f 0 ≢ 0 → (j : ℕ) × (turn + 1 ≤ j) × (j < length new.waits.opened.items) × (get_or new.waits.opened.items j 0 ≡ f)
    was_waiting missed =
        let exists = below k (get_or others k 0) f h in
        let n = counted_new.frames_of_plan in
        let (j, j_lt, at) = counted_new.opens_full.listed f (omega (arith, exists, n)) full in
        (j, behind_old missed j at (cases_lt j (length board.waits.opened.items)), j_lt, at)

    open_or_not : (k ≢ owner) → (get_or board.waits.missing.items f 0 ≡ 0) ⊎ (get_or board.waits.missing.items f 0 ≢ 0) → (j : ℕ) × (turn + 1 ≤ j) × (j < length new.waits.opened.items) × (get_or new.waits.opened.items j 0 ≡ f)
    open_or_not other (inl before) = was_open other before
    open_or_not other (inr missed) = was_waiting missed

    by : (k ≡ owner) ⊎ (k ≢ owner) → (j : ℕ) × (turn + 1 ≤ j) × (j < length new.waits.opened.items) × (get_or new.waits.opened.items j 0 ≡ f)
    by (inl e) = absurd (waits f (ap (λ (n : ℕ). number_in lists n (get_or others n 0)) (sym e) ∙ h) full)
    by (inr other) = open_or_not other (cases_eq (get_or board.waits.missing.items f 0) 0)
