-- From epochs to a run in control order, and back.
use Rattle.std.proofs.Common.{◌≡◌, ℕ, ℤ, ◌+◌, ◌-◌, ◌<◌, ◌≤◌, List, [], ◌∷◌, ◌++◌, Option, Some, None, true, All, drop, length, map, take, refl, sym, ap, ◌∙◌, subst, arith}
use Rattle.std.specs.Prelude.{IfSome, IsSome, Bool, cond, false, is_some, nat_lt, slice_get}
use Rattle.std.specs.Option.{option_map}
use Rattle.std.proofs.lemmas.Bool.{ltb-false}
use Rattle.std.proofs.lemmas.List.{drop_at, get_or_default, get_or-drop, length-append, length-drop, length-map, length-take, length-take-le, take-append-drop, take_all, take_at, take_min}
use Rattle.control_run.specs.Stretches.{RunSoFar, created_so_far, end_told, remaining, whole}
use Rattle.epoch_run_bodies.specs.Frames.{frame_outcome}
use Rattle.epoch_run_bodies.specs.Laws.{LaterActivationsChangeNothing}
use Rattle.epoch_run_in_order.specs.Standing.{AreLast, IsReady, StandsBehind, meaning_in}
use Rattle.epoch_run_in_order.specs.declared.in_order.InOrder.{InOrder}
use Rattle.epoch_run_in_order_laws.specs.InOrder.{HaveAllEnded}
use Rattle.flow_core_epochs.proofs.Choosing.{end_in}
use Rattle.flow_core_epochs.proofs.Frames.{open_each}
use Rattle.flow_core_epochs.specs.Epoch.{IsHeld, open_in}
use Rattle.flow_core_laws.proofs.Rounds.{length-meaning}
use Rattle.flow_core_laws.specs.Outcome.{State, ends_of, has_end_at, outcome_at}
use Rattle.flow_core_laws.specs.Poisoning.{poisoning}
use Rattle.flow_core_laws.specs.Streams.{stream_element, stream_meaning, stream_reads}
use Rattle.flow_core_laws.specs.declared.activation.Activation.{Activation}
use Rattle.flow_core_laws.specs.declared.control.Control.{Control}
use Rattle.flow_core_laws.specs.declared.control.ControlEnd.{ControlEnd}
use Rattle.flow_core_laws.specs.declared.outcome.Outcome.{Outcome}
use Rattle.flow_core_laws.specs.declared.task_end.TaskEnd.{TaskEnd}
use Rattle.os_code.specs.Codes.{parts_of}
use Rattle.os_code.specs.Outcomes.{main_control}
use Rattle.os_code.specs.Tasks.{Fits}
use Rattle.os_code.specs.declared.code.Code.{Code}
use Rattle.os_code.specs.declared.parts.Parts.{Parts}
use Rattle.stream_match.specs.Kept.{kept_of}
use Rattle.stream_match_layouts.proofs.Bounds.{lawful-front}
use Rattle.stream_match_layouts.proofs.Tallies.{frame_count-is}
use Rattle.stream_match_layouts.specs.Lawful.{AreLawful}
use Rattle.stream_match_layouts.specs.Layout.{IsLayout, IsLayoutOf, TakesMore}
use Rattle.stream_match_layouts.specs.Spans.{frame_count}
use Rattle.stream_match_layouts.specs.declared.layout.Layout.{Layout}
use Rattle.epoch_run.proofs.Listing.{all_ended}
use Rattle.epoch_run.proofs.Step.{length-ends, same_held}
use Rattle.epoch_run.specs.Held.{IsHeldOf}
use Rattle.epoch_run.specs.InOrder.{AreLaidOut, GoesInOrder, HaveRunInOrder}
use Rattle.epoch_run.specs.Run.{created}
use Rattle.epoch_run.specs.Standing.{HasCreated, StandsAt}
use Rattle.epoch_run.specs.declared.held.Held.{Held}
use Rattle.epoch_run.specs.declared.result.Budgets.{Budgets}
use Rattle.epoch_run.specs.declared.standing.Standing.{Standing}

-- where each end is there, each activation has an outcome
pub all_some : (state : State) → ((a : ℕ) → a < length (ends_of state) → has_end_at (ends_of state) a ≡ true) → HaveAllEnded state
all_some state ended = λ i d lt.
    subst IsSome (get_or_default state i None d lt)
    (there (outcome_at state i) (sym (ap is_some (end_in state i)) ∙ ended i (omega (arith, lt, length-map state (option_map (λ (o : Outcome). o.end))))))
  where
    there : (o : Option Outcome) → is_some (option_map (λ (p : Outcome). p.end) o) ≡ true → IsSome o
    there None h = absurd (cc)
    there (Some o) h = refl

-- and the other way
pub some_all : (state : State) → HaveAllEnded state → (a : ℕ) → a < length state → has_end_at (ends_of state) a ≡ true
some_all state all a lt = ap is_some (end_in state a) ∙ there (outcome_at state a) (all a None lt)
  where
    there : (o : Option Outcome) → IsSome o → is_some (option_map (λ (p : Outcome). p.end) o) ≡ true
    there None h = absurd (cc)
    there (Some o) h = refl

-- then none is open
pub none_open : (ends : List (Option TaskEnd)) (count : ℕ) → ((a : ℕ) → a < count → has_end_at ends a ≡ true) → [] ≡ open_in ends count
none_open ends count ended = by (open_in ends count) refl
  where
    by : (xs : List ℕ) → open_in ends count ≡ xs → [] ≡ open_in ends count
    by [] is = sym is
    by (a ∷ xs) is =
        let (lt, waits) = open_each ends count 0 a (ap (λ (ys : List ℕ). slice_get ys 0) is) in
        let z : false ≡ true = sym (ap is_some waits) ∙ ended a lt in
        absurd (cc)

length-state : (activations : List Activation) (input : List ℕ) (body : ℕ → List ℤ → Outcome) → length (stream_meaning activations input body) ≡ length activations
length-state activations input body = length-meaning stream_element (stream_reads activations input) (poisoning body) (length activations)

module _ (code : Code) (input : List ℕ) (budgets : Budgets) where
  -- all that will come, and the bodies of these
  abbrev all : List Activation
  all = created (parts_of code) input budgets

  abbrev body : List Activation → ℕ → List ℤ → Outcome
  body activations = frame_outcome (parts_of code) activations budgets.task

  -- the first of them mean the same with the bodies of all
  one_meaning : LaterActivationsChangeNothing → (before more : List Activation) → before ++ more ≡ all
      → stream_meaning before input (body before) ≡ stream_meaning before input (body all)
  one_meaning later before more is =
      later (parts_of code) before more input budgets.task
      ∙ ap (λ (xs : List Activation). stream_meaning before input (body xs)) is

  pub laid_out : (standing : Standing) → StandsAt code input budgets standing → AreLaidOut code input budgets standing.control standing.layout
  laid_out standing stands = record {
    code_is = stands.code_is;
    input_is = stands.input_is;
    budget_is = stands.budget_is;
    fit = stands.fit;
    lawful = stands.lawful;
    has_output = stands.has_output;
    streams = stands.streams;
    over = stands.over;
    laid = stands.laid;
  }

  module _ (so_far : RunSoFar) (layout : Layout) (laid : AreLaidOut code input budgets so_far layout) where
    abbrev given : List Activation
    given = created_so_far so_far

    pub lawful_there : AreLawful (length layout.writers) given
    lawful_there = subst (λ n. AreLawful n given) (sym laid.streams) laid.lawful

    pub is_whole : IsLayout layout
    is_whole = record { has_output = omega (arith, laid.streams, laid.has_output); activations = given; is_of = laid.laid; lawful = lawful_there }

    pub whole_is : whole so_far ≡ main_control (parts_of code) (length input) budgets.control
    whole_is =
        ap (λ p. main_control p so_far.input_len so_far.budget) laid.code_is
        ∙ ap (λ n. main_control (parts_of code) n so_far.budget) laid.input_is
        ∙ ap (main_control (parts_of code) (length input)) laid.budget_is

    -- they are the first of all that will come
    pub are_first : given ≡ take (length given) all
    are_first =
        sym (ap (λ (c : Control). take (length given) c.activations) (sym whole_is)
        ∙ ap (λ n. take n (whole so_far).activations) (length-take so_far.created_by_now (whole so_far).activations)
        ∙ take_min so_far.created_by_now (whole so_far).activations)

    abbrev rest : ℕ → List Activation
    rest count = drop count given ++ drop (length given) all

    first_and_rest : (count : ℕ) → take count given ++ rest count ≡ all
    first_and_rest count =
        append_assoc (take count given) (drop count given) (drop (length given) all)
        ∙ ap (λ (xs : List Activation). xs ++ drop (length given) all) (take-append-drop count given ∙ are_first)
        ∙ take-append-drop (length given) all
      where
        append_assoc : (xs ys zs : List Activation) → xs ++ (ys ++ zs) ≡ (xs ++ ys) ++ zs
        append_assoc [] ys zs = refl
        append_assoc (x ∷ xs) ys zs = ap (λ (ws : List Activation). x ∷ ws) (append_assoc xs ys zs)

    pub same_meaning : LaterActivationsChangeNothing → (count : ℕ)
        → stream_meaning (take count given) input (body (take count given)) ≡ stream_meaning (take count given) input (body all)
    same_meaning later count = one_meaning later (take count given) (rest count) (first_and_rest count)

    -- the next stretch
    module _ (count : ℕ) (after : RunSoFar) (next : List Activation) (made : HasCreated count so_far after [] next) where
      joins : given ++ next ≡ created_so_far after
      joins = ap (λ (xs : List Activation). given ++ xs) made.is_list ∙ sym made.joined

      after_code : after.code ≡ parts_of code
      after_code = ap (λ (r : RunSoFar). r.code) made.is_run ∙ laid.code_is

      after_lawful : AreLawful code.streams (created_so_far after)
      after_lawful = subst (λ (p : Parts). AreLawful p.streams (created_so_far after)) after_code made.lawful

      pub takes_next : TakesMore layout next
      takes_next = record { before = given; is_of = laid.laid; lawful = subst (λ n. AreLawful n (given ++ next)) (sym laid.streams) (subst (AreLawful code.streams) (sym joins) after_lawful) }

      pub next_laid_out : (longer : Layout) → IsLayoutOf longer (given ++ next) → length longer.writers ≡ length layout.writers → longer.input_len ≡ layout.input_len
          → AreLaidOut code input budgets after longer
      next_laid_out longer is streams over = record {
        code_is = after_code;
        input_is = ap (λ (r : RunSoFar). r.input_len) made.is_run ∙ laid.input_is;
        budget_is = ap (λ (r : RunSoFar). r.budget) made.is_run ∙ laid.budget_is;
        fit = subst (λ (p : Parts). All (Fits p) (created_so_far after)) after_code made.fit;
        lawful = after_lawful;
        has_output = laid.has_output;
        streams = streams ∙ laid.streams;
        over = over ∙ laid.over;
        laid = subst (IsLayoutOf longer) joins is;
      }

      -- those before it are the first of those behind it, and it has the others
      pub first_stay : take (length given) (created_so_far after) ≡ given
      first_stay = ap (take (length given)) (sym joins) ∙ take_at given next (length given) refl

      pub next_are_last : next ≡ drop (length given) (created_so_far after)
      next_are_last = sym (ap (drop (length given)) (sym joins) ∙ drop_at given next (length given) refl)

  -- a run in control order begins behind activations that all have ended
  pub begins_in_order : LaterActivationsChangeNothing → (standing : Standing) → StandsAt code input budgets standing → IsHeldOf (parts_of code) (created_so_far standing.control) input budgets.task standing.held
      → length standing.held.without_end ≡ 0 → (order : InOrder) → IsReady code order → length order.ends ≡ length standing.held.ends.ends
      → ((every before : List Activation) (bytes : List ℕ) (budget : ℕ) → IsLayoutOf standing.layout before
      → IsHeld before bytes (frame_outcome (parts_of code) every budget) standing.held.ends.ends (map kept_of standing.held.kept.items) standing.held.ends.output
      → HaveAllEnded (meaning_in (parts_of code) every before bytes budget) → StandsBehind (parts_of code) every before bytes budget order)
      → (held : Held) → HaveRunInOrder code input budgets (record standing { held = held }) order
  begins_in_order later standing stands meant none order ready count behind held = record {
    goes = record {
      laid_out = laid_out standing stands;
      are_last = stands.are_last;
      have_run = let w = stands.within in omega (arith, as_many, w);
      within = omega (arith, as_many);
      ready = ready;
      behind = subst (λ (xs : List Activation). StandsBehind (parts_of code) all xs input budgets.task order) (sym all_taken) stands_behind;
    };
    all = as_many;
  }
    where
      given_so : List Activation
      given_so = created_so_far standing.control

      ends_many : length standing.held.ends.ends ≡ length given_so
      ends_many = ap length meant.is_meant.ends_are_meant ∙ length-ends given_so input (body given_so)

      as_many : length order.ends ≡ length given_so
      as_many = count ∙ ends_many

      all_taken : take (length order.ends) given_so ≡ given_so
      all_taken = take_all (length order.ends) given_so (omega (arith, as_many))

      same : stream_meaning given_so input (body given_so) ≡ stream_meaning given_so input (body all)
      same = subst (λ (xs : List Activation). stream_meaning xs input (body xs) ≡ stream_meaning xs input (body all)) all_taken
          (same_meaning standing.control standing.layout (laid_out standing stands) later (length order.ends))

      have_ended : HaveAllEnded (stream_meaning given_so input (body given_so))
      have_ended = all_some (stream_meaning given_so input (body given_so))
          (λ a lt. subst (λ (es : List (Option TaskEnd)). has_end_at es a ≡ true) meant.is_meant.ends_are_meant
          (all_ended standing.held.ends.ends standing.held.without_end meant.are_open none a (let e = ap length meant.is_meant.ends_are_meant in omega (arith, e, lt))))

      stands_behind : StandsBehind (parts_of code) all given_so input budgets.task order
      stands_behind = behind all given_so input budgets.task stands.laid
          (same_held given_so input (body given_so) (body all) standing.held.ends.ends (map kept_of standing.held.kept.items) standing.held.ends.output same meant.is_meant)
          (subst HaveAllEnded same have_ended)

  -- the next stretch is behind those that ran
  pub next_stretch : (standing : Standing) (order : InOrder) → HaveRunInOrder code input budgets standing order → (count : ℕ) (after : Standing)
      → HasCreated count standing.control after.control [] after.activations → after.first ≡ frame_count standing.layout
      → IsLayoutOf after.layout (created_so_far standing.control ++ after.activations) → length after.layout.writers ≡ length standing.layout.writers → after.layout.input_len ≡ standing.layout.input_len
      → GoesInOrder code input budgets after order × (after.first ≡ length order.ends)
  next_stretch standing order ran count after made first is streams over = (
    record {
      laid_out = next_laid_out standing.control standing.layout ran.goes.laid_out count after.control after.activations made after.layout is streams over;
      are_last = next_are_last standing.control standing.layout ran.goes.laid_out count after.control after.activations made ∙ ap (λ n. drop n (created_so_far after.control)) (sym starts);
      have_run = omega (arith, behind_all);
      within = let m = ap length made.joined ∙ length-append (created_so_far standing.control) (take count (remaining standing.control)) in let a = ran.all in omega (arith, m, a);
      ready = ran.goes.ready;
      behind = subst (λ (xs : List Activation). StandsBehind (parts_of code) all xs input budgets.task order) same_taken ran.goes.behind;
    },
    behind_all,
  )
    where
      starts : after.first ≡ length (created_so_far standing.control)
      starts = first ∙ frame_count-is standing.layout (created_so_far standing.control) ran.goes.laid_out.laid

      behind_all : after.first ≡ length order.ends
      behind_all = starts ∙ sym ran.all

      same_taken : take (length order.ends) (created_so_far standing.control) ≡ take (length order.ends) (created_so_far after.control)
      same_taken =
          take_all (length order.ends) (created_so_far standing.control) (let a = ran.all in omega (arith, a))
          ∙ sym (ap (λ n. take n (created_so_far after.control)) ran.all ∙ first_stay standing.control standing.layout ran.goes.laid_out count after.control after.activations made)

  -- the activations of a stretch are the next ones of the layout
  pub are_next : (standing : Standing) (order : InOrder) → GoesInOrder code input budgets standing order → standing.first ≡ length order.ends
      → (slice : List Activation) → slice ≡ standing.activations → AreLast code standing.layout (length order.ends) slice
  are_next standing order goes first slice is = record {
    whole = is_whole standing.control standing.layout goes.laid_out;
    streams = goes.laid_out.streams;
    in_layout = given_so;
    is_of = goes.laid_out.laid;
    within = goes.within;
    are_next = next_is;
    fit = subst (All (Fits (parts_of code))) (sym next_is)
        (λ i d lt. subst (Fits (parts_of code)) (sym (get_or-drop (length order.ends) given_so i d))
        (goes.laid_out.fit (length order.ends + i) d (omega (arith, lt, length-drop (length order.ends) given_so))));
  }
    where
      given_so : List Activation
      given_so = created_so_far standing.control

      next_is : slice ≡ drop (length order.ends) given_so
      next_is = is ∙ goes.are_last ∙ ap (λ n. drop n given_so) first

  -- some of them ran
  module _ (standing : Standing) (order after : InOrder) (goes : GoesInOrder code input budgets standing order) (first : standing.first ≡ length order.ends)
      (slice : List Activation) (is : slice ≡ standing.activations) (count : ℕ) (ready : IsReady code after) (few : count ≤ length slice) (count_is : length after.ends ≡ length order.ends + count)
      (behind : (every given : List Activation) → IsLayoutOf standing.layout given → given ≡ take (length given) every → drop (length order.ends) given ≡ slice
      → StandsBehind (parts_of code) every (take (length order.ends) given) input budgets.task order
      → StandsBehind (parts_of code) every (take (length order.ends + count) given) input budgets.task after) where
    abbrev given_then : List Activation
    given_then = created_so_far standing.control

    slice_is : slice ≡ drop (length order.ends) given_then
    slice_is = is ∙ goes.are_last ∙ ap (λ n. drop n given_then) first

    as_long : length slice ≡ length given_then - length order.ends
    as_long = ap length slice_is ∙ length-drop (length order.ends) given_then

    pub went_on : (held : Held) → GoesInOrder code input budgets (record standing { held = held }) after
    went_on held = record {
      laid_out = goes.laid_out;
      are_last = goes.are_last;
      have_run = omega (arith, first, count_is);
      within = let w = goes.within in omega (arith, w, few, as_long, count_is);
      ready = ready;
      behind = subst (λ n. StandsBehind (parts_of code) all (take n given_then) input budgets.task after) (sym count_is)
          (behind all given_then goes.laid_out.laid (are_first standing.control standing.layout goes.laid_out) (sym slice_is) goes.behind);
    }

    pub all_went : count ≡ length standing.activations → (held : Held) → HaveRunInOrder code input budgets (record standing { held = held }) after
    all_went all_of_them held = record {
      goes = went_on held;
      all = let w = goes.within in let l = ap length is in omega (arith, w, l, as_long, count_is, all_of_them);
    }

  -- and what nobody reads any more was given up
  pub gave_up_in_order : (standing : Standing) (order after : InOrder) → HaveRunInOrder code input budgets standing order → after.ends ≡ order.ends
      → ((c : Code) → IsReady c order → IsReady c after)
      → ((parts : Parts) (every given : List Activation) (bytes : List ℕ) (budget : ℕ) → IsLayoutOf standing.layout given → length standing.layout.writers ≡ length order.streams.elements
      → StandsBehind parts every given bytes budget order → StandsBehind parts every given bytes budget after)
      → HaveRunInOrder code input budgets standing after
  gave_up_in_order standing order after ran same ready behind = record {
    goes = record {
      laid_out = ran.goes.laid_out;
      are_last = ran.goes.are_last;
      have_run = let h = ran.goes.have_run in omega (arith, h, many);
      within = let w = ran.goes.within in omega (arith, w, many);
      ready = ready code ran.goes.ready;
      behind = subst (λ (xs : List Activation). StandsBehind (parts_of code) all xs input budgets.task after) (sym (all_taken (length after.ends) (many ∙ ran.all)))
          (behind (parts_of code) all given_so input budgets.task ran.goes.laid_out.laid (ran.goes.laid_out.streams ∙ sym ran.goes.ready.streams)
          (subst (λ (xs : List Activation). StandsBehind (parts_of code) all xs input budgets.task order) (all_taken (length order.ends) ran.all) ran.goes.behind));
    };
    all = many ∙ ran.all;
  }
    where
      given_so : List Activation
      given_so = created_so_far standing.control

      many : length after.ends ≡ length order.ends
      many = ap length same

      all_taken : (n : ℕ) → n ≡ length given_so → take n given_so ≡ given_so
      all_taken n is = take_all n given_so (omega (arith, is))

  -- what ran is held as after an epoch
  pub holds : LaterActivationsChangeNothing → (standing : Standing) (order : InOrder) → GoesInOrder code input budgets standing order → (held : Held)
      → held.ends.ends ≡ order.ends
      → ((parts : Parts) (every before : List Activation) (bytes : List ℕ) (budget : ℕ) → AreLawful (length order.streams.elements) before → StandsBehind parts every before bytes budget order
      → IsHeld before bytes (frame_outcome parts every budget) held.ends.ends (map kept_of held.kept.items) held.ends.output)
      → held.without_end ≡ [] → StandsAt code input budgets (record standing { held = held })
  holds later standing order goes held ends meant none = record {
    code_is = goes.laid_out.code_is;
    input_is = goes.laid_out.input_is;
    budget_is = goes.laid_out.budget_is;
    are_last = goes.are_last;
    have_ended = λ a lt. ended a (let h = goes.have_run in omega (arith, h, lt));
    within = let h = goes.have_run in let w = goes.within in omega (arith, h, w);
    fit = goes.laid_out.fit;
    lawful = goes.laid_out.lawful;
    has_output = goes.laid_out.has_output;
    streams = goes.laid_out.streams;
    over = goes.laid_out.over;
    laid = goes.laid_out.laid;
    held = record { before = before; new = drop (length order.ends) given_so; are_all = sym (take-append-drop (length order.ends) given_so); meant = is_held };
  }
    where
      given_so : List Activation
      given_so = created_so_far standing.control

      before : List Activation
      before = take (length order.ends) given_so

      as_many : length before ≡ length order.ends
      as_many = length-take-le (length order.ends) given_so goes.within

      state : State
      state = meaning_in (parts_of code) all before input budgets.task

      ended : (a : ℕ) → a < length order.ends → has_end_at held.ends.ends a ≡ true
      ended a lt =
          ap (λ (es : List (Option TaskEnd)). has_end_at es a) (ends ∙ goes.behind.ends_are)
          ∙ some_all state goes.behind.have_ended a (let l = length-state before input (body all) in omega (arith, l, as_many, lt))

      lawful_before : AreLawful (length order.streams.elements) before
      lawful_before = subst (λ n. AreLawful n before) (sym goes.ready.streams)
          (lawful-front code.streams before (drop (length order.ends) given_so) (subst (AreLawful code.streams) (sym (take-append-drop (length order.ends) given_so)) goes.laid_out.lawful))

      is_held : IsHeldOf (parts_of code) before input budgets.task held
      is_held = record {
        is_meant = same_held before input (body all) (body before) held.ends.ends (map kept_of held.kept.items) held.ends.output
            (sym (same_meaning standing.control standing.layout goes.laid_out later (length order.ends)))
            (meant (parts_of code) all before input budgets.task lawful_before goes.behind);
        are_open = none ∙ none_open held.ends.ends (length held.ends.ends) (λ a lt. ended a (let e = ap length ends in omega (arith, e, lt)));
      }

  module _ (so_far : RunSoFar) (layout : Layout) (laid : AreLaidOut code input budgets so_far layout) (told : so_far.has_ended ≡ true → created_so_far so_far ≡ (whole so_far).activations) where
    -- where the control program has ended, these are all
    pub are_all_told : (end : Option ControlEnd) → end ≡ end_told so_far → IfSome end (λ e. created_so_far so_far ≡ all)
    are_all_told None is = tt
    are_all_told (Some e) is = by so_far.has_ended refl
      where
        by : (b : Bool) → so_far.has_ended ≡ b → created_so_far so_far ≡ all
        by true ended = told ended ∙ ap (λ (c : Control). c.activations) (whole_is so_far layout laid)
        by false ended = let z : Some e ≡ None = is ∙ ap (λ b. cond b (Some (whole so_far).end) None) ended in absurd (cc)

    pub end_is_told : (end : Option ControlEnd) → end ≡ end_told so_far → IfSome end (λ e. e ≡ (main_control (parts_of code) (length input) budgets.control).end)
    end_is_told None is = tt
    end_is_told (Some e) is = by so_far.has_ended refl
      where
        by : (b : Bool) → so_far.has_ended ≡ b → e ≡ (main_control (parts_of code) (length input) budgets.control).end
        by true ended =
            let z : Some e ≡ Some (whole so_far).end = is ∙ ap (λ b. cond b (Some (whole so_far).end) None) ended in
            let s : e ≡ (whole so_far).end = cc in
            s ∙ ap (λ (c : Control). c.end) (whole_is so_far layout laid)
        by false ended = let z : Some e ≡ None = is ∙ ap (λ b. cond b (Some (whole so_far).end) None) ended in absurd (cc)

-- where it hasn't told its end, more may come
pub not_told : (so_far : RunSoFar) (end : Option ControlEnd) → end ≡ end_told so_far → end ≡ None → so_far.has_ended ≡ false
not_told so_far end is none = by so_far.has_ended refl
  where
    by : (b : Bool) → so_far.has_ended ≡ b → so_far.has_ended ≡ false
    by false ended = ended
    by true ended = let z : Some (whole so_far).end ≡ None = sym (is ∙ ap (λ b. cond b (Some (whole so_far).end) None) ended) ∙ none in absurd (cc)

-- after a stretch
module _ (count : ℕ) (before after : RunSoFar) (list next : List Activation) (made : HasCreated count before after list next) where
  ended_is : after.has_ended ≡ nat_lt (length (remaining before)) count
  ended_is = ap (λ (r : RunSoFar). r.has_ended) made.is_run

  pub grown : 1 ≤ count → after.has_ended ≡ false → length (created_so_far before) < length (created_so_far after)
  grown some on =
      let ge = ltb-false (length (remaining before)) count (sym ended_is ∙ on) in
      let l = ap length made.joined ∙ length-append (created_so_far before) (take count (remaining before)) in
      let n = length-take count (remaining before) in
      omega (arith, ge, l, n, some)

  pub has_told : after.has_ended ≡ true → created_so_far after ≡ (whole after).activations
  has_told ended = made.all (sym ended_is ∙ ended)
