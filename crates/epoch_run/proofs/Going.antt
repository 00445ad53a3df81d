-- From one epoch to the next.
use Rattle.std.proofs.Common.{◌≡◌, ℕ, ◌<◌, ◌≤◌, ◌⊎◌, inl, inr, List, [], ◌++◌, Option, Some, None, Bool, true, false, cond, All, drop, length, map, take, refl, sym, ap, ◌∙◌, subst, arith, lit≤, lit<}
use Rattle.std.specs.Prelude.{IfSome, nat_lt}
use Rattle.std.proofs.lemmas.Bool.{cases_lt, lt-ltb}
use Rattle.std.proofs.lemmas.List.{drop-append-le, drop_all, length-append, length-take, take_min}
use Rattle.std.proofs.lemmas.List.Elements.{All-nil}
use Rattle.control_run.specs.Stretches.{RunSoFar, created_so_far, end_told, not_begun, remaining, whole}
use Rattle.epoch_run_bodies.specs.Frames.{code_ends, frame_outcome}
use Rattle.epoch_run_bodies.specs.Laws.{LaterActivationsChangeNothing}
use Rattle.flow_core_epochs.specs.Epoch.{IsHeld, open_in}
use Rattle.flow_core_epochs.specs.Laws.{HeldAtFirst}
use Rattle.flow_core_laws.specs.Outcome.{has_end_at}
use Rattle.flow_core_laws.specs.declared.elem.Elem.{Elem}
use Rattle.flow_core_laws.specs.declared.activation.Activation.{Activation}
use Rattle.flow_core_laws.specs.declared.control.Control.{Control}
use Rattle.flow_core_laws.specs.declared.control.ControlEnd.{ControlEnd}
use Rattle.flow_core_laws.specs.declared.task_end.TaskEnd.{TaskEnd}
use Rattle.os_code.specs.Codes.{parts_of}
use Rattle.os_code.specs.Outcomes.{main_control}
use Rattle.os_code.specs.Tasks.{Fits}
use Rattle.os_code.specs.declared.code.Code.{Code}
use Rattle.os_code.specs.declared.parts.Parts.{Parts}
use Rattle.stream_match.specs.Kept.{kept_of}
use Rattle.stream_match.specs.declared.kept.Kept.{Kept}
use Rattle.stream_match_layouts.specs.Lawful.{AreLawful}
use Rattle.stream_match_layouts.specs.Layout.{IsLayout, IsLayoutOf}
use Rattle.stream_match_layouts.proofs.Tallies.{frame_count-is}
use Rattle.stream_match_layouts.specs.Layout.{TakesMore}
use Rattle.stream_match_layouts.specs.Spans.{frame_count}
use Rattle.stream_match_layouts.specs.declared.layout.Layout.{Layout}
use Rattle.epoch_run.proofs.Step.{length-ends, stays_ended}
use Rattle.epoch_run.proofs.Listing.{all_ended}
use Rattle.epoch_run.specs.Held.{IsHeldOf, IsOpenEpoch}
use Rattle.epoch_run.specs.Run.{AreBudgets, created}
use Rattle.epoch_run.specs.Standing.{HasAdvanced, HasCreated, HasRun, StandsAt}
use Rattle.epoch_run.specs.declared.held.Held.{Held}
use Rattle.epoch_run.specs.declared.result.Budgets.{Budgets}
use Rattle.epoch_run.specs.declared.standing.Standing.{Standing}

-- no activations are lawful
pub none_lawful : (n : ℕ) → AreLawful n []
none_lawful n = record { activations_are_few = lit≤ tt; claims_are_lawful = All-nil _; positions_are_few = lit≤ tt; cursors_are_small = lit< tt }

module _ (code : Code) (input : List ℕ) (budgets : Budgets) where
  -- before the first epoch
  pub begins : HeldAtFirst → (layout : Layout) (held : Held) → 2 ≤ code.streams → IsLayoutOf layout [] → length layout.writers ≡ code.streams → layout.input_len ≡ length input
      → held.ends.ends ≡ [] → held.ends.output ≡ [] → held.without_end ≡ [] → held.kept.items ≡ [] → (run : RunSoFar) → run ≡ not_begun (parts_of code) (length input) budgets.control
      → (activations : List Activation) → activations ≡ []
      → StandsAt code input budgets (record { control = run; activations = activations; first = 0; layout = layout; held = held; tried = 0 })
  begins first layout held two laid streams over ends output unended kept run is activations none = record {
    code_is = ap (λ (r : RunSoFar). r.code) is;
    input_is = ap (λ (r : RunSoFar). r.input_len) is;
    budget_is = ap (λ (r : RunSoFar). r.budget) is;
    are_last = none ∙ sym no_given;
    have_ended = λ a lt. absurd (omega arith);
    within = omega arith;
    fit = subst (All (Fits (parts_of code))) (sym no_given) (All-nil (Fits (parts_of code)));
    lawful = subst (AreLawful code.streams) (sym no_given) (none_lawful code.streams);
    has_output = two;
    streams = streams;
    over = over;
    laid = subst (IsLayoutOf layout) (sym no_given) laid;
    held = record { before = []; new = []; are_all = no_given; meant = nothing };
  }
    where
      no_given : created_so_far run ≡ []
      no_given = ap created_so_far is

      meant_first : IsHeld [] input (frame_outcome (parts_of code) [] budgets.task) held.ends.ends (map kept_of held.kept.items) held.ends.output
      meant_first =
          subst (λ (es : List (Option TaskEnd)). IsHeld [] input (frame_outcome (parts_of code) [] budgets.task) es (map kept_of held.kept.items) held.ends.output) (sym ends)
          (subst (λ (ks : List Kept). IsHeld [] input (frame_outcome (parts_of code) [] budgets.task) [] (map kept_of ks) held.ends.output) (sym kept)
          (subst (λ (os : List (Option Elem)). IsHeld [] input (frame_outcome (parts_of code) [] budgets.task) [] [] os) (sym output)
          (first input (frame_outcome (parts_of code) [] budgets.task))))

      nothing : IsHeldOf (parts_of code) [] input budgets.task held
      nothing = record {
        is_meant = meant_first;
        are_open = unended ∙ sym (ap (λ (es : List (Option TaskEnd)). open_in es (length es)) ends);
      }

  -- where each activation has an end, all are given up
  pub gave_up : (standing : Standing) (given : List Activation) → HasRun code input budgets given standing → length standing.held.without_end ≡ 0 → (control : RunSoFar) (empty : List Activation) → empty ≡ []
      → (first : ℕ) → first ≡ length standing.held.ends.ends → HasRun code input budgets given (record standing { control = control; activations = empty; first = first })
  gave_up standing given is none control empty is_empty first all = record {
    are_last = is_empty ∙ sym (drop_all first given (omega (arith, as_many)));
    have_ended = λ a lt. all_ended standing.held.ends.ends standing.held.without_end is.held.are_open none a (omega arith);
    within = omega (arith, as_many);
    held = is.held;
  }
    where
      as_many : length standing.held.ends.ends ≡ length given
      as_many = ap length is.held.is_meant.ends_are_meant ∙ length-ends given input (frame_outcome (parts_of code) given budgets.task)

  module _ (standing : Standing) (small : AreBudgets budgets) (stands : StandsAt code input budgets standing) where
    abbrev all : List Activation
    all = created_so_far standing.control

    lawful : AreLawful (length standing.layout.writers) all
    lawful = subst (λ n. AreLawful n all) (sym stands.streams) stands.lawful

    pub whole_layout : IsLayout standing.layout
    whole_layout = record { has_output = omega (arith, stands.streams, stands.has_output); activations = all; is_of = stands.laid; lawful = lawful }

    whole_now : whole standing.control ≡ main_control (parts_of code) (length input) budgets.control
    whole_now =
        ap (λ p. main_control p standing.control.input_len standing.control.budget) stands.code_is
        ∙ ap (λ n. main_control (parts_of code) n standing.control.budget) stands.input_is
        ∙ ap (main_control (parts_of code) (length input)) stands.budget_is

    -- as many of those that are created as the layout has
    pub first_created : (count input_len : ℕ) → count ≡ frame_count standing.layout → input_len ≡ length input
        → take count (main_control (parts_of code) input_len budgets.control).activations ≡ all
    first_created count input_len as_many long =
        ap (λ n. take count (main_control (parts_of code) n budgets.control).activations) long
        ∙ ap (λ (c : Control). take count c.activations) (sym whole_now)
        ∙ ap (λ n. take n (whole standing.control).activations) (as_many ∙ frame_count-is standing.layout all stands.laid ∙ length-take standing.control.created_by_now (whole standing.control).activations)
        ∙ take_min standing.control.created_by_now (whole standing.control).activations

    -- the next epoch is open
    pub opens : (slice : List Activation) → slice ≡ all → IsOpenEpoch code slice budgets.task standing.layout input standing.held
    opens slice is = subst (λ (xs : List Activation). IsOpenEpoch code xs budgets.task standing.layout input standing.held) (sym is) (record {
      small = small.task_turns;
      fit = stands.fit;
      lawful = lawful;
      whole = whole_layout;
      laid = stands.laid;
      over = stands.over;
      stands = stands.held;
    })

    -- what is held when all were run is what they come to
    pub comes_to : (held : Held) (slice : List Activation) → slice ≡ all → IsHeldOf (parts_of code) slice input budgets.task held
        → held.ends ≡ code_ends (parts_of code) all input budgets.task
    comes_to held slice is meant =
        let m = subst (λ (xs : List Activation). IsHeldOf (parts_of code) xs input budgets.task held) is meant in
        ap (λ es. record { ends = es; output = held.ends.output }) m.is_meant.ends_are_meant
        ∙ ap (λ os. record { ends = (code_ends (parts_of code) all input budgets.task).ends; output = os }) m.is_meant.output_is_meant

    -- what has ended stays so, and each has an end or none
    pub stays_so : LaterActivationsChangeNothing → (after : Held) → IsHeldOf (parts_of code) all input budgets.task after → (a : ℕ) → a < standing.first → has_end_at after.ends.ends a ≡ true
    stays_so later after meant a lt = stays_ended (parts_of code) all input budgets.task standing.held after later stands.held meant a (stands.have_ended a lt)

    -- so the run stands behind an epoch
    pub has_run : LaterActivationsChangeNothing → (after : RunSoFar) (held : Held) → IsHeldOf (parts_of code) all input budgets.task held
        → HasRun code input budgets all (record standing { control = after; held = held })
    has_run later after held meant = record { are_last = stands.are_last; have_ended = stays_so later held meant; within = stands.within; held = meant }

    pub as_many_ends : (after : Held) → IsHeldOf (parts_of code) all input budgets.task after → length after.ends.ends ≡ length all
    as_many_ends after meant = ap length meant.is_meant.ends_are_meant ∙ length-ends all input (frame_outcome (parts_of code) all budgets.task)

    -- where the list begins with the first one, it has all
    pub are_all : standing.first ≡ 0 → standing.activations ≡ all
    are_all first = stands.are_last ∙ ap (λ n. drop n all) first

    module _ (at_most : ℕ) (after : RunSoFar) (empty next : List Activation) (is_empty : empty ≡ []) (advance : HasAdvanced at_most standing.control after empty next) where
      abbrev count : ℕ
      count = advance.count

      made : HasCreated count standing.control after empty next
      made = advance.created

      next_is : next ≡ take count (remaining standing.control)
      next_is = made.is_list ∙ ap (λ xs. xs ++ take count (remaining standing.control)) is_empty

      given : all ++ next ≡ created_so_far after
      given = ap (λ xs. all ++ xs) next_is ∙ sym made.joined

      after_code : after.code ≡ parts_of code
      after_code = ap (λ (r : RunSoFar). r.code) made.is_run ∙ stands.code_is

      all_lawful : AreLawful code.streams (all ++ next)
      all_lawful = subst (AreLawful code.streams) (sym given) (subst (λ (p : Parts). AreLawful p.streams (created_so_far after)) after_code made.lawful)

      pub takes_more : TakesMore standing.layout next
      takes_more = record { before = all; is_of = stands.laid; lawful = subst (λ n. AreLawful n (all ++ next)) (sym stands.streams) all_lawful }

      whole_is : whole after ≡ main_control (parts_of code) (length input) budgets.control
      whole_is = ap whole made.is_run ∙ whole_now

      -- the run after the epoch
      pub stands_next : (ran : Standing) → HasRun code input budgets all ran → (activations : List Activation) (layout : Layout) → activations ≡ ran.activations ++ next
          → IsLayoutOf layout (all ++ next) → length layout.writers ≡ length standing.layout.writers → layout.input_len ≡ standing.layout.input_len
          → StandsAt code input budgets (record ran { control = after; activations = activations; layout = layout })
      stands_next ran is activations layout are laid streams over = record {
        code_is = after_code;
        input_is = ap (λ (r : RunSoFar). r.input_len) made.is_run ∙ stands.input_is;
        budget_is = ap (λ (r : RunSoFar). r.budget) made.is_run ∙ stands.budget_is;
        are_last = are ∙ ap (λ xs. xs ++ next) is.are_last ∙ sym (drop-append-le ran.first all next is.within) ∙ ap (drop ran.first) given;
        have_ended = is.have_ended;
        within = let l = ap length given ∙ refl in let m = length-append all next in let w = is.within in omega (arith, l, m, w);
        fit = subst (λ (p : Parts). All (Fits p) (created_so_far after)) after_code made.fit;
        lawful = subst (AreLawful code.streams) given all_lawful;
        has_output = stands.has_output;
        streams = streams ∙ stands.streams;
        over = over ∙ stands.over;
        laid = subst (IsLayoutOf layout) given laid;
        held = record { before = all; new = next; are_all = sym given; meant = is.held };
      }

      has_ended : after.has_ended ≡ nat_lt (length (remaining standing.control)) count
      has_ended = ap (λ (r : RunSoFar). r.has_ended) made.is_run

      -- where the run hasn't ended, there are more activations
      pub grows : (end : Option ControlEnd) → end ≡ end_told after → end ≡ None → length all < length (created_so_far after)
      grows end told none = by (cases_lt (length (remaining standing.control)) count)
        where
          by : (length (remaining standing.control) < count) ⊎ (count ≤ length (remaining standing.control)) → length all < length (created_so_far after)
          by (inl lt) =
              let e : Some (whole after).end ≡ None = sym (ap (λ b. cond b (Some (whole after).end) None) (has_ended ∙ lt-ltb (length (remaining standing.control)) count lt)) ∙ sym told ∙ none in
              absurd (cc)
          by (inr ge) =
              let l = sym (ap length given) ∙ length-append all next in
              let n = ap length next_is ∙ length-take count (remaining standing.control) in
              let s = advance.some in
              omega (arith, l, n, s)

      -- where it has, these are all
      ended_so : (e : ControlEnd) → Some e ≡ end_told after → (nat_lt (length (remaining standing.control)) count ≡ true) × (e ≡ (whole after).end)
      ended_so e told = by (after.has_ended) refl
        where
          by : (b : Bool) → after.has_ended ≡ b → (nat_lt (length (remaining standing.control)) count ≡ true) × (e ≡ (whole after).end)
          by true is = (sym has_ended ∙ is, let s : Some e ≡ Some (whole after).end = told ∙ ap (λ b. cond b (Some (whole after).end) None) is in cc)
          by false is = let z : Some e ≡ None = told ∙ ap (λ b. cond b (Some (whole after).end) None) is in absurd (cc)

      pub all_created : (end : Option ControlEnd) → end ≡ end_told after → IfSome end (λ e. created_so_far after ≡ created (parts_of code) input budgets)
      all_created None told = tt
      all_created (Some e) told = made.all (ended_so e told).0 ∙ ap (λ (c : Control). c.activations) whole_is

      pub end_is : (end : Option ControlEnd) → end ≡ end_told after → IfSome end (λ e. e ≡ (main_control (parts_of code) (length input) budgets.control).end)
      end_is None told = tt
      end_is (Some e) told = (ended_so e told).1 ∙ ap (λ (c : Control). c.end) whole_is
