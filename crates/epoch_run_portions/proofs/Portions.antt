-- A portion, stretch by stretch.
use Rattle.std.proofs.Common.{◌≡◌, ℕ, ◌+◌, ◌≤◌, Bool, List, [], ◌++◌, true, false, All, length, take, drop, map, refl, sym, ap, ◌∙◌, subst, arith}
use Rattle.std.specs.Prelude.{not, slice_get}
use Rattle.std.specs.List.{range_with_len}
use Rattle.std.proofs.lemmas.List.{append_assoc, length-append, length-take, length-take-le, take-append-drop, take_all, take_at, take_min}
use Rattle.control_run.specs.Stretches.{RunSoFar, created_so_far, not_begun, whole}
use Rattle.epoch_run_in_order.specs.Standing.{IsReady, StandsApart}
use Rattle.epoch_run_in_order.specs.declared.apart.Apart.{Apart}
use Rattle.flow_core_laws.specs.Place.{written_count}
use Rattle.flow_core_laws.specs.declared.activation.Activation.{Activation}
use Rattle.flow_core_laws.proofs.Stretches.{slice_get-append_left, slice_get-append_right}
use Rattle.os_code.specs.Codes.{parts_of}
use Rattle.os_code.specs.Outcomes.{main_control}
use Rattle.os_code.specs.Tasks.{Fits}
use Rattle.os_code.specs.declared.code.Code.{Code}
use Rattle.os_code.specs.declared.parts.Parts.{Parts}
use Rattle.stream_match_layouts.specs.Lawful.{AreLawful}
use Rattle.epoch_run_portions.specs.Positions.{HavePassed}
use Rattle.epoch_run_portions.specs.Running.{HaveRunSome, MayRun, StandBehind, Stands, StandsWithin}
use Rattle.epoch_run_portions.specs.Portion.{IsPortion, created}
use Rattle.epoch_run_portions.specs.Walk.{HasGiven, HasWalked, IsSameRun}
use Rattle.epoch_run_portions.specs.declared.positions.Positions.{Positions}
use Rattle.epoch_run_portions.specs.declared.walk.Walk.{Walk}
use Rattle.epoch_run_portions.proofs.Passing.{All-back}

whole_same : (a b : RunSoFar) → IsSameRun a b → (whole b).activations ≡ (whole a).activations
whole_same a b same =
    ap (λ p. (main_control p b.input_len b.budget).activations) same.code
    ∙ ap (λ n. (main_control a.code n b.budget).activations) same.input_len
    ∙ ap (λ n. (main_control a.code a.input_len n).activations) same.budget

pub same_after : (a b c : RunSoFar) → IsSameRun a b → IsSameRun b c → IsSameRun a c
same_after a b c one two = record { code = two.code ∙ one.code; input_len = two.input_len ∙ one.input_len; budget = two.budget ∙ one.budget }

pub not_true : (b : Bool) → not b ≡ true → b ≡ false
not_true false e = refl
not_true true e = let z : false ≡ true = e in absurd (cc)

-- ---- where a portion stands is within what will come

module _ (code : Code) (input : List ℕ) (budget : ℕ) where
  pub is_within : (walk : Walk) (apart : Apart) → Stands code input budget walk apart → StandsWithin code input budget walk.control apart
  is_within walk apart st =
      let all : List Activation = (whole walk.control).activations in
      let n = length-take walk.control.created_by_now all in
      record {
        count = length (created_so_far walk.control);
        within = omega (arith, n);
        ready = st.ready;
        ran_to = st.ran_to ∙ st.walked.have_passed.count;
        stands = subst (λ (xs : List Activation). StandsApart (parts_of code) all apart.first xs input budget apart.order) (sym (ap (λ k. take k all) n ∙ take_min walk.control.created_by_now all)) st.stands;
      }

  pub within_same : (a b : RunSoFar) (apart : Apart) → IsSameRun a b → StandsWithin code input budget b apart → StandsWithin code input budget a apart
  within_same a b apart same w =
      let e = whole_same a b same in
      record {
        count = w.count;
        within = subst (λ (xs : List Activation). w.count ≤ length xs) e w.within;
        ready = w.ready;
        ran_to = w.ran_to;
        stands = subst (λ (xs : List Activation). StandsApart (parts_of code) xs apart.first (take w.count xs) input budget apart.order) e w.stands;
      }

  -- ---- a stretch

  module _ (walk : Walk) (apart : Apart) (st : Stands code input budget walk apart) (at_most : ℕ) (run : RunSoFar) (next : List Activation) (ended : Bool) (given : HasGiven at_most walk.control run next ended) where
    abbrev before : List Activation
    before = created_so_far walk.control

    abbrev every : List Activation
    every = (whole walk.control).activations

    abbrev rest : List Activation
    rest = drop run.created_by_now every

    same_all : (whole run).activations ≡ every
    same_all = whole_same walk.control run given.same

    split : every ≡ (before ++ next) ++ rest
    split = sym (take-append-drop run.created_by_now every) ∙ ap (λ xs. xs ++ rest) (sym (ap (take run.created_by_now) same_all) ∙ given.joined)

    run_code : run.code ≡ parts_of code
    run_code = given.same.code ∙ st.code_is

    passed_before : HavePassed code.streams before walk.positions
    passed_before = subst (λ (p : Parts). HavePassed p.streams before walk.positions) st.code_is st.walked.have_passed

    fit_next : All (Fits (parts_of code)) next
    fit_next = All-back (Fits (parts_of code)) before next (subst (All (Fits (parts_of code))) given.joined (subst (λ (p : Parts). All (Fits p) (created_so_far run)) run_code given.fit))

    lawful_next : AreLawful code.streams (before ++ next)
    lawful_next = subst (AreLawful code.streams) given.joined (subst (λ (p : Parts). AreLawful p.streams (created_so_far run)) run_code given.lawful)

    pub may_run : (slice : List Activation) (positions : Positions) → slice ≡ next → positions ≡ walk.positions → MayRun code slice positions apart
    may_run slice positions is same = subst (λ (p : Positions). MayRun code slice p apart) (sym same) (subst (λ (xs : List Activation). MayRun code xs walk.positions apart) (sym is)
        (record { passed = before; have_passed = passed_before; fit = fit_next; lawful = lawful_next; ready = st.ready; ran_to = st.ran_to }))

    there : StandBehind every before next
    there = λ i lt.
        ap (λ (xs : List Activation). slice_get xs (length before + i)) split
        ∙ slice_get-append_left (before ++ next) rest (length before + i) (omega (arith, lt, length-append before next))
        ∙ slice_get-append_right before next i

    first_there : (k : ℕ) → k ≤ length next → StandBehind every before (take k next)
    first_there k le = λ i lt.
        there i (omega (arith, lt, le, length-take-le k next le))
        ∙ ap (λ (xs : List Activation). slice_get xs i) (sym (take-append-drop k next))
        ∙ slice_get-append_left (take k next) (drop k next) i lt

    first_ones : (k : ℕ) → k ≤ length next → take (length before + k) every ≡ before ++ take k next
    first_ones k le =
        ap (take (length before + k))
        (split ∙ append_assoc before next rest ∙ ap (λ ys. before ++ (ys ++ rest)) (sym (take-append-drop k next)) ∙ ap (λ ys. before ++ ys) (append_assoc (take k next) (drop k next) rest)
        ∙ sym (append_assoc before (take k next) (drop k next ++ rest)))
        ∙ take_at (before ++ take k next) (drop k next ++ rest) (length before + k) (omega (arith, length-append before (take k next), length-take-le k next le))

    module _ (slice : List Activation) (positions : Positions) (is : slice ≡ next) (same : positions ≡ walk.positions) (after : Apart) (goes_on : Bool)
        (some_of : HaveRunSome code slice input budget positions apart after goes_on) where
      some : HaveRunSome code next input budget walk.positions apart after goes_on
      some = subst (λ (p : Positions). HaveRunSome code next input budget p apart after goes_on) same
          (subst (λ (xs : List Activation). HaveRunSome code xs input budget positions apart after goes_on) is some_of)

      size : length (take some.count next) ≡ some.count
      size = length-take-le some.count next some.within

      stands_there : StandsApart (parts_of code) every after.first (before ++ take some.count next) input budget after.order
      stands_there = some.ran.stands every before passed_before (first_there some.count some.within) st.stands

      pub some_within : StandsWithin code input budget walk.control after
      some_within =
          let w = some.within in
          let r = some.ran.ran_to in
          let p = passed_before.count in
          record {
            count = length before + some.count;
            within = omega (arith, w, ap length split, length-append (before ++ next) rest, length-append before next);
            ready = some.ran.ready;
            ran_to = omega (arith, r, p, size);
            stands = subst (λ (xs : List Activation). StandsApart (parts_of code) every after.first xs input budget after.order) (sym (first_ones some.count some.within)) stands_there;
          }

      module _ (on : goes_on ≡ true) (now : Positions) (passes : (earlier : List Activation) → HavePassed code.streams earlier positions → HavePassed code.streams (earlier ++ slice) now) where
        passed_now : HavePassed code.streams (before ++ next) now
        passed_now = subst (λ (xs : List Activation). HavePassed code.streams (before ++ xs) now) is
            (passes before (subst (HavePassed code.streams before) (sym same) passed_before))

        pub stands_next : (list : List Activation) → Stands code input budget (record { control = run; activations = list; positions = now }) after
        stands_next list =
            let r = some.ran.ran_to in
            let p = passed_before.count in
            let n = passed_now.count in
            let a = some.all on in
            let all : before ++ take some.count next ≡ created_so_far run = ap (λ ys. before ++ ys) (take_all some.count next (omega (arith, a))) ∙ sym given.joined in
            record {
              code_is = run_code;
              walked = record { have_passed = subst (λ (p : Parts). HavePassed p.streams (created_so_far run) now) (sym run_code) (subst (λ (xs : List Activation). HavePassed code.streams xs now) (sym given.joined) passed_now) };
              ready = some.ran.ready;
              ran_to = omega (arith, r, p, n, a, size, length-append before next);
              stands = subst (λ (xs : List Activation). StandsApart (parts_of code) xs after.first (created_so_far run) input budget after.order) (sym same_all)
                  (subst (λ (xs : List Activation). StandsApart (parts_of code) every after.first xs input budget after.order) all stands_there);
            }

        pub grows : ended ≡ false → now.count ≡ walk.positions.count + at_most
        grows going =
            let p = passed_before.count in
            let n = passed_now.count in
            let g = given.going going in
            omega (arith, p, n, g, length-append before next)

  -- ---- the beginning

  pub begins : (walk : Walk) → walk.control.code ≡ parts_of code → HasWalked walk → (apart : Apart) (writes : List ℕ) → writes ≡ walk.positions.cursors.writes → IsReady code apart.order → apart.first ≡ walk.positions.count
      → apart.order.ends ≡ []
      → ((all earlier : List Activation) (bytes : List ℕ) (turns : ℕ) → length earlier ≡ walk.positions.count → writes ≡ map (written_count earlier) (range_with_len 0 code.streams)
      → StandsApart (parts_of code) all walk.positions.count earlier bytes turns apart.order)
      → Stands code input budget walk apart
  begins walk code_is walked apart writes writes_are ready first none stands =
      let h : HavePassed code.streams (created_so_far walk.control) walk.positions = subst (λ (p : Parts). HavePassed p.streams (created_so_far walk.control) walk.positions) code_is walked.have_passed in
      let e = ap length none in
      record {
        code_is = code_is;
        walked = walked;
        ready = ready;
        ran_to = omega (arith, first, e);
        stands = subst (λ n. StandsApart (parts_of code) (whole walk.control).activations n (created_so_far walk.control) input budget apart.order) (sym first)
            (stands (whole walk.control).activations (created_so_far walk.control) input budget (sym h.count) (writes_are ∙ h.writes));
      }

  pub is_portion : (control_budget len : ℕ) (start last : RunSoFar) (apart : Apart) → len ≡ length input → start ≡ not_begun (parts_of code) len control_budget → IsSameRun start last
      → StandsWithin code input budget last apart → IsPortion (parts_of code) input control_budget budget apart
  is_portion control_budget len start last apart len_is start_is same w =
      let e : (whole last).activations ≡ created (parts_of code) input control_budget =
      whole_same start last same ∙ ap (λ (r : RunSoFar). (whole r).activations) start_is ∙ ap (λ n. (main_control (parts_of code) n control_budget).activations) len_is in
      record {
        count = w.count;
        within = subst (λ (xs : List Activation). w.count ≤ length xs) e w.within;
        ran_to = w.ran_to;
        stands = subst (λ (xs : List Activation). StandsApart (parts_of code) xs apart.first (take w.count xs) input budget apart.order) e w.stands;
      }
