-- That each position that is claimed for writing has a producer, and what follows where all are Done.
use Rattle.std.proofs.Common.{◌≡◌, ℕ, zero, suc, ◌+◌, ◌<◌, ◌≤◌, inl, inr, ◌&&◌, Bool, true, false, cond, List, [], ◌∷◌, Some, None, length, take, get_or, refl, sym, ap, ◌∙◌, subst, arith, ◌⊎◌, not, Option}
use Rattle.std.specs.Prelude.{slice_get, sum_by, filter, nat_le, nat_lt, is_some}
use Rattle.std.specs.List.{list_all}
use Rattle.std.specs.Option.{option_map_or}
use Rattle.std.proofs.lemmas.Bool.{cases_lt, and_parts, le-leb, lt-ltb}
use Rattle.std.proofs.lemmas.List.{take_all, take_more}
use Rattle.std.proofs.lemmas.List.Elements.{filter-append}
use Rattle.std.proofs.lemmas.List.Sums.{sum_by-append}
use Rattle.std.proofs.lemmas.Option.{slice_get-get_or, get_or_from_slice_get, slice_get_within}
use Rattle.flow_core_laws.specs.declared.claim.Claim.{Claim}
use Rattle.flow_core_laws.specs.declared.activation.Activation.{Activation}
use Rattle.flow_core_laws.specs.declared.control.ControlEnd.{ControlEnd}
use Rattle.flow_core_laws.specs.declared.ends.Ends.{Ends}
use Rattle.flow_core_laws.specs.FirstPosition.{is_write_to, write_cursor, first_position}
use Rattle.flow_core_laws.specs.Place.{written_count}
use Rattle.flow_core_laws.specs.There.{is_there}
use Rattle.flow_core_laws.specs.Window.{Window, windows, claims_of, no_claim, is_written_by, producer}
use Rattle.flow_core_laws.proofs.Windows.{length-windows, window_at, is_window, first_of_write, producer_of}
use Rattle.collector.specs.Reported.{AreOfState, is_poisoned, is_undone_at}
use Rattle.collector.specs.Status.{has_done, is_done_control, status}
use Rattle.collector.specs.Written.{written}
use Rattle.collector.proofs.Firsts.{output_there, count_is, output_poisoned}
use Rattle.collector.proofs.Prefixes.{longest_prefix}
use Rattle.flow_core_laws.specs.declared.elem.Elem.{Elem}
use Rattle.flow_core_laws.specs.declared.elem.Elem.TheVariants.{Poison}
use Rattle.flow_core_laws.specs.declared.task_end.TaskEnd.{TaskEnd}
use Rattle.flow_core_laws.specs.Outcome.{is_done, has_end_at}
use Rattle.collector.specs.Laws.{AllIsWritten}

-- a window that writes the element at a position
record Covered (activations : List Activation) (stream position : ℕ) : Type 0 where
  pub number : ℕ
  pub window : Window
  pub stands : slice_get (windows activations) number ≡ Some window
  pub writes : is_written_by stream position window ≡ true

-- how far one more claim moves the write cursor
one_more : (stream : ℕ) (cs : List Claim) (n : ℕ) → n < length cs → write_cursor stream (take (n + 1) cs) ≡ write_cursor stream (take n cs) + write_cursor stream (get_or cs n no_claim ∷ [])
one_more stream cs n lt =
    ap (write_cursor stream) (take_more cs n no_claim lt)
    ∙ ap (sum_by (λ (c : Claim). c.horizon)) (filter-append (is_write_to stream) (take n cs) (get_or cs n no_claim ∷ []))
    ∙ sum_by-append (λ (c : Claim). c.horizon) (filter (is_write_to stream) (take n cs)) (filter (is_write_to stream) (get_or cs n no_claim ∷ []))

-- the claim that takes the cursor past a position covers it
here : (activations : List Activation) (stream position n : ℕ) (w : Window) (b : Bool) → slice_get (windows activations) n ≡ Some w → is_write_to stream w.claim ≡ b
    → write_cursor stream (take n (claims_of activations)) ≤ position → position < write_cursor stream (take (n + 1) (claims_of activations)) → Covered activations stream position
here activations stream position n w b at writes low high =
    let cs = claims_of activations in
    let s = window_at activations n w at in
    let claim : get_or cs n no_claim ≡ w.claim = get_or_from_slice_get cs n w.claim no_claim s.is_claim in
    let more : write_cursor stream (take (n + 1) cs) ≡ write_cursor stream (take n cs) + write_cursor stream (w.claim ∷ []) = one_more stream cs n (slice_get_within cs n w.claim s.is_claim) ∙ ap (λ c. write_cursor stream (take n cs) + write_cursor stream (c ∷ [])) claim in
    by b writes (write_cursor stream (take n cs)) (first_of_write stream (take n cs) w.claim) s.begins low (omega (arith, more, high))
  where
    moved : (t : Bool) → is_write_to stream w.claim ≡ t → write_cursor stream (w.claim ∷ []) ≡ sum_by (λ (c : Claim). c.horizon) (cond t (w.claim ∷ []) [])
    moved t e = ap (λ (u : Bool). sum_by (λ (c : Claim). c.horizon) (cond u (w.claim ∷ []) [])) e

    by : (t : Bool) → is_write_to stream w.claim ≡ t → (cursor : ℕ) → (is_write_to stream w.claim ≡ true → first_position (take n (claims_of activations)) w.claim ≡ cursor) → w.first ≡ first_position (take n (claims_of activations)) w.claim
        → cursor ≤ position → position < cursor + write_cursor stream (w.claim ∷ []) → Covered activations stream position
    by true e cursor first begins low high =
        let start : w.first ≡ cursor = begins ∙ first e in
        let width : write_cursor stream (w.claim ∷ []) ≡ 0 + w.claim.horizon = ap (λ (u : Bool). sum_by (λ (c : Claim). c.horizon) (cond u (w.claim ∷ []) [])) e in
        let from : w.first ≤ position = omega arith in
        let to : position < w.first + w.claim.horizon = omega arith in
        record {
          number = n;
          window = w;
          stands = at;
          writes = ap (λ u. u && nat_le w.first position && nat_lt position (w.first + w.claim.horizon)) e ∙ ap (λ u. u && nat_lt position (w.first + w.claim.horizon)) (le-leb w.first position from) ∙ lt-ltb position (w.first + w.claim.horizon) to;
        }
    by false e cursor first begins low high =
        let width : write_cursor stream (w.claim ∷ []) ≡ 0 = ap (λ (u : Bool). sum_by (λ (c : Claim). c.horizon) (cond u (w.claim ∷ []) [])) e in
        absurd (omega arith)

covered : (activations : List Activation) (stream position n : ℕ) → n ≤ length (claims_of activations) → position < write_cursor stream (take n (claims_of activations)) → Covered activations stream position
covered activations stream position zero le lt = absurd (omega arith)
covered activations stream position (suc n) le lt = elim (cases_lt position (write_cursor stream (take n (claims_of activations)))) [
  | inl before ↦ covered activations stream position n (omega arith) before
  | inr behind ↦ here activations stream position n (get_or (windows activations) n none) (is_write_to stream (get_or (windows activations) n none).claim)
      (slice_get-get_or (windows activations) n none (omega (arith, length-windows activations))) refl behind
      (subst (λ m. position < write_cursor stream (take m (claims_of activations))) (let e : suc n ≡ n + 1 = omega arith in e) lt)
]
  where
    none : Window
    none = record { activation = 0; claim = no_claim; first = 0; offset = 0 }

-- the activation of a producer exists, and there is one for each position that is claimed
is_covered : (activations : List Activation) (k : ℕ) → k < written_count activations 1 → (w : Window) × (producer activations 1 k ≡ Some w) × (w.activation < length activations)
is_covered activations k lt =
    let cs = claims_of activations in
    let whole : write_cursor 1 (take (length cs) cs) ≡ written_count activations 1 = ap (write_cursor 1) (take_all (length cs) cs (omega arith)) in
    let c = covered activations 1 k (length cs) (omega arith) (omega (arith, whole, lt)) in
    let s = is_window activations c.number c.window c.stands in
    let activation : c.window.activation ≡ s.a = ap (λ (w : Window). w.activation) s.is in
    let exists = s.exists in
    (c.window, producer_of activations 1 k c.number c.window c.stands c.writes, omega arith)

-- ---- a run in which everything is Done

list_all-at : {X : Type 0} (test : X → Bool) (xs : List X) (k : ℕ) (d : X) → k < length xs → list_all test xs ≡ true → test (get_or xs k d) ≡ true
list_all-at test [] k d h all = absurd (omega arith)
list_all-at test (x ∷ xs) zero d h all = (and_parts (test x) (list_all test xs) all).0
list_all-at test (x ∷ xs) (suc k) d h all = list_all-at test xs k d (omega arith) (and_parts (test x) (list_all test xs) all).1

zero_status : (b : Bool) → (let zero_is : ℕ = 0 in cond b 0 1 ≡ zero_is) → b ≡ true
zero_status true e = refl
zero_status false e = absurd (omega arith)

-- who is Done has an end, and no other one
done_is : (o : Option TaskEnd) → has_done o ≡ true → (is_some o ≡ true) × (option_map_or (λ (e : TaskEnd). not (is_done e)) o false ≡ false)
done_is None h = absurd (cc)
done_is (Some e) h = (refl, ap not h)

-- each position of the output that is claimed is there, and no poison
all_there : (activations : List Activation) (input_len : ℕ) (ends : Ends) (control : ControlEnd) (k : ℕ) → AreOfState activations input_len ends → status ends.ends control ≡ 0 → k < written_count activations 1
    → (is_there activations input_len ends.ends (record { stream = 1; position = k }) ≡ true) × (is_poisoned activations ends.ends (record { stream = 1; position = k }) ≡ false)
all_there activations input_len ends control k state zero_is lt =
    let (w, is, exists) = is_covered activations k lt in
    let within : w.activation < length ends.ends = let n = state.one_each in omega (arith, n, exists) in
    let all = (and_parts (list_all has_done ends.ends) (is_done_control control) (zero_status (list_all has_done ends.ends && is_done_control control) zero_is)).0 in
    let (ended, undone) = done_is (get_or ends.ends w.activation None) (list_all-at has_done ends.ends w.activation None within all) in
    (ap (λ (o : Option Window). option_map_or (λ (w : Window). has_end_at ends.ends w.activation) o false) is ∙ ended, ap (λ (o : Option Window). option_map_or (λ (w : Window). is_undone_at ends.ends w.activation) o false) is ∙ undone)

pub all_written : AllIsWritten
all_written activations input_len ends control state zero_is = by (longest_prefix ends.output).is_longest
  where
    count : length ends.output ≡ written_count activations 1
    count = count_is activations input_len ends state

    within : (o : Option Elem) → slice_get ends.output (length (written ends.output)) ≡ Some o → length (written ends.output) < written_count activations 1
    within o gap = omega (arith, count, slice_get_within ends.output (length (written ends.output)) o gap)

    by : (slice_get ends.output (length (written ends.output)) ≡ Some None) ⊎ ((root : ℕ) × (slice_get ends.output (length (written ends.output)) ≡ Some (Some (Poison root)))) ⊎ (length (written ends.output) ≡ length ends.output) → length (written ends.output) ≡ written_count activations 1
    by (inl gap) =
        let never : true ≡ false = sym (all_there activations input_len ends control (length (written ends.output)) state zero_is (within None gap)).0 ∙ output_there activations input_len ends state (length (written ends.output)) None gap in
        absurd (cc)
    by (inr (inl (root, is))) =
        let never : false ≡ true = sym (all_there activations input_len ends control (length (written ends.output)) state zero_is (within (Some (Poison root)) is)).1 ∙ output_poisoned activations input_len ends state (length (written ends.output)) (Some (Poison root)) is in
        absurd (cc)
    by (inr (inr whole)) = whole ∙ count
