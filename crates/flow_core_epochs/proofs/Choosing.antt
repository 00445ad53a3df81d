-- What waits for an element that can't come gets no outcome.
use Rattle.std.proofs.Common.{◌≡◌, ℕ, ◌<◌, ℤ, List, [], ◌∷◌, ◌++◌, Option, Some, None, map, length, refl, sym, ap, ◌∙◌, subst, zero, suc, inl, inr, arith}
use Rattle.std.specs.Prelude.{is_none}
use Rattle.std.specs.Option.{option_map}
use Rattle.std.specs.List.{range_with_len}
use Rattle.std.proofs.lemmas.Bool.{cases_lt}
use Rattle.std.proofs.lemmas.List.{get_or-map, get_or_past, length-map}
use Rattle.std.proofs.lemmas.List.Elements.{filter_agree}
use Rattle.std.proofs.lemmas.Option.{same_Some}
use Rattle.flow_core_laws.specs.declared.elem.Elem.{Elem}
use Rattle.flow_core_laws.specs.declared.activation.Activation.{Activation}
use Rattle.flow_core_laws.specs.declared.task_end.TaskEnd.{TaskEnd}
use Rattle.flow_core_laws.specs.declared.outcome.Outcome.{Outcome}
use Rattle.flow_core_laws.specs.Outcome.{outcome_at, State, ends_of}
use Rattle.flow_core_laws.specs.Element.{Source}
use Rattle.flow_core_laws.specs.Place.{input_places}
use Rattle.flow_core_laws.specs.Round.{gathered, inputs_in}
use Rattle.flow_core_laws.specs.Poisoning.{poisoning}
use Rattle.flow_core_laws.specs.Streams.{stream_source, stream_reads, stream_meaning, stream_element, own_number}
use Rattle.flow_core_laws.proofs.Gathering.{gathered-cons}
use Rattle.flow_core_laws.proofs.Rounds.{Extends}
use Rattle.flow_core_epochs.specs.Epoch.{number_among, open_in, AreChosen, LeaveOutWaiting, CannotCome, unwritten, left_out}
use Rattle.flow_core_epochs.proofs.Holding.{holds_in_meaning}
use Rattle.flow_core_epochs.proofs.Members.{Has, in_map}
use Rattle.flow_core_epochs.proofs.Frames.{ascending_numbered, open_each, open_ascend, open_all}
use Rattle.flow_core_epochs.proofs.Epochs.{output_outcome}
use Rattle.flow_core_epochs.proofs.Reading.{has_contained}

-- the ends of a state
pub end_in : (state : State) (a : ℕ) → outcome_at (ends_of state) a ≡ option_map (λ (o : Outcome). o.end) (outcome_at state a)
end_in state a = elim (cases_lt a (length state)) [
  | inl lt ↦ get_or-map (option_map (λ (o : Outcome). o.end)) state a None None lt
  | inr ge ↦ get_or_past (ends_of state) a None (omega (arith, length-map state (option_map (λ (o : Outcome). o.end)))) ∙ ap (option_map (λ (o : Outcome). o.end)) (sym (get_or_past state a None ge))
]

-- where all elements are there, each is
gathered_each : {A V : Type 0} (f : A → Option V) (xs : List A) (vs : List V) → gathered (map f xs) ≡ Some vs → (x : A) → Has xs x → (v : V) × (f x ≡ Some v)
gathered_each f [] vs e x (i, at) = absurd (cc)
gathered_each f (y ∷ xs) vs e x (zero, at) =
    let (v, ws, at_y, rest, is) = gathered-cons (f y) (map f xs) vs e in
    (v, ap f (sym (same_Some y x at)) ∙ at_y)
gathered_each f (y ∷ xs) vs e x (suc i, at) =
    let (v, ws, at_y, rest, is) = gathered-cons (f y) (map f xs) vs e in
    gathered_each f xs ws rest x (i, at)

pub no_end : (o : Option Outcome) → option_map (λ (o : Outcome). o.end) o ≡ None → o ≡ None
no_end None h = refl
no_end (Some o) h = absurd (cc)

module _ (before new : List Activation) (input : List ℕ) (body : ℕ → List ℤ → Outcome) (state : State) (frames : List ℕ) where
  abbrev acts : List Activation
  acts = before ++ new

  abbrev earlier : State
  earlier = state

  abbrev whole : State
  whole = stream_meaning (before ++ new) input body

  -- what is left out
  abbrev IsLeft : ℕ → Type 0
  IsLeft a = (outcome_at earlier a ≡ None) × (number_among frames a ≡ None)

  -- an element that can't come isn't there
  comes_not : (s : State) → Extends s whole → ((a : ℕ) (o : Outcome) → outcome_at s a ≡ Some o → IsLeft a → ⊥) → (source : Source) → CannotCome (ends_of earlier) frames source → (v : Elem) → stream_element s source ≡ Some v → ⊥
  comes_not s extends carries source unwritten v h = absurd (cc)
  comes_not s extends carries source (left_out b place none out) v h =
      let (o, at) = output_outcome own_number s b place v h in
      carries b o at (no_end (outcome_at earlier b) (sym (end_in earlier b) ∙ none), out)

  left_gets_none : LeaveOutWaiting (before ++ new) input (ends_of state) frames → (a : ℕ) (o : Outcome) → outcome_at whole a ≡ Some o → IsLeft a → ⊥
  left_gets_none leave = holds_in_meaning stream_element (stream_reads acts input) (poisoning body) (length acts) (λ a o. IsLeft a → ⊥) (record { fires = fire })
    where
      fire : (s : State) → Extends s whole → ((a : ℕ) (o : Outcome) → outcome_at s a ≡ Some o → IsLeft a → ⊥) → (a : ℕ) (vs : List Elem) → a < length acts → inputs_in stream_element (stream_reads acts input) s a ≡ Some vs → IsLeft a → ⊥
      fire s extends carries a vs lt inputs (none, out) =
          let (p, reads, cannot) = leave.others_wait a lt (end_in earlier a ∙ ap (option_map (λ (o : Outcome). o.end)) none) out in
          let (v, there) = gathered_each (stream_element s) (stream_reads acts input a) vs inputs (stream_source acts input p) (in_map (stream_source acts input) (input_places acts a) p (has_contained (input_places acts a) p reads)) in
          comes_not s extends carries (stream_source acts input p) cannot v there

  pub chosen_by : LeaveOutWaiting (before ++ new) input (ends_of state) frames → AreChosen before new input body state frames
  chosen_by leave = record {
    are_open = λ f a h. ((leave.are_open f a h).0, no_end (outcome_at earlier a) (sym (end_in earlier a) ∙ (leave.are_open f a h).1));
    ascend = leave.ascend;
    others_get_none = λ a lt none out. by_outcome a none out (outcome_at whole a) refl;
  }
    where
      by_outcome : (a : ℕ) → outcome_at earlier a ≡ None → number_among frames a ≡ None → (o : Option Outcome) → outcome_at whole a ≡ o → outcome_at whole a ≡ None
      by_outcome a none out None e = e
      by_outcome a none out (Some o) e = absurd (left_gets_none leave a o e (none, out))

-- the ends say which activations are open
pub open_by_ends : (state : State) (count : ℕ) → open_in (ends_of state) count ≡ open_in state count
open_by_ends state count = filter_agree (λ a. is_none (outcome_at (ends_of state) a)) (λ a. is_none (outcome_at state a)) (λ a. ap is_none (end_in state a) ∙ by_outcome (outcome_at state a)) (range_with_len 0 count)
  where
    by_outcome : (o : Option Outcome) → is_none (option_map (λ (q : Outcome). q.end) o) ≡ is_none o
    by_outcome None = refl
    by_outcome (Some o) = refl

-- all that have no end yet leave nothing out
pub all_leave_nothing : (activations : List Activation) (input : List ℕ) (ends : List (Option TaskEnd)) (frames : List ℕ) → frames ≡ open_in ends (length activations) → LeaveOutWaiting activations input ends frames
all_leave_nothing activations input ends frames is = subst (LeaveOutWaiting activations input ends) (sym is) (record {
  are_open = open_each ends (length activations);
  ascend = open_ascend ends (length activations);
  others_wait = λ a lt none out. let (f, at) = open_all ends (length activations) a lt none in let z = ascending_numbered (open_in ends (length activations)) (open_ascend ends (length activations)) f a at in absurd (cc);
})

pub chosen_all : (before new : List Activation) (input : List ℕ) (body : ℕ → List ℤ → Outcome) (state : State) (frames : List ℕ) → frames ≡ open_in state (length (before ++ new)) → AreChosen before new input body state frames
chosen_all before new input body state frames is =
    chosen_by before new input body state frames (all_leave_nothing (before ++ new) input (ends_of state) frames (is ∙ sym (open_by_ends state (length (before ++ new)))))
