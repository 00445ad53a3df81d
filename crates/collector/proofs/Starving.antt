-- That each activation that isn't Done has a line, and that a meaning comes to one state.
use Rattle.std.proofs.Common.{◌≡◌, ℕ, ℤ, ◌+◌, ◌-◌, ◌<◌, Bool, true, false, cond, not, List, [], ◌∷◌, ◌++◌, Option, Some, None, length, map, find, get_or, refl, sym, ap, ◌∙◌, subst, arith}
use Rattle.std.specs.Prelude.{◌==◌, ◌≢◌, codes, is_some, nat_lt, pos, slice_get, option_and_then, IsSome}
use Rattle.std.specs.Fmt.{decimal}
use Rattle.std.specs.Option.{option_map, option_map_or}
use Rattle.std.proofs.lemmas.Bool.{eqb-true}
use Rattle.std.proofs.lemmas.List.{get_or-map, length-map}
use Rattle.std.proofs.lemmas.Option.{same_Some}
use Rattle.flow_core_laws.proofs.Gathering.{gathered_there}
use Rattle.flow_core_laws.proofs.Rounds.{length-meaning, outcome_at-meaning}
use Rattle.flow_core_laws.proofs.Elements.{element_kept}
use Rattle.flow_core_laws.proofs.There.{there_by_ends, end_of}
use Rattle.flow_core_laws.specs.declared.elem.Elem.TheVariants.{Value}
use Rattle.flow_core_laws.specs.Element as elements
use Rattle.flow_core_laws.specs.Element.{initial, fed, nobody, output_element, output_at}
use Rattle.flow_core_laws.specs.Poisoning.{poisoning}
use Rattle.flow_core_laws.specs.Laws.{IsFilled}
use Rattle.flow_core_laws.specs.Outcome.{outcome_at, State, ends_of, is_done, has_end_at, root_of}
use Rattle.collector.specs.Status.{has_done}
use Rattle.flow_core_laws.specs.Place.{input_places, output_places}
use Rattle.flow_core_laws.specs.Round.{gathered}
use Rattle.flow_core_laws.specs.Streams.{stream_ends, stream_meaning, stream_reads, stream_source, stream_element, own_number, input_source, produced_source}
use Rattle.flow_core_laws.specs.There.{is_there, missing_place}
use Rattle.flow_core_laws.specs.Window.{Window, producer}
use Rattle.flow_core_laws.specs.declared.activation.Activation.{Activation}
use Rattle.flow_core_laws.specs.declared.outcome.Outcome.{Outcome}
use Rattle.flow_core_laws.specs.declared.place.Place.{Place}
use Rattle.flow_core_laws.specs.declared.task_end.TaskEnd.{TaskEnd}
use Rattle.flow_core_laws.specs.declared.task_end.TaskEnd.TheVariants.{Done, Trapped, OverBudget, Poisoned}
use Rattle.collector.proofs.Firsts.{one_found}
use Rattle.collector.specs.Laws.{HasItsLines, ProducersAreStarved}
use Rattle.os_io.specs.Lines.{ended_line}
use Rattle.collector.specs.Missing.{missing_at}
use Rattle.collector.specs.Report.{activation_line, end_line, producer_text, starved_line}
use Rattle.collector.specs.Reported.{AreOfState, is_poison, is_poisoned, is_undone_at}
use Rattle.collector.specs.declared.missing.Missing.{Missing}

-- where no element fails the test, and the test says what is there, all are there
all_gathered : {A B V : Type 0} (f : B → Option V) (g : A → B) (test : A → Bool) → ((x : A) → is_some (f (g x)) ≡ test x)
    → (xs : List A) → find (λ x. not (test x)) xs ≡ None
    → (vs : List V) × (gathered (map f (map g xs)) ≡ Some vs)
all_gathered f g test says [] none = ([], refl)
all_gathered {V = V} f g test says (x ∷ xs) none = by (f (g x)) refl (all_gathered f g test says xs)
  where
    tested : (b : Bool) → test x ≡ b → cond (not b) (Some x) (find (λ y. not (test y)) xs) ≡ None → (test x ≡ true) × (find (λ y. not (test y)) xs ≡ None)
    tested true is h = (is, h)
    tested false is h = absurd (cc)

    by : (o : Option V) → f (g x) ≡ o → (find (λ y. not (test y)) xs ≡ None → (vs : List V) × (gathered (map f (map g xs)) ≡ Some vs))
        → (vs : List V) × (gathered (f (g x) ∷ map f (map g xs)) ≡ Some vs)
    by None is behind =
        let passed : test x ≡ true = (tested (test x) refl none).0 in
        let never : false ≡ true = ap is_some (sym is) ∙ says x ∙ passed in
        absurd (cc)
    by (Some v) is behind =
        let (vs, rest) = behind (tested (test x) refl none).1 in
        (v ∷ vs, gathered_there (f (g x)) (map f (map g xs)) v vs is rest)

-- a line isn't empty
no_line : (text : List ℕ) → ended_line text ≢ []
no_line [] h = absurd (cc)
no_line (c ∷ cs) h = absurd (cc)

-- an end other than Done writes poison, and Done doesn't
poison_written : (a : ℕ) (end : TaskEnd) (outputs : List ℤ) (k : ℕ) → is_poison (output_element (root_of a end) outputs k) ≡ not (is_done end)
poison_written a Done outputs k = by (slice_get outputs k)
  where
    by : (o : Option ℤ) → is_poison (option_map Value o) ≡ false
    by None = refl
    by (Some v) = refl
poison_written a (Trapped code line) outputs k = refl
poison_written a OverBudget outputs k = refl
poison_written a (Poisoned root) outputs k = refl

module _ (activations : List Activation) (input : List ℕ) (body : ℕ → List ℤ → Outcome)
    (filled : IsFilled activations (stream_meaning activations input body)) where
  abbrev state : State
  state = stream_meaning activations input body

  abbrev ends : List (Option TaskEnd)
  ends = ends_of state

  says : (place : Place) → is_some (stream_element state (stream_source activations input place)) ≡ is_there activations (length input) ends place
  says place = there_by_ends activations input state place filled

  states : (ps : List Place) → map is_some (map (stream_element state) (map (stream_source activations input) ps)) ≡ map (is_there activations (length input) ends) ps
  states [] = refl
  states (p ∷ ps) =
      ap (λ b. b ∷ map is_some (map (stream_element state) (map (stream_source activations input) ps))) (says p)
      ∙ ap (λ bs. is_there activations (length input) ends p ∷ bs) (states ps)

  -- whether an element of the state is poison
  poison_says : (place : Place) → is_poison (stream_element state (stream_source activations input place)) ≡ is_poisoned activations ends place
  poison_says place = by_stream (place.stream == 0)
    where
      by_byte : (o : Option ℕ) → is_poison (stream_element state (option_map_or (λ byte. initial (Value (pos byte))) o nobody)) ≡ false
      by_byte None = refl
      by_byte (Some byte) = refl

      by_outcome : (a k : ℕ) (o : Option Outcome) → outcome_at state a ≡ o → is_poison (output_at own_number state a k) ≡ is_undone_at ends a
      by_outcome a k None is =
          ap (λ (p : Option Outcome). is_poison (option_and_then (λ (q : Outcome). elements.element_written a q k) p)) is
          ∙ sym (ap (λ (e : Option TaskEnd). option_map_or (λ (e : TaskEnd). not (is_done e)) e false) (end_of state a ∙ ap (option_map (λ (q : Outcome). q.end)) is))
      by_outcome a k (Some o) is =
          ap (λ (p : Option Outcome). is_poison (option_and_then (λ (q : Outcome). elements.element_written a q k) p)) is ∙ poison_written a o.end o.outputs k
          ∙ sym (ap (λ (e : Option TaskEnd). option_map_or (λ (e : TaskEnd). not (is_done e)) e false) (end_of state a ∙ ap (option_map (λ (q : Outcome). q.end)) is))

      by_producer : (o : Option Window) → is_poison (stream_element state (option_map_or (λ (w : Window). fed w.activation (w.offset + (place.position - w.first))) o nobody)) ≡ option_map_or (λ (w : Window). is_undone_at ends w.activation) o false
      by_producer None = refl
      by_producer (Some w) = by_outcome w.activation (w.offset + (place.position - w.first)) (outcome_at state w.activation) refl

      by_stream : (b : Bool) → is_poison (stream_element state (cond b (input_source input place.position) (produced_source activations place.stream place.position))) ≡ cond b false (option_map_or (λ (w : Window). is_undone_at ends w.activation) (producer activations place.stream place.position) false)
      by_stream true = by_byte (slice_get input place.position)
      by_stream false = by_producer (producer activations place.stream place.position)

  poisons : (ps : List Place) → map is_poison (map (stream_element state) (map (stream_source activations input) ps)) ≡ map (is_poisoned activations ends) ps
  poisons [] = refl
  poisons (p ∷ ps) =
      ap (λ b. b ∷ map is_poison (map (stream_element state) (map (stream_source activations input) ps))) (poison_says p)
      ∙ ap (λ bs. is_poisoned activations ends p ∷ bs) (poisons ps)

  state_length : length state ≡ length activations
  state_length = length-meaning stream_element (stream_reads activations input) (poisoning body) (length activations)

  pub of_state : AreOfState activations (length input) (stream_ends activations input state)
  of_state = record {
    one_each = length-map state (option_map (λ (o : Outcome). o.end)) ∙ state_length;
    output = states (output_places activations);
    poison = poisons (output_places activations);
  }

  -- where nothing is missing there is an end
  nothing_missing : (a : ℕ) → a < length activations → missing_place activations (length input) ends a ≡ None → outcome_at state a ≡ None → ⊥
  nothing_missing a lt none starved =
      let there = is_there activations (length input) ends in
      let (vs, all) = all_gathered (stream_element state) (stream_source activations input) there says (input_places activations a) none in
      let ended : outcome_at state a ≡ Some (poisoning body a vs) =
      outcome_at-meaning stream_element (element_kept own_number) (stream_reads activations input) (poisoning body) (length activations) a lt ∙ ap (option_map (poisoning body a)) all in
      let never : None ≡ Some (poisoning body a vs) = sym starved ∙ ended in
      absurd (cc)

  -- what it misses, by its place
  abbrev missed : ℕ → Option Missing
  missed a = option_map (missing_at activations) (missing_place activations (length input) ends a)

  without_outcome : (a : ℕ) → a < length activations → outcome_at state a ≡ None → IsSome (missed a)
  without_outcome a lt starved = by (missing_place activations (length input) ends a) refl
    where
      by : (o : Option Place) → missing_place activations (length input) ends a ≡ o → is_some (option_map (missing_at activations) o) ≡ true
      by None none = absurd (nothing_missing a lt none starved)
      by (Some place) is = refl

  end_at : (a : ℕ) → a < length activations → get_or ends a None ≡ option_map (λ (o : Outcome). o.end) (outcome_at state a)
  end_at a lt = get_or-map (option_map (λ (o : Outcome). o.end)) state a None None (omega (arith, lt, state_length))

  misses : (a : ℕ) → a < length activations → get_or ends a None ≡ None → IsSome (missed a)
  misses a lt none = by (outcome_at state a) refl
    where
      by : (o : Option Outcome) → outcome_at state a ≡ o → IsSome (missed a)
      by None is = without_outcome a lt is
      by (Some o) is = absurd (let never : None ≡ Some o.end = sym none ∙ end_at a lt ∙ ap (option_map (λ (q : Outcome). q.end)) is in cc)

  starved_told : (a : ℕ) (o : Option Missing) → is_some o ≡ true → option_map_or (starved_line a) o [] ≢ []
  starved_told a None is h = absurd (cc)
  starved_told a (Some m) is h =
      no_line
      (codes "starved " ++ decimal a ++ codes " stream " ++ decimal m.stream ++ codes " position " ++ decimal m.position
      ++ codes " producer " ++ producer_text m.producer)
      h

  end_told : (a : ℕ) (end : TaskEnd) → is_done end ≡ false → end_line a end ≢ []
  end_told a Done is h = absurd (cc)
  end_told a (Trapped code at) is h = no_line (codes "trapped " ++ decimal a ++ codes " code " ++ decimal code ++ codes " line " ++ decimal at) h
  end_told a OverBudget is h = no_line (codes "over-budget " ++ decimal a) h
  end_told a (Poisoned root) is h = no_line (codes "poisoned " ++ decimal a ++ codes " by " ++ decimal root) h

  abbrev starved : ℕ → List ℕ
  starved a = option_map_or (starved_line a) (missed a) []

  told : (a : ℕ) → a < length activations → has_done (get_or ends a None) ≡ false → activation_line activations (length input) ends a ≢ []
  told a lt = by (outcome_at state a) refl (get_or ends a None) (end_at a lt)
    where
      by : (o : Option Outcome) → outcome_at state a ≡ o → (e : Option TaskEnd)
          → e ≡ option_map (λ (q : Outcome). q.end) (outcome_at state a) → option_map_or is_done e false ≡ false
          → option_map_or (end_line a) e (starved a) ≢ []
      by o is (Some end) e not_done = end_told a end not_done
      by None is None e not_done = starved_told a (missed a) (without_outcome a lt is)
      by (Some o) is None e not_done = absurd (let never : None ≡ Some o.end = e ∙ ap (option_map (λ (q : Outcome). q.end)) is in cc)

  untold : (a : ℕ) → has_done (get_or ends a None) ≡ true → activation_line activations (length input) ends a ≡ []
  untold a = by (get_or ends a None)
    where
      by : (e : Option TaskEnd) → option_map_or is_done e false ≡ true → option_map_or (end_line a) e (starved a) ≡ []
      by None done = absurd (cc)
      by (Some Done) done = refl
      by (Some (Trapped code at)) done = absurd (cc)
      by (Some OverBudget) done = absurd (cc)
      by (Some (Poisoned root)) done = absurd (cc)

  pub has_lines : HasItsLines activations (length input) (stream_ends activations input state)
  has_lines = record { misses = misses; told = told; untold = untold }

pub producers_wait : ProducersAreStarved
producers_wait activations input_len ends a m producing_activation is other_stream named = by_place (missing_place activations input_len ends a) refl is
  where
    by_producer : (place : Place) (o : Option Window) → producer activations place.stream place.position ≡ o
        → option_map_or (λ (w : Window). has_end_at ends w.activation) o false ≡ false
        → option_map (λ (w : Window). w.activation) o ≡ Some producing_activation → has_end_at ends producing_activation ≡ false
    by_producer place None found there named = absurd (cc)
    by_producer place (Some w) found there named = subst (λ b. has_end_at ends b ≡ false) (same_Some w.activation producing_activation named) there

    by_stream : (place : Place) (b : Bool) → (place.stream == 0) ≡ b → m ≡ missing_at activations place
        → cond b (nat_lt place.position input_len)
        (option_map_or (λ (w : Window). has_end_at ends w.activation) (producer activations place.stream place.position) false) ≡ false
        → has_end_at ends producing_activation ≡ false
    by_stream place true zero at there = absurd (other_stream (ap (λ (n : Missing). n.stream) at ∙ eqb-true place.stream 0 zero))
    by_stream place false some at there =
        by_producer place (producer activations place.stream place.position) refl there (ap (λ (n : Missing). n.producer) (sym at) ∙ named)

    by_place : (o : Option Place) → missing_place activations input_len ends a ≡ o → option_map (missing_at activations) o ≡ Some m
        → has_end_at ends producing_activation ≡ false
    by_place None none h = absurd (cc)
    by_place (Some place) found h =
        by_stream place (place.stream == 0) refl (sym (same_Some (missing_at activations place) m h))
        (one_found (is_there activations input_len ends) (input_places activations a) place found).fails
