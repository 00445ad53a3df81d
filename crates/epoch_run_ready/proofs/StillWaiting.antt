-- That what had no end waits, where nothing new can run.
use Rattle.std.proofs.Common.{◌≡◌, ℕ, ℤ, suc, ◌+◌, ◌-◌, ◌<◌, Bool, true, false, cond, List, [], ◌∷◌, ◌++◌, Option, Some, None, inl, inr, length, map, refl, sym, ap, ◌∙◌, subst, arith}
use Rattle.std.specs.Prelude.{Contains, ◌==◌, is_some, nat_lt, pos, slice_get}
use Rattle.std.specs.Option.{option_map, option_map_or}
use Rattle.std.proofs.lemmas.Bool.{cases_lt, ltb-false}
use Rattle.std.proofs.lemmas.List.{get_or_past, length-map}
use Rattle.std.proofs.lemmas.Option.{same_Some, slice_get_within}
use Rattle.epoch_run_ready.proofs.Stuck.{contained}
use Rattle.flow_core_epochs.proofs.Carried.{producer_less}
use Rattle.flow_core_epochs.proofs.Choosing.{end_in, no_end}
use Rattle.flow_core_epochs.proofs.Members.{Has, of_map}
use Rattle.flow_core_epochs.proofs.Prefixes.{input_places_more}
use Rattle.flow_core_epochs.specs.Epoch.{CannotCome, ServesAll, left_out, unwritten}
use Rattle.flow_core_laws.proofs.Elements.{element_kept}
use Rattle.flow_core_laws.proofs.Gathering.{length-gathered}
use Rattle.flow_core_laws.proofs.OneMore.{length-values}
use Rattle.flow_core_laws.proofs.Rounds.{length-meaning, outcome_at-meaning}
use Rattle.flow_core_laws.proofs.Stretches.{slice_get-append_left}
use Rattle.flow_core_laws.proofs.There.{there_by_ends}
use Rattle.flow_core_laws.specs.Element.{fed, initial, nobody}
use Rattle.flow_core_laws.specs.Laws.{IsFilled}
use Rattle.flow_core_laws.specs.Outcome.{State, ends_of, has_end_at, outcome_at, outcome_of}
use Rattle.flow_core_laws.specs.Place.{input_places}
use Rattle.flow_core_laws.specs.Poisoning.{least_root, poisoning, values_of}
use Rattle.flow_core_laws.specs.Round.{gathered, inputs_in}
use Rattle.flow_core_laws.specs.Streams.{input_source, output_count, own_number, produced_source, stream_element, stream_meaning, stream_reads, stream_source}
use Rattle.flow_core_laws.specs.Window.{Window, producer}
use Rattle.flow_core_laws.specs.declared.activation.Activation.{Activation}
use Rattle.flow_core_laws.specs.declared.elem.Elem.{Elem}
use Rattle.flow_core_laws.specs.declared.elem.Elem.TheVariants.{Value}
use Rattle.flow_core_laws.specs.declared.outcome.Outcome.{Outcome}
use Rattle.flow_core_laws.specs.declared.place.Place.{Place}
use Rattle.flow_core_laws.specs.declared.task_end.TaskEnd.{TaskEnd}
use Rattle.flow_core_laws.specs.declared.task_end.TaskEnd.TheVariants.{Done, Poisoned}

-- where not all elements are there, one isn't
not_gathered : {A V : Type 0} (f : A → Option V) (xs : List A) → gathered (map f xs) ≡ None → (x : A) × Has xs x × (f x ≡ None)
not_gathered f [] none = absurd (cc)
not_gathered {A = A} {V = V} f (x ∷ xs) none = by (f x) refl none (not_gathered f xs)
  where
    rest : (v : V) (g : Option (List V)) → option_map (λ values. v ∷ values) g ≡ None → g ≡ None
    rest v None h = refl
    rest v (Some vs) h = absurd (cc)

    by : (o : Option V) → f x ≡ o → gathered (o ∷ map f xs) ≡ None → (gathered (map f xs) ≡ None → (y : A) × Has xs y × (f y ≡ None)) → (y : A) × Has (x ∷ xs) y × (f y ≡ None)
    by None is h behind = (x, (0, refl), is)
    by (Some v) is h behind =
        let (y, (i, at), missing) = behind (rest v (gathered (map f xs)) h) in
        (y, (suc i, at), missing)

module _ (before new : List Activation) (input : List ℕ) (body : ℕ → List ℤ → Outcome) (takes : ℕ → ℕ → ℕ → Type 0) (serves : ServesAll (before ++ new) body takes) where
  abbrev all : List Activation
  all = before ++ new

  abbrev earlier : State
  earlier = stream_meaning before input body

  abbrev ends : List (Option TaskEnd)
  ends = ends_of (stream_meaning before input body)

  -- how many ends there are
  many : length (ends_of (stream_meaning before input body)) ≡ length before
  many =
      length-map (stream_meaning before input body) (option_map (λ (o : Outcome). o.end))
      ∙ length-meaning stream_element (stream_reads before input) (poisoning body) (length before)

  -- what is done has all its outputs
  filled : IsFilled before (stream_meaning before input body)
  filled a x o at is done = by (inputs_in stream_element (stream_reads before input) earlier a) refl
    where
      lt : a < length before
      lt = slice_get_within before a x at

      here : outcome_at (stream_meaning before input body) a ≡ option_map (poisoning body a) (inputs_in stream_element (stream_reads before input) (stream_meaning before input body) a)
      here = outcome_at-meaning stream_element (element_kept own_number) (stream_reads before input) (poisoning body) (length before) a lt

      by_root : (es : List Elem) → length es ≡ length (stream_reads before input a) → (root : Option ℕ) → least_root es ≡ root
          → (option_map_or (λ (r : ℕ). outcome_of (Poisoned r) []) root (body a (values_of es))).end ≡ Done
          → length (option_map_or (λ (r : ℕ). outcome_of (Poisoned r) []) root (body a (values_of es))).outputs ≡ output_count x
      by_root es long None none ended =
          serves.fills_outputs a x (values_of es) (slice_get-append_left before new a lt ∙ at)
          (length-values es none ∙ long ∙ length-map (input_places before a) (stream_source before input) ∙ ap length (sym (input_places_more before new a lt))) ended
      by_root es long (Some r) none ended = absurd (cc)

      by : (i : Option (List Elem)) → inputs_in stream_element (stream_reads before input) (stream_meaning before input body) a ≡ i → length o.outputs ≡ output_count x
      by None none = absurd (let never : Some o ≡ None = sym is ∙ here ∙ ap (option_map (poisoning body a)) none in cc)
      by (Some es) there =
          let long = length-gathered (map (stream_element (stream_meaning before input body)) (stream_reads before input a)) es there
          ∙ length-map (stream_reads before input a) (stream_element (stream_meaning before input body)) in
          let same : o ≡ poisoning body a es = same_Some o (poisoning body a es) (sym is ∙ here ∙ ap (option_map (poisoning body a)) there) in
          ap (λ (q : Outcome). length q.outputs) same ∙ by_root es long (least_root es) refl (ap (λ (q : Outcome). q.end) (sym same) ∙ done)

  -- an element that isn't there can't come where none runs
  comes_not : (p : Place) → stream_element (stream_meaning before input body) (stream_source before input p) ≡ None
      → CannotCome (ends_of (stream_meaning before input body)) [] (stream_source (before ++ new) input p)
  comes_not p none = by_stream (p.stream == 0) (sym (there_by_ends before input earlier p filled) ∙ ap is_some none)
    where
      by_byte : (o : Option ℕ) → nat_lt p.position (length input) ≡ false → slice_get input p.position ≡ o → CannotCome ends [] (option_map_or (λ byte. initial (Value (pos byte))) o nobody)
      by_byte None past e = unwritten
      by_byte (Some byte) past e = absurd (let ge = ltb-false p.position (length input) past in omega (arith, slice_get_within input p.position byte e))

      by_end : (w : Window) → option_map_or (λ (v : Window). has_end_at ends v.activation) (producer before p.stream p.position) false ≡ false → producer all p.stream p.position ≡ Some w
          → (o : Option TaskEnd) → outcome_at ends w.activation ≡ o → outcome_at ends w.activation ≡ None
      by_end w missing e None is = is
      by_end w missing e (Some end) is = elim (cases_lt w.activation (length ends)) [
        | inl lt ↦ (
            let was = producer_less before new p.stream p.position w e (omega (arith, lt, many)) in
            let no : true ≡ false = sym (ap is_some is) ∙ sym (ap (λ (o : Option Window). option_map_or (λ (v : Window). has_end_at ends v.activation) o false) was) ∙ missing in
            absurd (cc)
            )
        | inr ge ↦ get_or_past ends w.activation None ge
      ]

      by_producer : (o : Option Window) → option_map_or (λ (v : Window). has_end_at ends v.activation) (producer before p.stream p.position) false ≡ false → producer all p.stream p.position ≡ o
          → CannotCome ends [] (option_map_or (λ (w : Window). fed w.activation (w.offset + (p.position - w.first))) o nobody)
      by_producer None missing e = unwritten
      by_producer (Some w) missing e = left_out w.activation (w.offset + (p.position - w.first)) (by_end w missing e (outcome_at ends w.activation) refl) refl

      by_stream : (b : Bool) → cond b (nat_lt p.position (length input)) (option_map_or (λ (w : Window). has_end_at ends w.activation) (producer before p.stream p.position) false) ≡ false
          → CannotCome ends [] (cond b (input_source input p.position) (produced_source all p.stream p.position))
      by_stream true past = by_byte (slice_get input p.position) past refl
      by_stream false missing = by_producer (producer all p.stream p.position) missing refl

  -- so what has no end by itself waits
  pub waits_on : (a : ℕ) → a < length before → outcome_at (ends_of (stream_meaning before input body)) a ≡ None
      → (p : Place) × (Contains (input_places (before ++ new) a) p) × CannotCome (ends_of (stream_meaning before input body)) [] (stream_source (before ++ new) input p)
  waits_on a lt none =
      let here : outcome_at earlier a ≡ option_map (poisoning body a) (gathered (map (stream_element earlier) (stream_reads before input a))) =
      outcome_at-meaning stream_element (element_kept own_number) (stream_reads before input) (poisoning body) (length before) a lt in
      let starved : outcome_at earlier a ≡ None = no_end (outcome_at earlier a) (sym (end_in earlier a) ∙ none) in
      let (source, source_in, missing) = not_gathered (stream_element earlier) (stream_reads before input a) (no_inputs (gathered (map (stream_element earlier) (stream_reads before input a))) (sym here ∙ starved)) in
      let (p, p_in, is) = of_map (stream_source before input) (input_places before a) source source_in in
      (p, contained (input_places all a) p (subst (λ (ps : List Place). Has ps p) (sym (input_places_more before new a lt)) p_in), comes_not p (ap (stream_element earlier) is ∙ missing))
    where
      no_inputs : (g : Option (List Elem)) → option_map (poisoning body a) g ≡ None → g ≡ None
      no_inputs None h = refl
      no_inputs (Some vs) h = absurd (cc)
