-- That the root of poison is an activation that failed itself.
use Rattle.std.proofs.Common.{◌≡◌, ◌≢◌, ℕ, zero, suc, ◌+◌, ◌-◌, ◌<◌, ℤ, pos, List, [], ◌∷◌, Option, Some, None, Bool, true, false, cond, map, length, get_or, refl, sym, ap, ◌∙◌, arith}
use Rattle.std.specs.Prelude.{slice_get, ◌==◌, option_and_then}
use Rattle.std.specs.Option.{option_map, option_map_or}
use Rattle.std.proofs.lemmas.Option.{same_Some}
use Rattle.flow_core_laws.specs.declared.activation.Activation.{Activation}
use Rattle.flow_core_laws.specs.Outcome.{outcome_at, State, outcome_of, root_of, has_failed}
use Rattle.flow_core_laws.specs.Window.{Window, producer}
use Rattle.flow_core_laws.specs.Place.{input_places}
use Rattle.flow_core_laws.specs.Round.{gathered, inputs_in}
use Rattle.flow_core_laws.proofs.Gathering.{gathered-cons}
use Rattle.flow_core_laws.proofs.Rounds.{Extends, gathered-extends, outcome_at-meaning, IsClosed, passes_from_closed}
use Rattle.flow_core_laws.specs.declared.elem.Elem.{Elem}
use Rattle.flow_core_laws.specs.declared.elem.Elem.TheVariants.{Value, Poison}
use Rattle.flow_core_laws.specs.declared.task_end.TaskEnd.{TaskEnd}
use Rattle.flow_core_laws.specs.declared.task_end.TaskEnd.TheVariants.{Done, Trapped, OverBudget, Poisoned}
use Rattle.flow_core_laws.specs.declared.outcome.Outcome.{Outcome}
use Rattle.flow_core_laws.specs.declared.place.Place.{Place}
use Rattle.flow_core_laws.specs.Element.{initial, fed, nobody, output_element, element_written}
use Rattle.flow_core_laws.specs.Poisoning.{values_of, least_root, poisoning}
use Rattle.flow_core_laws.specs.Streams.{input_source, produced_source, stream_source, stream_reads, own_number, stream_element, stream_meaning}
use Rattle.flow_core_laws.specs.Laws.{NeverPoisons}
use Rattle.flow_core_laws.proofs.Elements.{element_kept}
use Rattle.flow_core_laws.proofs.Roots.{least_root_is_least}

-- what is gathered comes from somewhere
gathered_from : {A S V : Type 0} (f : S → Option V) (h : A → S) (xs : List A) (vs : List V) → gathered (map f (map h xs)) ≡ Some vs → (k : ℕ) (d : V) → k < length vs → (x : A) × (f (h x) ≡ Some (get_or vs k d))
gathered_from {V = V} f h [] vs e k d lt = let z : length vs ≡ 0 = ap length (sym (same_Some [] vs e)) in absurd (omega arith)
gathered_from {V = V} f h (x ∷ xs) vs e zero d lt =
    let (v, ws, at_x, at_xs, is) = gathered-cons (f (h x)) (map f (map h xs)) vs e in
    (x, at_x ∙ ap (λ (l : List V). Some (get_or l 0 d)) (sym is))
gathered_from {V = V} f h (x ∷ xs) vs e (suc k) d lt =
    let (v, ws, at_x, at_xs, is) = gathered-cons (f (h x)) (map f (map h xs)) vs e in
    let (y, at) = gathered_from f h xs ws at_xs k d (let l : length vs ≡ length (v ∷ ws) = ap length is in omega arith) in
    (y, at ∙ ap (λ (l : List V). Some (get_or l (suc k) d)) (sym is))

-- what is written as poison has the root of the end
written_poison : (root : Option ℕ) (outputs : List ℤ) (place r : ℕ) → output_element root outputs place ≡ Some (Poison r) → root ≡ Some r
written_poison (Some q) outputs place r h = let e : Poison q ≡ Poison r = same_Some (Poison q) (Poison r) h in let n : q ≡ r = cc in ap (λ (n : ℕ). Some n) n
written_poison None outputs place r h = by_value (slice_get outputs place) h
  where
    by_value : (o : Option ℤ) → option_map Value o ≡ Some (Poison r) → None ≡ Some r
    by_value None e = absurd (cc)
    by_value (Some v) e = let z : Value v ≡ Poison r = same_Some (Value v) (Poison r) e in absurd (cc)

module _ (activations : List Activation) (input : List ℕ) (body : ℕ → List ℤ → Outcome) (never : NeverPoisons body) where
  abbrev whole : State
  whole = stream_meaning activations input body

  -- whether an activation failed itself
  abbrev failed_at : ℕ → Bool
  failed_at r = option_map_or (λ (q : Outcome). has_failed q.end) (outcome_at whole r) false

  -- whether the root of an end failed itself, if the end is poisoned
  abbrev has_root : TaskEnd → Bool
  has_root Done = true
  has_root (Trapped code line) = true
  has_root OverBudget = true
  has_root (Poisoned r) = failed_at r

  abbrev passes : ℕ → Bool
  passes a = option_map_or (λ (o : Outcome). has_root o.end) (outcome_at whole a) true

  own_end : (e : TaskEnd) → ((r : ℕ) → e ≢ Poisoned r) → has_root e ≡ true
  own_end Done n = refl
  own_end (Trapped code line) n = refl
  own_end OverBudget n = refl
  own_end (Poisoned r) n = absurd (n r refl)

  -- a place of which poison is read has a producer with that root
  source_of_poison : (s : State) (p : Place) (r : ℕ) → stream_element s (stream_source activations input p) ≡ Some (Poison r) → (b : ℕ) × (o : Outcome) × (outcome_at s b ≡ Some o) × (root_of b o.end ≡ Some r)
  source_of_poison s p r = by_stream (p.stream == 0)
    where
      by_byte : (o : Option ℕ) → stream_element s (option_map_or (λ byte. initial (Value (pos byte))) o nobody) ≡ Some (Poison r) → (b : ℕ) × (o : Outcome) × (outcome_at s b ≡ Some o) × (root_of b o.end ≡ Some r)
      by_byte None h = absurd (cc)
      by_byte (Some x) h = let z : Value (pos x) ≡ Poison r = same_Some (Value (pos x)) (Poison r) h in absurd (cc)

      by_outcome : (b place : ℕ) (o : Option Outcome) → outcome_at s b ≡ o → option_and_then (λ (q : Outcome). element_written b q place) o ≡ Some (Poison r) → (b : ℕ) × (o : Outcome) × (outcome_at s b ≡ Some o) × (root_of b o.end ≡ Some r)
      by_outcome b place None is h = absurd (cc)
      by_outcome b place (Some o) is h = (b, o, is, written_poison (root_of b o.end) o.outputs place r h)

      by_producer : (o : Option Window) → stream_element s (option_map_or (λ (w : Window). fed w.activation (w.offset + (p.position - w.first))) o nobody) ≡ Some (Poison r) → (b : ℕ) × (o : Outcome) × (outcome_at s b ≡ Some o) × (root_of b o.end ≡ Some r)
      by_producer None h = absurd (cc)
      by_producer (Some w) h = by_outcome w.activation (w.offset + (p.position - w.first)) (outcome_at s w.activation) refl h

      by_stream : (t : Bool) → stream_element s (cond t (input_source input p.position) (produced_source activations p.stream p.position)) ≡ Some (Poison r) → (b : ℕ) × (o : Outcome) × (outcome_at s b ≡ Some o) × (root_of b o.end ≡ Some r)
      by_stream true h = by_byte (slice_get input p.position) h
      by_stream false h = by_producer (producer activations p.stream p.position) h

  -- the root of an activation that passes failed itself
  root_failed : (b r : ℕ) (o : Outcome) → outcome_at whole b ≡ Some o → passes b ≡ true → root_of b o.end ≡ Some r → failed_at r ≡ true
  root_failed b r o is ok = by_end o.end refl
    where
      itself : has_failed o.end ≡ true → b ≡ r → failed_at r ≡ true
      itself failed same = ap failed_at (sym same) ∙ ap (λ (q : Option Outcome). option_map_or (λ (q : Outcome). has_failed q.end) q false) is ∙ failed

      by_end : (e : TaskEnd) → o.end ≡ e → root_of b e ≡ Some r → failed_at r ≡ true
      by_end Done e h = absurd (cc)
      by_end (Trapped code line) e h = itself (ap has_failed e) (same_Some b r h)
      by_end OverBudget e h = itself (ap has_failed e) (same_Some b r h)
      by_end (Poisoned q) e h =
          let n : q ≡ r = same_Some q r h in
          ap failed_at (sym n) ∙ sym (ap has_root e) ∙ sym (ap (λ (x : Option Outcome). option_map_or (λ (y : Outcome). has_root y.end) x true) is) ∙ ok

  passes_by_rounds : IsClosed stream_element (stream_reads activations input) (poisoning body) (length activations) passes
  passes_by_rounds = record { passes = fire }
    where
      fire : (s : State) → Extends s whole → ((a : ℕ) (o : Outcome) → outcome_at s a ≡ Some o → passes a ≡ true) → (a : ℕ) (vs : List Elem) → a < length activations → inputs_in stream_element (stream_reads activations input) s a ≡ Some vs → passes a ≡ true
      fire s extends earlier a vs lt inputs = ap (λ (q : Option Outcome). option_map_or (λ (o : Outcome). has_root o.end) q true) fired ∙ by_root (least_root vs) refl
        where
          fired : outcome_at whole a ≡ Some (poisoning body a vs)
          fired = outcome_at-meaning stream_element (element_kept own_number) (stream_reads activations input) (poisoning body) (length activations) a lt ∙ ap (option_map (poisoning body a)) (gathered-extends stream_element (element_kept own_number) s whole extends (stream_reads activations input a) vs inputs)

          by_root : (root : Option ℕ) → least_root vs ≡ root → has_root (option_map_or (λ (r : ℕ). outcome_of (Poisoned r) []) root (body a (values_of vs))).end ≡ true
          by_root None e = own_end (body a (values_of vs)).end (never a (values_of vs))
          by_root (Some r) e =
              let (k, within, is) = (least_root_is_least vs r e).is_of_one in
              let (p, at) = gathered_from (stream_element s) (stream_source activations input) (input_places activations a) vs inputs k (Poison r) within in
              let (b, o, b_is, root) = source_of_poison s p r (at ∙ ap (λ (v : Elem). Some v) is) in
              root_failed b r o (extends.kept b o b_is) (earlier b o b_is) root

  pub roots_failed : (a root : ℕ) (o : Outcome) → outcome_at whole a ≡ Some o → o.end ≡ Poisoned root → (q : Outcome) × (outcome_at whole root ≡ Some q) × (has_failed q.end ≡ true)
  roots_failed a root o is poisoned = by_outcome (outcome_at whole root) refl failed
    where
      failed : failed_at root ≡ true
      failed =
          sym (ap has_root poisoned) ∙ sym (ap (λ (q : Option Outcome). option_map_or (λ (y : Outcome). has_root y.end) q true) is)
          ∙ passes_from_closed stream_element (stream_reads activations input) (poisoning body) (length activations) passes passes_by_rounds a o is

      by_outcome : (q : Option Outcome) → outcome_at whole root ≡ q → option_map_or (λ (q : Outcome). has_failed q.end) q false ≡ true → (q : Outcome) × (outcome_at whole root ≡ Some q) × (has_failed q.end ≡ true)
      by_outcome None e h = absurd (cc)
      by_outcome (Some q) e h = (q, e, h)
