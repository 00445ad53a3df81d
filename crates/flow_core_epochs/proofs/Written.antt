-- The places that an activation writes, and who produces them.
use Rattle.std.proofs.Common.{◌≡◌, ◌≢◌, ℕ, ◌+◌, ◌-◌, ◌<◌, ◌≤◌, List, Option, Some, Bool, true, false, cond, length, take, refl, sym, ap, ◌∙◌, arith}
use Rattle.std.specs.Prelude.{filter, ◌==◌, ◌&&◌, nat_le, nat_lt}
use Rattle.std.specs.Option.{option_map_or}
use Rattle.std.specs.List.{range_with_len}
use Rattle.std.proofs.lemmas.Bool.{eq-eqb, eqb-true, lt-ltb}
use Rattle.std.proofs.lemmas.Bool.Decides.{nat_tests}
use Rattle.flow_core_laws.specs.declared.activation.Activation.{Activation}
use Rattle.flow_core_laws.specs.declared.place.Place.{Place}
use Rattle.flow_core_laws.specs.Element.{fed, nobody}
use Rattle.flow_core_laws.specs.Window.{Window, window_of, windows_of, windows, claims_of, claims_at, is_written_by, producer}
use Rattle.flow_core_laws.specs.Place.{places_of}
use Rattle.flow_core_laws.specs.Streams.{input_source, produced_source, stream_source}
use Rattle.flow_core_laws.proofs.Stretches.{stands_at}
use Rattle.flow_core_laws.proofs.Windows.{producer_of}
use Rattle.flow_core_epochs.specs.Epoch.{written_places}
use Rattle.flow_core_epochs.proofs.Members.{Has, of_map, of_filter, of_flat_map, of_range}

-- the window of an activation stands among all windows
pub has_window : (activations : List Activation) (a : ℕ) (w : Window) → a < length activations → Has (windows_of activations a) w → Has (windows activations) w
unfolding windows
has_window activations a w lt (k, at) = (_, stands_at (windows_of activations) 0 (length activations) a k w (omega arith) (omega arith) at)

-- and is that activation's
pub window_activation : (activations : List Activation) (a : ℕ) (w : Window) → Has (windows_of activations a) w → w.activation ≡ a
window_activation activations a w h =
    let (k, at, same) = of_map (window_of a (claims_of (take a activations)) (claims_at activations a)) (range_with_len 0 (length (claims_at activations a))) w h in
    sym (ap (λ (v : Window). v.activation) same)

-- What it means that a place lies in a window.
pub record LiesIn (w : Window) (p : Place) : Type 0 where
  pub stream : p.stream ≡ w.claim.stream
  pub from : w.first ≤ p.position
  pub to : p.position < w.first + w.claim.horizon

pub lies_in : (w : Window) (p : Place) → Has (places_of w) p → LiesIn w p
lies_in w p h =
    let (n, at, same) = of_map (λ position. record { stream = w.claim.stream; position = position }) (range_with_len w.first w.claim.horizon) p h in
    let r = of_range w.first w.claim.horizon n at in
    let e : n ≡ p.position = ap (λ (q : Place). q.position) same in
    let low = r.0 in
    let high = r.1 in
    record { stream = sym (ap (λ (q : Place). q.stream) same); from = omega arith; to = omega arith }

-- a place that an activation writes lies in one of its output windows
pub written_in : (activations : List Activation) (a : ℕ) (p : Place) → Has (written_places activations a) p → (w : Window) × (Has (windows_of activations a) w) × (w.claim.write ≡ true) × (LiesIn w p)
written_in activations a p h =
    let (w, at, there) = of_flat_map places_of (filter (λ (w : Window). w.claim.write) (windows_of activations a)) p h in
    let f = of_filter (λ (w : Window). w.claim.write) (windows_of activations a) w at in
    (w, f.0, f.1, lies_in w p there)

pub is_written_test : (w : Window) (p : Place) → w.claim.write ≡ true → LiesIn w p → is_written_by p.stream p.position w ≡ true
is_written_test w p writes l =
    let s : (w.claim.stream == p.stream) ≡ true = eq-eqb w.claim.stream p.stream (sym l.stream) in
    let low = l.from in
    let high = l.to in
    let a : nat_le w.first p.position ≡ true = grind (arith, nat_tests) in
    let b : nat_lt p.position (w.first + w.claim.horizon) ≡ true = lt-ltb p.position (w.first + w.claim.horizon) high in
    ap (λ (t : Bool). ((t && (w.claim.stream == p.stream)) && nat_le w.first p.position) && nat_lt p.position (w.first + w.claim.horizon)) writes
    ∙ ap (λ (t : Bool). ((true && t) && nat_le w.first p.position) && nat_lt p.position (w.first + w.claim.horizon)) s
    ∙ ap (λ (t : Bool). ((true && true) && t) && nat_lt p.position (w.first + w.claim.horizon)) a
    ∙ ap (λ (t : Bool). ((true && true) && true) && t) b

-- the element at a place is fed by the activation that writes it
pub written_source : (activations : List Activation) (input : List ℕ) (a : ℕ) (p : Place) → a < length activations → Has (written_places activations a) p → p.stream ≢ 0 → (place : ℕ) × (stream_source activations input p ≡ fed a place)
written_source activations input a p lt h not_input =
    let (w, at, writes, l) = written_in activations a p h in
    let (i, stands) = has_window activations a w lt at in
    let is : producer activations p.stream p.position ≡ Some w = producer_of activations p.stream p.position i w stands (is_written_test w p writes l) in
    let made : produced_source activations p.stream p.position ≡ fed a (w.offset + (p.position - w.first)) =
    ap (λ (o : Option Window). option_map_or (λ (w : Window). fed w.activation (w.offset + (p.position - w.first))) o nobody) is ∙ ap (λ b. fed b (w.offset + (p.position - w.first))) (window_activation activations a w at) in
    (w.offset + (p.position - w.first), other_stream (p.stream == 0) refl ∙ made)
  where
    other_stream : (b : Bool) → (p.stream == 0) ≡ b → cond b (input_source input p.position) (produced_source activations p.stream p.position) ≡ produced_source activations p.stream p.position
    other_stream true e = absurd (not_input (eqb-true p.stream 0 e))
    other_stream false e = refl
