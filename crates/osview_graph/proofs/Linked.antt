-- The arrow of a producer, and the numbers of an activation's windows.
use Rattle.std.proofs.Common.{◌≡◌, ◌∙◌, ◌+◌, ◌++◌, ◌≤◌, ℕ, Bool, true, cond, List, [], Option, None, Some, ap, arith, drop, length, max, refl, sym, take}
use Rattle.std.specs.Prelude.{◌==◌}
use Rattle.std.specs.Option.{option_map, option_map_or}
use Rattle.std.proofs.lemmas.Bool.Decides.{nat_tests}
use Rattle.std.proofs.lemmas.List.{length-append}
use Rattle.flow_core_laws.specs.Window.{Window, claims_at, claims_of, producer}
use Rattle.flow_core_laws.specs.declared.activation.Activation.{Activation}
use Rattle.flow_core_laws.proofs.Windows.{claims_of-take_more, claims_split}
use Rattle.osview_graph.specs.Links.{Shown, link, link_at}
use Rattle.osview_graph.specs.DrawnRun.{DrawnRun}
use Rattle.stream_match_layouts.specs.Layout.{span_of}
use Rattle.stream_match_layouts.specs.declared.span.Span.{Span}

-- the window of a span that was found
pub record Found (o : Option Window) (s : Span) : Type 0 where
  pub window : Window
  pub is : o ≡ Some window
  pub span : s ≡ span_of window

pub found : (o : Option Window) (s : Span) → Some s ≡ option_map span_of o → Found o s
found None s e = absurd cc
found (Some w) s e = record { window = w; is = refl; span = cc }

-- the arrow at a position that is the first one of those that a producer gives
pub linked : (run : DrawnRun) (shown : Shown) (r w : Window) (position : ℕ) → producer run.activations r.claim.stream position ≡ Some w → position ≡ max r.first w.first
    → link run shown r w ≡ link_at run shown r position
linked run shown r w position is first =
    let same : (position == max r.first w.first) ≡ true = grind (arith, nat_tests) in
    sym (ap (λ (o : Option Window). option_map_or (λ (v : Window). cond (position == max r.first v.first) (link run shown r v) []) o []) is
    ∙ ap (λ (b : Bool). cond b (link run shown r w) []) same)

-- the claims of one more activation come behind those before it
pub claims_rise : (activations : List Activation) (a : ℕ) → length (claims_of (take a activations)) ≤ length (claims_of (take (a + 1) activations))
claims_rise activations a =
    let more = ap length (claims_of-take_more activations a) in
    omega (arith, more, length-append (claims_of (take a activations)) (claims_at activations a))

pub claims_within : (activations : List Activation) (a : ℕ) → length (claims_of (take (a + 1) activations)) ≤ length (claims_of activations)
claims_within activations a =
    let more = ap length (claims_of-take_more activations a) in
    let all = ap length (claims_split activations a) in
    let both = length-append (claims_of (take a activations) ++ claims_at activations a) (claims_of (drop (a + 1) activations)) in
    omega (arith, more, all, both)
