use Rattle.std.proofs.Common.{◌∙◌, ◌+◌, ◌<◌, List, ap, arith, get_or, length, take, zero-add, ℕ}
use Rattle.std.proofs.lemmas.List.FromFn.{get_or-map-range_with_len, length-map-range_with_len}
use Rattle.flow_core_laws.specs.Window.{claims_of}
use Rattle.osview_graph.proofs.links.first_window.Goals as goal

pub bounds-as_slice-activation : goal.bounds-as_slice-activation
bounds-as_slice-activation c =
    let acts = c.args.drawn.now.activations.now in
    let starts = ap length c.requires.drawn.laid.starts in
    let long = length-map-range_with_len (λ a. length (claims_of (take a acts))) 0 (length acts + 1) in
    let exists = c.requires.exists in
    omega (arith, ap length c.as_slice.ensures, starts, long, exists)

pub returns : goal.returns
returns c =
    let acts = c.args.drawn.now.activations.now in
    let a = c.args.activation in
    let lt : a < length acts + 1 = let exists = c.requires.exists in omega (arith, exists) in
    ap (λ (xs : List ℕ). get_or xs a 0) c.as_slice.ensures ∙ ap (λ (xs : List ℕ). get_or xs a 0) c.requires.drawn.laid.starts
    ∙ get_or-map-range_with_len (λ b. length (claims_of (take b acts))) 0 (length acts + 1) a a 0 lt (zero-add a)
