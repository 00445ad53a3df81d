-- The pieces of a sound plan, and who waits for whom.
use Rattle.std.proofs.Common.{◌≡◌, ◌∙◌, ℕ, ◌+◌, ◌-◌, ◌<◌, ◌≤◌, length, get_or, subst, sym, ap, arith}
use Rattle.std.proofs.lemmas.List.FromFn.{get_or-map-range_with_len, length-map-range_with_len}
use Rattle.flow_core_laws.specs.Element.{Source, fed}
use Rattle.flow_core_laws.specs.IsSound.{IsSound, IsSoundPiece}
use Rattle.flow_core_laws.specs.Plans.{cell_source, frame_at, plan_reads}
use Rattle.flow_core_laws.specs.declared.plan.Plan.{Plan}
use Rattle.flow_core_laws.proofs.Sources.{cell_source-covered, fed-covered}
use Rattle.osview_chains.specs.Behind.{Feeds}
use Rattle.osview_outcomes.specs.Order.{WaitsFor}

-- what stands at a place of what a frame reads
read_at : (plan : Plan) (g k c : ℕ) (d : Source) → k < (frame_at plan g).inputs → (frame_at plan g).cell + k ≡ c → get_or (plan_reads plan g) k d ≡ cell_source plan c
read_at plan g k c d lt at = get_or-map-range_with_len (cell_source plan) (frame_at plan g).cell (frame_at plan g).inputs k c d lt at

-- a frame that a piece feeds waits for the one from which the piece comes
pub waits_if_fed : (plan : Plan) (low high f g : ℕ) → IsSound plan → Feeds plan low high f g → WaitsFor (plan_reads plan) g f
waits_if_fed plan low high f g sound feeds =
    let p = feeds.piece in
    let s : IsSoundPiece plan p = sound.pieces_are_sound feeds.number p feeds.is_there in
    let some = s.has_elements in
    let from_cell : (frame_at plan g).cell ≤ p.at = subst (λ (k : ℕ). (frame_at plan k).cell ≤ p.at) feeds.goes_to s.fills_from_its_cells in
    let to_cell : p.at + p.count ≤ (frame_at plan g).cell + (frame_at plan g).inputs = subst (λ (k : ℕ). p.at + p.count ≤ (frame_at plan k).cell + (frame_at plan k).inputs) feeds.goes_to s.fills_to_its_cells in
    let k : ℕ = p.at - (frame_at plan g).cell in
    let inside : k < (frame_at plan g).inputs = omega (arith, some, from_cell, to_cell) in
    let source : cell_source plan p.at ≡ fed f (p.first + (p.at - p.at)) = cell_source-covered plan feeds.number p.at p sound feeds.is_there (omega arith) (omega (arith, some))
    ∙ ap (λ (b : ℕ). fed b (p.first + (p.at - p.at))) feeds.comes_from in
    record {
      place = p.first + (p.at - p.at);
      is_read = (
        k,
        omega (arith, inside, length-map-range_with_len (cell_source plan) (frame_at plan g).cell (frame_at plan g).inputs),
        read_at plan g k p.at _ inside (omega (arith, from_cell)) ∙ source,
      );
    }

-- and one that waits for a frame is fed by one of its pieces
pub fed_if_waits : (plan : Plan) (f g : ℕ) → IsSound plan → g < length plan.frames → WaitsFor (plan_reads plan) g f
    → Feeds plan (frame_at plan f).piece ((frame_at plan f).piece + (frame_at plan f).pieces) f g
fed_if_waits plan f g sound exists waits =
    let (k, lt, at) = waits.is_read in
    let inside : k < (frame_at plan g).inputs = omega (arith, lt, length-map-range_with_len (cell_source plan) (frame_at plan g).cell (frame_at plan g).inputs) in
    let c : ℕ = (frame_at plan g).cell + k in
    let source : cell_source plan c ≡ fed f waits.place = sym (read_at plan g k c (fed f waits.place) inside (omega arith)) ∙ at in
    let (number, p, is, low, high, from, _) = fed-covered plan c f waits.place source in
    let s : IsSoundPiece plan p = sound.pieces_are_sound number p is in
    let lt_f : f < length plan.frames = subst (λ (b : ℕ). b < length plan.frames) from s.comes_from_a_frame in
    let range = (sound.pieces_stand_together f number p (omega (arith, lt_f)) is).0 from in
    let a = s.fills_from_its_cells in
    let b = s.fills_to_its_cells in
    record {
      number = number;
      piece = p;
      after = range.0;
      before = range.1;
      is_there = is;
      comes_from = from;
      goes_to = sound.cells_are_apart p.to g c s.goes_to_a_frame (omega (arith, exists)) (omega (arith, a, low), omega (arith, b, high)) (omega arith, omega (arith, inside));
    }
