-- How often pieces count, by what changed of words and runs.
use Rattle.std.proofs.Common.{◌≡◌, ℕ, ◌+◌, ◌-◌, ◌<◌, ◌≤◌, List, Option, Some, None, get_or, refl, ap, arith, count_by}
use Rattle.std.specs.Prelude.{slice_get, is_none, ◌&&◌, ◌==◌}
use Rattle.std.specs.Option.{option_map_or}
use Rattle.std.proofs.lemmas.List.Quantifiers.{position-Some}
use Rattle.std.proofs.lemmas.Option.{slice_get-get_or}
use Rattle.flow_core_laws.specs.declared.plan.Piece.{Piece}
use Rattle.flow_core_laws.specs.Plans.{is_covered_by, frame_at, held_at, cells_of, piece_at}
use Rattle.flow_core_laws.proofs.Sources.{test_covers}
use Rattle.flow_core_concurrent.specs.declared.view.FrameRun.{FrameRun}
use Rattle.flow_core_concurrent.specs.Counted.{one, is_past, has_stored, counted, underway, counted_at, underway_at, lacks_cell, lacking}
use Rattle.flow_core_concurrent.proofs.Sums.{count_by-same, option_map_or-same}
use Rattle.flow_core_laws.specs.declared.plan.Plan.{Plan}
use Rattle.flow_core_laws.specs.IsSound.{IsSound, IsSoundPiece, HasCell}
use Rattle.flow_core_concurrent.specs.declared.word.Word.{Word}
use Rattle.flow_core_concurrent.specs.Words.{word_at, has_ended}

-- the piece at a cell
pub piece_is : (plan : Plan) (c q : ℕ) → piece_at plan c ≡ Some q → (p : Piece) × (slice_get plan.pieces q ≡ Some p) × (p.at ≤ c) × (c < p.at + p.count)
piece_is plan c q h =
    let no_piece : Piece = record { from = 0; to = 0; first = 0; count = 0; at = 0 } in
    let found = position-Some (is_covered_by c) plan.pieces q no_piece h in
    let p : Piece = get_or plan.pieces q no_piece in
    let w = test_covers c p found.1 in
    (p, slice_get-get_or plan.pieces q no_piece found.0, w.0, w.1)

-- how often a piece counts, where it is known
pub counted-is : (plan : Plan) (words : List Word) (runs : List (Option FrameRun)) (q : ℕ) (p : Piece) → slice_get plan.pieces q ≡ Some p → counted plan words runs q ≡ one (has_ended (word_at words p.from)) + count_by (is_past p.from q) runs
counted-is plan words runs q p h = ap (λ (o : Option Piece). option_map_or (λ (p : Piece). one (has_ended (word_at words p.from)) + count_by (is_past p.from q) runs) o 0) h

pub underway-is : (plan : Plan) (runs : List (Option FrameRun)) (c q : ℕ) (p : Piece) → slice_get plan.pieces q ≡ Some p → underway plan runs c q ≡ count_by (has_stored p.from q (c - p.at)) runs
underway-is plan runs c q p h = ap (λ (o : Option Piece). option_map_or (λ (p : Piece). count_by (has_stored p.from q (c - p.at)) runs) o 0) h

pub counted_at-is : (plan : Plan) (words : List Word) (runs : List (Option FrameRun)) (c q : ℕ) → piece_at plan c ≡ Some q → counted_at plan words runs c ≡ counted plan words runs q
counted_at-is plan words runs c q h = ap (λ (o : Option ℕ). option_map_or (counted plan words runs) o 0) h

pub underway_at-is : (plan : Plan) (runs : List (Option FrameRun)) (c q : ℕ) → piece_at plan c ≡ Some q → underway_at plan runs c ≡ underway plan runs c q
underway_at-is plan runs c q h = ap (λ (o : Option ℕ). option_map_or (underway plan runs c) o 0) h

pub counted_at-none : (plan : Plan) (words : List Word) (runs : List (Option FrameRun)) (c : ℕ) → piece_at plan c ≡ None → counted_at plan words runs c ≡ 0
counted_at-none plan words runs c h = ap (λ (o : Option ℕ). option_map_or (counted plan words runs) o 0) h

pub underway_at-none : (plan : Plan) (runs : List (Option FrameRun)) (c : ℕ) → piece_at plan c ≡ None → underway_at plan runs c ≡ 0
underway_at-none plan runs c h = ap (λ (o : Option ℕ). option_map_or (underway plan runs c) o 0) h

-- Words and runs that count each piece as often as others do.
pub record CountsAlike (plan : Plan) (words : List Word) (runs : List (Option FrameRun)) (words' : List Word) (runs' : List (Option FrameRun)) : Type 0 where
  pub each : (q : ℕ) (p : Piece) → slice_get plan.pieces q ≡ Some p → one (has_ended (word_at words' p.from)) + count_by (is_past p.from q) runs' ≡ one (has_ended (word_at words p.from)) + count_by (is_past p.from q) runs

pub counted-alike : (plan : Plan) (words : List Word) (runs : List (Option FrameRun)) (words' : List Word) (runs' : List (Option FrameRun)) → CountsAlike plan words runs words' runs' → (q : ℕ) → counted plan words' runs' q ≡ counted plan words runs q
counted-alike plan words runs words' runs' alike q = option_map_or-same (λ (p : Piece). one (has_ended (word_at words' p.from)) + count_by (is_past p.from q) runs') (λ (p : Piece). one (has_ended (word_at words p.from)) + count_by (is_past p.from q) runs) (slice_get plan.pieces q) 0 (alike.each q)

pub counted_at-alike : (plan : Plan) (words : List Word) (runs : List (Option FrameRun)) (words' : List Word) (runs' : List (Option FrameRun)) → CountsAlike plan words runs words' runs' → (c : ℕ) → counted_at plan words' runs' c ≡ counted_at plan words runs c
counted_at-alike plan words runs words' runs' alike c = option_map_or-same (counted plan words' runs') (counted plan words runs) (piece_at plan c) 0 (λ q h. counted-alike plan words runs words' runs' alike q)

pub lacking-alike : (plan : Plan) (words : List Word) (runs : List (Option FrameRun)) (words' : List Word) (runs' : List (Option FrameRun)) → CountsAlike plan words runs words' runs' → (f : ℕ) → lacking plan words' runs' f ≡ lacking plan words runs f
lacking-alike plan words runs words' runs' alike f = count_by-same (lacks_cell plan words' runs') (lacks_cell plan words runs) (cells_of plan f) (λ c. ap (λ (n : ℕ). is_none (held_at plan.filled c) && n == 0) (counted_at-alike plan words runs words' runs' alike c))

-- Runs that have stored each element as often as others have.
pub record StoresAlike (plan : Plan) (runs runs' : List (Option FrameRun)) : Type 0 where
  pub each : (q k : ℕ) (p : Piece) → slice_get plan.pieces q ≡ Some p → count_by (has_stored p.from q k) runs' ≡ count_by (has_stored p.from q k) runs

pub underway_at-alike : (plan : Plan) (runs runs' : List (Option FrameRun)) → StoresAlike plan runs runs' → (c : ℕ) → underway_at plan runs' c ≡ underway_at plan runs c
underway_at-alike plan runs runs' alike c = option_map_or-same (underway plan runs' c) (underway plan runs c) (piece_at plan c) 0 (λ q h. option_map_or-same (λ (p : Piece). count_by (has_stored p.from q (c - p.at)) runs') (λ (p : Piece). count_by (has_stored p.from q (c - p.at)) runs) (slice_get plan.pieces q) 0 (λ p at. alike.each q (c - p.at) p at))

-- the pieces of a frame, by their numbers
pub piece_of_frame : (plan : Plan) (q : ℕ) (p : Piece) → IsSound plan → slice_get plan.pieces q ≡ Some p → ((frame_at plan p.from).piece ≤ q) × (q < (frame_at plan p.from).piece + (frame_at plan p.from).pieces)
piece_of_frame plan q p sound h =
    let s : IsSoundPiece plan p = sound.pieces_are_sound q p h in
    (sound.pieces_stand_together p.from q p (let f = s.comes_from_a_frame in omega arith) h).0 refl

-- the cells of a piece are of the frame that it goes to
pub piece_cells : (plan : Plan) (q c : ℕ) (p : Piece) → IsSound plan → slice_get plan.pieces q ≡ Some p → p.at ≤ c → c < p.at + p.count → HasCell plan p.to c
piece_cells plan q c p sound h low high =
    let s : IsSoundPiece plan p = sound.pieces_are_sound q p h in
    let a = s.fills_from_its_cells in
    let b = s.fills_to_its_cells in
    (omega arith, omega arith)
