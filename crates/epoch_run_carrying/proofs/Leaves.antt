-- Stretches one by one, and their places and elements.
use Rattle.std.proofs.Common.{◌≡◌, ℕ, ◌+◌, ◌<◌, ◌≤◌, List, [], ◌∷◌, ◌++◌, length, get_or, take, drop, sym, ap, ◌∙◌, arith}
use Rattle.std.specs.List.{flat_map}
use Rattle.std.proofs.lemmas.Grind.{flat_map-append}
use Rattle.std.proofs.lemmas.List.{append-nil, drop_more, length-append, take-append-drop, take_more}
use Rattle.std.proofs.lemmas.List.FromFn.{length-map-range_with_len}
use Rattle.stream_match.specs.declared.stretch.Stretch.{Stretch}
use Rattle.stream_match.specs.Stretch.{stretch_places}

-- what stands for a stretch where there is none
abbrev pub no_stretch : Stretch
no_stretch = record { to = 0; stream = 0; first = 0; count = 0; at = 0 }

pub length-places : (s : Stretch) → length (stretch_places s) ≡ s.count
length-places s = length-map-range_with_len (λ position. record { stream = s.stream; position = position }) s.first s.count

-- one more stretch
pub places_more : (leaves : List Stretch) (n : ℕ) (d : Stretch) → n < length leaves
    → flat_map stretch_places (take (n + 1) leaves) ≡ flat_map stretch_places (take n leaves) ++ stretch_places (get_or leaves n d)
places_more leaves n d lt =
    ap (flat_map stretch_places) (take_more leaves n d lt)
    ∙ flat_map-append stretch_places (take n leaves) (get_or leaves n d ∷ [])
    ∙ ap (λ ps. flat_map stretch_places (take n leaves) ++ ps) (append-nil (stretch_places (get_or leaves n d)))

pub length_more : (leaves : List Stretch) (n : ℕ) (d : Stretch) → n < length leaves
    → length (flat_map stretch_places (take (n + 1) leaves)) ≡ length (flat_map stretch_places (take n leaves)) + (get_or leaves n d).count
length_more leaves n d lt =
    ap length (places_more leaves n d lt)
    ∙ length-append (flat_map stretch_places (take n leaves)) (stretch_places (get_or leaves n d))
    ∙ ap (λ k. length (flat_map stretch_places (take n leaves)) + k) (length-places (get_or leaves n d))

-- some stretches have no more places than all
pub length_within : (leaves : List Stretch) (n : ℕ) → length (flat_map stretch_places (take n leaves)) ≤ length (flat_map stretch_places leaves)
length_within leaves n =
    let whole : length (flat_map stretch_places leaves) ≡ length (flat_map stretch_places (take n leaves)) + length (flat_map stretch_places (drop n leaves)) =
    ap (λ xs. length (flat_map stretch_places xs)) (sym (take-append-drop n leaves))
    ∙ ap length (flat_map-append stretch_places (take n leaves) (drop n leaves))
    ∙ length-append (flat_map stretch_places (take n leaves)) (flat_map stretch_places (drop n leaves)) in
    omega arith

-- the stretches from one on
pub places_from_on : (leaves : List Stretch) (n : ℕ) (d : Stretch) → n < length leaves
    → flat_map stretch_places (drop n leaves) ≡ stretch_places (get_or leaves n d) ++ flat_map stretch_places (drop (n + 1) leaves)
places_from_on leaves n d lt = ap (flat_map stretch_places) (drop_more leaves n d lt)

-- and one more is among them
pub next_within : (leaves : List Stretch) (n at : ℕ) (d : Stretch) → n < length leaves → at ≡ length (flat_map stretch_places (take n leaves))
    → at + (get_or leaves n d).count ≤ length (flat_map stretch_places leaves)
next_within leaves n at d lt is = omega (arith, length_more leaves n d lt, length_within leaves (n + 1))
