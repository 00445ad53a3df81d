-- Units one behind another: where they stand, and where their regions end.
use Rattle.std.proofs.Common.{◌≡◌, ℕ, zero, suc, ◌+◌, ◌<◌, ◌≤◌, if◌then◌else◌, List, [], ◌∷◌, Some, slice_get, min, refl, sym, ap, ◌∙◌, subst, inl, inr, arith}
use Rattle.std.proofs.lemmas.Bool.{cases_lt, lt-ltb, le-ltb}
use Rattle.std.proofs.lemmas.Bool.Decides.{nat_tests}
use Rattle.std.specs.Prelude.{◌⊎◌}
use Rattle.os_code.specs.Parts.{next_start}
use Rattle.os_code.specs.declared.unit.CodeUnit.{CodeUnit}
use Rattle.lowering_relation.specs.Tiling.{Tile}

abbrev pub end_of : CodeUnit → ℕ
end_of u = u.start + u.stack

pub tile_onward : (us : List CodeUnit) (from to : ℕ) → Tile from to us → from ≤ to
tile_onward [] from to tile = omega (arith, tile)
tile_onward (u ∷ us) from to tile = omega (arith, tile_onward us (from + u.stack) to tile.1)

-- each unit lies between the ends
pub record IsBetween (from to : ℕ) (u : CodeUnit) : Type 0 where
  pub low : from ≤ u.start
  pub high : u.start + u.stack ≤ to

pub between : (us : List CodeUnit) (from to k : ℕ) (u : CodeUnit) → Tile from to us → slice_get us k ≡ Some u → IsBetween from to u
between [] from to k u tile is = absurd (cc)
between (v ∷ us) from to zero u tile is =
    let same : v ≡ u = cc in
    let e : v.stack ≡ u.stack = ap (λ (x : CodeUnit). x.stack) same in
    let s : v.start ≡ u.start = ap (λ (x : CodeUnit). x.start) same in
    record { low = omega (arith, tile.0, s); high = omega (arith, tile.0, s, e, tile_onward us (from + v.stack) to tile.1) }
between (v ∷ us) from to (suc k) u tile is =
    let b = between us (from + v.stack) to k u tile.1 is in
    record { low = omega (arith, b.low); high = b.high }

-- an earlier one ends where a later one begins, or before
pub in_order : (us : List CodeUnit) (from to j k : ℕ) (u v : CodeUnit) → Tile from to us → slice_get us j ≡ Some u → slice_get us k ≡ Some v → j < k →
    u.start + u.stack ≤ v.start
in_order [] from to j k u v tile first second lt = absurd (cc)
in_order (w ∷ us) from to j zero u v tile first second lt = absurd (omega (arith, lt))
in_order (w ∷ us) from to zero (suc k) u v tile first second lt =
    let same : w ≡ u = cc in
    let e : w.stack ≡ u.stack = ap (λ (x : CodeUnit). x.stack) same in
    let s : w.start ≡ u.start = ap (λ (x : CodeUnit). x.start) same in
    omega (arith, (between us (from + w.stack) to k v tile.1 second).low, tile.0, e, s)
in_order (w ∷ us) from to (suc j) (suc k) u v tile first second lt = in_order us (from + w.stack) to j k u v tile.1 first second (omega (arith, lt))

-- The next start behind a place before them all is the first one's.
next_first : (us : List CodeUnit) (from to place : ℕ) → Tile from to us → place < from → next_start to place us ≡ from
next_first [] from to place tile lt = sym tile
next_first (u ∷ us) from to place tile lt =
    let rest : next_start to place us ≡ from + u.stack = next_first us (from + u.stack) to place tile.1 (omega (arith, lt)) in
    ap (λ t. if t then min u.start (next_start to place us) else next_start to place us) (lt-ltb place u.start (omega (arith, lt, tile.0)))
    ∙ least u.start (next_start to place us) from tile.0 rest
  where
    least : (a b c : ℕ) → a ≡ c → b ≡ c + u.stack → min a b ≡ c
    least a b c e f = grind (arith, nat_tests)

-- A region ends where the next unit begins.
pub next_of : (us : List CodeUnit) (from to k : ℕ) (u : CodeUnit) → Tile from to us → slice_get us k ≡ Some u → u.start < u.start + u.stack →
    next_start to u.start us ≡ u.start + u.stack
next_of [] from to k u tile is some = absurd (cc)
next_of (v ∷ us) from to zero u tile is some =
    let same : v ≡ u = cc in
    let e : v.stack ≡ u.stack = ap (λ (x : CodeUnit). x.stack) same in
    let s : v.start ≡ u.start = ap (λ (x : CodeUnit). x.start) same in
    ap (λ t. if t then min v.start (next_start to u.start us) else next_start to u.start us) (le-ltb u.start v.start (omega (arith, s)))
    ∙ next_first us (from + v.stack) to u.start tile.1 (omega (arith, tile.0, s, e, some))
    ∙ omega (arith, tile.0, s, e)
next_of (v ∷ us) from to (suc k) u tile is some =
    ap (λ t. if t then min v.start (next_start to u.start us) else next_start to u.start us) (le-ltb u.start v.start (omega (arith, tile.0, (between us (from + v.stack) to k u tile.1 is).low)))
    ∙ next_of us (from + v.stack) to k u tile.1 is some

-- each place is in a unit
pub record IsCovered (us : List CodeUnit) (place : ℕ) : Type 0 where
  pub number : ℕ
  pub unit : CodeUnit
  pub is : slice_get us number ≡ Some unit
  pub low : unit.start ≤ place
  pub high : place < unit.start + unit.stack

pub covers : (us : List CodeUnit) (from to place : ℕ) → Tile from to us → from ≤ place → place < to → IsCovered us place
covers [] from to place tile low high = absurd (omega (arith, tile, low, high))
covers (u ∷ us) from to place tile low high = by_place (cases_lt place (from + u.stack)) (λ ge. covers us (from + u.stack) to place tile.1 ge high)
  where
    by_place : (place < from + u.stack) ⊎ (from + u.stack ≤ place) → (from + u.stack ≤ place → IsCovered us place) → IsCovered (u ∷ us) place
    by_place (inl lt) next = record { number = 0; unit = u; is = refl; low = omega (arith, tile.0, low); high = omega (arith, tile.0, lt) }
    by_place (inr ge) next =
        let c = next ge in
        record { number = suc c.number; unit = c.unit; is = c.is; low = c.low; high = c.high }

-- What goes from the start of each unit to its end goes from the first start to each start.
pub carried : (P : ℕ → Type 0) (us : List CodeUnit) (from to : ℕ) → Tile from to us →
    ((k : ℕ) (u : CodeUnit) → slice_get us k ≡ Some u → P u.start → P (u.start + u.stack)) → P from →
    (k : ℕ) (u : CodeUnit) → slice_get us k ≡ Some u → P u.start
carried P [] from to tile goes first k u is = absurd (cc)
carried P (v ∷ us) from to tile goes first zero u is =
    let same : v ≡ u = cc in
    subst (λ (x : CodeUnit). P x.start) same (subst P (sym tile.0) first)
carried P (v ∷ us) from to tile goes first (suc k) u is =
    carried P us (from + v.stack) to tile.1 (λ j w at. goes (suc j) w at) (subst P (ap (λ n. n + v.stack) tile.0) (goes 0 v refl (subst P (sym tile.0) first))) k u is
