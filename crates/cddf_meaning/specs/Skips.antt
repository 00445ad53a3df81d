-- What ticks took from streams, as counters that a run could keep: one for each stream, which a read claim sets to 0.
use Rattle.std.specs.Prelude.{ℕ, ◌+◌, if◌then◌else◌, List, [], ◌∷◌, get_or, replicate, set}
use Rattle.cddf_meaning.specs.declared.cursor_move.Move.{Move}
use Rattle.cddf_meaning.specs.declared.cursor_move.Move.TheVariants.{Take, Tick}
use Rattle.flow_core_laws.specs.declared.claim.Claim.{Claim}

-- what ticks took, behind one more tick
abbrev pub ticked : List ℕ → ℕ → ℕ → List ℕ
ticked skips stream amount = set skips stream (get_or skips stream 0 + amount)

-- what ticks took, behind a claim
abbrev pub skips_behind : List ℕ → Claim → List ℕ
skips_behind skips c = if c.write then skips else set skips c.stream 0

-- what ticks took from `streams` streams behind some moves, the last move first
abbrev pub skips_of : ℕ → List Move → List ℕ
skips_of streams [] = replicate streams 0
skips_of streams (Tick stream amount ∷ before) = ticked (skips_of streams before) stream amount
skips_of streams (Take claim ∷ before) = skips_behind (skips_of streams before) claim
