-- The terms on which an input is cut into parts, and which of their rules is broken.
use Rattle.std.specs.Prelude.{◌≡◌, ℕ, ◌+◌, ◌<◌, ◌≤◌, ◌⊎◌}
use Rattle.osparts_parts.specs.declared.terms.Terms.{Terms}
use Rattle.osparts_parts.specs.declared.terms.TermsFault.{TermsFault}
use Rattle.osparts_parts.specs.declared.terms.TermsFault.TheVariants.{EmptyPart, TooLarge, LongOverlap, LongSkip, StateBesideOverlap}
use Rattle.osparts_parts.specs.declared.place.PartPlace.{PartPlace}
use Rattle.osparts_parts.specs.declared.place.PartPlace.TheVariants.{First, Later}

-- how many bytes a part may have with its overlap and its state: as many as an input of one run
abbrev pub part_limit : ℕ
part_limit = 4194304

-- the terms are lawful
pub record AreLawful (terms : Terms) : Type 0 where
  -- a part has a byte
  pub some : 1 ≤ terms.part
  -- a part with its overlap and its state is no longer than an input of one run
  pub fits : terms.part + terms.overlap + terms.state ≤ part_limit
  -- an overlap and a skip are shorter than a part
  pub overlap_less : terms.overlap < terms.part
  pub skip_less : terms.skip < terms.part
  -- there is no state beside an overlap
  pub apart : (terms.overlap ≡ 0) ⊎ (terms.state ≡ 0)

-- the terms break the rule that a fault is named for
abbrev pub Breaks : Terms → TermsFault → Type 0
Breaks terms EmptyPart = terms.part ≡ 0
Breaks terms TooLarge = part_limit < terms.part + terms.overlap + terms.state
Breaks terms LongOverlap = terms.part ≤ terms.overlap
Breaks terms LongSkip = terms.part ≤ terms.skip
Breaks terms StateBesideOverlap = (0 < terms.overlap) × (0 < terms.state)

-- the order in which rules are told
abbrev pub rule_number : TermsFault → ℕ
rule_number EmptyPart = 0
rule_number TooLarge = 1
rule_number LongOverlap = 2
rule_number LongSkip = 3
rule_number StateBesideOverlap = 4

-- the terms break this rule and none before it
pub record IsFirstBroken (terms : Terms) (fault : TermsFault) : Type 0 where
  pub breaks : Breaks terms fault
  pub keeps : (other : TermsFault) → rule_number other < rule_number fault → Breaks terms other → ⊥

-- how many bytes of the input before it stand in front of a part, by its place
abbrev pub overlap_in : PartPlace → Terms → ℕ
overlap_in First terms = 0
overlap_in Later terms = terms.overlap

-- how many of the first bytes that a part writes are left out, by its place
abbrev pub skip_in : PartPlace → Terms → ℕ
skip_in First terms = 0
skip_in Later terms = terms.skip
