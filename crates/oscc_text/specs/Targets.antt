-- The places that jumps go to, as a table.
use Rattle.std.specs.Prelude.{◌≡◌, ℕ, ◌<◌, Bool, false, List, length, slice_index_or}
use Rattle.os_code.specs.declared.parts.Parts.{Parts}
use Rattle.oscc_text.specs.Rows.{is_target}

-- the places that jumps go to are marked
pub record AreTargets (code : Parts) (marks : List Bool) : Type 0 where
  pub counted : length marks ≡ length code.instrs
  pub marked : (place : ℕ) → place < length code.instrs → slice_index_or marks place false ≡ is_target code place
