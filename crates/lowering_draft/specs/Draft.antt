-- The code while it is drafted. Jumps name labels, and a label may have its place.
use Rattle.std.specs.Prelude.{◌≡◌, ℕ, ◌+◌, List, [], ◌∷◌, ◌++◌, length, Some, None, slice_get, slice_set}
use Rattle.lowering_draft.specs.declared.draft.Draft.{Draft}
use Rattle.lowering_draft.specs.declared.draft.Label.{Label}
use Rattle.os_code.specs.declared.instr.Instr.{Instr}
use Rattle.os_code.specs.declared.instr.Instr.TheVariants.{Jump, JumpZero, Spawn}
use Rattle.os_code.specs.Parts.{instr_at}
use Rattle.os_code.specs.declared.parts.Parts.{Parts}

abbrev pub with_instr : Draft → Instr → Draft
with_instr draft instr = record draft { instrs = draft.instrs ++ instr ∷ [] }

abbrev pub with_instrs : Draft → List Instr → Draft
with_instrs draft [] = draft
with_instrs draft (instr ∷ instrs) = with_instrs (with_instr draft instr) instrs

abbrev pub next_label : Draft → Label
next_label draft = record { number = length draft.places }

abbrev pub with_label : Draft → Draft
with_label draft = record draft { places = draft.places ++ None ∷ [] }

-- a label gets the place of the next instruction
abbrev pub with_place : Draft → Label → Draft
with_place draft label = record draft { places = slice_set draft.places label.number (Some (length draft.instrs)) }

-- a draft behind the instruction that spawns the next task
abbrev pub with_spawn : Draft → Draft
with_spawn draft = record draft { instrs = draft.instrs ++ Spawn draft.spawned ∷ []; spawned = draft.spawned + 1 }

-- an instruction whose label gave way to its place
abbrev pub with_places : (place_of : ℕ → ℕ) → Instr → Instr
with_places place_of (Jump label) = Jump (place_of label)
with_places place_of (JumpZero label) = JumpZero (place_of label)
with_places place_of instr = instr

-- A draft becomes a code, by the places of all labels.
pub record Becomes (draft : Draft) (code : Parts) (place_of : ℕ → ℕ) : Type 0 where
  pub instrs : (at : ℕ) (instr : Instr) → slice_get draft.instrs at ≡ Some instr → instr_at code at ≡ Some (with_places place_of instr)
  pub places : (label at : ℕ) → slice_get draft.places label ≡ Some (Some at) → place_of label ≡ at
