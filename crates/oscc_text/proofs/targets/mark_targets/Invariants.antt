use Rattle.std.proofs.Common.{◌≡◌, ℕ, ◌<◌, false, length, slice_index_or, take}
use Rattle.std.specs.List.{list_any}
use Rattle.os_code.specs.Effects.{jump_of}
use Rattle.oscc_text.specs.Rows.{goes_to}
use Rattle.oscc_text.proofs.targets.mark_targets.Given as goal

-- the targets of the instructions so far are marked
abbrev pub invariant-loop-instr : goal.invariant-loop-instr
invariant-loop-instr l = record {
  counted : length l.marks.items ≡ length l.code.instrs;
  marked : (place : ℕ) → place < length l.code.instrs
      → slice_index_or l.marks.items place false ≡ list_any (λ instr. goes_to place (jump_of instr)) (take l.instr-index l.code.instrs);
}
