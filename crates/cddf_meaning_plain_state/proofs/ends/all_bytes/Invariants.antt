use Rattle.std.proofs.Common.{◌≡◌, drop}
use Rattle.std.specs.List.{list_all}
use Rattle.flow_core_laws.specs.Byte.{is_byte}
use Rattle.cddf_meaning_plain_state.proofs.ends.all_bytes.Given as goal

abbrev pub invariant-loop-number : goal.invariant-loop-number
invariant-loop-number l =
    list_all is_byte (drop l.number-index l.numbers) ≡ list_all is_byte l.numbers
