-- The C of a unit: a function of its arguments, with the rows of its region.
use Rattle.std.specs.Prelude.{ℕ, ◌-◌, ◌==◌, nat_le, List, [], ◌++◌, length, codes, if◌then◌else◌}
use Rattle.std.specs.Fmt.{decimal}
use Rattle.std.specs.List.{flat_map, range_with_len}
use Rattle.std.specs.Option.{option_map_or}
use Rattle.os_code.specs.declared.unit.CodeUnit.{CodeUnit}
use Rattle.os_code.specs.declared.parts.Parts.{Parts}
use Rattle.os_code.specs.Parts.{unit_at, region_end}
use Rattle.oscc_text.specs.Rows.{comma, rows}

-- The arguments, and the slots that they are stored in.
abbrev pub parameter : ℕ → List ℕ
parameter number = comma number ++ codes "int32_t a" ++ decimal number

abbrev pub parameters : ℕ → List ℕ
parameters count = if count == 0 then codes "void" else flat_map parameter (range_with_len 0 count)

abbrev pub stored_argument : ℕ → List ℕ
stored_argument number = codes "    v[" ++ decimal number ++ codes "] = a" ++ decimal number ++ codes ";\n"

abbrev pub stored_arguments : ℕ → List ℕ
stored_arguments count = flat_map stored_argument (range_with_len 0 count)

-- a unit with more slots has them in static memory, since no unit is active twice
abbrev pub most_on_stack : ℕ
most_on_stack = 64

-- The slots, all 0.
abbrev pub stack_slots : ℕ → List ℕ
stack_slots count = codes "    int32_t v[1 + " ++ decimal count ++ codes "] = {0};\n"

abbrev pub static_slots : ℕ → List ℕ
static_slots count = codes "    static int32_t v[1 + " ++ decimal count ++ codes "];\n    memset(v, 0, sizeof v);\n"

abbrev pub slots : ℕ → List ℕ
slots count = if nat_le count most_on_stack then stack_slots count else static_slots count

-- The function of a unit. Its slots are 0 but for the arguments, and its operand stack is empty.
abbrev pub signature_head : ℕ → List ℕ
signature_head number = codes "static int32_t unit_" ++ decimal number ++ codes "("

abbrev pub signature : (number args : ℕ) → List ℕ
signature number args = signature_head number ++ parameters args ++ codes ")\n{\n"

abbrev pub operand_stack : ℕ → List ℕ
operand_stack most = codes "    int32_t s[1 + " ++ decimal most ++ codes "];\n    size_t d = 0;\n"

abbrev pub unit_head : (number : ℕ) → CodeUnit → List ℕ
unit_head number unit = signature number unit.args ++ slots unit.slots ++ operand_stack unit.stack ++ stored_arguments unit.args

abbrev pub unit_text : Parts → (number : ℕ) → CodeUnit → List ℕ
unit_text code number unit =
    unit_head number unit ++ rows code unit.start (region_end code unit - unit.start) ++ codes "}\n\n"

abbrev pub unit_text_at : Parts → ℕ → List ℕ
unit_text_at code number = option_map_or (unit_text code number) (unit_at code number) []

-- The functions of all units. Each calls only those before it.
abbrev pub units_text : Parts → List ℕ
units_text code = flat_map (unit_text_at code) (range_with_len 0 (length code.units))
