-- The C of an instruction: a row of C for each. In the function of a unit, `v` is its slots, `s` its operand stack and `d` the height of
-- that; `os_windows` are the windows of the task that runs. What begins with `os_` is the runtime's, `runtime/osrt.h`.
use Rattle.std.specs.Prelude.{ℕ, Bool, false, ◌==◌, List, [], ◌++◌, Option, Some, None, codes, if◌then◌else◌, ℤ}
use Rattle.std.specs.Fmt.{decimal, signed_decimal}
use Rattle.std.specs.List.{flat_map, list_any, range_with_len}
use Rattle.std.specs.Option.{option_map_or}
use Rattle.c_int.specs.declared.operators.Unary.{Unary as UnaryOperator}
use Rattle.c_int.specs.declared.operators.Binary.{Binary as BinaryOperator}
use Rattle.os_code.specs.declared.instr.Instr.{Instr}
use Rattle.os_code.specs.declared.instr.Instr.TheVariants.{Push, Drop, Copy, Load, Store, Zero, CheckAt, LoadAt, StoreAt, ItemCheck, ItemLoad}
use Rattle.os_code.specs.declared.instr.Instr.TheVariants.{ItemStore, Unary, Binary, Jump, JumpZero, Turn, Call, Return, End, Window, BurstIn}
use Rattle.os_code.specs.declared.instr.Instr.TheVariants.{BurstOut, Spawn, Tick}
use Rattle.os_code.specs.declared.unit.CodeUnit.{CodeUnit}
use Rattle.os_code.specs.declared.parts.Parts.{Parts}
use Rattle.os_code.specs.Effects.{jump_of}
use Rattle.os_code.specs.Parts.{instr_at, unit_at}
use Rattle.oscc_text.specs.Names.{unary_name, binary_name}

-- how many arguments a unit takes
abbrev pub args_of : Option CodeUnit → ℕ
args_of (Some unit) = unit.args
args_of None = 0

-- what stands before a member of a list, by its number
abbrev pub comma : ℕ → List ℕ
comma number = if number == 0 then [] else codes ", "

-- The arguments of a call are the topmost operands.
abbrev pub operand : ℕ → List ℕ
operand number = comma number ++ codes "s[d + " ++ decimal number ++ codes "]"

abbrev pub operands : ℕ → List ℕ
operands count = flat_map operand (range_with_len 0 count)

abbrev pub call_head : (unit args : ℕ) → List ℕ
call_head unit args = codes "d -= " ++ decimal args ++ codes "; s[d] = unit_" ++ decimal unit ++ codes "("

abbrev pub call_row : (unit args : ℕ) → List ℕ
call_row unit args = call_head unit args ++ operands args ++ codes "); ++d;"

-- slots that are set to 0
abbrev pub zero_row : (first count : ℕ) → List ℕ
zero_row first count =
    if count == 1 then codes "v[" ++ decimal first ++ codes "] = 0;"
    else codes "memset(v + " ++ decimal first ++ codes ", 0, " ++ decimal count ++ codes " * sizeof *v);"

-- numbers and operators
abbrev pub push_row : ℤ → List ℕ
push_row number = codes "s[d++] = " ++ signed_decimal number ++ codes ";"

abbrev pub unary_row : UnaryOperator → (line : ℕ) → List ℕ
unary_row op line = codes "s[d - 1] = " ++ unary_name op ++ codes "(s[d - 1], " ++ decimal line ++ codes ");"

abbrev pub binary_row : BinaryOperator → (line : ℕ) → List ℕ
binary_row op line = codes "--d; s[d - 1] = " ++ binary_name op ++ codes "(s[d - 1], s[d], " ++ decimal line ++ codes ");"

-- slots by an index
abbrev pub check_row : (size line : ℕ) → List ℕ
check_row size line = codes "os_index(s[d - 1], " ++ decimal size ++ codes ", " ++ decimal line ++ codes ");"

abbrev pub load_row : (first size line : ℕ) → List ℕ
load_row first size line =
    codes "s[d - 1] = v[" ++ decimal first ++ codes " + os_index(s[d - 1], " ++ decimal size ++ codes ", " ++ decimal line ++ codes ")];"

abbrev pub store_row : (first size line : ℕ) → List ℕ
store_row first size line =
    codes "d -= 2; v[" ++ decimal first ++ codes " + os_index(s[d], " ++ decimal size ++ codes ", " ++ decimal line ++ codes ")] = s[d + 1];"

-- elements of windows by an index
abbrev pub item_load_row : (item line : ℕ) → List ℕ
item_load_row item line =
    codes "s[d - 1] = os_windows[" ++ decimal item ++ codes "].at[os_index(s[d - 1], os_windows[" ++ decimal item ++ codes "].size, "
    ++ decimal line ++ codes ")];"

abbrev pub item_store_row : (item line : ℕ) → List ℕ
item_store_row item line =
    codes "d -= 2; os_windows[" ++ decimal item ++ codes "].at[os_index(s[d], os_windows[" ++ decimal item ++ codes "].size, "
    ++ decimal line ++ codes ")] = s[d + 1];"

abbrev pub item_check_row : (item line : ℕ) → List ℕ
item_check_row item line = codes "os_index(s[d - 1], os_windows[" ++ decimal item ++ codes "].size, " ++ decimal line ++ codes ");"

-- windows, bursts and ticks of `main`
abbrev pub window_row : (slot line : ℕ) → List ℕ
window_row slot line = codes "--d; v[" ++ decimal slot ++ codes "] = os_size(s[d], " ++ decimal line ++ codes ");"

abbrev pub burst_in_row : (line : ℕ) → List ℕ
burst_in_row line = codes "os_burst_in(s[d - 1], " ++ decimal line ++ codes ");"

abbrev pub burst_out_row : (slot line : ℕ) → List ℕ
burst_out_row slot line = codes "os_burst_out(s[d - 1], v[" ++ decimal slot ++ codes "], " ++ decimal line ++ codes ");"

abbrev pub spawn_row : (site : ℕ) → List ℕ
spawn_row site = codes "d -= 2 * os_sites[" ++ decimal site ++ codes "].items; os_spawn(" ++ decimal site ++ codes ", s + d, v);"

abbrev pub tick_row : (first : ℕ) → List ℕ
tick_row first = codes "d -= 2; os_tick(" ++ decimal first ++ codes ", s[d], s[d + 1]);"

-- The row of an instruction.
abbrev pub row : Parts → Instr → List ℕ
row code (Push number) = push_row number
row code Drop = codes "--d;"
row code Copy = codes "s[d] = s[d - 1]; ++d;"
row code (Load slot) = codes "s[d++] = v[" ++ decimal slot ++ codes "];"
row code (Store slot) = codes "v[" ++ decimal slot ++ codes "] = s[--d];"
row code (Zero first count) = zero_row first count
row code (CheckAt size line) = check_row size line
row code (LoadAt first size line) = load_row first size line
row code (StoreAt first size line) = store_row first size line
row code (ItemCheck item line) = item_check_row item line
row code (ItemLoad item line) = item_load_row item line
row code (ItemStore item line) = item_store_row item line
row code (Unary op line) = unary_row op line
row code (Binary op line) = binary_row op line
row code (Jump to) = codes "goto L" ++ decimal to ++ codes ";"
row code (JumpZero to) = codes "if (s[--d] == 0) goto L" ++ decimal to ++ codes ";"
row code Turn = codes "os_turn();"
row code (Call unit) = call_row unit (args_of (unit_at code unit))
row code Return = codes "return s[d - 1];"
row code End = codes "return 0;"
row code (Window slot line) = window_row slot line
row code (BurstIn line) = burst_in_row line
row code (BurstOut slot line) = burst_out_row slot line
row code (Spawn site) = spawn_row site
row code (Tick first) = tick_row first

-- whether some instruction jumps to a place
abbrev pub goes_to : ℕ → Option ℕ → Bool
goes_to place (Some to) = to == place
goes_to place None = false

abbrev pub is_target : Parts → ℕ → Bool
is_target code place = list_any (λ instr. goes_to place (jump_of instr)) code.instrs

-- The row of a place, behind a label where jumps go to it.
abbrev pub label_text : ℕ → List ℕ
label_text place = codes "L" ++ decimal place ++ codes ": "

abbrev pub label_if : Bool → ℕ → List ℕ
label_if target place = if target then label_text place else codes "    "

abbrev pub labelled : Parts → ℕ → Instr → List ℕ
labelled code place instr = label_if (is_target code place) place ++ row code instr ++ codes "\n"

abbrev pub row_at : Parts → ℕ → List ℕ
row_at code place = option_map_or (labelled code place) (instr_at code place) []

-- The rows of some places, from the first of them on.
abbrev pub rows : Parts → (first count : ℕ) → List ℕ
rows code first count = flat_map (row_at code) (range_with_len first count)
