-- Tables of a code's units and places, and what is tested of instructions, units and sites.
use Rattle.std.specs.Prelude.{◌≡◌, ℕ, ◌+◌, ◌-◌, ◌<◌, ◌≤◌, ◌⊎◌, Bool, true, false, not, ◌==◌, ◌&&◌, nat_le, nat_lt, List, [], ◌∷◌, length, find}
use Rattle.std.specs.Prelude.{sum_by, take, Option, Some, None, slice_get, slice_index_or, IsTrue}
use Rattle.std.specs.List.{list_all}
use Rattle.os_ast.specs.Limits.{all_streams_limit, captured_limit, items_limit, slots_limit}
use Rattle.os_code.specs.declared.instr.Instr.{Instr}
use Rattle.os_code.specs.declared.site.Site.{Site}
use Rattle.os_code.specs.declared.site.SiteItem.{SiteItem}
use Rattle.os_code.specs.declared.unit.CodeUnit.{CodeUnit}
use Rattle.os_code.specs.Checking.{height_in, implies, if_there, is_turn, is_function, called_of, spawned_of, ticked_of, stored_of}
use Rattle.os_code.specs.Effects.{operands_of, height_after, jump_of, needs_turn, slots_named, item_of, stands_in}
use Rattle.os_code.specs.Heights.{HeightsFit}
use Rattle.os_code.specs.IsValid.{HasInstr, Reaches}
use Rattle.os_code.specs.declared.parts.Parts.{Parts}
use Rattle.os_code.specs.Needs.{starts_at}
use Rattle.os_code.specs.Parts.{instr_at, unit_at, site_at, region_end, is_within, UnitKind as CodeKind, Main, Task, Function, kind_at}
use Rattle.os_object_validity.specs.declared.kinds.UnitKind.{UnitKind}
use Rattle.os_object_validity.specs.declared.kinds.UnitKind.TheVariants as kind
use Rattle.os_object_validity.specs.declared.heights.Waiting.{Waiting}

-- the end of each unit's region
pub record AreEnds (code : Parts) (ends : List ℕ) : Type 0 where
  pub counted : length ends ≡ length code.units
  pub each : (number : ℕ) (unit : CodeUnit) → unit_at code number ≡ Some unit → slice_index_or ends number 0 ≡ region_end code unit

-- the first site of each unit, where it has one
abbrev pub site_told : Parts → Option ℕ → Option Site
site_told code None = None
site_told code (Some number) = site_at code number

abbrev pub task_in : List (Option ℕ) → ℕ → Option ℕ
task_in tasks number = slice_index_or tasks number None

pub record AreTasks (code : Parts) (tasks : List (Option ℕ)) : Type 0 where
  pub counted : length tasks ≡ length code.units
  pub inside : (number site : ℕ) → task_in tasks number ≡ Some site → site < length code.sites
  pub found : (number : ℕ) → number < length code.units
      → find (λ (site : Site). site.unit == number) code.sites ≡ site_told code (task_in tasks number)

-- the kind of a unit without its site, and the items of that site
abbrev pub kind_name : CodeKind → UnitKind
kind_name Main = kind.Main
kind_name (Task site) = kind.Task
kind_name Function = kind.Function

abbrev pub items_of : CodeKind → List SiteItem
items_of Main = []
items_of (Task site) = site.items
items_of Function = []

-- what is asked of an instruction at a place of a unit, apart from the heights of the operand stack
abbrev pub turn_stands : Parts → ℕ → Instr → Bool
turn_stands code place instr = implies (needs_turn instr) (is_turn (instr_at code (place - 1)))

abbrev pub may_be_target : Option Instr → Bool
may_be_target target = if_there (λ instr. not (needs_turn instr)) target

abbrev pub target_stands : Parts → CodeUnit → ℕ → ℕ → Bool
target_stands code unit place to =
    is_within code unit to && implies (nat_le to place) (is_turn (instr_at code to)) && may_be_target (instr_at code to)

abbrev pub jump_stands : Parts → CodeUnit → ℕ → Instr → Bool
jump_stands code unit place instr = if_there (target_stands code unit place) (jump_of instr)

abbrev pub call_stands : Parts → ℕ → Instr → Bool
call_stands code number instr = if_there (λ callee. nat_lt callee number && is_function (kind_at code callee)) (called_of instr)

abbrev pub site_there : Parts → Instr → Bool
site_there code instr = if_there (λ site. nat_lt site (length code.sites)) (spawned_of instr)

abbrev pub stream_there : Parts → Instr → Bool
stream_there code instr = if_there (λ stream. nat_lt stream code.streams) (ticked_of instr)

abbrev pub names_stand : Parts → CodeUnit → Instr → Bool
names_stand code unit instr = nat_le (slots_named instr) unit.slots && site_there code instr && stream_there code instr

abbrev pub item_there : List SiteItem → Instr → Bool
item_there items instr = if_there (λ item. nat_lt item (length items)) (item_of instr)

abbrev pub is_output : List SiteItem → ℕ → Bool
is_output items item = if_there (λ (named : SiteItem). named.write) (slice_get items item)

abbrev pub stores_into_output : List SiteItem → Instr → Bool
stores_into_output items instr = if_there (is_output items) (stored_of instr)

abbrev pub items_fit_in : List SiteItem → Instr → Bool
items_fit_in items instr = item_there items instr && stores_into_output items instr

abbrev pub items_fit : CodeKind → Instr → Bool
items_fit Main instr = true
items_fit (Task site) instr = items_fit_in site.items instr
items_fit Function instr = true

abbrev pub kind_stands : CodeKind → Instr → Bool
kind_stands at instr = stands_in at instr && items_fit at instr

abbrev pub place_stands : Parts → ℕ → CodeUnit → ℕ → Instr → Bool
place_stands code number unit place instr =
    turn_stands code place instr && jump_stands code unit place instr && call_stands code number instr && names_stand code unit instr
    && kind_stands (kind_at code number) instr

-- what is asked of a unit apart from its instructions
abbrev pub unit_stands : Parts → CodeUnit → Bool
unit_stands code unit = nat_le (unit.start + unit.stack) (region_end code unit) && nat_le unit.args unit.slots

-- what is asked of a site, except that no other site has its unit
abbrev pub item_stands : Parts → CodeUnit → SiteItem → Bool
item_stands code main item = nat_lt item.stream code.streams && if_there (λ slot. nat_lt slot main.slots) item.window

abbrev pub args_are : ℕ → CodeUnit → Bool
args_are count unit = unit.args == count

abbrev pub args_of_are : Parts → Site → Bool
args_of_are code site = if_there (args_are (length site.captured)) (unit_at code site.unit)

abbrev pub site_stands : Parts → CodeUnit → Site → Bool
site_stands code main site =
    not (site.unit == code.main) && nat_lt site.unit (length code.units)
    && args_of_are code site
    && nat_le (length site.items) items_limit && nat_le (length site.captured) captured_limit
    && list_all (λ slot. nat_lt slot main.slots) site.captured && list_all (item_stands code main) site.items

abbrev pub sites_stand_by : Parts → Option CodeUnit → Bool
sites_stand_by code None = false
sites_stand_by code (Some main) = main.args == 1 && list_all (site_stands code main) code.sites

-- all that is asked of `main`, sites, streams and slots, but that no two sites have the same unit
abbrev pub sites_stand : Parts → Bool
sites_stand code =
    nat_le 2 code.streams && nat_le code.streams all_streams_limit && nat_le (sum_by (λ (unit : CodeUnit). unit.slots) code.units) slots_limit
    && sites_stand_by code (unit_at code code.main)

-- no two sites have the same unit
abbrev pub TasksDistinct : Parts → Type 0
TasksDistinct code = (number other : ℕ) (site one : Site) → site_at code number ≡ Some site → site_at code other ≡ Some one
    → site.unit ≡ one.unit → number ≡ other

-- a unit and its instructions stand, and all do
pub record UnitStands (code : Parts) (number : ℕ) (unit : CodeUnit) : Type 0 where
  pub frame : unit_stands code unit ≡ true
  pub places : (place : ℕ) (instr : Instr) → HasInstr code number unit place instr → place_stands code number unit place instr ≡ true

abbrev pub AllStand : Parts → Type 0
AllStand code = (number : ℕ) (unit : CodeUnit) → unit_at code number ≡ Some unit → UnitStands code number unit

-- Heights by place, as far as they are known, and the places whose instructions weren't looked at yet: a way from the unit's start reaches
-- each place with its height, and the heights fit where the instruction was looked at.
abbrev pub IsWaiting : List Waiting → ℕ → Type 0
IsWaiting waiting place = (index : ℕ) × (w : Waiting) × (slice_get waiting index ≡ Some w) × (w.place ≡ place)

-- an entry that waits is of a place with its height
pub record IsEntry (code : Parts) (heights : List (Option ℕ)) (w : Waiting) : Type 0 where
  pub unit : CodeUnit
  pub is_unit : unit_at code w.number ≡ Some unit
  pub is_within : IsTrue (is_within code unit w.place)
  pub height : height_in heights w.place ≡ Some w.height

pub record IsExplored (code : Parts) (heights : List (Option ℕ)) (waiting : List Waiting) (Opened : ℕ → Type 0) : Type 0 where
  pub counted : length heights ≡ length code.instrs
  pub entries : (index : ℕ) (w : Waiting) → slice_get waiting index ≡ Some w → IsEntry code heights w
  pub reached : (number place height : ℕ) (unit : CodeUnit) → unit_at code number ≡ Some unit → IsTrue (is_within code unit place)
      → height_in heights place ≡ Some height → Reaches code unit place height
  pub fits : (number place height : ℕ) (unit : CodeUnit) (instr : Instr) → HasInstr code number unit place instr
      → height_in heights place ≡ Some height
      → (IsWaiting waiting place ⊎ Opened place) ⊎ HeightsFit code (height_in heights) unit place height instr
  pub starts : (number : ℕ) (unit : CodeUnit) → unit_at code number ≡ Some unit → height_in heights unit.start ≡ Some 0

-- no height that was known is lost or changed; and how many places have none that is known
abbrev pub IsKept : List (Option ℕ) → List (Option ℕ) → Type 0
IsKept before after = (place height : ℕ) → height_in before place ≡ Some height → height_in after place ≡ Some height

abbrev pub unknown : List (Option ℕ) → ℕ
unknown [] = 0
unknown (None ∷ heights) = 1 + unknown heights
unknown (Some height ∷ heights) = unknown heights

-- the operands of an instruction are there, and the height is within the stack before and after
pub record FitsStack (code : Parts) (unit : CodeUnit) (height : ℕ) (instr : Instr) : Type 0 where
  pub enough : operands_of code instr ≤ height
  pub low_before : height ≤ unit.stack
  pub low_after : height_after code instr height ≤ unit.stack

-- an entry of a unit's start
pub record IsStart (code : Parts) (w : Waiting) : Type 0 where
  pub unit : CodeUnit
  pub is_unit : unit_at code w.number ≡ Some unit
  pub place : w.place ≡ unit.start
  pub height : w.height ≡ 0

-- the starts of the first units have the height 0 and wait, and no other place has a height
pub record IsBegun (code : Parts) (heights : List (Option ℕ)) (waiting : List Waiting) (count : ℕ) : Type 0 where
  pub counted : length heights ≡ length code.instrs
  pub entries : (index : ℕ) (w : Waiting) → slice_get waiting index ≡ Some w → IsStart code w
  pub starts : (number : ℕ) (unit : CodeUnit) → number < count → unit_at code number ≡ Some unit → height_in heights unit.start ≡ Some 0
  pub known : (place height : ℕ) → height_in heights place ≡ Some height → (w : Waiting) × IsStart code w × (w.place ≡ place) × (height ≡ 0)
  pub waits : (number : ℕ) (unit : CodeUnit) → number < count → unit_at code number ≡ Some unit → IsWaiting waiting unit.start

-- the first units stand inside and apart, and their starts are marked
pub record IsApart (code : Parts) (marks : List Bool) (count : ℕ) : Type 0 where
  pub counted : length marks ≡ length code.instrs
  pub marked : (place : ℕ) → place < length code.instrs → slice_index_or marks place false ≡ starts_at (take count code.units) place
  pub inside : (number : ℕ) (unit : CodeUnit) → number < count → unit_at code number ≡ Some unit → unit.start < length code.instrs
  pub distinct : (number other : ℕ) (unit one : CodeUnit) → number < count → other < count → unit_at code number ≡ Some unit
      → unit_at code other ≡ Some one → unit.start ≡ one.start → number ≡ other

-- the sites of the first tasks
pub record IsTold (code : Parts) (tasks : List (Option ℕ)) (count : ℕ) : Type 0 where
  pub counted : length tasks ≡ length code.units
  pub inside : (number site : ℕ) → task_in tasks number ≡ Some site → site < length code.sites
  pub found : (number : ℕ) → number < length code.units
      → find (λ (site : Site). site.unit == number) (take count code.sites) ≡ site_told code (task_in tasks number)
  pub distinct : (number other : ℕ) (site one : Site) → number < count → other < count → site_at code number ≡ Some site
      → site_at code other ≡ Some one → site.unit ≡ one.unit → number ≡ other
