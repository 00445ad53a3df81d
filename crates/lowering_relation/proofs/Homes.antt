-- Where the code of a body stands, what its instructions may name there, and when one of them is fine.
use Rattle.std.proofs.Common.{◌≡◌, ℕ, ◌+◌, ◌-◌, ◌<◌, ◌≤◌, true, List, [], ◌∷◌, length, Some, slice_get}
use Rattle.std.specs.Prelude.{⊤, ◌⊎◌, All, IsTrue}
use Rattle.os_ast.specs.Captured.{slots_of}
use Rattle.os_ast.specs.Meanings.{what_declared}
use Rattle.os_ast.specs.Notes.Declarators.{declared_entity}
use Rattle.os_ast.specs.Notes.Kinds.{Note, Used, Declared, Pragma, Task}
use Rattle.os_ast.specs.ClauseMembers.{count_items}
use Rattle.os_ast.specs.declared.names.Role.TheVariants as role
use Rattle.os_ast.specs.declared.names.Use.{Use}
use Rattle.os_ast.specs.declared.names.Use.TheVariants as usage
use Rattle.os_ast.specs.declared.names.Resolved.{Resolved}
use Rattle.os_ast.specs.declared.names.What.{What}
use Rattle.os_ast.specs.declared.names.What.TheVariants as what
use Rattle.os_code.specs.Effects.{operands_of, height_after, jump_of, needs_turn, stands_in}
use Rattle.os_code.specs.Parts as code_parts
use Rattle.os_code.specs.Parts.{UnitKind, Main, Function, instr_at}
use Rattle.os_code.specs.declared.instr.Instr.{Instr}
use Rattle.os_code.specs.declared.instr.Instr.TheVariants as instr
use Rattle.os_code.specs.declared.parts.Parts.{Parts}
use Rattle.os_code.specs.declared.site.Site.{Site}
use Rattle.os_code.specs.declared.site.SiteItem.{SiteItem}
use Rattle.lowering_relation.specs.Names.{first_of}
use Rattle.lowering_relation.specs.Statements.{Body}
use Rattle.lowering_relation.specs.Tasks.{TaskTree, task_index}
use Rattle.lowering_relation.proofs.Heights.{height_at}

-- a body in its unit, whose region is from `first` to `last`
pub record Home : Type 0 where
  pub code : Parts
  pub body : Body
  pub number : ℕ
  pub kind : UnitKind
  pub first : ℕ
  pub last : ℕ
  pub slots : ℕ

abbrev pub tells : Home → ℕ → Resolved
tells h = h.body.tells

abbrev pub HasItem : Home → ℕ → Type 0
HasItem h item = (site : Site) × (h.kind ≡ code_parts.Task site) × (item < length site.items)

abbrev pub HasOutput : Home → ℕ → Type 0
HasOutput h item =
    (site : Site) × (h.kind ≡ code_parts.Task site) × (item < length site.items) × ((named : SiteItem) → slice_get site.items item ≡ Some named → IsTrue named.write)

abbrev pub IsCallee : Home → ℕ → Type 0
IsCallee h callee = (callee < h.number) × (code_parts.kind_at h.code callee ≡ Function)

-- what an instruction names is there, and it stands in the kind of unit that is its
abbrev pub Suits : Home → Instr → Type 0
Suits h (instr.Load slot) = slot + 1 ≤ h.slots
Suits h (instr.Store slot) = slot + 1 ≤ h.slots
Suits h (instr.Zero first count) = first + count ≤ h.slots
Suits h (instr.LoadAt first size line) = first + size ≤ h.slots
Suits h (instr.StoreAt first size line) = first + size ≤ h.slots
Suits h (instr.ItemCheck item line) = HasItem h item
Suits h (instr.ItemLoad item line) = HasItem h item
Suits h (instr.ItemStore item line) = HasOutput h item
Suits h (instr.Call callee) = IsCallee h callee
Suits h instr.Return = IsTrue (stands_in h.kind instr.Return)
Suits h instr.End = IsTrue (stands_in h.kind instr.End)
Suits h (instr.Window slot line) = (h.kind ≡ Main) × (slot + 1 ≤ h.slots)
Suits h (instr.BurstIn line) = h.kind ≡ Main
Suits h (instr.BurstOut slot line) = (h.kind ≡ Main) × (slot + 1 ≤ h.slots)
Suits h (instr.Spawn number) = (h.kind ≡ Main) × (number < length h.code.sites)
Suits h (instr.Tick stream) = (h.kind ≡ Main) × (stream < h.code.streams)
Suits h _ = ⊤

-- no `Turn` stands before a place
abbrev pub Unturned : Parts → ℕ → Type 0
Unturned code to = (p : ℕ) → to ≡ p + 1 → instr_at code p ≡ Some instr.Turn → ⊥

-- A jump from a place may go to another with the height that it leaves: forwards where no `Turn` stands before it, and
-- else to a `Turn`.
pub record IsTarget (h : Home) (from to left : ℕ) : Type 0 where
  pub low : h.first ≤ to
  pub high : to < h.last
  pub height : height_at h.code to ≡ left
  pub lands : ((from < to) × Unturned h.code to) ⊎ (instr_at h.code to ≡ Some instr.Turn)

-- an instruction at a place keeps what validity asks of it there
pub record IsFine (h : Home) (place : ℕ) (i : Instr) : Type 0 where
  pub enough : operands_of h.code i ≤ height_at h.code place
  pub jumps : (to : ℕ) → jump_of i ≡ Some to → IsTarget h place to (height_after h.code i (height_at h.code place))
  pub turned : needs_turn i ≡ true → instr_at h.code (place - 1) ≡ Some instr.Turn
  pub suits : Suits h i

abbrev pub AreFine : Home → (from to : ℕ) → Type 0
AreFine h from to = (p : ℕ) (i : Instr) → from ≤ p → p < to → instr_at h.code p ≡ Some i → IsFine h p i

-- What a name means may be named in a body.
abbrev pub Fits : Home → What → Type 0
Fits h (what.Constant v) = ⊤
Fits h (what.Function f) = ⊤
Fits h (what.Scalar slot) = slot + 1 ≤ h.slots
Fits h (what.Array first size) = first + size ≤ h.slots
Fits h (what.Window slot) = (h.kind ≡ Main) × (slot + 1 ≤ h.slots)
Fits h (what.Stream first count) = ⊤
Fits h (what.Element item) = HasItem h item
Fits h (what.View item) = HasItem h item

-- what is stored there
abbrev pub IsOutput : Home → What → Type 0
IsOutput h (what.Element item) = HasOutput h item
IsOutput h (what.View item) = HasOutput h item
IsOutput h _ = ⊤

pub record IsCalled (h : Home) (args : ℕ) (w : What) : Type 0 where
  pub callee : ℕ
  pub is : w ≡ what.Function callee
  pub takes : operands_of h.code (instr.Call callee) ≡ args
  pub suits : IsCallee h callee

abbrev pub FitsUse : Home → Use → What → Type 0
FitsUse h (usage.Place role.Value s) w = Fits h w
FitsUse h (usage.Place role.Changed s) w = Fits h w × IsOutput h w
FitsUse h (usage.Place (role.Flow d) s) w = first_of w < h.code.streams
FitsUse h (usage.Called args) w = IsCalled h args w
FitsUse h (usage.Joined s) w = Fits h w
FitsUse h usage.Private w = ⊤

abbrev pub FitsNote : Home → Note → Type 0
FitsNote h (Used s n u) = FitsUse h u (tells h n.mark.place).what
FitsNote h (Declared s d) = ((tells h d.name.mark.place).what ≡ what_declared (declared_entity s d)) × Fits h (what_declared (declared_entity s d))
FitsNote h (Pragma s m) = h.kind ≡ Main
FitsNote h (Task s m items captured) = (h.kind ≡ Main) × (items ≤ 8) × (length captured ≤ 64) × All (λ slot. slot < h.slots) (slots_of captured)
FitsNote h _ = ⊤

abbrev pub AllFit : Home → List Note → Type 0
AllFit h [] = ⊤
AllFit h (n ∷ ns) = FitsNote h n × AllFit h ns

-- tasks find their sites by their marks, with two operands for each item
abbrev pub AreSpawned : Home → List TaskTree → Type 0
AreSpawned h [] = ⊤
AreSpawned h (t ∷ ts) =
    ((number : ℕ) → task_index h.body.tasks t.mark ≡ Some number → (operands_of h.code (instr.Spawn number) ≡ count_items t.members + count_items t.members) × (number < length h.code.sites))
    × AreSpawned h ts
