-- Codes that tests write out: a task, the functions that it calls, and `main`, which is the last unit.
use Rattle.std.specs.Prelude.{ℕ, ◌+◌, ◌-◌, min, Bool, true, false, not, ◌==◌, ◌&&◌, nat_le, nat_lt}
use Rattle.std.specs.Prelude.{List, [], ◌∷◌, ◌++◌, length, filter, sum_by, Option, Some, None, ℤ, pos}
use Rattle.c_int.specs.declared.operators.Binary.TheVariants as binary
use Rattle.flow_core_laws.specs.Limits.{horizon_limit}
use Rattle.flow_core_laws.specs.declared.claim.Claim.{Claim}
use Rattle.os_code.specs.declared.instr.Instr.{Instr}
use Rattle.os_code.specs.declared.instr.Instr.TheVariants.{Push, Copy, Load, Store, Binary, Return, End}
use Rattle.os_code.specs.declared.site.SiteItem.{SiteItem}
use Rattle.os_code.specs.declared.unit.CodeUnit.{CodeUnit}
use Rattle.os_code.specs.declared.parts.Parts.{Parts}
use Rattle.os_code.specs.Parts.{made_of}

-- a code with one site, at line 90, and three streams
abbrev pub written_code : List Instr → List CodeUnit → (task : ℕ) → (captured : List ℕ) → List SiteItem → Parts
written_code instrs units task captured items =
    made_of instrs units (record { unit = task; line = 90; captured = captured; items = items } ∷ []) (length units - 1) 3

-- a body, behind which stand the function that it calls and a `main` that ends at once
abbrev pub behind : List Instr
behind =
    Push (pos 9) ∷ Load 0 ∷ Load 1 ∷ Binary binary.Add 33 ∷ Push (pos 1) ∷ Binary binary.Add 33 ∷ Copy ∷ Store 1 ∷ Return ∷ End ∷ []

abbrev pub units_around : (body : ℕ) → List CodeUnit
units_around body =
    record { start = body; args = 1; slots = 2; stack = 3 } ∷ record { start = 0; args = 2; slots = 6; stack = min body 3 }
    ∷ record { start = body + 9; args = 1; slots = 9; stack = 0 } ∷ []

-- its windows: three inputs, two outputs, and an output that goes to `osout`
abbrev pub three_items : List SiteItem
three_items =
    record { write = false; stream = 0; window = Some 1 } ∷ record { write = true; stream = 2; window = Some 2 }
    ∷ record { write = true; stream = 1; window = None } ∷ []

abbrev pub alone : List Instr → Parts
alone body = written_code (body ++ behind) (units_around (length body)) 1 (0 ∷ 1 ∷ []) three_items

abbrev pub same_bool : Bool → Bool → Bool
same_bool true b = b
same_bool false b = not b

abbrev pub single_fits : Option ℕ → ℕ → Bool
single_fits None horizon = horizon == 1
single_fits (Some slot) horizon = true

abbrev pub claim_fits : SiteItem → Claim → Bool
claim_fits item claim =
    same_bool item.write claim.write && nat_lt claim.stream 3 && nat_le 1 claim.horizon && nat_le claim.horizon horizon_limit
    && single_fits item.window claim.horizon

abbrev pub claims_fit : List SiteItem → List Claim → Bool
claims_fit [] [] = true
claims_fit (item ∷ items) (claim ∷ claims) = claim_fits item claim && claims_fit items claims
claims_fit [] (claim ∷ claims) = false
claims_fit (item ∷ items) [] = false

-- whether an activation of a written task may have these scalars, claims and numbers of inputs and outputs
abbrev pub is_run : (captured : List ℕ) → List SiteItem → (values : List ℤ) → List Claim → (inputs outputs : ℕ) → Bool
is_run captured items values claims inputs outputs =
    (length values == length captured) && claims_fit items claims
    && (inputs == sum_by (λ (claim : Claim). claim.horizon) (filter (λ (claim : Claim). not claim.write) claims))
    && (outputs == sum_by (λ (claim : Claim). claim.horizon) (filter (λ (claim : Claim). claim.write) claims))
