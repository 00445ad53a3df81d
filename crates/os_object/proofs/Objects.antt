-- Objects, as they are written and read.
use Rattle.std.proofs.Common.{◌≡◌, ℕ, List, [], ◌∷◌, ◌++◌, Err, drop, sym, ap, ◌∙◌}
use Rattle.std.specs.List.{flat_map, AllByRecursion}
use Rattle.os_code.specs.declared.parts.Parts.{Parts}
use Rattle.os_object.specs.Answers.{IsReadAs}
use Rattle.os_object.specs.Fronts.{IsObjectRefused}
use Rattle.os_object.specs.declared.object_error.ObjectError.{ObjectError}
use Rattle.os_object.specs.declared.object_error.ObjectError.TheVariants.{Format, Invalid, Memory}
use Rattle.os_object.specs.Object.{number, list_of, unit_numbers, site_numbers, instr_numbers, parts_numbers, object, IsInstr, Spells}
use Rattle.os_object.proofs.Spelling.{joined, one-numbers}

-- the bytes that are written one after another are the object
pub written : (parts : Parts) (mark first units sites instrs : List ℕ) → mark ≡ 79 ∷ 83 ∷ 79 ∷ 49 ∷ []
    → first ≡ mark ++ flat_map number (parts.streams ∷ parts.main ∷ [])
    → units ≡ first ++ flat_map number (list_of unit_numbers parts.units)
    → sites ≡ units ++ flat_map number (list_of site_numbers parts.sites)
    → instrs ≡ sites ++ flat_map number (list_of instr_numbers parts.instrs) → instrs ≡ object parts
written parts mark first units sites instrs e0 e1 e2 e3 e4 =
    let first_two : List ℕ = parts.streams ∷ parts.main ∷ [] in
    let to_units : units ≡ mark ++ flat_map number (first_two ++ list_of unit_numbers parts.units) =
    e2 ∙ ap (λ (l : List ℕ). l ++ flat_map number (list_of unit_numbers parts.units)) e1 ∙ joined mark first_two (list_of unit_numbers parts.units) in
    let to_sites : sites ≡ mark ++ flat_map number ((first_two ++ list_of unit_numbers parts.units) ++ list_of site_numbers parts.sites) =
    e3 ∙ ap (λ (l : List ℕ). l ++ flat_map number (list_of site_numbers parts.sites)) to_units
    ∙ joined mark (first_two ++ list_of unit_numbers parts.units) (list_of site_numbers parts.sites) in
    e4 ∙ ap (λ (l : List ℕ). l ++ flat_map number (list_of instr_numbers parts.instrs)) to_sites
    ∙ joined mark ((first_two ++ list_of unit_numbers parts.units) ++ list_of site_numbers parts.sites) (list_of instr_numbers parts.instrs)
    ∙ ap (λ (l : List ℕ). l ++ flat_map number (parts_numbers parts)) e0

-- the numbers of bytes that spell parts
pub numbers_are : (bytes : List ℕ) (parts : Parts) (numbers : List ℕ) → Spells bytes parts → bytes ≡ 79 ∷ 83 ∷ 79 ∷ 49 ∷ flat_map number numbers → numbers ≡ parts_numbers parts
numbers_are bytes parts numbers spells is =
    one-numbers numbers (parts_numbers parts) (ap (λ (l : List ℕ). drop 4 l) (sym is ∙ spells.are_object))

pub spells-from : (bytes : List ℕ) (parts : Parts) (numbers : List ℕ) → bytes ≡ 79 ∷ 83 ∷ 79 ∷ 49 ∷ flat_map number numbers → numbers ≡ parts_numbers parts
    → AllByRecursion IsInstr parts.instrs → Spells bytes parts
spells-from bytes parts numbers is are instrs = record {
  instrs = instrs;
  are_object = is ∙ ap (λ (ns : List ℕ). 79 ∷ 83 ∷ 79 ∷ 49 ∷ flat_map number ns) are;
}

-- what a reader refuses spells no parts
pub refused_as : (error : ObjectError) (Nothing : Type 0) (parts : Parts) → IsObjectRefused error Nothing → (Nothing → ⊥) → IsReadAs parts (Err error)
refused_as Format Nothing parts refused some = some refused
refused_as Invalid Nothing parts refused some = absurd refused
refused_as Memory Nothing parts refused some = tt

pub never_invalid : (error : ObjectError) (Nothing Goal : Type 0) → IsObjectRefused error Nothing → error ≡ Invalid → Goal
never_invalid Format Nothing Goal refused e = cc
never_invalid Invalid Nothing Goal refused e = absurd refused
never_invalid Memory Nothing Goal refused e = cc
