-- How long the object of a code is.
use Rattle.std.proofs.Common.{◌≡◌, ◌≤◌, ◌+◌, ◌*◌, ℕ, suc, List, [], ◌∷◌, ◌++◌, Some, length, length-append, slice_get, refl, ap, arith}
use Rattle.std.specs.List.{flat_map}
use Rattle.os_ast.specs.Trees.{ProgramTree}
use Rattle.os_code.specs.IsValid.{IsValid}
use Rattle.os_code.specs.declared.instr.Instr.{Instr}
use Rattle.os_code.specs.declared.instr.Instr.TheVariants as instrs
use Rattle.os_code.specs.declared.parts.Parts.{Parts}
use Rattle.os_code.specs.declared.site.Site.{Site}
use Rattle.os_object.specs.Object.{Spells, instr_numbers, item_numbers, list_of, number, parts_numbers, site_numbers, slot_numbers, unit_numbers}
use Rattle.lowering_laws.proofs.Accepted.{IsLawful}
use Rattle.lowering_laws.proofs.FewTasks.{few_parts}
use Rattle.lowering_laws.specs.Size.{IsSmall}

four : (n : ℕ) → length (number n) ≡ 4
unfolding number
four n = refl

numbers : (ns : List ℕ) → length (flat_map number ns) ≡ 4 * length ns
numbers [] = refl
numbers (n ∷ ns) = omega (arith, numbers ns, four n, length-append (number n) (flat_map number ns))

-- members that are spelled by a few numbers each
each_few : {A : Type 0} (member : A → List ℕ) (most : ℕ) (xs : List A) → ((i : ℕ) (x : A) → slice_get xs i ≡ Some x → length (member x) ≤ most)
    → length (flat_map member xs) ≤ most * length xs
each_few member most [] few = omega arith
each_few member most (x ∷ xs) few =
    let first : length (member x) ≤ most = few 0 x refl in
    let rest = each_few member most xs (λ i y at. few (suc i) y at) in
    omega (arith, first, rest, length-append (member x) (flat_map member xs))

instr_few : (instr : Instr) → length (instr_numbers instr) ≤ 4
instr_few (instrs.Push n) = omega arith
instr_few instrs.Drop = omega arith
instr_few instrs.Copy = omega arith
instr_few (instrs.Load slot) = omega arith
instr_few (instrs.Store slot) = omega arith
instr_few (instrs.Zero first count) = omega arith
instr_few (instrs.CheckAt size line) = omega arith
instr_few (instrs.LoadAt first size line) = omega arith
instr_few (instrs.StoreAt first size line) = omega arith
instr_few (instrs.ItemCheck item line) = omega arith
instr_few (instrs.ItemLoad item line) = omega arith
instr_few (instrs.ItemStore item line) = omega arith
instr_few (instrs.Unary op line) = omega arith
instr_few (instrs.Binary op line) = omega arith
instr_few (instrs.Jump to) = omega arith
instr_few (instrs.JumpZero to) = omega arith
instr_few instrs.Turn = omega arith
instr_few (instrs.Call unit) = omega arith
instr_few instrs.Return = omega arith
instr_few instrs.End = omega arith
instr_few (instrs.Window slot line) = omega arith
instr_few (instrs.BurstIn line) = omega arith
instr_few (instrs.BurstOut slot line) = omega arith
instr_few (instrs.Spawn site) = omega arith
instr_few (instrs.Tick stream) = omega arith

site_few : (site : Site) → length site.captured ≤ 64 → length site.items ≤ 8 → length (site_numbers site) ≤ 92
site_few site captured items =
    let slots : length (flat_map slot_numbers site.captured) ≤ 1 * length site.captured = each_few slot_numbers 1 site.captured (λ i x at. omega arith) in
    let windows : length (flat_map item_numbers site.items) ≤ 3 * length site.items = each_few item_numbers 3 site.items (λ i x at. omega arith) in
    omega (arith, captured, items, slots, windows, length-append (list_of slot_numbers site.captured) (list_of item_numbers site.items))

module _ (code : Parts) (valid : IsValid code) where
  parts_few : length (parts_numbers code) ≤ 5 + 4 * length code.units + 92 * length code.sites + 4 * length code.instrs
  parts_few =
      let units : length (flat_map unit_numbers code.units) ≤ 4 * length code.units = each_few unit_numbers 4 code.units (λ i x at. omega arith) in
      let sites : length (flat_map site_numbers code.sites) ≤ 92 * length code.sites =
      each_few site_numbers 92 code.sites (λ i site at. site_few site (valid.sites.captured_few i site at) (valid.sites.items_few i site at)) in
      let all : length (flat_map instr_numbers code.instrs) ≤ 4 * length code.instrs = each_few instr_numbers 4 code.instrs (λ i x at. instr_few x) in
      omega (
        arith,
        units,
        sites,
        all,
        length-append (list_of unit_numbers code.units) (list_of site_numbers code.sites),
        length-append (list_of unit_numbers code.units ++ list_of site_numbers code.sites) (list_of instr_numbers code.instrs),
      )

  pub object_short : (bytes : List ℕ) → Spells bytes code → length bytes ≤ 24 + 16 * length code.units + 368 * length code.sites + 16 * length code.instrs
  object_short bytes spelled = omega (arith, parts_few, numbers (parts_numbers code), ap length spelled.are_object)

-- so the object of a code that is no larger than the compiler makes it may be read
pub fits : (p : ProgramTree) → IsLawful p → (code : Parts) (bytes : List ℕ) → IsValid code → IsSmall code p → Spells bytes code → length bytes ≤ 67108864
fits p is code bytes valid small spelled =
    omega (arith, is.few, object_short code valid bytes spelled, small.few_instrs, small.units, small.sites, few_parts p)
