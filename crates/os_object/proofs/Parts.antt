-- Units, captured slots, items and sites at the front of numbers, and the parts of a code.
use Rattle.std.proofs.Common.{◌≡◌, ℕ, zero, suc, ◌≤◌, Bool, true, false, List, [], ◌∷◌, ◌++◌, length, get_or, drop, Option, Some, None, refl, sym, ap, ◌∙◌, append_assoc, append-nil, length-append, add-one, arith}
use Rattle.std.specs.List.{AllByRecursion, flat_map}
use Rattle.os_code.specs.declared.instr.Instr.{Instr}
use Rattle.os_code.specs.declared.parts.Parts.{Parts}
use Rattle.os_code.specs.declared.site.Site.{Site}
use Rattle.os_code.specs.declared.site.SiteItem.{SiteItem}
use Rattle.os_code.specs.declared.unit.CodeUnit.{CodeUnit}
use Rattle.os_object.specs.Object.{list_of, unit_numbers, write_number, window_number, item_numbers, slot_numbers, site_numbers, instr_numbers, parts_numbers, IsInstr}
use Rattle.os_object.specs.Fronts.{IsObjectRefused}
use Rattle.os_object.specs.declared.object_error.ObjectError.{ObjectError}
use Rattle.os_object.specs.declared.object_error.ObjectError.TheVariants.{Format, Invalid, Memory}
use Rattle.os_object.proofs.Members.{Ends, ends-list, same-list, Always, always}
use Rattle.os_object.proofs.Instrs.{ends-instr, one-instr}

abbrev at : List ℕ → ℕ → ℕ
at ns k = get_or ns k 0

-- units
abbrev unit_in : List ℕ → CodeUnit
unit_in ns = record { start = at ns 0; args = at ns 1; slots = at ns 2; stack = at ns 3 }

pub ends-unit : Ends unit_numbers
ends-unit = record { rests = λ x y a b e. ap (λ (ns : List ℕ). drop 4 ns) e; some = λ x. omega arith }

one-unit : (x y : CodeUnit) (a b : List ℕ) → Always x → Always y → unit_numbers x ++ a ≡ unit_numbers y ++ b → x ≡ y
one-unit x y a b p q e = ap unit_in e

-- captured slots
pub ends-slot : Ends slot_numbers
ends-slot = record { rests = λ x y a b e. ap (λ (ns : List ℕ). drop 1 ns) e; some = λ x. omega arith }

one-slot : (x y : ℕ) (a b : List ℕ) → Always x → Always y → slot_numbers x ++ a ≡ slot_numbers y ++ b → x ≡ y
one-slot x y a b p q e = ap (λ (ns : List ℕ). at ns 0) e

-- items
abbrev write_in : ℕ → Bool
write_in n = get_or (false ∷ true ∷ []) n false

write_in-number : (b : Bool) → write_in (write_number b) ≡ b
write_in-number false = refl
write_in-number true = refl

abbrev window_in : ℕ → Option ℕ
window_in zero = None
window_in (suc n) = Some n

window_in-number : (o : Option ℕ) → window_in (window_number o) ≡ o
window_in-number None = refl
window_in-number (Some slot) = ap window_in (add-one slot)

abbrev item_by : Bool → ℕ → Option ℕ → SiteItem
item_by write stream window = record { write = write; stream = stream; window = window }

abbrev item_in : List ℕ → SiteItem
item_in ns = item_by (write_in (at ns 0)) (at ns 1) (window_in (at ns 2))

item_in-numbers : (item : SiteItem) (a : List ℕ) → item_in (item_numbers item ++ a) ≡ item
item_in-numbers item a =
    ap (λ (b : Bool). item_by b item.stream (window_in (window_number item.window))) (write_in-number item.write)
    ∙ ap (λ (o : Option ℕ). item_by item.write item.stream o) (window_in-number item.window)

pub ends-item : Ends item_numbers
ends-item = record { rests = λ x y a b e. ap (λ (ns : List ℕ). drop 3 ns) e; some = λ x. omega arith }

one-item : (x y : SiteItem) (a b : List ℕ) → Always x → Always y → item_numbers x ++ a ≡ item_numbers y ++ b → x ≡ y
one-item x y a b p q e = sym (item_in-numbers x a) ∙ ap item_in e ∙ item_in-numbers y b

-- sites
abbrev slots_of : Site → List ℕ
slots_of site = list_of slot_numbers site.captured

abbrev items_of : Site → List ℕ
items_of site = list_of item_numbers site.items

lists : (x y : Site) (a b : List ℕ) → site_numbers x ++ a ≡ site_numbers y ++ b → slots_of x ++ (items_of x ++ a) ≡ slots_of y ++ (items_of y ++ b)
lists x y a b e =
    let tails : (slots_of x ++ items_of x) ++ a ≡ (slots_of y ++ items_of y) ++ b = ap (λ (ns : List ℕ). drop 2 ns) e in
    sym (append_assoc (slots_of x) (items_of x) a) ∙ tails ∙ append_assoc (slots_of y) (items_of y) b

behind-slots : (x y : Site) (a b : List ℕ) → site_numbers x ++ a ≡ site_numbers y ++ b → items_of x ++ a ≡ items_of y ++ b
behind-slots x y a b e = (ends-list slot_numbers ends-slot).rests x.captured y.captured (items_of x ++ a) (items_of y ++ b) (lists x y a b e)

pub ends-site : Ends site_numbers
ends-site = record {
  rests = λ x y a b e. (ends-list item_numbers ends-item).rests x.items y.items a b (behind-slots x y a b e);
  some = λ x. omega arith;
}

-- its unit, its line and two lengths, at least
pub four-site : (x : Site) → 4 ≤ length (site_numbers x)
four-site x = let both = length-append (flat_map slot_numbers x.captured) (items_of x) in omega (arith, both)

abbrev site_by : ℕ → ℕ → List ℕ → List SiteItem → Site
site_by unit line captured items = record { unit = unit; line = line; captured = captured; items = items }

one-site : (x y : Site) (a b : List ℕ) → Always x → Always y → site_numbers x ++ a ≡ site_numbers y ++ b → x ≡ y
one-site x y a b p q e =
    let unit : x.unit ≡ y.unit = ap (λ (ns : List ℕ). at ns 0) e in
    let line : x.line ≡ y.line = ap (λ (ns : List ℕ). at ns 1) e in
    let captured = same-list slot_numbers Always ends-slot one-slot x.captured y.captured (items_of x ++ a) (items_of y ++ b) (always x.captured) (always y.captured) (lists x y a b e) in
    let items = same-list item_numbers Always ends-item one-item x.items y.items a b (always x.items) (always y.items) (behind-slots x y a b e) in
    ap (λ (n : ℕ). site_by n x.line x.captured x.items) unit ∙ ap (λ (n : ℕ). site_by y.unit n x.captured x.items) line
    ∙ ap (λ (c : List ℕ). site_by y.unit y.line c x.items) captured ∙ ap (λ (i : List SiteItem). site_by y.unit y.line y.captured i) items

-- parts
abbrev units_of : Parts → List ℕ
units_of parts = list_of unit_numbers parts.units

abbrev sites_of : Parts → List ℕ
sites_of parts = list_of site_numbers parts.sites

abbrev instrs_of : Parts → List ℕ
instrs_of parts = list_of instr_numbers parts.instrs

-- the numbers of parts behind the first two, list by list
pub lists_apart : (x : Parts) → parts_numbers x ≡ x.streams ∷ x.main ∷ (units_of x ++ (sites_of x ++ instrs_of x))
lists_apart x = ap (λ (ns : List ℕ). x.streams ∷ x.main ∷ ns) (append_assoc (units_of x) (sites_of x) (instrs_of x))

abbrev parts_by : ℕ → ℕ → List CodeUnit → List Site → List Instr → Parts
parts_by streams main units sites instrs = record { instrs = instrs; units = units; sites = sites; main = main; streams = streams }

pub one-parts : (x y : Parts) → AllByRecursion IsInstr x.instrs → AllByRecursion IsInstr y.instrs → parts_numbers x ≡ parts_numbers y → x ≡ y
one-parts x y fits also e =
    let apart : x.streams ∷ x.main ∷ (units_of x ++ (sites_of x ++ instrs_of x)) ≡ y.streams ∷ y.main ∷ (units_of y ++ (sites_of y ++ instrs_of y)) =
    sym (lists_apart x) ∙ e ∙ lists_apart y in
    let streams : x.streams ≡ y.streams = ap (λ (ns : List ℕ). at ns 0) apart in
    let main : x.main ≡ y.main = ap (λ (ns : List ℕ). at ns 1) apart in
    let all : units_of x ++ (sites_of x ++ instrs_of x) ≡ units_of y ++ (sites_of y ++ instrs_of y) = ap (λ (ns : List ℕ). drop 2 ns) apart in
    let units = same-list unit_numbers Always ends-unit one-unit x.units y.units (sites_of x ++ instrs_of x) (sites_of y ++ instrs_of y) (always x.units) (always y.units) all in
    let behind = (ends-list unit_numbers ends-unit).rests x.units y.units (sites_of x ++ instrs_of x) (sites_of y ++ instrs_of y) all in
    let sites = same-list site_numbers Always ends-site one-site x.sites y.sites (instrs_of x) (instrs_of y) (always x.sites) (always y.sites) behind in
    let last = (ends-list site_numbers ends-site).rests x.sites y.sites (instrs_of x) (instrs_of y) behind in
    let ended : instrs_of x ++ [] ≡ instrs_of y ++ [] = append-nil (instrs_of x) ∙ last ∙ sym (append-nil (instrs_of y)) in
    let instrs = same-list instr_numbers IsInstr ends-instr one-instr x.instrs y.instrs [] [] fits also ended in
    ap (λ (n : ℕ). parts_by n x.main x.units x.sites x.instrs) streams ∙ ap (λ (n : ℕ). parts_by y.streams n x.units x.sites x.instrs) main
    ∙ ap (λ (us : List CodeUnit). parts_by y.streams y.main us x.sites x.instrs) units
    ∙ ap (λ (ss : List Site). parts_by y.streams y.main y.units ss x.instrs) sites
    ∙ ap (λ (is : List Instr). parts_by y.streams y.main y.units y.sites is) instrs

-- where a part isn't there, nothing is there that has it
pub refused-map : (error : ObjectError) (P Q : Type 0) → IsObjectRefused error P → (P → Q) → IsObjectRefused error Q
refused-map Format P Q refused on = on refused
refused-map Invalid P Q refused on = refused
refused-map Memory P Q refused on = refused

pub no_items : (numbers : List ℕ) (captured : List ℕ) (after : List ℕ) → drop 2 numbers ≡ list_of slot_numbers captured ++ after
    → ((items : List SiteItem) (rest : List ℕ) → after ≡ list_of item_numbers items ++ rest → ⊥)
    → (site : Site) (rest : List ℕ) → numbers ≡ site_numbers site ++ rest → ⊥
no_items numbers captured after taken none site rest e =
    let all : list_of slot_numbers captured ++ after ≡ slots_of site ++ (items_of site ++ rest) =
    sym taken ∙ ap (λ (ns : List ℕ). drop 2 ns) e ∙ append_assoc (slots_of site) (items_of site) rest in
    none site.items rest ((ends-list slot_numbers ends-slot).rests captured site.captured after (items_of site ++ rest) all)

behind-units : (numbers : List ℕ) (units : List CodeUnit) (after : List ℕ) → drop 2 numbers ≡ list_of unit_numbers units ++ after
    → (parts : Parts) → numbers ≡ parts_numbers parts → after ≡ sites_of parts ++ instrs_of parts
behind-units numbers units after taken parts e =
    let all : list_of unit_numbers units ++ after ≡ units_of parts ++ (sites_of parts ++ instrs_of parts) =
    sym taken ∙ ap (λ (ns : List ℕ). drop 2 ns) (e ∙ lists_apart parts) in
    (ends-list unit_numbers ends-unit).rests units parts.units after (sites_of parts ++ instrs_of parts) all

pub no_sites : (numbers : List ℕ) (units : List CodeUnit) (after : List ℕ) → drop 2 numbers ≡ list_of unit_numbers units ++ after
    → ((sites : List Site) (rest : List ℕ) → after ≡ list_of site_numbers sites ++ rest → ⊥) → (parts : Parts) → numbers ≡ parts_numbers parts → ⊥
no_sites numbers units after taken none parts e = none parts.sites (instrs_of parts) (behind-units numbers units after taken parts e)

behind-sites : (numbers : List ℕ) (units : List CodeUnit) (after : List ℕ) (sites : List Site) (last : List ℕ) → drop 2 numbers ≡ list_of unit_numbers units ++ after
    → after ≡ list_of site_numbers sites ++ last → (parts : Parts) → numbers ≡ parts_numbers parts → last ≡ instrs_of parts
behind-sites numbers units after sites last taken more parts e =
    (ends-list site_numbers ends-site).rests sites parts.sites last (instrs_of parts) (sym more ∙ behind-units numbers units after taken parts e)

pub no_instrs : (numbers : List ℕ) (units : List CodeUnit) (after : List ℕ) (sites : List Site) (last : List ℕ) → drop 2 numbers ≡ list_of unit_numbers units ++ after
    → after ≡ list_of site_numbers sites ++ last → ((instrs : List Instr) (rest : List ℕ) → last ≡ list_of instr_numbers instrs ++ rest → ⊥)
    → (parts : Parts) → numbers ≡ parts_numbers parts → ⊥
no_instrs numbers units after sites last taken more none parts e =
    none parts.instrs [] (behind-sites numbers units after sites last taken more parts e ∙ sym (append-nil (instrs_of parts)))

pub no_end : (numbers : List ℕ) (units : List CodeUnit) (after : List ℕ) (sites : List Site) (last : List ℕ) (instrs : List Instr) (rest : List ℕ)
    → drop 2 numbers ≡ list_of unit_numbers units ++ after → after ≡ list_of site_numbers sites ++ last → last ≡ list_of instr_numbers instrs ++ rest
    → 1 ≤ length rest → (parts : Parts) → numbers ≡ parts_numbers parts → ⊥
no_end numbers units after sites last instrs rest taken more most some parts e =
    let all : list_of instr_numbers instrs ++ rest ≡ instrs_of parts ++ [] =
    sym most ∙ behind-sites numbers units after sites last taken more parts e ∙ sym (append-nil (instrs_of parts)) in
    let none = ap length ((ends-list instr_numbers ends-instr).rests instrs parts.instrs rest [] all) in
    omega (arith, none, some)
