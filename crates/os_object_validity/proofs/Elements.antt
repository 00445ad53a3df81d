-- What is read of lists at places that are there.
use Rattle.std.proofs.Common.{◌≡◌, ℕ, ◌*◌, ◌<◌, ◌≤◌, Bool, false, List, length, get_or, Option, Some, None, sym, ap, ◌∙◌}
use Rattle.std.specs.Prelude.{slice_get}
use Rattle.std.specs.Option.{option_map_or}
use Rattle.std.proofs.lemmas.List.{get_or_read}
use Rattle.std.proofs.lemmas.Option.{slice_get-get_or, slice_get_past}
use Rattle.os_code.specs.declared.site.Site.{Site}
use Rattle.os_code.specs.declared.unit.CodeUnit.{CodeUnit}
use Rattle.os_object_validity.specs.Tables.{task_in}
use Rattle.os_object_validity.proofs.Exploring.{none-from}

abbrev pub no_unit : CodeUnit
no_unit = record { start = 0; args = 0; slots = 0; stack = 0 }

pub unit_read : (units items : List CodeUnit) (index : ℕ) → items ≡ units → index < length items → slice_get units index ≡ Some (get_or items index no_unit)
unit_read units items index same low = ap (λ (l : List CodeUnit). slice_get l index) (sym same) ∙ slice_get-get_or items index no_unit low

pub site_read : (sites items : List Site) (index : ℕ) (site : Site) → items ≡ sites → index < length items → site ≡ get_or items index site → slice_get sites index ≡ Some site
site_read sites items index site same low is =
    ap (λ (l : List Site). slice_get l index) (sym same) ∙ slice_get-get_or items index site low ∙ ap (λ (s : Site). Some s) (sym is)

pub mark_read : (marks : List Bool) (place : ℕ) (mark value : Bool) → place < length marks → mark ≡ get_or marks place mark → mark ≡ value → get_or marks place false ≡ value
mark_read marks place mark value low is e = sym (get_or_read marks place mark low is false) ∙ e

pub task_read : (tasks : List (Option ℕ)) (unit : ℕ) (task : Option ℕ) (site : ℕ) → unit < length tasks → task ≡ get_or tasks unit task → task ≡ Some site → task_in tasks unit ≡ Some site
task_read tasks unit task site low is e = sym (get_or_read tasks unit task low is None) ∙ e

pub no_task_read : (tasks : List (Option ℕ)) (unit : ℕ) (task : Option ℕ) → unit < length tasks → task ≡ get_or tasks unit task → ((site : ℕ) → task ≡ Some site → ⊥)
    → task_in tasks unit ≡ None
no_task_read tasks unit task low is never = sym (get_or_read tasks unit task low is None) ∙ none-from task never

-- the operands of a `Spawn`
abbrev pairs_at : Option Site → ℕ
pairs_at o = option_map_or (λ (site : Site). 2 * length site.items) o 0

pub pairs-past : (sites : List Site) (number : ℕ) → length sites ≤ number → pairs_at (slice_get sites number) ≡ 0
pairs-past sites number high = ap pairs_at (slice_get_past sites number high)

pub pairs-there : (sites : List Site) (number : ℕ) (site : Site) → number < length sites → site ≡ get_or sites number site → pairs_at (slice_get sites number) ≡ 2 * length site.items
pairs-there sites number site low is = ap pairs_at (slice_get-get_or sites number site low ∙ ap (λ (s : Site). Some s) (sym is))

pub ruleset pairs = (pairs-past, pairs-there)
