-- What the items of clauses make, one clause after another; that of the draft, and that of the items of a site.
use Rattle.std.proofs.Common.{◌≡◌, ◌∙◌, ℕ, List, [], ◌∷◌, ◌++◌, map, sym, refl, append-nil, append_assoc}
use Rattle.lowering_draft.specs.Emission.Tasks.{item_code, items_code}
use Rattle.lowering_draft.specs.Items.{with_items}
use Rattle.lowering_draft.specs.declared.draft.Draft.{Draft}
use Rattle.lowering_relation.specs.Tasks.{site_item, site_items}
use Rattle.os_ast.specs.ClauseMembers.{ClauseMember, Item, Private}
use Rattle.os_ast.specs.Trees as tree
use Rattle.os_ast.specs.declared.expr.Name.{Name}
use Rattle.os_ast.specs.declared.names.Direction.{Direction}
use Rattle.os_ast.specs.declared.names.Resolved.{Resolved}
use Rattle.os_code.specs.declared.site.SiteItem.{SiteItem}

pub with_items-append : {M : Type 0} (with_item : Direction → tree.ClauseItemTree → M → M) (ps qs : List ClauseMember) (made : M) →
    with_items with_item (ps ++ qs) made ≡ with_items with_item qs (with_items with_item ps made)
with_items-append with_item [] qs made = refl
with_items-append with_item (Item d i ∷ ps) qs made = with_items-append with_item ps qs (with_item d i made)
with_items-append with_item (Private n ∷ ps) qs made = with_items-append with_item ps qs made

pub with_items_private : {M : Type 0} (with_item : Direction → tree.ClauseItemTree → M → M) (ns : List Name) (made : M) →
    with_items with_item (map Private ns) made ≡ made
with_items_private with_item [] made = refl
with_items_private with_item (n ∷ ns) made = with_items_private with_item ns made

pub items_code_visited : (tells : ℕ → Resolved) (ps : List ClauseMember) (d : Draft) → with_items (item_code tells) ps d ≡ items_code tells ps d
items_code_visited tells [] d = refl
items_code_visited tells (Item r i ∷ ps) d = items_code_visited tells ps (item_code tells r i d)
items_code_visited tells (Private n ∷ ps) d = items_code_visited tells ps d

pub site_items_visited : (tells : ℕ → Resolved) (ps : List ClauseMember) (made : List SiteItem) →
    with_items (λ d i made. made ++ site_item tells d i ∷ []) ps made ≡ made ++ site_items tells ps
site_items_visited tells [] made = sym (append-nil made)
site_items_visited tells (Item d i ∷ ps) made =
    site_items_visited tells ps (made ++ site_item tells d i ∷ []) ∙ append_assoc made (site_item tells d i ∷ []) (site_items tells ps)
site_items_visited tells (Private n ∷ ps) made = site_items_visited tells ps made
