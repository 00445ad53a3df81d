-- The code of the members of clauses, of some behind that of others.
use Rattle.std.proofs.Common.{◌≡◌, ℕ, List, [], ◌∷◌, ◌++◌, refl}
use Rattle.lowering_draft.specs.Emission.Tasks.{item_code, items_code}
use Rattle.lowering_draft.specs.declared.draft.Draft.{Draft}
use Rattle.os_ast.specs.ClauseMembers.{ClauseMember, Item, Private}
use Rattle.os_ast.specs.declared.names.Resolved.{Resolved}

pub items_code-append : (tells : ℕ → Resolved) (ps qs : List ClauseMember) (d : Draft) → items_code tells (ps ++ qs) d ≡ items_code tells qs (items_code tells ps d)
items_code-append tells [] qs d = refl
items_code-append tells (Item direction i ∷ ps) qs d = items_code-append tells ps qs (item_code tells direction i d)
items_code-append tells (Private n ∷ ps) qs d = items_code-append tells ps qs d
