-- The declarators and clauses of a leveled statement have leveled expressions in them.
use Rattle.std.proofs.Common.{◌≡◌, ◌∙◌, List, [], ◌∷◌, ◌++◌, map, Option, Some, ap, subst}
use Rattle.std.proofs.lemmas.Option.{none-some, same_Some}
use Rattle.lowering_draft.specs.Given.{HasLeveledExprs, IsItem, joined, private_name}
use Rattle.os_ast.specs.Leveled as leveled
use Rattle.os_ast.specs.Leveled.{AreAll, AreClauses, AreListed, IsClause, IsClauseItem, IsClauseKind, IsDeclarator, IsExpr, IsHeadDeclarator, IsIndex, IsOptional}
use Rattle.os_ast.specs.ClauseMembers.{Item, Private, members, clause_members}
use Rattle.os_ast.specs.Trees as tree
use Rattle.os_ast.specs.declared.expr.Name.{Name}
use Rattle.os_ast.specs.declared.names.Direction.{Direction}
use Rattle.os_ast.specs.declared.names.Direction.TheVariants as direction

-- what is there
present_is : {A : Type 0} {P : A → Type 0} {o : Option A} → IsOptional P o → (x : A) → o ≡ Some x → P x
present_is leveled.absent x is = absurd (none-some x is)
present_is {P} (leveled.present {x = y} p) x is = subst P (same_Some y x is) p

index_value : {i : tree.IndexTree} → IsIndex i → IsExpr i.value
index_value (leveled.index is) = is

declarator_given : {d : tree.DeclaratorTree} → IsDeclarator d → HasLeveledExprs d
declarator_given (leveled.scalar first) = record { size = λ i is. absurd (none-some i is); first = λ e is. present_is first e is }
declarator_given (leveled.sized {n} {size} is_index) = record {
  size = λ i is. subst (λ (s : tree.IndexTree). IsExpr s.value) (same_Some size i is) (index_value is_index);
  first = λ e is. absurd (none-some e is);
}
declarator_given (leveled.stream size) = record { size = λ i is. index_value (present_is size i is); first = λ e is. absurd (none-some e is) }

head_given : {d : tree.DeclaratorTree} → IsHeadDeclarator d → HasLeveledExprs d
head_given (leveled.head first) = record { size = λ i is. absurd (none-some i is); first = λ e is. present_is first e is }

module _ {A : Type 0} where
  map_all : {P Q : A → Type 0} → ((x : A) → P x → Q x) → {xs : List A} → AreAll P xs → AreAll Q xs
  map_all f leveled.nil = leveled.nil
  map_all f (leveled.cons {x} is are) = leveled.cons (f x is) (map_all f are)

  map_listed : {P Q : A → Type 0} → ((x : A) → P x → Q x) → {xs : List A} → AreListed P xs → AreAll Q xs
  map_listed f (leveled.listed {x} is are) = leveled.cons (f x is) (map_all f are)

  append_all : {P : A → Type 0} {xs ys : List A} → AreAll P xs → AreAll P ys → AreAll P (xs ++ ys)
  append_all leveled.nil are = are
  append_all (leveled.cons is more) are = leveled.cons is (append_all more are)

pub declarators_given : {ds : List tree.DeclaratorTree} → AreListed IsDeclarator ds → AreAll HasLeveledExprs ds
declarators_given are = map_listed (λ d is. declarator_given is) are

pub heads_given : {ds : List tree.DeclaratorTree} → AreListed IsHeadDeclarator ds → AreAll HasLeveledExprs ds
heads_given are = map_listed (λ d is. head_given is) are

item_given : (d : Direction) {i : tree.ClauseItemTree} → IsClauseItem i → IsItem (Item d i)
item_given d (leveled.joined {t} {m} {n} {burst} is_target is_burst) = joined is_target
    (λ j b is_join is.
    let same = same_Some (record { mark = m; name = n; burst = burst }) j is_join in
    index_value (present_is is_burst b (ap (λ (k : tree.JoinTree). k.burst) same ∙ is)))
item_given d leveled.alone = joined leveled.variable (λ j b is_join is. absurd (none-some j is_join))

items_given : (d : Direction) {is : List tree.ClauseItemTree} → AreAll IsClauseItem is → AreAll IsItem (map (Item d) is)
items_given d leveled.nil = leveled.nil
items_given d (leveled.cons is are) = leveled.cons (item_given d is) (items_given d are)

privates_given : (ns : List Name) → AreAll IsItem (map Private ns)
privates_given [] = leveled.nil
privates_given (n ∷ ns) = leveled.cons private_name (privates_given ns)

kind_given : {k : tree.ClauseKindTree} → IsClauseKind k → AreAll IsItem (clause_members k)
kind_given (leveled.input (leveled.listed is are)) = leveled.cons (item_given direction.Reads is) (items_given direction.Reads are)
kind_given (leveled.output (leveled.listed is are)) = leveled.cons (item_given direction.Writes is) (items_given direction.Writes are)
kind_given (leveled.firstprivate {n} {ns}) = leveled.cons private_name (privates_given ns)

more_given : {cs : List tree.ClauseTree} → AreAll IsClause cs → AreAll IsItem (members cs)
more_given leveled.nil = leveled.nil
more_given (leveled.cons (leveled.clause is) are) = append_all (kind_given is) (more_given are)

pub clauses_given : {cs : List tree.ClauseTree} → AreClauses cs → AreAll IsItem (members cs)
clauses_given leveled.no_clauses = leveled.nil
clauses_given (leveled.clauses is are) = append_all (kind_given is) (more_given are)
