-- What stands in a body stands in its scopes.
use Rattle.std.proofs.Common.{◌≡◌, ℕ, ◌&&◌, Bool, true, false, not, if◌then◌else◌, List, [], ◌∷◌, ◌++◌, Option, Some, None}
use Rattle.os_ast.specs.Names.{Scope}
use Rattle.os_ast.specs.Notes.Clauses.{window_notes, members_notes}
use Rattle.os_ast.specs.Notes.Declarators.{is_window, size_notes, sized_notes}
use Rattle.os_ast.specs.Notes.Expressions.{expr_notes, place_notes, args_notes, links_notes, value_notes, index_notes, change_notes, step_notes}
use Rattle.os_ast.specs.ClauseMembers.{ClauseMember, Item, Private, member_name}
use Rattle.os_ast.specs.Trees as tree
use Rattle.os_ast.specs.declared.names.Owner.TheVariants as owner
use Rattle.os_ast.specs.declared.names.Role.{Role}
use Rattle.os_ast.specs.declared.names.Role.TheVariants as role
use Rattle.os_ast.specs.declared.names.Shape.TheVariants as shape
use Rattle.os_ast.specs.declared.names.Use.TheVariants as usage
use Rattle.lowering_relation.proofs.Texts.{Text, In, IsPlaced, AllScoped, scoped_both}

module _ (t : Text) (s : Scope) (is : In t s) where
  mutual
    pub expr_scoped : (e : tree.ExprTree) → AllScoped t (expr_notes s e)
    expr_scoped (tree.Number n) = tt
    expr_scoped (tree.Wide n) = tt
    expr_scoped (tree.Place p) = place_scoped p role.Value tt tt
    expr_scoped (tree.ExprTree.Call f args) = ((is, tt), args_scoped args)
    expr_scoped (tree.Paren e) = expr_scoped e
    expr_scoped (tree.Unary op m e) = expr_scoped e
    expr_scoped (tree.Chain l first links) = scoped_both t (expr_notes s first) (links_notes s links) (expr_scoped first) (links_scoped links)
    expr_scoped (tree.Choice c a b) =
        scoped_both t (expr_notes s c ++ expr_notes s a) (expr_notes s b) (scoped_both t (expr_notes s c) (expr_notes s a) (expr_scoped c) (expr_scoped a)) (expr_scoped b)

    pub place_scoped : (p : tree.TargetTree) (r : Role) → IsPlaced t (usage.Place r shape.Bare) → IsPlaced t (usage.Place r shape.Indexed) →
        AllScoped t (place_notes s r p)
    place_scoped (tree.Variable n) r bare indexed = ((is, bare), tt)
    place_scoped (tree.Element n m e) r bare indexed = ((is, indexed), expr_scoped e)

    pub args_scoped : (es : tree.Args) → AllScoped t (args_notes s es)
    args_scoped tree.no_args = tt
    args_scoped (tree.arg e es) = scoped_both t (expr_notes s e) (args_notes s es) (expr_scoped e) (args_scoped es)

    links_scoped : (ls : tree.Links) → AllScoped t (links_notes s ls)
    links_scoped tree.no_links = tt
    links_scoped (tree.link op m e rest) = scoped_both t (expr_notes s e) (links_notes s rest) (expr_scoped e) (links_scoped rest)

  pub value_scoped : (o : Option tree.ExprTree) → AllScoped t (value_notes s o)
  value_scoped None = tt
  value_scoped (Some e) = expr_scoped e

  index_scoped : (o : Option tree.IndexTree) → AllScoped t (index_notes s o)
  index_scoped None = tt
  index_scoped (Some i) = expr_scoped i.value

  pub change_scoped : (c : tree.ChangeTree) → AllScoped t (change_notes s c)
  change_scoped (tree.Set p a m e) = scoped_both t (place_notes s role.Changed p) (expr_notes s e) (place_scoped p role.Changed tt tt) (expr_scoped e)
  change_scoped (tree.After p k m) = place_scoped p role.Changed tt tt
  change_scoped (tree.Before p k m) = place_scoped p role.Changed tt tt

  pub step_scoped : (o : Option tree.ChangeTree) → AllScoped t (step_notes s o)
  step_scoped None = tt
  step_scoped (Some c) = change_scoped c

  size_scoped : (e : tree.ExprTree) → AllScoped t (size_notes s e)
  size_scoped (tree.Number n) = tt
  size_scoped (tree.Wide n) = tt
  size_scoped (tree.Place (tree.Variable n)) = (tt, tt)
  size_scoped (tree.Place (tree.Element n m e)) = tt
  size_scoped (tree.ExprTree.Call f args) = tt
  size_scoped (tree.Paren e) = tt
  size_scoped (tree.Unary op m e) = tt
  size_scoped (tree.Chain l first links) = tt
  size_scoped (tree.Choice c a b) = tt

  pub sized_scoped : (stream : Bool) (o : Option tree.IndexTree) → AllScoped t (sized_notes s stream o)
  sized_scoped stream None = tt
  sized_scoped stream (Some i) = by_case (is_window s.owner && not stream)
    where
      by_case : (b : Bool) → AllScoped t (if b then expr_notes s i.value else size_notes s i.value)
      by_case true = expr_scoped i.value
      by_case false = size_scoped i.value

  -- clauses of tasks, in `main` alone
  module _ (main : t.owner ≡ owner.OfMain) where
    window_scoped : (before : List ℕ) (stream : tree.TargetTree) (w : Option tree.JoinTree) → AllScoped t (window_notes s before stream w)
    window_scoped before stream None = (tt, tt)
    window_scoped before stream (Some j) = (tt, ((is, main), index_scoped j.burst))

    pub parts_scoped : (ps : List ClauseMember) (before : List ℕ) → AllScoped t (members_notes s before ps)
    parts_scoped [] before = tt
    parts_scoped (Private n ∷ ps) before = (tt, ((is, tt), parts_scoped ps ((member_name (Private n)).id ∷ before)))
    parts_scoped (Item d i ∷ ps) before =
        let stream = place_notes s (role.Flow d) i.stream in
        let window = window_notes s before i.stream i.window in
        scoped_both t (stream ++ window) (members_notes s ((member_name (Item d i)).id ∷ before) ps)
        (scoped_both t stream window (place_scoped i.stream (role.Flow d) main main) (window_scoped before i.stream i.window))
        (parts_scoped ps ((member_name (Item d i)).id ∷ before))
