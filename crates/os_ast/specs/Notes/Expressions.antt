-- Names in expressions and changes.
use Rattle.std.specs.Prelude.{ℕ, suc, List, [], ◌∷◌, ◌++◌, Option}
use Rattle.std.specs.Option.{option_map_or}
use Rattle.os_ast.specs.Names.{Scope}
use Rattle.os_ast.specs.Notes.Kinds.{Note, Used}
use Rattle.os_ast.specs.Trees as tree
use Rattle.os_ast.specs.declared.names.Role.{Role}
use Rattle.os_ast.specs.declared.names.Role.TheVariants as role
use Rattle.os_ast.specs.declared.names.Shape.TheVariants as shape
use Rattle.os_ast.specs.declared.names.Use.TheVariants as usage

-- how many arguments a call has
abbrev pub count_args : tree.Args → ℕ
count_args tree.no_args = 0
count_args (tree.arg e es) = suc (count_args es)

-- Expressions change nothing of what is in scope.
abbrev mutual
  pub expr_notes : Scope → tree.ExprTree → List Note
  expr_notes s (tree.Place t) = place_notes s role.Value t
  expr_notes s (tree.ExprTree.Call f args) = Used s f (usage.Called (count_args args)) ∷ args_notes s args
  expr_notes s (tree.Paren e) = expr_notes s e
  expr_notes s (tree.Unary op m e) = expr_notes s e
  expr_notes s (tree.Chain l first links) = expr_notes s first ++ links_notes s links
  expr_notes s (tree.Choice c a b) = expr_notes s c ++ expr_notes s a ++ expr_notes s b
  expr_notes s _ = []

  -- a name, with an index or without, by where it stands
  pub place_notes : Scope → Role → tree.TargetTree → List Note
  place_notes s r (tree.Variable n) = Used s n (usage.Place r shape.Bare) ∷ []
  place_notes s r (tree.Element n m e) = Used s n (usage.Place r shape.Indexed) ∷ expr_notes s e

  pub args_notes : Scope → tree.Args → List Note
  args_notes s tree.no_args = []
  args_notes s (tree.arg e es) = expr_notes s e ++ args_notes s es

  pub links_notes : Scope → tree.Links → List Note
  links_notes s tree.no_links = []
  links_notes s (tree.link op m e rest) = expr_notes s e ++ links_notes s rest

abbrev pub value_notes : Scope → Option tree.ExprTree → List Note
value_notes s e = option_map_or (expr_notes s) e []

abbrev pub index_notes : Scope → Option tree.IndexTree → List Note
index_notes s i = option_map_or (λ (i : tree.IndexTree). expr_notes s i.value) i []

abbrev pub change_notes : Scope → tree.ChangeTree → List Note
change_notes s (tree.Set t a m e) = place_notes s role.Changed t ++ expr_notes s e
change_notes s (tree.After t step m) = place_notes s role.Changed t
change_notes s (tree.Before t step m) = place_notes s role.Changed t

abbrev pub step_notes : Scope → Option tree.ChangeTree → List Note
step_notes s c = option_map_or (change_notes s) c []
