-- An expression has the type that the list of names tells.
use Rattle.std.proofs.Common.{◌≡◌, Bool, ◌||◌, List, [], ◌++◌, ℤ, refl, ap, ◌∙◌}
use Rattle.cddf_meaning.specs.File.{flags, type_in}
use Rattle.cddf_meaning.specs.Run.{target_type}
use Rattle.cddf_meaning.specs.BodyState.{BodyState}
use Rattle.cddf_meaning.specs.ExpressionTypes.{type_of_one, type_of_two, type_behind}
use Rattle.os_ast.specs.Names.{Scope}
use Rattle.os_ast.specs.Notes.Expressions.{count_args, args_notes, expr_notes, place_notes, links_notes}
use Rattle.os_ast.specs.Trees as tree
use Rattle.os_ast.specs.declared.names.Entry.{Entry}
use Rattle.os_ast.specs.declared.names.Role.TheVariants as role
use Rattle.os_ast.specs.declared.names.Shape.TheVariants as shape
use Rattle.os_ast.specs.declared.names.Use.TheVariants as usage
use Rattle.lowering_relation.specs.Alignment.{Aligned}
use Rattle.lowering_relation.specs.Changes.{target_by}
use Rattle.lowering_relation.specs.Expressions.{type_by}
use Rattle.lowering_relation.specs.Names.{flags_by}
use Rattle.lowering_relation.proofs.Context.{resources, Context, means, tells, Agree, agree_first, agree_rest, In, used, name_flag}

module _ (c : Context) (s : Scope) (es : List Entry) (st : BodyState) (slots : List ℤ) (scope : In c s es) (aligned : Aligned (resources c.side) (means c) slots st.bound (es ++ c.bound)) where
  mutual
    pub type_told : (e : tree.ExprTree) → Agree c (expr_notes s e) → type_by (tells c) e ≡ type_in c.file st e
    type_told (tree.Number n) agree = refl
    type_told (tree.Wide n) agree = refl
    type_told (tree.Place (tree.Variable n)) agree =
        let u = usage.Place role.Value shape.Bare in
        name_flag c s es st slots n u tt scope (used c s es n u [] scope agree) aligned
    type_told (tree.Place (tree.Element n m e)) agree =
        let u = usage.Place role.Value shape.Indexed in
        name_flag c s es st slots n u tt scope (used c s es n u (expr_notes s e) scope agree) aligned
    type_told (tree.ExprTree.Call f args) agree =
        let u = usage.Called (count_args args) in
        name_flag c s es st slots f u tt scope (used c s es f u (args_notes s args) scope agree) aligned
    type_told (tree.Paren e) agree = type_told e agree
    type_told (tree.Unary op m e) agree = ap (type_of_one op) (type_told e agree)
    type_told (tree.Chain l first links) agree =
        ap (type_behind (flags_by (tells c)) links) (type_told first (agree_first c (expr_notes s first) (links_notes s links) agree))
        ∙ behind_told links (type_in c.file st first) (agree_rest c (expr_notes s first) (links_notes s links) agree)
    type_told (tree.Choice x a b) agree =
        let front = agree_first c (expr_notes s x ++ expr_notes s a) (expr_notes s b) agree in
        ap (λ t. t || type_by (tells c) b) (type_told a (agree_rest c (expr_notes s x) (expr_notes s a) front))
        ∙ ap (λ t. type_in c.file st a || t) (type_told b (agree_rest c (expr_notes s x ++ expr_notes s a) (expr_notes s b) agree))

    behind_told : (ls : tree.Links) (u : Bool) → Agree c (links_notes s ls) → type_behind (flags_by (tells c)) ls u ≡ type_behind (flags c.file st) ls u
    behind_told tree.no_links u agree = refl
    behind_told (tree.link op m e rest) u agree =
        ap (λ v. type_behind (flags_by (tells c)) rest (type_of_two op u v)) (type_told e (agree_first c (expr_notes s e) (links_notes s rest) agree))
        ∙ behind_told rest (type_of_two op u (type_in c.file st e)) (agree_rest c (expr_notes s e) (links_notes s rest) agree)

  -- and so has a target
  pub target_told : (t : tree.TargetTree) → Agree c (place_notes s role.Changed t) → target_by (tells c) t ≡ target_type c.file st t
  target_told (tree.Variable n) agree =
      let u = usage.Place role.Changed shape.Bare in
      name_flag c s es st slots n u tt scope (used c s es n u [] scope agree) aligned
  target_told (tree.Element n m e) agree =
      let u = usage.Place role.Changed shape.Indexed in
      name_flag c s es st slots n u tt scope (used c s es n u (expr_notes s e) scope agree) aligned
