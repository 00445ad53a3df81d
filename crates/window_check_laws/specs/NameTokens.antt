-- The tokens of names in a spelling. The words of pragmas and of the attribute are spelled without a mark, and are none.
use Rattle.std.specs.Prelude.{ℕ, List, [], ◌∷◌, ◌++◌}
use Rattle.os_ast.specs.Spelling as spelling
use Rattle.os_ast.specs.Spelling.{Symbol, bare, marked}
use Rattle.os_ast.specs.Trees as tree
use Rattle.os_ast.specs.declared.expr.Mark.{Mark}
use Rattle.os_lexer.specs.declared.token.Kind.{Kind}
use Rattle.os_lexer.specs.declared.token.Kind.TheVariants as kind

-- the place of a token, where it is a name
abbrev pub name_place : Kind → Mark → List ℕ
name_place (kind.Name id) m = m.place ∷ []
name_place _ m = []

abbrev pub name_places : List Symbol → List ℕ
name_places [] = []
name_places (bare k ∷ ps) = name_places ps
name_places (marked k m ∷ ps) = name_place k m ++ name_places ps

-- the name tokens of an item but the one that it declares
abbrev pub item_places : tree.ItemTree → List ℕ
item_places (tree.Constant c) = []
item_places (tree.Function f) = name_places (spelling.params f.params (spelling.stmts f.body []))

-- the name tokens of a program but those of constants and functions where they are declared
abbrev pub program_places : List tree.ItemTree → List ℕ
program_places [] = []
program_places (i ∷ is) = item_places i ++ program_places is
