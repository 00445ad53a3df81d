-- What is marked beforehand of the names and places of a program, for what there is to warn of.
use Rattle.std.specs.Prelude.{ℕ, List, Option}
use Rattle.os_ast.specs.Trees.{ProgramTree}
use Rattle.os_ast.specs.declared.names.What.{What}
use Rattle.os_lexer.specs.Names.{input_id, output_id}
use Rattle.os_lexer.specs.declared.token.Token.{Token}
use Rattle.oscheck.specs.declared.warning.Uses.{Uses}
use Rattle.oscheck_warnings.specs.Accesses.{accesses}
use Rattle.oscheck_warnings.specs.Bursts.{AreWrongBursts}
use Rattle.oscheck_warnings.specs.DeadStores.{AreDeadStores}
use Rattle.oscheck_warnings.specs.Extents.{extents}
use Rattle.oscheck_warnings.specs.OpenEnds.{AreOpenEnds}
use Rattle.oscheck_warnings.specs.Streams.{AreInClauses}
use Rattle.oscheck_warnings.specs.Warnings.{AreRepeated}
use Rattle.oscheck_warnings.specs.WindowSizes.{AreWrongSizes}

-- by the tokens
pub record MarkTokens (tokens : List Token) (uses : Uses) : Type 0 where
  pub repeated : AreRepeated tokens uses.repeated.items
  pub read : AreInClauses tokens input_id uses.read.items
  pub written : AreInClauses tokens output_id uses.written.items

-- by the tree and what its names mean
pub record MarkPlaces (p : ProgramTree) (means : ℕ → Option What) (uses : Uses) : Type 0 where
  pub dead : AreDeadStores (accesses p) means uses.dead
  pub wrong : AreWrongBursts (extents means p) means uses.wrong
  pub sizes : AreWrongSizes (extents means p) means uses.sizes
  pub open_ended : AreOpenEnds p uses.open_ended
