use Rattle.std.proofs.Common.{◌∙◌}
use Rattle.std.proofs.lemmas.Bool.Decides.{same_from_decides}
use Rattle.os_parser_grammar.specs.Kinds.{same}
use Rattle.os_parser_grammar.proofs.SameKinds.{same-decides, begins-kind_at}
use Rattle.os_parser_expressions.proofs.cursor.Cursor.is_at.Goals as goal

pub returns-in-Some : goal.returns-in-Some
returns-in-Some c =
    same_from_decides _ (same c.in-Some.next c.args.kind) c.is_same.ensures (same-decides c.in-Some.next c.args.kind)
    ∙ begins-kind_at c.args.kind c.in-Some.next c.args.self.now (cc)
