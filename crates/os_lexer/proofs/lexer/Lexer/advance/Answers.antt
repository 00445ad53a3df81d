use Rattle.std.proofs.Common.{drop, sym, ap, ◌∙◌, subst, arith, length-drop}
use Rattle.std.proofs.lemmas.List.{take_rest}
use Rattle.os_lexer.specs.Cover.{formless}
use Rattle.os_lexer.specs.Reading.{lexeme_at}
use Rattle.os_lexer.specs.States.{point_of, IsFaultHere}
use Rattle.os_lexer.specs.declared.fault.Fault.TheVariants as fault
use Rattle.os_lexer.proofs.Advance.{fault_here}
use Rattle.os_lexer.proofs.Cuts.{IsLexeme-found, formless_from}
use Rattle.os_lexer.proofs.lexer.Lexer.advance.Goals as goal

pub take-requires-clause-lexeme : goal.take-requires-clause-lexeme
take-requires-clause-lexeme c =
    let rest = take_rest c.args.text.now c.args.self.now.at in
    IsLexeme-found (drop c.args.self.now.at c.args.text.now) c.in-Some.lexeme (omega (arith, length-drop c.args.self.now.at c.args.text.now, c.requires.inside)) (ap lexeme_at (sym rest) ∙ sym c.lexeme_at.ensures ∙ c.in-Some.is)

pub returns-in-None-clause-fault : goal.returns-in-None-clause-fault
returns-in-None-clause-fault c =
    let rest = take_rest c.args.text.now c.args.self.now.at in
    let nothing = ap lexeme_at (sym rest) ∙ sym c.lexeme_at.ensures ∙ c.in-None.is in
    subst (IsFaultHere c.args.text.now (point_of c.args.self.now)) (sym c.on_line.ensures)
    (fault_here c.args.text.now (point_of c.args.self.now) fault.BadByte c.args.self.now.line (formless c.requires.inside (formless_from (drop c.args.self.now.at c.args.text.now) nothing)) c.requires.state.lined)
