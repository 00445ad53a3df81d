use Rattle.os_lexer.proofs.Outcomes.{few, fit, given, told}
use Rattle.os_lexer.proofs.cover.lex.Goals as goal

pub returns-clause-covered : goal.returns-clause-covered
returns-clause-covered c = given c.args.text.now c.tokens_of.result c.tokens_of.ensures.cover c.tokens_of.ensures.fault

pub returns-clause-faulted : goal.returns-clause-faulted
returns-clause-faulted c = told c.args.text.now c.tokens_of.result c.tokens_of.ensures.cover c.tokens_of.ensures.fault

pub returns-clause-few : goal.returns-clause-few
returns-clause-few c = few c.args.text.now c.tokens_of.result c.tokens_of.ensures.cover

pub returns-clause-fit : goal.returns-clause-fit
returns-clause-fit c = fit c.args.text.now c.tokens_of.result c.tokens_of.ensures.cover
