use Rattle.std.proofs.Common.{sym, subst, arith}
use Rattle.os_lexer.specs.Cover.{text_start, Leads, here}
use Rattle.os_lexer.proofs.Cuts.{leads_on, step_within}
use Rattle.os_lexer.proofs.cover.tokens_of.Goals as goal

pub loop-lexer-init : goal.loop-lexer-init
loop-lexer-init c = record {
  state = c.new-lexer.ensures.state c.args.text.now c.requires;
  reached = subst (λ p. Leads c.args.text.now text_start p) (sym c.new-lexer.ensures.start) here;
}

pub loop-lexer-smaller : goal.loop-lexer-smaller
loop-lexer-smaller c = let w = step_within c.args.text.now c.in_ok-advance.ensures.step in omega (arith, w)

pub loop-lexer-preserved : goal.loop-lexer-preserved
loop-lexer-preserved c = record {
  state = c.in_ok-advance.ensures.state;
  reached = leads_on c.args.text.now c.loop-lexer.invariant.reached c.in_ok-advance.ensures.step;
}
