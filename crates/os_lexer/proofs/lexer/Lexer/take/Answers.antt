use Rattle.std.proofs.Common.{ℕ, List, length, sym, ap, ◌∙◌, subst, ◌+◌}
use Rattle.std.specs.Prelude.{count_by, slice_range}
use Rattle.os_lexer.specs.Bytes.{is_line_feed}
use Rattle.os_lexer.specs.Spellings.{first_of}
use Rattle.os_lexer.specs.States.{point_of, IsFaultHere}
use Rattle.os_lexer.proofs.Advance.{step_skip, state_skip, step_give, state_give, fault_take, fault_here}
use Rattle.os_lexer.proofs.lexer.Lexer.take.Goals as goal

-- the bytes of the lexeme
abbrev slice : goal.After-pass-in-Give → List ℕ
slice c = slice_range c.args.text.now c.args.self.now.at (c.args.self.now.at + c.args.lexeme.length)

pub returns-in-Skip-clause-step : goal.returns-in-Skip-clause-step
returns-in-Skip-clause-step c =
    step_skip c.args.text.now c.args.self.now c.args.lexeme.form c.args.lexeme.length c.requires.state c.requires.lexeme c.pass.new.self c.in-Skip.mode (sym c.effect.ensures ∙ c.in-Skip.is) c.pass.ensures.at (ap (λ v. v.items) c.pass.ensures.tokens) c.pass.ensures.mode

pub returns-in-Skip-clause-state : goal.returns-in-Skip-clause-state
returns-in-Skip-clause-state c =
    state_skip c.args.text.now c.args.self.now c.args.lexeme.form c.args.lexeme.length c.requires.state c.requires.lexeme c.pass.new.self c.in-Skip.mode (sym c.effect.ensures ∙ c.in-Skip.is) c.pass.ensures.at (ap (λ v. v.items) c.pass.ensures.tokens) c.pass.ensures.line c.pass.ensures.spellings

pub returns-in_ok-give-in-Give-clause-step : goal.returns-in_ok-give-in-Give-clause-step
returns-in_ok-give-in-Give-clause-step c =
    step_give c.args.text.now c.args.self.now c.args.lexeme.form c.args.lexeme.length c.requires.state c.requires.lexeme c.pass-in-Give.new.self c.in-Give.kind c.in-Give.mode (sym c.effect.ensures ∙ c.in-Give.is) (c.pass-in-Give.ensures.at ∙ ap (λ at. at + length (slice c)) c.give.ensures.at) (ap (λ v. v.items) c.pass-in-Give.ensures.tokens ∙ c.in_ok-give-in-Give.ensures.given) c.pass-in-Give.ensures.mode

pub returns-in_ok-give-in-Give-clause-state : goal.returns-in_ok-give-in-Give-clause-state
returns-in_ok-give-in-Give-clause-state c =
    state_give c.args.text.now c.args.self.now c.args.lexeme.form c.args.lexeme.length c.requires.state c.requires.lexeme c.pass-in-Give.new.self c.in-Give.kind c.in-Give.mode (sym c.effect.ensures ∙ c.in-Give.is) (c.pass-in-Give.ensures.at ∙ ap (λ at. at + length (slice c)) c.give.ensures.at) (ap (λ v. v.items) c.pass-in-Give.ensures.tokens ∙ c.in_ok-give-in-Give.ensures.given) (c.pass-in-Give.ensures.line ∙ ap (λ line. line + count_by is_line_feed (slice c)) c.give.ensures.line) (λ name. ap (λ m. first_of m name) c.pass-in-Give.ensures.spellings ∙ c.in_ok-give-in-Give.ensures.noted name)

pub returns-in-Fail-clause-fault : goal.returns-in-Fail-clause-fault
returns-in-Fail-clause-fault c =
    subst (IsFaultHere c.args.text.now (point_of c.args.self.now)) (sym c.on_line.ensures)
    (fault_here c.args.text.now (point_of c.args.self.now) c.in-Fail.fault c.args.self.now.line (fault_take c.args.text.now c.args.self.now c.args.lexeme.form c.args.lexeme.length c.requires.state c.requires.lexeme c.in-Fail.fault (sym c.effect.ensures ∙ c.in-Fail.is)) c.requires.state.lined)
