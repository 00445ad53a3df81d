use Rattle.std.proofs.Common.{◌≡◌, ◌∙◌, ◌+◌, ◌++◌, ℕ, cond, sym, ap, arith}
use Rattle.std.proofs.lemmas.List.{append-nil}
use Rattle.stream_match_layouts.specs.Spans.{write_count}
use Rattle.stream_match_layouts.proofs.Tallies.{write-le}
use Rattle.stream_match.specs.EpochPlan.{leaving_reach}
use Rattle.stream_match.proofs.Leaves.{left_none, left_some, not_true, not_false}
use Rattle.stream_match.proofs.reaching.Left.add_left.Goals as goal

pub returns-then-not-span : goal.returns-then-not-span
returns-then-not-span c =
    let s = c.args.span in
    let self = c.args.self.now in
    let cursors = c.args.cursors.now in
    let zero : write_count s ≡ 0 = ap (λ b. cond {A = ℕ} b s.count 0) (not_true s.write c.if-not-span.true) in
    let none : (leaving_reach cursors s).count ≡ 0 = omega (arith, zero) in
    let n = left_none cursors c.args.from c.args.to self.next s none in
    record {
      stretches = sym (ap (λ xs. self.stretches ++ xs) n.0 ∙ append-nil self.stretches);
      pieces = sym (ap (λ xs. self.pieces ++ xs) n.1 ∙ append-nil self.pieces);
      next = omega (arith, none);
    }

pub returns-then-staying-from : goal.returns-then-staying-from
returns-then-staying-from c =
    let s = c.args.span in
    let self = c.args.self.now in
    let cursors = c.args.cursors.now in
    let is = c.staying-staying.ensures in
    let none : (leaving_reach cursors s).count ≡ 0 = omega (arith, write-le s, is, c.from.ensures, c.if-staying-from.true) in
    let n = left_none cursors c.args.from c.args.to self.next s none in
    record {
      stretches = sym (ap (λ xs. self.stretches ++ xs) n.0 ∙ append-nil self.stretches);
      pieces = sym (ap (λ xs. self.pieces ++ xs) n.1 ∙ append-nil self.pieces);
      next = omega (arith, none);
    }

pub returns : goal.returns
returns c =
    let s = c.args.span in
    let self = c.args.self.now in
    let cursors = c.args.cursors.now in
    let stay = c.staying-staying.result in
    let added = c.in_ok-add.ensures in
    let l = left_some cursors c.args.from c.args.to self.next stay s (not_false s.write c.if-not-span.false) c.staying-staying.ensures (omega (arith, c.from.ensures, c.if-staying-from.false)) in
    record {
      stretches = added.stretches ∙ ap (λ xs. self.stretches ++ xs) (sym l.0);
      pieces = added.pieces ∙ ap (λ xs. self.pieces ++ xs) (sym l.1);
      next = added.next ∙ ap (λ k. self.next + k) (sym l.2);
    }
