use Rattle.std.proofs.Common.{◌≡◌, length, take, subst, sym, arith}
use Rattle.std.proofs.Math.Seq.{drop-length}
use Rattle.trace_replay_text.specs.Fields.{Begins, IsFree}
use Rattle.trace_replay_text.proofs.fields.place_of.Goals as goal

pub returns : goal.returns
returns c =
    let all : c.loop-place.place ≡ length c.args.text.now = grind (arith, c.loop-place-test.false, c.loop-place.auto.place-end) in
    record {
      inside = omega arith;
      free = subst (λ n. IsFree c.args.byte (take n c.args.text.now)) all c.loop-place.invariant;
      begins = subst (Begins c.args.byte) (sym (drop-length c.args.text.now)) tt;
    }
