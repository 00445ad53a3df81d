use Rattle.std.proofs.Common.{◌≡◌, ℕ, List, [], drop, sym, subst, ◌∙◌, arith}
use Rattle.std.specs.Prelude.{IfNone, Option}
use Rattle.std.specs.List.{flat_map}
use Rattle.os_io.specs.Lines.{field}
use Rattle.trace_replay_text.specs.Trace.{AreNumbers}
use Rattle.std.proofs.lemmas.List.{nil_from_length}
use Rattle.trace_replay_text.proofs.WorkerLines.{no_feed, no_worker, no_numbers}
use Rattle.trace_replay_text.proofs.lines.read_line.Goals as goal

pub returns-in_default-clause-err : goal.returns-in_default-clause-err
returns-in_default-clause-err c =
    let ends : drop c.place_of-end.result c.args.text.now ≡ [] = nil_from_length (drop c.place_of-end.result c.args.text.now) (grind (arith, c.split_at.ensures.back, c.in_default.len_below)) in
    (omega arith, no_feed c.args.text.now c.place_of-end.result c.place_of-end.ensures ends c.args.worker c.ranges.worker.fits)

pub returns-in_default-behind_worker-clause-err : goal.returns-in_default-behind_worker-clause-err
returns-in_default-behind_worker-clause-err c = (
  omega arith,
  no_worker c.args.text.now c.place_of-end.result c.place_of-end.ensures c.args.worker c.ranges.worker.fits
      (λ frames fit is. c.in_default-behind_worker.ensures.none frames fit (c.split_at.ensures.front ∙ is)),
)

pub returns-in_default-2-clause-err : goal.returns-in_default-2-clause-err
returns-in_default-2-clause-err c = (
  omega arith,
  no_numbers c.args.text.now c.place_of-end.result c.place_of-end.ensures c.args.worker c.in-Some.numbers.now c.ranges.worker.fits
      (sym c.split_at.ensures.front ∙ c.in-Some.ensures.some) c.in-Some.ensures.begins
      (subst (λ (read : Option (List ℕ)). IfNone read ((frames : List ℕ) → AreNumbers frames → c.in-Some.numbers.now ≡ flat_map field frames → ⊥))
      c.in_default-2.is c.in_ok-frames.ensures.none),
)
