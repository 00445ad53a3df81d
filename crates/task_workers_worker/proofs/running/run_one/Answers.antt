use Rattle.std.proofs.Common.{arith, ap, sym, subst, ◌≡◌, length, ℕ}
use Rattle.flow_core_laws.specs.declared.plan.Plan.{Plan}
use Rattle.frame_table.specs.Seats.{frame_of, HasRead}
use Rattle.frame_table.specs.Tokens.{known_of}
use Rattle.task_workers_worker.proofs.Going.{meant_outcome}
use Rattle.task_workers_worker.proofs.running.run_one.Goals as goal

pub settle-requires-clause-meant : goal.settle-requires-clause-meant
settle-requires-clause-meant g c =
    let t = c.args.table.now in
    let n : length (known_of t).plan.frames ≡ length t.plan.now.frames = ap (λ (p : Plan). length p.frames) t.plan_is in
    let read : HasRead (known_of t) c.args.frame c.read_windows-root.result c.read_windows-root.new.into = subst (λ (f : ℕ). HasRead (known_of t) f c.read_windows-root.result c.read_windows-root.new.into) (ap frame_of c.requires.runs) c.read_windows-root.ensures.elements in
    let m = meant_outcome (known_of t) (g.B.Bodies.outcome c.args.bodies.now) c.args.frame read.elements c.requires.meant (omega (arith, n, c.requires.exists)) read.are_there in
    (_, m, sym (c.end_of-end.ensures.end read.elements read.root_is read.values_are), λ done. sym (c.end_of-end.ensures.outputs read.elements read.root_is read.values_are done))
