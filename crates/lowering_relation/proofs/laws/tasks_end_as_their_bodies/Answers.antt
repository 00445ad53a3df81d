use Rattle.lowering_relation.proofs.TaskLaws.{ends_so, ends_only_so}
use Rattle.lowering_relation.proofs.laws.tasks_end_as_their_bodies.Goals as goal

pub returns : goal.returns
returns c = record {
  so = λ p code a inputs budget stands fits enough. ends_so p code a inputs budget stands fits enough;
  only_so = λ p code a inputs budget outcome steps stands fits enough h. ends_only_so p code a inputs budget stands fits enough outcome steps h;
}
