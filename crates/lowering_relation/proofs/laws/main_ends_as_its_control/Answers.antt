use Rattle.lowering_relation.proofs.MainLaws.{main_ends_so, main_ends_only_so}
use Rattle.lowering_relation.proofs.laws.main_ends_as_its_control.Goals as goal

pub returns : goal.returns
returns c = record {
  so = λ p code input_len budget stands. main_ends_so p code input_len budget stands;
  only_so = λ p code input_len budget made steps stands h. main_ends_only_so p code input_len budget stands made steps h;
}
