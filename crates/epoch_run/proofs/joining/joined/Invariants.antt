use Rattle.std.proofs.Common.{All, ◌≡◌, ◌+◌, ◌++◌, ◌^◌, ◌<◌, take}
use Rattle.std.specs.List.{flat_map}
use Rattle.stream_match.specs.Stretch.{stretch_places}
use Rattle.stream_match.specs.declared.stretch.Stretch.{Stretch}
use Rattle.epoch_run.proofs.joining.joined.Given as goal

abbrev pub invariant-loop-stretch : goal.invariant-loop-stretch
invariant-loop-stretch l = record {
  places : flat_map stretch_places l.joined ++ stretch_places l.last ≡ flat_map stretch_places (take l.stretch-index l.stretches);
  all_small : All (λ (s : Stretch). s.first + s.count < 2 ^ 64) l.joined;
  small : l.last.first + l.last.count < 2 ^ 64;
}
