use Rattle.std.proofs.Common.{arith}
use Rattle.runtime_tests.proofs.epochs.epoch_over.Goals as goal

pub build_epoch-requires-clause-kept : goal.build_epoch-requires-clause-kept
build_epoch-requires-clause-kept c =
    let l = c.requires in
    record {
      activations = l.activations;
      is_of = l.is_of;
      outside = record { are_declared = λ k d lt. absurd (omega arith); places_differ = λ i j k m at. absurd (cc); written_outside = λ k d lt. absurd (omega arith) };
    }
