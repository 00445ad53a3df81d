use Rattle.stream_match_layouts.proofs.Writers.{has_writers}
use Rattle.epoch_run_ready.proofs.waiting.waits_past.Goals as goal

pub waits_for_writer-requires-clause-writers : goal.waits_for_writer-requires-clause-writers
waits_for_writer-requires-clause-writers c =
    let is = c.requires.layout in
    has_writers c.args.layout.now is.activations is.is_of c.args.span.stream c.requires.exists is.lawful
