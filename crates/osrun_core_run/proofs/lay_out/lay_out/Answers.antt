use Rattle.std.proofs.Common.{◌≡◌, ◌∙◌, length, [], subst, sym, arith}
use Rattle.stream_match_layouts.specs.Lawful.{AreLawful}
use Rattle.stream_match_layouts.specs.Layout.{IsLayoutOf}
use Rattle.osrun_core_run.proofs.lay_out.lay_out.Goals as goal

pub returns-clause-whole : goal.returns-clause-whole
returns-clause-whole c =
    let activations = c.args.control.now.activations in
    let streams : length c.append.new.self.writers ≡ c.args.code.now.streams = c.in_ok-append.ensures.streams ∙ c.in_ok-layout.ensures.streams in
    record {
      has_output = omega (arith, streams, c.args.code.now.valid.sites.streams_enough);
      activations = activations;
      is_of = subst (λ xs. IsLayoutOf c.append.new.self xs) c.as_slice.ensures (c.in_ok-append.ensures.added [] c.in_ok-layout.ensures.empty);
      lawful = subst (λ n. AreLawful n activations) (sym streams) c.requires.lawful;
    }
