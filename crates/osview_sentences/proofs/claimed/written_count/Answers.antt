use Rattle.std.proofs.Common.{◌∙◌, ◌<◌, ◌≤◌, ap, arith, get_or, length, sym}
use Rattle.std.proofs.lemmas.Bool.{ltb-true}
use Rattle.std.proofs.lemmas.Bool.Decides.{nat_tests}
use Rattle.std.proofs.lemmas.List.{get_or_default}
use Rattle.osview_sentences.proofs.Producing.{claimed_of, length-writes, none_claimed}
use Rattle.osview_sentences.proofs.claimed.written_count.Goals as goal

pub returns-in-Some : goal.returns-in-Some
returns-in-Some c =
    let layout = c.args.layout.now in
    let is = c.requires.layout in
    let stream = c.args.stream in
    let slice = c.as_slice.result.now in
    let inside : stream < length slice = ltb-true stream (length slice) (sym c.in-Some.ensures.lookup.0) in
    let long = ap length c.as_slice.ensures ∙ length-writes layout is.activations is.is_of in
    let exists : stream < length layout.writers = omega (arith, inside, long) in
    record {
      exists = λ _. exists;
      count = λ activations of. c.in-Some.ensures.lookup.1 ∙ get_or_default slice stream _ 0 inside ∙ ap (λ xs. get_or xs stream 0) c.as_slice.ensures ∙ claimed_of layout activations of stream exists;
    }

pub returns-in-None : goal.returns-in-None
returns-in-None c =
    let layout = c.args.layout.now in
    let is = c.requires.layout in
    let stream = c.args.stream in
    let slice = c.as_slice.result.now in
    let past : length slice ≤ stream = let no = c.in-None.ensures.lookup.0 in grind (arith, nat_tests, no) in
    let long = ap length c.as_slice.ensures ∙ length-writes layout is.activations is.is_of in
    record {
      exists = λ none. absurd (omega arith);
      count = λ activations of. sym (none_claimed layout is activations of stream (omega (arith, past, long)));
    }
