use Rattle.std.proofs.Common.{codes, sym, ap}
use Rattle.std.specs.Option.{option_map_or}
use Rattle.osview_sentences.specs.Sentences.{trap_words}
use Rattle.osview_sentences.proofs.Codes.{trap_of_no_code}
use Rattle.osview_sentences.proofs.wording.trap_text.Goals as goal

pub returns-in-None : goal.returns-in-None
returns-in-None c = sym (ap (λ trap. option_map_or trap_words trap (codes "a code that no trap has")) (trap_of_no_code c.args.code c.in-None.ensures.finds_it))
