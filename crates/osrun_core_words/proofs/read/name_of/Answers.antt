use Rattle.std.proofs.Common.{◌≡◌, ◌∙◌, ap, refl, [], Option, Some, None, option_map}
use Rattle.std.specs.Prelude.{unwrap_or}
use Rattle.std.specs.Borrow.{Bor}
use Rattle.clap.specs.Words.{Text, found_of, rows_of}
use Rattle.clap.proofs.WalkLemmas.{first_value-rows}
use Rattle.osrun_core_words.specs.Arguments.{name_in}
use Rattle.osrun_core_words.proofs.read.name_of.Goals as goal

now_of : (o : Option (Bor Text)) (d : Bor Text) → d.now ≡ [] → (unwrap_or o d).now ≡ unwrap_or (option_map (λ s. s.now) o) []
now_of None d e = e
now_of (Some s) d e = refl

pub returns : goal.returns
returns c =
    let same : c.unwrap_or.result.now ≡ unwrap_or (option_map (λ (s : Bor Text). s.now) c.get_str.result) [] =
    ap (λ (s : Bor Text). s.now) c.unwrap_or.ensures ∙ now_of c.get_str.result _ refl in
    same ∙ (ap (λ (o : Option Text). unwrap_or o []) (c.get_str.ensures ∙ first_value-rows (found_of c.args.matches.now) c.id.result.now)
    ∙ ap (name_in (rows_of (found_of c.args.matches.now))) c.id.ensures)
