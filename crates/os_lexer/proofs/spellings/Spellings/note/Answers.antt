use Rattle.std.proofs.Common.{◌≡◌, ◌∙◌, ℕ, Bool, true, false, cond, Option, Some, None, bytes_eq, unwrap_or, refl, sym, ap, Bor}
use Rattle.std.specs.Prelude.{is_none, not, option_copied}
use Rattle.std.proofs.lemmas.Map.Text.{btree_map_updates_str}
use Rattle.std.proofs.lemmas.Slice.Eq.{bytes_eq-Decides}
use Rattle.os_lexer.specs.Spellings.{first_of}
use Rattle.os_lexer.proofs.spellings.Spellings.note.Goals as goal

keeps_first : (b : Bool) (o : Option ℕ) (i : ℕ) → (b ≡ true → o ≡ None) → cond b (Some i) o ≡ cond b (Some (unwrap_or o i)) o
keeps_first true o i none = ap (λ k. Some (unwrap_or k i)) (sym (none refl))
keeps_first false o i none = refl

none_copied : (o : Option (Bor ℕ)) → is_none o ≡ true → option_copied o ≡ None
none_copied None e = refl
none_copied (Some x) e = cc

pub returns-in_ok-insert : goal.returns-in_ok-insert
returns-in_ok-insert c = λ name.
    let absent : first_of c.args.self.now c.args.spelling.now ≡ None = sym c.get.ensures.value ∙ none_copied c.get.result (ap not c.if-is_none.ensures) in
    btree_map_updates_str c.args.spelling.now c.args.self.now.first c.insert.new.self (Some c.args.index) c.in_ok-insert.ensures.updates name ∙ keeps_first (bytes_eq c.args.spelling.now name) (first_of c.args.self.now name) c.args.index (λ e. ap (first_of c.args.self.now) (sym ((bytes_eq-Decides c.args.spelling.now name).0 e)) ∙ absent)
