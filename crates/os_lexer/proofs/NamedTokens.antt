-- What is spelled as a name is a name, and so the first name with a spelling is the first token with it.
use Rattle.std.proofs.Common.{◌≡◌, ℕ, suc, ◌+◌, Bool, true, false, cond, List, [], ◌∷◌, length, take, drop, Option, Some, None, position, unwrap_or, bytes_eq, refl, sym, ap, ap₂, ◌∙◌, subst, arith, All}
use Rattle.std.proofs.lemmas.List.{take_all}
use Rattle.std.proofs.lemmas.Slice.Eq.{bytes_eq-Decides}
use Rattle.std.specs.List.{position_or_len}
use Rattle.std.specs.Prelude.{not, ◌&&◌, slice_range}
use Rattle.os_lexer.specs.Effects.{effect, word_kind, mode_after_token}
use Rattle.os_lexer.specs.Forms.{IsWord, IsForm}
use Rattle.os_lexer.specs.Keywords.{key_of}
use Rattle.os_lexer.specs.Names.{fixed_names, spelling, first_index, name_number}
use Rattle.os_lexer.specs.Reading.{lexeme, lexeme_at}
use Rattle.os_lexer.specs.States.{is_name, is_named, KnowsSpellings, IsNameWhereSpelledSo, number_by_map}
use Rattle.os_lexer.specs.declared.effect.Effect.TheVariants.{Give}
use Rattle.os_lexer.specs.declared.form.Form.{Form}
use Rattle.os_lexer.specs.declared.form.Form.TheVariants as form
use Rattle.os_lexer.specs.declared.mode.Mode.{Mode}
use Rattle.os_lexer.specs.declared.spellings.Spellings.{Spellings}
use Rattle.os_lexer.specs.declared.token.Key.{Key}
use Rattle.os_lexer.specs.declared.token.Kind.{Kind}
use Rattle.os_lexer.specs.declared.token.Kind.TheVariants as kind
use Rattle.os_lexer.specs.declared.token.Token.{Token}
use Rattle.os_lexer.proofs.Cuts.{lexeme_at-is}
use Rattle.os_lexer.proofs.Positions.{unwrap_or-position}

-- a slice has one form
whole : (f : Form) (s : List ℕ) → IsForm f s → lexeme_at s ≡ Some (lexeme f (length s))
whole f s is_form =
    let all : take (length s) s ≡ s = take_all (length s) s (omega arith) in
    lexeme_at-is s f (length s) (record { within = omega arith; of_form = subst (IsForm f) (sym all) is_form; longest = λ other m within other_is. within })

pub one_form : (f g : Form) (s : List ℕ) → IsForm f s → IsForm g s → f ≡ g
one_form f g s is_f is_g = ap (λ o. (unwrap_or o (lexeme f 0)).form) (sym (whole f s is_f) ∙ whole g s is_g)

-- a word that is no keyword is given as a name
name_given : (key : Option Key) (number : ℕ) (k : Kind) (m m' : Mode) → key ≡ None → Give (word_kind key number) m ≡ Give k m' → is_name k ≡ true
name_given None number k m m' e given = let same : kind.Name number ≡ k = cc given in ap is_name (sym same)
name_given (Some key) number k m m' e given = cc

word_given : (f : Form) (s : List ℕ) (mode m : Mode) (k : Kind) (number : ℕ) → f ≡ form.Word → effect mode number f s ≡ Give k m → key_of s ≡ None →
    is_name k ≡ true
word_given f s mode m k number e does none =
    name_given (key_of s) number k (mode_after_token mode) m none (ap (λ g. effect mode number g s) (sym e) ∙ does)

-- the token that a lexeme gives
module _ (text : List ℕ) (at n : ℕ) (f : Form) (mode m : Mode) (k : Kind) (number : ℕ) where
  pub named_by_form : slice_range text at (at + n) ≡ take n (drop at text) → IsForm f (take n (drop at text)) →
      effect mode number f (slice_range text at (at + n)) ≡ Give k m → IsWord (slice_range text at (at + n)) →
      key_of (slice_range text at (at + n)) ≡ None → is_name k ≡ true
  named_by_form same is_form does word none =
      let s = slice_range text at (at + n) in
      word_given f s mode m k number (one_form f form.Word s (subst (IsForm f) (sym same) is_form) word) does none

-- the first name with a spelling
same_test : (named equal : Bool) → (equal ≡ true → named ≡ true) → (named && equal) ≡ equal
same_test true equal h = refl
same_test false true h = h refl
same_test false false h = refl

module _ (text name : List ℕ) (word : IsWord name) (none : key_of name ≡ None) where
  tests_alike : (t : Token) → IsNameWhereSpelledSo text t → is_named text name t ≡ bytes_eq name (spelling text t)
  tests_alike t h =
      same_test (is_name t.kind) (bytes_eq name (spelling text t))
      (λ e. let same : name ≡ spelling text t = (bytes_eq-Decides name (spelling text t)).0 e in
      h (subst IsWord same word) (ap key_of (sym same) ∙ none))

  pub first_name : (ts : List Token) → All (IsNameWhereSpelledSo text) ts → position_or_len (is_named text name) ts ≡ first_index text ts name
  first_name [] all = refl
  first_name (t ∷ ts) all =
      ap₂ (λ b k. cond (not b) (1 + k) 0) (tests_alike t (all 0 t (omega arith))) (first_name ts (λ k d below. all (suc k) d (omega (arith, below))))

-- the number of a name, by the map
module _ (text : List ℕ) (tokens : List Token) (spellings : Spellings) (known : KnowsSpellings text tokens spellings) (named : All
    (IsNameWhereSpelledSo text) tokens) where
  number_by_map-is : (name : List ℕ) → IsWord name → key_of name ≡ None → number_by_map spellings (length tokens) name ≡ name_number text tokens name
  number_by_map-is name word none =
      ap (λ i. unwrap_or (position (bytes_eq name) fixed_names) (12 + i))
      (ap (λ o. unwrap_or o (length tokens)) (known name) ∙ unwrap_or-position (is_named text name) tokens ∙ first_name text name word none tokens named)

  word_alike : (key : Option Key) (name : List ℕ) → key_of name ≡ key → IsWord name →
      word_kind key (number_by_map spellings (length tokens) name) ≡ word_kind key (name_number text tokens name)
  word_alike None name e word = ap kind.Name (number_by_map-is name word e)
  word_alike (Some key) name e word = refl

  -- what a lexeme does, by the map
  pub effect_by_name : (mode : Mode) (f : Form) (s : List ℕ) → IsForm f s →
      effect mode (number_by_map spellings (length tokens) s) f s ≡ effect mode (name_number text tokens s) f s
  effect_by_name mode form.Space s is_form = refl
  effect_by_name mode form.JoinedLine s is_form = refl
  effect_by_name mode form.LineComment s is_form = refl
  effect_by_name mode form.BlockComment s is_form = refl
  effect_by_name mode form.OpenComment s is_form = refl
  effect_by_name mode form.IncludeLine s is_form = refl
  effect_by_name mode form.PragmaStart s is_form = refl
  effect_by_name mode form.OtherDirective s is_form = refl
  effect_by_name mode form.Word s is_form = ap (λ k. Give k (mode_after_token mode)) (word_alike (key_of s) s refl is_form)
  effect_by_name mode form.Number s is_form = refl
  effect_by_name mode (form.Mark k) s is_form = refl
