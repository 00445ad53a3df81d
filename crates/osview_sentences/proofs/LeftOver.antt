-- What is left in a tally after a sentence was added, and after those that are like one were taken away.
use Rattle.std.proofs.Common.{◌≡◌, ◌∙◌, ℕ, ◌+◌, Bool, true, false, cond, Option, None, Some, unwrap_or, refl, sym, ap}
use Rattle.std.specs.BTreeMap.{get, Updates}
use Rattle.osview_sentences.specs.Sentences.{is_alike}
use Rattle.osview_sentences.specs.Tally.{left, likeness}
use Rattle.osview_sentences.specs.contracts.likeness.LikenessOrd.TheImpl as likeness_order
use Rattle.osview_sentences.specs.declared.fact.Sentence.{Sentence}
use Rattle.osview_sentences.specs.declared.likeness.Likeness.{Likeness}
use Rattle.osview_sentences.specs.declared.tally.Tally.{Tally}
use Rattle.osview_sentences.proofs.Alike.{alike_by_order, same_likeness}

either_left : (b : Bool) (w o : Option ℕ) → unwrap_or (cond b w o) 0 ≡ cond b (unwrap_or w 0) (unwrap_or o 0)
either_left true w o = refl
either_left false w o = refl

module _ (old new : Tally) (x : Sentence) where
  -- what is left that is like a sentence, where the entry of one changed
  changed : (w : Option ℕ) → Updates (likeness_order.ghosts).cmp old.counts new.counts (likeness x) w → (s : Sentence)
      → left new s ≡ cond (is_alike s x) (unwrap_or w 0) (left old s)
  changed w u s =
      let there = get (likeness_order.ghosts).cmp old.counts (likeness s) in
      ap (λ (o : Option ℕ). unwrap_or o 0) (u.0 (likeness s))
      ∙ ap (λ (b : Bool). unwrap_or (cond b w there) 0) (alike_by_order s x)
      ∙ either_left (is_alike s x) w there

  same_left : (more : ℕ) → more ≡ left old x + 1 → (s : Sentence) (b : Bool) → is_alike s x ≡ b → cond b more (left old s) ≡ cond b (left old s + 1) (left old s)
  same_left more is s true e = is ∙ ap (λ (k : Likeness). unwrap_or (get (likeness_order.ghosts).cmp old.counts k) 0 + 1) (sym (same_likeness s x e))
  same_left more is s false e = refl

  -- one more
  pub one_more_left : (more : ℕ) → Updates (likeness_order.ghosts).cmp old.counts new.counts (likeness x) (Some more) → more ≡ left old x + 1 → (s : Sentence)
      → left new s ≡ cond (is_alike s x) (left old s + 1) (left old s)
  one_more_left more u is s = changed (Some more) u s ∙ same_left more is s (is_alike s x) refl

  -- none
  pub none_left : Updates (likeness_order.ghosts).cmp old.counts new.counts (likeness x) None → (s : Sentence) → left new s ≡ cond (is_alike s x) 0 (left old s)
  none_left u s = changed None u s
