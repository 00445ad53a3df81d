-- Lines that are read one after the other, and the cases that they say.
use Rattle.std.proofs.Common.{◌≡◌, ◌≢◌, ℕ, suc, ◌+◌, ◌<◌, ◌≤◌, true, false, List, [], ◌∷◌, ◌++◌, All, length, take, drop, refl, sym, ap, subst, ◌∙◌, append_assoc, append-nil, arith, drop-cons, ◌-◌, ◌⊎◌, inl, inr}
use Rattle.std.specs.Prelude.{◌==◌, slice_index}
use Rattle.std.proofs.lemmas.List.{drop-drop, length-append, length-drop, take-append-drop, take_all}
use Rattle.std.proofs.lemmas.Bool.{cases_lt}
use Rattle.std.proofs.lemmas.List.Splits.{slice_split_none, slice_split_at}
use Rattle.osvectors_cases.specs.Cases.{CaseText, IsFirstUnsaid, LineSays, Said, SayCases, lines_of, none, numbered}

-- one more line says what it says
pub say_more : (number at : ℕ) (lines : List (List ℕ)) (cases : List (ℕ × CaseText)) (line : List ℕ) (said : Said)
    → at ≡ number + length lines → SayCases number lines cases → LineSays line said → said ≢ none
    → SayCases number (lines ++ line ∷ []) (cases ++ numbered at said)
say_more number at [] cases line said at_is says line_says some =
    let here : at ≡ number = omega (arith, at_is) in (
      said,
      line_says,
      some,
      (
        [],
        refl,
        ap (λ cs. cs ++ numbered at said) says ∙ ap (λ n. numbered n said) here ∙ sym (append-nil (numbered number said)),
      ),
    )
say_more number at (first ∷ lines) cases line said at_is says line_says some =
    let rest : List (ℕ × CaseText) = says.3.0 in
    let more : SayCases (number + 1) (lines ++ line ∷ []) (rest ++ numbered at said) =
    say_more (number + 1) at lines rest line said (omega (arith, at_is)) says.3.1 line_says some in (
      says.0,
      says.1,
      says.2,
      (
        rest ++ numbered at said,
        more,
        ap (λ cs. cs ++ numbered at said) says.3.2 ∙ append_assoc (numbered number says.0) rest (numbered at said),
      ),
    )

-- the first line of what is left, where a line feed ends it
pub line_at : (rest : List ℕ) (count : ℕ) → count < length rest → All (λ byte. (byte == 10) ≡ false) (take count rest)
    → (slice_index rest count == 10) ≡ true → lines_of rest ≡ take count rest ∷ lines_of (drop (count + 1) rest)
line_at rest count within no_feed feed =
    let next : suc count ≡ count + 1 = omega arith in
    let cut : drop count rest ≡ slice_index rest count ∷ drop (count + 1) rest =
    drop-cons rest count 0 within ∙ ap (λ n. slice_index rest count ∷ drop n rest) next in
    ap lines_of (sym (take-append-drop count rest) ∙ ap (λ r. take count rest ++ r) cut)
    ∙ slice_split_at (λ byte. byte == 10) (take count rest) (slice_index rest count) (drop (count + 1) rest) no_feed feed

-- the last line
pub line_at_end : (rest : List ℕ) (count : ℕ) → count ≡ length rest → All (λ byte. (byte == 10) ≡ false) (take count rest)
    → lines_of rest ≡ take count rest ∷ []
line_at_end rest count whole no_feed =
    let all : take count rest ≡ rest = take_all count rest (omega (arith, whole)) in
    slice_split_none (λ byte. byte == 10) rest (subst (All (λ byte. (byte == 10) ≡ false)) all no_feed) ∙ ap (λ line. line ∷ []) (sym all)

-- the lines up to a place were read, as many as the number, and said the cases
pub record IsReadTo (text : List ℕ) (next number : ℕ) (cases : List (ℕ × CaseText)) : Type 0 where
  pub done : List (List ℕ)
  pub counted : number ≡ length done
  pub few : number ≤ next
  pub within : next ≤ length text + 1
  pub said : SayCases 1 done cases
  pub left : next ≤ length text → lines_of text ≡ done ++ lines_of (drop next text)
  pub ended : length text < next → lines_of text ≡ done

-- what is known of the next line
pub record IsNextLine (text rest front : List ℕ) (next count : ℕ) : Type 0 where
  pub starts : next ≤ length text
  pub rest_is : rest ≡ drop next text
  pub within : count ≤ length rest
  pub front_is : front ≡ take count rest
  pub none : All (λ byte. (byte == 10) ≡ false) (take count rest)
  pub feed : count < length rest → (slice_index rest count == 10) ≡ true

-- what is left has one line more at least
pub next_line : (text rest front : List ℕ) (next count : ℕ) → IsNextLine text rest front next count
    → (later : List (List ℕ)) × (lines_of (drop next text) ≡ front ∷ later)
    × (count < length rest → later ≡ lines_of (drop (next + (count + 1)) text)) × (count ≡ length rest → later ≡ [])
next_line text rest front next count at = by_cases (cases_lt count (length rest)) where
  by_cases : (count < length rest) ⊎ (length rest ≤ count) → (later : List (List ℕ)) × (lines_of (drop next text) ≡ front ∷ later)
      × (count < length rest → later ≡ lines_of (drop (next + (count + 1)) text)) × (count ≡ length rest → later ≡ [])
  by_cases (inl less) = (
    lines_of (drop (count + 1) rest),
    ap lines_of (sym at.rest_is) ∙ line_at rest count less at.none (at.feed less) ∙ ap (λ line. line ∷ lines_of (drop (count + 1) rest)) (sym at.front_is),
    (λ _. ap lines_of (ap (drop (count + 1)) at.rest_is ∙ drop-drop (count + 1) next text)),
    (λ whole. absurd (omega (arith, less, whole))),
  )
  by_cases (inr more) =
      let whole : count ≡ length rest = omega (arith, more, at.within) in (
        [],
        ap lines_of (sym at.rest_is) ∙ line_at_end rest count whole at.none ∙ ap (λ line. line ∷ []) (sym at.front_is),
        (λ less. absurd (omega (arith, less, whole))),
        (λ _. refl),
      )

-- one more line is read
pub read_more : (text rest front : List ℕ) (next number count : ℕ) (before cases : List (ℕ × CaseText)) (said : Said)
    → IsReadTo text next number before → IsNextLine text rest front next count → LineSays front said → said ≢ none
    → cases ≡ before ++ numbered (number + 1) said → IsReadTo text (next + (count + 1)) (number + 1) cases
read_more text rest front next number count before cases said to at line_says some cases_are =
    let line = next_line text rest front next count at in
    let size : length rest ≡ length text - next = ap length at.rest_is ∙ length-drop next text in
    let lines_are : lines_of text ≡ (to.done ++ front ∷ []) ++ line.0 =
    to.left at.starts ∙ ap (λ ls. to.done ++ ls) line.1 ∙ sym (append_assoc to.done (front ∷ []) line.0) in
    record {
      done = to.done ++ front ∷ [];
      counted = ap (λ n. n + 1) to.counted ∙ sym (length-append to.done (front ∷ []));
      few = omega (arith, to.few);
      within = omega (arith, at.within, at.starts, size);
      said = subst (SayCases 1 (to.done ++ front ∷ [])) (sym cases_are)
          (say_more 1 (number + 1) to.done before front said (omega (arith, to.counted)) to.said line_says some);
      left = λ le. lines_are ∙ ap (λ ls. (to.done ++ front ∷ []) ++ ls) (line.2 (omega (arith, le, size, at.starts)));
      ended = λ lt. lines_are ∙ ap (λ ls. (to.done ++ front ∷ []) ++ ls) (line.3 (omega (arith, lt, size, at.starts, at.within)))
          ∙ append-nil (to.done ++ front ∷ []);
    }

-- the next line can't be understood
pub stops_at : (text rest front : List ℕ) (next number count : ℕ) (before : List (ℕ × CaseText))
    → IsReadTo text next number before → IsNextLine text rest front next count → LineSays front none → IsFirstUnsaid (lines_of text) (number + 1)
stops_at text rest front next number count before to at unsaid =
    let line = next_line text rest front next count at in
    record {
      earlier = to.done;
      line = front;
      later = line.0;
      lines_are = to.left at.starts ∙ ap (λ ls. to.done ++ ls) line.1;
      number_is = ap (λ n. n + 1) to.counted;
      cases = before;
      said_before = to.said;
      unsaid = unsaid;
    }
