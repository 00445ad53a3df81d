-- A text has one cover or one first fault, and what a cover is made of.
use Rattle.std.proofs.Common.{◌≡◌, ℕ, zero, suc, ◌+◌, ◌≤◌, ◌⊎◌, List, ◌++◌, length, Result, Ok, Err, refl, sym, ap, ◌∙◌, inl, inr, ⊎_elim, arith}
use Rattle.std.proofs.lemmas.Bool.{cases_lt}
use Rattle.os_lexer.specs.Cover.{Point, text_start, Leads, here, tokens_at_end, IsTokenCover, IsFaultAt, IsFirstFault}
use Rattle.os_lexer.specs.Effects.{fault_code}
use Rattle.os_lexer.specs.Laws.{OneCover, OneFault, CoverOrFault, NeverBoth}
use Rattle.os_lexer.specs.Lines.{line_of}
use Rattle.os_lexer.specs.declared.fault.Fault.{Fault}
use Rattle.os_lexer.specs.declared.token.Token.{Token}
use Rattle.os_lexer.proofs.Cuts.{move, move-fault, fault_within, Goes, goes, last_at_end, last_at_fault, one_way, leads_on, step_within}

pub one_cover : OneCover
one_cover text a b p q =
    let same : p.point ≡ q.point = one_way text p.reached q.reached (last_at_end text p.point p.ends) (last_at_end text q.point q.ends) in
    p.all_tokens ∙ ap (λ x. x.tokens ++ tokens_at_end text x.mode) same ∙ sym q.all_tokens

pub one_fault : OneFault
one_fault text code line code' line' p q =
    let same : p.point ≡ q.point = one_way text p.reached q.reached (last_at_fault text p.point p.wrong p.stands) (last_at_fault text q.point q.wrong q.stands) in
    let fails : move text p.point ≡ Err p.wrong = move-fault text p.stands in
    let fails' : move text q.point ≡ Err q.wrong = move-fault text q.stands in
    let wrong_is : p.wrong ≡ q.wrong = cc (sym fails ∙ ap (move text) same ∙ fails') in
    (p.coded ∙ ap fault_code wrong_is ∙ sym q.coded, p.lined ∙ ap (λ x. line_of text x.at) same ∙ sym q.lined)

pub never_both : NeverBoth
never_both text tokens code line p q =
    let same : p.point ≡ q.point = one_way text p.reached q.reached (last_at_end text p.point p.ends) (last_at_fault text q.point q.wrong q.stands) in
    omega (arith, p.ends, ap (λ x. x.at) same, fault_within text q.stands)

abbrev Ends : List ℕ → Type 0
Ends text = ((tokens : List Token) × IsTokenCover text tokens) ⊎ ((code : ℕ) × (line : ℕ) × IsFirstFault text code line)

module _ (text : List ℕ) where
  cover_at : (p : Point) → Leads text text_start p → p.at ≡ length text → Ends text
  cover_at p reached e =
      inl (p.tokens ++ tokens_at_end text p.mode, record { point = p; reached = reached; ends = e; all_tokens = refl })

  fault_at : (p : Point) (wrong : Fault) → Leads text text_start p → IsFaultAt text p wrong → Ends text
  fault_at p wrong reached stands =
      inr (fault_code wrong, line_of text p.at, record { point = p; wrong = wrong; reached = reached; stands = stands; coded = refl; lined = refl })

  -- where a step leads to an end, or a fault stands
  ends_by : (n : ℕ) (p : Point) (found : Result Point Fault) → ((q : Point) → Leads text text_start q → q.at ≤ length text → length text ≤ q.at + n → Ends text) → Leads text text_start p → length text ≤ p.at + suc n → Goes text p found → Ends text
  ends_by n p (Ok q) later reached near step =
      let w = step_within text step in later q (leads_on text reached step) w.1 (omega (arith, w))
  ends_by n p (Err wrong) later reached near stands = fault_at p wrong reached stands

  -- `n` steps at most lead to the end or to a fault
  ends_from : (n : ℕ) (p : Point) → Leads text text_start p → p.at ≤ length text → length text ≤ p.at + n → Ends text
  ends_from zero p reached within near = cover_at p reached (omega arith)
  ends_from (suc n) p reached within near =
      ⊎_elim
      (λ inside. ends_by n p (move text p) (ends_from n) reached near (goes text p inside))
      (λ over. cover_at p reached (omega arith))
      (cases_lt p.at (length text))

pub cover_or_fault : CoverOrFault
cover_or_fault text = ends_from text (length text) text_start here (omega arith) (omega arith)
