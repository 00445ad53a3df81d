-- What is drafted leaves the labels that were there as they were.
use Rattle.std.proofs.Common.{◌≡◌, ◌∙◌, ℕ, ◌<◌, ◌≤◌, List, [], ◌∷◌, length, length-append, length-set, None, Some, slice_get, refl, arith}
use Rattle.lowering_draft.proofs.Lists.{slice_get-front, slice_get-set_other}
use Rattle.lowering_draft.specs.Draft.{next_label, with_instr, with_instrs, with_label, with_place, with_spawn}
use Rattle.lowering_draft.specs.Emission.Expressions.{Emission}
use Rattle.lowering_draft.specs.declared.draft.Draft.{Draft}
use Rattle.lowering_draft.specs.declared.draft.Label.{Label}
use Rattle.os_code.specs.declared.instr.Instr.{Instr}
use Rattle.os_code.specs.declared.instr.Instr.TheVariants.{Spawn}

-- The labels of a draft are there in another one, with the same places, and its instructions at its front.
pub record Keeps (d e : Draft) : Type 0 where
  pub no_fewer : length d.places ≤ length e.places
  pub same : (l : ℕ) → l < length d.places → slice_get e.places l ≡ slice_get d.places l
  pub no_shorter : length d.instrs ≤ length e.instrs
  pub front : (at : ℕ) → at < length d.instrs → slice_get e.instrs at ≡ slice_get d.instrs at

pub kept : (d : Draft) → Keeps d d
kept d = record { no_fewer = omega arith; same = λ l within. refl; no_shorter = omega arith; front = λ at within. refl }

pub then_kept : {d m e : Draft} → Keeps d m → Keeps m e → Keeps d e
then_kept a b = record {
  no_fewer = omega (arith, a.no_fewer, b.no_fewer);
  same = λ l within. b.same l (omega (arith, within, a.no_fewer)) ∙ a.same l within;
  no_shorter = omega (arith, a.no_shorter, b.no_shorter);
  front = λ at within. b.front at (omega (arith, within, a.no_shorter)) ∙ a.front at within;
}

pub keeps_instr : {d m : Draft} → Keeps d m → (i : Instr) → Keeps d (with_instr m i)
keeps_instr {d} {m} a i = record {
  no_fewer = a.no_fewer;
  same = a.same;
  no_shorter = omega (arith, a.no_shorter, length-append m.instrs (i ∷ []));
  front = λ at within. slice_get-front m.instrs (i ∷ []) at (omega (arith, within, a.no_shorter)) ∙ a.front at within;
}

pub keeps_instrs : {d m : Draft} → Keeps d m → (is : List Instr) → Keeps d (with_instrs m is)
keeps_instrs a [] = a
keeps_instrs a (i ∷ is) = keeps_instrs (keeps_instr a i) is

pub keeps_spawn : {d m : Draft} → Keeps d m → Keeps d (with_spawn m)
keeps_spawn {d} {m} a = record {
  no_fewer = a.no_fewer;
  same = a.same;
  no_shorter = omega (arith, a.no_shorter, length-append m.instrs (Spawn m.spawned ∷ []));
  front = λ at within. slice_get-front m.instrs (Spawn m.spawned ∷ []) at (omega (arith, within, a.no_shorter)) ∙ a.front at within;
}

pub keeps_label : {d m : Draft} → Keeps d m → Keeps d (with_label m)
keeps_label {d} {m} a = record {
  no_fewer = omega (arith, a.no_fewer, length-append m.places (None ∷ []));
  same = λ l within. slice_get-front m.places (None ∷ []) l (omega (arith, within, a.no_fewer)) ∙ a.same l within;
  no_shorter = a.no_shorter;
  front = a.front;
}

-- a label that wasn't there gets a place
pub keeps_place : {d m : Draft} → Keeps d m → (label : Label) → length d.places ≤ label.number → Keeps d (with_place m label)
keeps_place {d} {m} a label new = record {
  no_fewer = omega (arith, a.no_fewer, length-set m.places label.number (Some (length m.instrs)));
  same = λ l within. slice_get-set_other m.places label.number l (Some (length m.instrs)) (λ same. absurd (omega (arith, same, within, new))) ∙ a.same l within;
  no_shorter = a.no_shorter;
  front = a.front;
}

-- added code keeps the labels that are there
abbrev pub KeepsLabels : Emission → Type 0
KeepsLabels f = (d : Draft) → Keeps d (f d)

-- the labels that a draft makes next weren't there
pub next_is_new : {d m : Draft} → Keeps d m → length d.places ≤ (next_label m).number
next_is_new a = a.no_fewer
