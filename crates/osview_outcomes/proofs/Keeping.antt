-- What is kept, frame by frame.
use Rattle.std.proofs.Common.{◌≡◌, ◌≢◌, ◌<◌, ℕ, ℤ, subst, List, [], Option, Some, None, true, length, map, set, get_or, sym, ap, ◌∙◌, ◌⊎◌, inl, inr}
use Rattle.std.specs.Prelude.{is_some}
use Rattle.std.proofs.lemmas.Bool.{cases_eq}
use Rattle.std.proofs.lemmas.List.{get_or-set_same, get_or-set_other}
use Rattle.flow_core.proofs.Running.{no_end}
use Rattle.flow_core_laws.specs.Outcome.{State, outcome_at}
use Rattle.flow_core_laws.specs.declared.outcome.Outcome.{Outcome}
use Rattle.flow_core_laws.specs.declared.plan.FramePlan.{FramePlan}
use Rattle.flow_core_laws.specs.declared.plan.Plan.{Plan}
use Rattle.flow_core_laws.specs.declared.task_end.TaskEnd.{TaskEnd}
use Rattle.flow_core_laws.specs.declared.task_end.TaskEnd.TheVariants.{Done}
use Rattle.flow_core.specs.Shows.{HasOutcome, Reads, end_at}
use Rattle.osview_outcomes.specs.Kept.{AreKept}

pub kept_at_first : (plan : Plan) (m : State) (frames : List FramePlan) (ends : List (Option TaskEnd)) (inputs outputs : List (List ℤ))
    → ends ≡ map (λ (p : FramePlan). None) frames → AreKept plan m ends inputs outputs
kept_at_first plan m frames ends inputs outputs none = record {
  read = λ f some. let n : end_at ends f ≡ None = ap (λ (xs : List (Option TaskEnd)). end_at xs f) none ∙ no_end frames f in absurd (cc);
  written = λ f o some is done. let n : end_at ends f ≡ None = ap (λ (xs : List (Option TaskEnd)). end_at xs f) none ∙ no_end frames f in absurd (cc);
}

module _ (plan : Plan) (m : State) (ends new_ends : List (Option TaskEnd)) (f : ℕ) (e : TaskEnd) (in_ends : f < length ends) (ends_are : new_ends ≡ set ends f (Some e)) where
  -- another frame has the end that it had
  stays : (g : ℕ) → g ≢ f → end_at new_ends g ≡ end_at ends g
  stays g other = ap (λ (xs : List (Option TaskEnd)). end_at xs g) ends_are ∙ get_or-set_other ends f g (Some e) None other

  -- what stands at a frame in lists of which one was set
  set_here : (lists new_lists : List (List ℤ)) (values : List ℤ) → f < length lists → new_lists ≡ set lists f values → get_or new_lists f [] ≡ values
  set_here lists new_lists values inside are = ap (λ (xs : List (List ℤ)). get_or xs f []) are ∙ get_or-set_same lists f values [] inside

  set_there : (lists new_lists : List (List ℤ)) (values : List ℤ) (g : ℕ) → g ≢ f → new_lists ≡ set lists f values → get_or new_lists g [] ≡ get_or lists g []
  set_there lists new_lists values g other are = ap (λ (xs : List (List ℤ)). get_or xs g []) are ∙ get_or-set_other lists f g values [] other

  -- what one more frame read and wrote is kept
  pub one_more : (inputs new_inputs outputs new_outputs : List (List ℤ)) (read written : List ℤ) → AreKept plan m ends inputs outputs
      → f < length inputs → f < length outputs → new_inputs ≡ set inputs f read → new_outputs ≡ set outputs f written
      → Reads plan m f read → HasOutcome m f e written → AreKept plan m new_ends new_inputs new_outputs
  one_more inputs new_inputs outputs new_outputs read written old in_inputs in_outputs inputs_are outputs_are reads (given, meant, o_end, o_outputs) = record {
    read = λ g some. read_at g some (cases_eq g f);
    written = λ g o some is done. written_at g o some is done (cases_eq g f);
  }
    where
      read_at : (g : ℕ) → is_some (end_at new_ends g) ≡ true → (g ≡ f) ⊎ (g ≢ f) → Reads plan m g (get_or new_inputs g [])
      read_at g some (inl same) = subst (λ (k : ℕ). Reads plan m k (get_or new_inputs k [])) (sym same)
          (subst (Reads plan m f) (sym (set_here inputs new_inputs read in_inputs inputs_are)) reads)
      read_at g some (inr other) = subst (Reads plan m g) (sym (set_there inputs new_inputs read g other inputs_are)) (old.read g (ap is_some (sym (stays g other)) ∙ some))

      written_at : (g : ℕ) (o : Outcome) → is_some (end_at new_ends g) ≡ true → outcome_at m g ≡ Some o → o.end ≡ Done → (g ≡ f) ⊎ (g ≢ f)
          → get_or new_outputs g [] ≡ o.outputs
      written_at g o some is done (inl same) =
          let same_o : Some given ≡ Some o = sym meant ∙ ap (outcome_at m) (sym same) ∙ is in
          let o_is : given ≡ o = cc in
          let e_done : e ≡ Done = sym o_end ∙ ap (λ (q : Outcome). q.end) o_is ∙ done in
          ap (λ (k : ℕ). get_or new_outputs k []) same ∙ set_here outputs new_outputs written in_outputs outputs_are ∙ o_outputs e_done ∙ ap (λ (q : Outcome). q.outputs) o_is
      written_at g o some is done (inr other) = set_there outputs new_outputs written g other outputs_are ∙ old.written g o (ap is_some (sym (stays g other)) ∙ some) is done
