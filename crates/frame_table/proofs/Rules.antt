-- Each step of the core keeps the rule of the table.
use Rattle.std.proofs.Common.{◌≡◌, ℕ, Bool, true, false, ◌+◌, ◌-◌, ◌%◌, ◌<◌, ◌≤◌, List, Some, length, set, refl, sym, ap, ◌∙◌, subst, arith}
use Rattle.std.specs.Prelude.{◌==◌, slice_get, slice_index, if◌then◌else◌}
use Rattle.std.proofs.lemmas.List.{set-get_or}
use Rattle.std.proofs.lemmas.Nat.{mod_below}
use Rattle.flow_core_concurrent.specs.declared.view.FrameRun.{FrameRun}
use Rattle.flow_core_laws.specs.declared.elem.Elem.{Elem}
use Rattle.flow_core_laws.specs.Plans.{held_at}
use Rattle.flow_core_concurrent.specs.declared.known.Known.{Known}
use Rattle.flow_core_concurrent.specs.declared.view.View.{View}
use Rattle.flow_core_concurrent.specs.States.{CoreState}
use Rattle.flow_core_concurrent.specs.Steps.{meant_at, after_claim, after_store, after_sub, after_finish, after_look}
use Rattle.flow_core_concurrent.specs.IsGood.{IsGood}
use Rattle.flow_core_concurrent.proofs.Cells as cells
use Rattle.flow_core_concurrent.proofs.Splits.{split_keeps, join_keeps}
use Rattle.flow_core_concurrent.proofs.Claims.{claim_keeps}
use Rattle.flow_core_concurrent.proofs.Stores.{store_keeps}
use Rattle.flow_core_concurrent.proofs.Subs.{sub_keeps}
use Rattle.flow_core_concurrent.proofs.Finishes.{finish_keeps}
use Rattle.flow_core_concurrent.proofs.Looks.{look_keeps}
use Rattle.frame_table.specs.Spelled.{number_of_word, number_of_cell, numbers}
use Rattle.frame_table.specs.Shown.{shown, ShowsGood}
use Rattle.frame_table.specs.Laws.{SplitKeepsTheRule, JoinKeepsTheRule, ClaimKeepsTheRule, StoreKeepsTheRule, SubKeepsTheRule, FinishKeepsTheRule, LookKeepsTheRule, ReadsTheMeaning, OpensByTheRule, ClosedTellsTheMeaning}
use Rattle.frame_table.proofs.Steps.{claim_is, look_is, finish_is, store_is, sub_is, waits_with}
use Rattle.frame_table.proofs.Showing.{IsSpelled, frame_spelled, cell_shown, cell_spelled, frame_shown}
use Rattle.flow_core_concurrent.proofs.Opens.{opens_good}
use Rattle.flow_core_concurrent.proofs.Complete.{complete}
use Rattle.flow_core_concurrent.specs.Words.{end_in}
use Rattle.flow_core_concurrent.specs.Laws.{IsComplete}
use Rattle.frame_table.proofs.Spells.{lowered_number}

-- the rule after a step that leads to a good state
pub kept_by : (known : Known) (words words' : List ℕ) (views views' : List View) (s : CoreState) → ShowsGood known words views → shown known.plan words' views' ≡ s → IsGood known s → IsSpelled known.plan words' → ShowsGood known words' views'
kept_by known words words' views views' s kept is good spelled = record { fit = kept.fit; good = subst (IsGood known) (sym is) good; spelled = spelled }

-- a frame that a seat runs is one
exists : (known : Known) (words : List ℕ) (views : List View) (i : ℕ) (v : View) (r : FrameRun) → ShowsGood known words views → slice_get views i ≡ Some v → v.run ≡ Some r → r.frame < length known.plan.frames
exists known words views i v r kept sees runs = ((kept.good.views_are_sound i v sees).runs_at_a_place r runs).of_a_frame

pub split_rule : SplitKeepsTheRule
split_rule known words views i v kept can = record { fit = kept.fit; good = split_keeps known (shown known.plan words views) i v kept.good can; spelled = kept.spelled }

pub join_rule : JoinKeepsTheRule
join_rule known words views i v j w kept can = record { fit = kept.fit; good = join_keeps known (shown known.plan words views) i v j w kept.good can; spelled = kept.spelled }

pub claim_rule : ClaimKeepsTheRule
claim_rule known words views i v f kept can =
    kept_by known words (set words f (if slice_index words f == 0 then 9223372036854775808 else slice_index words f)) views _ (after_claim known (shown known.plan words views) i v f) kept (claim_is known words views i v f kept.good can.exists)
    (claim_keeps known (shown known.plan words views) i v f kept.fit kept.good can) (spelled (slice_index words f == 0))
  where
    le : f ≤ length known.plan.frames
    le = let lt = can.exists in omega (arith, lt)

    spelled : (b : Bool) → IsSpelled known.plan (set words f (if b then 9223372036854775808 else slice_index words f))
    spelled true = frame_spelled known.plan words f 9223372036854775808 kept.good.words_of_plan kept.spelled le refl
    spelled false = subst (IsSpelled known.plan) (sym (set-get_or words f 0)) kept.spelled

pub look_rule : LookKeepsTheRule
look_rule known words views i v kept can =
    kept_by known words words views _ (after_look known (shown known.plan words views) i v) kept (look_is known words views i v kept.good (mod_below v.looks (length known.plan.frames) (let some = can.has_frames in omega (arith, some))))
    (look_keeps known (shown known.plan words views) i v kept.fit.plan_is_sound kept.good can) kept.spelled

pub finish_rule : FinishKeepsTheRule
finish_rule known words views i v r end n kept can number spells =
    kept_by known words (set words r.frame n) views _ (after_finish (shown known.plan words views) i v r end) kept (finish_is known words views i v r end n le spells)
    (finish_keeps known (shown known.plan words views) i v r end kept.fit.plan_is_sound kept.good can)
    (frame_spelled known.plan words r.frame n kept.good.words_of_plan kept.spelled le (ap number_of_word spells ∙ sym number))
  where
    le : r.frame ≤ length known.plan.frames
    le = let lt = exists known words views i v r kept can.is_seat.sees can.runs in omega (arith, lt)

pub store_rule : StoreKeepsTheRule
store_rule known words views i v r p n kept can number spells =
    kept_by known words (set words (length known.plan.frames + 1 + (p.at + r.stored)) n) views _ (after_store known (shown known.plan words views) i v r p) kept (store_is known words views i v r p n can.runs spells)
    (store_keeps known (shown known.plan words views) i v r p kept.fit kept.good can)
    (cell_spelled known.plan words (p.at + r.stored) n kept.good.words_of_plan kept.spelled (ap number_of_cell spells ∙ sym number))

pub sub_rule : SubKeepsTheRule
sub_rule known words views i v r p kept can =
    kept_by known words (set words p.to ((slice_index words p.to + (18446744073709551616 - p.count)) % 18446744073709551616)) views _ (after_sub (shown known.plan words views) i v r p) kept (sub_is known words views i v r p kept.fit kept.good can)
    (sub_keeps known (shown known.plan words views) i v r p kept.fit.plan_is_sound kept.good can)
    (frame_spelled known.plan words p.to ((slice_index words p.to + (18446744073709551616 - p.count)) % 18446744073709551616) kept.good.words_of_plan kept.spelled (kept.fit.plan_is_sound.pieces_are_sound r.piece p can.stands.has_number).goes_to_a_frame (lowered_number (slice_index words p.to) p.count waits.0 waits.1 waits.2))
  where
    waits : (1 ≤ p.count) × (p.count ≤ slice_index words p.to) × (slice_index words p.to < 9223372036854775808)
    waits = waits_with known words views i v r p kept.fit kept.good can

pub reads_the_meaning : ReadsTheMeaning
reads_the_meaning known words views i v r c kept can = (read.0, sym (cell_shown known.plan words views c within) ∙ read.1, read.2)
  where
    s : CoreState
    s = shown known.plan words views

    read : (elem : Elem) × (held_at s.cells c ≡ Some elem) × (meant_at known c ≡ Some elem)
    read = cells.reads known s i v r c kept.good can

    within : c < length s.cells
    within =
        let lt = exists known words views i v r kept can.is_seat.sees can.runs in
        let a = kept.fit.plan_is_sound.cells_exist r.frame (omega (arith, lt)) in
        let b = can.is_its_cell.1 in
        let l = kept.good.cells_of_plan in
        omega (arith, a, b, l)

pub opens_by_the_rule : OpensByTheRule
opens_by_the_rule known words fit is spelled = record {
  fit = fit;
  good = subst (IsGood known) (sym is) (opens_good known fit.plan_is_sound);
  spelled = spelled ∙ ap (λ (s : CoreState). numbers s.words s.cells) (sym is);
}

pub closed_tells : ClosedTellsTheMeaning
closed_tells known outcome words views i v kept meant sees last idle looks = record {
  ends = λ f lt. ap end_in (sym (frame_shown known.plan words views f kept.good.words_of_plan (omega (arith, lt)))) ∙ all.ends f lt;
  cells = λ c lt. sym (cell_shown known.plan words views c (let e = kept.good.cells_of_plan in omega (arith, e, lt))) ∙ all.cells c;
}
  where
    all : IsComplete known (shown known.plan words views)
    all = complete known outcome (shown known.plan words views) i v kept.fit.plan_is_sound meant kept.good sees last idle looks
