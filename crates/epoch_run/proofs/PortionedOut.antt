-- Runs that are portioned out: from a run in control order to its portions, and back.
use Rattle.std.proofs.Common.{◌≡◌, ℕ, ◌+◌, ◌≤◌, List, [], ◌++◌, true, drop, length, take, sym, ap, ◌∙◌, subst, arith}
use Rattle.std.specs.Prelude.{All}
use Rattle.std.proofs.lemmas.List.{drop_all, length-append, length-take, length-take-le, take-append-drop, take-take, take_all}
use Rattle.std.proofs.lemmas.List.Elements.{All-nil}
use Rattle.control_run.specs.Stretches.{RunSoFar, created_so_far, not_begun, remaining, whole}
use Rattle.epoch_run_in_order.specs.Standing.{IsReady, StandsApart, StandsBehind}
use Rattle.epoch_run_in_order.specs.declared.apart.Apart.{Apart}
use Rattle.epoch_run_in_order.specs.declared.in_order.InOrder.{InOrder}
use Rattle.epoch_run_portions.specs.Portion.{IsPortion}
use Rattle.flow_core_laws.specs.declared.activation.Activation.{Activation}
use Rattle.flow_core_laws.specs.declared.control.Control.{Control}
use Rattle.os_code.specs.Codes.{parts_of}
use Rattle.os_code.specs.declared.code.Code.{Code}
use Rattle.os_code.specs.Tasks.{Fits}
use Rattle.stream_match_layouts.specs.Lawful.{AreLawful}
use Rattle.stream_match_layouts.specs.Layout.{IsLayoutOf}
use Rattle.stream_match_layouts.specs.declared.layout.Layout.{Layout}
use Rattle.epoch_run.proofs.Going.{none_lawful}
use Rattle.epoch_run.proofs.InOrder.{are_first, next_laid_out, whole_is}
use Rattle.epoch_run.specs.InOrder.{AreLaidOut, GoesInOrder, HaveRunInOrder}
use Rattle.epoch_run.specs.Run.{created}
use Rattle.epoch_run.specs.Portioning.{ArePortionedOut, FirstOnesRan}
use Rattle.epoch_run.specs.Standing.{HasCreated}
use Rattle.epoch_run.specs.declared.result.Budgets.{Budgets}
use Rattle.epoch_run.specs.declared.standing.Standing.{Standing}

module _ (code : Code) (input : List ℕ) (budgets : Budgets) where
  abbrev all : List Activation
  all = created (parts_of code) input budgets

  -- what ran in control order are first ones of all
  pub first_ones_ran : (standing : Standing) (order : InOrder) → HaveRunInOrder code input budgets standing order → FirstOnesRan code input budgets order
  first_ones_ran standing order ran = record {
    ready = ran.goes.ready;
    within = let w = ran.goes.within in omega (arith, w, many);
    behind = subst (λ (xs : List Activation). StandsBehind (parts_of code) all xs input budgets.task order) same ran.goes.behind;
  }
    where
      given : List Activation
      given = created_so_far standing.control

      first : given ≡ take (length given) all
      first = are_first code input budgets standing.control standing.layout ran.goes.laid_out

      many : length given ≤ length all
      many = let a = ap length first ∙ length-take (length given) all in omega (arith, a)

      same : take (length order.ends) given ≡ take (length order.ends) all
      same = ap (take (length order.ends)) first ∙ take-take (length order.ends) (length given) all ran.goes.within

  -- all are created and laid out
  pub portioned_out : (so_far : RunSoFar) (layout : Layout) (order : InOrder) → AreLaidOut code input budgets so_far layout → so_far.has_ended ≡ true → created_so_far so_far ≡ (whole so_far).activations
      → FirstOnesRan code input budgets order → ArePortionedOut code input budgets so_far layout order
  portioned_out so_far layout order laid ended told ran = record {
    laid_out = laid;
    ended = ended;
    all = told ∙ ap (λ (c : Control). c.activations) (whole_is code input budgets so_far layout laid);
    ran = ran;
  }

  -- a portion is put behind them
  pub joined : (order after : InOrder) (apart : Apart) → IsReady code apart.order → (portion : IsPortion (parts_of code) input budgets.control budgets.task apart) → FirstOnesRan code input budgets order
      → length order.ends ≤ apart.first + length apart.order.ends
      → (IsReady code order → IsReady code after) → length after.ends ≡ apart.first + length apart.order.ends
      → ((before : List Activation) → length apart.order.streams.elements ≡ length order.streams.elements
      → StandsBehind (parts_of code) all (take (length order.ends) before) input budgets.task order
      → StandsApart (parts_of code) all apart.first before input budgets.task apart.order
      → StandsBehind (parts_of code) all before input budgets.task after)
      → FirstOnesRan code input budgets after
  joined order after apart ready_apart portion ran reaches ready count stands = record {
    ready = ready ran.ready;
    within = let w = portion.within in let t = portion.ran_to in omega (arith, w, t, count);
    behind = subst (λ (xs : List Activation). StandsBehind (parts_of code) all xs input budgets.task after) (ap (λ n. take n all) (sym portion.ran_to ∙ sym count))
        (stands before (ready_apart.streams ∙ sym ran.ready.streams)
        (subst (λ (xs : List Activation). StandsBehind (parts_of code) all xs input budgets.task order) (sym (take-take (length order.ends) portion.count all (let t = portion.ran_to in omega (arith, t, reaches)))) ran.behind)
        portion.stands);
  }
    where
      before : List Activation
      before = take portion.count all

  -- a stretch more is created and laid out
  pub laid_on : (standing after : Standing) (count : ℕ) → AreLaidOut code input budgets standing.control standing.layout → HasCreated count standing.control after.control [] after.activations
      → ((before : List Activation) → IsLayoutOf standing.layout before → IsLayoutOf after.layout (before ++ after.activations)) → length after.layout.writers ≡ length standing.layout.writers
      → after.layout.input_len ≡ standing.layout.input_len → AreLaidOut code input budgets after.control after.layout
  laid_on standing after count laid made is streams over = next_laid_out code input budgets standing.control standing.layout laid count after.control after.activations made after.layout (is (created_so_far standing.control) laid.laid) streams over

  -- those that haven't run are the others
  pub taken_up : (standing : Standing) (after : Standing) (order : InOrder) → ArePortionedOut code input budgets standing.control standing.layout order
      → AreLaidOut code input budgets after.control after.layout → created_so_far after.control ≡ all
      → after.first ≡ length order.ends → after.activations ≡ drop (length order.ends) all
      → GoesInOrder code input budgets after order
  taken_up standing after order portioned laid same first list = record {
    laid_out = laid;
    are_last = list ∙ ap (λ n. drop n all) (sym first) ∙ ap (drop after.first) (sym same);
    have_run = omega (arith, first);
    within = let w = portioned.ran.within in let s = ap length same in omega (arith, w, s);
    ready = portioned.ran.ready;
    behind = subst (λ (xs : List Activation). StandsBehind (parts_of code) all xs input budgets.task order) (ap (take (length order.ends)) (sym same)) portioned.ran.behind;
  }

  -- with none left
  pub none_left : (standing : Standing) (order : InOrder) → ArePortionedOut code input budgets standing.control standing.layout order → length (created_so_far standing.control) ≤ length order.ends → [] ≡ drop (length order.ends) all
  none_left standing order portioned all_ran = sym (drop_all (length order.ends) all (let s = ap length portioned.all in omega (arith, s, all_ran)))

  -- before the control program has created any
  pub none_laid_out : (so_far : RunSoFar) (layout : Layout) → so_far ≡ not_begun (parts_of code) (length input) budgets.control → 2 ≤ code.streams → IsLayoutOf layout []
      → length layout.writers ≡ code.streams → layout.input_len ≡ length input → AreLaidOut code input budgets so_far layout
  none_laid_out so_far layout is two laid streams over = record {
    code_is = ap (λ (r : RunSoFar). r.code) is;
    input_is = ap (λ (r : RunSoFar). r.input_len) is;
    budget_is = ap (λ (r : RunSoFar). r.budget) is;
    fit = subst (All (Fits (parts_of code))) (sym no_given) (All-nil (Fits (parts_of code)));
    lawful = subst (AreLawful code.streams) (sym no_given) (none_lawful code.streams);
    has_output = two;
    streams = streams;
    over = over;
    laid = subst (IsLayoutOf layout) (sym no_given) laid;
  }
    where
      no_given : created_so_far so_far ≡ []
      no_given = ap created_so_far is

  -- those that ran are created and laid out, and no others
  pub created_anew : (standing : Standing) (order : InOrder) → FirstOnesRan code input budgets order → AreLaidOut code input budgets standing.control standing.layout
      → length (created_so_far standing.control) ≡ length order.ends → standing.first ≡ length order.ends → standing.activations ≡ [] → HaveRunInOrder code input budgets standing order
  created_anew standing order ran laid count first none = record {
    goes = record {
      laid_out = laid;
      are_last = none ∙ sym (drop_all standing.first given (omega (arith, first, count)));
      have_run = omega (arith, first);
      within = omega (arith, count);
      ready = ran.ready;
      behind = subst (λ (xs : List Activation). StandsBehind (parts_of code) all xs input budgets.task order) same ran.behind;
    };
    all = sym count;
  }
    where
      given : List Activation
      given = created_so_far standing.control

      same : take (length order.ends) all ≡ take (length order.ends) given
      same =
          ap (λ n. take n all) (sym count)
          ∙ sym (are_first code input budgets standing.control standing.layout laid)
          ∙ sym (take_all (length order.ends) given (omega (arith, count)))

  -- how many had run at the last try makes no difference
  pub tried_at : (standing : Standing) (order : InOrder) → HaveRunInOrder code input budgets standing order → (tried : ℕ) → HaveRunInOrder code input budgets (record standing { tried = tried }) order
  tried_at standing order ran tried = record {
    goes = record {
      laid_out = ran.goes.laid_out;
      are_last = ran.goes.are_last;
      have_run = ran.goes.have_run;
      within = ran.goes.within;
      ready = ran.goes.ready;
      behind = ran.goes.behind;
    };
    all = ran.all;
  }

-- a stretch has `count` activations, where as many remain
module _ (count : ℕ) (before after : RunSoFar) (next : List Activation) (made : HasCreated count before after [] next) where
  pub same_whole : length (whole after).activations ≡ length (whole before).activations
  same_whole = ap (λ (r : RunSoFar). length (whole r).activations) made.is_run

  pub grows_by : length (created_so_far before) + count ≤ length (whole before).activations → length (created_so_far after) ≡ length (created_so_far before) + count
  grows_by within =
      let w = sym (ap length (take-append-drop before.created_by_now (whole before).activations)) ∙ length-append (created_so_far before) (remaining before) in
      let l = ap length made.joined ∙ length-append (created_so_far before) (take count (remaining before)) in
      let n = length-take-le count (remaining before) (omega (arith, w, within)) in
      omega (arith, l, n)
