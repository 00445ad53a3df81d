use Rattle.std.proofs.Common.{ℕ, Option, cond, is_none, count_by, ◌∙◌, ◌+◌, ◌++◌, ◌∷◌, [], ap, sym, map, refl, subst, arith}
use Rattle.std.specs.List.{range_with_len}
use Rattle.std.proofs.lemmas.List.{append_assoc}
use Rattle.std.proofs.lemmas.List.FromFn.{length-map-range_with_len, map-range_with_len_more, sum_by-map-range_with_len_more}
use Rattle.std.proofs.lemmas.List.Sums.{count_by-le-length, sum_by-cons}
use Rattle.flow_core_laws.specs.declared.elem.Elem.{Elem}
use Rattle.stream_match.specs.EpochPlan.{epoch_opening}
use Rattle.stream_match.specs.EpochCode.{AreBefore}
use Rattle.stream_match.specs.Kept.{kept_of}
use Rattle.stream_match.proofs.LookUp.{still_before}
use Rattle.stream_match.proofs.filling.fill_kept.Goals as goal

pub first_from_on-next-requires-clause-before : goal.first_from_on-next-requires-clause-before
first_from_on-next-requires-clause-before c = subst (λ p. AreBefore c.args.kept.now c.args.stretch.stream p c.loop-offset.next) (omega (arith, c.from.ensures)) c.loop-offset.invariant.before

abbrev none : Option Elem → ℕ
none o = cond {A = ℕ} (is_none o) 1 0

pub overflow_add-empty : goal.overflow_add-empty
overflow_add-empty c =
    let f = epoch_opening c.args.input.now (map kept_of c.args.kept.now) c.args.stretch.stream in
    let first = c.args.stretch.first in
    let k = c.loop-offset.offset in
    omega (arith, c.loop-offset.invariant.empty, c.loop-offset-test.true, c.missing-empty.ensures, count_by-le-length is_none (c.epoch_opening-element.result ∷ []), count_by-le-length is_none (map f (range_with_len first k)), length-map-range_with_len f first k)

pub loop-offset-preserved : goal.loop-offset-preserved
loop-offset-preserved c =
    let f = epoch_opening c.args.input.now (map kept_of c.args.kept.now) c.args.stretch.stream in
    let first = c.args.stretch.first in
    let k = c.loop-offset.offset in
    let old = c.args.cells.now in
    let i = c.loop-offset.invariant in
    let more = sum_by-map-range_with_len_more none f first k (first + k) refl in
    let here = ap (λ v. count_by is_none (v ∷ [])) (c.epoch_opening-element.ensures ∙ ap (λ n. f (first + n)) c.from.ensures) ∙ sum_by-cons none (f (first + k)) [] in
    record {
      cells = c.in_ok-push.ensures.ok
          ∙ ap (λ v. c.loop-offset.cells ++ v ∷ []) (c.epoch_opening-element.ensures ∙ ap (λ n. f (first + n)) c.from.ensures)
          ∙ ap (λ xs. xs ++ f (first + k) ∷ []) c.loop-offset.invariant.cells
          ∙ append_assoc old (map f (range_with_len first k)) (f (first + k) ∷ [])
          ∙ ap (λ xs. old ++ xs) (sym (map-range_with_len_more f first k (first + k) refl));
      empty = omega (arith, i.empty, c.missing-empty.ensures, here, more);
      within = c.first_from_on-next.ensures.within;
      before = still_before c.args.kept.now c.args.stretch.stream (first + c.from.result) (first + (k + 1)) c.first_from_on-next.result (omega (arith, c.from.ensures)) c.first_from_on-next.ensures.before;
    }
