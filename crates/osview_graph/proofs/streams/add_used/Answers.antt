use Rattle.std.proofs.Common.{◌≡◌, ◌∙◌, ◌++◌, Bool, List, OnOk, [], ap, append-nil, arith, cond, false, get_or, subst, sym, true, ℕ}
use Rattle.std.specs.Prelude.{◌==◌}
use Rattle.std.proofs.lemmas.Bool.Decides.{nat_tests}
use Rattle.osview_graph.specs.Drawing.{run_of}
use Rattle.osview_graph.specs.DrawnRun.{DrawnRun}
use Rattle.osview_graph.specs.Streams.{ellipse, ellipse_if_used, window_count}
use Rattle.osview_graph.proofs.Joined.{row_of}
use Rattle.osview_graph.proofs.streams.add_used.Goals as goal

none_used : (run : DrawnRun) (s : ℕ) → window_count run s ≡ 0 → [] ≡ ellipse_if_used run s
none_used run s none = sym (ap (λ (b : Bool). cond b [] (ellipse run s)) (let e : (window_count run s == 0) ≡ true = grind (arith, nat_tests) in e))

is_used : (run : DrawnRun) (s : ℕ) → (window_count run s ≡ 0 → ⊥) → ellipse run s ≡ ellipse_if_used run s
is_used run s some = sym (ap (λ (b : Bool). cond b [] (ellipse run s)) (let e : (window_count run s == 0) ≡ false = grind (arith, nat_tests) in e))

pub returns-then-row-eq0 : goal.returns-then-row-eq0
returns-then-row-eq0 c =
    let s = c.args.stream in
    let run = run_of c.args.drawn.now in
    let count : c.row.result ≡ window_count run s =
    c.row.ensures ∙ ap (λ (xs : List ℕ). get_or xs c.from.result 0) c.deref.ensures.value ∙ ap (λ (i : ℕ). get_or c.args.counts.now.windows.items i 0) c.from.ensures
    ∙ row_of (window_count run) (c.args.drawn.now.streams) s c.args.counts.now.windows.items c.requires.counted.windows c.requires.exists in
    sym (append-nil c.args.told.now) ∙ ap (λ (x : List ℕ). c.args.told.now ++ x) (none_used run s (sym count ∙ c.if-row-eq0.true))

pub returns-else-row-eq0 : goal.returns-else-row-eq0
returns-else-row-eq0 c =
    let s = c.args.stream in
    let run = run_of c.args.drawn.now in
    let count : c.row.result ≡ window_count run s =
    c.row.ensures ∙ ap (λ (xs : List ℕ). get_or xs c.from.result 0) c.deref.ensures.value ∙ ap (λ (i : ℕ). get_or c.args.counts.now.windows.items i 0) c.from.ensures
    ∙ row_of (window_count run) (c.args.drawn.now.streams) s c.args.counts.now.windows.items c.requires.counted.windows c.requires.exists in
    subst (λ (x : List ℕ). OnOk c.add_ellipse.result (c.add_ellipse.new.told ≡ c.args.told.now ++ x))
    (is_used run s (λ none. c.if-row-eq0.false (count ∙ none))) c.add_ellipse.ensures
