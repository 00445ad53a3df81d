use Rattle.std.proofs.Common.{◌≡◌, ◌∙◌, ◌++◌, List, OnOk, ap, codes, get_or, subst, ℕ}
use Rattle.std.specs.Fmt.{decimal}
use Rattle.osview_graph.specs.Drawing.{run_of}
use Rattle.osview_graph.specs.Streams.{elements_text, read, element_count}
use Rattle.osview_sentences.specs.Names.{stream_text}
use Rattle.osview_graph.proofs.Joined.{more, row_of}
use Rattle.osview_graph.proofs.streams.add_ellipse.Goals as goal

pub returns : goal.returns
returns c =
    let old = c.args.told.now in
    let s = c.args.stream in
    let run = run_of c.args.drawn.now in
    let n = c.args.drawn.now.streams in
    let counts = c.args.counts.now in
    let lt = c.requires.exists in
    let wrote : c.row.result ≡ element_count run s =
    c.row.ensures ∙ ap (λ (xs : List ℕ). get_or xs c.from-at.result 0) c.deref.ensures.value ∙ ap (λ (i : ℕ). get_or counts.written.items i 0) c.from-at.ensures
    ∙ row_of (element_count run) n s counts.written.items c.requires.counted.written lt in
    let reads : c.row-2.result ≡ read run s =
    c.row-2.ensures ∙ ap (λ (xs : List ℕ). get_or xs c.from-at.result 0) c.deref-2.ensures.value ∙ ap (λ (i : ℕ). get_or counts.read.items i 0) c.from-at.ensures
    ∙ row_of (read run) n s counts.read.items c.requires.counted.read lt in
    let a1 = codes "  stream" ++ decimal s in
    let s1 : c.field.new.self ≡ old ++ a1 = c.in_ok-field.ensures ∙ ap (λ (m : ℕ). old ++ (codes "  stream" ++ decimal m)) c.from.ensures in
    let head = codes " [shape=ellipse, label=\"" in
    let s2 : c.add.new.self ≡ old ++ (a1 ++ head) = c.in_ok-add.ensures ∙ more old a1 head s1 in
    let name = stream_text run.text run.names s in
    let s3 : c.add_name.new.told ≡ old ++ (a1 ++ head ++ name) = c.in_ok-add_name.ensures ∙ more old (a1 ++ head) name s2 in
    let s4 : c.add-2.new.self ≡ old ++ (a1 ++ head ++ name ++ codes "\\n") = c.in_ok-add-2.ensures ∙ more old (a1 ++ head ++ name) (codes "\\n") s3 in
    let counted = elements_text s (element_count run s) (read run s) in
    let s5 : c.add_elements.new.told ≡ old ++ (a1 ++ head ++ name ++ codes "\\n" ++ counted) =
    c.in_ok-add_elements.ensures ∙ ap (λ (m : ℕ). c.add-2.new.self ++ elements_text s m c.row-2.result) wrote
    ∙ ap (λ (m : ℕ). c.add-2.new.self ++ elements_text s (element_count run s) m) reads ∙ more old (a1 ++ head ++ name ++ codes "\\n") counted s4 in
    subst (λ (x : List ℕ). OnOk c.add-3.result (c.add-3.new.self ≡ x)) (more old (a1 ++ head ++ name ++ codes "\\n" ++ counted) (codes "\"];\n") s5) c.add-3.ensures
