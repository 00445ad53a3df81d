use Rattle.std.proofs.Common.{◌≡◌, ◌∙◌, ◌++◌, ◌∷◌, [], All, ap, arith, length, map, subst, sym}
use Rattle.std.specs.Prelude.{string_bytes}
use Rattle.std.specs.Str.{IsUtf8}
use Rattle.std.proofs.lemmas.List.{length-drop, map-append}
use Rattle.std.proofs.lemmas.List.Elements.{All-push}
use Rattle.os_serve_jobs.proofs.LineWords.{all_text, all_words, bad_word, one_word}
use Rattle.os_serve_jobs.proofs.words.words_of.Goals as goal

pub returns-in_default : goal.returns-in_default
returns-in_default c =
    let n = c.front_len-count in
    bad_word c.args.line.now c.rest_of-rest.result.now c.front_of.result.now (map string_bytes c.loop-next.words.items) c.loop-next.next n.result c.loop-next.invariant.words
    c.rest_of-rest.ensures c.front_of.ensures (omega (arith, c.if-count-eq0.false)) n.ensures.within n.ensures.none n.ensures.blank c.in_default.ensures.cases.0

pub loop-next-preserved : goal.loop-next-preserved
loop-next-preserved c =
    let n = c.front_len-count in
    let word = string_bytes c.in_ok-from_str.field-0 in
    let before = map string_bytes c.loop-next.words.items in
    let word_is : word ≡ c.front_of.result.now = c.in_ok-from_str.ensures.ok ∙ c.in-Ok.ensures.cases.0 in
    let words_are : map string_bytes c.push.new.self.items ≡ before ++ word ∷ [] =
    ap (map string_bytes) c.in_ok-push.ensures.items ∙ map-append string_bytes c.loop-next.words.items (c.in_ok-from_str.field-0 ∷ []) in
    record {
      within = omega (arith, n.ensures.within, c.loop-next.invariant.within, ap length c.rest_of-rest.ensures ∙ length-drop c.loop-next.next c.args.line.now);
      words = one_word c.args.line.now c.rest_of-rest.result.now c.front_of.result.now word before (map string_bytes c.push.new.self.items) c.loop-next.next n.result
          c.loop-next.invariant.words c.rest_of-rest.ensures c.front_of.ensures word_is words_are (omega (arith, c.if-count-eq0.false)) n.ensures.within n.ensures.none
          n.ensures.blank;
      text = subst (All IsUtf8) (sym words_are)
          (All-push IsUtf8 before word c.loop-next.invariant.text (subst IsUtf8 (sym word_is) c.in-Ok.ensures.cases.1));
    }

pub returns : goal.returns
returns c =
    let are = all_words c.args.line.now (map string_bytes c.loop-next.words.items) c.loop-next.next c.loop-next.invariant.words c.loop-next-test.false in
    (all_text c.args.line.now (map string_bytes c.loop-next.words.items) are c.loop-next.invariant.text, are)
