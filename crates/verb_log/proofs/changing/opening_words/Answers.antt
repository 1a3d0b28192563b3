use Rattle.std.proofs.Common.{◌≡◌, ◌∙◌, sym, ap, ℕ, List, [], ◌∷◌, ◌++◌, map, arith, zero-add}
use Rattle.std.specs.List.{range_with_len}
use Rattle.std.proofs.lemmas.List.FromFn.{map-range_with_len_more}
use Rattle.node_words.specs.Opening.{opening_word}
use Rattle.node_words.proofs.OpeningWords.{opening-is}
use Rattle.verb_log.proofs.changing.opening_words.Goals as goal

pub loop-at-preserved : goal.loop-at-preserved
loop-at-preserved c =
    c.in_ok-push.ensures.items
    ∙ ap (λ (l : List ℕ). l ++ c.opening_word.result ∷ []) c.loop-at.invariant
    ∙ ap (λ (w : ℕ). map (opening_word c.args.geometry.now) (range_with_len 0 c.loop-at.at) ++ w ∷ []) c.opening_word.ensures
    ∙ sym (map-range_with_len_more (opening_word c.args.geometry.now) 0 c.loop-at.at c.loop-at.at (zero-add c.loop-at.at))

pub returns : goal.returns
returns c =
    let e : c.loop-at.at ≡ c.args.geometry.now.words = omega arith in
    c.loop-at.invariant
    ∙ ap (λ (n : ℕ). map (opening_word c.args.geometry.now) (range_with_len 0 n)) e
    ∙ sym (opening-is c.args.geometry.now)
