use Rattle.std.proofs.Common.{◌∙◌, ap, sym, ◌<◌, map, length, slice_set, get_or, arith}
use Rattle.std.proofs.lemmas.List.{get_or-map, map-set, length-map}
use Rattle.std.proofs.lemmas.List.Edits.{map_over_more}
use Rattle.dir_cache.specs.Cached.{unless_names, entry_in}
use Rattle.dir_cache.proofs.cache.forget_in.Goals as goal

pub loop-word-preserved : goal.loop-word-preserved
loop-word-preserved c =
    let ys = c.loop-word.words in
    let i = c.loop-word.word-index in
    let before = map entry_in c.args.words.now in
    let w = get_or ys i 0 in
    let long = c.loop-word.auto.words in
    let lt = c.loop-word-test.true in
    let same = length-map c.args.words.now entry_in in
    let within : i < length before = omega (arith, same, long, lt) in
    let inside : i < length ys = omega (arith, long, lt) in
    map-set entry_in ys i c.unless_named.result
    ∙ ap (λ y. slice_set (map entry_in ys) i y) c.unless_named.ensures
    ∙ map_over_more (unless_names c.args.table) before (map entry_in ys) i _ within c.loop-word.invariant (sym (get_or-map entry_in ys i _ _ inside))
