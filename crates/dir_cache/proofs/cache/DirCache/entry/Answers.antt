use Rattle.std.proofs.Common.{◌≡◌, ◌∙◌, ◌%◌, ◌^◌, ℕ, ap, sym, get_or}
use Rattle.std.proofs.lemmas.Grind.{get_or_default_zero}
use Rattle.dir_cache.specs.Cached.{Cached, entry_of, entry_in}
use Rattle.dir_cache.proofs.Entries.{entry_of-words, index-low}
use Rattle.dir_cache.proofs.cache.DirCache.entry.Goals as goal

pub returns : goal.returns
returns c =
    let ws = c.self.inside.words.items in
    let depth = c.self.inside.depth in
    let i = c.args.hash % 2 ^ depth in
    let low = index-low depth ws c.args.hash c.self.invariant.1 in
    let same : depth ≡ c.args.self.now.depth = ap (λ (s : Cached). s.depth) c.self.view_is in
    let index : c.index.result ≡ i = c.index.ensures ∙ ap (λ (d : ℕ). c.args.hash % 2 ^ d) (sym same) in
    c.named_by.ensures
    ∙ ap entry_in (c.index-2.ensures ∙ ap (λ (k : ℕ). get_or ws k c.index-2.result.now) index ∙ get_or_default_zero ws i c.index-2.result.now low)
    ∙ sym (entry_of-words depth ws c.args.hash low)
    ∙ ap (λ (s : Cached). entry_of s c.args.hash) c.self.view_is
