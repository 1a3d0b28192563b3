use Rattle.std.proofs.Common.{◌∙◌, ap, ◌+◌, ℕ, Option, List, Some, slice_set, map}
use Rattle.std.proofs.lemmas.List.{map-set}
use Rattle.dir_cache.specs.Cached.{Cached, entry_of, entry_in}
use Rattle.dir_cache.proofs.Entries.{entry_in-name, set-is, set-others}
use Rattle.dir_cache.proofs.cache.DirCache.refresh.Goals as goal

pub returns-clause-entries : goal.returns-clause-entries
returns-clause-entries c =
    map-set entry_in c.self.inside.words.items c.index-index.result (c.args.table + 1)
    ∙ ap (λ (e : Option ℕ). slice_set (map entry_in c.self.inside.words.items) c.index-index.result e) (entry_in-name c.args.table)
    ∙ ap (λ (xs : List (Option ℕ)). slice_set xs c.index-index.result (Some c.args.table)) (ap (λ (s : Cached). s.entries) c.self.view_is)
    ∙ ap (λ (i : ℕ). slice_set c.args.self.now.entries i (Some c.args.table)) c.index-index.ensures

pub returns-clause-is : goal.returns-clause-is
returns-clause-is c =
    ap (λ (xs : List (Option ℕ)). entry_of (record { depth = c.self.inside.depth; entries = xs }) c.args.hash) (returns-clause-entries c)
    ∙ set-is c.self.inside.depth c.self.inside.words.items c.args.self.now c.args.hash c.args.table c.self.view_is c.self.invariant.1

pub returns-clause-others : goal.returns-clause-others
returns-clause-others c = λ h ne.
    ap (λ (xs : List (Option ℕ)). entry_of (record { depth = c.self.inside.depth; entries = xs }) h) (returns-clause-entries c)
    ∙ set-others c.self.inside.depth c.self.inside.words.items c.args.self.now c.args.hash c.args.table c.self.view_is h ne
