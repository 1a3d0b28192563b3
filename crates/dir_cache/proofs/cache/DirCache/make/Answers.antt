use Rattle.std.proofs.Common.{◌∙◌, ap, map}
use Rattle.dir_cache.specs.Cached.{entry_in}
use Rattle.dir_cache.proofs.Entries.{unknown-count, unknown-each}
use Rattle.dir_cache.proofs.cache.DirCache.make.Goals as goal

pub returns-clause-unknown : goal.returns-clause-unknown
returns-clause-unknown c =
    ap (map entry_in) (c.in_ok-vec.ensures.items_if_clones_equal (λ y e. e)) ∙ unknown-count _ _ c.entries-count.ensures

pub returns-clause-each : goal.returns-clause-each
returns-clause-each c = λ h. unknown-each c.args.geometry.now.max_depth _ h
    (ap (map entry_in) (c.in_ok-vec.ensures.items_if_clones_equal (λ y e. e)) ∙ unknown-count _ _ c.entries-count.ensures)
