use Rattle.std.proofs.Common.{rules, sym, ap, subst, ◌∙◌}
use Rattle.std.specs.Prelude.{ℕ, Option, length}
use Rattle.lru.specs.LruCache.{LruCache}
use Rattle.block_cache.specs.declared.recent.KeptBlock.{KeptBlock}
use Rattle.block_cache.specs.Recent.{kept, IsPacked}
use Rattle.block_cache.proofs.EntryLemmas.{put_last}
use Rattle.block_cache.proofs.recent.put.Goals as goal

pub unreachable-requires-in_default-put : goal.unreachable-requires-in_default-put
unreachable-requires-in_default-put c =
    let here = put_last c.args.held c.args.entries.now.entries c.args.entries.now.cap c.in-Some.key c.len.ensures.valid.0 c.requires.packed c.requires.some c.in-Some.ensures in
    let ok = c.put.ensures.succeeds here.there in
    search rules

pub returns-clause-kept : goal.returns-clause-kept
returns-clause-kept c = ap (λ (m : LruCache ℕ (Option KeptBlock)). kept m.entries) c.in-Ok.ensures.entries ∙ (put_last c.args.held c.args.entries.now.entries c.args.entries.now.cap c.in-Some.key c.len.ensures.valid.0 c.requires.packed c.requires.some c.in-Some.ensures).kept_so

pub returns-clause-packed : goal.returns-clause-packed
returns-clause-packed c = subst (λ (m : LruCache ℕ (Option KeptBlock)). IsPacked m.entries) (sym c.in-Ok.ensures.entries) (put_last c.args.held c.args.entries.now.entries c.args.entries.now.cap c.in-Some.key c.len.ensures.valid.0 c.requires.packed c.requires.some c.in-Some.ensures).packed

pub returns-clause-len : goal.returns-clause-len
returns-clause-len c = ap (λ (m : LruCache ℕ (Option KeptBlock)). length m.entries) c.in-Ok.ensures.entries ∙ (put_last c.args.held c.args.entries.now.entries c.args.entries.now.cap c.in-Some.key c.len.ensures.valid.0 c.requires.packed c.requires.some c.in-Some.ensures).long
