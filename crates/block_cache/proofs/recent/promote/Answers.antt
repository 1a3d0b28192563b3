use Rattle.std.proofs.Common.{sym, ap, subst, ◌∙◌}
use Rattle.std.specs.Prelude.{ℕ, Option, is_some}
use Rattle.lru.specs.LruCache.{LruCache}
use Rattle.block_cache.specs.declared.recent.KeptBlock.{KeptBlock}
use Rattle.block_cache.specs.Recent.{kept, IsPacked, with_first}
use Rattle.block_cache.proofs.EntryLemmas.{promoting, no_block}
use Rattle.std.specs.Prelude.{length}
use Rattle.block_cache.proofs.recent.promote.Goals as goal

pub returns-in-Some-clause-found : goal.returns-in-Some-clause-found
returns-in-Some-clause-found c = c.promote.ensures.value ∙ (promoting c.args.block c.args.entries.now.entries c.in-Some.key c.len.ensures.valid.0 c.requires (sym c.in-Some.ensures)).found_there

pub returns-in-Some-clause-kept : goal.returns-in-Some-clause-kept
returns-in-Some-clause-kept c = ap (λ (m : LruCache ℕ (Option KeptBlock)). kept m.entries) c.promote.ensures.entries ∙ (promoting c.args.block c.args.entries.now.entries c.in-Some.key c.len.ensures.valid.0 c.requires (sym c.in-Some.ensures)).kept_so

pub returns-in-Some-clause-packed : goal.returns-in-Some-clause-packed
returns-in-Some-clause-packed c = subst (λ (m : LruCache ℕ (Option KeptBlock)). IsPacked m.entries) (sym c.promote.ensures.entries) (promoting c.args.block c.args.entries.now.entries c.in-Some.key c.len.ensures.valid.0 c.requires (sym c.in-Some.ensures)).packed

pub returns-in-Some-clause-len : goal.returns-in-Some-clause-len
returns-in-Some-clause-len c = ap (λ (m : LruCache ℕ (Option KeptBlock)). length m.entries) c.promote.ensures.entries ∙ (promoting c.args.block c.args.entries.now.entries c.in-Some.key c.len.ensures.valid.0 c.requires (sym c.in-Some.ensures)).long

pub returns-in-None-clause-found : goal.returns-in-None-clause-found
returns-in-None-clause-found c = sym (ap (λ (o : Option KeptBlock). is_some o) (no_block c.args.block c.args.entries.now.entries (sym c.in-None.ensures)))

pub returns-in-None-clause-kept : goal.returns-in-None-clause-kept
returns-in-None-clause-kept c = sym (ap (λ (o : Option KeptBlock). with_first o c.args.block (kept c.args.entries.now.entries)) (no_block c.args.block c.args.entries.now.entries (sym c.in-None.ensures)))
