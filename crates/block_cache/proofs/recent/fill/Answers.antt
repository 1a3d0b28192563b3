use Rattle.std.proofs.Common.{sym, ap, subst, arith, refl, ◌∙◌, ◌+◌}
use Rattle.lru.specs.LruCache.{LruCache}
use Rattle.block_cache.specs.declared.recent.KeptBlock.{KeptBlock}
use Rattle.std.specs.Prelude.{ℕ, Option}
use Rattle.block_cache.proofs.EntryLemmas.{IsFresh, fresh_more}
use Rattle.block_cache.proofs.recent.fill.Goals as goal

pub loop-key-init : goal.loop-key-init
loop-key-init c = record {
  fresh = subst (IsFresh 0) (sym c.requires.empty) (record { none = refl; long = refl; low = tt });
  cap = c.requires.room;
}

pub loop-key-preserved : goal.loop-key-preserved
loop-key-preserved c =
    let lt = c.loop-key-test.true in
    let cap = c.loop-key.invariant.cap in
    record {
      fresh = subst (λ (m : LruCache ℕ (Option KeptBlock)). IsFresh (c.loop-key.key + 1) m.entries) (sym c.in-Ok.ensures.entries) (fresh_more c.loop-key.key c.loop-key.entries.cap c.loop-key.entries.entries (omega arith) c.loop-key.invariant.fresh);
      cap = ap (λ (m : LruCache ℕ (Option KeptBlock)). m.cap) c.in-Ok.ensures.entries ∙ c.loop-key.invariant.cap;
    }

pub returns-clause-kept : goal.returns-clause-kept
returns-clause-kept c = c.loop-key.invariant.fresh.none

pub returns-clause-len : goal.returns-clause-len
returns-clause-len c = let end = c.loop-key-test.false in let long = c.loop-key.invariant.fresh.long in omega arith
