-- What a client keeps before its first call fits each legal log.
use Rattle.std.specs.Prelude.{◌≡◌, ℕ, ◌≤◌, None, reverse}
use Rattle.std.proofs.Common.{sym, ap, subst}
use Rattle.verbs.specs.Logs.{Entries}
use Rattle.race_laws.specs.Setting.{Setting}
use Rattle.dir_cache.specs.Cached.{entry_of}
use Rattle.call_texts.specs.State.{State}
use Rattle.call_machine.specs.Fresh.{fresh_state}
use Rattle.whole_calls.specs.Fits.{FreshFits}
use Rattle.world_texts.specs.Fits.{Fits}

pub fresh_fits : FreshFits → (s : Setting) (l : Entries) (c tries : ℕ) (k : State) → k ≡ fresh_state s.geometry c tries → ((h : ℕ) → entry_of k.cache h ≡ None) → 1 ≤ tries → tries ≤ 64 → Fits s l c k
fresh_fits fresh s l c tries k is none some few = record {
  state = fresh s c k (reverse l) (ap (λ (x : State). x.geometry) is) (ap (λ (x : State). x.client) is) (ap (λ (x : State). x.cache.depth) is) none (ap (λ (x : State). x.area.left) is) (ap (λ (x : State). x.ticket) is);
  some = subst (λ (x : State). 1 ≤ x.tries) (sym is) some;
  few = subst (λ (x : State). x.tries ≤ 64) (sym is) few;
}
