use Rattle.std.proofs.Common.{◌≡◌, ℕ, ◌+◌, List, length}
use Rattle.key_hash.specs.Placing.{placed}
use Rattle.verbs.specs.Programs.{Act}
use Rattle.verbs.specs.Logs.{Begins}
use Rattle.verbs.specs.Terms.{HasRoom, told}
use Rattle.verbs.specs.Calls.{SafeCall, AnyEnd, on_handle, RanCall}
use Rattle.block_cache.specs.Cache.{went_acts, done_of}
use Rattle.block_cache.specs.Keeps.{Keeps}
use Rattle.block_cache.proofs.driver.run_cached.Given as goal

abbrev pub invariant-loop-done : goal.invariant-loop-done
invariant-loop-done g l =
    let m = g.C.Call in
    let v = g.V.Verbs in
    let hash = placed (g.P.Placer.listed l.placer) in
    let t = v.terms (v.home l.initial.node) in
    record {
      safe : (left : ℕ) × SafeCall (on_handle t hash m.part) left tt (v.front l.node) (m.rest l.call) AnyEnd × (l._done + left ≡ l.limit);
      ran : (acts : List (Act × ℕ)) × RanCall t hash m.part (v.front l.initial.node) (m.rest l.initial.call) acts (v.front l.node) (m.rest l.call)
          × (l.cache ≡ went_acts l.initial.cache acts) × (v.trace l.node ≡ told (v.trace l.initial.node) (done_of l.initial.cache acts)) × (length acts ≡ l._done);
      still : t.grows (v.front l.node) (v.front l.node);
      keeps : Keeps t (v.front l.node) l.cache;
      kept : m.kept l.call ≡ m.kept l.initial.call;
      longer : Begins (v.front l.initial.node) (v.front l.node);
      home : v.home l.node ≡ v.home l.initial.node;
      room : (n : ℕ) → HasRoom (l._done + n) (v.room l.initial.node) → HasRoom n (v.room l.node);
    }
