-- The first point at which the map gives a reply.
use Rattle.std.specs.Prelude.{◌≡◌, ◌≢◌, ℕ, ◌+◌, ◌<◌, ◌≤◌, List, [], ◌∷◌, length, Option, Some}
use Rattle.std.specs.FinMap as map
use Rattle.kv_block.specs.declared.changes.Change.{Change}
use Rattle.map_model.specs.declared.calls.Call.{Call}
use Rattle.map_model.specs.declared.calls.Reply.{Reply}
use Rattle.map_model.specs.Machine.{reply_of, map_at}
use Rattle.map_model.specs.Places.{value_of}

-- the least point from `lo` on at which the map gives this reply; the number of changes plus 1 where there is none
pub record IsFirst (changes : List Change) (lo : ℕ) (call : Call) (reply : Reply) (point : ℕ) : Type 0 where
  pub from : lo ≤ point
  pub upto : point ≤ length changes + 1
  pub gives : point ≤ length changes → reply_of (map_at changes point) call ≡ Some reply
  pub earlier : (n : ℕ) → lo ≤ n → n < point → reply_of (map_at changes n) call ≢ Some reply

-- the key has `value` from `start` up to its change at the first of the places, and so on
abbrev pub Steady : List Change → List ℕ → Option (List ℕ) → ℕ → List ℕ → Type 0
Steady changes key value start [] = (n : ℕ) → start ≤ n → n ≤ length changes → map.get (map_at changes n) key ≡ value
Steady changes key value start (p ∷ ps) =
    ((n : ℕ) → start ≤ n → n ≤ p → map.get (map_at changes n) key ≡ value) × (start ≤ p) × (p < length changes)
    × Steady changes key (value_of changes p) (p + 1) ps
