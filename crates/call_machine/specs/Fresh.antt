-- What a client keeps before its first call.
use Rattle.std.specs.Prelude.{ℕ, ◌^◌, None, replicate}
use Rattle.node_words.specs.declared.geometry.Geometry.{Geometry}
use Rattle.call_texts.specs.State.{State}

-- no entry of the cache is known, there is no ticket, and the area has no word
abbrev pub fresh_state : Geometry → ℕ → ℕ → State
fresh_state g client tries = record {
  geometry = g;
  client = client;
  tries = tries;
  cache = record { depth = g.max_depth; entries = replicate (2 ^ g.max_depth) None };
  ticket = None;
  area = record { at = 0; left = 0 };
}
