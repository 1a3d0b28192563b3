-- What is proved of the pass.
use Rattle.std.specs.Prelude.{◌≡◌, ℕ, ◌≤◌, List, reverse, Option, Some, None}
use Rattle.kv_block.specs.Bytes.{AreBytes}
use Rattle.node_words.specs.Addresses.{slot_at}
use Rattle.verb_log.specs.declared.entry.Entry.{Entry}
use Rattle.verb_log.specs.Tables.{Past}
use Rattle.verbs.specs.Programs.{Prog}
use Rattle.verbs.specs.Safe.{Safe}
use Rattle.race_laws.specs.Setting.{Setting, hash}
use Rattle.race_laws.specs.Chains.{OnChain}
use Rattle.race_laws.specs.Rows.{IsPlace}
use Rattle.race_laws.specs.Legal.{IsLegal}
use Rattle.log_facts.specs.Start.{Start}
use Rattle.log_facts.specs.Among.{quiet_among}
use Rattle.pass_text.specs.declared.job.Job.{Job}
use Rattle.pass_text.specs.declared.job.PassMode.{PassMode}
use Rattle.pass_text.specs.declared.job.PassMode.TheVariants.{Look, Sweep, Walk}
use Rattle.pass_text.specs.declared.passed.Passed.{Passed}
use Rattle.pass_text.specs.Pass.{pass}
use Rattle.pass_laws.specs.HasPassed.{HasPassed}

-- where a pass may begin: at a table where a pass for this hash may start, or through the directory; a sweep begins at the table
-- of its own slot, which is on the chain, and may lose a drop
abbrev pub MayBegin : Setting → List ℕ → PassMode → Past → Option ℕ → Type 0
MayBegin s key Look q None = Unit {0}
MayBegin s key Look q (Some t) = Start s.geometry q (hash s key) t
MayBegin s key (Sweep own left) q None = ⊥
MayBegin s key (Sweep own left) q (Some t) = OnChain s.geometry q (hash s key) t × (1 ≤ left) × ((place : ℕ) × IsPlace s.geometry place × (own ≡ slot_at t place))
MayBegin s key Walk q None = Unit {0}
MayBegin s key Walk q (Some t) = Start s.geometry q (hash s key) t

-- what a pass is started with is the setting's: its sizes, a key of bytes, and the key's hash
pub record IsJobOf (s : Setting) (j : Job) : Type 0 where
  pub geometry : j.geometry ≡ s.geometry
  pub hash : j.hash ≡ hash s j.key
  pub bytes : AreBytes j.key

-- a program that plays a pass is safe for each client on each legal log on which the pass may begin: whatever others add between
-- its verbs, each of its entries may follow and changes nothing in the map, each block that it reads is published, and it ends so
abbrev pub IsSafePass : Job → Option ℕ → Prog Passed → Type 0
IsSafePass j start program =
    (s : Setting) (c : ℕ) (log : List Entry) → IsLegal s log → IsJobOf s j → MayBegin s j.key j.mode (reverse log) start
    → Safe (quiet_among s c) (hash s) log program (λ log2 p. HasPassed s j.key j.mode (reverse log) (reverse log2) p)

-- each pass is safe
abbrev pub PassIsSafe : Type 0
PassIsSafe = (j : Job) (start : Option ℕ) → IsSafePass j start (pass j start)
