-- What is proved of an update.
use Rattle.std.specs.Prelude.{◌≡◌, ℕ, ◌<◌, ◌≤◌, List, [], ◌∷◌, ◌++◌, reverse, length, slice_index, Option, Some, ◌⊎◌}
use Rattle.slot_word.specs.declared.slots.Mark.TheVariants.{Live, Copied}
use Rattle.kv_block.specs.declared.changes.Change.{Change}
use Rattle.kv_block.specs.Packing.{Pair, IsPair, packed}
use Rattle.node_words.specs.declared.geometry.Geometry.{Geometry}
use Rattle.node_words.specs.Addresses.{slot_at}
use Rattle.bucket_group.specs.Buckets.{fingerprint_of}
use Rattle.verb_log.specs.declared.entry.Entry.{Entry}
use Rattle.verb_log.specs.declared.kind.Kind.TheVariants.{Replace}
use Rattle.verb_log.specs.Decoded.{Body, Full, content}
use Rattle.verb_log.specs.Tables.{Past, pair_at}
use Rattle.verb_log.specs.Changes.{changes}
use Rattle.verb_log.specs.Kinds.{kind}
use Rattle.verbs.specs.Programs.{Prog}
use Rattle.race_laws.specs.Setting.{Setting, hash}
use Rattle.race_laws.specs.Chains.{Holder}
use Rattle.race_laws.specs.Looks.{Looked}
use Rattle.race_laws.specs.Legal.{IsLegal}
use Rattle.log_facts.specs.Start.{Start}
use Rattle.log_facts.specs.Among.{changes_of}
use Rattle.pass_text.specs.declared.job.PassMode.TheVariants.{Look}
use Rattle.pass_text.specs.declared.passed.Held.{Held as HeldWord}
use Rattle.pass_laws.specs.Law.{MayBegin, IsJobOf}
use Rattle.block_taking.specs.declared.taking.Area.{Area}
use Rattle.block_taking.specs.Holdings.{Owns}
use Rattle.block_taking.specs.Law.{WasFull}
use Rattle.call_laws.specs.Judged.{SafeOnce, PlacedNone}
use Rattle.call_laws.specs.Settling.{look_job}
use Rattle.op_update.specs.declared.end.UpdateEnd.{UpdateEnd}
use Rattle.op_update.specs.declared.end.UpdateOutcome.{UpdateOutcome}
use Rattle.op_update.specs.declared.end.UpdateOutcome.TheVariants.{Updated, Missing, Again, NoBlock}
use Rattle.op_update.specs.Text.{Plan, update}
use Rattle.op_update.specs.Bound.{update_verbs}

-- the update of this pair, whose key has this hash, by a client with a number
abbrev pub plan_of : Geometry → ℕ → Pair → ℕ → ℕ → Plan
plan_of g client pair h tries = record { job = look_job g pair.key h; print = fingerprint_of h; taking = record { geometry = g; client = client; block = packed pair.key pair.value }; tries = tries }

-- Updated: the last entry of the log is the client's own Replace at the slot of the held word. Before it that slot was the key's
-- holder, live in the block that was read, with the held value; its new word is live of the block at the address that is told, which
-- has the pair; `before` were the changes of the map then, and one more is now that the key has the new value
pub record HasReplaced (s : Setting) (c : ℕ) (pair : Pair) (before : List Change) (q : Past) (h : HeldWord) (new_at : ℕ) : Type 0 where
  pub past : Past
  pub entry : Entry
  pub last : q ≡ entry ∷ past
  pub client : entry.client ≡ c
  pub at : entry.at ≡ h.at
  pub is_replace : kind s.geometry past entry ≡ Some Replace
  pub table : ℕ
  pub place : ℕ
  pub body : Body
  pub old : Pair
  pub slot : h.at ≡ slot_at table place
  pub holder : Holder s past pair.key table place body old
  pub live : content entry.old ≡ Full Live body
  pub held : (content h.word ≡ Full Live body) ⊎ (content h.word ≡ Full Copied body)
  pub value : old.value ≡ h.value
  pub new_body : Body
  pub new : content entry.new ≡ Full Live new_body
  pub new_block : new_body.at ≡ new_at
  pub packs : pair_at s.geometry past new_body ≡ Some pair
  pub told : changes s.geometry past ≡ before
  pub change : changes s.geometry q ≡ before ++ record { key = pair.key; value = Some pair.value } ∷ []

-- NoBlock: the list has a number for each node, and at a position of the update each node was read to be full
pub record HasNoBlock (s : Setting) (pair : Pair) (from q : Past) (next : List ℕ) (words : ℕ) : Type 0 where
  pub need : words ≡ length (packed pair.key pair.value)
  pub count : length next ≡ s.geometry.nodes
  pub full : (k : ℕ) → k < s.geometry.nodes → WasFull s from q k (slice_index next k) words

-- Missing: the key was looked for over the update. Again: as many counted swaps were lost as might be, and fewer were before each
-- other answer. None of these three changes anything in the map
abbrev pub AnswersSo : Setting → ℕ → Pair → ℕ → Past → List Change → Past → UpdateOutcome → ℕ → Type 0
AnswersSo s c pair tries from before q (Updated h at) lost = HasReplaced s c pair before q h at × (lost < tries)
AnswersSo s c pair tries from before q Missing lost = Looked s q from pair.key × (changes s.geometry q ≡ before) × (lost < tries)
AnswersSo s c pair tries from before q Again lost = (changes s.geometry q ≡ before) × (lost ≡ tries)
AnswersSo s c pair tries from before q (NoBlock next words) lost = HasNoBlock s pair from q next words × (changes s.geometry q ≡ before) × (lost < tries)

-- An update has ended that began at the position `from`. A pass may start at the table that is told, the area that is told is the
-- client's, and no word of it is published. It placed no word, so no pending word of its own stands.
pub record HasUpdated (s : Setting) (c : ℕ) (pair : Pair) (tries : ℕ) (from : Past) (before : List Change) (q : Past) (e : UpdateEnd) : Type 0 where
  pub start : Start s.geometry q (hash s pair.key) e.table
  pub owns : Owns s c e.area q
  pub so : AnswersSo s c pair tries from before q e.outcome e.lost
  pub placed : PlacedNone s c from q

-- a program that plays an update is safe as a call of each client on each legal log on which its look may begin, with an area that is
-- the client's: whatever others add between its verbs, it ends within its bound, each block that it reads is published, each of its
-- entries may follow, none but the last changes the map, and it ends so
abbrev pub IsSafeUpdate : Geometry → ℕ → Pair → ℕ → ℕ → Area → Option ℕ → Prog UpdateEnd → Type 0
IsSafeUpdate g client pair h tries area start program =
    (s : Setting) (c : ℕ) (log : List Entry) → IsLegal s log → IsJobOf s (look_job g pair.key h) → MayBegin s pair.key Look (reverse log) start → Owns s c area (reverse log)
    → SafeOnce s c (update_verbs (plan_of g client pair h tries)) (changes_of s log) log program (λ before log2 e. HasUpdated s c pair tries (reverse log) before (reverse log2) e)

-- each update is safe
abbrev pub UpdateIsSafe : Type 0
UpdateIsSafe = (g : Geometry) (client : ℕ) (pair : Pair) → IsPair pair → (h tries : ℕ) → 1 ≤ tries → (area : Area) (start : Option ℕ) → IsSafeUpdate g client pair h tries area start (update (plan_of g client pair h tries) area start)
