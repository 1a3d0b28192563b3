-- What is proved of a delete.
use Rattle.std.specs.Prelude.{◌≡◌, ℕ, ◌<◌, ◌≤◌, List, [], ◌∷◌, ◌++◌, reverse, Option, Some, None, ◌⊎◌}
use Rattle.slot_word.specs.declared.slots.Mark.TheVariants.{Live, Copied}
use Rattle.kv_block.specs.declared.changes.Change.{Change}
use Rattle.kv_block.specs.Packing.{Pair}
use Rattle.node_words.specs.declared.geometry.Geometry.{Geometry}
use Rattle.node_words.specs.Addresses.{slot_at}
use Rattle.verb_log.specs.declared.entry.Entry.{Entry}
use Rattle.verb_log.specs.declared.kind.Kind.TheVariants.{Remove}
use Rattle.verb_log.specs.Decoded.{Body, Full, content}
use Rattle.verb_log.specs.Tables.{Past}
use Rattle.verb_log.specs.Changes.{changes}
use Rattle.verb_log.specs.Kinds.{kind}
use Rattle.verbs.specs.Programs.{Prog}
use Rattle.race_laws.specs.Setting.{Setting, hash}
use Rattle.race_laws.specs.Chains.{Holder}
use Rattle.race_laws.specs.Looks.{Looked}
use Rattle.race_laws.specs.Legal.{IsLegal}
use Rattle.log_facts.specs.Start.{Start}
use Rattle.log_facts.specs.Among.{changes_of}
use Rattle.log_facts.specs.Mine.{Mine}
use Rattle.pass_text.specs.declared.job.PassMode.TheVariants.{Look}
use Rattle.pass_text.specs.declared.passed.Held.{Held as HeldWord}
use Rattle.pass_laws.specs.Law.{MayBegin, IsJobOf}
use Rattle.call_laws.specs.Judged.{SafeOnce, PlacedNone}
use Rattle.call_laws.specs.Settling.{look_job}
use Rattle.op_delete.specs.declared.end.DeleteEnd.{DeleteEnd}
use Rattle.op_delete.specs.declared.end.DeleteOutcome.{DeleteOutcome}
use Rattle.op_delete.specs.declared.end.DeleteOutcome.TheVariants.{Deleted, Missing, Again}
use Rattle.op_delete.specs.Text.{delete}
use Rattle.op_delete.specs.Bound.{delete_verbs}

-- Deleted: the last entry of the log is the client's own Remove at the slot of the held word. Before it that slot was the key's
-- holder, live in the block that was read, with the held value; `before` were the changes of the map then, and one more is now that the
-- key is gone
pub record HasRemoved (s : Setting) (c : ℕ) (key : List ℕ) (before : List Change) (q : Past) (h : HeldWord) : Type 0 where
  pub past : Past
  pub entry : Entry
  pub last : q ≡ entry ∷ past
  pub client : entry.client ≡ c
  pub at : entry.at ≡ h.at
  pub is_remove : kind s.geometry past entry ≡ Some Remove
  pub new : entry.new ≡ 0
  pub table : ℕ
  pub place : ℕ
  pub body : Body
  pub pair : Pair
  pub slot : h.at ≡ slot_at table place
  pub holder : Holder s past key table place body pair
  pub live : content entry.old ≡ Full Live body
  pub held : (content h.word ≡ Full Live body) ⊎ (content h.word ≡ Full Copied body)
  pub value : pair.value ≡ h.value
  pub told : changes s.geometry past ≡ before
  pub change : changes s.geometry q ≡ before ++ record { key = key; value = None } ∷ []

-- Missing: the key was looked for over the delete. Again: as many counted swaps were lost as might be, and fewer were before each
-- other answer. Both change nothing in the map
abbrev pub AnswersSo : Setting → ℕ → List ℕ → ℕ → Past → List Change → Past → DeleteOutcome → ℕ → Type 0
AnswersSo s c key tries from before q (Deleted h) lost = HasRemoved s c key before q h × (lost < tries)
AnswersSo s c key tries from before q Missing lost = Looked s q from key × (changes s.geometry q ≡ before) × (lost < tries)
AnswersSo s c key tries from before q Again lost = (changes s.geometry q ≡ before) × (lost ≡ tries)

-- A delete has ended that began at the position `from`. A pass may start at the table that is told. It placed no word, so no pending
-- word of its own stands; and what the client had taken and not published is so still.
pub record HasDeleted (s : Setting) (c : ℕ) (key : List ℕ) (tries : ℕ) (from : Past) (before : List Change) (q : Past) (e : DeleteEnd) : Type 0 where
  pub start : Start s.geometry q (hash s key) e.table
  pub so : AnswersSo s c key tries from before q e.outcome e.lost
  pub placed : PlacedNone s c from q
  pub keeps : (a n : ℕ) → Mine s.geometry from c a n → Mine s.geometry q c a n

-- a program that plays a delete is safe as a call of each client on each legal log on which its look may begin: whatever others add
-- between its verbs, it ends within its bound, each block that it reads is published, each of its entries may follow, none but the
-- last changes the map, and it ends so
abbrev pub IsSafeDelete : Geometry → List ℕ → ℕ → ℕ → Option ℕ → Prog DeleteEnd → Type 0
IsSafeDelete g key h tries start program =
    (s : Setting) (c : ℕ) (log : List Entry) → IsLegal s log → IsJobOf s (look_job g key h) → MayBegin s key Look (reverse log) start
    → SafeOnce s c (delete_verbs g.max_depth tries) (changes_of s log) log program (λ before log2 e. HasDeleted s c key tries (reverse log) before (reverse log2) e)

-- each delete is safe
abbrev pub DeleteIsSafe : Type 0
DeleteIsSafe = (g : Geometry) (key : List ℕ) (h tries : ℕ) → 1 ≤ tries → (start : Option ℕ) → IsSafeDelete g key h tries start (delete (look_job g key h) tries start)
