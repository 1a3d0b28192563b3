-- What a client learns that looks when all others have ended.
use Rattle.std.specs.Prelude.{◌≡◌, ℕ, ◌+◌, ◌<◌, true, is_some, List, [], ◌∷◌, ◌++◌, length, map, slice_get, slice_index_or, Option, Some, None}
use Rattle.std.specs.FinMap as fin
use Rattle.node_words.specs.Addresses.{node_at}
use Rattle.map_model.specs.Contents.{Contents}
use Rattle.map_model.specs.declared.calls.Call.{Call}
use Rattle.map_model.specs.declared.calls.Call.TheVariants.{Search}
use Rattle.map_model.specs.declared.calls.Reply.{Reply}
use Rattle.map_model.specs.declared.calls.Reply.TheVariants.{Found, Missing, Inserted, Exists, Updated, Deleted, Split, Again, FullDepth, FullWords, NoBlock}
use Rattle.verbs.specs.Logs.{Begins, Longer, word}
use Rattle.race_laws.specs.Legal.{MayFollow}
use Rattle.client_seat.specs.Seated.{Home, Seated}
use Rattle.call_texts.specs.State.{State}
use Rattle.call_machine.specs.declared.answer.Answer.{Answer}
use Rattle.run_laws.specs.Lives.{Lives}
use Rattle.running_play.specs.declared.worker.Worked.{Worked}

-- a search of each key
abbrev pub searches : List (List ℕ) → List Call
searches keys = map (λ (key : List ℕ). Search key) keys

-- the value that a search has found
abbrev pub value_found : Reply → Option (List ℕ)
value_found (Found value) = Some value
value_found Missing = None
value_found Inserted = None
value_found (Exists value) = None
value_found (Updated old) = None
value_found (Deleted old) = None
value_found (Split table depth) = None
value_found (Again lost) = None
value_found (FullDepth depth) = None
value_found (FullWords next need) = None
value_found (NoBlock next need) = None

-- a map with what was found of a key
abbrev pub put_found : Contents → List ℕ → Option (List ℕ) → Contents
put_found m key (Some value) = fin.insert m key value
put_found m key None = m

-- the searches of the first keys had these answers, and the map has the pairs that they found
pub record Learnt (keys : List (List ℕ)) (answers : List Answer) (m : Contents) : Type 0 where
  pub sound : (key value : List ℕ) → fin.get m key ≡ Some value → (i : ℕ) × (a : Answer) × (slice_get keys i ≡ Some key) × (slice_get answers i ≡ Some a) × (value_found a.reply ≡ Some value)
  pub full : (i : ℕ) (key value : List ℕ) (a : Answer) → slice_get keys i ≡ Some key → slice_get answers i ≡ Some a → value_found a.reply ≡ Some value → is_some (fin.get m key) ≡ true

-- the calls of a client are searches of these keys, and this is what they learnt
pub record Looks (keys : List (List ℕ)) (begin : Seated) (first : State) (last : Seated) (pairs : Contents) : Type 0 where
  pub kept : State
  pub answers : List Answer
  pub lives : Lives (searches keys) begin first (length keys) last kept answers
  pub learnt : Learnt keys answers pairs

-- the next word of a node was read
pub record ReadsNext (seat : Seated) (node : ℕ) (next : Seated) (found : ℕ) : Type 0 where
  pub home : next.home ≡ seat.home
  pub client : next.client ≡ seat.client
  pub longer : Longer (MayFollow seat.home.setting) seat.client seat.front next.front
  pub is : found ≡ word seat.home.setting.geometry next.front (node_at seat.home.setting.geometry node)

-- those of the first nodes, one after another
pub data ReadNexts (first : Seated) : ℕ → Seated → List ℕ → Type 0 where
  read_none : ReadNexts first 0 first []
  read_more : {n : ℕ} {seat : Seated} {words : List ℕ} (next : Seated) (found : ℕ) → ReadNexts first n seat words → ReadsNext seat n next found → ReadNexts first (n + 1) next (words ++ found ∷ [])

-- A seat has met all these workers, has searched the keys, and has read the next word of each node.
pub record HasSeen (home : Home) (seat : Seated) (all : List Worked) (keys : List (List ℕ)) (next : Seated) (pairs : Contents) (words : List ℕ) : Type 0 where
  pub begin : Seated
  pub home_is : begin.home ≡ home
  pub client : begin.client ≡ seat.client
  pub only : Longer (MayFollow home.setting) seat.client seat.front begin.front
  pub met : (i : ℕ) (d : Worked) → i < length all → Begins (slice_index_or all i d).seat.front begin.front
  pub first : State
  pub last : Seated
  pub looks : Looks keys begin first last pairs
  pub reads : ReadNexts last home.setting.geometry.nodes next words
