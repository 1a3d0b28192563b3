-- What a client does of whose verbs several may be outstanding, as a tree: an outcome, or verbs that are posted together and
-- what follows each of them once it is done.
use Rattle.std.specs.Prelude.{ℕ, zero, suc, List, [], ◌∷◌, length, map, slice_index, slice_get, option_map, Option, Some, None}
use Rattle.verb_log.specs.declared.entry.Verb.{Verb}
use Rattle.verb_log.specs.declared.entry.Verb.TheVariants.{Read}

-- a verb that is posted, and the address of the published block of which it reads a word, where it does
pub record Request : Type 0 where
  pub block : Option ℕ
  pub verb : Verb

-- it has ended, or its requests stand in the order of posting; what follows is told by the number among them of the one that
-- is done, and by its answer
pub data Posts (A : Type 0) : Type 0 where
  ends : A → Posts A
  posts : List Request → (ℕ → ℕ → Posts A) → Posts A

-- the verbs that are outstanding, in the order of posting
abbrev pub outstanding : {A : Type 0} → Posts A → List Request
outstanding (ends a) = []
outstanding (posts requests next) = requests

-- what is left once the one of this number has its answer
abbrev pub completed : {A : Type 0} → Posts A → ℕ → ℕ → Posts A
completed (ends a) i word = ends a
completed (posts requests next) i word = next i word

-- the verb of the one of this number
abbrev pub verb_at : List Request → ℕ → Option Verb
verb_at requests i = option_map (λ (r : Request). r.verb) (slice_get requests i)

-- how it has ended
abbrev pub end_of : {A : Type 0} → Posts A → Option A
end_of (ends a) = Some a
end_of (posts requests next) = None

-- a posted read: its address, and its word once it is done
pub data Posted : Type 0 where
  waits : ℕ → Posted
  has : ℕ → ℕ → Posted

-- those that wait, which read words of one block, or of none
abbrev pub waiting : Option ℕ → List Posted → List Request
waiting block [] = []
waiting block (waits at ∷ xs) = record { block = block; verb = Read at } ∷ waiting block xs
waiting block (has at word ∷ xs) = waiting block xs

-- the words in the order of posting
abbrev pub words : List Posted → List ℕ
words [] = []
words (waits at ∷ xs) = 0 ∷ words xs
words (has at word ∷ xs) = word ∷ words xs

-- the one of this number among those that wait has its word
abbrev pub fill : List Posted → ℕ → ℕ → List Posted
fill [] i word = []
fill (has at w ∷ xs) i word = has at w ∷ fill xs i word
fill (waits at ∷ xs) zero word = has at word ∷ xs
fill (waits at ∷ xs) (suc i) word = waits at ∷ fill xs i word

-- posted reads of which n wait: any of them may be done next, and once all are done, what follows is told by their words
abbrev pub reads : {A : Type 0} → Option ℕ → ℕ → List Posted → (List ℕ → Posts A) → Posts A
reads block zero xs go_on = go_on (words xs)
reads block (suc n) xs go_on = posts (waiting block xs) (λ i word. reads block n (fill xs i word) go_on)

-- the reads of these addresses are posted together; where there are none, it goes on at once
abbrev pub post : {A : Type 0} → Option ℕ → List ℕ → (List ℕ → Posts A) → Posts A
post block ats go_on = reads block (length ats) (map waits ats) go_on

-- one read alone
abbrev pub post_one : {A : Type 0} → ℕ → (ℕ → Posts A) → Posts A
post_one at go_on = post None (at ∷ []) (λ ws. go_on (slice_index ws 0))

-- the addresses of n words from one on
abbrev pub range : ℕ → ℕ → List ℕ
range at zero = []
range at (suc n) = at ∷ range (suc at) n
