-- What the laws of starts say. A log stands in order; its position n is the log of its first n entries.
use Rattle.std.specs.Prelude.{ℕ, ◌≤◌, ◌^◌, ◌%◌, List, length}
use Rattle.node_words.specs.Addresses.{first_table, directory_at}
use Rattle.verb_log.specs.declared.entry.Entry.{Entry}
use Rattle.verb_log.specs.Tables.{word_at}
use Rattle.verbs.specs.Terms.{SeenAgain, BlocksLast}
use Rattle.race_laws.specs.Setting.{Setting}
use Rattle.race_laws.specs.Legal.{IsLegal}
use Rattle.race_laws.specs.Laws.{position}
use Rattle.log_facts.specs.Start.{Start}
use Rattle.log_facts.specs.Among.{among}

-- a table at which a pass may start is one at each later position
abbrev pub StartLasts : Type 0
StartLasts = (s : Setting) (log : List Entry) → IsLegal s log → (n m : ℕ) → n ≤ m → m ≤ length log → (h t : ℕ) → Start s.geometry (position log n) h t → Start s.geometry (position log m) h t

-- a pass may start at the first table of its hash
abbrev pub FirstTableStarts : Type 0
FirstTableStarts = (s : Setting) (log : List Entry) → IsLegal s log → (n : ℕ) → n ≤ length log → (h : ℕ) → Start s.geometry (position log n) h (first_table s.geometry (h % 2 ^ s.geometry.first_depth))

-- a pass may start at the table that the directory word of its hash names, where the index was taken by a global depth that was
-- read no later
abbrev pub DirectoryStarts : Type 0
DirectoryStarts = (s : Setting) (log : List Entry) → IsLegal s log → (n m : ℕ) → n ≤ m → m ≤ length log → (h : ℕ) → Start s.geometry (position log m) h (word_at s.geometry (position log m) (directory_at (h % 2 ^ word_at s.geometry (position log n) 1)))

-- among others on a legal log a published block lasts, and a verb may be done at once on a log that was seen
abbrev pub PublishedLasts : Type 0
PublishedLasts = (s : Setting) (c : ℕ) → BlocksLast (among s c)

abbrev pub SeenOnce : Type 0
SeenOnce = (s : Setting) (c : ℕ) → SeenAgain (among s c)
