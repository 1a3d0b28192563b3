-- The commands that words name.
use Rattle.std.specs.Prelude.{ℕ, ◌&&◌, if◌then◌else◌, List, [], ◌∷◌, codes, Option, Some, None}
use Rattle.kv_block.specs.Bytes.{key_eq}
use Rattle.spelling.specs.Spelling.{is_within}
use Rattle.spelling.specs.Words.{number_of}
use Rattle.race_play.specs.declared.command.Command.{Command}
use Rattle.race_play.specs.declared.command.Command.TheVariants.{Replay, Run, Storm, Image, Audit}

-- a storm of these numbers, where they are within their limits
abbrev pub storm_of : Option ℕ → Option ℕ → Option ℕ → Option Command
storm_of (Some seed) (Some clients) (Some calls) = if is_within 1 16 clients && is_within 1 1024 calls then Some (Storm seed clients calls) else None
storm_of _ _ _ = None

-- the command of one word
abbrev pub command_of_word : List ℕ → Option Command
command_of_word word =
    if key_eq word (codes "replay") then Some Replay else if key_eq word (codes "run") then Some Run else if key_eq word (codes "image") then Some Image else if key_eq word (codes "audit") then Some Audit else None

-- the command that words name: `replay`, `run`, `image` or `audit`, or `storm` with three decimal numbers
abbrev pub command_of : List (List ℕ) → Option Command
command_of (word ∷ []) = command_of_word word
command_of (word ∷ seed ∷ clients ∷ calls ∷ []) =
    if key_eq word (codes "storm") then storm_of (number_of seed) (number_of clients) (number_of calls) else None
command_of _ = None
