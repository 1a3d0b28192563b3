use Rattle.std.proofs.Common.{◌≡◌, not, ℕ, List}
use Rattle.std.specs.List.{list_all}
use Rattle.std.specs.Option.{option_map}
use Rattle.spelling.specs.Words.{parts_after, parts_at, is_empty}
use Rattle.script_reader.proofs.ReadItems.{words_left}
use Rattle.script_reader.proofs.draft.has_single_spaces.Given as goal

-- the words so far are not empty
abbrev pub invariant-loop-rest : goal.invariant-loop-rest
invariant-loop-rest l =
    list_all (λ (word : List ℕ). not (is_empty word)) (parts_after 32 (option_map (λ rest. rest.now) l.rest)) ≡ list_all (λ (word : List ℕ). not (is_empty word)) (parts_at 32 l.line)

abbrev pub decreases-loop-rest : goal.decreases-loop-rest
decreases-loop-rest l = words_left (option_map (λ rest. rest.now) l.rest)
