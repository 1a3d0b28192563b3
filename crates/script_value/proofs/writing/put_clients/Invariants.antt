use Rattle.std.proofs.Common.{◌≡◌, ◌++◌, length, map}
use Rattle.std.specs.List.{flat_map}
use Rattle.script_value.specs.Content.{client_view}
use Rattle.script_value.specs.ScriptText.{client_words, text_of}
use Rattle.script_value.proofs.writing.put_clients.Given as goal

-- the lines so far, and those that are left
abbrev pub invariant-loop-name : goal.invariant-loop-name
invariant-loop-name l =
    l.out.items ++ text_of (flat_map client_words (map client_view l.rest)) ≡ l.fn.out.items ++ text_of (flat_map client_words (map client_view l.clients.entries))

abbrev pub decreases-loop-name : goal.decreases-loop-name
decreases-loop-name l = length l.rest
