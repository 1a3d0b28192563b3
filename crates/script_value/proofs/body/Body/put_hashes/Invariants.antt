use Rattle.std.proofs.Common.{◌≡◌, ◌++◌, drop, map}
use Rattle.script_value.specs.ScriptText.{hash_words, text_of}
use Rattle.script_value.proofs.body.Body.put_hashes.Given as goal

-- the lines so far, and those that are left
abbrev pub invariant-loop-key : goal.invariant-loop-key
invariant-loop-key l = l.out.items ++ text_of (map hash_words (drop l.key-index l.self.hashes)) ≡ l.fn.out.items ++ text_of (map hash_words l.self.hashes)
