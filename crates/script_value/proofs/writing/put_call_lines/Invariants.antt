use Rattle.std.proofs.Common.{◌≡◌, ◌++◌, map}
use Rattle.script_value.specs.ScriptText.{call_words, text_of}
use Rattle.script_value.proofs.writing.put_call_lines.Given as goal

-- the lines so far, and those of the calls that are left
abbrev pub invariant-loop-call : goal.invariant-loop-call
invariant-loop-call l = l.out.items ++ text_of (map call_words l.call-iterator) ≡ l.fn.out.items ++ text_of (map call_words l.calls.items)
