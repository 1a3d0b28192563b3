-- What is left of a naming.
use Rattle.std.specs.Prelude.{suc, ◌+◌, ◌==◌, if◌then◌else◌, None}
use Rattle.verb_log.specs.declared.entry.Verb.TheVariants.{Swap}
use Rattle.verbs.specs.Programs.{Prog, ret, ask, do_verb}
use Rattle.node_words.specs.Addresses.{directory_at}
use Rattle.directory.specs.declared.naming.Naming.{Naming}
use Rattle.directory.specs.declared.naming.Named.{Named}
use Rattle.directory.specs.declared.progress.Progress.{Progress}
use Rattle.directory.specs.declared.at.At.{At}
use Rattle.directory.specs.declared.at.At.TheVariants.{Depth, Lower, Upper, Deepen, Word, Birth, Name, Done}
use Rattle.directory.specs.declared.name_op.NameOp.{NameOp}
use Rattle.directory.specs.Text.{step, look, name_each, deepen, double, naming}

-- what follows the word of this index
abbrev pub goes_on : Naming → Progress → Prog Named
goes_on t s = name_each t s.depth s.left (s.index + step t)

abbrev pub at_rest : Naming → Progress → At → Prog Named
at_rest t s Depth = naming t
at_rest t s Lower = double t (suc s.left) s.index
at_rest t s Upper = ask (do_verb None (Swap (directory_at s.index) 0 s.word)) (λ found. double t s.left (s.index + 1))
at_rest t s Deepen = deepen t
at_rest t s Word = name_each t s.depth (suc s.left) s.index
at_rest t s Birth = look t (suc s.looks) s.index s.word (goes_on t s)
at_rest t s Name =
    ask (do_verb None (Swap (directory_at s.index) s.word t.child)) (λ found. if found == s.word then goes_on t s else look t s.looks s.index found (goes_on t s))
at_rest t s Done = ret (record { depth = s.depth })

abbrev pub name_rest : NameOp → Prog Named
name_rest op = at_rest op.naming op.progress op.at
