-- What is proved of a search.
use Rattle.std.specs.Prelude.{◌≡◌, ℕ, List, reverse, Option}
use Rattle.verb_log.specs.declared.entry.Entry.{Entry}
use Rattle.verb_log.specs.Tables.{Past}
use Rattle.verbs.specs.Programs.{Prog}
use Rattle.verbs.specs.Safe.{Safe}
use Rattle.race_laws.specs.Setting.{Setting, hash}
use Rattle.race_laws.specs.Looks.{Looked}
use Rattle.race_laws.specs.Legal.{IsLegal}
use Rattle.log_facts.specs.Start.{Start}
use Rattle.log_facts.specs.Among.{quiet_among}
use Rattle.pass_text.specs.declared.job.Job.{Job}
use Rattle.pass_text.specs.declared.job.PassMode.TheVariants.{Look}
use Rattle.pass_laws.specs.HasPassed.{HeldAt}
use Rattle.pass_laws.specs.Law.{MayBegin, IsJobOf}
use Rattle.op_search.specs.declared.end.SearchEnd.{SearchEnd}
use Rattle.op_search.specs.declared.end.SearchOutcome.{SearchOutcome}
use Rattle.op_search.specs.declared.end.SearchOutcome.TheVariants.{Found, Missing}
use Rattle.op_search.specs.Text.{search}

-- Found: at a position of the search the word was the key's holder, with the value. Missing: the key was looked for over the search
abbrev pub AnswersSo : Setting → List ℕ → Past → Past → ℕ → SearchOutcome → Type 0
AnswersSo s key from q t (Found h) = HeldAt s key from q t h
AnswersSo s key from q t Missing = Looked s q from key

-- A search has ended. A pass may start at the table that is told.
pub record HasSearched (s : Setting) (key : List ℕ) (from q : Past) (e : SearchEnd) : Type 0 where
  pub start : Start s.geometry q (hash s key) e.table
  pub so : AnswersSo s key from q e.table e.outcome

-- a program that plays a search is safe for each client on each legal log on which the look may begin: whatever others add between
-- its verbs, each of its entries may follow and changes nothing in the map, each block that it reads is published, and it ends so
abbrev pub IsSafeSearch : Job → Option ℕ → Prog SearchEnd → Type 0
IsSafeSearch j start program =
    (s : Setting) (c : ℕ) (log : List Entry) → IsLegal s log → IsJobOf s j → MayBegin s j.key Look (reverse log) start
    → Safe (quiet_among s c) (hash s) log program (λ log2 e. HasSearched s j.key (reverse log) (reverse log2) e)

-- each search is safe
abbrev pub SearchIsSafe : Type 0
SearchIsSafe = (j : Job) → j.mode ≡ Look → (start : Option ℕ) → IsSafeSearch j start (search j start)
