-- When the call under way may do a verb, and what the verb makes of it.
use Rattle.std.specs.Prelude.{◌≡◌, ℕ, ◌+◌, ◌<◌, ◌≤◌, ◌^◌, Bool, List, length, Some, None, is_some}
use Rattle.node_words.specs.declared.geometry.Geometry.{Geometry}
use Rattle.verb_log.specs.declared.entry.Verb.{Verb}
use Rattle.verbs.specs.Logs.{Entries, Did, place_of}
use Rattle.world_texts.specs.Sorts.{Kind, chosen, onward}
use Rattle.verb_core.specs.declared.player.Open.{Open}

-- it waits for no hash, a verb of it is outstanding, and the address of the one that the choice names is below the words
pub record MayGo {M : Type 0} (k : Kind M) (hash : List ℕ → ℕ) (words choice : ℕ) (o : Open M) : Type 0 where
  pub settled : k.wants o.machine ≡ None
  pub some : 1 ≤ length (k.sort.outstanding (k.text hash o.machine))
  pub place : (verb : Verb) → chosen (k.sort.outstanding (k.text hash o.machine)) choice ≡ Some verb → place_of verb < words
  pub few : o.verbs < 2 ^ 63

-- the chosen verb was done on the log l and made m of it, and the call goes on so, or has answered
pub record Went {M : Type 0} (k : Kind M) (hash : List ℕ → ℕ) (g : Geometry) (c : ℕ) (l : Entries) (choice : ℕ) (o : Open M) (m : Entries) (q : Open M) (answered : Bool) : Type 0 where
  pub verb : Verb
  pub word : ℕ
  pub asks : chosen (k.sort.outstanding (k.text hash o.machine)) choice ≡ Some verb
  pub did : Did g c l verb m word
  pub left : k.text hash q.machine ≡ onward k.sort hash (k.text hash o.machine) choice word
  pub lo : q.lo ≡ o.lo
  pub more : q.verbs ≡ o.verbs + 1
  pub settled : k.wants q.machine ≡ None
  pub tells : answered ≡ is_some (k.sort.answer (k.text hash q.machine))
