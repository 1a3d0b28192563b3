-- The last verb of a call: a swap, which alone may change the map.
use Rattle.std.specs.Prelude.{◌≡◌, ◌≢◌, ℕ, suc, ◌<◌, List, [], ◌∷◌, ◌++◌, reverse, None}
use Rattle.std.proofs.Common.{sym, ◌∙◌, ap, subst}
use Rattle.kv_block.specs.declared.changes.Change.{Change}
use Rattle.verb_log.specs.declared.entry.Verb.TheVariants.{Swap}
use Rattle.verb_log.specs.Tables.{word_at}
use Rattle.verb_log.proofs.InOrder.{reverse_push, replay_index}
use Rattle.verbs.specs.Programs.{do_verb, Prog, ask, Go, goes_on}
use Rattle.verbs.specs.Logs.{Entries, change}
use Rattle.verbs.specs.Calls.{SafeCall}
use Rattle.race_laws.specs.Setting.{Setting}
use Rattle.race_laws.specs.Legal.{Meets, Legal}
use Rattle.log_facts.specs.Since.{change_in, Since}
use Rattle.log_facts.specs.Among.{changes_of}
use Rattle.log_facts.proofs.Growing.{stands_legal, longer_since, change_same}
use Rattle.call_laws.specs.Judged.{judged}

-- a call that goes on with a swap is safe where, on each legal log that others may have made of the one seen, the entry of a won
-- swap may follow and the rest is safe on the log that has it, and the rest is safe after a lost swap
pub last_swap : {S A : Type 0} (s : Setting) (c : ℕ) (part : S → Prog (Go S A)) (at old new n : ℕ) (k : ℕ → Prog (Go S A)) (End : List Change → Entries → A → Type 0) (b : List Change) (l : Entries) → changes_of s l ≡ b → at < s.geometry.words
    → ((m : Entries) → Legal s (reverse m) → Since c (reverse l) (reverse m)
    → (word_at s.geometry (reverse m) at ≡ old → Meets s (reverse m) (change_in s.geometry c (reverse m) at new)
    × ((r : Entries) → reverse r ≡ change_in s.geometry c (reverse m) at new ∷ reverse m → SafeCall (judged s c part) n (changes_of s m) r (goes_on part (k (word_at s.geometry (reverse m) at))) End))
    × (word_at s.geometry (reverse m) at ≢ old → SafeCall (judged s c part) n (changes_of s m) m (goes_on part (k (word_at s.geometry (reverse m) at))) End))
    → SafeCall (judged s c part) (suc n) b l (ask (do_verb None (Swap at old new)) k) End
last_swap s c part at old new n k End b l same low h = (
  same,
  low,
  λ m g.
      let w = replay_index s.geometry m at low in
      let e = change_same s.geometry c m at new low in
      let x = h m (stands_legal s m g.0) (longer_since s c l m g.1) in (
        (λ q.
            let y = x.0 (sym w ∙ q) in (
              subst (Meets s (reverse m)) (sym e) y.0,
              subst (λ v. SafeCall (judged s c part) n (changes_of s m) (m ++ change s.geometry c m at new ∷ []) (goes_on part (k v)) End) (sym w)
                  (y.1 (m ++ change s.geometry c m at new ∷ []) (reverse_push m (change s.geometry c m at new) ∙ ap (λ v. v ∷ reverse m) e)),
            )),
        (λ q. subst (λ v. SafeCall (judged s c part) n (changes_of s m) m (goes_on part (k v)) End) (sym w) (x.1 (λ z. q (w ∙ z)))),
      ),
)
