-- Safe newest first is safe in order.
use Rattle.std.specs.Prelude.{ℕ, ◌<◌, List, [], ◌∷◌, ◌++◌, reverse, Option, Some, None}
use Rattle.std.proofs.Common.{sym, ◌∙◌, ap, subst, append-nil}
use Rattle.verb_log.specs.declared.entry.Entry.{Entry}
use Rattle.verb_log.specs.declared.entry.Verb.{Verb}
use Rattle.verb_log.specs.declared.entry.Verb.TheVariants.{Read, Write, Swap}
use Rattle.kv_block.specs.declared.changes.Change.{Change}
use Rattle.verb_log.specs.Changes.{changes}
use Rattle.verb_log.specs.Tables.{Past, word_at}
use Rattle.verb_log.proofs.InOrder.{reverse_push, replay_index}
use Rattle.verbs.specs.Programs.{do_verb, ask_hash, Prog, ret, ask}
use Rattle.verbs.specs.Logs.{Entries, word, change, place_of}
use Rattle.verbs.specs.Terms.{May, MayDo}
use Rattle.verbs.specs.Safe.{Safe}
use Rattle.verbs.specs.Calls.{follows_quietly}
use Rattle.race_laws.specs.Setting.{Setting, hash}
use Rattle.race_laws.specs.Legal.{Meets}
use Rattle.log_facts.proofs.Growing.{stands_legal, longer_since, change_same}
use Rattle.log_facts.specs.Among.{among, changes_of, quiet_among}
use Rattle.log_facts.specs.Since.{change_in}
use Rattle.log_facts.specs.Entries.{Unchanging}
use Rattle.pass_laws.specs.SafeIn.{Rule, MayBy, MayDoBy, SafeBy, Calmly, SafeIn}

-- an entry that changes nothing in the map changes nothing that a log tells
quietly : (s : Setting) (c : ℕ) (l : Entries) (e : Entry) → Meets s (reverse l) e × Unchanging s c (reverse l) e → follows_quietly (among s c) (changes_of s) l e
quietly s c l e h = (h.0, ap (changes s.geometry) (reverse_push l e) ∙ ap (λ (v : List Change). changes s.geometry (reverse l) ++ v) h.1 ∙ append-nil (changes s.geometry (reverse l)))

-- safe newest first, by a rule of entries that change nothing in the map
module _ (R : Rule) (s : Setting) (c : ℕ) (still : (q : Past) (e : Entry) → R s c q e → Unchanging s c q e) where
  pub by_quiet : {A : Type 0} (l : Entries) (p : Prog A) (End : Past → A → Type 0) → SafeBy R s c (reverse l) p End → Safe (quiet_among s c) (hash s) l p (λ m a. End (reverse m) a)
  by_quiet l (ret a) End h = h
  by_quiet l (ask (ask_hash key) k) End h = by_quiet l (k (hash s key)) End h
  by_quiet l (ask (do_verb block verb) k) End h = (h.0, λ m b. by_act block verb h.0 m (h.1 (reverse m) (stands_legal s m b.0) (longer_since s c l m b.1)) (λ n answer x. by_quiet n (k answer) End x))
    where
      by : (v : Verb) → place_of v < s.geometry.words → (m : Entries) → MayBy R s c (reverse m) v (λ n answer. SafeBy R s c n (k answer) End) → ((n : Entries) (answer : ℕ) → SafeBy R s c (reverse n) (k answer) End → Safe (quiet_among s c) (hash s) n (k answer) (λ m a. End (reverse m) a)) → May (quiet_among s c) m v (λ n answer. Safe (quiet_among s c) (hash s) n (k answer) (λ m a. End (reverse m) a))
      by (Read at) low m x ih = ih m (word s.geometry m at) (subst (λ w. SafeBy R s c (reverse m) (k w) End) (sym (replay_index s.geometry m at low)) x)
      by (Write at new) low m x ih =
          let e = change_same s.geometry c m at new low in (
            quietly s c m (change s.geometry c m at new) (subst (λ v. Meets s (reverse m) v × Unchanging s c (reverse m) v) (sym e) (x.0.0, still (reverse m) (change_in s.geometry c (reverse m) at new) x.0.1)),
            ih (m ++ change s.geometry c m at new ∷ []) 0 (subst (λ z. SafeBy R s c z (k 0) End) (ap (λ v. v ∷ reverse m) (sym e) ∙ sym (reverse_push m (change s.geometry c m at new))) x.1),
          )
      by (Swap at old new) low m x ih =
          let e = change_same s.geometry c m at new low in
          let w = replay_index s.geometry m at low in (
            (λ q. let y = x.0 (sym w ∙ q) in (
              quietly s c m (change s.geometry c m at new) (subst (λ v. Meets s (reverse m) v × Unchanging s c (reverse m) v) (sym e) (y.0.0, still (reverse m) (change_in s.geometry c (reverse m) at new) y.0.1)),
              ih (m ++ change s.geometry c m at new ∷ []) (word s.geometry m at) (subst (λ v. SafeBy R s c (reverse (m ++ change s.geometry c m at new ∷ [])) (k v) End) (sym w) (subst (λ z. SafeBy R s c z (k (word_at s.geometry (reverse m) at)) End) (ap (λ v. v ∷ reverse m) (sym e) ∙ sym (reverse_push m (change s.geometry c m at new))) y.1)),
            )),
            (λ n. ih m (word s.geometry m at) (subst (λ v. SafeBy R s c (reverse m) (k v) End) (sym w) (x.1 (λ q. n (w ∙ q))))),
          )

      by_act : (of : Option ℕ) (v : Verb) → place_of v < s.geometry.words → (m : Entries) → MayDoBy R s c (reverse m) of v (λ n answer. SafeBy R s c n (k answer) End) → ((n : Entries) (answer : ℕ) → SafeBy R s c (reverse n) (k answer) End → Safe (quiet_among s c) (hash s) n (k answer) (λ m a. End (reverse m) a)) → MayDo (quiet_among s c) m of v (λ n answer. Safe (quiet_among s c) (hash s) n (k answer) (λ m a. End (reverse m) a))
      by_act None v low m x ih = by v low m x ih
      by_act (Some of) v low m x ih = (x.0, by v low m x.1 ih)

pub safe_in_order : {A : Type 0} (s : Setting) (c : ℕ) (l : Entries) (p : Prog A) (End : Past → A → Type 0) → SafeIn s c (reverse l) p End → Safe (quiet_among s c) (hash s) l p (λ m a. End (reverse m) a)
safe_in_order s c l p End h = by_quiet Calmly s c (λ q e r. r.0) l p End h
