-- Calls without a split: a program that is safe newest first is so in order, its last swap may change the map, and it keeps each fact
-- that entries keep which use no lock of the client.
use Rattle.std.specs.Prelude.{◌≡◌, ◌≢◌, ℕ, zero, suc, ◌<◌, List, [], ◌∷◌, ◌++◌, reverse, Option, Some, None}
use Rattle.std.proofs.Common.{sym, ◌∙◌, ap, subst, append-nil}
use Rattle.kv_block.specs.declared.changes.Change.{Change}
use Rattle.verb_log.specs.declared.entry.Entry.{Entry}
use Rattle.verb_log.specs.declared.entry.Verb.{Verb}
use Rattle.verb_log.specs.declared.entry.Verb.TheVariants.{Read, Write, Swap}
use Rattle.verb_log.specs.Changes.{changes}
use Rattle.verb_log.specs.Tables.{Past, word_at}
use Rattle.verb_log.proofs.InOrder.{reverse_push, replay_index}
use Rattle.verbs.specs.Programs.{do_verb, ask_hash, Prog, ret, ask, Go, again, done, goes_on}
use Rattle.verbs.specs.Logs.{Entries, word, change, place_of}
use Rattle.verbs.specs.Terms.{Terms, May, MayDo}
use Rattle.verbs.specs.Safe.{Safe}
use Rattle.verbs.specs.Calls.{SafeCall, quiet, follows_quietly}
use Rattle.race_laws.specs.Setting.{Setting, hash}
use Rattle.race_laws.specs.Legal.{Meets, Legal}
use Rattle.log_facts.specs.Among.{among, changes_of}
use Rattle.log_facts.specs.Beside.{Beside, Firm}
use Rattle.log_facts.specs.Since.{change_in, Since}
use Rattle.log_facts.proofs.Growing.{stands_legal, longer_since, change_same}
use Rattle.log_facts.proofs.Mild.{firm_on}
use Rattle.pass_laws.specs.SafeIn.{MayBy, MayDoBy, Calmly, SafeIn}
use Rattle.call_laws.specs.Judged.{judged, mild_among, judged_mildly}

-- the same terms, with no entry of the client that changes the map
abbrev pub calm_among : Setting → ℕ → Terms
calm_among s c = quiet (mild_among s c) (changes_of s)

-- a calm entry changes nothing that a log tells, and uses no lock
calm_follows : (s : Setting) (c : ℕ) (l : Entries) (e : Entry) → Meets s (reverse l) e × Calmly s c (reverse l) e → follows_quietly (mild_among s c) (changes_of s) l e
calm_follows s c l e h = (
  (h.0, h.1.1),
  ap (changes s.geometry) (reverse_push l e) ∙ ap (λ (v : List Change). changes s.geometry (reverse l) ++ v) h.1.0 ∙ append-nil (changes s.geometry (reverse l)),
)

pub safe_calmly : {A : Type 0} (s : Setting) (c : ℕ) (l : Entries) (p : Prog A) (End : Past → A → Type 0) → SafeIn s c (reverse l) p End → Safe (calm_among s c) (hash s) l p (λ m a. End (reverse m) a)
safe_calmly s c l (ret a) End h = h
safe_calmly s c l (ask (ask_hash key) k) End h = safe_calmly s c l (k (hash s key)) End h
safe_calmly s c l (ask (do_verb block verb) k) End h = (h.0, λ m b. by_act block verb h.0 m (h.1 (reverse m) (stands_legal s m b.0) (longer_since s c l m b.1)) (λ n answer x. safe_calmly s c n (k answer) End x))
  where
    by : (v : Verb) → place_of v < s.geometry.words → (m : Entries) → MayBy Calmly s c (reverse m) v (λ n answer. SafeIn s c n (k answer) End) → ((n : Entries) (answer : ℕ) → SafeIn s c (reverse n) (k answer) End → Safe (calm_among s c) (hash s) n (k answer) (λ m a. End (reverse m) a)) → May (calm_among s c) m v (λ n answer. Safe (calm_among s c) (hash s) n (k answer) (λ m a. End (reverse m) a))
    by (Read at) low m x ih = ih m (word s.geometry m at) (subst (λ w. SafeIn s c (reverse m) (k w) End) (sym (replay_index s.geometry m at low)) x)
    by (Write at new) low m x ih =
        let e = change_same s.geometry c m at new low in (
          calm_follows s c m (change s.geometry c m at new) (subst (λ v. Meets s (reverse m) v × Calmly s c (reverse m) v) (sym e) x.0),
          ih (m ++ change s.geometry c m at new ∷ []) 0 (subst (λ z. SafeIn s c z (k 0) End) (ap (λ v. v ∷ reverse m) (sym e) ∙ sym (reverse_push m (change s.geometry c m at new))) x.1),
        )
    by (Swap at old new) low m x ih =
        let e = change_same s.geometry c m at new low in
        let w = replay_index s.geometry m at low in (
          (λ q. let y = x.0 (sym w ∙ q) in (
            calm_follows s c m (change s.geometry c m at new) (subst (λ v. Meets s (reverse m) v × Calmly s c (reverse m) v) (sym e) y.0),
            ih (m ++ change s.geometry c m at new ∷ []) (word s.geometry m at) (subst (λ v. SafeIn s c (reverse (m ++ change s.geometry c m at new ∷ [])) (k v) End) (sym w) (subst (λ z. SafeIn s c z (k (word_at s.geometry (reverse m) at)) End) (ap (λ v. v ∷ reverse m) (sym e) ∙ sym (reverse_push m (change s.geometry c m at new))) y.1)),
          )),
          (λ n. ih m (word s.geometry m at) (subst (λ v. SafeIn s c (reverse m) (k v) End) (sym w) (x.1 (λ q. n (w ∙ q))))),
        )

    by_act : (of : Option ℕ) (v : Verb) → place_of v < s.geometry.words → (m : Entries) → MayDoBy Calmly s c (reverse m) of v (λ n answer. SafeIn s c n (k answer) End) → ((n : Entries) (answer : ℕ) → SafeIn s c (reverse n) (k answer) End → Safe (calm_among s c) (hash s) n (k answer) (λ m a. End (reverse m) a)) → MayDo (calm_among s c) m of v (λ n answer. Safe (calm_among s c) (hash s) n (k answer) (λ m a. End (reverse m) a))
    by_act None v low m x ih = by v low m x ih
    by_act (Some of) v low m x ih = (x.0, by v low m x.1 ih)

-- the last verb of a call, which alone may change the map: on each legal log that others may have made of the one seen, the entry of a
-- won swap may follow and uses no lock, and the rest is safe on the log that has it, and after a lost swap
pub mild_swap : {S A : Type 0} (s : Setting) (c : ℕ) (part : S → Prog (Go S A)) (at old new n : ℕ) (k : ℕ → Prog (Go S A)) (End : List Change → Entries → A → Type 0) (b : List Change) (l : Entries) → changes_of s l ≡ b → at < s.geometry.words
    → ((m : Entries) → Legal s (reverse m) → Since c (reverse l) (reverse m)
    → (word_at s.geometry (reverse m) at ≡ old → (Meets s (reverse m) (change_in s.geometry c (reverse m) at new) × Beside s c (reverse m) (change_in s.geometry c (reverse m) at new))
    × ((r : Entries) → reverse r ≡ change_in s.geometry c (reverse m) at new ∷ reverse m → SafeCall (judged_mildly s c part) n (changes_of s m) r (goes_on part (k (word_at s.geometry (reverse m) at))) End))
    × (word_at s.geometry (reverse m) at ≢ old → SafeCall (judged_mildly s c part) n (changes_of s m) m (goes_on part (k (word_at s.geometry (reverse m) at))) End))
    → SafeCall (judged_mildly s c part) (suc n) b l (ask (do_verb None (Swap at old new)) k) End
mild_swap s c part at old new n k End b l same low h = (
  same,
  low,
  λ m g.
      let w = replay_index s.geometry m at low in
      let e = change_same s.geometry c m at new low in
      let x = h m (stands_legal s m g.0) (longer_since s c l m g.1) in (
        (λ q.
            let y = x.0 (sym w ∙ q) in (
              subst (λ v. Meets s (reverse m) v × Beside s c (reverse m) v) (sym e) y.0,
              subst (λ v. SafeCall (judged_mildly s c part) n (changes_of s m) (m ++ change s.geometry c m at new ∷ []) (goes_on part (k v)) End) (sym w)
                  (y.1 (m ++ change s.geometry c m at new ∷ []) (reverse_push m (change s.geometry c m at new) ∙ ap (λ v. v ∷ reverse m) e)),
            )),
        (λ q. subst (λ v. SafeCall (judged_mildly s c part) n (changes_of s m) m (goes_on part (k v)) End) (sym w) (x.1 (λ z. q (w ∙ z)))),
      ),
)

-- a fact that entries beside keep is kept by a call without a split, judged as any call
module _ (s : Setting) (c : ℕ) (P : Past → Type 0) (f : Firm s c P) where
  may_keep : (m : Entries) (v : Verb) (X Y : Entries → ℕ → Type 0) → Legal s (reverse m) → P (reverse m) → ((q : Entries) (w : ℕ) → P (reverse q) → X q w → Y q w) → May (mild_among s c) m v X → May (among s c) m v Y
  may_keep m (Read at) X Y l p go h = go m (word s.geometry m at) p h
  may_keep m (Write at new) X Y l p go h =
      let e = change s.geometry c m at new in
      let leg : Legal s (e ∷ reverse m) = (l, h.0.0) in
      (h.0.0, go (m ++ e ∷ []) 0 (subst P (sym (reverse_push m e)) (f (reverse m) e leg h.0.1 p)) h.1)
  may_keep m (Swap at old new) X Y l p go h =
      let e = change s.geometry c m at new in (
        (λ q. let x = h.0 q in
            let leg : Legal s (e ∷ reverse m) = (l, x.0.0) in
            (x.0.0, go (m ++ e ∷ []) (word s.geometry m at) (subst P (sym (reverse_push m e)) (f (reverse m) e leg x.0.1 p)) x.1)),
        (λ n. go m (word s.geometry m at) p (h.1 n)),
      )

  may_do_keep : (m : Entries) (of : Option ℕ) (v : Verb) (X Y : Entries → ℕ → Type 0) → Legal s (reverse m) → P (reverse m) → ((q : Entries) (w : ℕ) → P (reverse q) → X q w → Y q w) → MayDo (mild_among s c) m of v X → MayDo (among s c) m of v Y
  may_do_keep m None v X Y l p go h = may_keep m v X Y l p go h
  may_do_keep m (Some of) v X Y l p go h = (h.0, may_keep m v X Y l p go h.1)

  module _ {S A : Type 0} (part : S → Prog (Go S A)) (End : List Change → Entries → A → Type 0) where
    pub kept_call : (n : ℕ) (b : List Change) (l : Entries) (p : Prog (Go S A)) → P (reverse l) → SafeCall (judged_mildly s c part) n b l p End → SafeCall (judged s c part) n b l p (λ b m d. End b m d × P (reverse m))
    kept_call n b l (ret (again st)) p h = absurd h
    kept_call n b l (ret (done a)) p h = (h, p)
    kept_call zero b l (ask act k) p h = absurd h
    kept_call (suc n) b l (ask (ask_hash key) k) p h = kept_call n b l (goes_on part (k (hash s key))) p h
    kept_call (suc n) b l (ask (do_verb block verb) k) p h = (
      h.0,
      h.1,
      λ m g.
          let lm = stands_legal s m g.0 in
          may_do_keep m block verb (λ q w. SafeCall (judged_mildly s c part) n (changes_of s m) q (goes_on part (k w)) End) (λ q w. SafeCall (judged s c part) n (changes_of s m) q (goes_on part (k w)) (λ b2 m2 d. End b2 m2 d × P (reverse m2)))
          lm (firm_on s c P f (longer_since s c l m g.1) lm p) (λ q w pq x. kept_call n (changes_of s m) q (goes_on part (k w)) pq x) (h.2 m g),
    )
