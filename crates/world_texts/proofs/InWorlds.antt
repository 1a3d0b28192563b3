-- A call that is safe as a program of parts is safe verb by verb.
use Rattle.std.specs.Prelude.{◌≡◌, ℕ, zero, suc, List, [], ◌∷◌, ◌++◌, slice_get, Option, None, Some, refl}
use Rattle.std.proofs.Common.{sym, subst, arith, append-nil}
use Rattle.key_hash.specs.Placing.{placed}
use Rattle.kv_block.specs.declared.changes.Change.{Change}
use Rattle.verb_log.specs.declared.entry.Verb.{Verb}
use Rattle.verb_log.specs.declared.entry.Verb.TheVariants.{Read, Write, Swap}
use Rattle.verbs.specs.Programs.{do_verb, ask_hash, Prog, ret, ask, Go, again, done, goes_on}
use Rattle.verbs.specs.Logs.{Entries, word, Begins, MayStand}
use Rattle.verbs.specs.Terms.{Terms, entry_of, May, MayDo}
use Rattle.verbs.specs.Calls as parts
use Rattle.verbs.proofs.Growth.{may_stand-push, longer-begins, begins-then}
use Rattle.race_laws.specs.Setting.{Setting, hash}
use Rattle.race_laws.specs.Legal.{MayFollow}
use Rattle.log_facts.specs.Among.{among, changes_of}
use Rattle.call_laws.specs.Judged.{judged}
use Rattle.call_texts.specs.State.{CallEnd, Stage}
use Rattle.call_texts.specs.Text.{part_of}
use Rattle.world_texts.specs.Safety.{SafeCall}
use Rattle.world_texts.specs.Texts.{whole, after_verb, one_by_one}
use Rattle.world_texts.proofs.Wholes.{whole-goes_on}
use Rattle.world_texts.proofs.Opening.{part_asks}
use Rattle.world_texts.proofs.Steps.{Asked, safe_more}

-- what holds of the one verb of a list holds of each
only_one : (v : Verb) (P : ℕ → Verb → Type 0) → P 0 v → (i : ℕ) (u : Verb) → slice_get (v ∷ []) i ≡ Some u → P i u
only_one v P h zero u e = subst (P 0) (is e) h
  where
    is : Some v ≡ Some u → v ≡ u
    is e = cc
only_one v P h (suc i) u e = absurd (cc)

-- a verb that may be done leaves a log that stands and that the one before begins
may_grown : (t : Terms) (l : Entries) (verb : Verb) (P Q : Entries → ℕ → Type 0) → MayStand t.rule l → ((m : Entries) (answer : ℕ) → MayStand t.rule m → Begins l m → P m answer → Q m answer) → May t l verb P → May t l verb Q
may_grown t l (Read at) P Q st f h = f l (word t.geometry l at) st ([], sym (append-nil l)) h
may_grown t l (Write at new) P Q st f h = (h.0, f (l ++ entry_of t l at new ∷ []) 0 (may_stand-push t.rule l (entry_of t l at new) st h.0) (entry_of t l at new ∷ [], refl) h.1)
may_grown t l (Swap at old new) P Q st f h = (
  (λ e. let x = h.0 e in (x.0, f (l ++ entry_of t l at new ∷ []) (word t.geometry l at) (may_stand-push t.rule l (entry_of t l at new) st x.0) (entry_of t l at new ∷ [], refl) x.1)),
  (λ n. f l (word t.geometry l at) st ([], sym (append-nil l)) (h.1 n)),
)

-- .. and still reads a word of the block that it names
may_do_grown : (t : Terms) (l : Entries) (block : Option ℕ) (verb : Verb) (P Q : Entries → ℕ → Type 0) → MayStand t.rule l → ((m : Entries) (answer : ℕ) → MayStand t.rule m → Begins l m → P m answer → Q m answer) → MayDo t l block verb P → MayDo t l block verb Q
may_do_grown t l None verb P Q st f h = may_grown t l verb P Q st f h
may_do_grown t l (Some block) verb P Q st f h = (h.0, may_grown t l verb P Q st f h.1)

module _ (s : Setting) (c : ℕ) (first : Entries) (End Then : Asked) (then : (before : List Change) (m : Entries) (e : CallEnd) → MayStand (MayFollow s) m → Begins first m → End before m e → Then before m e) where
  pub in_world : (n : ℕ) (before : List Change) (l : Entries) (p : Prog (Go Stage CallEnd)) → MayStand (MayFollow s) l → Begins first l → parts.SafeCall (judged s c part_of) n before l p End → SafeCall one_by_one s c n before l (whole part_of (placed s.listed) p) Then
  unfolding whole after_verb hash
  in_world n before l (ret (again x)) st b h = absurd h
  in_world zero before l (ret (done e)) st b h = then before l e st b h
  in_world (suc n) before l (ret (done e)) st b h = then before l e st b h
  in_world zero before l (ask act k) st b h = absurd h
  in_world (suc n) before l (ask (ask_hash key) k) st b h =
      let rest = in_world n before l (goes_on part_of (k (placed s.listed key))) st b h in
      safe_more one_by_one s c Then n (suc n) before l (whole part_of (placed s.listed) (k (placed s.listed key))) (omega arith)
      (subst (λ t. SafeCall one_by_one s c n before l t Then) (whole-goes_on Stage CallEnd part_of part_asks (placed s.listed) (k (placed s.listed key))) rest)
  in_world (suc n) before l (ask (do_verb block v) k) st b h = (
    h.0,
    omega arith,
    only_one v _ (
      h.1,
      λ m grown. may_do_grown (among s c) m block v
          (λ q w. parts.SafeCall (judged s c part_of) n (changes_of s m) q (goes_on part_of (k w)) End)
          (λ q w. SafeCall one_by_one s c n (changes_of s m) q (whole part_of (placed s.listed) (k w)) Then)
          grown.0
          (λ q w stands more x. subst (λ t. SafeCall one_by_one s c n (changes_of s m) q t Then) (whole-goes_on Stage CallEnd part_of part_asks (placed s.listed) (k w))
          (in_world n (changes_of s m) q (goes_on part_of (k w)) stands (begins-then first m q (begins-then first l m b (longer-begins (MayFollow s) c l m grown.1)) more) x))
          (h.2 m grown),
    ),
  )
