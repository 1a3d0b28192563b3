-- A client's acts with a cache or without: one act more.
use Rattle.std.specs.Prelude.{◌≡◌, ℕ, ◌≤◌, List, [], ◌∷◌, ◌++◌, length, Option, Some, None, IsSome, refl}
use Rattle.std.proofs.Common.{sym, ◌∙◌, ap, subst, inl, inr, arith, append-nil, length-append}
use Rattle.std.proofs.lemmas.Bool.{cases_eq}
use Rattle.verb_log.specs.declared.entry.Verb.{Verb}
use Rattle.verb_log.specs.declared.entry.Verb.TheVariants.{Read, Write, Swap}
use Rattle.node_words.specs.declared.geometry.Geometry.{Geometry}
use Rattle.verbs.specs.Programs.{Act, do_verb, ask_hash, ret, ask, again, done, Go, next_act, block_of, asked, answer_of, verbs_of}
use Rattle.verbs.specs.Logs.{Entries, Begins, Did, word}
use Rattle.verbs.specs.Terms.{Terms, BlocksLast, Step}
use Rattle.verbs.proofs.Growth.{longer-begins, begins-then}
use Rattle.verbs.proofs.Progs.{verbs_of-append}
use Rattle.race_laws.specs.Setting.{Setting}
use Rattle.race_laws.specs.Legal.{MayFollow}
use Rattle.log_facts.specs.Among.{among}
use Rattle.client_seat.specs.declared.view.Deed.{Deed}
use Rattle.client_seat.specs.Traces.{Stood, AreAt, verbs_in}
use Rattle.client_seat.proofs.Traces.{are_at-longer, are_at-push}
use Rattle.call_texts.specs.State.{CallEnd, Stage}
use Rattle.call_texts.specs.Text.{part_of}
use Rattle.block_cache.specs.declared.reading.Reading.{Reading}
use Rattle.block_cache.specs.declared.reading.Reading.TheVariants.{Idle, Serving, Taking}
use Rattle.block_cache.specs.Cache.{Cache}
use Rattle.block_cache.specs.Keeps.{IsPublished, UnderWay, Keeps}
use Rattle.block_cache.proofs.KeptLemmas.{all_to, went_more, done_more}
use Rattle.world_texts.specs.Texts.{whole, after_verb}
use Rattle.running_client.specs.Traces.{Text, RanCall, ran_none, ran_more}
use Rattle.running_client.specs.Cached.{acts_in, went_one, went_all, done_one, done_all, AllKept}

-- what is left of a text after these verbs
abbrev left_after : (List ℕ → ℕ) → Text → List (Verb × ℕ) → Text
left_after hash p [] = p
left_after hash p (x ∷ trace) = left_after hash (after_verb part_of hash p x.1) trace

left_more : (hash : List ℕ → ℕ) (p : Text) (trace : List (Verb × ℕ)) (x : Verb × ℕ) → left_after hash p (trace ++ x ∷ []) ≡ after_verb part_of hash (left_after hash p trace) x.1
left_more hash p [] x = refl
left_more hash p (y ∷ trace) x = left_more hash (after_verb part_of hash p y.1) trace x

-- it is what the run tells
ran_left : (hash : List ℕ → ℕ) (p q : Text) (trace : List (Verb × ℕ)) → RanCall hash p trace q → left_after hash p trace ≡ q
ran_left hash p q2 t2 ran_none = refl
ran_left hash p q2 t2 (ran_more {t = t} {q = q} verb word ran e) = left_more hash p t (verb, word) ∙ ap (λ x. after_verb part_of hash x word) (ran_left hash p q t ran)

acts_push : (hash : List ℕ → ℕ) (p : Text) (trace : List (Verb × ℕ)) (x : Verb × ℕ) → acts_in hash p (trace ++ x ∷ []) ≡ acts_in hash p trace ++ (do_verb (block_of (left_after hash p trace)) x.0, x.1) ∷ []
acts_push hash p [] x = refl
acts_push hash p (y ∷ trace) x = ap (λ (acts : List (Act × ℕ)). (do_verb (block_of p) y.0, y.1) ∷ acts) (acts_push hash (after_verb part_of hash p y.1) trace x)

-- a verb more is an act more
pub acts_more : (hash : List ℕ → ℕ) (p q : Text) (trace : List (Verb × ℕ)) (verb : Verb) (answer : ℕ) → RanCall hash p trace q → acts_in hash p (trace ++ (verb, answer) ∷ []) ≡ acts_in hash p trace ++ (do_verb (block_of q) verb, answer) ∷ []
acts_more hash p q trace verb answer ran =
    acts_push hash p trace (verb, answer) ∙ ap (λ (x : Text). acts_in hash p trace ++ (do_verb (block_of x) verb, answer) ∷ []) (ran_left hash p q trace ran)

-- what it makes of the cache, and whether it is done
pub went_push : (cache : Option Cache) (acts : List (Act × ℕ)) (act : Act) (answer : ℕ) → went_all cache (acts ++ (act, answer) ∷ []) ≡ went_one (went_all cache acts) act answer
went_push None acts act answer = refl
went_push (Some c) acts act answer = ap (λ (x : Cache). Some x) (went_more c acts act answer)

pub done_push : (cache : Option Cache) (acts : List (Act × ℕ)) (act : Act) (answer : ℕ) → done_all cache (acts ++ (act, answer) ∷ []) ≡ done_all cache acts ++ done_one (went_all cache acts) act answer
done_push None acts act answer = verbs_of-append acts ((act, answer) ∷ [])
done_push (Some c) acts act answer = done_more acts c act answer

-- of a machine that waits for no hash the whole names the same block
pub whole_block : (hash : List ℕ → ℕ) (p : Text) → asked p ≡ None → (answer_of p ≡ None → IsSome (next_act p)) → block_of (whole part_of hash p) ≡ block_of p
unfolding whole
whole_block hash (ret (again x)) e f = let h : IsSome (next_act {A = Go Stage CallEnd} (ret (again x))) = f refl in absurd (cc)
whole_block hash (ret (done d)) e f = refl
whole_block hash (ask (do_verb block v) k) e f = refl
whole_block hash (ask (ask_hash other) k) e f = absurd (cc)

-- the verbs of a text's acts are its verbs
pub verbs_acts : (hash : List ℕ → ℕ) (p : Text) (trace : List (Verb × ℕ)) → verbs_of (acts_in hash p trace) ≡ trace
verbs_acts hash p [] = refl
verbs_acts hash p (x ∷ trace) = ap (λ (t : List (Verb × ℕ)). (x.0, x.1) ∷ t) (verbs_acts hash (after_verb part_of hash p x.1) trace)

-- others' entries leave the blocks of a cache published
keeps_longer : (t : Terms) → BlocksLast t → (l m : Entries) → t.grows l m → (c : Cache) → Keeps t l c → Keeps t m c
keeps_longer t last l m b c k = record {
  blocks = all_to (IsPublished t l) (IsPublished t m) (λ h p. last.among_others l m h.at h.words b p) c.kept k.blocks;
  under_way = way c.reading k.under_way;
}
  where
    way : (r : Reading) → UnderWay t l r → UnderWay t m r
    way Idle u = tt
    way (Serving next) u = tt
    way (Taking held total) u = (u.0, last.among_others l m held.at u.0 b u.1, u.2, u.3, u.4)

pub kept_longer : (t : Terms) → BlocksLast t → (l m : Entries) → t.grows l m → (cache : Option Cache) → AllKept t l cache → AllKept t m cache
kept_longer t last l m b None k = tt
kept_longer t last l m b (Some c) k = keeps_longer t last l m b c k

-- a cache that keeps no block
pub fresh_kept : (t : Terms) (l : Entries) (blocks : ℕ) → AllKept t l (Some (record { kept = []; blocks = blocks; reading = Idle; saved = 0 }))
fresh_kept t l blocks = record { blocks = tt; under_way = tt }

-- the answer of a verb stood where it was done
stood_then : (g : Geometry) (c : ℕ) (l m : Entries) (verb : Verb) (answer : ℕ) → Did g c l verb m answer → Stood g l verb answer
stood_then g c l m (Read at) answer d = d.1
stood_then g c l m (Write at new) answer d = tt
stood_then g c l m (Swap at old new) answer d = d.0

-- a verb leaves a log that begins with the one on which it was done
did_begins : (g : Geometry) (c : ℕ) (l m : Entries) (verb : Verb) (answer : ℕ) → Did g c l verb m answer → Begins l m
did_begins g c l m (Read at) answer d = ([], d.0 ∙ sym (append-nil l))
did_begins g c l m (Write at new) answer d = (_, d.0)
did_begins g c l m (Swap at old new) answer d = elim (cases_eq (word g l at) old) [
  | inl e ↦ (_, d.1 e)
  | inr n ↦ ([], d.2 n ∙ sym (append-nil l))
]

at_longer : (g : Geometry) (l m : Entries) (from : ℕ) (deeds : List Deed) → Begins l m → AreAt g l from deeds → AreAt g m from deeds
at_longer g l m from deeds b a = subst (λ x. AreAt g x from deeds) (sym b.1) (are_at-longer g l b.0 from deeds a)

begins_length : (l m : Entries) → Begins l m → length l ≤ length m
begins_length l m b = let long = length-append l b.0 in let same = ap length b.1 in omega arith

-- the trace with one verb more, at the position at which it was done
pub record Pushed (g : Geometry) (first m : Entries) (trace : List (Verb × ℕ)) : Type 0 where
  pub deeds : List Deed
  pub told : verbs_in deeds ≡ trace
  pub at : AreAt g m (length first) deeds

verbs_push : (deeds : List Deed) (d : Deed) → verbs_in (deeds ++ d ∷ []) ≡ verbs_in deeds ++ (d.verb, d.answer) ∷ []
verbs_push [] d = refl
verbs_push (x ∷ deeds) d = ap (λ (t : List (Verb × ℕ)). (x.verb, x.answer) ∷ t) (verbs_push deeds d)

pub filled_more : (s : Setting) (c : ℕ) (first l m : Entries) (trace : List (Verb × ℕ)) (deeds : List Deed) (verb : Verb) (answer : ℕ) → Begins first l → Step (among s c) l verb m answer → verbs_in deeds ≡ trace → AreAt s.geometry l (length first) deeds
    → Pushed s.geometry first m (trace ++ (verb, answer) ∷ [])
filled_more s c first l m trace deeds verb answer b step told at =
    let g = s.geometry in
    let seen = longer-begins (MayFollow s) c l step.seen step.longer.1 in
    let d : Deed = record { verb = verb; answer = answer; position = length step.seen } in
    record {
      deeds = deeds ++ d ∷ [];
      told = verbs_push deeds d ∙ ap (λ (t : List (Verb × ℕ)). t ++ (verb, answer) ∷ []) told;
      at = at_longer g step.seen m (length first) (deeds ++ d ∷ []) (did_begins g c step.seen m verb answer step.did)
          (are_at-push g step.seen (length first) deeds verb answer (at_longer g l step.seen (length first) deeds seen at) (begins_length first step.seen (begins-then first l step.seen b seen)) (stood_then g c step.seen m verb answer step.did));
    }
