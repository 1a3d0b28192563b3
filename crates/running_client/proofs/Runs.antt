-- A call on running words, verb by verb.
use Rattle.std.specs.Prelude.{◌≡◌, ℕ, zero, suc, ◌<◌, ◌^◌, List, [], ◌∷◌, ◌++◌, length, reverse, slice_get, Option, Some, None, refl}
use Rattle.std.specs.Option.{option_to_list}
use Rattle.std.proofs.Common.{sym, ◌∙◌, ap, subst, inl, inr, arith, length-append}
use Rattle.key_hash.specs.Placing.{placed}
use Rattle.kv_block.specs.declared.changes.Change.{Change}
use Rattle.map_model.specs.declared.calls.Call.{Call}
use Rattle.map_model.specs.Machine.{key_of, reply_of, map_at}
use Rattle.map_model.proofs.Added.{map_at-append}
use Rattle.verb_log.specs.declared.entry.Entry.{Entry}
use Rattle.verb_log.specs.declared.entry.Verb.{Verb}
use Rattle.verb_log.specs.Tables.{Past}
use Rattle.verb_log.proofs.InOrder.{reverse_push}
use Rattle.verbs.specs.Programs.{next_verb, block_of, answer_of}
use Rattle.verbs.specs.Logs.{Entries, MayStand, Begins, Did, place_of}
use Rattle.verbs.specs.Terms.{Allowed, Step}
use Rattle.verbs.proofs.Safes.{May-map, MayDo-may, May-allowed, May-left, Left}
use Rattle.verbs.proofs.Growth.{lengthened-same}
use Rattle.race_laws.specs.Setting.{Setting}
use Rattle.race_laws.specs.Legal.{MayFollow}
use Rattle.log_facts.specs.Among.{among, changes_of}
use Rattle.log_facts.proofs.Growing.{stands_legal}
use Rattle.call_texts.specs.State.{State, CallEnd, state_after}
use Rattle.call_texts.specs.Text.{part_of}
use Rattle.call_machine.specs.Tasks.{answer_in}
use Rattle.whole_calls.specs.Law.{IsCall}
use Rattle.whole_calls.specs.Right.{OneChange, Blocks}
use Rattle.world_texts.specs.Bound.{most_acts}
use Rattle.world_texts.specs.Fits.{Fits}
use Rattle.world_texts.specs.Safety.{Ends, SafeCall, EndsWell, AreSafe}
use Rattle.world_texts.specs.Texts.{after_verb, one_by_one}
use Rattle.world_texts.proofs.Steps.{safe_step, safe_place, safe_reads, safe_longer, safe_on, safe_end}
use Rattle.world_texts.proofs.Wholes.{one_chosen}
use Rattle.client_seat.specs.Seated.{Home, Seated}
use Rattle.block_cache.specs.Cache.{Cache}
use Rattle.block_cache.specs.Keeps.{ReadsIts}
use Rattle.running_client.specs.Traces.{Text, begun, ran_none, ran_more}
use Rattle.running_client.specs.Points.{MadeNone, none_yet, Changed, Replied}
use Rattle.running_client.specs.Cached.{AllKept}
use Rattle.running_client.specs.Running.{Permitted, IsNext, IsRunning}
use Rattle.running_client.proofs.Fronts.{changes_begin, none_begins, none_longer, none_next, next_begins}
use Rattle.running_client.proofs.Texts.{verb_open}

-- the entry that one verb made
next_of : (s : Setting) (c : ℕ) (l m : Entries) → Left (among s c) l m → IsNext c l m
next_of s c l m (inl e) = inl e
next_of s c l m (inr x) = inr (x.0, x.1, x.3)

-- where no end has come, it goes on
ends_none : (o : Option CallEnd) (End : CallEnd → Type 0) (On : Type 0) → o ≡ None → Ends o End On → On
ends_none None End On e h = h
ends_none (Some d) End On e h = absurd (cc)

first_there : (o : Option Verb) (verb : Verb) → o ≡ Some verb → slice_get (option_to_list o) 0 ≡ Some verb
first_there None verb e = absurd (cc)
first_there (Some v) verb e = e

-- a list is not one that is longer
longer_not : (xs : List Change) (x : Change) → xs ≡ xs ++ x ∷ [] → ⊥
longer_not xs x e = let a = ap length e in let b = length-append xs (x ∷ []) in omega arith

same_entry : (e x : Entry) (l : Entries) (past : Past) → e ∷ reverse l ≡ x ∷ past → x ≡ e
same_entry e x l past h = cc

module _ (s : Setting) (c : ℕ) (call : Call) (state : State) (first : Entries) where
  -- a call begins
  pub begun_running : AreSafe one_by_one → MayStand (MayFollow s) first → IsCall call → placed s.listed (key_of call) < 2 ^ 64 → Fits s first c state → IsRunning s c call state first (most_acts state call) first (begun (placed s.listed) state call) []
  begun_running safe st is small f = record {
    seen = first;
    next = inl refl;
    none = none_yet;
    legal = st;
    safe = (safe.calls s first c state call st is small f).1;
    ran = ran_none;
    within = omega arith;
  }

  -- its next verb may be done
  pub running_permits : (n : ℕ) (l : Entries) (p : Text) (t : List (Verb × ℕ)) (verb : Verb) → IsRunning s c call state first n l p t → next_verb p ≡ Some verb → (place_of verb < s.geometry.words) × Allowed (among s c) l verb × ReadsIts (among s c) l (block_of p) verb
  running_permits n l p t verb r e = (
    safe_place one_by_one s c (EndsWell s c call state first) n (changes_of s r.seen) l p 0 verb r.safe (verb_open p verb e) (sym (one_chosen (next_verb p) verb 0 e)),
    by n r.safe,
    reads (block_of p) refl,
  )
    where
      reads : (o : Option ℕ) → block_of p ≡ o → ReadsIts (among s c) l o verb
      reads None is = tt
      reads (Some block) is =
          safe_reads one_by_one s c (EndsWell s c call state first) n (changes_of s r.seen) l l p 0 block verb r.safe (verb_open p verb e) (sym (one_chosen (next_verb p) verb 0 e)) is (lengthened-same (MayFollow s) c l r.legal)

      by : (n : ℕ) → SafeCall one_by_one s c n (changes_of s r.seen) l p (EndsWell s c call state first) → Allowed (among s c) l verb
      by zero h = absurd (ends_none (answer_of p) (EndsWell s c call state first (changes_of s r.seen) l) ⊥ (verb_open p verb e) h)
      by (suc n) h =
          let on = ends_none (answer_of p) (EndsWell s c call state first (changes_of s r.seen) l) _ (verb_open p verb e) h in
          May-allowed (among s c) l verb (λ q word. Unit {0})
          (λ m b. May-map (among s c) m verb (λ q word. SafeCall one_by_one s c n (changes_of s m) q (after_verb part_of (placed s.listed) p word) (EndsWell s c call state first)) (λ q word. Unit {0}) (λ q word x. tt)
          (MayDo-may (among s c) m (block_of p) verb (λ q word. SafeCall one_by_one s c n (changes_of s m) q (after_verb part_of (placed s.listed) p word) (EndsWell s c call state first)) ((on.2 0 verb (first_there (next_verb p) verb e)).1 m b)))

  -- what it has come to ends well
  ends_right : (n : ℕ) (l : Entries) (p : Text) (t : List (Verb × ℕ)) (d : CallEnd) → (r : IsRunning s c call state first n l p t) → answer_of p ≡ Some d → EndsWell s c call state first (changes_of s r.seen) l d
  ends_right n l p t d r e = safe_end one_by_one s c (EndsWell s c call state first) n (changes_of s r.seen) l p d e r.safe

  -- its last entry is the one that changed the map
  changed_by : (seen l : Entries) (d : CallEnd) → IsNext c seen l → MadeNone s c first seen → OneChange s c call (changes_of s seen) l d → Changed s c call first l (answer_in d)
  changed_by seen l d (inl same) none one = absurd (longer_not (changes_of s seen) one.change (ap (changes_of s) (sym same) ∙ one.made))
  changed_by seen l d (inr x) none one = record {
    until = seen;
    entry = x.0;
    last = x.1;
    client = x.2;
    none = none;
    change = one.change;
    is = one.is;
    made = one.made;
    since = changes_begin s first seen (none_begins s c first seen none);
    answers =
        ap (λ (cs : List Change). reply_of (map_at cs (length (changes_of s seen))) call) one.made
        ∙ ap (λ m. reply_of m call) (map_at-append (changes_of s seen) (one.change ∷ []) (length (changes_of s seen)) (omega arith)) ∙ one.answers;
    blocks = subst (λ (e : Entry). Blocks s c call e d.reply d.source d.target) (same_entry x.0 one.entry seen one.past (sym (reverse_push seen x.0) ∙ ap reverse (sym x.1) ∙ one.last)) one.blocks;
  }

  -- and what it has answered is right
  pub running_replied : (n : ℕ) (l : Entries) (p : Text) (t : List (Verb × ℕ)) (d : CallEnd) → IsRunning s c call state first n l p t → answer_of p ≡ Some d → Replied s c state call first l (answer_in d) × Fits s l c (state_after state d)
  running_replied n l p t d r e =
      let well = ends_right n l p t d r e in
      let right = well.right in (
        record {
          begins = next_begins c first r.seen l (none_begins s c first r.seen r.none) r.next;
          legal = stands_legal s l r.legal;
          changed = λ is. changed_by r.seen l d r.next r.none (right.changing is);
          left = λ is. none_next s c first r.seen l r.next (right.staying is) r.none;
          quiet = right.quiet;
          read = right.read;
          cause = right.cause;
        },
        well.fits,
      )

  -- what has not answered has made no change, and has verbs left
  pub record StillGoes (n : ℕ) (l : Entries) (t : List (Verb × ℕ)) : Type 0 where
    pub begins : Begins first l
    pub none : MadeNone s c first l
    pub few : length t < most_acts state call

  pub running_on : (n : ℕ) (l : Entries) (p : Text) (t : List (Verb × ℕ)) → IsRunning s c call state first n l p t → answer_of p ≡ None → StillGoes n l t
  running_on n l p t r e =
      let on = safe_on one_by_one s c (EndsWell s c call state first) n (changes_of s r.seen) l p e r.safe in
      let some = on.some in
      let within = r.within in
      record {
        begins = next_begins c first r.seen l (none_begins s c first r.seen r.none) r.next;
        none = none_next s c first r.seen l r.next on.quiet r.none;
        few = omega arith;
      }

-- a verb more
pub record Went (s : Setting) (c : ℕ) (call : Call) (state : State) (first : Entries) (n : ℕ) (m : Entries) (q : Text) (t : List (Verb × ℕ)) : Type 0 where
  pub left : ℕ
  pub count : n ≡ suc left
  pub running : IsRunning s c call state first left m q t

module _ (s : Setting) (c : ℕ) (call : Call) (state : State) (first : Entries) where
  pub running_step : (n : ℕ) (l : Entries) (p : Text) (t : List (Verb × ℕ)) (verb : Verb) (m : Entries) (w : ℕ) → IsRunning s c call state first n l p t → next_verb p ≡ Some verb → Step (among s c) l verb m w
      → Went s c call state first n m (after_verb part_of (placed s.listed) p w) (t ++ (verb, w) ∷ [])
  running_step n l p t verb m w r e step =
      let End = EndsWell s c call state first in
      let on = safe_on one_by_one s c End n (changes_of s r.seen) l p (verb_open p verb e) r.safe in
      let there = safe_longer one_by_one s c End n l step.seen p step.longer (verb_open p verb e) on.safe in
      let stepped = safe_step one_by_one s c End n (changes_of s step.seen) step.seen m p 0 verb w step.longer.0 there (verb_open p verb e) (sym (one_chosen (next_verb p) verb 0 e)) step.did in
      let long = length-append t ((verb, w) ∷ []) in
      let few = r.within in
      let count = stepped.count in
      record {
        left = stepped.left;
        count = count;
        running = record {
          seen = step.seen;
          next = next_of s c step.seen m (left_of n there step.did);
          none = none_longer s c first l step.seen step.longer.1 (none_next s c first r.seen l r.next on.quiet r.none);
          legal = stepped.grew.stands;
          safe = stepped.safe;
          ran = ran_more verb w r.ran e;
          within = omega arith;
        };
      }
    where
      left_of : (n : ℕ) → SafeCall one_by_one s c n (changes_of s step.seen) step.seen p (EndsWell s c call state first) → Did s.geometry c step.seen verb m w → Left (among s c) step.seen m
      left_of zero h d = absurd (ends_none (answer_of p) (EndsWell s c call state first (changes_of s step.seen) step.seen) ⊥ (verb_open p verb e) h)
      left_of (suc n) h d =
          let on = ends_none (answer_of p) (EndsWell s c call state first (changes_of s step.seen) step.seen) _ (verb_open p verb e) h in
          May-left (among s c) step.seen verb (λ q word. SafeCall one_by_one s c n (changes_of s step.seen) q (after_verb part_of (placed s.listed) p word) (EndsWell s c call state first)) m w
          (MayDo-may (among s c) step.seen (block_of p) verb (λ q word. SafeCall one_by_one s c n (changes_of s step.seen) q (after_verb part_of (placed s.listed) p word) (EndsWell s c call state first))
          ((on.2 0 verb (first_there (next_verb p) verb e)).1 step.seen (lengthened-same (MayFollow s) c step.seen step.longer.0))) d

-- of a seat that is still of the same memory and client
pub permitted_as : (seat node : Seated) (block : Option ℕ) (verb : Verb) → node.home ≡ seat.home → node.client ≡ seat.client
    → (place_of verb < seat.home.setting.geometry.words) × Allowed (among seat.home.setting seat.client) node.front verb × ReadsIts (among seat.home.setting seat.client) node.front block verb → Permitted node block verb
permitted_as seat node block verb home client h =
    let at = subst (λ (x : Home). (place_of verb < x.setting.geometry.words) × Allowed (among x.setting node.client) node.front verb × ReadsIts (among x.setting node.client) node.front block verb) (sym home)
    (subst (λ (n : ℕ). (place_of verb < seat.home.setting.geometry.words) × Allowed (among seat.home.setting n) node.front verb × ReadsIts (among seat.home.setting n) node.front block verb) (sym client) h) in
    record { place = at.0; rule = at.1; reads = at.2 }

pub step_as : (seat node : Seated) (l : Entries) (verb : Verb) (word : ℕ) → node.home ≡ seat.home → node.client ≡ seat.client → Step (among node.home.setting node.client) node.front verb l word → Step (among seat.home.setting seat.client) node.front verb l word
step_as seat node l verb word home client d =
    subst (λ (n : ℕ). Step (among seat.home.setting n) node.front verb l word) client
    (subst (λ (x : Home). Step (among x.setting node.client) node.front verb l word) home d)

pub kept_as : (seat node : Seated) (l : Entries) (cache : Option Cache) → node.home ≡ seat.home → node.client ≡ seat.client → AllKept (among node.home.setting node.client) l cache → AllKept (among seat.home.setting seat.client) l cache
kept_as seat node l cache home client k =
    subst (λ (n : ℕ). AllKept (among seat.home.setting n) l cache) client
    (subst (λ (x : Home). AllKept (among x.setting node.client) l cache) home k)
