-- A held word is made live: each Settle may follow and changes nothing in the map, and the live word is the key's as long as it stands.
use Rattle.std.specs.Prelude.{◌≡◌, ℕ, suc, ◌==◌, ◌||◌, Bool, true, false, cond, List, ◌∷◌, ◌++◌, reverse, Option, Some, None, refl}
use Rattle.std.proofs.Common.{sym, ◌∙◌, ap, subst, arith, append-nil}
use Rattle.slot_word.specs.declared.slots.Mark.{Mark}
use Rattle.slot_word.specs.declared.slots.Mark.TheVariants.{Live, Copied}
use Rattle.slot_word.specs.declared.slots.Slot.{Slot}
use Rattle.slot_word.specs.Slots.{slot_of}
use Rattle.kv_block.specs.declared.changes.Change.{Change}
use Rattle.kv_block.specs.Packing.{Pair}
use Rattle.node_words.specs.Addresses.{slot_at}
use Rattle.verb_log.specs.declared.kind.Kind.TheVariants.{Settle}
use Rattle.verb_log.specs.Decoded.{Body, Empty, Full, content, content_of}
use Rattle.verb_log.specs.Tables.{Past, Before, later, word_at}
use Rattle.verb_log.specs.Changes.{changes}
use Rattle.verb_log.specs.Kinds.{kind}
use Rattle.verb_log.proofs.Positions.{Before-trans}
use Rattle.verb_log.specs.declared.entry.Verb.TheVariants.{Swap}
use Rattle.verbs.specs.Programs.{do_verb, Prog, ask}
use Rattle.verbs.specs.Logs.{Entries}
use Rattle.race_laws.specs.Setting.{Setting}
use Rattle.race_laws.specs.Standing.{place_in}
use Rattle.race_laws.specs.Chains.{Holder}
use Rattle.race_laws.specs.Legal.{Legal}
use Rattle.race_laws.proofs.Positions.{legal_before}
use Rattle.race_laws.proofs.Presence.{holder_home}
use Rattle.race_laws.proofs.Homes.{Stands, as_live, as_copy}
use Rattle.log_facts.specs.Since.{change_in, Since}
use Rattle.log_facts.specs.Among.{changes_of}
use Rattle.log_facts.specs.SlotWords.{marked}
use Rattle.log_facts.proofs.Growing.{since_before}
use Rattle.log_facts.proofs.Within.{slot_within}
use Rattle.log_facts.proofs.Marks.{full_word, content_marked}
use Rattle.log_facts.proofs.Known.{Known, known_before, holder_known}
use Rattle.pass_text.specs.declared.passed.Held.{Held as HeldWord}
use Rattle.call_laws.specs.Judged.{SafeOnce}
use Rattle.call_laws.specs.Settling.{live_form, after_settle, settle_first}
use Rattle.call_laws.proofs.Changing.{holder_now, settle_kind, settle_meets, settle_mild, settle_quiet}
use Rattle.call_laws.proofs.Once.{once_more, once_swap}

same_slot : (m n : Mark) (f g l k a b : ℕ) → m ≡ n → f ≡ g → l ≡ k → a ≡ b → (let x : Slot = record { mark = m; fp = f; len = l; at = a } in x) ≡ (let y : Slot = record { mark = n; fp = g; len = k; at = b } in y)
same_slot m n f g l k a b p q r s = cc

-- a full word packs the slot of its mark and its block
pub full_slot : (w : ℕ) (m : Mark) (b : Body) → content w ≡ Full m b → slot_of w ≡ Some (record { mark = m; fp = b.print; len = b.length; at = b.at })
unfolding content
full_slot w m b e = by (w == 0) e
  where
    of : (o : Option Slot) → content_of o ≡ Full m b → o ≡ Some (record { mark = m; fp = b.print; len = b.length; at = b.at })
    of None e = absurd (cc)
    of (Some x) e = ap Some (same_slot x.mark m x.fp b.print x.len b.length x.at b.at (sym (same_mark x e)) (sym (same_print x e)) (sym (same_len x e)) (sym (same_at x e)))
      where
        same_at : (x : Slot) → content_of (Some x) ≡ Full m b → b.at ≡ x.at
        same_at x e = cc

        same_len : (x : Slot) → content_of (Some x) ≡ Full m b → b.length ≡ x.len
        same_len x e = cc

        same_mark : (x : Slot) → content_of (Some x) ≡ Full m b → m ≡ x.mark
        same_mark x e = cc

        same_print : (x : Slot) → content_of (Some x) ≡ Full m b → b.print ≡ x.fp
        same_print x e = cc

    by : (v : Bool) → cond v Empty (content_of (slot_of w)) ≡ Full m b → slot_of w ≡ Some (record { mark = m; fp = b.print; len = b.length; at = b.at })
    by true e = absurd (cc)
    by false e = of (slot_of w) e

-- the live word of a slot that is a copy
pub live_is : (b : Body) → live_form (record { mark = Copied; fp = b.print; len = b.length; at = b.at }) ≡ marked Live b
unfolding live_form
live_is b = refl

-- the words that held the key at a position, in this slot with this block, and a fact that is kept by others and by the Settle
module _ {A : Type 0} (s : Setting) (c : ℕ) (End : List Change → Entries → A → Type 0) (key : List ℕ) (t p : ℕ) (b : Body) (pr : Pair) (h : HeldWord) (x : Past) (ho : Holder s x key t p b pr) (slot : h.at ≡ slot_at t p) (word : word_at s.geometry x h.at ≡ h.word)
    (I : Past → Type 0) (others : (y z : Past) → Since c y z → Legal s z → I y → I z)
    (own : (z : Past) (w : ℕ) → Legal s (change_in s.geometry c z (slot_at t p) w ∷ z) → Known s key t p b pr z → content w ≡ Full Live b → kind s.geometry z (change_in s.geometry c z (slot_at t p) w) ≡ Some Settle → I z → I (change_in s.geometry c z (slot_at t p) w ∷ z))
    (n : ℕ) (next : ℕ → Prog A) (lost : Prog A) where
  -- what is known of a log on which the call goes on
  abbrev Goes_on : Prog A → Type 0
  Goes_on q = (d : List Change) (m : Entries) → Legal s (reverse m) → Before x (reverse m) → I (reverse m) → changes_of s m ≡ d → SafeOnce s c n d m q End

  module _ (goes : (w : ℕ) → content w ≡ Full Live b → Goes_on (next w)) (loses : Goes_on lost) where
    found_safe : (live found : ℕ) → content live ≡ Full Live b → Goes_on (after_settle h live next lost found)
    found_safe live found lw d m l bf i same = by ((found == h.word) || (found == live))
      where
        by : (v : Bool) → SafeOnce s c n d m (cond v (next live) lost) End
        by true = goes live lw d m l bf i same
        by false = loses d m l bf i same

    known : (q : Past) → Legal s q → Before x q → Known s key t p b pr q
    known q l bf = known_before s key t p b pr bf l (holder_known s x (legal_before s bf l) key t p b pr ho)

    settles : (w : ℕ) → content h.word ≡ Full Copied b → content w ≡ Full Live b → (d : List Change) (m : Entries) → Legal s (reverse m) → Before x (reverse m) → I (reverse m) → changes_of s m ≡ d
        → SafeOnce s c (suc n) d m (ask (do_verb None (Swap (slot_at t p) h.word w)) (after_settle h w next lost)) End
    settles w cw lw d m l bf i same =
        let k = known (reverse m) l bf in
        once_swap s c End (slot_at t p) h.word w n (after_settle h w next lost) d m same (slot_within s (reverse m) l t p k.table k.place) (λ z lz sz.
        let bz = Before-trans bf (since_before sz) in
        let iz = others (reverse m) (reverse z) sz lz i in (
          (λ now.
              let hz = holder_now s bz lz key t p b pr ho (now ∙ sym (ap (word_at s.geometry x) (sym slot) ∙ word)) in
              let st : place_in s.geometry (reverse z) t p ≡ Full Copied b = ap content now ∙ cw in
              let me = settle_meets s c (reverse z) lz key t p b pr hz w st lw in (
                (me, settle_mild s c (reverse z) lz key t p b pr hz w st lw),
                λ r e. found_safe w (word_at s.geometry (reverse z) (slot_at t p)) lw (changes_of s z) r (subst (Legal s) (sym e) (lz, me)) (subst (Before x) (sym e) (later bz))
                    (subst I (sym e) (own (reverse z) w (lz, me) (known (reverse z) lz bz) lw (settle_kind s c (reverse z) lz key t p b pr hz w st lw) iz))
                    (ap (changes s.geometry) e ∙ ap (λ (v : List Change). changes s.geometry (reverse z) ++ v) (settle_quiet s c (reverse z) lz key t p b pr hz w st lw) ∙ append-nil (changes s.geometry (reverse z))),
              )),
          (λ other. found_safe w (word_at s.geometry (reverse z) (slot_at t p)) lw (changes_of s z) z lz bz iz refl),
        ))

    -- the held word is made live, and the call goes on
    pub settle_safe : (d : List Change) (m : Entries) → Legal s (reverse m) → Before x (reverse m) → I (reverse m) → changes_of s m ≡ d → SafeOnce s c (suc n) d m (settle_first h (slot_of h.word) next lost) End
    settle_safe d m l bf i same = by (holder_home s x (legal_before s bf l) key t p b pr ho).stands
      where
        stood : (mk : Mark) → place_in s.geometry x t p ≡ Full mk b → content h.word ≡ Full mk b
        stood mk w = ap content (sym word ∙ ap (word_at s.geometry x) slot) ∙ w

        by : Stands s.geometry x t p b → SafeOnce s c (suc n) d m (settle_first h (slot_of h.word) next lost) End
        by (as_live w) =
            let cw = stood Live w in
            subst (λ o. SafeOnce s c (suc n) d m (settle_first h o next lost) End) (sym (full_slot h.word Live b cw))
            (once_more s c End n (suc n) d m (next h.word) (omega arith) (goes h.word cw d m l bf i same))
        by (as_copy w mo) =
            let cw = stood Copied w in
            let lw : content (marked Live b) ≡ Full Live b = content_marked Live b (full_word h.word Copied b cw).0 in
            subst (λ o. SafeOnce s c (suc n) d m (settle_first h o next lost) End) (sym (full_slot h.word Copied b cw))
            (subst (λ v. SafeOnce s c (suc n) d m (ask (do_verb None (Swap h.at h.word v)) (after_settle h v next lost)) End) (sym (live_is b))
            (subst (λ v. SafeOnce s c (suc n) d m (ask (do_verb None (Swap v h.word (marked Live b))) (after_settle h (marked Live b) next lost)) End) (sym slot)
            (settles (marked Live b) cw lw d m l bf i same)))
