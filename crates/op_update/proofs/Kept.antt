-- What a client has taken, through its own entries on the slot of a held word.
use Rattle.std.specs.Prelude.{◌≡◌, ℕ, ◌+◌, ◌<◌, ◌≤◌, zero, suc, true, List, ◌∷◌, length, Option, Some, None, refl}
use Rattle.std.proofs.Common.{sym, ◌∙◌, ap, subst, arith}
use Rattle.slot_word.specs.declared.slots.Mark.{Mark}
use Rattle.node_words.specs.declared.geometry.Geometry.{Geometry}
use Rattle.node_words.specs.Roles.{SlotWord, HeapWord}
use Rattle.verb_log.specs.declared.entry.Entry.{Entry}
use Rattle.verb_log.specs.Decoded.{Body, Full, content}
use Rattle.verb_log.specs.Tables.{Past, word_at, words_at, role, publishes}
use Rattle.race_laws.specs.Setting.{Setting}
use Rattle.race_laws.specs.Named.{Named}
use Rattle.race_laws.specs.Legal.{Legal}
use Rattle.race_laws.proofs.Covers.{covered}
use Rattle.race_laws.proofs.Touch.{word_kept}
use Rattle.log_facts.specs.Mine.{Block}
use Rattle.log_facts.specs.Since.{Since}
use Rattle.log_facts.proofs.Mine.{mine_own, mine_heap}
use Rattle.log_facts.proofs.Silent.{kept_since, kept_mine}
use Rattle.log_facts.proofs.Written.{block_since}
use Rattle.log_facts.proofs.Known.{own_slot}
use Rattle.block_taking.specs.declared.taking.Area.{Area}
use Rattle.block_taking.specs.Holdings.{Apart, Owns, KeptBlock}

words_same : (g : Geometry) (p q : Past) (a n : ℕ) → ((x : ℕ) → a ≤ x → x < a + n → word_at g q x ≡ word_at g p x) → words_at g q a n ≡ words_at g p a n
words_same g p q a zero h = refl
words_same g p q a (suc n) h =
    ap (λ v. v ∷ words_at g q (suc a) n) (h a (omega arith) (omega arith)) ∙ ap (λ vs. word_at g p a ∷ vs) (words_same g p q (suc a) n (λ x k l. h x (omega arith) (omega arith)))

-- others leave them
pub owns_since : (s : Setting) (c : ℕ) (area : Area) {p q : Past} → Since c p q → Legal s q → Owns s c area p → Owns s c area q
owns_since s c area b l h = kept_since s c (Owns s c area) (kept_mine s c area.at area.left) b l h

pub kept_block_since : (s : Setting) (c : ℕ) (ws : List ℕ) (kept : Option ℕ) (area : Area) {p q : Past} → Since c p q → Legal s q → KeptBlock s c ws kept area p → KeptBlock s c ws kept area q
kept_block_since s c ws None area b l h = tt
kept_block_since s c ws (Some at) area b l h = (block_since s c at ws b l h.0, h.1)

-- an own entry on a slot, of a block that is published, leaves them
block_slot : (s : Setting) (q : Past) (e : Entry) → Legal s (e ∷ q) → (c t p at : ℕ) (m : Mark) (b : Body) (ws : List ℕ) → role s.geometry q e.at ≡ SlotWord t p → content e.new ≡ Full m b → Named s.geometry q b → Block s c at ws q → Block s c at ws (e ∷ q)
block_slot s q e l c t p at m b ws r nw nm bl = record {
  mine = own_slot s q e l c t p at (length ws) m b r nw nm bl.mine;
  written = words_same s.geometry q (e ∷ q) at (length ws) (λ x y z. word_kept s.geometry q e x (λ w. on_heap (sym r ∙ ap (role s.geometry q) (sym w) ∙ mine_heap s q l.0 c at (length ws) x bl.mine y z))) ∙ bl.written;
}
  where
    on_heap : {t p : ℕ} → SlotWord t p ≡ HeapWord → ⊥
    on_heap h = cc

pub owns_slot : (s : Setting) (q : Past) (e : Entry) → Legal s (e ∷ q) → (c t p : ℕ) (m : Mark) (b : Body) (area : Area) → role s.geometry q e.at ≡ SlotWord t p → content e.new ≡ Full m b → Named s.geometry q b → Owns s c area q → Owns s c area (e ∷ q)
owns_slot s q e l c t p m b area r nw nm h = own_slot s q e l c t p area.at area.left m b r nw nm h

pub kept_block_slot : (s : Setting) (q : Past) (e : Entry) → Legal s (e ∷ q) → (c t p : ℕ) (m : Mark) (b : Body) (ws : List ℕ) (kept : Option ℕ) (area : Area) → role s.geometry q e.at ≡ SlotWord t p → content e.new ≡ Full m b → Named s.geometry q b → KeptBlock s c ws kept area q → KeptBlock s c ws kept area (e ∷ q)
kept_block_slot s q e l c t p m b ws None area r nw nm h = tt
kept_block_slot s q e l c t p m b ws (Some at) area r nw nm h = (block_slot s q e l c t p at m b ws r nw nm h.0, h.1)

-- an own entry that names a block apart from the area leaves the area
pub owns_apart : (s : Setting) (q : Past) (e : Entry) (c t p : ℕ) (m : Mark) (b : Body) (area : Area) → role s.geometry q e.at ≡ SlotWord t p → content e.new ≡ Full m b → Apart b.at b.length area → Owns s c area q → Owns s c area (e ∷ q)
owns_apart s q e c t p m b area r n ap2 h = mine_own s q e c area.at area.left (λ x k l z. let y = covered (content e.new) m b x n (subst (λ v. publishes s.geometry e v x ≡ true) r z) in ap2 x y.0 y.1 k l) h
