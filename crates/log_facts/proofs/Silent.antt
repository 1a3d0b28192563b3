-- Entries that publish nothing; and facts that are kept by entries of other clients, and by own entries that publish nothing.
use Rattle.std.specs.Prelude.{◌≡◌, ◌≢◌, ℕ, Bool, true, not, ◌&&◌, nat_lt, ◌==◌, ◌∷◌}
use Rattle.std.proofs.Common.{sym, ◌∙◌, ap, subst}
use Rattle.node_words.specs.Addresses.{table_words}
use Rattle.node_words.specs.Roles.{Role, NextWord, DepthWord, DirectoryWord, BirthWord, HeaderWord, LockWord, ReservedWord, ChildWord, BucketWord, SlotWord, HeapWord}
use Rattle.verb_log.specs.declared.entry.Entry.{Entry}
use Rattle.verb_log.specs.Decoded.{content}
use Rattle.verb_log.specs.Tables.{Past, Before, later, role, publishes, is_among}
use Rattle.race_laws.specs.Setting.{Setting}
use Rattle.race_laws.specs.Legal.{Legal}
use Rattle.race_laws.proofs.Covers.{covers_none}
use Rattle.race_laws.proofs.Slots.{content-0}
use Rattle.log_facts.specs.Since.{Since, same, more}
use Rattle.log_facts.specs.Mine.{Mine}
use Rattle.log_facts.proofs.Mine.{mine_others, mine_own}

-- an entry that publishes nothing
abbrev pub Silent : Setting → Past → Entry → Type 0
Silent s q e = (x : ℕ) → publishes s.geometry e (role s.geometry q e.at) x ≡ true → ⊥

pub record Kept (s : Setting) (c : ℕ) (P : Past → Type 0) : Type 0 where
  pub others : (q : Past) (e : Entry) → Legal s (e ∷ q) → e.client ≢ c → P q → P (e ∷ q)
  pub silent : (q : Past) (e : Entry) → Legal s (e ∷ q) → Silent s q e → P q → P (e ∷ q)

pub kept_since : (s : Setting) (c : ℕ) (P : Past → Type 0) → Kept s c P → {p q : Past} → Since c p q → Legal s q → P p → P q
kept_since s c P k same l h = h
kept_since s c P k (more {q = q} e b o) l h = k.others q e l o (kept_since s c P k b l.0 h)

-- a word of 0 publishes nothing
pub zero_silent : (s : Setting) (q : Past) (e : Entry) → e.new ≡ 0 → Silent s q e
zero_silent s q e z x h = by (role s.geometry q e.at) h
  where
    by : (r : Role) → publishes s.geometry e r x ≡ true → ⊥
    by (NextWord k) h = cc
    by DepthWord h = cc
    by (DirectoryWord j) h = cc
    by (BirthWord t) h = cc
    by (HeaderWord t) h = cc
    by (LockWord t) h = cc
    by ReservedWord h = cc
    by (ChildWord t i) h = none e.new s.geometry.words (is_among e.new (table_words s.geometry) x) z h
      where
        none : (n w : ℕ) (v : Bool) → n ≡ 0 → ((not (n == 0) && nat_lt n w) && v) ≡ true → ⊥
        none n w v z h = let y = ap (λ m. (not (m == 0) && nat_lt m w) && v) (sym z) ∙ h in cc
    by (BucketWord t m) h = cc
    by (SlotWord t p) h = covers_none (content e.new) x (ap content z ∙ content-0) h
    by HeapWord h = cc

pub role_silent : (s : Setting) (q : Past) (e : Entry) (r : Role) → role s.geometry q e.at ≡ r → ((x : ℕ) → publishes s.geometry e r x ≡ true → ⊥) → Silent s q e
role_silent s q e r h f x k = f x (subst (λ v. publishes s.geometry e v x ≡ true) h k)

-- two facts, positions behind one, a client's words
pub kept_both : (s : Setting) (c : ℕ) (P Q : Past → Type 0) → Kept s c P → Kept s c Q → Kept s c (λ q. P q × Q q)
kept_both s c P Q a b = record {
  others = λ q e l o h. (a.others q e l o h.0, b.others q e l o h.1);
  silent = λ q e l o h. (a.silent q e l o h.0, b.silent q e l o h.1);
}

pub kept_before : (s : Setting) (c : ℕ) (p : Past) → Kept s c (Before p)
kept_before s c p = record { others = λ q e l o h. later h; silent = λ q e l o h. later h }

pub kept_legal : (s : Setting) (c : ℕ) → Kept s c (Legal s)
kept_legal s c = record { others = λ q e l o h. l; silent = λ q e l o h. l }

pub kept_mine : (s : Setting) (c a n : ℕ) → Kept s c (λ q. Mine s.geometry q c a n)
kept_mine s c a n = record {
  others = λ q e l o h. mine_others s q e l c a n o h;
  silent = λ q e l f h. mine_own s q e c a n (λ x y z. f x) h;
}
