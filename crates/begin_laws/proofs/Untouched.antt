-- What a split leaves alone: the words that the client has taken and not published.
use Rattle.std.specs.Prelude.{◌≡◌, ℕ, ◌+◌, ◌<◌, ◌≤◌, true, ◌∷◌}
use Rattle.std.proofs.Common.{sym, ◌∙◌, subst}
use Rattle.node_words.specs.Addresses.{table_words}
use Rattle.node_words.specs.Roles.{ChildWord, HeapWord}
use Rattle.verb_log.specs.declared.entry.Entry.{Entry}
use Rattle.verb_log.specs.Tables.{Past, role, publishes, is_among, is_address}
use Rattle.verbs.specs.Programs.{Prog}
use Rattle.race_laws.specs.Setting.{Setting}
use Rattle.race_laws.specs.Legal.{Legal}
use Rattle.race_laws.proofs.Covers.{among}
use Rattle.race_laws.proofs.Touch.{and_both, word_kept}
use Rattle.log_facts.specs.Since.{Since, same, more}
use Rattle.log_facts.specs.Mine.{Mine}
use Rattle.log_facts.specs.Entries.{Modest, Unchanging}
use Rattle.log_facts.proofs.Apart.{word_apart}
use Rattle.log_facts.proofs.Mine.{mine_others, mine_own, mine_heap, mine_word}
use Rattle.log_facts.proofs.Modest.{modest_mine, modest_word}
use Rattle.log_facts.proofs.Unchanging.{modest_unchanging}
use Rattle.pass_laws.specs.SafeIn.{SafeBy}
use Rattle.pass_laws.proofs.Rules.{by_weaker, by_kept}
use Rattle.begin_laws.specs.States.{Untouched, Modestly}

-- the region of the new table has none of the client's words
abbrev pub Away : Setting → ℕ → Past → ℕ → Type 0
Away s c p u = (a n : ℕ) → Mine s.geometry p c a n → (x : ℕ) → u ≤ x → x < u + table_words s.geometry → a ≤ x → x < a + n → ⊥

module _ (s : Setting) (c : ℕ) (p : Past) where
  pub untouched_others : (q : Past) (e : Entry) → Legal s (e ∷ q) → (e.client ≡ c → ⊥) → Untouched s c p q → Untouched s c p (e ∷ q)
  untouched_others q e l o h a n m = let y = h a n m in (mine_others s q e l c a n o y.0, λ x g k. mine_word s q e l c a n x o y.0 g k ∙ y.1 x g k)

  pub untouched_since : {q z : Past} → Since c q z → Legal s z → Untouched s c p q → Untouched s c p z
  untouched_since same l h = h
  untouched_since (more {q = q} e b o) l h = untouched_others q e l o (untouched_since b l.0 h)

  pub untouched_modest : (q : Past) (e : Entry) → Legal s (e ∷ q) → Modest s q e → Untouched s c p q → Untouched s c p (e ∷ q)
  untouched_modest q e l md h a n m = let y = h a n m in (modest_mine s q e l md c a n y.0, λ x g k. modest_word s q e l md c a n x y.0 g k ∙ y.1 x g k)

  module _ (u : ℕ) (away : Away s c p u) where
    -- a store in the region
    pub untouched_store : (q : Past) (e : Entry) → Legal s (e ∷ q) → u ≤ e.at → e.at < u + table_words s.geometry → ((x : ℕ) → publishes s.geometry e (role s.geometry q e.at) x ≡ true → ⊥) → Untouched s c p q → Untouched s c p (e ∷ q)
    untouched_store q e l lo hi si h a n m =
        let y = h a n m in (
          mine_own s q e c a n (λ x g k. si x) y.0,
          λ x g k. word_kept s.geometry q e x (λ w. away a n m x (subst (λ v. u ≤ v) (sym w) lo) (subst (λ v. v < u + table_words s.geometry) (sym w) hi) g k) ∙ y.1 x g k,
        )

    -- its Link
    pub untouched_link : (t i : ℕ) (q : Past) (e : Entry) → Legal s (e ∷ q) → role s.geometry q e.at ≡ ChildWord t i → e.new ≡ u → Untouched s c p q → Untouched s c p (e ∷ q)
    untouched_link t i q e l on new h a n m =
        let y = h a n m in (
          mine_own s q e c a n (λ x g k pb. let r = region x pb in away a n m x r.0 r.1 g k) y.0,
          λ x g k. word_apart s q e x HeapWord (ChildWord t i) (mine_heap s q l.0 c a n x y.0 g k) on (λ v. cc) ∙ y.1 x g k,
        )
      where
        region : (x : ℕ) → publishes s.geometry e (role s.geometry q e.at) x ≡ true → (u ≤ x) × (x < u + table_words s.geometry)
        region x pb =
            let y = subst (λ r. publishes s.geometry e r x ≡ true) on pb in
            let z = among e.new (table_words s.geometry) x (and_both (is_address s.geometry e.new) (is_among e.new (table_words s.geometry) x) y).1 in
            (subst (λ v. v ≤ x) new z.0, subst (λ v. x < v + table_words s.geometry) new z.1)

  -- a modest program leaves them alone, and changes nothing in the map
  pub modest_free : {A : Type 0} (q : Past) (prog : Prog A) (End : Past → A → Type 0) → Untouched s c p q → SafeBy Modestly s c q prog End → SafeBy Unchanging s c q prog (λ z a. End z a × Untouched s c p z)
  modest_free q prog End h x =
      by_weaker Modestly s c Unchanging (λ z e y. modest_unchanging s c z e y) q prog (λ z a. End z a × Untouched s c p z) (λ z a. End z a × Untouched s c p z) (λ n a y. y)
      (by_kept Modestly s c (Untouched s c p) (record { others = λ z e l o y. untouched_others z e l o y; own = λ z e l md y. untouched_modest z e l md y }) q prog End h x)
