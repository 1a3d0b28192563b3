-- Storing the words of the child in words that were taken and are 0.
use Rattle.std.specs.Prelude.{◌≡◌, ◌≢◌, ℕ, zero, suc, ◌+◌, ◌-◌, ◌*◌, ◌/◌, ◌%◌, ◌^◌, ◌<◌, ◌≤◌, ◌==◌, cond, ◌∷◌, None, refl}
use Rattle.std.proofs.Common.{sym, ◌∙◌, ap, subst, arith, ⊎_elim}
use Rattle.std.proofs.lemmas.Bool.Decides.{nat_tests}
use Rattle.slot_word.specs.declared.births.Birth.{Birth}
use Rattle.slot_word.specs.Births.{birth_word}
use Rattle.slot_word.proofs.BirthLaws.{birth_of-birth_word}
use Rattle.node_words.specs.declared.geometry.Geometry.{Geometry}
use Rattle.node_words.specs.Addresses.{table_words, header_at, lock_at, bucket_header_at}
use Rattle.node_words.specs.Roles.{Role, BirthWord, HeaderWord, LockWord, BucketWord, offset_role}
use Rattle.node_words.proofs.RoleLemmas.{birth_role, header_role, lock_role, bucket_role}
use Rattle.verb_log.specs.declared.entry.Verb.TheVariants.{Write}
use Rattle.verb_log.specs.Decoded.{birth, birth_or_none}
use Rattle.verb_log.specs.Tables.{Past, word_at}
use Rattle.verbs.specs.Programs.{do_verb, Prog, ask}
use Rattle.race_laws.specs.Setting.{Setting}
use Rattle.race_laws.specs.Rows.{IsBlank}
use Rattle.race_laws.specs.Legal.{Legal}
use Rattle.race_laws.proofs.Touch.{word_put, word_kept, same_or_not}
use Rattle.race_laws.proofs.Slots.{role_by_offset}
use Rattle.log_facts.specs.Since.{change_in, Since, same, more}
use Rattle.log_facts.specs.Beside.{other, Firm}
use Rattle.log_facts.specs.Entries.{Unchanging}
use Rattle.log_facts.specs.Mine.{Mine}
use Rattle.log_facts.proofs.Mild.{store_mild}
use Rattle.log_facts.proofs.Mine.{mine_others, mine_own, mine_heap, mine_word}
use Rattle.log_facts.proofs.Taking.{mine_within, store_meets, store_silent}
use Rattle.log_facts.proofs.Unchanging.{store_unchanging}
use Rattle.pass_laws.specs.SafeIn.{MayBy, SafeBy}
use Rattle.begin_laws.specs.States.{Untouched}
use Rattle.begin_laws.proofs.Untouched.{Away, untouched_others, untouched_store}

-- the words of a region, by their offsets
abbrev pub put : ℕ → ℕ → (ℕ → ℕ) → ℕ → ℕ
put a w f o = cond (o == a) w (f o)

put_here : (a w : ℕ) (f : ℕ → ℕ) (o : ℕ) → o ≡ a → put a w f o ≡ w
put_here a w f o e = grind (arith, nat_tests)

put_there : (a w : ℕ) (f : ℕ → ℕ) (o : ℕ) → o ≢ a → put a w f o ≡ f o
put_there a w f o e = grind (arith, nat_tests)

-- the offset of a bucket header
abbrev pub bucket_offset : ℕ → ℕ
bucket_offset m = 20 + 24 * (m / 2) + 16 * (m % 2)

-- n bucket headers from number m on
abbrev pub put_buckets : ℕ → ℕ → ℕ → (ℕ → ℕ) → ℕ → ℕ
put_buckets w zero m f o = f o
put_buckets w (suc n) m f o = put_buckets w n (m + 1) (put (bucket_offset m) w f) o

bucket_kept : (w n m : ℕ) (f : ℕ → ℕ) (o : ℕ) → f o ≡ w → put_buckets w n m f o ≡ w
bucket_kept w zero m f o h = h
bucket_kept w (suc n) m f o h = bucket_kept w n (m + 1) (put (bucket_offset m) w f) o (⊎_elim (λ (x : o ≡ bucket_offset m). put_here (bucket_offset m) w f o x) (λ (x : o ≢ bucket_offset m). put_there (bucket_offset m) w f o x ∙ h) (same_or_not o (bucket_offset m)))

pub bucket_put : (w n m : ℕ) (f : ℕ → ℕ) (k : ℕ) → m ≤ k → k < m + n → put_buckets w n m f (bucket_offset k) ≡ w
bucket_put w zero m f k h g = absurd (omega arith)
bucket_put w (suc n) m f k h g = ⊎_elim (λ (x : k ≡ m). bucket_kept w n (m + 1) (put (bucket_offset m) w f) (bucket_offset k) (put_here (bucket_offset m) w f (bucket_offset k) (ap bucket_offset x))) (λ (x : k ≢ m). bucket_put w n (m + 1) (put (bucket_offset m) w f) k (omega (arith, h, x)) (omega arith)) (same_or_not k m)

pub bucket_none : (w n m : ℕ) (f : ℕ → ℕ) (o : ℕ) → ((k : ℕ) → o ≢ bucket_offset k) → put_buckets w n m f o ≡ f o
bucket_none w zero m f o h = refl
bucket_none w (suc n) m f o h = bucket_none w n (m + 1) (put (bucket_offset m) w f) o h ∙ put_there (bucket_offset m) w f o (h m)

-- a fact that entries beside keep, what the client left alone, a region of the client's, and its words
pub record Stored (s : Setting) (c : ℕ) (from : Past) (u : ℕ) (H : Past → Type 0) (f : ℕ → ℕ) (q : Past) : Type 0 where
  pub keep : Untouched s c from q
  pub held : H q
  pub mine : Mine s.geometry q c u (table_words s.geometry)
  pub words : (o : ℕ) → o < table_words s.geometry → word_at s.geometry q (u + o) ≡ f o

module _ (s : Setting) (c : ℕ) (from : Past) (u : ℕ) (H : Past → Type 0) (fh : Firm s c H) where
  pub stored_since : (f : ℕ → ℕ) {p q : Past} → Since c p q → Legal s q → Stored s c from u H f p → Stored s c from u H f q
  stored_since f same l h = h
  stored_since f (more {q = q} e b o) l h =
      let x = stored_since f b l.0 h in
      record {
        keep = untouched_others s c from q e l o x.keep;
        held = fh q e l (other o) x.held;
        mine = mine_others s q e l c u (table_words s.geometry) o x.mine;
        words = λ i k. mine_word s q e l c u (table_words s.geometry) (u + i) o x.mine (omega arith) (omega arith) ∙ x.words i k;
      }

  module _ {A : Type 0} (End : Past → A → Type 0) (away : Away s c from u) where
    pub store_safe : (f : ℕ → ℕ) (a o w : ℕ) → u + o ≡ a → o < table_words s.geometry → (go_on : Prog A) → ((z : Past) → Legal s z → Stored s c from u H (put o w f) z → SafeBy Unchanging s c z go_on End) → (q : Past) → Legal s q → Stored s c from u H f q → SafeBy Unchanging s c q (ask (do_verb None (Write a w)) (λ answer. go_on)) End
    store_safe f a o w e k go_on g q l h = (mine_within s c q l u (table_words s.geometry) a 0 h.mine (omega arith) (omega arith), λ z lz sz. by z lz (stored_since f sz lz h))
      where
        low : u ≤ a
        low = omega arith

        high : a < u + table_words s.geometry
        high = omega arith

        cancel : (i : ℕ) → u + i ≡ a → i ≡ o
        cancel i x = omega arith

        by : (z : Past) → Legal s z → Stored s c from u H f z → MayBy Unchanging s c z (Write a w) (λ n answer. SafeBy Unchanging s c n go_on End)
        by z lz hz =
            let me = store_meets s c z lz u (table_words s.geometry) a w hz.mine low high in
            let e2 = change_in s.geometry c z a w in
            let lm : Legal s (e2 ∷ z) = (lz, me) in
            let on = mine_heap s z lz c u (table_words s.geometry) a hz.mine low high in (
              (me, store_unchanging s c z lz a w on),
              g (e2 ∷ z) lm (record {
                keep = untouched_store s c from u away z e2 lm low high (λ x v. store_silent s c z lz u (table_words s.geometry) a w hz.mine low high x v) hz.keep;
                held = fh z e2 lm (store_mild s c z lz a w on) hz.held;
                mine = mine_own s z e2 c u (table_words s.geometry) (λ x y y2 v. store_silent s c z lz u (table_words s.geometry) a w hz.mine low high x v) hz.mine;
                words = λ i y. ⊎_elim (λ (x : i ≡ o). word_put s.geometry z e2 (u + i) (ap (λ v. u + v) x ∙ e) ∙ sym (put_here o w f i x))
                    (λ (x : i ≢ o). word_kept s.geometry z e2 (u + i) (λ v. x (cancel i v)) ∙ hz.words i y ∙ sym (put_there o w f i x)) (same_or_not i o);
              }),
            )

-- a blank word is no birth, header, lock or bucket header
blank_apart : (u a o : ℕ) (r : Role) → offset_role u (a - u) ≡ r → a - u ≡ o → (IsBlank r → ⊥) → (x : ℕ) → IsBlank (offset_role u x) → x ≢ o
blank_apart u a o r h e n x b q = n (subst IsBlank (ap (offset_role u) (q ∙ sym e) ∙ h) b)

pub blank_not : (g : Geometry) (u x : ℕ) → IsBlank (offset_role u x) → (x ≢ 0) × (x ≢ 1) × (x ≢ 2) × ((m : ℕ) → x ≢ bucket_offset m)
blank_not g u x b = (
  blank_apart u u 0 (BirthWord u) (sym (role_by_offset g u u) ∙ birth_role g u) (omega arith) (λ v. v) x b,
  blank_apart u (header_at u) 1 (HeaderWord u) (sym (role_by_offset g (header_at u) u) ∙ header_role g u) (omega arith) (λ v. v) x b,
  blank_apart u (lock_at u) 2 (LockWord u) (sym (role_by_offset g (lock_at u) u) ∙ lock_role g u) (omega arith) (λ v. v) x b,
  (λ m. blank_apart u (bucket_header_at u m) (bucket_offset m) (BucketWord u m) (sym (role_by_offset g (bucket_header_at u m) u) ∙ bucket_role g u m) (cut u m) (λ v. v) x b),
)
  where
    cut : (t m : ℕ) → bucket_header_at t m - t ≡ bucket_offset m
    cut t m = omega arith

-- what a birth word says
pub says_birth : (b : Birth) → b.depth ≤ 16 → b.suffix < 2 ^ b.depth → b.parent < 2 ^ 40 → birth (birth_word b) ≡ b
unfolding birth
says_birth b d x p = ap birth_or_none (birth_of-birth_word b (record { depth = d; suffix = x; parent = p }))
