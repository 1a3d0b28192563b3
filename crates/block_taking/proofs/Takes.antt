-- Words are taken from a node.
use Rattle.std.specs.Prelude.{◌≡◌, ◌≢◌, ℕ, zero, suc, ◌+◌, ◌-◌, ◌*◌, ◌<◌, ◌≤◌, true, false, cond, nat_le, ◌==◌, ◌∷◌, List, length, None, refl}
use Rattle.std.proofs.Common.{inl, inr, arith}
use Rattle.std.proofs.lemmas.Bool.Decides.{nat_tests}
use Rattle.node_words.specs.Addresses.{node_size, node_at}
use Rattle.verb_log.specs.declared.entry.Verb.TheVariants.{Swap}
use Rattle.verb_log.specs.Tables.{Past, Before, here, word_at}
use Rattle.verbs.specs.Programs.{Prog, ask, do_verb}
use Rattle.race_laws.specs.Setting.{Setting}
use Rattle.race_laws.specs.Rows.{IsStep}
use Rattle.race_laws.specs.Legal.{Legal}
use Rattle.log_facts.specs.Since.{change_in}
use Rattle.log_facts.specs.Mine.{Mine}
use Rattle.log_facts.proofs.Silent.{Kept, kept_since, kept_both, kept_mine, kept_before}
use Rattle.log_facts.proofs.Mild.{take_mild}
use Rattle.log_facts.proofs.Taking.{take_low, take_meets, take_quiet, take_silent, taken_mine, taken_apart}
use Rattle.pass_laws.specs.SafeIn.{MayBy, SafeBy}
use Rattle.pass_laws.proofs.Rules.{by_cond}
use Rattle.block_taking.specs.declared.taking.Area.{Area}
use Rattle.block_taking.specs.declared.taking.Taking.{Taking}
use Rattle.block_taking.specs.declared.taking.TakeOutcome.TheVariants.{Spent}
use Rattle.block_taking.specs.declared.taking.TakeEnd.{TakeEnd}
use Rattle.block_taking.specs.Holdings.{Apart, Owns}
use Rattle.block_taking.specs.Law.{HasTaken}
use Rattle.block_taking.specs.Text.{need, end_of, write_block, take_at}
use Rattle.block_taking.proofs.Own.{Quietly}
use Rattle.block_taking.proofs.Writing.{write_safe}
use Rattle.block_taking.proofs.Nodes.{WasRead, kept_read}

-- some of a client's words are its words
pub mine_part : (s : Setting) (q : Past) (c a n b m : ℕ) → a ≤ b → b + m ≤ a + n → Mine s.geometry q c a n → Mine s.geometry q c b m
mine_part s q c a n b m h k mi = record { taken = λ x y z. mi.taken x (omega arith) (omega arith); hidden = λ x y z. mi.hidden x (omega arith) (omega arith) }

equal : (x y : ℕ) → (x == y) ≡ true → x ≡ y
equal x y h = grind (arith, nat_tests)

differ : (x y : ℕ) → x ≡ y → (x == y) ≡ false → ⊥
differ x y h k = grind (arith, nat_tests)

pub at_most : (x y : ℕ) → nat_le x y ≡ true → x ≤ y
at_most x y h = grind (arith, nat_tests)

pub above : (x y : ℕ) → nat_le x y ≡ false → y < x
above x y h = grind (arith, nat_tests)

-- the text at these sizes
abbrev pub sized : Setting → ℕ → List ℕ → Taking
sized s client block = record { geometry = s.geometry; client = client; block = block }

module _ (s : Setting) (c client : ℕ) (block : List ℕ) (two : 2 ≤ length block) (most : length block ≤ 137) (few : ℕ) (from : Past) where
  abbrev t : Taking
  t = sized s client block

  abbrev End : Past → TakeEnd → Type 0
  End y e = HasTaken s c t few from y e

  -- from the first word on
  pub block_safe : (area : Area) (at left : ℕ) → Apart at (need t) area → 1 ≤ left → left ≤ few → (z : Past) → Legal s z → Owns s c area z → Mine s.geometry z c at (need t) → SafeBy Quietly s c z (write_block t at area left) End
  block_safe area at left apart some le z l ow m = write_safe s c t few from area at left apart some le (need t) 0 (zero_plus (need t)) z l ow m (λ j k. absurd (omega arith))
    where
      zero_plus : (x : ℕ) → 0 + x ≡ x
      zero_plus x = omega arith

  module _ (area : Area) (P : Past → Type 0) (kp : Kept s c P) where
    abbrev Both : Past → Type 0
    Both q = Before from q × (Owns s c area q × P q)

    both : Kept s c Both
    both = kept_both s c (Before from) (λ q. Owns s c area q × P q) (kept_before s c from) (kept_both s c (Owns s c area) P (kept_mine s c area.at area.left) kp)

    -- a Take: won, the words are the client's; lost, the word found was read
    step_safe : (k n step : ℕ) → k < s.geometry.nodes → IsStep s.geometry step → 0 < step → n + step ≤ (k + 1) * node_size s.geometry → (q : Past) → Legal s q → Both q → (hit : Prog TakeEnd) (lost : ℕ → Prog TakeEnd)
        → ((z : Past) → Legal s z → Both z → Mine s.geometry z c n step → ((x : ℕ) → area.at ≤ x → x < area.at + area.left → n ≤ x → x < n + step → ⊥) → SafeBy Quietly s c z hit End)
        → ((z : Past) (w : ℕ) → Legal s z → Both z → WasRead s from z k w → SafeBy Quietly s c z (lost w) End)
        → SafeBy Quietly s c q (ask (do_verb None (Swap (node_at s.geometry k) n (n + step))) (λ found. cond (found == n) hit (lost found))) End
    step_safe k n step low is_step some room q l b hit lost hs ls = (take_low s k low, λ z lz sz. by z lz (kept_since s c Both both sz lz b))
      where
        by : (z : Past) → Legal s z → Both z → MayBy Quietly s c z (Swap (node_at s.geometry k) n (n + step)) (λ y found. SafeBy Quietly s c y (cond (found == n) hit (lost found)) End)
        by z lz bz = (
          (λ now.
              let me = take_meets s c z lz k n step low now is_step some room in
              let si = take_silent s c z lz k n step low now is_step some room in
              let e = change_in s.geometry c z (node_at s.geometry k) (n + step) in (
                (me, (si, (take_quiet s c z lz k n step low now is_step some room, take_mild s c z lz k (n + step) low))),
                by_cond Quietly s c End (e ∷ z) (word_at s.geometry z (node_at s.geometry k) == n) hit (lost (word_at s.geometry z (node_at s.geometry k)))
                    (λ v. hs (e ∷ z) (lz, me) (both.silent z e (lz, me) si bz) (taken_mine s c z lz k n step low now is_step some room)
                    (λ x h1 h2 h3 h4. taken_apart s c z lz k n step low now is_step some room area.at area.left x bz.1.0 h1 h2 h3 h4))
                    (λ v. absurd (differ (word_at s.geometry z (node_at s.geometry k)) n now v)),
              )),
          (λ other. by_cond Quietly s c End z (word_at s.geometry z (node_at s.geometry k) == n) hit (lost (word_at s.geometry z (node_at s.geometry k)))
              (λ v. absurd (other (equal (word_at s.geometry z (node_at s.geometry k)) n v)))
              (λ v. ls z (word_at s.geometry z (node_at s.geometry k)) lz bz (record { at = z; from_then = bz.0; till = here; read = refl }))),
        )

    pub at_safe : (left k n : ℕ) → k < s.geometry.nodes → left ≤ few → (full : ℕ → ℕ → Prog TakeEnd)
        → ((z : Past) (next left2 : ℕ) → Legal s z → Both z → WasRead s from z k next → (k + 1) * node_size s.geometry < next + need t → 1 ≤ left2 → left2 ≤ few → SafeBy Quietly s c z (full next left2) End)
        → (q : Past) → Legal s q → Both q → WasRead s from q k n → SafeBy Quietly s c q (take_at t left k n area full) End
    at_safe zero k n low le full fs q l b r = record { owns = b.1.0; fewer = omega arith; so = refl }
    at_safe (suc left) k n low le full fs q l b r =
        by_cond Quietly s c End q (nat_le (n + need t) (end_of t k)) _ (full n (suc left))
        (λ v. let room = at_most (n + need t) (end_of t k) v in
        by_cond Quietly s c End q (nat_le (n + 65536) (end_of t k)) _ _
        (λ w. let many = at_most (n + 65536) (end_of t k) w in
        step_safe k n 1024 low (inr (inr refl)) (omega arith) (omega arith) q l b (write_block t n (record { at = n + need t; left = 1024 - need t }) (suc left)) (λ found. take_at t left k found area full)
        (λ z lz bz mi ap2. block_safe (record { at = n + need t; left = 1024 - need t }) n (suc left) (λ x h1 h2 h3 h4. omega arith) (omega arith) le z lz
        (mine_part s z c n 1024 (n + need t) (1024 - need t) (omega arith) (omega arith) mi) (mine_part s z c n 1024 n (need t) (omega arith) (omega arith) mi))
        (λ z found lz bz rz. at_safe left k found low (omega arith) full fs z lz bz rz))
        (λ w. step_safe k n (need t) low (inl (two, most)) (omega arith) room q l b (write_block t n area (suc left)) (λ found. take_at t left k found area full)
        (λ z lz bz mi ap2. block_safe area n (suc left) (λ x h1 h2 h3 h4. ap2 x h3 h4 h1 h2) (omega arith) le z lz bz.1.0 mi)
        (λ z found lz bz rz. at_safe left k found low (omega arith) full fs z lz bz rz)))
        (λ v. fs q n (suc left) l b r (above (n + need t) (end_of t k) v) (omega arith) le)
