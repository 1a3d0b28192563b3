-- A whole taking, by the text.
use Rattle.std.specs.Prelude.{◌≡◌, ℕ, zero, suc, ◌+◌, ◌-◌, ◌*◌, ◌%◌, ◌<◌, ◌≤◌, ◌^◌, nat_le, None, List, reverse, length, take, replicate, slice_index, slice_set, min, ◌⊎◌, refl}
use Rattle.std.proofs.Common.{sym, ◌∙◌, ap, subst, inl, inr, arith, ⊎_elim}
use Rattle.std.proofs.Math.Nat.{mod-eq_of_lt}
use Rattle.std.proofs.lemmas.Bool.Decides.{nat_tests}
use Rattle.std.proofs.lemmas.Nat.{mod_below}
use Rattle.std.proofs.lemmas.List.{get_or-take, length-take}
use Rattle.node_words.specs.declared.geometry.Geometry.{Geometry}
use Rattle.node_words.specs.Addresses.{node_at}
use Rattle.verb_log.specs.Tables.{Past, Before, here, word_at}
use Rattle.verbs.specs.Programs.{Prog}
use Rattle.race_laws.specs.Setting.{Setting}
use Rattle.race_laws.specs.Legal.{Legal}
use Rattle.log_facts.specs.Mine.{Mine}
use Rattle.log_facts.proofs.Silent.{Kept, kept_since, kept_both, kept_mine, kept_before}
use Rattle.log_facts.proofs.Taking.{take_low, mine_within}
use Rattle.pass_text.specs.Words.{address_of}
use Rattle.pass_laws.specs.SafeIn.{SafeBy, Calmly, SafeIn}
use Rattle.pass_laws.proofs.Bridge.{safe_in_order}
use Rattle.pass_laws.proofs.Rules.{by_weaker, by_cond}
use Rattle.block_taking.specs.declared.taking.Area.{Area}
use Rattle.block_taking.specs.declared.taking.Taking.{Taking}
use Rattle.block_taking.specs.declared.taking.TakeEnd.{TakeEnd}
use Rattle.block_taking.specs.Holdings.{Apart, Owns}
use Rattle.block_taking.specs.Law.{WasFull, MayTake, HasTaken, IsSafeTaking, TakingIsSafe}
use Rattle.block_taking.specs.Text.{need, first_node, next_node, behind, write_block, take_from, take_block}
use Rattle.block_taking.proofs.Own.{Quietly}
use Rattle.block_taking.proofs.Nodes.{WasRead, IsAhead, Tried, kept_tried, turn_low, tried_more}
use Rattle.block_taking.proofs.Takes.{sized, mine_part, at_most, block_safe, at_safe}

module _ (s : Setting) (c client : ℕ) (block : List ℕ) (two : 2 ≤ length block) (most : length block ≤ 137) (few : ℕ) (from : Past) where
  abbrev t : Taking
  t = sized s client block

  abbrev End : Past → TakeEnd → Type 0
  End y e = HasTaken s c t few from y e

  -- no node is ahead: each was full
  all_full : (q : Past) (k left : ℕ) (nexts : List ℕ) (area : Area) → k < s.geometry.nodes → Tried s from (need t) k 0 nexts q → Owns s c area q → 1 ≤ left → left ≤ few → SafeBy Quietly s c q (take_from t 0 k nexts area left) End
  all_full q k left nexts area low h ow some le =
      let nodes = s.geometry.few in
      let long = h.long in record {
        owns = ow;
        fewer = le;
        so = (
          refl,
          least s.geometry.nodes (length nexts) (length (take s.geometry.nodes nexts)) (omega arith) (length-take s.geometry.nodes nexts),
          (λ j lj. subst (λ v. WasFull s from q j v (need t)) (sym (get_or-take s.geometry.nodes nexts j 0 lj)) (⊎_elim (λ x. absurd (none j lj x)) (λ x. x) (h.each j lj))),
          some,
        );
      }
    where
      least : (n m x : ℕ) → n ≤ m → x ≡ min n m → x ≡ n
      least n m x le e = grind (arith, nat_tests)

      none : (j : ℕ) → j < s.geometry.nodes → IsAhead s.geometry.nodes k 0 j → ⊥
      none j lj (inl x) = omega arith
      none j lj (inr x) = omega arith

  -- the nodes are tried
  from_safe : (n k left : ℕ) (nexts : List ℕ) (area : Area) → k < s.geometry.nodes → (q : Past) → Legal s q → Before from q → Owns s c area q → Tried s from (need t) k n nexts q → 1 ≤ left → left ≤ few → SafeBy Quietly s c q (take_from t n k nexts area left) End
  from_safe zero k left nexts area low q l b ow h some le = all_full q k left nexts area low h ow some le
  from_safe (suc n) k left nexts area low q l b ow h some le = (
    take_low s k low,
    λ z lz sz.
        let kt = kept_tried s c from (need t) k (suc n) nexts in
        let kb = kept_both s c (Before from) (λ y. Owns s c area y × Tried s from (need t) k (suc n) nexts y) (kept_before s c from) (kept_both s c (Owns s c area) (Tried s from (need t) k (suc n) nexts) (kept_mine s c area.at area.left) kt) in
        let bz = kept_since s c (λ y. Before from y × (Owns s c area y × Tried s from (need t) k (suc n) nexts y)) kb sz lz (b, (ow, h)) in
        at_safe s c client block two most few from area (Tried s from (need t) k (suc n) nexts) kt left k (word_at s.geometry z (node_at s.geometry k)) low le
        (λ next left2. take_from t n (next_node t k) (slice_set nexts k next) area left2)
        (λ y next left2 ly by ry past some2 le2. from_safe n (next_node t k) left2 (slice_set nexts k next) area (turn_low s from y (need t) k n next nexts t refl low) y ly by.0 by.1.0
        (tried_more s from y (need t) k n next nexts t refl low by.1.1 ry past) some2 le2)
        z lz bz (record { at = z; from_then = bz.0; till = here; read = refl }),
  )

  first : (q : Past) → Tried s from (need t) (first_node t) s.geometry.nodes (replicate 8 0) q
  first q = record { long = refl; each = λ j low. inl (by j (first_node t) low (mod_below client s.geometry.nodes (positive s.geometry.nodes s.geometry.some))) }
    where
      positive : (n : ℕ) → 1 ≤ n → 0 < n
      positive n h = omega arith

      side : (j k : ℕ) → (k ≤ j) ⊎ (j < k)
      side j k = grind arith

      by : (j k : ℕ) → j < s.geometry.nodes → k < s.geometry.nodes → IsAhead s.geometry.nodes k s.geometry.nodes j
      by j k low h = ⊎_elim (λ (x : k ≤ j). inl (x, omega arith)) (λ (x : j < k). inr (omega arith)) (side j k)

  -- an area's address is one
  low_address : (q : Past) → Legal s q → (area : Area) → Owns s c area q → need t ≤ area.left → address_of area.at ≡ area.at
  unfolding address_of
  low_address q l area ow le = let x = mine_within s c q l area.at area.left area.at 0 ow (omega arith) (omega arith) in let w = s.geometry.within in mod-eq_of_lt (omega arith)

  sized_safe : (area : Area) → Owns s c area from → 1 ≤ few → Legal s from → SafeBy Quietly s c from (take_block t area few) End
  sized_safe area ow some l =
      by_cond Quietly s c End from (nat_le (need t) area.left) (write_block t (address_of area.at) (behind (need t) area) few) (take_from t s.geometry.nodes (first_node t) (replicate 8 0) area few)
      (λ v. let le = at_most (need t) area.left v in
      subst (λ x. SafeBy Quietly s c from (write_block t x (record { at = x + need t; left = area.left - need t }) few) End) (sym (low_address from l area ow le))
      (block_safe s c client block two most few from (record { at = area.at + need t; left = area.left - need t }) area.at few (λ x h1 h2 h3 h4. omega arith) some (same few) from l
      (mine_part s from c area.at area.left (area.at + need t) (area.left - need t) (omega arith) (omega arith) ow) (mine_part s from c area.at area.left area.at (need t) (omega arith) (omega arith) ow)))
      (λ v. from_safe s.geometry.nodes (first_node t) few (replicate 8 0) area (mod_below client s.geometry.nodes (positive s.geometry.nodes s.geometry.some)) from l here ow (first from) some (same few))
    where
      same : (x : ℕ) → x ≤ x
      same x = omega arith

      positive : (n : ℕ) → 1 ≤ n → 0 < n
      positive n h = omega arith

-- a taking of any client: its entries publish nothing, change nothing in the map and use no lock
pub taking_safe : (s : Setting) (c : ℕ) (t : Taking) (area : Area) (left : ℕ) (q : Past) → Legal s q → MayTake s c q t area → 1 ≤ left → SafeBy Quietly s c q (take_block t area left) (λ y e. HasTaken s c t left q y e)
taking_safe s c t area left q l m some =
    subst (λ g. SafeBy Quietly s c q (take_block (record { geometry = g; client = t.client; block = t.block }) area left) (λ y e. HasTaken s c (record { geometry = g; client = t.client; block = t.block }) left q y e)) (sym m.geometry)
    (sized_safe s c t.client t.block m.least m.most left q area m.owns some l)

-- .. as part of a call
pub taking_calm : (s : Setting) (c : ℕ) (t : Taking) (area : Area) (left : ℕ) (q : Past) → Legal s q → MayTake s c q t area → 1 ≤ left → SafeIn s c q (take_block t area left) (λ y e. HasTaken s c t left q y e)
taking_calm s c t area left q l m some = by_weaker Quietly s c Calmly (λ x e r. r.1) q (take_block t area left) (λ y e. HasTaken s c t left q y e) (λ y e. HasTaken s c t left q y e) (λ n a h. h) (taking_safe s c t area left q l m some)

pub taking_is_safe : TakingIsSafe
taking_is_safe t area left s c log l m some = safe_in_order s c log (take_block t area left) (λ y e. HasTaken s c t left (reverse log) y e) (taking_calm s c t area left (reverse log) l m some)

-- a program that is the taking is safe as the taking is
pub safe_as_taking : (t : Taking) (area : Area) (left : ℕ) (program : Prog TakeEnd) → program ≡ take_block t area left → IsSafeTaking t area left program
safe_as_taking t area left program e = subst (IsSafeTaking t area left) (sym e) (taking_is_safe t area left)

-- .. and so is one that takes the same block from the same area
pub same_taking : (t u : Taking) (area other : Area) (left : ℕ) (program : Prog TakeEnd) → program ≡ take_block u other left → u ≡ t → other ≡ area → program ≡ take_block t area left
same_taking t u area other left program e f g = e ∙ ap (λ v. take_block v other left) f ∙ ap (λ v. take_block t v left) g
