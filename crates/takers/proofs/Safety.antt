-- A taker is safe, and its word stays.
use Rattle.std.specs.Prelude.{◌≡◌, ℕ, zero, suc, ◌+◌, ◌*◌, ◌/◌, ◌<◌, ◌≤◌, ◌==◌, nat_le, Bool, true, false, cond, ◌∷◌, reverse, Option, Some, None, IfSome, refl}
use Rattle.std.proofs.Common.{sym, ◌∙◌, ap, subst, inl, arith}
use Rattle.std.proofs.lemmas.Bool.Decides.{nat_tests}
use Rattle.key_hash.specs.Placing.{Pairs, placed}
use Rattle.node_words.specs.declared.geometry.Geometry.{Geometry}
use Rattle.node_words.specs.Addresses.{node_size, node_at}
use Rattle.verb_log.specs.declared.entry.Entry.{Entry}
use Rattle.verb_log.specs.declared.entry.Verb.TheVariants.{Read, Write, Swap}
use Rattle.verb_log.specs.Tables.{Past, word_at}
use Rattle.verbs.specs.Programs.{do_verb, Prog, ret, ask, Within}
use Rattle.verbs.specs.Logs.{Entries, MayStand, Lengthened}
use Rattle.verbs.specs.Safe.{Safe}
use Rattle.verbs.proofs.Calls.{Safe-quiet}
use Rattle.race_laws.specs.Setting.{Setting, hash}
use Rattle.race_laws.specs.Rows.{IsStep}
use Rattle.race_laws.specs.Legal.{Legal, MayFollow}
use Rattle.race_laws.proofs.Touch.{word_put}
use Rattle.log_facts.specs.Since.{change_in, Since, same, more}
use Rattle.log_facts.specs.Mine.{Mine}
use Rattle.log_facts.specs.Among.{among, changes_of}
use Rattle.log_facts.specs.Entries.{Unchanging}
use Rattle.log_facts.proofs.Growing.{stands_legal, longer_since}
use Rattle.log_facts.proofs.Silent.{kept_since, kept_mine}
use Rattle.log_facts.proofs.Mine.{mine_others, mine_word}
use Rattle.log_facts.proofs.Taking.{take_low, take_meets, take_quiet, taken_mine, mine_within, store_meets, store_quiet, store_silent}
use Rattle.pass_laws.specs.SafeIn.{SafeBy}
use Rattle.pass_laws.proofs.Bridge.{by_quiet}
use Rattle.takers.specs.Text.{stores, after_take, from, taking}
use Rattle.takers.specs.Stored.{Stored, StoredSome, HasStored}

-- safe newest first, with entries that change nothing in the map
abbrev SafeStill : {A : Type 0} → Setting → ℕ → Past → Prog A → (Past → A → Type 0) → Type 0
SafeStill s c q p End = SafeBy Unchanging s c q p End

chosen : {A : Type 0} (s : Setting) (c : ℕ) (End : Past → A → Type 0) (q : Past) (b : Bool) (p r : Prog A) → (b ≡ true → SafeStill s c q p End) → (b ≡ false → SafeStill s c q r End) → SafeStill s c q (cond b p r) End
chosen s c End q true p r f g = f refl
chosen s c End q false p r f g = g refl

equal : (x y : ℕ) → (x == y) ≡ true → x ≡ y
equal x y h = grind (arith, nat_tests)

differ : (x y : ℕ) → x ≡ y → (x == y) ≡ false → ⊥
differ x y h k = grind (arith, nat_tests)

at_most : (x y : ℕ) → nat_le x y ≡ true → x ≤ y
at_most x y h = grind (arith, nat_tests)

module _ (s : Setting) (c word : ℕ) where
  stores_safe : (left first at : ℕ) (q : Past) → Legal s q → Mine s.geometry q c first 3 → first ≤ at → at + left ≡ first + 2 → SafeStill s c q (stores word first at (suc left)) (StoredSome s c word)
  stores_safe zero first at q l m low end = (
    mine_within s c q l first 3 at word m low (omega arith),
    λ z lz sz.
        let mz = kept_since s c (λ y. Mine s.geometry y c first 3) (kept_mine s c first 3) sz lz m in
        let me = store_meets s c z lz first 3 at word mz low (omega arith) in
        let e = change_in s.geometry c z at word in (
          (me, store_quiet s c z lz first 3 at word mz low (omega arith)),
          record {
            mine = (kept_mine s c first 3).silent z e (lz, me) (store_silent s c z lz first 3 at word mz low (omega arith)) mz;
            stands = word_put s.geometry z e (first + 2) (omega arith);
          },
        ),
  )
  stores_safe (suc rest) first at q l m low end = (
    mine_within s c q l first 3 at word m low (omega arith),
    λ z lz sz.
        let mz = kept_since s c (λ y. Mine s.geometry y c first 3) (kept_mine s c first 3) sz lz m in
        let me = store_meets s c z lz first 3 at word mz low (omega arith) in
        let e = change_in s.geometry c z at word in
        ((me, store_quiet s c z lz first 3 at word mz low (omega arith)), stores_safe rest first (at + 1) (e ∷ z) (lz, me) ((kept_mine s c first 3).silent z e (lz, me) (store_silent s c z lz first 3 at word mz low (omega arith)) mz) (omega arith) (omega arith)),
  )

  node_zero : node_at s.geometry 0 ≡ 0
  unfolding node_at
  node_zero = zero_times (node_size s.geometry)
    where
      zero_times : (x : ℕ) → 0 * x ≡ 0
      zero_times x = omega arith

  one_node : (x : ℕ) → (0 + 1) * x ≡ x
  one_node x = omega arith

  three : IsStep s.geometry 3
  three = inl (omega arith, omega arith)

  swap_safe : (n : ℕ) (q : Past) → Legal s q → n + 3 ≤ (0 + 1) * node_size s.geometry → SafeStill s c q (ask (do_verb None (Swap (node_at s.geometry 0) n (n + 3))) (λ found. after_take word n found)) (StoredSome s c word)
  swap_safe n q l room =
      let some = s.geometry.some in (
        take_low s 0 (omega arith),
        λ z lz sz.
            let found = word_at s.geometry z (node_at s.geometry 0) in (
              (λ now.
                  let e = change_in s.geometry c z (node_at s.geometry 0) (n + 3) in
                  let me = take_meets s c z lz 0 n 3 (omega arith) now three (omega arith) room in (
                    (me, take_quiet s c z lz 0 n 3 (omega arith) now three (omega arith) room),
                    chosen s c (StoredSome s c word) (e ∷ z) (found == n) (stores word n n 3) (ret None)
                        (λ h. stores_safe 2 n n (e ∷ z) (lz, me) (taken_mine s c z lz 0 n 3 (omega arith) now three (omega arith) room) (omega arith) refl)
                        (λ h. tt),
                  )),
              (λ other. chosen s c (StoredSome s c word) z (found == n) (stores word n n 3) (ret None) (λ h. absurd (other (equal found n h))) (λ h. tt)),
            ),
      )

  taking_safe : (q : Past) → Legal s q → SafeStill s c q (taking (node_size s.geometry) word) (StoredSome s c word)
  taking_safe q l = (
    subst (λ a. a < s.geometry.words) node_zero (let some = s.geometry.some in take_low s 0 (omega arith)),
    λ z lz sz.
        let n = word_at s.geometry z 0 in
        chosen s c (StoredSome s c word) z (nat_le (n + 3) (node_size s.geometry)) (ask (do_verb None (Swap 0 n (n + 3))) (λ found. after_take word n found)) (ret None)
        (λ h. subst (λ a. SafeStill s c z (ask (do_verb None (Swap a n (n + 3))) (λ found. after_take word n found)) (StoredSome s c word)) node_zero
        (swap_safe n z lz (let k = at_most (n + 3) (node_size s.geometry) h in let j = one_node (node_size s.geometry) in omega arith)))
        (λ h. tt),
  )

-- on running words, whatever the hashes are called
pub taker_safe : (s : Setting) (c end word : ℕ) (l : Entries) → end ≡ node_size s.geometry → MayStand (MayFollow s) l → Safe (among s c) (placed s.listed) l (taking end word) (λ m r. StoredSome s c word (reverse m) r)
unfolding hash
taker_safe s c end word l is st =
    subst (λ n. Safe (among s c) (placed s.listed) l (taking n word) (λ m r. StoredSome s c word (reverse m) r)) (sym is)
    (Safe-quiet (among s c) (hash s) (changes_of s) l (taking (node_size s.geometry) word) (λ m r. StoredSome s c word (reverse m) r)
    (by_quiet Unchanging s c (λ q e u. u) l (taking (node_size s.geometry) word) (StoredSome s c word) (taking_safe s c word (reverse l) (stands_legal s l st))))

-- a taker ends within five verbs
within-chosen : {A : Type 0} (n : ℕ) (b : Bool) (p r : Prog A) → Within n p → Within n r → Within n (cond b p r)
within-chosen n true p r f g = f
within-chosen n false p r f g = g

pub taker_within : (end word : ℕ) → Within 5 (taking end word)
taker_within end word next =
    within-chosen 4 (nat_le (next + 3) end) (ask (do_verb None (Swap 0 next (next + 3))) (λ found. after_take word next found)) (ret None)
    (λ found. within-chosen 3 (found == next) (stores word next next 3) (ret None) (λ a b d. tt) tt)
    tt

-- others change nothing of it
stored_since : (s : Setting) (c word first : ℕ) (p q : Past) → Since c p q → Legal s q → Stored s c word p first → Stored s c word q first
stored_since s c word first p q same l h = h
stored_since s c word first p q (more {q = r} e b o) l h =
    let k = stored_since s c word first p r b l.0 h in
    record { mine = mine_others s r e l c first 3 o k.mine; stands = mine_word s r e l c first 3 (first + 2) o k.mine (omega arith) (omega arith) ∙ k.stands }

pub stored_longer : (s : Setting) (c word first : ℕ) (l m : Entries) → Lengthened (MayFollow s) c l m → HasStored s c word l first → HasStored s c word m first
stored_longer s c word first l m b h = stored_since s c word first (reverse l) (reverse m) (longer_since s c l m b.1) (stands_legal s m b.0) h

pub size_is : (g h : Geometry) (nodes : ℕ) → g ≡ h → nodes ≡ g.nodes → g.words / nodes ≡ node_size h
unfolding node_size
size_is g h nodes e n = ap (λ x. g.words / x) n ∙ ap (λ (x : Geometry). x.words / x.nodes) e

-- of a machine that is to take, with the memory's placer
pub take_runs : (s : Setting) (c end word : ℕ) (l : Entries) (listed : Pairs) (p : Prog (Option ℕ)) → end ≡ node_size s.geometry → listed ≡ s.listed → p ≡ taking end word → MayStand (MayFollow s) l
    → Safe (among s c) (placed listed) l p (λ m r. StoredSome s c word (reverse m) r)
take_runs s c end word l listed p is pairs begun st =
    subst (λ q. Safe (among s c) (placed listed) l q (λ m r. StoredSome s c word (reverse m) r)) (sym begun)
    (subst (λ x. Safe (among s c) (placed x) l (taking end word) (λ m r. StoredSome s c word (reverse m) r)) (sym pairs)
    (taker_safe s c end word l is st))

pub stored_if : (s : Setting) (c word : ℕ) (l : Entries) (o : Option ℕ) → StoredSome s c word (reverse l) o → IfSome o (λ first. HasStored s c word l first)
stored_if s c word l None h = tt
stored_if s c word l (Some first) h = h

pub stored_if_longer : (s : Setting) (c word : ℕ) (l m : Entries) (o : Option ℕ) → Lengthened (MayFollow s) c l m → IfSome o (λ first. HasStored s c word l first) → IfSome o (λ first. HasStored s c word m first)
stored_if_longer s c word l m None b h = tt
stored_if_longer s c word l m (Some first) b h = stored_longer s c word first l m b h
