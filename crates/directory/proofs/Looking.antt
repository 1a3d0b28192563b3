-- Looking at a directory word is safe, and then the word has named the child or a table below it.
use Rattle.std.specs.Prelude.{◌≡◌, ℕ, zero, suc, ◌+◌, ◌<◌, ◌≤◌, true, false, cond, ◌==◌, nat_lt, ◌∷◌, None, refl}
use Rattle.std.proofs.Common.{sym, ◌∙◌, ap, subst, inl, inr, arith, ⊎_elim}
use Rattle.std.proofs.lemmas.Bool.Decides.{nat_tests}
use Rattle.slot_word.specs.declared.births.Birth.{Birth}
use Rattle.node_words.specs.Addresses.{directory_at}
use Rattle.verb_log.specs.declared.entry.Verb.TheVariants.{Swap}
use Rattle.verb_log.specs.Decoded.{birth}
use Rattle.verb_log.specs.Tables.{Past, Before, here, later, word_at}
use Rattle.verb_log.proofs.Positions.{Before-trans}
use Rattle.verbs.specs.Programs.{Prog, ask, do_verb}
use Rattle.race_laws.specs.Setting.{Setting}
use Rattle.race_laws.specs.Standing.{IsTable}
use Rattle.race_laws.specs.Legal.{Legal}
use Rattle.race_laws.proofs.Positions.{legal_before}
use Rattle.race_laws.proofs.Touch.{word_put}
use Rattle.race_laws.proofs.SoundStep.{sound}
use Rattle.race_laws.proofs.Frames.{birth_before}
use Rattle.race_laws.proofs.Chain.{born_at}
use Rattle.log_facts.specs.Since.{change_in}
use Rattle.log_facts.proofs.Growing.{since_before}
use Rattle.log_facts.proofs.Within.{birth_low}
use Rattle.log_facts.proofs.Following.{name_meets, directory_low}
use Rattle.log_facts.proofs.Directory.{Pointed, directs}
use Rattle.log_facts.proofs.Naming.{pointed_before, pointed_row, table_is_address, deeper_word, name_kind}
use Rattle.pass_text.specs.Words.{address_of}
use Rattle.pass_laws.specs.SafeIn.{MayBy, SafeBy}
use Rattle.pass_laws.proofs.Rules.{by_cond}
use Rattle.pass_laws.proofs.SameWords.{equal}
use Rattle.pass_laws.proofs.TableAddress.{table_address}
use Rattle.directory.specs.declared.naming.Naming.{Naming}
use Rattle.directory.specs.declared.naming.Named.{Named}
use Rattle.directory.specs.Text.{look}
use Rattle.directory.specs.Law.{Names, WasNamed}
use Rattle.directory.proofs.Child.{Child, child_later, child_since, Mine, mine_later, pointed_at, deep_named}

pub differ : (x y : ℕ) → x ≡ y → (x == y) ≡ false → ⊥
differ x y h k = grind (arith, nat_tests)

less : (x y : ℕ) → nat_lt x y ≡ true → x < y
less x y h = grind (arith, nat_tests)

not_less : (x y : ℕ) → nat_lt x y ≡ false → y ≤ x
not_less x y h = grind (arith, nat_tests)

-- A word of an index with the child's suffix stood at a position.
pub record Stood (s : Setting) (t : Naming) (from : Past) (j w : ℕ) (r : Past) : Type 0 where
  pub child : Child s t from r
  pub mine : Mine s t from j r
  pub is : word_at s.geometry r (directory_at j) ≡ w

module _ (s : Setting) (c : ℕ) (t : Naming) (from : Past) (End : Past → Named → Type 0) (j : ℕ) (next : Prog Named) (start : Past) (f : (z : Past) → Legal s z → Child s t from z → Before start z → WasNamed s.geometry from z j t.child → SafeBy Names s c z next End) where
  -- at a word that names a table born no less deep than the child
  deep_enough : (w : ℕ) (r q : Past) → Before r q → Legal s q → Child s t from q → Before start q → Stood s t from j w r → t.birth.depth ≤ born_at s.geometry r w → SafeBy Names s c q next End
  deep_enough w r q b l h st m deep = f q l h st (record {
    at = r;
    from_then = m.child.begun;
    till = b;
    named = deep_named s t from r (legal_before s b l) m.child j m.mine (subst (λ v. t.birth.depth ≤ born_at s.geometry r v) (sym m.is) deep);
  })

  pub look_safe : (n w : ℕ) (r q : Past) → Before r q → Legal s q → Child s t from q → Before start q → Stood s t from j w r → suc t.birth.depth ≤ n + born_at s.geometry r w → SafeBy Names s c q (look t n j w next) End
  look_safe zero w r q b l h st m k = deep_enough w r q b l h st m (omega arith)
  look_safe (suc n) w r q b l h st m k = (
    subst (λ v. v < s.geometry.words) (sym (address q b l)) (birth_low s q l w (table q b l)),
    λ z lz sz.
        let bz = Before-trans b (since_before sz) in
        let hz = child_since s t from sz lz h in
        let stz = Before-trans st (since_before sz) in
        let depth_is : (birth (word_at s.geometry z (address_of w))).depth ≡ born_at s.geometry z w = ap (λ v. (birth (word_at s.geometry z v)).depth) (address z bz lz) in
        let old = born_same z bz lz in
        by_cond Names s c End z (nat_lt (birth (word_at s.geometry z (address_of w))).depth t.birth.depth) _ next
        (λ v. swap_safe (λ y r2 w2 b2 ly hy sty m2 k2. look_safe n w2 r2 y b2 ly hy sty m2 k2) z lz hz bz stz (let x = less (birth (word_at s.geometry z (address_of w))).depth t.birth.depth v in omega arith))
        (λ v. deep_enough w r z bz lz hz stz m (let x = not_less (birth (word_at s.geometry z (address_of w))).depth t.birth.depth v in omega arith)),
  )
    where
      pointed : (z : Past) → Before r z → Legal s z → Pointed s.geometry z j w
      pointed z bz lz = subst (Pointed s.geometry z j) m.is (pointed_before s bz lz j (word_at s.geometry r (directory_at j)) ((directs s r (legal_before s bz lz)).points j m.mine.low m.mine.some))

      table : (z : Past) → Before r z → Legal s z → IsTable s.geometry z w
      table z bz lz = (pointed z bz lz).table

      address : (z : Past) → Before r z → Legal s z → address_of w ≡ w
      address z bz lz = table_address s.geometry z (sound s z lz) w (table z bz lz)

      born_same : (z : Past) → Before r z → Legal s z → born_at s.geometry z w ≡ born_at s.geometry r w
      born_same z bz lz = ap (λ (v : Birth). v.depth) (birth_before s bz lz w (table r here (legal_before s bz lz)))

      swap_safe : ((y r2 : Past) (w2 : ℕ) → Before r2 y → Legal s y → Child s t from y → Before start y → Stood s t from j w2 r2 → suc t.birth.depth ≤ n + born_at s.geometry r2 w2 → SafeBy Names s c y (look t n j w2 next) End) → (z : Past) → Legal s z → Child s t from z → Before r z → Before start z → born_at s.geometry r w < t.birth.depth → SafeBy Names s c z (ask (do_verb None (Swap (directory_at j) w t.child)) (λ found. cond (found == w) next (look t n j found next))) End
      swap_safe ih z lz hz bz stz sh = (directory_low s c z lz j m.mine.low, λ y ly sy. by y ly (child_since s t from sy ly hz) (Before-trans bz (since_before sy)) (Before-trans stz (since_before sy)))
        where
          by : (y : Past) → Legal s y → Child s t from y → Before r y → Before start y → MayBy Names s c y (Swap (directory_at j) w t.child) (λ x found. SafeBy Names s c x (cond (found == w) next (look t n j found next)) End)
          by y ly hy bry sty = (
            (λ now.
                let my = mine_later s t from j bry ly m.mine in
                let pc = pointed_at s t from y hy j m.mine.suffix in
                let an = table_is_address s y ly t.child pc.table in
                let less_deep : born_at s.geometry y (word_at s.geometry y (directory_at j)) < born_at s.geometry y t.child = let a = ap (born_at s.geometry y) now in let b2 = born_same y bry ly in let e = ap (λ (v : Birth). v.depth) hy.birth in omega arith in
                let me = name_meets s c y ly j t.child m.mine.low an (pointed_row s c y j t.child pc (inr (((directs s y ly).points j my.low my.some).table, less_deep))) in
                let e2 = change_in s.geometry c y (directory_at j) t.child in
                let le : Legal s (e2 ∷ y) = (ly, me) in (
                  (me, inl (name_kind s c y ly j t.child m.mine.low an)),
                  by_cond Names s c End (e2 ∷ y) (word_at s.geometry y (directory_at j) == w) next _
                      (λ v. f (e2 ∷ y) le (child_later s t from y e2 le hy) (later sty) (record { at = e2 ∷ y; from_then = later hy.begun; till = here; named = inl (word_put s.geometry y e2 (directory_at j) refl) }))
                      (λ v. absurd (differ (word_at s.geometry y (directory_at j)) w now v)),
                )),
            (λ other. by_cond Names s c End y (word_at s.geometry y (directory_at j) == w) next _
                (λ v. absurd (other (equal (word_at s.geometry y (directory_at j)) w v)))
                (λ v. ih y y (word_at s.geometry y (directory_at j)) here ly hy sty (record { child = hy; mine = mine_later s t from j bry ly m.mine; is = refl })
                (⊎_elim (λ (x : word_at s.geometry y (directory_at j) ≡ word_at s.geometry r (directory_at j)). absurd (other (x ∙ m.is))) (λ x. let u = ap (born_at s.geometry r) m.is in omega arith) (deeper_word s bry ly j m.mine.low m.mine.some)))),
          )
