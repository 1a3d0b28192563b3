-- A whole posted look, from a table where it may start or through the directory.
use Rattle.std.specs.Prelude.{◌≡◌, ℕ, ◌+◌, ◌%◌, ◌^◌, ◌<◌, ◌≤◌, Bool, true, false, cond, nat_lt, min, List, Option, Some, None, refl}
use Rattle.std.proofs.Common.{sym, ◌∙◌, ap, subst, arith, ⊎_elim}
use Rattle.std.proofs.lemmas.Nat.{pow_pos, mod_below}
use Rattle.std.proofs.lemmas.Bool.Decides.{nat_tests}
use Rattle.slot_word.specs.declared.heads.Head.{Head}
use Rattle.slot_word.specs.declared.heads.State.{State}
use Rattle.slot_word.specs.declared.heads.State.TheVariants.{Plain, Splitting, Filling}
use Rattle.slot_word.specs.declared.births.Birth.{Birth}
use Rattle.kv_block.specs.Bytes.{AreBytes}
use Rattle.node_words.specs.Addresses.{first_free, directory_at, header_at, birth_at}
use Rattle.node_words.proofs.Sizes.{first_free_directory, first_free_words}
use Rattle.verb_log.specs.Decoded.{NoHeader, header_of, header_with, birth}
use Rattle.verb_log.specs.Tables.{Past, Before, here, word_at}
use Rattle.verb_log.proofs.Positions.{Before-trans}
use Rattle.race_laws.specs.Setting.{Setting, hash}
use Rattle.race_laws.specs.Standing.{birth_in, header_in, IsFilling}
use Rattle.race_laws.specs.Chains.{OnChain}
use Rattle.race_laws.specs.Looks.{begins}
use Rattle.race_laws.specs.Legal.{Legal}
use Rattle.race_laws.proofs.SoundStep.{sound}
use Rattle.race_laws.proofs.Frames.{birth_before}
use Rattle.race_laws.proofs.Finality.{ripe_before}
use Rattle.race_laws.proofs.Opening.{splits}
use Rattle.race_laws.proofs.Chain.{born_at, chain_table, chain_before}
use Rattle.log_facts.specs.Start.{Start, on_chain}
use Rattle.log_facts.proofs.Growing.{since_before}
use Rattle.log_facts.proofs.Starts.{start_table, start_before, start_ripe, start_above, low_born}
use Rattle.log_facts.proofs.Within.{header_low, birth_low}
use Rattle.log_facts.proofs.Directory.{Directs, directs, pow_up, directory_chain}
use Rattle.pass_text.specs.declared.job.Job.{Job}
use Rattle.pass_text.specs.declared.job.Opened.{Opened}
use Rattle.pass_text.specs.declared.job.PassMode.TheVariants.{Look}
use Rattle.pass_text.specs.declared.passed.Passed.{Passed}
use Rattle.pass_text.specs.Words as w
use Rattle.pass_text.specs.Pass as m
use Rattle.pass_laws.specs.Drops.{Drops}
use Rattle.pass_laws.specs.Law.{IsJobOf, MayBegin}
use Rattle.pass_laws.proofs.SameWords.{head_alike}
use Rattle.pass_laws.proofs.TableAddress.{table_address}
use Rattle.post_text.specs.Posts.{Posts, post_one}
use Rattle.post_text.specs.Look.{search, begin, on_header, at_table, posted_look}
use Rattle.post_laws.specs.SafePosts.{PostsBy}
use Rattle.post_laws.specs.HasLooked.{HasLooked}
use Rattle.post_laws.specs.Law.{IsSafeLook, LookIsSafe}
use Rattle.post_laws.proofs.PostedReads.{one_safe}
use Rattle.post_laws.proofs.Looking.{look_of}
use Rattle.post_laws.proofs.Searching.{first_rel, search_safe}

module _ (s : Setting) (c : ℕ) (key : List ℕ) (bytes : AreBytes key) (from : Past) where
  abbrev j : Job
  j = look_of s key

  abbrev End : Past → Passed → Type 0
  End y p = HasLooked s key from y p

  abbrev Safe : Past → Posts Passed → Type 0
  Safe q p = PostsBy (Drops Look) s c q p End

  -- a look that has opened at a position with this header
  module _ (t : ℕ) (z : Past) (bf : Before from z) (head : Head) (head_at : header_in s.geometry z t ≡ header_of (Some head)) where
    abbrev o : Opened
    o = record { table = t; head = head }

    search_here : (u born : ℕ) (q : Past) → Before z q → Legal s q → OnChain s.geometry q (hash s key) u → (IsFilling (header_in s.geometry q u) → ⊥) → born ≡ born_at s.geometry q u → Safe q (search j s.geometry.max_depth (m.first_seen o u born))
    search_here u born q zq l ch ripe be =
        search_safe s c key bytes o from z bf head_at s.geometry.max_depth None None tt u born q q (m.first_seen o u born) (begins u q zq ch ripe) here l (on_chain u ch) be (fuel born) (first_rel s c key bytes o from z bf head_at u born)
      where
        fuel : (b : ℕ) → s.geometry.max_depth ≤ b + s.geometry.max_depth
        fuel b = omega arith

    begin_safe : (u : ℕ) (q : Past) → Before z q → Legal s q → OnChain s.geometry q (hash s key) u → (IsFilling (header_in s.geometry q u) → ⊥) → Safe q (begin j o u)
    unfolding w.is_first
    begin_safe u q zq l ch ripe = by (nat_lt u (first_free s.geometry)) refl
      where
        less : (x y : ℕ) → nat_lt x y ≡ true → x < y
        less x y e = grind (arith, nat_tests)

        by : (v : Bool) → nat_lt u (first_free s.geometry) ≡ v → Safe q (cond v (search j s.geometry.max_depth (m.first_seen o u s.geometry.first_depth)) (post_one (birth_at u) (λ x. search j s.geometry.max_depth (m.first_seen o u (birth x).depth))))
        by true e = search_here u s.geometry.first_depth q zq l ch ripe (sym (low_born s q l u (chain_table s q l (hash s key) u ch) (less u (first_free s.geometry) e)))
        by false e =
            let tb = chain_table s q l (hash s key) u ch in
            one_safe Passed (Drops Look) s c End q (birth_at u) (birth_low s q l u tb) (λ x. search j s.geometry.max_depth (m.first_seen o u (birth x).depth))
            (λ y ly sy. let qy = since_before sy in search_here u (born_at s.geometry y u) y (Before-trans zq qy) ly (chain_before s qy ly (hash s key) u ch) (ripe_before s qy ly u tb ripe) refl)

    header_safe : Legal s z → Start s.geometry z (hash s key) t → Safe z (on_header j t head)
    header_safe l st = by head.state refl
      where
        state_is : (x : State) → head.state ≡ x → header_in s.geometry z t ≡ header_with head.depth x
        state_is x e = head_at ∙ ap (header_with head.depth) e

        plain : (IsFilling (header_in s.geometry z t) → ⊥) → Safe z (begin j o t)
        plain f = begin_safe t z here l (start_ripe s z l (hash s key) t st f) f

        by : (x : State) → head.state ≡ x → Safe z (cond (w.is_filling x) (post_one (birth_at t) (λ b. begin j o (birth b).parent)) (begin j o t))
        by Plain e = plain (λ f. subst IsFilling (state_is Plain e) f)
        by Splitting e = plain (λ f. subst IsFilling (state_is Splitting e) f)
        by Filling e =
            let tb = start_table s z l (hash s key) t st in
            let ab = start_above s z l (hash s key) t st (subst IsFilling (sym (state_is Filling e)) tt) in
            let tp = chain_table s z l (hash s key) (birth_in s.geometry z t).parent ab.chain in
            one_safe Passed (Drops Look) s c End z (birth_at t) (birth_low s z l t tb) (λ b. begin j o (birth b).parent)
            (λ y ly sy.
            let zy = since_before sy in
            let par : (birth_in s.geometry z t).parent ≡ (birth_in s.geometry y t).parent = ap (λ (v : Birth). v.parent) (sym (birth_before s zy ly t tb)) in
            subst (λ v. Safe y (begin j o v)) par
            (begin_safe (birth_in s.geometry z t).parent y zy ly (chain_before s zy ly (hash s key) (birth_in s.geometry z t).parent ab.chain)
            (ripe_before s zy ly (birth_in s.geometry z t).parent tp ab.ripe)))

  -- from a table where a look may start
  at_table_safe : (t : ℕ) (q : Past) → Before from q → Legal s q → Start s.geometry q (hash s key) t → Safe q (at_table j t)
  at_table_safe t q bf l st =
      one_safe Passed (Drops Look) s c End q (header_at t) (header_low s q l t (start_table s q l (hash s key) t st)) (λ x. on_header j t (w.head_in x))
      (λ z lz sz.
      let qz = since_before sz in
      let stz = start_before s qz lz (hash s key) t st in
      header_safe t z (Before-trans bf qz) (w.head_in (word_at s.geometry z (header_at t)))
      (⊎_elim (λ (x : header_of (Some (w.head_in (word_at s.geometry z (header_at t)))) ≡ header_in s.geometry z t). sym x) (λ (x : header_in s.geometry z t ≡ NoHeader). absurd ((splits s z lz).valid t (start_table s z lz (hash s key) t stz) x)) (head_alike (word_at s.geometry z (header_at t))))
      lz stz)

  -- from a cached table
  cached_safe : (t : ℕ) (q : Past) → Before from q → Legal s q → Start s.geometry q (hash s key) t → Safe q (posted_look j (Some t))
  cached_safe t q bf l st = subst (λ v. Safe q (at_table j v)) (sym (table_address s.geometry q (sound s q l) t (start_table s q l (hash s key) t st))) (at_table_safe t q bf l st)

  -- through the directory
  directory_safe : (q : Past) → Before from q → Legal s q → Safe q (posted_look j None)
  unfolding w.directory_word
  directory_safe q bf l =
      let d = first_free_directory s.geometry in
      let x = first_free_words s.geometry in
      one_safe Passed (Drops Look) s c End q 1 (omega arith) (λ depth. post_one (w.directory_word j depth) (λ table. at_table j (w.address_of table)))
      (λ y ly sy.
      let dy = directs s y ly in
      subst (λ n. Safe y (post_one (directory_at (hash s key % 2 ^ n)) (λ table. at_table j (w.address_of table)))) (sym (least (word_at s.geometry y 1) s.geometry.max_depth dy.depth_low))
      (one_safe Passed (Drops Look) s c End y (directory_at (hash s key % 2 ^ word_at s.geometry y 1)) (low y dy) (λ table. at_table j (w.address_of table))
      (λ z lz sz.
      let yz = since_before sz in
      let t = word_at s.geometry z (directory_at (hash s key % 2 ^ word_at s.geometry y 1)) in
      let ch = directory_chain s yz lz (hash s key) in
      subst (λ v. Safe z (at_table j v)) (sym (table_address s.geometry z (sound s z lz) t (chain_table s z lz (hash s key) t ch)))
      (at_table_safe t z (Before-trans bf (Before-trans (since_before sy) yz)) lz (on_chain t ch)))))
    where
      least : (a b : ℕ) → a ≤ b → min a b ≡ a
      least a b h = omega arith

      low : (y : Past) → Directs s y → directory_at (hash s key % 2 ^ word_at s.geometry y 1) < s.geometry.words
      low y ds =
          let d = first_free_directory s.geometry in
          let x = first_free_words s.geometry in
          let n = mod_below (hash s key) (2 ^ word_at s.geometry y 1) (pow_pos (word_at s.geometry y 1)) in
          let p = pow_up (word_at s.geometry y 1) s.geometry.max_depth ds.depth_low in
          omega arith

  pub posted_safe : (start : Option ℕ) → Legal s from → MayBegin s key Look from start → Safe from (posted_look j start)
  posted_safe None l b = directory_safe from here l
  posted_safe (Some t) l b = cached_safe t from here l b

-- a job of a look is the look for its key
job_is : (s : Setting) (j : Job) → IsJobOf s j → j.mode ≡ Look → look_of s j.key ≡ j
job_is s j job e = sym (λ i. record { geometry = job.geometry i; key = j.key; hash = job.hash i; mode = e i })

pub look_is_safe : LookIsSafe
look_is_safe j start e s c past l job b = subst (λ v. PostsBy (Drops Look) s c past (posted_look v start) (λ q p. HasLooked s j.key past q p)) (job_is s j job e) (posted_safe s c j.key job.bytes past start l b)

-- .. and so is what is the same text
pub safe_as_look : (j : Job) (start : Option ℕ) (text : Posts Passed) → text ≡ posted_look j start → j.mode ≡ Look → IsSafeLook j start text
safe_as_look j start text e look = subst (IsSafeLook j start) (sym e) (look_is_safe j start look)

pub ruleset looks = (safe_as_look)
