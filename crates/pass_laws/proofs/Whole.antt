-- A whole pass, by the text.
use Rattle.std.specs.Prelude.{◌≡◌, ◌≢◌, ℕ, ◌+◌, ◌%◌, ◌^◌, ◌<◌, ◌≤◌, Bool, true, false, cond, ◌==◌, min, List, [], ◌∷◌, reverse, Option, Some, None, refl}
use Rattle.std.proofs.Common.{sym, ◌∙◌, ap, subst, arith, ⊎_elim}
use Rattle.std.proofs.lemmas.Nat.{pow_pos, mod_below}
use Rattle.std.proofs.lemmas.Bool.Decides.{nat_tests}
use Rattle.slot_word.specs.declared.heads.Head.{Head}
use Rattle.node_words.specs.declared.geometry.Geometry.{Geometry}
use Rattle.node_words.specs.Addresses.{directory_at, header_at, slot_at}
use Rattle.node_words.proofs.Sizes.{first_free_directory, first_free_words}
use Rattle.verb_log.specs.declared.entry.Entry.{Entry}
use Rattle.verb_log.specs.declared.entry.Verb.TheVariants.{Read}
use Rattle.verb_log.specs.Decoded.{Header, NoHeader, header_of}
use Rattle.verb_log.specs.Tables.{Past, Before, here, later, word_at}
use Rattle.verb_log.proofs.Positions.{Before-trans}
use Rattle.verbs.specs.Programs.{Prog, do_verb, ask}
use Rattle.race_laws.specs.Setting.{Setting, hash}
use Rattle.race_laws.specs.Standing.{header_in, Stays, IsGone}
use Rattle.race_laws.specs.Looks.{Reading}
use Rattle.race_laws.specs.Legal.{Legal}
use Rattle.race_laws.proofs.SoundStep.{sound}
use Rattle.race_laws.proofs.Opening.{splits}
use Rattle.race_laws.proofs.Chain.{chain_table}
use Rattle.log_facts.specs.Passings.{searched_before}
use Rattle.log_facts.specs.Start.{Start, on_chain}
use Rattle.log_facts.proofs.Growing.{since_before}
use Rattle.log_facts.proofs.Starts.{start_table, start_before}
use Rattle.log_facts.proofs.Within.{header_low}
use Rattle.log_facts.proofs.Directory.{Directs, directs, pow_up, directory_chain}
use Rattle.pass_text.specs.declared.job.Job.{Job}
use Rattle.pass_text.specs.declared.job.Opened.{Opened}
use Rattle.pass_text.specs.declared.job.PassMode.{PassMode}
use Rattle.pass_text.specs.declared.job.PassMode.TheVariants.{Look, Sweep, Walk}
use Rattle.pass_text.specs.declared.passed.Passed.{Passed}
use Rattle.pass_text.specs.Words.{address_of, head_in, directory_word}
use Rattle.pass_text.specs.Pass.{opened_at, on_header, at_table, pass}
use Rattle.pass_laws.specs.SafeIn.{SafeBy, Calmly, SafeIn}
use Rattle.pass_laws.specs.Drops.{Drops}
use Rattle.pass_laws.specs.HasPassed as told
use Rattle.pass_laws.specs.HasPassed.{HasPassed}
use Rattle.pass_laws.specs.Law.{MayBegin, IsJobOf, PassIsSafe, IsSafePass}
use Rattle.pass_laws.proofs.ListPass.{Mode, look, sweep, walk, Shown, How, held, clear, gone, spent, Ended, by_start}
use Rattle.pass_laws.proofs.ListEnd as lists
use Rattle.pass_laws.proofs.ListEnd.{Saw, HasLeft, Dropping}
use Rattle.pass_laws.proofs.Bridge.{safe_in_order}
use Rattle.pass_laws.proofs.Keeping.{drop_calmly}
use Rattle.pass_laws.proofs.Rules.{by_weaker, by_end, by_kept}
use Rattle.pass_laws.proofs.TableAddress.{table_address}
use Rattle.pass_laws.proofs.Searching.{Own, all_searches, own_before, by_start_safe}
use Rattle.pass_laws.proofs.Sim.{safe_sim, SameMode, LostSo, HeadSo, EndsAlike, FreeFrom, FreeSo, Alike, aim_of}
use Rattle.pass_laws.proofs.SameWords.{head_alike}
use Rattle.pass_laws.proofs.SamePass.{header_sim}

-- the header told is the one read
head_is : (p : Passed) (h : Header) → HeadSo p h → h ≢ NoHeader → h ≡ header_of (Some p.head)
head_is p h so v = ⊎_elim (λ (x : header_of (Some p.head) ≡ h). sym x) (λ (x : h ≡ NoHeader). absurd (v x)) so

-- the slots told as free are those read as 0
free_told : (g : Geometry) (t : ℕ) (free : List Bool) (i : ℕ) (seen : List Reading) (shown : List Shown) → Saw g t seen shown → FreeFrom free i shown → told.FreeFrom g t free i seen
free_told g t free i [] [] saw f = tt
free_told g t free i [] (x ∷ xs) saw f = tt
free_told g t free i (r ∷ rs) [] saw f = absurd saw
free_told g t free i (r ∷ rs) (x ∷ xs) saw f = (f.0 ∙ ap (λ w. w == 0) (sym saw.1), free_told g t free (i + 1) rs xs saw.2 f.1)

-- the end of the pass over lists, as the text tells it
module _ (s : Setting) (key : List ℕ) (z y : Past) (p : Passed) where
  held_told : (md : Mode) (place word : ℕ) (value : List ℕ) → lists.HeldAt s key md z y p.table place word value → told.HeldAt s key z y p.table (record { at = slot_at p.table place; word = word; value = value })
  held_told md place word value h = record { at = h.at; from_then = h.from_then; till = h.till; place = place; body = h.body; pair = h.pair; holder = h.holder; slot = refl; word = h.word_is; value = h.value_is }

  clear_told : (own : Option ℕ) (parent : Option ℕ) (shown : List Shown) (h : Header) → lists.ClearAt s key own z y p.table parent shown h → p.parent ≡ parent → HeadSo p h → told.ClearAt s key own z y p
  clear_told own parent shown h c e hs = record { passed = c.passed; table = c.table; parent = same (c.passed).prev c.parent_is; head = c.last ∙ head_is p h hs c.valid }
    where
      same : (v : _) → searched_before v ≡ parent → searched_before v ≡ p.parent
      same None q = q ∙ sym e
      same (Some x) q = q ∙ sym e

  stayed_told : (h : Header) → lists.HeaderAt s key z y p.table h → HeadSo p h → told.StayedAt s key z y p
  stayed_told h c hs =
      let e = head_is p h hs c.valid in
      record { at = c.at; from_then = c.from_then; till = c.till; start = c.start; head = c.last ∙ e; stays = subst (Stays s c.at p.table key) e c.stays }

  gone_told : (u r own : ℕ) (h : Header) → own ≡ slot_at u r → lists.GoneAt s key (sweep u r) z y p.table h → HeadSo p h → told.GoneAt s key own z y p
  gone_told u r own h o c hs =
      let e = head_is p h hs c.valid in
      record { place = r; own_is = o ∙ ap (λ v. slot_at v r) (sym c.own); at = c.at; from_then = c.from_then; till = c.till; level = c.level; exits = c.exits; head = c.last ∙ e; gone = subst (λ v. IsGone v c.level) (c.last ∙ e) c.gone }

  less : (lost left n : ℕ) → lost + left ≡ n → 1 ≤ left → lost < n
  less lost left n e h = omega arith

  so_told : (pm : PassMode) (md : Mode) (left0 : ℕ) → SameMode pm md left0 → (how : How) (left : ℕ) → EndsAlike p how → LostSo pm p.lost left → FreeSo pm p.free how → HasLeft how left → lists.EndsSo s key md z y p.table how → told.EndsSo s key pm z y p p.end
  unfolding clear_told
  so_told Look look left0 same (held place word value) left e lost free some so = subst (told.EndsSo s key Look z y p) (sym e) (held_told look place word value so)
  so_told Look look left0 same (clear parent shown h) left e lost free some so = subst (told.EndsSo s key Look z y p) (sym e.0)
      (record { clear = clear_told None parent shown h so e.1 e.2; free = free_told s.geometry p.table p.free 0 (so.passed).seen shown so.saw free })
  so_told Look look left0 same (gone h) left e lost free some so = absurd so.sweeps
  so_told Look look left0 same spent left e lost free some so = absurd so
  so_told (Sweep own n) (sweep u r) left0 same (held place word value) left e lost free some so = subst (told.EndsSo s key (Sweep own n) z y p) (sym e) (held_told (sweep u r) place word value so, less p.lost left n lost some)
  so_told (Sweep own n) (sweep u r) left0 same (clear parent shown h) left e lost free some so = subst (told.EndsSo s key (Sweep own n) z y p) (sym e.0)
      (subst (λ v. told.ClearAt s key (Some v) z y p) (sym same.0) (clear_told (Some (slot_at u r)) parent shown h so e.1 e.2), less p.lost left n lost some)
  so_told (Sweep own n) (sweep u r) left0 same (gone h) left e lost free some so = subst (told.EndsSo s key (Sweep own n) z y p) (sym e.0) (gone_told u r own h same.0 so e.1, less p.lost left n lost some)
  so_told (Sweep own n) (sweep u r) left0 same spent left e lost free some so = subst (told.EndsSo s key (Sweep own n) z y p) (sym e) (all p.lost left n lost some)
    where
      all : (lost left n : ℕ) → lost + left ≡ n → left ≡ 0 → lost ≡ n
      all lost left n e h = omega arith
  so_told Walk walk left0 same (held place word value) left e lost free some so = absurd so.reads
  so_told Walk walk left0 same (clear parent shown h) left e lost free some so = subst (told.EndsSo s key Walk z y p) (sym e.0) (stayed_told h so e.2)
  so_told Walk walk left0 same (gone h) left e lost free some so = absurd so.sweeps
  so_told Walk walk left0 same spent left e lost free some so = absurd so
  so_told Look (sweep u r) left0 same how left e lost free some so = absurd same
  so_told Look walk left0 same how left e lost free some so = absurd same
  so_told Walk look left0 same how left e lost free some so = absurd same
  so_told Walk (sweep u r) left0 same how left e lost free some so = absurd same
  so_told (Sweep own n) look left0 same how left e lost free some so = absurd same
  so_told (Sweep own n) walk left0 same how left e lost free some so = absurd same

-- the header with which the pass opened is told where its table is the last one
pub opened_told : (o : Opened) (t : ℕ) (h : Head) → opened_at o t ≡ Some h → (o.table ≡ t) × (o.head ≡ h)
opened_told o t h e = by (o.table == t) refl e
  where
    equal : (x y : ℕ) → (x == y) ≡ true → x ≡ y
    equal x y h = grind (arith, nat_tests)

    same : Some o.head ≡ Some h → o.head ≡ h
    same q = cc

    by : (v : Bool) → (o.table == t) ≡ v → cond v (Some o.head) None ≡ Some h → (o.table ≡ t) × (o.head ≡ h)
    by true q e = (equal o.table t q, same e)
    by false q e = absurd (cc)

module _ (s : Setting) (c : ℕ) (j : Job) (job : IsJobOf s j) (md : Mode) (left0 : ℕ) (same : SameMode j.mode md left0) (some : 1 ≤ left0) (from : Past) where
  abbrev key : List ℕ
  key = j.key

  -- drops are those of this mode
  drops_as : (pm : PassMode) (m : Mode) (left : ℕ) → SameMode pm m left → (x : Past) (e : Entry) → Dropping m s c x e → Drops pm s c x e
  drops_as Look look left same x e r = absurd r.0
  drops_as (Sweep own n) (sweep u p) left same x e r = r.1
  drops_as Walk walk left same x e r = absurd r.0
  drops_as Look (sweep u p) left same x e r = absurd same
  drops_as Look walk left same x e r = absurd same
  drops_as Walk look left same x e r = absurd same
  drops_as Walk (sweep u p) left same x e r = absurd same
  drops_as (Sweep own n) look left same x e r = absurd same
  drops_as (Sweep own n) walk left same x e r = absurd same

  abbrev End : Past → Passed → Type 0
  End y p = HasPassed s key j.mode from y p

  -- from a table where a pass may start
  pub at_table_safe : (t : ℕ) (q : Past) → Before from q → Legal s q → Start s.geometry q (hash s key) t → Own s c key md q (all_searches s c key job.bytes md q) md q t → SafeBy (Drops j.mode) s c q (at_table j t) End
  at_table_safe t q bf l st own = (header_low s q l t (start_table s q l (hash s key) t st), λ z lz sz. opens z lz (since_before sz))
    where
      opens : (z : Past) → Legal s z → Before q z → SafeBy (Drops j.mode) s c z (on_header j t (head_in (word_at s.geometry z (header_at t)))) End
      opens z lz bz = by_end (Drops j.mode) s c z (on_header j t head) (λ y p. ((e : Ended) × Alike j o p e × lists.PassEnd s key md z y e) × Before z y) End
          (λ y p x. passed y p x.0.0 x.0.1 x.0.2 x.1)
          (by_kept (Drops j.mode) s c (Before z) (record { others = λ x e h d b. later b; own = λ x e h r b. later b }) z (on_header j t head) (λ y p. (e : Ended) × Alike j o p e × lists.PassEnd s key md z y e) here
          (safe_sim (Drops j.mode) s c (Alike j o) z (on_header j t head) (by_start j.geometry (aim_of j) md t left0 (header_of (Some head))) (lists.PassEnd s key md z) (header_sim j o md left0 same t head refl) listed))
        where
          head : Head
          head = head_in (word_at s.geometry z (header_at t))

          o : Opened
          o = record { table = t; head = head }

          stz : Start s.geometry z (hash s key) t
          stz = start_before s bz lz (hash s key) t st

          head_at : header_in s.geometry z t ≡ header_of (Some head)
          head_at = ⊎_elim (λ (x : header_of (Some head) ≡ header_in s.geometry z t). sym x) (λ (x : header_in s.geometry z t ≡ NoHeader). absurd ((splits s z lz).valid t (start_table s z lz (hash s key) t stz) x)) (head_alike (word_at s.geometry z (header_at t)))

          listed : SafeBy (Drops j.mode) s c z (by_start j.geometry (aim_of j) md t left0 (header_of (Some head))) (lists.PassEnd s key md z)
          listed = subst (λ (g : Geometry). SafeBy (Drops j.mode) s c z (by_start g (aim_of j) md t left0 (header_of (Some head))) (lists.PassEnd s key md z)) (sym job.geometry)
              (subst (λ h. SafeBy (Drops j.mode) s c z (by_start s.geometry (record { key = key; hash = h }) md t left0 (header_of (Some head))) (lists.PassEnd s key md z)) (sym job.hash)
              (by_weaker (Dropping md) s c (Drops j.mode) (λ x e r. drops_as j.mode md left0 same x e r) z (by_start s.geometry (record { key = key; hash = hash s key }) md t left0 (header_of (Some head))) (lists.PassEnd s key md z) (lists.PassEnd s key md z) (λ n a h. h)
              (by_start_safe s c key md z (all_searches s c key job.bytes md z) t left0 z here lz stz (own_before s c key md z (all_searches s c key job.bytes md z) md bz lz t own) some (header_of (Some head)) head_at)))

          passed : (y : Past) (p : Passed) (e : Ended) → Alike j o p e → lists.PassEnd s key md z y e → Before z y → End y p
          passed y p e a x b = record {
            start = subst (Start s.geometry y (hash s key)) (sym a.table) x.start;
            opened = z;
            from_then = Before-trans bf bz;
            till = b;
            opened_head = λ h w. let v = opened_told o p.table h (sym a.opened ∙ w) in ap (header_in s.geometry z) (sym v.0) ∙ head_at ∙ ap (λ (k : Head). header_of (Some k)) v.1;
            so = so_told s key z y p j.mode md left0 same e.how e.left a.end a.lost a.free x.some (subst (λ v. lists.EndsSo s key md z y v e.how) (sym a.table) x.so);
          }

  -- from a cached table
  pub cached_safe : (t : ℕ) (q : Past) → Before from q → Legal s q → Start s.geometry q (hash s key) t → Own s c key md q (all_searches s c key job.bytes md q) md q t → SafeBy (Drops j.mode) s c q (pass j (Some t)) End
  cached_safe t q bf l st own = subst (λ v. SafeBy (Drops j.mode) s c q (at_table j v) End) (sym (table_address s.geometry q (sound s q l) t (start_table s q l (hash s key) t st))) (at_table_safe t q bf l st own)

  -- through the directory
  pub directory_safe : (q : Past) → Before from q → Legal s q → ((y : Past) (t : ℕ) → Own s c key md y (all_searches s c key job.bytes md y) md y t) → SafeBy (Drops j.mode) s c q (pass j None) End
  unfolding directory_word
  directory_safe q bf l own =
      let d = first_free_directory s.geometry in
      let w = first_free_words s.geometry in
      (omega arith, λ y ly sy. named y ly (Before-trans bf (since_before sy)) (min (word_at s.geometry y 1) j.geometry.max_depth) (no_deeper y ly))
    where
      no_deeper : (y : Past) → Legal s y → min (word_at s.geometry y 1) j.geometry.max_depth ≡ word_at s.geometry y 1
      no_deeper y ly = ap (λ (g : Geometry). min (word_at s.geometry y 1) g.max_depth) job.geometry ∙ least (word_at s.geometry y 1) s.geometry.max_depth (directs s y ly).depth_low
        where
          least : (a b : ℕ) → a ≤ b → min a b ≡ a
          least a b h = omega arith

      low : (y : Past) → Directs s y → directory_at (hash s key % 2 ^ word_at s.geometry y 1) < s.geometry.words
      low y ds =
          let d = first_free_directory s.geometry in
          let w = first_free_words s.geometry in
          let m = mod_below (hash s key) (2 ^ word_at s.geometry y 1) (pow_pos (word_at s.geometry y 1)) in
          let p = pow_up (word_at s.geometry y 1) s.geometry.max_depth ds.depth_low in
          omega arith

      named : (y : Past) → Legal s y → Before from y → (n : ℕ) → n ≡ word_at s.geometry y 1 → SafeBy (Drops j.mode) s c y (ask (do_verb None (Read (directory_at (j.hash % 2 ^ n)))) (λ t. at_table j (address_of t))) End
      named y ly bfy n e = subst (λ v. SafeBy (Drops j.mode) s c y (ask (do_verb None (Read (directory_at v))) (λ t. at_table j (address_of t))) End) (ap (λ h. h % 2 ^ word_at s.geometry y 1) (sym job.hash) ∙ ap (λ v. j.hash % 2 ^ v) (sym e)) (
        low y (directs s y ly),
        λ z lz sz.
            let byz = since_before sz in
            let t = word_at s.geometry z (directory_at (hash s key % 2 ^ word_at s.geometry y 1)) in
            let ch = directory_chain s byz lz (hash s key) in
            subst (λ v. SafeBy (Drops j.mode) s c z (at_table j v) End) (sym (table_address s.geometry z (sound s z lz) t (chain_table s z lz (hash s key) t ch)))
            (at_table_safe t z (Before-trans bfy byz) lz (on_chain t ch) (own z t)),
      )

-- each pass, newest entry first
pub pass_safe : (s : Setting) (c : ℕ) (j : Job) → IsJobOf s j → (start : Option ℕ) (q : Past) → Legal s q → MayBegin s j.key j.mode q start → SafeBy (Drops j.mode) s c q (pass j start) (λ y p. HasPassed s j.key j.mode q y p)
pass_safe s c j job start q l b = by j.mode refl start b
  where
    by : (pm : PassMode) → j.mode ≡ pm → (start : Option ℕ) → MayBegin s j.key pm q start → SafeBy (Drops j.mode) s c q (pass j start) (λ y p. HasPassed s j.key j.mode q y p)
    by Look e None b = directory_safe s c j job look 1 (subst (λ v. SameMode v look 1) (sym e) (omega arith)) (omega arith) q q here l (λ y t. tt)
    by Look e (Some t) b = cached_safe s c j job look 1 (subst (λ v. SameMode v look 1) (sym e) (omega arith)) (omega arith) q t q here l b tt
    by Walk e None b = directory_safe s c j job walk 1 (subst (λ v. SameMode v walk 1) (sym e) (omega arith)) (omega arith) q q here l (λ y t. tt)
    by Walk e (Some t) b = cached_safe s c j job walk 1 (subst (λ v. SameMode v walk 1) (sym e) (omega arith)) (omega arith) q t q here l b tt
    by (Sweep own n) e None b = absurd b
    by (Sweep own n) e (Some t) b = cached_safe s c j job (sweep t b.2.0) n (subst (λ v. SameMode v (sweep t b.2.0) n) (sym e) (b.2.2, refl, b.1)) b.1 q t q here l (on_chain t b.0) (refl, b.0, b.2.1)

-- .. as part of a call
pub pass_calm : (s : Setting) (c : ℕ) (j : Job) → IsJobOf s j → (start : Option ℕ) (q : Past) → Legal s q → MayBegin s j.key j.mode q start → SafeIn s c q (pass j start) (λ y p. HasPassed s j.key j.mode q y p)
pass_calm s c j job start q l b = by_weaker (Drops j.mode) s c Calmly (λ x e d. drop_calmly s c j.mode x e d) q (pass j start) (λ y p. HasPassed s j.key j.mode q y p) (λ y p. HasPassed s j.key j.mode q y p) (λ n a h. h) (pass_safe s c j job start q l b)

pub pass_is_safe : PassIsSafe
pass_is_safe j start s c log l job b = safe_in_order s c log (pass j start) (λ y p. HasPassed s j.key j.mode (reverse log) y p) (pass_calm s c j job start (reverse log) l b)

-- a program that is the pass is safe as the pass is
pub safe_as_pass : (j : Job) (start : Option ℕ) (program : Prog Passed) → program ≡ pass j start → IsSafePass j start program
safe_as_pass j start program e = subst (IsSafePass j start) (sym e) (pass_is_safe j start)

pub ruleset plays = (safe_as_pass)
