-- From table to table, and where the search begins.
use Rattle.std.specs.Prelude.{◌≡◌, ℕ, zero, suc, ◌+◌, ◌<◌, ◌≤◌, true, false, nat_lt, List, [], Option, Some, None, refl}
use Rattle.std.proofs.Common.{sym, ◌∙◌, ap, subst, arith}
use Rattle.std.proofs.lemmas.Bool.Decides.{nat_tests}
use Rattle.slot_word.specs.declared.births.Birth.{Birth}
use Rattle.kv_block.specs.Bytes.{AreBytes}
use Rattle.bucket_group.specs.ExitLevel.{exit_level}
use Rattle.bucket_group.proofs.ExitLaws.{exit-some, exit-below}
use Rattle.node_words.specs.Addresses.{first_free, child_at}
use Rattle.verb_log.specs.declared.entry.Verb.TheVariants.{Read}
use Rattle.verb_log.specs.Decoded.{Header, PlainAt, SplittingAt, FillingAt, NoHeader}
use Rattle.verb_log.specs.Tables.{Past, Before, here, word_at}
use Rattle.verb_log.proofs.Positions.{Before-trans}
use Rattle.verbs.specs.Programs.{do_verb, Prog, ret, ask}
use Rattle.race_laws.specs.Setting.{Setting, hash, places, main_of}
use Rattle.race_laws.specs.Standing.{IsTable, header_in, birth_in, child_in, key_header, IsFilling, Stays, IsIn}
use Rattle.race_laws.specs.Chains.{OnChain}
use Rattle.race_laws.specs.Looks.{Reading, Searched, InOrder, is_other, read_places, Misses, Passing, begins, goes_on}
use Rattle.race_laws.specs.Rows.{IsPlace}
use Rattle.race_laws.specs.Legal.{Legal}
use Rattle.race_laws.proofs.Positions.{legal_before}
use Rattle.race_laws.proofs.SoundStep.{sound}
use Rattle.race_laws.proofs.Covers.{table_before}
use Rattle.race_laws.proofs.Frames.{birth_before, child_before}
use Rattle.race_laws.proofs.Finality.{ripe_before}
use Rattle.race_laws.proofs.Opening.{splits}
use Rattle.race_laws.proofs.Chain.{born_at, born_before, chain_table, chain_before}
use Rattle.race_laws.proofs.Passes.{in_order_span, passing_span}
use Rattle.pass_laws.proofs.ListPass.{Mode, look, sweep, walk, Shown, Seen, table_before as text_before, clear, gone, Ended, own_of, has_own, exit_by, places_for, by_header, search_table, search_from, by_start}
use Rattle.pass_text.specs.Words.{address_of}
use Rattle.log_facts.specs.Start.{Start, on_chain, below}
use Rattle.pass_laws.proofs.ListEnd.{Reads, Saw, ClearAt, IsSweep, ClearsSo, PassEnd, Dropping, SafeDrops}
use Rattle.log_facts.proofs.Growing.{since_before}
use Rattle.log_facts.proofs.Within.{bucket_low, child_low, birth_low}
use Rattle.pass_laws.proofs.TableAddress.{table_address}
use Rattle.log_facts.proofs.Keys.{main_below}
use Rattle.log_facts.proofs.Heads.{gone_child, bucket_valid}
use Rattle.log_facts.proofs.Starts.{start_table, start_before, start_ripe, start_on, Above, start_above, low_born}
use Rattle.pass_laws.proofs.Seen.{in_order_to, PrevSaw, before_same_table}
use Rattle.pass_laws.proofs.Rules.{by_cond}
use Rattle.pass_laws.proofs.Judging.{aim_of}
use Rattle.pass_laws.proofs.Scanning.{scan_safe}
use Rattle.pass_laws.proofs.Exits.{exit_none, exit_some, filter_in}
use Rattle.pass_laws.proofs.OwnSlot.{Ahead, ahead_before, own_last, own_is, own_next}

-- a mode that reads candidates
pub record Scans (s : Setting) (key : List ℕ) (mode : Mode) (from : Past) : Type 0 where
  pub candidates : Reads mode
  pub reads : (t : ℕ) → places_for s.geometry (hash s key) mode t ≡ read_places s key (own_of mode) t
  pub clears : (q : Past) (t : ℕ) (parent : Option ℕ) (shown : List Shown) (h : Header) → ClearAt s key (own_of mode) from q t parent shown h → ClearsSo s key mode from q t parent shown h
  pub own_sweeps : (t : ℕ) → has_own s.geometry mode t ≡ true → IsSweep mode

-- the search from a table on the chain is safe
abbrev pub Searches : Setting → ℕ → List ℕ → Mode → Past → Type 0
Searches s c key mode from =
    (t b left : ℕ) (since q : Past) → Before from since → Before since q → Legal s q → OnChain s.geometry since (hash s key) t → (IsFilling (header_in s.geometry since t) → ⊥) → Ahead s key mode since t
    → b ≡ born_at s.geometry since t → 1 ≤ left → SafeDrops mode s c q (search_table s.geometry (aim_of s key) mode (suc s.geometry.max_depth) None t b left) (PassEnd s key mode from)

module _ (s : Setting) (c : ℕ) (key : List ℕ) (bytes : AreBytes key) (mode : Mode) (from : Past) (sc : Scans s key mode from) where
  abbrev End : Past → Ended → Type 0
  End q e = PassEnd s key mode from q e

  -- the key's header of one table, after its candidates
  module _ (prev : Option Searched) (shown : Option Seen) (ps : PrevSaw s.geometry prev shown) (t : ℕ) (since : Past) (pass : Passing InOrder s key (own_of mode) from prev t since) (st : Start s.geometry since (hash s key) t) (ah : Ahead s key mode since t) (seen : List Reading) (words : List Shown) (end : Past) (span : Before since end) (l : Legal s end) (mi : Misses InOrder s key (own_of mode) prev t seen since end) (saw : Saw s.geometry t seen words) (left : ℕ) (lv : 1 ≤ left) where
    st2 : Start s.geometry end (hash s key) t
    st2 = start_before s span l (hash s key) t st

    table2 : IsTable s.geometry end t
    table2 = start_table s end l (hash s key) t st2

    ah2 : Ahead s key mode end t
    ah2 = ahead_before s key mode span l t ah

    clear_end : Stays s end t key (key_header s end t key) → End end (record { table = t; how = clear (text_before shown) words (key_header s end t key); left = left })
    clear_end stays = record {
      start = st2;
      so = sc.clears end t (text_before shown) words (key_header s end t key) (record {
        passed = record { prev = prev; table = t; since = since; passing = pass; seen = seen; end = end; misses = mi; up_to = here; stays = stays; has_own = own_last s key end l mode t ah2 stays };
        table = refl;
        parent_is = before_same_table s.geometry prev shown ps;
        saw = saw;
        last = refl;
        valid = bucket_valid s end l t (main_of s key) table2 (main_below s key);
      });
      some = lv;
    }

    header_safe : (o : Option ℕ) → exit_by (key_header s end t key) (exit_level (hash s key) (born_at s.geometry end t)) ≡ o → (go_on : ℕ → ℕ → Prog Ended)
        → ((i ch : ℕ) (q : Past) → Before end q → Legal s q → Passing InOrder s key (own_of mode) from (Some (record { table = t; seen = seen })) ch end → Start s.geometry end (hash s key) ch → Ahead s key mode end ch → born_at s.geometry end ch ≡ i + 1 → born_at s.geometry end t ≤ i → SafeDrops mode s c q (go_on ch (i + 1)) End)
        → SafeDrops mode s c end (by_header s.geometry (aim_of s key) mode shown t words left (key_header s end t key) o go_on) End
    header_safe None e go_on f = clear_end (λ i ex g. exit_none (key_header s end t key) (exit_level (hash s key) (born_at s.geometry end t)) e i ex g)
    header_safe (Some i) e go_on f =
        let x = exit_some (key_header s end t key) (exit_level (hash s key) (born_at s.geometry end t)) i e in
        let low = (exit-some (hash s key) (born_at s.geometry end t) i x.0).from in
        let e16 = exit-below (hash s key) (born_at s.geometry end t) i x.0 in
        let some = gone_child s end l t (main_of s key) i table2 (main_below s key) e16 low x.1 in
        let chain = start_on s end l (hash s key) t i st2 e16 some in
        let born = (splits s end l).born t i (child_in s.geometry end t i) table2 e16 refl some in
        by_cond (Dropping mode) s c End end (has_own s.geometry mode t) (ret (record { table = t; how = gone (key_header s end t key); left = left })) (ask (do_verb None (Read (child_at t i))) (λ child. go_on (address_of child) (i + 1)))
        (λ own. record {
          start = st2;
          so = record {
            sweeps = sc.own_sweeps t own;
            own = own_is s key end l mode t ah2 own;
            at = end;
            from_then = Before-trans (passing_span InOrder in_order_span s key (own_of mode) from prev t since pass) span;
            till = here;
            level = i;
            exits = x.0;
            gone = x.1;
            last = refl;
            valid = bucket_valid s end l t (main_of s key) table2 (main_below s key);
          };
          some = lv;
        })
        (λ own. (
          child_low s end l t table2 i e16,
          λ z lz sz.
              let bz = since_before sz in
              let same : child_in s.geometry end t i ≡ address_of (word_at s.geometry z (child_at t i)) = sym (ap address_of (child_before s bz lz t i table2 e16 some) ∙ table_address s.geometry end (sound s end l) (child_in s.geometry end t i) born.table) in
              subst (λ v. SafeDrops mode s c z (go_on v (i + 1)) End) same
              (f i (child_in s.geometry end t i) z bz lz (goes_on prev t since end seen i (child_in s.geometry end t i) pass mi x.0 x.1 refl some)
              (below t i (child_in s.geometry end t i) chain x.0 refl some) (own_next s key end l mode t i (child_in s.geometry end t i) ah2 own x.0 refl) born.level low),
        ))

  -- a table and all below it
  pub search_safe : (n : ℕ) (prev : Option Searched) (shown : Option Seen) (t b left : ℕ) (since q : Past) → Passing InOrder s key (own_of mode) from prev t since → Before since q → Legal s q → Start s.geometry since (hash s key) t → Ahead s key mode since t → b ≡ born_at s.geometry since t → s.geometry.max_depth < b + n → PrevSaw s.geometry prev shown → 1 ≤ left → SafeDrops mode s c q (search_table s.geometry (aim_of s key) mode n shown t b left) End
  search_safe zero prev shown t b left since q pass bf l st ah be fuel ps lv =
      let ls = legal_before s bf l in
      let tb = start_table s since ls (hash s key) t st in
      let sp = splits s since ls in
      let x = sp.from t tb in
      let y = sp.deep t tb in
      let z = s.geometry.deep in
      absurd (omega arith)
  search_safe (suc n) prev shown t b left since q pass bf l st ah be fuel ps lv =
      let ls = legal_before s bf l in
      let tb = start_table s since ls (hash s key) t st in
      scan_safe s c key bytes mode sc.candidates from prev shown t since ps pass st (places_for s.geometry (hash s key) mode t) (read_places s key (own_of mode) t)
      (λ p h. filter_in (is_other (own_of mode) t) (places s key) p (subst (IsIn p) (sc.reads t) h)) [] [] since q left here bf l tt tt (sc.reads t) lv _
      (λ seen words base y left2 io by ly saw miss whole lv2.
      let bsy = Before-trans (in_order_span since seen base io) by in (
        bucket_low s y ly t (table_before s.geometry bsy t t tb) (main_of s key) (main_below s key),
        λ end le se.
            let be2 = since_before se in
            let span = Before-trans bsy be2 in
            let mi : Misses InOrder s key (own_of mode) prev t seen since end = record { stand = in_order_to since seen base end io (Before-trans by be2); whole = whole; miss = miss } in
            let level : exit_level (hash s key) (born_at s.geometry end t) ≡ exit_level (hash s key) b = ap (exit_level (hash s key)) (born_before s span le t tb ∙ sym be) in
            header_safe prev shown ps t since pass st ah seen words end span le mi saw left2 lv2 (exit_by (key_header s end t key) (exit_level (hash s key) b)) (ap (exit_by (key_header s end t key)) level)
            (λ child born2. search_table s.geometry (aim_of s key) mode n (Some (record { table = t; shown = words })) child born2 left2)
            (λ i ch z bz lz pass2 st3 ah3 born3 low. search_safe n (Some (record { table = t; seen = seen })) (Some (record { table = t; shown = words })) ch (i + 1) left2 end z pass2 bz lz st3 ah3 (sym born3) (let k = born_before s span le t tb in omega arith) (refl, saw) lv2),
      ))

  pub searches : Searches s c key mode from
  searches t b left since q bf up l ch ripe ah be lv = search_safe (suc s.geometry.max_depth) None None t b left since q (begins t since bf ch ripe) up l (on_chain t ch) ah be (fuel b) tt lv
    where
      fuel : (b : ℕ) → s.geometry.max_depth < b + suc s.geometry.max_depth
      fuel b = omega arith

-- a walk reads no candidates
module _ (s : Setting) (c : ℕ) (key : List ℕ) (from : Past) where
  abbrev WalkEnd : Past → Ended → Type 0
  WalkEnd q e = PassEnd s key walk from q e

  walk_safe : (n : ℕ) (shown : Option Seen) (t b left : ℕ) (since q : Past) → Before from since → Before since q → Legal s q → Start s.geometry since (hash s key) t → b ≡ born_at s.geometry since t → s.geometry.max_depth < b + n → 1 ≤ left → SafeDrops walk s c q (search_table s.geometry (aim_of s key) walk n shown t b left) WalkEnd
  walk_safe zero shown t b left since q bf up l st be fuel lv =
      let ls = legal_before s up l in
      let tb = start_table s since ls (hash s key) t st in
      let sp = splits s since ls in
      let x = sp.from t tb in
      let y = sp.deep t tb in
      let z = s.geometry.deep in
      absurd (omega arith)
  walk_safe (suc n) shown t b left since q bf up l st be fuel lv =
      let ls = legal_before s up l in
      let tb = start_table s since ls (hash s key) t st in (
        bucket_low s q l t (table_before s.geometry up t t tb) (main_of s key) (main_below s key),
        λ end le se.
            let span = Before-trans up (since_before se) in
            let level : exit_level (hash s key) (born_at s.geometry end t) ≡ exit_level (hash s key) b = ap (exit_level (hash s key)) (born_before s span le t tb ∙ sym be) in
            by end le span (start_before s span le (hash s key) t st) (born_before s span le t tb) (exit_by (key_header s end t key) (exit_level (hash s key) b)) (ap (exit_by (key_header s end t key)) level)
            (λ child born2 z bz lz st3 be3 low3. walk_safe n (Some (record { table = t; shown = [] })) child born2 left end z (Before-trans bf span) bz lz st3 be3 (omega arith) lv),
      )
    where
      by : (end : Past) → Legal s end → Before since end → Start s.geometry end (hash s key) t → born_at s.geometry end t ≡ born_at s.geometry since t → (o : Option ℕ) → exit_by (key_header s end t key) (exit_level (hash s key) (born_at s.geometry end t)) ≡ o
          → ((ch born2 : ℕ) (z : Past) → Before end z → Legal s z → Start s.geometry end (hash s key) ch → born2 ≡ born_at s.geometry end ch → b + 1 ≤ born2 → SafeDrops walk s c z (search_table s.geometry (aim_of s key) walk n (Some (record { table = t; shown = [] })) ch born2 left) WalkEnd)
          → SafeDrops walk s c end (by_header s.geometry (aim_of s key) walk shown t [] left (key_header s end t key) o (λ child born2. search_table s.geometry (aim_of s key) walk n (Some (record { table = t; shown = [] })) child born2 left)) WalkEnd
      by end le span st2 bb None e f = record { start = st2; so = record { at = end; from_then = Before-trans bf span; till = here; start = st2; last = refl; valid = bucket_valid s end le t (main_of s key) (start_table s end le (hash s key) t st2) (main_below s key); stays = λ i ex g. exit_none (key_header s end t key) (exit_level (hash s key) (born_at s.geometry end t)) e i ex g }; some = lv }
      by end le span st2 bb (Some i) e f =
          let tb2 = start_table s end le (hash s key) t st2 in
          let x = exit_some (key_header s end t key) (exit_level (hash s key) (born_at s.geometry end t)) i e in
          let low = (exit-some (hash s key) (born_at s.geometry end t) i x.0).from in
          let e16 = exit-below (hash s key) (born_at s.geometry end t) i x.0 in
          let some = gone_child s end le t (main_of s key) i tb2 (main_below s key) e16 low x.1 in
          let chain = start_on s end le (hash s key) t i st2 e16 some in
          let born = (splits s end le).born t i (child_in s.geometry end t i) tb2 e16 refl some in (
            child_low s end le t tb2 i e16,
            λ z lz sz.
                let bz = since_before sz in
                let same : child_in s.geometry end t i ≡ address_of (word_at s.geometry z (child_at t i)) = sym (ap address_of (child_before s bz lz t i tb2 e16 some) ∙ table_address s.geometry end (sound s end le) (child_in s.geometry end t i) born.table) in
                subst (λ v. SafeDrops walk s c z (search_table s.geometry (aim_of s key) walk n (Some (record { table = t; shown = [] })) v (i + 1) left) WalkEnd) same
                (f (child_in s.geometry end t i) (i + 1) z bz lz (below t i (child_in s.geometry end t i) chain x.0 refl some) (sym born.level) (omega arith)),
          )

  pub walk_searches : Searches s c key walk from
  walk_searches t b left since q bf up l ch ripe ah be lv = walk_safe (suc s.geometry.max_depth) None t b left since q bf up l (on_chain t ch) be (fuel b) lv
    where
      fuel : (b : ℕ) → s.geometry.max_depth < b + suc s.geometry.max_depth
      fuel b = omega arith

module _ (s : Setting) (c : ℕ) (key : List ℕ) (mode : Mode) (from : Past) (sr : Searches s c key mode from) where
  abbrev Ends : Past → Ended → Type 0
  Ends q e = PassEnd s key mode from q e

  -- from a table on the chain that does not fill
  pub search_from_safe : (t left : ℕ) (q : Past) → Before from q → Legal s q → OnChain s.geometry q (hash s key) t → (IsFilling (header_in s.geometry q t) → ⊥) → Ahead s key mode q t → 1 ≤ left → SafeDrops mode s c q (search_from s.geometry (aim_of s key) mode t left) Ends
  search_from_safe t left q bf l ch ripe ah lv =
      let tb = chain_table s q l (hash s key) t ch in
      by_cond (Dropping mode) s c Ends q (nat_lt t (first_free s.geometry)) (search_table s.geometry (aim_of s key) mode (suc s.geometry.max_depth) None t s.geometry.first_depth left) _
      (λ e. sr t s.geometry.first_depth left q q bf here l ch ripe ah (sym (low_born s q l t tb (less t (first_free s.geometry) e))) lv)
      (λ e. (
        birth_low s q l t tb,
        λ z lz sz.
            let bz = since_before sz in
            sr t (born_at s.geometry z t) left z z (Before-trans bf bz) here lz (chain_before s bz lz (hash s key) t ch) (ripe_before s bz lz t tb ripe) (ahead_before s key mode bz lz t ah) refl lv,
      ))
    where
      less : (x y : ℕ) → nat_lt x y ≡ true → x < y
      less x y e = grind (arith, nat_tests)

  -- the own table of a sweep is where it begins
  abbrev pub Own : Mode → Past → ℕ → Type 0
  Own look q t = Unit {0}
  Own (sweep u p) q t = (t ≡ u) × OnChain s.geometry q (hash s key) u × IsPlace s.geometry p
  Own walk q t = Unit {0}

  own_here : (md : Mode) (q : Past) (t : ℕ) → Own md q t → Ahead s key md q t
  own_here look q t o = tt
  own_here walk q t o = tt
  own_here (sweep u p) q t o = (subst (OnChain s.geometry q (hash s key)) (sym o.0) o.1, o.1, subst (λ v. born_at s.geometry q v ≤ born_at s.geometry q u) (sym o.0) (same (born_at s.geometry q u)), o.2)
    where
      same : (n : ℕ) → n ≤ n
      same n = omega arith

  own_above : (md : Mode) (q : Past) → Legal s q → (t : ℕ) → Own md q t → Above s.geometry q (hash s key) t → Ahead s key md q (birth_in s.geometry q t).parent
  own_above look q l t o ab = tt
  own_above walk q l t o ab = tt
  own_above (sweep u p) q l t o ab =
      let tb = chain_table s q l (hash s key) (birth_in s.geometry q t).parent ab.chain in
      let e16 = exit-below (hash s key) (born_at s.geometry q (birth_in s.geometry q t).parent) ab.level ab.exits in
      let born = (splits s q l).born (birth_in s.geometry q t).parent ab.level t tb e16 ab.child ab.some in
      let low = (exit-some (hash s key) (born_at s.geometry q (birth_in s.geometry q t).parent) ab.level ab.exits).from in
      (ab.chain, o.1, subst (λ v. born_at s.geometry q (birth_in s.geometry q t).parent ≤ born_at s.geometry q v) o.0 (let x = born.level in omega arith), o.2)

  pub own_before : (md : Mode) {p q : Past} → Before p q → Legal s q → (t : ℕ) → Own md p t → Own md q t
  own_before look b l t o = tt
  own_before walk b l t o = tt
  own_before (sweep u r) b l t o = (o.0, chain_before s b l (hash s key) u o.1, o.2)

  pub by_start_safe : (t left : ℕ) (q : Past) → Before from q → Legal s q → Start s.geometry q (hash s key) t → Own mode q t → 1 ≤ left → (h : Header) → header_in s.geometry q t ≡ h → SafeDrops mode s c q (by_start s.geometry (aim_of s key) mode t left h) Ends
  by_start_safe t left q bf l st o lv (PlainAt d) e = search_from_safe t left q bf l (start_ripe s q l (hash s key) t st (λ f. subst IsFilling e f)) (λ f. subst IsFilling e f) (own_here mode q t o) lv
  by_start_safe t left q bf l st o lv (SplittingAt d) e = search_from_safe t left q bf l (start_ripe s q l (hash s key) t st (λ f. subst IsFilling e f)) (λ f. subst IsFilling e f) (own_here mode q t o) lv
  by_start_safe t left q bf l st o lv NoHeader e = search_from_safe t left q bf l (start_ripe s q l (hash s key) t st (λ f. subst IsFilling e f)) (λ f. subst IsFilling e f) (own_here mode q t o) lv
  by_start_safe t left q bf l st o lv (FillingAt d) e =
      let tb = start_table s q l (hash s key) t st in
      let ab = start_above s q l (hash s key) t st (subst IsFilling (sym e) tt) in
      let tp = chain_table s q l (hash s key) (birth_in s.geometry q t).parent ab.chain in (
        birth_low s q l t tb,
        λ z lz sz.
            let bz = since_before sz in
            let par : (birth_in s.geometry q t).parent ≡ (birth_in s.geometry z t).parent = ap (λ (v : Birth). v.parent) (sym (birth_before s bz lz t tb)) in
            subst (λ v. SafeDrops mode s c z (search_from s.geometry (aim_of s key) mode v left) Ends) par
            (search_from_safe (birth_in s.geometry q t).parent left z (Before-trans bf bz) lz (chain_before s bz lz (hash s key) (birth_in s.geometry q t).parent ab.chain)
            (ripe_before s bz lz (birth_in s.geometry q t).parent tp ab.ripe) (ahead_before s key mode bz lz (birth_in s.geometry q t).parent (own_above mode q l t o ab)) lv),
      )

-- the three modes
pub look_scans : (s : Setting) (key : List ℕ) (from : Past) → Scans s key look from
look_scans s key from = record { candidates = tt; reads = λ t. refl; clears = λ q t parent shown h x. x; own_sweeps = λ t e. never e }
  where
    never : false ≡ true → ⊥
    never e = cc

pub sweep_scans : (s : Setting) (key : List ℕ) (u p : ℕ) (from : Past) → Scans s key (sweep u p) from
sweep_scans s key u p from = record { candidates = tt; reads = λ t. refl; clears = λ q t parent shown h x. x; own_sweeps = λ t e. tt }

pub all_searches : (s : Setting) (c : ℕ) (key : List ℕ) → AreBytes key → (mode : Mode) (from : Past) → Searches s c key mode from
all_searches s c key bytes look from = searches s c key bytes look from (look_scans s key from)
all_searches s c key bytes (sweep u p) from = searches s c key bytes (sweep u p) from (sweep_scans s key u p from)
all_searches s c key bytes walk from = walk_searches s c key from
