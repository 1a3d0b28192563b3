-- The choice in a filling table.
use Rattle.std.specs.Prelude.{◌≡◌, ℕ, zero, suc, ◌+◌, ◌-◌, ◌%◌, ◌^◌, ◌<◌, ◌≤◌, ◌≢◌, ◌==◌, Bool, true, false, cond, nat_le, List, [], length, slice_index, slice_set, Option, Some, None, IsTrue, refl}
use Rattle.std.proofs.Common.{sym, ◌∙◌, ap, subst, inl, inr, arith, le_refl, ⊎_elim}
use Rattle.std.proofs.lemmas.Bool.{cond-false, cases_eq}
use Rattle.std.proofs.lemmas.Bool.Decides.{nat_tests}
use Rattle.slot_word.specs.declared.slots.Mark.{Mark}
use Rattle.slot_word.specs.declared.slots.Slot.{Slot}
use Rattle.slot_word.specs.declared.heads.State.{State}
use Rattle.slot_word.specs.declared.heads.State.TheVariants.{Plain, Splitting, Filling}
use Rattle.slot_word.specs.Slots.{slot_of}
use Rattle.kv_block.specs.Packing.{Pair, IsPair, packed, unpacked}
use Rattle.kv_block.specs.Reading.{block_key}
use Rattle.kv_block.proofs.Packed.{packed_of_unpacked, IsPair-from_unpacked}
use Rattle.kv_block.proofs.ReadingLemmas.{block_key-packed}
use Rattle.bucket_group.specs.ExitLevel.{exit_level}
use Rattle.bucket_group.specs.Buckets.{candidates}
use Rattle.bucket_group.specs.Choice.{is_free}
use Rattle.bucket_group.proofs.ChoiceLaws.{choice-free, choice-none}
use Rattle.bucket_group.proofs.CandidateLaws.{length-candidates_two}
use Rattle.bucket_group.proofs.ExitLaws.{exit-below, exit_suffix}
use Rattle.node_words.specs.Addresses.{slot_at}
use Rattle.verb_log.specs.Decoded.{Body, Empty, Full, NoSlot, content, content_of, Header, PlainAt, SplittingAt, FillingAt, NoHeader, header_of}
use Rattle.verb_log.specs.Tables.{Past, Before, here, later, word_at, words_at, pair_at}
use Rattle.verb_log.proofs.Positions.{Before-trans}
use Rattle.verb_log.proofs.BlockWords.{pair_unpacked}
use Rattle.verbs.specs.Programs.{Prog, ask, ask_hash}
use Rattle.race_laws.specs.Setting.{Setting, hash, main_of}
use Rattle.race_laws.specs.Standing.{IsTable, header_in, birth_in, child_in, place_in, key_header, IsFilling, IsGone, Exits, Stays, Word}
use Rattle.race_laws.specs.Chains as chains
use Rattle.race_laws.specs.Chains.{OnChain}
use Rattle.race_laws.specs.Splits.{IsOpen, IsClear, WasClear}
use Rattle.race_laws.specs.Looks.{InOrder, PassedBy}
use Rattle.race_laws.specs.Rows.{IsPlace}
use Rattle.race_laws.specs.Named.{Named}
use Rattle.race_laws.specs.Legal.{Legal}
use Rattle.race_laws.proofs.Positions.{legal_before}
use Rattle.race_laws.proofs.SoundStep.{sound}
use Rattle.race_laws.proofs.Slots.{standing_named, full_same, content-0}
use Rattle.race_laws.proofs.Covers.{table_before}
use Rattle.race_laws.proofs.Finality.{ripe_before, gone_before}
use Rattle.race_laws.proofs.Opening.{splits}
use Rattle.race_laws.proofs.Chain.{born_at, born_before, chain_table, chain_before}
use Rattle.race_laws.proofs.Candidates.{word_candidate}
use Rattle.race_laws.proofs.Passes.{in_order_span}
use Rattle.race_laws.proofs.Presence.{candidate_place}
use Rattle.log_facts.specs.Start.{Start, on_chain}
use Rattle.log_facts.specs.Ready.{Ready}
use Rattle.log_facts.specs.Reached.{Down, Stayed}
use Rattle.log_facts.specs.Passings.{searched_before, Under}
use Rattle.log_facts.proofs.Growing.{since_before}
use Rattle.log_facts.proofs.Within.{slot_within, block_length}
use Rattle.log_facts.proofs.Keys.{main_below}
use Rattle.log_facts.proofs.Starts.{start_table, start_before}
use Rattle.log_facts.proofs.Suffixes.{chain_suffix}
use Rattle.log_facts.proofs.Passings.{passing_start, passing_under, passing_first, under_before, passing_from}
use Rattle.log_facts.proofs.Buckets.{bucket_fills}
use Rattle.log_facts.proofs.Readiness.{by_last, last_ripe}
use Rattle.log_facts.proofs.Reached.{stayed_later, clear_stayed}
use Rattle.log_facts.proofs.Places.{EachPlace, None_placed, kept_places}
use Rattle.pass_text.specs.declared.passed.Passed.{Passed}
use Rattle.pass_text.specs.Words.{is_filling}
use Rattle.pass_laws.specs.SafeIn.{SafeIn, Calmly}
use Rattle.pass_laws.specs.HasPassed.{LookedAt}
use Rattle.pass_laws.proofs.Blocks.{by_words}
use Rattle.pass_laws.proofs.TableAddress.{table_address}
use Rattle.pass_laws.proofs.Rules.{by_cond}
use Rattle.block_taking.specs.declared.taking.Area.{Area}
use Rattle.block_taking.specs.Holdings.{Owns, KeptBlock}
use Rattle.op_insert.specs.Text.{Inserting, Part, take_and_place, slot_in, choice_of, need_room, on_parent_slot, on_parent_word, choose_filling, help, choose_by_parent, choose_among, choose}
use Rattle.op_insert.specs.Law.{inserting_of, LookedFrom, Occupied, NoRoom}
use Rattle.op_insert.proofs.PartEnds.{PartEnd, none_pending}
use Rattle.op_insert.proofs.Words.{equal, differ}
use Rattle.op_insert.proofs.Choosing.{chosen, take_and_place_safe, take_chosen_safe}
use Rattle.op_insert.proofs.Frees.{frees, frees_most, frees_out, none_free, out_other}
use Rattle.op_insert.proofs.Helping.{Steady, steady_since, steady_own, help_safe}

-- with no place made since a position
pub steady_with : (s : Setting) (c : ℕ) (from : Past) (ws : List ℕ) (kept : Option ℕ) (area : Area) → Steady s c (λ q. Owns s c area q × KeptBlock s c ws kept area q × EachPlace s c from None_placed q)
steady_with s c from ws kept area =
    let a = steady_own s c ws kept area in
    let b = kept_places s c from None_placed in
    record {
      others = λ q e l o h. let x = a.others q e l o (h.0, h.1) in (x.0, x.1, b.others q e l o h.2);
      elsewhere = λ q e l si r h. let x = a.elsewhere q e l si r (h.0, h.1) in (x.0, x.1, b.silent q e l si h.2);
    }

-- what a look has shown it has shown later
pub looked_later : (s : Setting) (key : List ℕ) {p from q y : Past} (r : Passed) → Before p from → Before q y → LookedAt s key from q r → LookedAt s key p y r
looked_later s key r a b x = let w = x.clear.passed in record {
  clear = record {
    passed = record { prev = w.prev; table = w.table; since = w.since; passing = passing_from s key None a w.prev w.table w.since w.passing; seen = w.seen; end = w.end; misses = w.misses; up_to = Before-trans w.up_to b; stays = w.stays; has_own = w.has_own };
    table = x.clear.table;
    parent = x.clear.parent;
    head = x.clear.head;
  };
  free = x.free;
}

abbrev look_later : (s : Setting) (key : List ℕ) (from : Past) {x y : Past} → Before x y → (r : Passed) → LookedFrom s key from x r → LookedFrom s key from y r
look_later s key from b r n = record { opened = n.opened; from_then = n.from_then; till = Before-trans n.till b; opened_head = n.opened_head; looked = looked_later s key r here b n.looked }

-- all that a look has told since it opened the last table it has told since it began
pub looked_from : (s : Setting) (key : List ℕ) (from q : Past) (r : Passed) → LookedFrom s key from q r → LookedAt s key from q r
looked_from s key from q r n = looked_later s key r n.from_then here n.looked

-- a part of an insert tells it of the whole
pub room_since : (s : Setting) (i : Inserting) {p from : Past} (q : Past) (r : Passed) → Before p from → NoRoom s i from q r → NoRoom s i p q r
room_since s i q r b n = record {
  look = record { opened = n.look.opened; from_then = Before-trans b n.look.from_then; till = n.look.till; opened_head = n.look.opened_head; looked = n.look.looked };
  occupied = n.occupied;
}

occupied_later : (s : Setting) (i : Inserting) (from : Past) {x y : Past} → Before x y → (r : Passed) (n : ℕ) → Occupied s i from x r n → Occupied s i from y r n
occupied_later s i from b r n (inl e) = inl e
occupied_later s i from b r n (inr o) = inr (record { fills = o.fills; parent = o.parent; is_parent = o.is_parent; at = o.at; from_then = o.from_then; till = Before-trans o.till b; mark = o.mark; body = o.body; pair = o.pair; word = o.word; leaves = o.leaves })

-- where a look was clear, the key stayed
abbrev pub looked_stayed : (s : Setting) (key : List ℕ) (from q : Past) → Legal s q → (r : Passed) → LookedAt s key from q r → Stayed s key from q r.table
looked_stayed s key from q l r x =
    let w = clear_stayed s key None from q l x.clear.passed in
    let same = x.clear.table in
    record {
      at = x.clear.passed.end;
      from_then = w.from_then;
      till = x.clear.passed.up_to;
      down = subst (Down s x.clear.passed.end key) same w.down;
      stays = subst (λ v. Stays s x.clear.passed.end v key (key_header s x.clear.passed.end v key)) same x.clear.passed.stays;
    }

gone_open : (h : Header) (d : ℕ) → IsGone h d → IsOpen h d
gone_open (PlainAt x) d g = g
gone_open (SplittingAt x) d g = g
gone_open (FillingAt x) d g = g
gone_open NoHeader d g = g

-- a word that packs no slot says so, and one that packs one says its mark and its block
zero_says : (w : ℕ) → (w == 0) ≡ true → content w ≡ Empty
zero_says w e = ap content (equal w 0 e) ∙ content-0

none_says : (w : ℕ) → (w == 0) ≡ false → slot_of w ≡ None → content w ≡ NoSlot
unfolding content
none_says w z e = cond-false _ _ _ z ∙ ap content_of e

some_says : (w : ℕ) (x : Slot) → (w == 0) ≡ false → slot_of w ≡ Some x → content w ≡ Full x.mark (let b : Body = record { print = x.fp; length = x.len; at = x.at } in b)
unfolding content
some_says w x z e = cond-false _ _ _ z ∙ ap content_of e

-- the key that a block's words tell
key_told : (ws : List ℕ) (pr : Pair) → unpacked ws ≡ Some pr → block_key ws ≡ pr.key
key_told ws pr u = ap block_key (sym (packed_of_unpacked ws pr u)) ∙ block_key-packed pr (IsPair-from_unpacked ws pr u)

module _ (s : Setting) (c client : ℕ) (pair : Pair) (ip : IsPair pair) (tries most : ℕ) (from : Past) (kept : Option ℕ) (area : Area) where
  abbrev i : Inserting
  i = inserting_of s client pair tries

  abbrev End : Past → Part → Type 0
  End q part = PartEnd s c i pair most from q part

  abbrev Have : Past → Type 0
  Have q = Owns s c area q × KeptBlock s c (packed pair.key pair.value) kept area q × EachPlace s c from None_placed q

  have : Steady s c Have
  have = steady_with s c from (packed pair.key pair.value) kept area

  -- the same place of the parent
  module _ (q : Past) (l : Legal s q) (u t e d : ℕ) (un : Under s pair.key q u t) (lev : un.level ≡ d) (ed : e ≡ d + 1) (gn : IsGone (header_in s.geometry q u) d) (bf : Before from q) where
    tb : IsTable s.geometry q u
    tb = chain_table s q l (hash s pair.key) u un.chain

    -- the place is clear where its word is of no key that leaves
    clear_by : (z : Past) → Before q z → Legal s z → (p : ℕ) → IsPlace s.geometry p → ((m : Mark) (b : Body) (x : Pair) → Word s.geometry z m u p b x → Exits s z u x.key d → ⊥) → IsClear s z u d p
    clear_by z bz lz p pl f = record {
      table = table_before s.geometry bz u u tb;
      opened = gone_open (header_in s.geometry z u) d (gone_before s bz lz u d tb gn);
      clear = λ m b x w ex. absurd (f m b x w ex);
    }

    -- a key that leaves has the child's suffix
    same_suffix : (z : Past) → Before q z → Legal s z → (p : ℕ) → IsPlace s.geometry p → (m : Mark) (b : Body) (x : Pair) → Word s.geometry z m u p b x → Exits s z u x.key d → hash s x.key % 2 ^ e ≡ hash s pair.key % 2 ^ e
    same_suffix z bz lz p pl m b x w ex =
        let tz = table_before s.geometry bz u u tb in
        let seat = word_candidate s z lz z here u p m b x tz pl w in
        let un2 = (under_before s pair.key bz lz u t un).0 in
        let mine : exit_level (hash s pair.key) (born_at s.geometry z u) ≡ Some d = un2.exits ∙ ap (λ v. Some v) ((under_before s pair.key bz lz u t un).1 ∙ lev) in
        ap (λ v. hash s x.key % 2 ^ v) ed ∙ exit_suffix (hash s x.key) (born_at s.geometry z u) d ex
        ∙ ap (λ v. v + 2 ^ d) (sym (chain_suffix s z lz (hash s x.key) u seat.chain) ∙ chain_suffix s z lz (hash s pair.key) u un2.chain)
        ∙ sym (exit_suffix (hash s pair.key) (born_at s.geometry z u) d mine) ∙ ap (λ v. hash s pair.key % 2 ^ v) (sym ed)

    ready_by : (z y : Past) → Before q z → Before z y → Legal s y → (p : ℕ) → IsClear s z u d p → Ready s t p y
    ready_by z y bz by2 ly p cl =
        let bq = Before-trans bz by2 in
        let un2 = (under_before s pair.key bq ly u t un).0 in
        let same = (under_before s pair.key bq ly u t un).1 in
        let t2 = table_before s.geometry bq u u tb in
        let e16 = exit-below (hash s pair.key) (born_at s.geometry y u) un2.level un2.exits in
        let born = (splits s y ly).born u un2.level t t2 e16 un2.child un2.some in
        let w : WasClear s y u d p = record { at = z; before = by2; clear = cl } in
        inr (subst (λ v. WasClear s y v ((birth_in s.geometry y t).depth - 1) p) (sym born.parent) (subst (λ v. WasClear s y u v p) (minus (born_at s.geometry y t) d un2.level born.level (same ∙ lev)) w))
      where
        minus : (x d i : ℕ) → x ≡ i + 1 → i ≡ d → d ≡ x - 1
        minus x d i h k = omega arith

    chain_t : (z : Past) → Before q z → Legal s z → OnChain s.geometry z (hash s pair.key) t
    chain_t z bz lz = chain_before s bz lz (hash s pair.key) t (chains.goes_on u un.level t un.chain un.exits (subst (IsGone (header_in s.geometry q u)) (sym lev) gn) un.child un.some)

    -- at the position z a word of a key that leaves stood in the parent's place
    record Leaves (z : Past) (p : ℕ) (y : Past) : Type 0 where
      till : Before z y
      mark : Mark
      body : Body
      other : Pair
      word : Word s.geometry z mark u p body other
      leaves : hash s other.key % 2 ^ e ≡ hash s pair.key % 2 ^ e

    -- the parent's word is judged
    module _ (z : Past) (bz : Before q z) (lz : Legal s z) (hz : Have z) (p : ℕ) (pl : IsPlace s.geometry p) (w : ℕ) (wd : word_at s.geometry z (slot_at u p) ≡ w) (not_free good : Prog Part)
        (ls : (y : Past) → Legal s y → Before q y → Have y → Leaves z p y → SafeIn s c y not_free End) (gs : (y : Past) → Legal s y → Before q y → Have y → Ready s t p y → SafeIn s c y good End) where
      -- no block is named there
      bare : ((m : Mark) (b : Body) → content w ≡ Full m b → ⊥) → SafeIn s c z good End
      bare none = gs z lz bz hz (ready_by z z bz here lz p (clear_by z bz lz p pl (λ m b x wo ex. none m b (sym (ap content wd) ∙ wo.stands))))

      -- a block is
      slot_safe : (x : Slot) → content w ≡ Full x.mark (record { print = x.fp; length = x.len; at = x.at }) → SafeIn s c z (on_parent_slot i e not_free good (Some x)) End
      slot_safe x cw =
          by_cond Calmly s c End z (nat_le x.len 137) _ good
          (λ cap. by_words Calmly s c End z b nm.pair nm nm.packs b.length b.at [] (words_at s.geometry z b.at b.length) refl (le_refl _) refl
          (λ ws. ask (ask_hash (block_key ws)) (λ other. cond (other % 2 ^ e == i.job.hash % 2 ^ e) not_free good)) z
          (λ y ly sy.
          let by2 = since_before sy in let bq = Before-trans bz by2 in
          let hy = steady_since s c Have have sy ly hz in
          by_cond Calmly s c End y (hash s (block_key (words_at s.geometry z b.at b.length)) % 2 ^ e == hash s pair.key % 2 ^ e) not_free good
          (λ v. ls y ly bq hy (record {
            till = by2;
            mark = x.mark;
            body = b;
            other = nm.pair;
            word = record { stands = st; packs = nm.packs };
            leaves = ap (λ k. hash s k % 2 ^ e) (sym (key_told (words_at s.geometry z b.at b.length) nm.pair (pair_unpacked s.geometry z b nm.pair nm.packs))) ∙ equal (hash s (block_key (words_at s.geometry z b.at b.length)) % 2 ^ e) (hash s pair.key % 2 ^ e) v;
          }))
          (λ v. gs y ly bq hy (ready_by z y bz by2 ly p (clear_by z bz lz p pl (λ m2 b2 o wo ex. differ (hash s (block_key (words_at s.geometry z b.at b.length)) % 2 ^ e) (hash s pair.key % 2 ^ e)
          (ap (λ k. hash s k % 2 ^ e) (key_told (words_at s.geometry z b.at b.length) nm.pair (pair_unpacked s.geometry z b nm.pair nm.packs) ∙ ap (λ (k : Pair). k.key) (one nm.packs (ap (pair_at s.geometry z) (full_same x.mark m2 b b2 (sym st ∙ wo.stands)) ∙ wo.packs)))
          ∙ same_suffix z bz lz p pl m2 b2 o wo ex) v))))) here lz)
          (λ cap. absurd (long (block_length s.geometry z b nm.pair nm.packs) cap))
        where
          b : Body
          b = record { print = x.fp; length = x.len; at = x.at }

          long : x.len ≤ 137 → nat_le x.len 137 ≡ false → ⊥
          long h k = grind (arith, nat_tests)

          st : place_in s.geometry z u p ≡ Full x.mark b
          st = ap content wd ∙ cw

          nm : Named s.geometry z b
          nm = standing_named s.geometry z (sound s z lz) u p x.mark b (table_before s.geometry bz u u tb) pl st

          one : {o : Option Pair} {x y : Pair} → o ≡ Some x → o ≡ Some y → x ≡ y
          one h k = cc

      word_safe : SafeIn s c z (on_parent_word i e not_free good w) End
      word_safe = by (w == 0) refl
        where
          empty_none : (m : Mark) (b : Body) → Empty ≡ Full m b → ⊥
          empty_none m b h = cc

          bad_none : (m : Mark) (b : Body) → NoSlot ≡ Full m b → ⊥
          bad_none m b h = cc

          of : (o : Option Slot) → slot_of w ≡ o → (w == 0) ≡ false → SafeIn s c z (on_parent_slot i e not_free good o) End
          of None eo ez = bare (λ m b h. bad_none m b (sym (none_says w ez eo) ∙ h))
          of (Some x) eo ez = slot_safe x (some_says w x ez eo)

          by : (v : Bool) → (w == 0) ≡ v → SafeIn s c z (cond v good (on_parent_slot i e not_free good (slot_of w))) End
          by true ez = bare (λ m b h. empty_none m b (sym (zero_says w ez) ∙ h))
          by false ez = of (slot_of w) refl ez

    -- the look that began the choice
    module _ (r : Passed) (rt : r.table ≡ t) (rd : r.head.depth ≡ e) (rp : r.parent ≡ Some u) (fills : IsTrue (is_filling r.head.state)) (lk : LookedFrom s pair.key from q r) (left : ℕ) (lv : 1 ≤ left) (le : left ≤ most) where
      abbrev many : ℕ
      many = length (candidates s.geometry.groups (hash s pair.key))

      -- each candidate that is no more free is occupied
      abbrev Outs : List Bool → Past → Type 0
      Outs free z = (x : ℕ) → x < many → is_free free x ≡ false → Occupied s i lk.opened z r x

      -- none is free
      no_room : (z : Past) → Before q z → Legal s z → Have z → ((x : ℕ) → x < many → Occupied s i lk.opened z r x) → End z (record { result = need_room r; table = r.table; kept = kept; area = area; left = left })
      no_room z bz lz hz occ = record {
        start = on_chain r.table (subst (OnChain s.geometry z (hash s pair.key)) (sym rt) (chain_t z bz lz));
        owns = hz.0;
        kept = hz.1;
        so = (record { look = look_later s pair.key from bz r lk; occupied = occ }, refl, lv);
        leaves = none_pending s c from z hz.2;
        falls = le;
      }

      -- one candidate more is left out
      out_more : (free : List Bool) (x : ℕ) (z y w : Past) → Before q z → Before z y → Outs free z → Leaves y (slice_index (candidates s.geometry.groups (hash s pair.key)) x) w → Outs (slice_set free x false) w
      out_more free x z y w bz by2 outs v n low f = ⊎_elim (λ (same : n ≡ x). inr (record {
        fills = fills;
        parent = u;
        is_parent = rp;
        at = y;
        from_then = Before-trans lk.till (Before-trans bz by2);
        till = v.till;
        mark = v.mark;
        body = v.body;
        pair = v.other;
        word = subst (λ j. Word s.geometry y v.mark u (slice_index (candidates s.geometry.groups (hash s pair.key)) j) v.body v.other) (sym same) v.word;
        leaves = subst (λ j. hash s v.other.key % 2 ^ j ≡ hash s pair.key % 2 ^ j) (sym rd) v.leaves;
      })) (λ (other : n ≢ x). occupied_later s i lk.opened (Before-trans by2 v.till) r n (outs n low (sym (out_other free x n other) ∙ f))) (cases_eq n x)

      -- the candidates in their order of choice
      filling_safe : (n : ℕ) (free : List Bool) (o : Option ℕ) → choice_of i free ≡ o → frees free many ≤ n → (z : Past) → Before q z → Legal s z → Have z → Outs free z → SafeIn s c z (choose_filling i r u n free o kept area left) End
      unfolding slot_in
      filling_safe zero free o ch few z bz lz hz outs = no_room z bz lz hz (λ x low. outs x low (none_free free many x few low))
      filling_safe (suc n) free None ch few z bz lz hz outs = no_room z bz lz hz (λ x low. outs x low (choice-none many free x (length-candidates_two s.geometry.groups (hash s pair.key)) ch low))
      filling_safe (suc n) free (Some x) ch few z bz lz hz outs =
          let cand = chosen s pair.key free x ch in
          let p = slice_index (candidates s.geometry.groups (hash s pair.key)) x in
          let pl = candidate_place s pair.key p cand in
          let is = choice-free many free x (length-candidates_two s.geometry.groups (hash s pair.key)) ch in
          let less = frees_out free x many is.0 is.1 in
          let few2 : frees (slice_set free x false) many ≤ n = omega arith in (
            slot_within s z lz u p (table_before s.geometry bz u u tb) pl,
            λ y ly sy.
                let by2 = Before-trans bz (since_before sy) in
                subst (λ v. SafeIn s c y (on_parent_word i v (choose_filling i r u n (slice_set free x false) (choice_of i (slice_set free x false)) kept area left) (take_and_place i r.table (slot_at r.table p) kept area left) (word_at s.geometry y (slot_at u p))) End) (sym rd)
                (word_safe y by2 ly (steady_since s c Have have sy ly hz) p pl (word_at s.geometry y (slot_at u p)) refl
                (choose_filling i r u n (slice_set free x false) (choice_of i (slice_set free x false)) kept area left)
                (take_and_place i r.table (slot_at r.table p) kept area left)
                (λ w lw bw hw v. filling_safe n (slice_set free x false) (choice_of i (slice_set free x false)) refl few2 w bw lw hw (out_more free x z y w bz (since_before sy) outs v))
                (λ w lw bw hw rdy. take_and_place_safe s c client pair ip tries most from r.table p cand kept area left w lw (subst (OnChain s.geometry w (hash s pair.key)) (sym rt) (chain_t w bw lw)) (subst (λ v. Ready s v p w) (sym rt) rdy)
                (stayed_later s pair.key from bw r.table (looked_stayed s pair.key from q l r (looked_from s pair.key from q r lk))) (Before-trans bf bw) hw.0 hw.1 hw.2 lv le)),
          )

  -- by the last header of the look
  pub choose_safe : (r : Passed) (left : ℕ) → 1 ≤ left → left ≤ most → (q : Past) → Legal s q → Before from q → Have q → Start s.geometry q (hash s pair.key) r.table → LookedFrom s pair.key from q r → LookedAt s pair.key from q r → SafeIn s c q (choose i r kept area left) End
  choose_safe r left lv le q l bf hq st lk x = among (choice_of i r.free) refl
    where
      w : PassedBy InOrder s q from pair.key None
      w = x.clear.passed

      stayed : Stayed s pair.key from q r.table
      stayed = looked_stayed s pair.key from q l r x

      since_end : Before w.since w.end
      since_end = in_order_span w.since w.seen w.end w.misses.stand

      le2 : Legal s w.end
      le2 = legal_before s w.up_to l

      ls : Legal s w.since
      ls = legal_before s since_end le2

      start_at_end : Start s.geometry w.end (hash s pair.key) w.table
      start_at_end = start_before s since_end le2 (hash s pair.key) w.table (passing_start s pair.key None from w.prev w.table w.since ls w.passing)

      table_at_end : IsTable s.geometry w.end r.table
      table_at_end = subst (IsTable s.geometry w.end) x.clear.table (start_table s w.end le2 (hash s pair.key) w.table start_at_end)

      plain : (n : ℕ) → choice_of i r.free ≡ Some n → (IsFilling (key_header s q r.table pair.key) → ⊥) → SafeIn s c q (take_and_place i r.table (slot_in i r.table n) kept area left) End
      plain n ch f = let y = by_last s pair.key q l r.table st f in take_chosen_safe s c client pair ip tries most from r n q ch kept area left l y.0 y.1 stayed bf hq.0 hq.1 hq.2 lv le

      ripe : (h : Header) → header_of (Some r.head) ≡ h → (IsFilling h → ⊥) → IsFilling (key_header s q r.table pair.key) → ⊥
      ripe h e f = last_ripe s pair.key w.up_to l r.table table_at_end (λ y. f (subst IsFilling (x.clear.head ∙ e) y))

      -- the first table that was searched did not fill
      alone : (n : ℕ) → choice_of i r.free ≡ Some n → searched_before w.prev ≡ None → SafeIn s c q (take_and_place i r.table (slot_in i r.table n) kept area left) End
      alone n ch e =
          let f = passing_first s pair.key None from w.prev w.table w.since w.passing e in
          let b2 = Before-trans since_end w.up_to in
          let ch0 = subst (OnChain s.geometry w.since (hash s pair.key)) x.clear.table f.0 in
          let rp = subst (λ v. IsFilling (header_in s.geometry w.since v) → ⊥) x.clear.table f.1 in
          let rr = ripe_before s b2 l r.table (chain_table s w.since ls (hash s pair.key) r.table ch0) rp in
          take_chosen_safe s c client pair ip tries most from r n q ch kept area left l (chain_before s b2 l (hash s pair.key) r.table ch0) (λ p pl. inl rr) stayed bf hq.0 hq.1 hq.2 lv le

      filling : (n u : ℕ) → searched_before w.prev ≡ Some u → header_of (Some r.head) ≡ FillingAt r.head.depth → IsTrue (is_filling r.head.state) → SafeIn s c q (choose_by_parent i r n (Some u) kept area left) End
      filling n u e k fill =
          let b2 = Before-trans since_end w.up_to in
          let un0 = passing_under s pair.key None from w.prev w.table w.since ls w.passing u e in
          let un1 = subst (Under s pair.key w.since u) x.clear.table un0 in
          let un = (under_before s pair.key b2 l u r.table un1).0 in
          let tb = chain_table s q l (hash s pair.key) u un.chain in
          let e16 = exit-below (hash s pair.key) (born_at s.geometry q u) un.level un.exits in
          let sp = splits s q l in
          let born = sp.born u un.level r.table tb e16 un.child un.some in
          let fills = bucket_fills s w.end le2 r.table (main_of s pair.key) r.head.depth table_at_end (main_below s pair.key) (x.clear.head ∙ k) in
          let same = born_before s w.up_to l r.table table_at_end in
          let level : r.head.depth ≡ un.level + 1 = let bl = born.level in omega arith in
          let d : un.level ≡ r.head.depth - 1 = omega arith in
          let deep = sp.deep r.table born.table in
          let low = sp.from r.table born.table in
          let bl2 = born.level in
          subst (λ v. SafeIn s c q (help_then v) End) (sym (table_address s.geometry q (sound s q l) u tb))
          (help_safe s c u (r.head.depth - 1) (omega arith) End (λ z. Before q z × Have z)
          (record { others = λ y en ly o hh. (later hh.0, have.others y en ly o hh.1); elsewhere = λ y en ly si ro hh. (later hh.0, have.elsewhere y en ly si ro hh.1) })
          (choose_filling i r u 28 r.free (choice_of i r.free) kept area left)
          (λ z lz hz linked gn. let uz = under_before s pair.key hz.0 lz u r.table un in
          filling_safe z lz u r.table r.head.depth (r.head.depth - 1) uz.0 (uz.1 ∙ d) (omega arith) gn (Before-trans bf hz.0) r refl refl (sym x.clear.parent ∙ e) fill (look_later s pair.key from hz.0 r lk) left lv le 28 r.free (choice_of i r.free) refl free_most z here lz hz.1 (λ m low f. inl f))
          q l (here, hq) (tb, λ z. un.some (sym un.child ∙ ap (child_in s.geometry q u) d ∙ z)))
        where
          free_most : frees r.free (length (candidates s.geometry.groups (hash s pair.key))) ≤ 28
          free_most = let a = frees_most r.free (length (candidates s.geometry.groups (hash s pair.key))) in ⊎_elim (λ (k : length (candidates s.geometry.groups (hash s pair.key)) ≡ 21). omega arith) (λ (k : length (candidates s.geometry.groups (hash s pair.key)) ≡ 28). omega arith) (length-candidates_two s.geometry.groups (hash s pair.key))

          help_then : ℕ → Prog Part
          help_then v = help s.geometry v (r.head.depth - 1) (choose_filling i r v 28 r.free (choice_of i r.free) kept area left)

      by_parent : (n : ℕ) → choice_of i r.free ≡ Some n → (o : Option ℕ) → searched_before w.prev ≡ o → header_of (Some r.head) ≡ FillingAt r.head.depth → IsTrue (is_filling r.head.state) → SafeIn s c q (choose_by_parent i r n o kept area left) End
      by_parent n ch None e k fill = alone n ch e
      by_parent n ch (Some u) e k fill = filling n u e k fill

      head_is : (st : State) → r.head.state ≡ st → header_of (Some r.head) ≡ header_of (Some (record { depth = r.head.depth; state = st }))
      head_is st e = ap (λ v. header_of (Some (record { depth = r.head.depth; state = v }))) e

      by_state : (n : ℕ) → choice_of i r.free ≡ Some n → (st : State) → r.head.state ≡ st → SafeIn s c q (choose_among i r (Some n) kept area left) End
      by_state n ch Plain e = subst (λ v. SafeIn s c q (cond (is_filling v) (choose_by_parent i r n r.parent kept area left) (take_and_place i r.table (slot_in i r.table n) kept area left)) End) (sym e) (plain n ch (ripe (PlainAt r.head.depth) (head_is Plain e) (λ v. v)))
      by_state n ch Splitting e = subst (λ v. SafeIn s c q (cond (is_filling v) (choose_by_parent i r n r.parent kept area left) (take_and_place i r.table (slot_in i r.table n) kept area left)) End) (sym e) (plain n ch (ripe (SplittingAt r.head.depth) (head_is Splitting e) (λ v. v)))
      by_state n ch Filling e = subst (λ v. SafeIn s c q (cond (is_filling v) (choose_by_parent i r n r.parent kept area left) (take_and_place i r.table (slot_in i r.table n) kept area left)) End) (sym e) (by_parent n ch r.parent x.clear.parent (head_is Filling e) (subst (λ v. IsTrue (is_filling v)) (sym e) refl))

      among : (o : Option ℕ) → choice_of i r.free ≡ o → SafeIn s c q (choose_among i r o kept area left) End
      among None ch = record {
        start = st;
        owns = hq.0;
        kept = hq.1;
        so = (record { look = lk; occupied = λ m low. inl (choice-none (length (candidates s.geometry.groups (hash s pair.key))) r.free m (length-candidates_two s.geometry.groups (hash s pair.key)) ch low) }, refl, lv);
        leaves = none_pending s c from q hq.2;
        falls = le;
      }
      among (Some n) ch = by_state n ch r.head.state refl
