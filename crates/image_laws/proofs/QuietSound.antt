-- The words after a legal log, where they are quiet, are sound.
use Rattle.std.specs.Prelude.{◌≡◌, ◌≢◌, ℕ, ◌+◌, ◌*◌, ◌/◌, ◌%◌, ◌^◌, ◌<◌, ◌≤◌, true, List, ◌∷◌, ◌++◌, Option, Some, None, ◌⊎◌, refl}
use Rattle.std.specs.List.{flat_map}
use Rattle.std.proofs.Common.{sym, ◌∙◌, ap, subst, inl, inr, arith, ⊎_elim}
use Rattle.std.proofs.lemmas.Bool.{cases_lt}
use Rattle.slot_word.specs.declared.slots.Mark.{Mark}
use Rattle.slot_word.specs.declared.slots.Mark.TheVariants.{Live}
use Rattle.slot_word.specs.declared.births.Birth.{Birth}
use Rattle.kv_block.specs.Packing.{Pair, unpacked}
use Rattle.bucket_group.specs.ExitLevel.{exit_level}
use Rattle.node_words.specs.Addresses.{first_table, node_of, table_words, header_at, child_at, slot_at, bucket_header_at, directory_at}
use Rattle.node_words.specs.Roles.{Role, NextWord, DepthWord, DirectoryWord, BirthWord, HeaderWord, LockWord, ReservedWord, ChildWord, BucketWord, SlotWord, HeapWord, offset_role}
use Rattle.node_words.proofs.FirstTables.{IsInFirst, first_same}
use Rattle.node_words.proofs.RoleLemmas.{child_place, slot_place, slot_below, bucket_place, bucket_below}
use Rattle.verb_log.specs.Decoded.{Body, Content, Empty, Full, NoSlot, content, Header, PlainAt, SplittingAt, FillingAt, NoHeader, header}
use Rattle.verb_log.specs.Tables.{Past, here, word_at, pair_at, is_published}
use Rattle.verb_log.proofs.BlockWords.{pair_unpacked}
use Rattle.race_laws.specs.Setting.{Setting, hash}
use Rattle.race_laws.specs.Standing.{IsTable, header_in, birth_in, child_in, place_in, depth, IsPlain, IsIn}
use Rattle.race_laws.specs.Chains.{IsCandidate}
use Rattle.race_laws.specs.Splits.{IsQuiet}
use Rattle.race_laws.specs.Rows.{IsPlace}
use Rattle.race_laws.specs.Legal.{Legal}
use Rattle.race_laws.proofs.Touch.{same_or_not}
use Rattle.race_laws.proofs.Sound.{Sound}
use Rattle.race_laws.proofs.SoundStep.{sound}
use Rattle.race_laws.proofs.Slots.{standing_named}
use Rattle.race_laws.proofs.Splits.{Born, Splits}
use Rattle.race_laws.proofs.Opening.{splits}
use Rattle.race_laws.proofs.Chain.{born_at}
use Rattle.race_laws.proofs.Candidates.{not_left, word_candidate}
use Rattle.race_laws.proofs.Homes.{as_live, Home, one_home}
use Rattle.race_laws.proofs.Commits.{alone}
use Rattle.race_laws.proofs.Rights.{unlocked_quiet}
use Rattle.log_facts.proofs.Prints.{prints}
use Rattle.log_facts.proofs.Directory.{Pointed, directs}
use Rattle.log_facts.proofs.Suffixes.{chain_suffix}
use Rattle.image_laws.specs.declared.table.ImageTable.{ImageTable}
use Rattle.image_laws.specs.Walk.{Words, first_of, firsts, child_of, named_at, tables, WalkWord, TableWord, walk}
use Rattle.image_laws.specs.Sound.{IsTaken, pair_from, depth_in, named_by, listed_by, held_in, held_as, held_by, held, one_pair, ChildRule, LiveSlot, TableRule, PlainRule, Names, DirectoryRule, Rule, IsSound}
use Rattle.image_laws.specs.Quiet.{QuietAs, AreQuiet}
use Rattle.image_laws.proofs.Members.{in_left, in_cases, in_flat_back, split_in}
use Rattle.image_laws.proofs.Tables.{IsChildOf, named_back, firsts_back, first_listed, table_word_in, IsWalked, in_table, of_depth, of_directory, walked_is}
use Rattle.image_laws.proofs.Offsets.{off_lock}
use Rattle.image_laws.proofs.WordForms.{plain_same, empty_zero, words_same}
use Rattle.image_laws.specs.Pairwise.{Pairwise}
use Rattle.image_laws.proofs.Pairwise.{pairwise_split}
use Rattle.image_laws.proofs.Fixed.{reserved_zero, never_no_slot}
use Rattle.image_laws.proofs.LogTables.{tables_apart, stands, child_not_first, child_one, known, WordsDiffer, walk_once}

plain_depth : (h : Header) → IsPlain h → h ≡ PlainAt (depth h)
plain_depth (PlainAt d) x = refl
plain_depth (SplittingAt d) x = absurd x
plain_depth (FillingAt d) x = absurd x
plain_depth NoHeader x = absurd x

module _ (s : Setting) (q : Past) (l : Legal s q) where
  abbrev words : Words
  words = word_at s.geometry q

  sp : Splits s.geometry q
  sp = splits s q l

  so : Sound s.geometry q
  so = sound s q l

  -- a published word is taken
  taken : (a : ℕ) → is_published s.geometry q a ≡ true → IsTaken s.geometry words a
  taken a h = let t = so.taken a (so.published a h) in record { node = node_of s.geometry a; is_node = t.node; from = t.from; to = t.to }

  -- what a live word in a slot of a table says
  pub record Lives (t p : ℕ) (b : Body) : Type 0 where
    pub pair : Pair
    pub packs : pair_at s.geometry q b ≡ Some pair
    pub reads : pair_from words b ≡ Some pair
    pub home : Home s q pair.key t p b pair
    pub seat : IsCandidate s q t p pair.key

  pub lives : (t p : ℕ) (b : Body) → IsTable s.geometry q t → IsPlace s.geometry p → place_in s.geometry q t p ≡ Full Live b → Lives t p b
  lives t p b h k e =
      let nm = standing_named s.geometry q so t p Live b h k e in
      record {
        pair = nm.pair;
        packs = nm.packs;
        reads = ap unpacked (words_same s.geometry q b.at b.length) ∙ pair_unpacked s.geometry q b nm.pair nm.packs;
        home = record { table = h; place = k; packs = nm.packs; same_key = refl; stands = as_live e };
        seat = word_candidate s q l q here t p Live b nm.pair h k (record { stands = e; packs = nm.packs });
      }

  module _ (qu : AreQuiet s.geometry words) where
    quiet_at : (t : ImageTable) (o : ℕ) → IsIn t (tables s.geometry words) → o < table_words s.geometry → QuietAs words (t.at + o) (offset_role t.at o)
    quiet_at t o h k = qu (TableWord t o) (table_word_in s.geometry words t o h k)

    quiet_table : (t : ImageTable) → IsIn t (tables s.geometry words) → IsQuiet s.geometry q t.at
    quiet_table t h = unlocked_quiet s q l t.at (stands s q l t h).is_table (subst (QuietAs words (t.at + 2)) (off_lock s.geometry t.at) (quiet_at t 2 h (omega arith)))

    born_is : (t : ImageTable) → IsIn t (tables s.geometry words) → born_at s.geometry q t.at ≡ t.depth
    born_is t h = ap (λ (b : Birth). b.depth) (stands s q l t h).birth

    module _ (t : ImageTable) (h : IsIn t (tables s.geometry words)) (i : ℕ) (i16 : i < 16) (n : words (child_at t.at i) ≢ 0) where
      child_born : Born s.geometry q t.at i (words (child_at t.at i))
      child_born = sp.born t.at i (words (child_at t.at i)) (stands s q l t h).is_table i16 refl n

      child_levels : (t.depth ≤ i) × (i < depth_in words t.at)
      child_levels =
          let up = sp.upto t.at i (stands s q l t h).is_table i16 n in
          let d = born_is t h in
          let qt = quiet_table t h in
          (omega arith, ⊎_elim (λ (x : i < depth (header_in s.geometry q t.at)). x) (λ (x : depth (header_in s.geometry q t.at) ≤ i). absurd (at_depth qt (same up.1 x))) (cases_lt i (depth (header_in s.geometry q t.at))))
        where
          same : i ≤ depth (header_in s.geometry q t.at) → depth (header_in s.geometry q t.at) ≤ i → depth (header_in s.geometry q t.at) ≡ i
          same x y = omega arith

          at_depth : IsQuiet s.geometry q t.at → depth (header_in s.geometry q t.at) ≡ i → ⊥
          at_depth qt x = n (sym (ap (child_in s.geometry q t.at) x) ∙ qt.no_child (subst (λ v. v < 16) (sym x) i16))

      is_child : IsChildOf words t i (child_of words t i)
      is_child = record { from = child_levels.0; below = i16; some = n; is = refl }

      taken_child : (a : ℕ) → IsInFirst s.geometry a (words (child_at t.at i)) ⊎ (is_published s.geometry q a ≡ true) → words (child_at t.at i) ≤ a → IsTaken s.geometry words a
      taken_child a (inl f) x = absurd (child_not_first s q l t i (child_of words t i) (stands s q l t h) is_child (first_same s.geometry a (words (child_at t.at i)) (words (child_at t.at i)) f (omega arith) (omega arith)))
      taken_child a (inr p) x = taken a p

    -- a table that a word of the walk has named
    record NamedBy (before : List WalkWord) (u : ImageTable) : Type 0 where
      pub parent : ImageTable
      pub offset : ℕ
      pub level : ℕ
      pub is_site : IsIn (TableWord parent offset) before
      pub is_listed : IsIn parent (tables s.geometry words)
      pub at : offset ≡ 4 + level
      pub low : level < 16
      pub some : words (child_at parent.at level) ≢ 0
      pub is : u ≡ child_of words parent level

    named_offset : (before : List WalkWord) (u v : ImageTable) (p : ℕ) → IsIn (TableWord v p) before → IsIn v (tables s.geometry words) → IsIn u (named_at words v p) → NamedBy before u
    named_offset before u v p a b k = let x = named_back words v p u k in record { parent = v; offset = p; level = x.level; is_site = a; is_listed = b; at = x.at; low = x.is_child.below; some = x.is_child.some; is = x.is_child.is }

    named_site : (before : List WalkWord) (u : ImageTable) (x : WalkWord) → IsIn x before → IsWalked s.geometry words x → IsIn u (named_by words x) → NamedBy before u
    named_site before u x a (in_table v p b c) k = named_offset before u v p a b k
    named_site before u x a of_depth k = absurd k
    named_site before u x a (of_directory j c) k = absurd k

    module _ (before after : List WalkWord) (t : ImageTable) (o : ℕ) (e : walk s.geometry words ≡ before ++ TableWord t o ∷ after) (h : IsIn t (tables s.geometry words)) where
      in_walk : (x : WalkWord) → IsIn x before → IsIn x (walk s.geometry words)
      in_walk x m = subst (IsIn x) (sym e) (in_left x before (TableWord t o ∷ after) m)

      -- an earlier word is another one
      other : (v : ImageTable) (p : ℕ) → IsIn (TableWord v p) before → v.at ≡ t.at → p ≡ o → ⊥
      other v p m = pairwise_split (WordsDiffer s q l) (TableWord t o) (TableWord v p) before after (subst (Pairwise (WordsDiffer s q l)) e (walk_once s q l)) m

      named : (u : ImageTable) → IsIn u (flat_map (named_by words) before) → NamedBy before u
      named u m = let r = in_flat_back (named_by words) u before m in named_site before u r.0 r.1 (walked_is s.geometry words r.0 (in_walk r.0 r.1)) r.2

      named_child : (u : ImageTable) → (x : NamedBy before u) → IsChildOf words x.parent x.level u
      named_child u x = let y = is_child x.parent x.is_listed x.level x.low x.some in record { from = y.from; below = x.low; some = x.some; is = x.is }

      earlier_table : (u : ImageTable) → IsIn u (listed_by s.geometry words before) → IsTable s.geometry q u.at
      earlier_table u m = ⊎_elim (λ (x : IsIn u (firsts s.geometry)). let r = firsts_back s.geometry u x in subst (λ (v : ImageTable). IsTable s.geometry q v.at) (sym r.2) (stands s q l (first_of s.geometry r.0) (first_listed s.geometry words r.0 r.1)).is_table)
          (λ (x : IsIn u (flat_map (named_by words) before)). let y = named u x in subst (λ (v : ImageTable). IsTable s.geometry q v.at) (sym y.is) (child_born y.parent y.is_listed y.level y.low y.some).table)
          (in_cases u (firsts s.geometry) (flat_map (named_by words) before) m)

      child_new : (i : ℕ) → o ≡ 4 + i → i < 16 → words (child_at t.at i) ≢ 0 → (u : ImageTable) → IsIn u (listed_by s.geometry words before) → words (child_at t.at i) ≡ u.at → ⊥
      child_new i oi i16 n u m z = ⊎_elim (λ (x : IsIn u (firsts s.geometry)). first (firsts_back s.geometry u x)) (λ (x : IsIn u (flat_map (named_by words) before)). by (named u x)) (in_cases u (firsts s.geometry) (flat_map (named_by words) before) m)
        where
          first : (j : ℕ) × (j < 2 ^ s.geometry.first_depth) × (u ≡ first_of s.geometry j) → ⊥
          first r =
              let at : words (child_at t.at i) ≡ first_table s.geometry r.0 = z ∙ ap (λ (v : ImageTable). v.at) r.2 in
              child_not_first s q l t i (child_of words t i) (stands s q l t h) (is_child t h i i16 n) (record { index = r.0; below = r.1; is = at; from = omega arith; to = omega arith })

          by : NamedBy before u → ⊥
          by x =
              let one = child_one s q l t x.parent i x.level (child_of words t i) u (stands s q l t h) (stands s q l x.parent x.is_listed) (is_child t h i i16 n) (named_child u x) z in
              other x.parent x.offset x.is_site (sym one.0) (let a = x.at in let b = one.1 in omega arith)

      child_rule : (i : ℕ) → o ≡ 4 + i → i < 16 → ChildRule s.geometry words before t i
      child_rule i oi i16 = record {
        only = λ n. child_levels t h i i16 n;
        all = λ a b. sp.all_below t.at i (stands s q l t h).is_table (let x = born_is t h in omega arith) b;
        taken = λ n a x y. let tb = (child_born t h i i16 n).table in taken_child t h i i16 n a (so.tables a (words (child_at t.at i)) (so.whole (words (child_at t.at i)) (words (child_at t.at i)) tb a x y)).2 x;
        apart = λ n u m. tables_apart s.geometry q so (words (child_at t.at i)) u.at (child_born t h i i16 n).table (earlier_table u m) (λ z. child_new i oi i16 n u m z);
      }

      -- a live word in an earlier slot
      record Earlier (z : Pair) : Type 0 where
        pub table : ImageTable
        pub offset : ℕ
        pub place : ℕ
        pub body : Body
        pub is_site : IsIn (TableWord table offset) before
        pub is_listed : IsIn table (tables s.geometry words)
        pub at : offset ≡ 20 + place
        pub is_place : IsPlace s.geometry place
        pub stands_there : place_in s.geometry q table.at place ≡ Full Live body
        pub reads : pair_from words body ≡ Some z

      earlier_content : (z : Pair) (v : ImageTable) (p o2 : ℕ) → IsIn (TableWord v o2) before → IsIn v (tables s.geometry words) → o2 ≡ 20 + p → IsPlace s.geometry p → (c : Content) → place_in s.geometry q v.at p ≡ c → IsIn z (held_in words c) → Earlier z
      earlier_content z v p o2 a b f k (Full Live body) g m = pair (pair_from words body) refl m
        where
          pair : (x : Option Pair) → pair_from words body ≡ x → IsIn z (one_pair x) → Earlier z
          pair (Some y) r (inl w) = record { table = v; offset = o2; place = p; body = body; is_site = a; is_listed = b; at = f; is_place = k; stands_there = g; reads = r ∙ ap Some (sym w) }
          pair (Some y) r (inr w) = absurd w
          pair None r w = absurd w
      earlier_content z v p o2 a b f k _ g m = absurd m

      earlier_roles : (z : Pair) (v : ImageTable) (p : ℕ) → IsIn (TableWord v p) before → IsIn v (tables s.geometry words) → p < table_words s.geometry → (r : Role) → offset_role v.at p ≡ r → IsIn z (held_as words v r) → Earlier z
      earlier_roles z v p a b low (SlotWord x j) f m = let y = slot_place v.at p x j f in earlier_content z v j p a b y.1 (slot_below s.geometry v.at p x j f low, y.2) (place_in s.geometry q v.at j) refl m
      earlier_roles z v p a b low _ f m = absurd m

      earlier_site : (z : Pair) (x : WalkWord) → IsIn x before → IsWalked s.geometry words x → IsIn z (held_by words x) → Earlier z
      earlier_site z x a (in_table v p b c) m = earlier_roles z v p a b c (offset_role v.at p) refl m
      earlier_site z x a of_depth m = absurd m
      earlier_site z x a (of_directory j c) m = absurd m

      earlier : (z : Pair) → IsIn z (held words before) → Earlier z
      earlier z m = let r = in_flat_back (held_by words) z before m in earlier_site z r.0 r.1 (walked_is s.geometry words r.0 (in_walk r.0 r.1)) r.2

      slot_once : (p : ℕ) (b : Body) → o ≡ 20 + p → (lv : Lives t.at p b) → (z : Pair) → IsIn z (held words before) → z.key ≡ lv.pair.key → ⊥
      slot_once p b op lv z m e =
          let x = earlier z m in
          let lx = lives x.table.at x.place x.body (stands s q l x.table x.is_listed).is_table x.is_place x.stands_there in
          let same : lx.pair ≡ z = pairs (sym lx.reads ∙ x.reads) in
          let key : lx.pair.key ≡ lv.pair.key = ap (λ (v : Pair). v.key) same ∙ e in
          let hx : Home s q lv.pair.key x.table.at x.place x.body lx.pair = record { table = lx.home.table; place = lx.home.place; packs = lx.packs; same_key = key; stands = lx.home.stands } in
          let one = one_home s q l (alone s q l) lv.pair.key x.table.at t.at x.place p x.body b lx.pair lv.pair hx lv.home in
          other x.table x.offset x.is_site one.table (let a = x.at in let c = one.place in omega arith)
        where
          pairs : {x y : Pair} → Some x ≡ Some y → x ≡ y
          pairs e = cc

      live_slot : (p : ℕ) (b : Body) → o ≡ 20 + p → IsPlace s.geometry p → place_in s.geometry q t.at p ≡ Full Live b → LiveSlot s words before t p
      live_slot p b op k g =
          let st = stands s q l t h in
          let lv = lives t.at p b st.is_table k g in
          let nm = standing_named s.geometry q so t.at p Live b st.is_table k g in
          record {
            body = b;
            pair = lv.pair;
            stands = g;
            taken = λ a x y. taken a (nm.published a x y);
            packs = lv.reads;
            print = prints s q l q here t.at p Live b lv.pair st.is_table k (record { stands = g; packs = lv.packs });
            suffix = sym (ap (λ (v : Birth). v.suffix) st.birth) ∙ chain_suffix s q l (hash s lv.pair.key) t.at lv.seat.chain ∙ ap (λ (v : Birth). hash s lv.pair.key % 2 ^ v.depth) st.birth;
            stays = λ i x. stays lv i x;
            candidate = lv.seat.candidate;
            once = λ z m e. slot_once p b op lv z m e;
          }
        where
          stays : (lv : Lives t.at p b) → (i : ℕ) → exit_level (hash s lv.pair.key) t.depth ≡ Some i → depth_in words t.at ≤ i
          stays lv i x = ⊎_elim (λ (y : i < depth_in words t.at). absurd (not_left s q l Live t.at p i b lv.pair (stands s q l t h).is_table k (record { stands = g; packs = lv.packs }) (inl refl) (ap (exit_level (hash s lv.pair.key)) (born_is t h) ∙ x) y))
              (λ (y : depth_in words t.at ≤ i). y) (cases_lt i (depth_in words t.at))

      slot_rule : (p : ℕ) → o ≡ 20 + p → IsPlace s.geometry p → ((m : Mark) (b : Body) → content (words (t.at + o)) ≡ Full m b → m ≡ Live) → (c : Content) → place_in s.geometry q t.at p ≡ c → (words (slot_at t.at p) ≡ 0) ⊎ LiveSlot s words before t p
      slot_rule p op k quiet Empty g = inl (empty_zero (words (slot_at t.at p)) g)
      slot_rule p op k quiet NoSlot g = absurd (never_no_slot s q l t.at p (stands s q l t h).is_table k g)
      slot_rule p op k quiet (Full m b) g = inr (live_slot p b op k (g ∙ ap (λ v. Full v b) (quiet m b (ap (λ v. content (words v)) (at p o op) ∙ g))))
        where
          at : (p o : ℕ) → o ≡ 20 + p → t.at + o ≡ slot_at t.at p
          at p o e = omega arith

      table_rule : o < table_words s.geometry → (r : Role) → offset_role t.at o ≡ r → TableRule s words before t r
      table_rule low (BirthWord u) f = (stands s q l t h).word
      table_rule low (HeaderWord u) f =
          let qt = quiet_table t h in
          let st = stands s q l t h in
          record { depth = depth (header_in s.geometry q t.at); plain = plain_depth (header_in s.geometry q t.at) qt.plain; from = (let x = sp.from t.at st.is_table in let y = born_is t h in omega arith); to = sp.deep t.at st.is_table }
      table_rule low (ChildWord u i) f = let x = child_place t.at o u i f in child_rule i x.1 x.2
      table_rule low (SlotWord u p) f = let x = slot_place t.at o u p f in slot_rule p x.1 (slot_below s.geometry t.at o u p f low, x.2) (subst (QuietAs words (t.at + o)) f (quiet_at t o h low)) (place_in s.geometry q t.at p) refl
      table_rule low (NextWord k) f = tt
      table_rule low DepthWord f = tt
      table_rule low (DirectoryWord j) f = tt
      table_rule low (LockWord u) f = tt
      table_rule low ReservedWord f = tt
      table_rule low (BucketWord u m) f = tt
      table_rule low HeapWord f = tt

      plain_rule : o < table_words s.geometry → (r : Role) → offset_role t.at o ≡ r → PlainRule words t o r
      plain_rule low (LockWord u) f = subst (QuietAs words (t.at + o)) f (quiet_at t o h low)
      plain_rule low ReservedWord f = reserved_zero s q l t.at o (stands s q l t h).is_table low f
      plain_rule low (BucketWord u m) f =
          let qt = quiet_table t h in
          let hd = plain_depth (header_in s.geometry q t.at) qt.plain in
          let at = ap words (place t.at o m (bucket_place t.at o u m f).1) in
          plain_same (words (t.at + o)) (words (header_at t.at)) (depth (header_in s.geometry q t.at)) (ap header at ∙ qt.buckets m (bucket_below s.geometry t.at o u m f low) ∙ hd) hd
        where
          place : (t o m : ℕ) → o ≡ 20 + 24 * (m / 2) + 16 * (m % 2) → t + o ≡ bucket_header_at t m
          place t o m e = omega arith
      plain_rule low (NextWord k) f = tt
      plain_rule low DepthWord f = tt
      plain_rule low (DirectoryWord j) f = tt
      plain_rule low (BirthWord u) f = tt
      plain_rule low (HeaderWord u) f = tt
      plain_rule low (ChildWord u i) f = tt
      plain_rule low (SlotWord u p) f = tt
      plain_rule low HeapWord f = tt

    directory_rule : (j : ℕ) → j < 2 ^ s.geometry.max_depth → DirectoryRule s.geometry words j
    directory_rule j low = ⊎_elim (λ (z : words (directory_at j) ≡ 0). inl (z, ⊎_elim (λ (x : j < 2 ^ words 1). absurd ((directs s q l).some j x z)) (λ (x : 2 ^ words 1 ≤ j). x) (cases_lt j (2 ^ words 1))))
        (λ (n : words (directory_at j) ≢ 0). inr (names ((directs s q l).points j low n))) (same_or_not (words (directory_at j)) 0)
      where
        names : Pointed s.geometry q j (words (directory_at j)) → Names s.geometry words j
        names pt =
            let kn = known s q l (words (directory_at j)) pt.table in
            let b = sym (ap (birth_in s.geometry q) kn.is) ∙ (stands s q l kn.table kn.is_listed).birth in
            record { table = kn.table; is_listed = kn.is_listed; is = sym kn.is; suffix = sym (ap (λ (v : Birth). v.suffix) b) ∙ pt.suffix ∙ ap (λ (v : Birth). j % 2 ^ v.depth) b }

    rule : (before after : List WalkWord) (x : WalkWord) → walk s.geometry words ≡ before ++ x ∷ after → IsWalked s.geometry words x → Rule s words before x
    rule before after x e (in_table t o h k) = (table_rule before after t o e h k (offset_role t.at o) refl, plain_rule before after t o e h k (offset_role t.at o) refl)
    rule before after x e of_depth = record { from = (directs s q l).depth_from; to = (directs s q l).depth_low }
    rule before after x e (of_directory j k) = directory_rule j k

    pub quiet_sound : IsSound s words
    quiet_sound = record {
      nexts = λ k h. (so.next_from k h, so.next_to k h);
      meets = λ before after x e. rule before after x e (walked_is s.geometry words x (subst (IsIn x) (sym e) (split_in x before after)));
    }
