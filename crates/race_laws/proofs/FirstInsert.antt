-- A first insert is a legal log: a place, a sweep in which nothing stands, and a commit, behind the take and the stores.
use Rattle.std.specs.Prelude.{◌≡◌, ◌≢◌, ℕ, ◌+◌, ◌*◌, ◌^◌, ◌%◌, ◌<◌, ◌≤◌, Bool, true, false, not, ◌==◌, nat_le, List, [], ◌∷◌, length, map, filter, Some, None, refl, cond}
use Rattle.std.proofs.Common.{sym, ◌∙◌, ap, subst, inl, inr, arith}
use Rattle.std.proofs.lemmas.Bool.{cond-true, cond-false, and_from, eq-eqb, le-leb, true≢false}
use Rattle.std.proofs.lemmas.Bool.Decides.{nat_tests}
use Rattle.std.proofs.lemmas.Nat.{mod_below, div_below}
use Rattle.slot_word.specs.declared.slots.Mark.{Mark}
use Rattle.slot_word.specs.declared.slots.Mark.TheVariants.{Live, Pending}
use Rattle.slot_word.specs.declared.slots.Slot.{Slot}
use Rattle.slot_word.specs.Slots.{IsSlot, slot_word}
use Rattle.slot_word.proofs.SlotLaws.{slot_of-slot_word, slot_word-some}
use Rattle.kv_block.specs.Packing.{Pair, IsPair, packed, unpacked}
use Rattle.kv_block.proofs.Packed.{packed_least, packed_most, unpacked-packed}
use Rattle.bucket_group.specs.ExitLevel.{exit_level}
use Rattle.bucket_group.proofs.CandidateLaws.{first_below}
use Rattle.bucket_group.proofs.ExitLaws.{exit-some}
use Rattle.node_words.specs.Addresses.{node_size, node_at, table_words, header_at, slot_at, bucket_header_at}
use Rattle.node_words.specs.Roles.{SlotWord, BucketWord, first_table_of}
use Rattle.node_words.specs.Opening.{opening_word}
use Rattle.node_words.proofs.Sizes.{some_groups, first_range, first_free_low, node_ends}
use Rattle.node_words.proofs.FirstTables.{IsInFirst, first_is, first_in_words}
use Rattle.node_words.proofs.OpeningWords.{next_apart, opening_slot}
use Rattle.verb_log.specs.declared.entry.Entry.{Entry}
use Rattle.verb_log.specs.declared.kind.Kind.TheVariants.{Place, Commit}
use Rattle.verb_log.specs.Decoded.{Body, Empty, Full, content, content_of, PlainAt, header, birth}
use Rattle.verb_log.specs.Tables.{Past, here, word_at, pair_at, table_of, role, judged_role}
use Rattle.verb_log.specs.Kinds.{kind, kind_of_role, slot_kind, only_if, same_body}
use Rattle.race_laws.specs.Setting.{Setting, hash, places, main_of, print_of, base}
use Rattle.race_laws.specs.Standing.{IsTable, header_in, birth_in, place_in, key_header, IsFilling, IsGone, Stays, IsIn}
use Rattle.race_laws.specs.Chains.{starts, Holder, live}
use Rattle.race_laws.specs.Looks.{Reading, InOrder, IsMiss, AllMiss, is_other, read_places, begins, Swept}
use Rattle.race_laws.specs.Rows.{IsPlace}
use Rattle.race_laws.specs.Legal.{Row, Meets, Legal}
use Rattle.race_laws.specs.FirstInsert.{take_first, first_block, word_of, on_slot, table_for, stored, placed_in, first_insert, InsertIsLegal}
use Rattle.race_laws.proofs.Touch.{word_kept, word_put, table_stays, role_stays}
use Rattle.race_laws.proofs.Regions.{base_low}
use Rattle.race_laws.proofs.Slots.{content-0, slot_is}
use Rattle.race_laws.proofs.Sound.{judged_is}
use Rattle.race_laws.proofs.SoundStep.{sound}
use Rattle.race_laws.proofs.RegionsStep.{words_kept}
use Rattle.race_laws.proofs.Frames.{bucket_is}
use Rattle.race_laws.proofs.Opening.{opening_head, opening_head_bucket, opening_birth_depth}
use Rattle.race_laws.proofs.Presence.{candidate_place}
use Rattle.race_laws.proofs.Possible.{IsPlainLog, take_legal, take_plain, stores_legal, stores_before, stores_read}

-- a slot word says what it packs
content_word : (slot : Slot) → IsSlot slot → content (slot_word slot) ≡ Full slot.mark (let b : Body = record { print = slot.fp; length = slot.len; at = slot.at } in b)
unfolding content
content_word slot h =
    let some = slot_word-some slot h in
    let other : (slot_word slot == 0) ≡ false = grind (arith, nat_tests, some) in
    cond-false _ _ _ other ∙ ap content_of (slot_of-slot_word slot h)

-- it names one block in one way
same_itself : (b : Body) → same_body b b ≡ true
same_itself b = and_from _ _ (and_from _ _ (eq-eqb b.print b.print refl) (eq-eqb b.length b.length refl)) (eq-eqb b.at b.at refl)

-- readings of places at one position
abbrev read_at : Past → List ℕ → List Reading
read_at at ps = map (λ (p : ℕ). (let r : Reading = record { place = p; at = at } in r)) ps

at_once : (at : Past) (ps : List ℕ) → InOrder at (read_at at ps) at
at_once at [] = here
at_once at (p ∷ ps) = (here, at_once at ps)

places_read : (at : Past) (ps : List ℕ) → map (λ (r : Reading). r.place) (read_at at ps) ≡ ps
places_read at [] = refl
places_read at (p ∷ ps) = ap (λ r. p ∷ r) (places_read at ps)

-- where no other place shows the key, no reading does
all_miss : (s : Setting) (key : List ℕ) (own t : ℕ) (at : Past) (ps : List ℕ) → ((p : ℕ) → IsIn p ps → slot_at t p ≢ own → IsMiss s key (Some own) None t (record { place = p; at = at }))
    → AllMiss s key (Some own) None t (read_at at (filter (is_other (Some own) t) ps))
all_miss s key own t at [] h = tt
all_miss s key own t at (p ∷ ps) h = by (is_other (Some own) t p) refl (all_miss s key own t at ps (λ x k. h x (inr k)))
  where
    by : (f : Bool) → is_other (Some own) t p ≡ f → AllMiss s key (Some own) None t (read_at at (filter (is_other (Some own) t) ps)) → AllMiss s key (Some own) None t (read_at at (cond f (p ∷ filter (is_other (Some own) t) ps) (filter (is_other (Some own) t) ps)))
    by true e others = (h p (inl refl) (λ q. absurd (true≢false (sym e ∙ ap not (eq-eqb (slot_at t p) own q)))), others)
    by false e others = others

module _ (s : Setting) (c k : ℕ) (q : Pair) (p : ℕ) (low : k < s.geometry.nodes) (pair : IsPair q) (small : hash s q.key < 2 ^ 64) (candidate : IsIn p (places s q.key))
    (room : base s.geometry k + length (packed q.key q.value) ≤ node_at s.geometry k + node_size s.geometry) where
  abbrev t : ℕ
  t = table_for s q.key

  abbrev n : ℕ
  n = length (packed q.key q.value)

  abbrev b : Body
  b = first_block s k q

  abbrev own : ℕ
  own = slot_at t p

  index_below : hash s q.key % 2 ^ s.geometry.first_depth < 2 ^ s.geometry.first_depth
  index_below = let some = (first_range s.geometry).0 in mod_below (hash s q.key) (2 ^ s.geometry.first_depth) (omega (arith, some))

  -- the table of the key is a first table
  in_first : (a : ℕ) → t ≤ a → a < t + table_words s.geometry → IsInFirst s.geometry a t
  in_first a from to = record { index = hash s q.key % 2 ^ s.geometry.first_depth; below = index_below; is = refl; from = from; to = to }

  first_here : IsTable s.geometry [] t
  first_here = first_is s.geometry t t (in_first t (omega arith) (omega arith))

  below_base : t + table_words s.geometry ≤ base s.geometry k
  below_base = let ends = (first_in_words s.geometry t t (in_first t (omega arith) (omega arith))).0 in let free = base_low s.geometry k in omega (arith, ends, free)

  slot_inside : (r : ℕ) → IsPlace s.geometry r → slot_at t r < t + table_words s.geometry
  slot_inside r h = let less = h.0 in omega (arith, less)

  -- what is stored is legal, on next words and heap words alone
  whole : Legal s (stored s c k q) × IsPlainLog s.geometry c (base s.geometry k) (base s.geometry k + n) (stored s c k q)
  whole =
      stores_legal s c k low n room (base s.geometry k) (packed q.key q.value) (take_first s.geometry c k n ∷ []) (omega arith) (omega arith)
      (take_legal s c k low n room (packed_least q pair) (packed_most q pair)) (take_plain s c k low n room)

  -- the words of the table are those of the opening
  word_stored : (a : ℕ) → t ≤ a → a < t + table_words s.geometry → word_at s.geometry (stored s c k q) a ≡ opening_word s.geometry a
  word_stored a from to =
      let under = below_base in
      stores_before s.geometry c (base s.geometry k) (packed q.key q.value) (take_first s.geometry c k n ∷ []) a (omega (arith, under, to))
      ∙ word_kept s.geometry [] (take_first s.geometry c k n) a (λ e. none_some t (sym (ap (first_table_of s.geometry) e ∙ next_apart s.geometry k) ∙ first_is s.geometry a t (in_first a from to)))
    where
      none_some : (u : ℕ) → None ≡ Some u → ⊥
      none_some u e = cc

  table_stored : (a : ℕ) → t ≤ a → a < t + table_words s.geometry → table_of s.geometry (stored s c k q) a ≡ Some t
  table_stored a from to = whole.1.tables a ∙ first_is s.geometry a t (in_first a from to)

  is_place : IsPlace s.geometry p
  is_place = candidate_place s q.key p candidate

  role_stored : role s.geometry (stored s c k q) own ≡ SlotWord t p
  role_stored = slot_is s.geometry (stored s c k q) (sound s (stored s c k q) whole.0) t p (table_stored t (omega arith) (omega arith)) is_place

  judged_stored : judged_role s.geometry (stored s c k q) own ≡ SlotWord t p
  judged_stored = judged_is s.geometry (stored s c k q) (sound s (stored s c k q) whole.0) own ∙ role_stored

  empty_stored : (r : ℕ) → IsPlace s.geometry r → word_at s.geometry (stored s c k q) (slot_at t r) ≡ 0
  empty_stored r h = word_stored (slot_at t r) (omega arith) (slot_inside r h) ∙ opening_slot s.geometry (hash s q.key % 2 ^ s.geometry.first_depth) r index_below h.0 h.1

  -- the block's slot words
  is_slot : (m : Mark) → IsSlot (record { mark = m; fp = print_of s q.key; len = n; at = base s.geometry k })
  is_slot m =
      let from = base_low s.geometry k in
      let some = first_free_low s.geometry in
      let ends = node_ends s.geometry k low in
      let within = s.geometry.within in
      let most = packed_most q pair in
      record {
        low = omega (arith, from, some);
        high = omega (arith, room, ends, within);
        print = div_below (hash s q.key) (2 ^ 56) (2 ^ 8) (omega arith) (omega (arith, small));
        words = omega (arith, most);
      }

  says : (m : Mark) → content (word_of m b) ≡ Full m b
  says m = content_word (record { mark = m; fp = print_of s q.key; len = n; at = base s.geometry k }) (is_slot m)

  packs_stored : pair_at s.geometry (stored s c k q) b ≡ Some q
  packs_stored =
      let ends = node_ends s.geometry k low in
      cond-true _ _ _ (le-leb (base s.geometry k + n) s.geometry.words (omega (arith, room, ends)))
      ∙ ap unpacked (stores_read s.geometry c (base s.geometry k) (packed q.key q.value) (take_first s.geometry c k n ∷ [])) ∙ unpacked-packed q pair

  plain_stored : header_in s.geometry (stored s c k q) t ≡ PlainAt s.geometry.first_depth
  plain_stored = ap header (word_stored (header_at t) (omega arith) (omega arith)) ∙ opening_head s.geometry t first_here

  -- the place
  place_kind : kind s.geometry (stored s c k q) (on_slot c own 0 (word_of Pending b)) ≡ Some Place
  place_kind = ap (kind_of_role s.geometry (stored s c k q) (on_slot c own 0 (word_of Pending b))) judged_stored ∙ (λ i. slot_kind (content-0 i) (says Pending i))

  within : own < s.geometry.words
  within = let ends = (first_in_words s.geometry t t (in_first t (omega arith) (omega arith))).1 in let inside = slot_inside p is_place in omega (arith, ends, inside)

  place_meets : Meets s (stored s c k q) (on_slot c own 0 (word_of Pending b))
  place_meets = record {
    within = within;
    stands = empty_stored p is_place;
    row = subst (λ r. Row s (stored s c k q) (on_slot c own 0 (word_of Pending b)) r (kind s.geometry (stored s c k q) (on_slot c own 0 (word_of Pending b)))) (sym judged_stored)
        (subst (λ o. Row s (stored s c k q) (on_slot c own 0 (word_of Pending b)) (SlotWord t p) o) (sym place_kind) (record {
          body = b;
          pair = q;
          word = says Pending;
          slot = record { candidate = candidate; chain = starts };
          filling = λ f. absurd (subst IsFilling plain_stored f);
          fresh = record {
            packs = packs_stored;
            print = refl;
            unpublished = λ a from to. whole.1.published a;
            taken = λ a from to. whole.1.taken a from to;
          };
        }));
  }

  place_legal : Legal s (placed_in s c k q p)
  place_legal = (whole.0, place_meets)

  -- the words of the table that are not the slot are still those of the opening
  word_placed : (a : ℕ) → t ≤ a → a < t + table_words s.geometry → a ≢ own → word_at s.geometry (placed_in s c k q p) a ≡ opening_word s.geometry a
  word_placed a from to other = word_kept s.geometry (stored s c k q) (on_slot c own 0 (word_of Pending b)) a other ∙ word_stored a from to

  packs_later_on : (past : Past) (e : Entry) → e.at ≡ own → pair_at s.geometry past b ≡ Some q → pair_at s.geometry (e ∷ past) b ≡ Some q
  packs_later_on past e at packs =
      let under = below_base in
      let inside = slot_inside p is_place in
      ap (λ (ws : List ℕ). cond (nat_le (b.at + b.length) s.geometry.words) (unpacked ws) None)
      (words_kept s.geometry past e b.at b.length (λ x from to. word_kept s.geometry past e x (λ same. omega (arith, under, inside, from, same, at)))) ∙ packs

  role_placed : role s.geometry (placed_in s c k q p) own ≡ SlotWord t p
  role_placed = role_stays s.geometry (stored s c k q) (on_slot c own 0 (word_of Pending b)) own t (table_stored own (omega arith) (slot_inside p is_place)) ∙ role_stored

  judged_placed : judged_role s.geometry (placed_in s c k q p) own ≡ SlotWord t p
  judged_placed = judged_is s.geometry (placed_in s c k q p) (sound s (placed_in s c k q p) place_legal) own ∙ role_placed

  commit_kind : kind s.geometry (placed_in s c k q p) (on_slot c own (word_of Pending b) (word_of Live b)) ≡ Some Commit
  commit_kind =
      ap (kind_of_role s.geometry (placed_in s c k q p) (on_slot c own (word_of Pending b) (word_of Live b))) judged_placed
      ∙ (λ i. slot_kind (says Pending i) (says Live i)) ∙ ap (λ f. only_if f Commit) (same_itself b)

  -- the sweep reads every other candidate at the Place, and nothing stands there
  nothing_there : (r : ℕ) → IsIn r (places s q.key) → slot_at t r ≢ own → IsMiss s q.key (Some own) None t (record { place = r; at = placed_in s c k q p })
  nothing_there r among other =
      let empty = word_kept s.geometry (stored s c k q) (on_slot c own 0 (word_of Pending b)) (slot_at t r) other ∙ empty_stored r (candidate_place s q.key r among) in
      let none : place_in s.geometry (placed_in s c k q p) t r ≡ Empty = ap content empty ∙ content-0 in
      record {
        live = λ body pr w e. empty_full _ _ (sym none ∙ w.stands);
        copied = λ body pr w e a. a;
        pending = λ a is body pr w e. empty_full _ _ (sym none ∙ w.stands);
      }
    where
      empty_full : (m : Mark) (body : Body) → Empty ≡ Full m body → ⊥
      empty_full m body e = cc

  -- the headers are those of the opening
  plain_placed : header_in s.geometry (placed_in s c k q p) t ≡ PlainAt s.geometry.first_depth
  plain_placed = ap header (word_placed (header_at t) (omega arith) (omega arith) (λ e. omega (arith, e))) ∙ opening_head s.geometry t first_here

  main_below : main_of s q.key < 2 * s.geometry.groups
  main_below = let some = some_groups s.geometry in first_below s.geometry.groups (hash s q.key) (omega (arith, some))

  key_header_placed : key_header s (placed_in s c k q p) t q.key ≡ PlainAt s.geometry.first_depth
  key_header_placed =
      ap header (word_placed (bucket_header_at t (main_of s q.key)) (omega arith) (bucket_inside (main_of s q.key) main_below) apart)
      ∙ opening_head_bucket s.geometry t first_here (main_of s q.key) main_below
    where
      bucket_inside : (m : ℕ) → m < 2 * s.geometry.groups → bucket_header_at t m < t + table_words s.geometry
      bucket_inside m h = omega arith

      bucket_slot : BucketWord t (main_of s q.key) ≡ SlotWord t p → ⊥
      bucket_slot e = cc

      apart : bucket_header_at t (main_of s q.key) ≢ own
      apart e =
          let bucket = bucket_is s.geometry (stored s c k q) (sound s (stored s c k q) whole.0) t (table_stored t (omega arith) (omega arith)) (main_of s q.key) main_below in
          bucket_slot (sym bucket ∙ ap (role s.geometry (stored s c k q)) e ∙ role_stored)

  birth_placed : (birth_in s.geometry (placed_in s c k q p) t).depth ≡ s.geometry.first_depth
  birth_placed = ap (λ w. (birth w).depth) (word_placed t (omega arith) (omega arith) (λ e. omega (arith, e))) ∙ opening_birth_depth s.geometry t first_here

  -- so the key stays
  key_stays : Stays s (placed_in s c k q p) t q.key (key_header s (placed_in s c k q p) t q.key)
  key_stays i exits gone =
      let leaves = exit-some (hash s q.key) s.geometry.first_depth i (subst (λ d. exit_level (hash s q.key) d ≡ Some i) birth_placed exits) in
      let from = leaves.from in
      let left : i < s.geometry.first_depth = subst (λ h. IsGone h i) key_header_placed gone in
      omega (arith, from, left)

  swept : Swept s (placed_in s c k q p) (placed_in s c k q p) q.key own
  swept = record {
    prev = None;
    table = t;
    since = placed_in s c k q p;
    passing = begins t (placed_in s c k q p) here starts (λ f. subst IsFilling plain_placed f);
    seen = read_at (placed_in s c k q p) (read_places s q.key (Some own) t);
    end = placed_in s c k q p;
    misses = record {
      stand = at_once (placed_in s c k q p) (read_places s q.key (Some own) t);
      whole = places_read (placed_in s c k q p) (read_places s q.key (Some own) t);
      miss = all_miss s q.key own t (placed_in s c k q p) (places s q.key) nothing_there;
    };
    up_to = here;
    stays = key_stays;
    has_own = table_stays s.geometry (stored s c k q) (on_slot c own 0 (word_of Pending b)) own t (table_stored own (omega arith) (slot_inside p is_place));
  }

  -- the commit
  packs_placed : pair_at s.geometry (placed_in s c k q p) b ≡ Some q
  packs_placed = packs_later_on (stored s c k q) (on_slot c own 0 (word_of Pending b)) refl packs_stored

  commit_meets : Meets s (placed_in s c k q p) (on_slot c own (word_of Pending b) (word_of Live b))
  commit_meets = record {
    within = within;
    stands = word_put s.geometry (stored s c k q) (on_slot c own 0 (word_of Pending b)) own refl;
    row = subst (λ r. Row s (placed_in s c k q p) (on_slot c own (word_of Pending b) (word_of Live b)) r (kind s.geometry (placed_in s c k q p) (on_slot c own (word_of Pending b) (word_of Live b)))) (sym judged_placed)
        (subst (λ o. Row s (placed_in s c k q p) (on_slot c own (word_of Pending b) (word_of Live b)) (SlotWord t p) o) (sym commit_kind) (record {
          body = b;
          pair = q;
          word = says Live;
          packs = packs_placed;
          swept = record {
            placed = on_slot c own 0 (word_of Pending b);
            before = stored s c k q;
            kept = here;
            is_place = place_kind;
            slot = refl;
            word = refl;
            swept = swept;
            client = refl;
          };
        }));
  }

  insert_legal : Legal s (first_insert s c k q p)
  insert_legal = (place_legal, commit_meets)

  -- and the slot is the holder
  insert_held : Holder s (first_insert s c k q p) q.key t p b q
  insert_held =
      live t p b q
      (record {
        stands = ap content (word_put s.geometry (placed_in s c k q p) (on_slot c own (word_of Pending b) (word_of Live b)) own refl) ∙ says Live;
        packs = packs_later_on (placed_in s c k q p) (on_slot c own (word_of Pending b) (word_of Live b)) refl packs_placed;
      })
      refl candidate starts

-- a first insert is a legal log
pub insert_is_legal : InsertIsLegal
insert_is_legal s c k q p low pair small candidate room = (insert_legal s c k q p low pair small candidate room, insert_held s c k q p low pair small candidate room)
