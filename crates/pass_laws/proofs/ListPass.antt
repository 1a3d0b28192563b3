-- The pass once more, over lists of candidates and of the words read there, in the form in which its legality is proved. It does
-- the same acts as the text (proofs/SamePass).
use Rattle.std.specs.Prelude.{ℕ, zero, suc, ◌+◌, Bool, false, cond, ◌&&◌, ◌||◌, nat_lt, nat_le, ◌==◌, List, [], ◌∷◌, ◌++◌, filter, Option, Some, None}
use Rattle.slot_word.specs.declared.slots.Mark.{Mark}
use Rattle.slot_word.specs.declared.slots.Mark.TheVariants.{Live, Pending, Copied, Moved}
use Rattle.kv_block.specs.Reading.{has_key, block_value}
use Rattle.bucket_group.specs.ExitLevel.{exit_level}
use Rattle.bucket_group.specs.Buckets.{candidates, first_bucket, fingerprint_of}
use Rattle.node_words.specs.declared.geometry.Geometry.{Geometry}
use Rattle.node_words.specs.Addresses.{table_words, first_free, birth_at, child_at, slot_at, bucket_header_at}
use Rattle.verb_log.specs.declared.entry.Verb.TheVariants.{Read, Swap}
use Rattle.verb_log.specs.Decoded.{Body, Content, Empty, Full, NoSlot, content, Header, PlainAt, SplittingAt, FillingAt, NoHeader, header, birth}
use Rattle.verb_log.specs.Kinds.{same_body}
use Rattle.verbs.specs.Programs.{do_verb, Prog, ret, ask}
use Rattle.race_laws.specs.Looks.{is_other}
use Rattle.pass_text.specs.Words.{address_of}
use Rattle.pass_text.specs.Pass.{read_words}

-- a key with its hash
pub record Aim : Type 0 where
  pub key : List ℕ
  pub hash : ℕ

-- the modes; a sweep has the table and the place of the call's own slot
pub data Mode : Type 0 where
  look : Mode
  sweep : ℕ → ℕ → Mode
  walk : Mode

-- a slot's place, and the word that was read there
pub record Shown : Type 0 where
  pub place : ℕ
  pub word : ℕ

-- a table with the words that were read there
pub record Seen : Type 0 where
  pub table : ℕ
  pub shown : List Shown

-- how a pass ends: the key is held by the slot at this place, with this word and this value; no candidate has it, this is the
-- table searched before the last, these are the last table's words and this the last header; the key does not stay in the table
-- of the own slot; the lost swaps are spent
pub data How : Type 0 where
  held : ℕ → ℕ → List ℕ → How
  clear : Option ℕ → List Shown → Header → How
  gone : Header → How
  spent : How

-- where it ends, and how many swaps may still be lost
pub record Ended : Type 0 where
  pub table : ℕ
  pub how : How
  pub left : ℕ

-- by the words of a block: of this key, and the value that they tell; or not
abbrev pub if_block : {A : Type 0} → List ℕ → (List ℕ → Prog A) → Prog A → List ℕ → Prog A
if_block key hit miss ws = cond (has_key ws key) (hit (block_value ws)) miss

-- a block is read: is its key this one?
abbrev pub read_block : {A : Type 0} → List ℕ → Body → (List ℕ → Prog A) → Prog A → Prog A
read_block key b hit miss = read_words b.at b.length b.at [] (if_block key hit miss)

-- the table before showed the moved word of the same block at the same place
abbrev pub is_moved : Body → Content → Bool
is_moved b (Full Moved c) = same_body c b
is_moved b _ = false

abbrev pub shows_moved : List Shown → ℕ → Body → Bool
shows_moved [] p b = false
shows_moved (x ∷ shown) p b = ((x.place == p) && is_moved b (content x.word)) || shows_moved shown p b

abbrev pub answers : Option Seen → ℕ → Body → Bool
answers None p b = false
answers (Some x) p b = shows_moved x.shown p b

abbrev pub table_before : Option Seen → Option ℕ
table_before None = None
table_before (Some x) = Some x.table

-- the own slot's address, which a sweep leaves out, and whether a table has it
abbrev pub own_of : Mode → Option ℕ
own_of look = None
own_of (sweep t p) = Some (slot_at t p)
own_of walk = None

abbrev pub has_own : Geometry → Mode → ℕ → Bool
has_own g look t = false
has_own g (sweep u p) t = nat_le t (slot_at u p) && nat_lt (slot_at u p) (t + table_words g)
has_own g walk t = false

-- the exit level, where by this header the key is leaving or has left
abbrev pub shows_gone : Header → ℕ → Bool
shows_gone (PlainAt d) i = nat_lt i d
shows_gone (SplittingAt d) i = nat_le i d
shows_gone (FillingAt d) i = nat_lt i d
shows_gone NoHeader i = false

abbrev pub exit_by : Header → Option ℕ → Option ℕ
exit_by h None = None
exit_by h (Some i) = cond (shows_gone h i) (Some i) None

-- the places that are read in a table
abbrev pub places_for : Geometry → ℕ → Mode → ℕ → List ℕ
places_for g hash look t = filter (is_other None t) (candidates g.groups hash)
places_for g hash (sweep u p) t = filter (is_other (Some (slot_at u p)) t) (candidates g.groups hash)
places_for g hash walk t = []

module _ (g : Geometry) (aim : Aim) (mode : Mode) where
  -- a pending word: in a look nothing; in a sweep its block is read, and with the key it is dropped
  abbrev pub judge_pending : Mode → ℕ → ℕ → Body → ℕ → Prog Ended → Prog Ended → (ℕ → Prog Ended) → Prog Ended
  judge_pending (sweep u r) t p b word skip dropped lost =
      read_block aim.key b (λ q. ask (do_verb None (Swap (slot_at t p) word 0)) (λ found. cond (found == word) dropped (lost found))) skip
  judge_pending look t p b word skip dropped lost = skip
  judge_pending walk t p b word skip dropped lost = skip

  -- by its mark: live, or a copy that answers: its block is read, and with the key the pass ends as held
  abbrev pub judge_mark : Option Seen → ℕ → ℕ → ℕ → ℕ → Mark → Body → Prog Ended → Prog Ended → (ℕ → Prog Ended) → Prog Ended
  judge_mark before t p left word Live b skip dropped lost = read_block aim.key b (λ q. ret (record { table = t; how = held p word q; left = left })) skip
  judge_mark before t p left word Copied b skip dropped lost =
      cond (answers before p b) (read_block aim.key b (λ q. ret (record { table = t; how = held p word q; left = left })) skip) skip
  judge_mark before t p left word Moved b skip dropped lost = skip
  judge_mark before t p left word Pending b skip dropped lost = judge_pending mode t p b word skip dropped lost

  -- nothing is done where the word is 0 or the fingerprint differs, nor where it tells more words than a block has
  abbrev pub judge_content : Option Seen → ℕ → ℕ → ℕ → ℕ → Content → Prog Ended → Prog Ended → (ℕ → Prog Ended) → Prog Ended
  judge_content before t p left word Empty skip dropped lost = skip
  judge_content before t p left word NoSlot skip dropped lost = skip
  judge_content before t p left word (Full m b) skip dropped lost = cond ((b.print == fingerprint_of aim.hash) && nat_le b.length 137) (judge_mark before t p left word m b skip dropped lost) skip

  -- a word is judged; the word that a lost drop found is judged in its place
  abbrev pub judge : Option Seen → ℕ → ℕ → ℕ → ℕ → (ℕ → ℕ → Prog Ended) → Prog Ended
  judge before t p zero word next = ret (record { table = t; how = spent; left = 0 })
  judge before t p (suc left) word next = judge_content before t p (suc left) word (content word) (next word (suc left)) (next 0 (suc left)) (λ found. judge before t p left found next)

  -- the candidates of a table in order
  abbrev pub scan : Option Seen → ℕ → List ℕ → List Shown → ℕ → (List Shown → ℕ → Prog Ended) → Prog Ended
  scan before t [] seen left next = next seen left
  scan before t (p ∷ places) seen left next =
      ask (do_verb None (Read (slot_at t p))) (λ word. judge before t p left word (λ shown left2. scan before t places (seen ++ record { place = p; word = shown } ∷ []) left2 next))

  -- by the key's header: the key stays, and the pass ends; it does not in the table of the own slot; or the pass goes on below
  abbrev pub by_header : Option Seen → ℕ → List Shown → ℕ → Header → Option ℕ → (ℕ → ℕ → Prog Ended) → Prog Ended
  by_header before t seen left h None below = ret (record { table = t; how = clear (table_before before) seen h; left = left })
  by_header before t seen left h (Some i) below =
      cond (has_own g mode t) (ret (record { table = t; how = gone h; left = left })) (ask (do_verb None (Read (child_at t i))) (λ child. below (address_of child) (i + 1)))

  -- a table with this birth depth is searched, and at most n - 1 after it
  abbrev pub search_table : ℕ → Option Seen → ℕ → ℕ → ℕ → Prog Ended
  search_table zero before t born left = ret (record { table = t; how = clear (table_before before) [] NoHeader; left = left })
  search_table (suc n) before t born left =
      scan before t (places_for g aim.hash mode t) [] left
      (λ seen left2. ask (do_verb None (Read (bucket_header_at t (first_bucket g.groups aim.hash))))
      (λ word. by_header before t seen left2 (header word) (exit_by (header word) (exit_level aim.hash born)) (λ child born2. search_table n (Some (record { table = t; shown = seen })) child born2 left2)))

  -- the birth depth of a table at which the search begins
  abbrev pub search_from : ℕ → ℕ → Prog Ended
  search_from t left =
      cond (nat_lt t (first_free g)) (search_table (suc g.max_depth) None t g.first_depth left)
      (ask (do_verb None (Read (birth_at t))) (λ word. search_table (suc g.max_depth) None t (birth word).depth left))

  -- a table that is filling: the search begins at its parent
  abbrev pub by_start : ℕ → ℕ → Header → Prog Ended
  by_start t left (FillingAt d) = ask (do_verb None (Read (birth_at t))) (λ word. search_from (birth word).parent left)
  by_start t left (PlainAt d) = search_from t left
  by_start t left (SplittingAt d) = search_from t left
  by_start t left NoHeader = search_from t left
