-- The Commit may follow, and adds the pair.
use Rattle.std.specs.Prelude.{◌≡◌, ℕ, List, [], ◌∷◌, ◌++◌, length, reverse, Some, None}
use Rattle.std.specs.FinMap.{get}
use Rattle.std.proofs.Common.{sym, ◌∙◌, ap, subst}
use Rattle.slot_word.specs.declared.slots.Mark.TheVariants.{Live, Pending}
use Rattle.kv_block.specs.declared.changes.Change.{Change}
use Rattle.kv_block.specs.Packing.{Pair}
use Rattle.map_model.specs.Machine.{map_at}
use Rattle.node_words.specs.Addresses.{slot_at}
use Rattle.node_words.specs.Roles.{SlotWord}
use Rattle.verb_log.specs.declared.entry.Entry.{Entry}
use Rattle.verb_log.specs.declared.kind.Kind.TheVariants.{Commit}
use Rattle.verb_log.specs.Decoded.{Full, content}
use Rattle.verb_log.specs.Tables.{Past, Before, here, word_at, pair_at, role}
use Rattle.verb_log.specs.Kinds.{kind, kind_of_role, slot_kind, only_if}
use Rattle.verb_log.specs.Changes.{changes, changes_by, pair_in, set_to}
use Rattle.verb_log.proofs.InOrder.{reverse_push}
use Rattle.verb_log.proofs.Positions.{Before-trans}
use Rattle.verbs.specs.Logs.{Entries}
use Rattle.race_laws.specs.Setting.{Setting}
use Rattle.race_laws.specs.Standing.{IsTable, place_in}
use Rattle.race_laws.specs.Legal.{Meets, Legal}
use Rattle.race_laws.proofs.Positions.{legal_before}
use Rattle.race_laws.proofs.Covers.{table_before}
use Rattle.race_laws.proofs.SoundStep.{sound, packs_later}
use Rattle.race_laws.proofs.Sound.{judged_is}
use Rattle.race_laws.proofs.Slots.{slot_is, standing_named}
use Rattle.race_laws.proofs.Touch.{word_put}
use Rattle.race_laws.proofs.TheLaws.{commit_law}
use Rattle.log_facts.specs.Since.{change_in}
use Rattle.log_facts.proofs.Following.{slot_meets, same_itself}
use Rattle.log_facts.proofs.Mine.{mine_own}
use Rattle.log_facts.proofs.Passings.{passed_between}
use Rattle.block_taking.specs.declared.taking.Area.{Area}
use Rattle.block_taking.specs.Holdings.{Owns}
use Rattle.op_insert.specs.Text.{Inserting, pending_word, live_word}
use Rattle.op_insert.proofs.PartEnds.{ToCommit}
use Rattle.op_insert.proofs.Placing.{slot_apart}

module _ (s : Setting) (c : ℕ) (i : Inserting) (pair : Pair) (area : Area) (q : Past) (own at : ℕ) (tc : ToCommit s c i pair area q own at) where
  pub commit_table : (z : Past) → Before q z → IsTable s.geometry z tc.table
  commit_table z b = table_before s.geometry (Before-trans tc.kept b) tc.table tc.table tc.is_table

  module _ (z : Past) (l : Legal s z) (b : Before q z) (now : word_at s.geometry z (slot_at tc.table tc.place) ≡ pending_word i at) where
    abbrev e : Entry
    e = change_in s.geometry c z (slot_at tc.table tc.place) (live_word i at)

    kept : Before (tc.placed ∷ tc.before) z
    kept = Before-trans tc.kept b

    lp : Legal s (tc.placed ∷ tc.before)
    lp = legal_before s kept l

    on : role s.geometry z (slot_at tc.table tc.place) ≡ SlotWord tc.table tc.place
    on = slot_is s.geometry z (sound s z l) tc.table tc.place (commit_table z b) tc.is_place

    stands : place_in s.geometry z tc.table tc.place ≡ Full Pending tc.body
    stands = ap content now ∙ tc.pending

    packs : pair_at s.geometry z tc.body ≡ Some pair
    packs =
        let st : place_in s.geometry (tc.placed ∷ tc.before) tc.table tc.place ≡ Full Pending tc.body = ap content (word_put s.geometry tc.before tc.placed (slot_at tc.table tc.place) (sym tc.slot) ∙ tc.word) ∙ tc.pending in
        packs_later s kept l tc.body (standing_named s.geometry (tc.placed ∷ tc.before) (sound s (tc.placed ∷ tc.before) lp) tc.table tc.place Pending tc.body tc.is_table tc.is_place st) ∙ tc.packs

    pub commit_meets : Meets s z (change_in s.geometry c z (slot_at tc.table tc.place) (live_word i at))
    commit_meets = slot_meets s c z l tc.table tc.place (live_word i at) (Full Pending tc.body) (Full Live tc.body) (Some Commit) (commit_table z b) tc.is_place stands tc.live (ap (λ v. only_if v Commit) (same_itself tc.body))
        (record {
          body = tc.body;
          pair = pair;
          word = tc.live;
          packs = packs;
          swept = record { placed = tc.placed; before = tc.before; kept = kept; is_place = tc.placing; slot = tc.slot; word = tc.word ∙ sym now; swept = passed_between s pair.key (Some (slot_at tc.table tc.place)) here b tc.swept; client = tc.client };
        })

    pub commit_kind : kind s.geometry z (change_in s.geometry c z (slot_at tc.table tc.place) (live_word i at)) ≡ Some Commit
    commit_kind = ap (kind_of_role s.geometry z e) (judged_is s.geometry z (sound s z l) (slot_at tc.table tc.place) ∙ on) ∙ ap (λ v. slot_kind v (content (live_word i at))) stands ∙ ap (slot_kind (Full Pending tc.body)) tc.live ∙ ap (λ v. only_if v Commit) (same_itself tc.body)

    pub commit_change : changes s.geometry (change_in s.geometry c z (slot_at tc.table tc.place) (live_word i at) ∷ z) ≡ changes s.geometry z ++ (record { key = pair.key; value = Some pair.value }) ∷ []
    commit_change = ap (λ (v : List Change). changes s.geometry z ++ v) (ap (changes_by s.geometry z e) commit_kind ∙ ap (λ v. set_to (pair_in s.geometry z v)) tc.live ∙ ap set_to packs)

    -- the map has no such key
    pub commit_absent : (m : Entries) → reverse m ≡ z → get (map_at (changes s.geometry z) (length (changes s.geometry z))) pair.key ≡ None
    commit_absent m r =
        subst (λ v. get (map_at (changes s.geometry v) (length (changes s.geometry v))) pair.key ≡ None) r
        (commit_law s m e (subst (Legal s) (ap (λ v. e ∷ v) (sym r) ∙ sym (reverse_push m e)) (l, commit_meets)) (subst (λ v. kind s.geometry v e ≡ Some Commit) (sym r) commit_kind) tc.body pair tc.live (subst (λ v. pair_at s.geometry v tc.body ≡ Some pair) (sym r) packs))

    -- and the area stays the client's
    pub commit_owns : Owns s c area z → Owns s c area (change_in s.geometry c z (slot_at tc.table tc.place) (live_word i at) ∷ z)
    commit_owns ow = mine_own s z e c area.at area.left (slot_apart s z e tc.table tc.place Live tc.body area on tc.live tc.apart) ow
