-- What a Settle, a Remove and a Replace of a key's holder do: each may follow, and changes the map so. On every legal log.
use Rattle.std.specs.Prelude.{◌≡◌, ◌≢◌, ℕ, true, List, [], ◌∷◌, Some, None, refl}
use Rattle.std.proofs.Common.{sym, ◌∙◌, ap, subst, arith}
use Rattle.std.proofs.lemmas.Bool.Decides.{nat_tests}
use Rattle.slot_word.specs.declared.slots.Mark.TheVariants.{Live, Copied, Moved}
use Rattle.slot_word.specs.declared.births.Birth.{Birth}
use Rattle.kv_block.specs.Packing.{Pair, IsPair, packed}
use Rattle.kv_block.proofs.Packed.{packed_least}
use Rattle.kv_block.specs.declared.changes.Change.{Change}
use Rattle.node_words.specs.Addresses.{slot_at}
use Rattle.verb_log.specs.declared.kind.Kind.TheVariants.{Settle, Replace, Remove}
use Rattle.verb_log.specs.Decoded.{Body, Content, Empty, Full, content}
use Rattle.verb_log.specs.Tables.{Past, Before, word_at}
use Rattle.verb_log.specs.Changes.{changes_by, pair_in, set_to, gone}
use Rattle.verb_log.specs.Kinds.{kind, kind_of_role, slot_kind, only_if, same_body, other_block}
use Rattle.race_laws.specs.Setting.{Setting, hash}
use Rattle.race_laws.specs.Standing.{IsTable, birth_in, place_in}
use Rattle.race_laws.specs.Chains.{Holder, live, copied}
use Rattle.race_laws.specs.Rows.{IsPlace}
use Rattle.race_laws.specs.Legal.{Meets, Legal}
use Rattle.race_laws.proofs.Positions.{legal_before}
use Rattle.race_laws.proofs.Sound.{judged_is}
use Rattle.race_laws.proofs.SoundStep.{sound, packs_later}
use Rattle.race_laws.proofs.Covers.{table_before}
use Rattle.race_laws.proofs.Slots.{slot_is, standing_named, content-0}
use Rattle.race_laws.proofs.Frames.{birth_before}
use Rattle.race_laws.proofs.Chain.{chain_table, chain_before}
use Rattle.race_laws.proofs.Pending.{some_words}
use Rattle.race_laws.proofs.Presence.{candidate_place, copy_present, holder_home}
use Rattle.race_laws.proofs.Homes.{parent_of, Home}
use Rattle.log_facts.specs.Since.{change_in}
use Rattle.log_facts.specs.Mine.{Block}
use Rattle.log_facts.specs.SlotWords.{marked}
use Rattle.log_facts.specs.Entries.{Unchanging}
use Rattle.log_facts.specs.Beside.{Beside}
use Rattle.log_facts.proofs.Following.{same_itself, slot_meets}
use Rattle.log_facts.proofs.Mild.{if_mild, slot_mild}
use Rattle.log_facts.proofs.Written.{body, says, block_packs}

-- what held the key holds it as long as its word stands
pub holder_now : (s : Setting) {x y : Past} → Before x y → Legal s y → (key : List ℕ) (t p : ℕ) (b : Body) (pr : Pair) → Holder s x key t p b pr → word_at s.geometry y (slot_at t p) ≡ word_at s.geometry x (slot_at t p) → Holder s y key t p b pr
holder_now s {x = x} bf l key t p b pr (live u r c q w k ca ch) e =
    let lx = legal_before s bf l in
    let tb = chain_table s x lx (hash s key) t ch in
    let nm = standing_named s.geometry x (sound s x lx) t p Live b tb (candidate_place s key p ca) w.stands in
    live t p b pr (record { stands = ap content e ∙ w.stands; packs = packs_later s bf l b nm ∙ w.packs }) k ca (chain_before s bf l (hash s key) t ch)
holder_now s {x = x} {y = y} bf l key t p b pr (copied u r c q w k ca ta tp mo) e =
    let lx = legal_before s bf l in
    let plc = candidate_place s key p ca in
    let nm = standing_named s.geometry x (sound s x lx) t p Copied b ta plc w.stands in
    let pk = packs_later s bf l b nm ∙ w.packs in
    let par = ap (λ (v : Birth). v.parent) (birth_before s bf l t ta) in
    subst (λ v. Holder s y v t p b pr) k (copy_present s bf l (parent_of s.geometry x t) t p b pr tp plc mo (table_before s.geometry bf t t ta) par (ap content e ∙ w.stands) pk)

-- the kind of an entry on a slot, by what stands there
kind_on : (s : Setting) (c : ℕ) (q : Past) → Legal s q → (t p w : ℕ) (o n : Content) → IsTable s.geometry q t → IsPlace s.geometry p → place_in s.geometry q t p ≡ o → content w ≡ n → kind s.geometry q (change_in s.geometry c q (slot_at t p) w) ≡ slot_kind o n
kind_on s c q l t p w o n tb plc po cw =
    ap (kind_of_role s.geometry q (change_in s.geometry c q (slot_at t p) w)) (judged_is s.geometry q (sound s q l) (slot_at t p) ∙ slot_is s.geometry q (sound s q l) t p tb plc)
    ∙ ap (λ v. slot_kind v (content w)) po ∙ ap (slot_kind o) cw

-- the slot holds the key
module _ (s : Setting) (c : ℕ) (q : Past) (l : Legal s q) (key : List ℕ) (t p : ℕ) (b : Body) (pr : Pair) (ho : Holder s q key t p b pr) where
  home : Home s q key t p b pr
  home = holder_home s q l key t p b pr ho

  -- where its word is live a Remove may follow
  module _ (st : place_in s.geometry q t p ≡ Full Live b) where
    pub remove_kind : kind s.geometry q (change_in s.geometry c q (slot_at t p) 0) ≡ Some Remove
    remove_kind = kind_on s c q l t p 0 (Full Live b) Empty home.table home.place st content-0

    pub remove_meets : Meets s q (change_in s.geometry c q (slot_at t p) 0)
    remove_meets = slot_meets s c q l t p 0 (Full Live b) Empty (Some Remove) home.table home.place st content-0 refl
        (record { body = b; pair = pr; holder = subst (λ v. Holder s q v t p b pr) (sym home.same_key) ho })

    -- which takes the key away
    pub remove_change : changes_by s.geometry q (change_in s.geometry c q (slot_at t p) 0) (kind s.geometry q (change_in s.geometry c q (slot_at t p) 0)) ≡ (record { key = key; value = None }) ∷ []
    remove_change =
        ap (changes_by s.geometry q (change_in s.geometry c q (slot_at t p) 0)) remove_kind
        ∙ ap (λ v. gone (pair_in s.geometry q v)) st ∙ ap gone home.packs ∙ ap (λ (v : List ℕ). let x : Change = record { key = v; value = None } in x ∷ []) home.same_key

  -- where its word is a copy a Settle may follow
  module _ (w : ℕ) (st : place_in s.geometry q t p ≡ Full Copied b) (lw : content w ≡ Full Live b) where
    pub settle_kind : kind s.geometry q (change_in s.geometry c q (slot_at t p) w) ≡ Some Settle
    settle_kind = kind_on s c q l t p w (Full Copied b) (Full Live b) home.table home.place st lw ∙ ap (λ v. only_if v Settle) (same_itself b)

    pub settle_meets : Meets s q (change_in s.geometry c q (slot_at t p) w)
    settle_meets = slot_meets s c q l t p w (Full Copied b) (Full Live b) (Some Settle) home.table home.place st lw (ap (λ v. only_if v Settle) (same_itself b)) (record { body = b; word = lw; moved = moved_of ho })
      where
        moved_of : Holder s q key t p b pr → place_in s.geometry q (birth_in s.geometry q t).parent p ≡ Full Moved b
        moved_of (live u r d x wo k ca ch) = let z = sym wo.stands ∙ st in absurd (cc)
        moved_of (copied u r d x wo k ca ta tp mo) = mo

    -- which changes nothing in the map, and uses no lock
    pub settle_quiet : Unchanging s c q (change_in s.geometry c q (slot_at t p) w)
    settle_quiet = ap (changes_by s.geometry q (change_in s.geometry c q (slot_at t p) w)) settle_kind

    pub settle_mild : Beside s c q (change_in s.geometry c q (slot_at t p) w)
    settle_mild = slot_mild s c q l t p w (Full Copied b) (Full Live b) home.table home.place st lw (if_mild (same_body b b) Settle refl)

-- the slot's live word holds the key of the pair, which the client has written as a block at this address
module _ (s : Setting) (c : ℕ) (q : Past) (l : Legal s q) (pair : Pair) (ip : IsPair pair) (at t p : ℕ) (b : Body) (pr : Pair) (ho : Holder s q pair.key t p b pr) (st : place_in s.geometry q t p ≡ Full Live b) (bl : Block s c at (packed pair.key pair.value) q) where
  abbrev new_body : Body
  new_body = body s c at pair ip q l bl

  held_home : Home s q pair.key t p b pr
  held_home = holder_home s q l pair.key t p b pr ho

  -- the old block is published, the new one is not
  apart : b.at ≢ at
  apart same =
      let nm = standing_named s.geometry q (sound s q l) t p Live b held_home.table held_home.place st in
      let some = some_words s.geometry q b nm.pair nm.packs in
      let two = packed_least pair ip in
      let pub_old = nm.published b.at (omega arith) (omega arith) in
      let hid = bl.mine.hidden b.at (omega arith) (omega arith) in
      cc

  other : (x y : Body) → x.at ≢ y.at → other_block x y ≡ true
  other x y n = grind (arith, nat_tests)

  says_live : content (marked Live new_body) ≡ Full Live new_body
  says_live = says s c at pair ip q l bl Live

  is_replace : slot_kind (Full Live b) (Full Live new_body) ≡ Some Replace
  is_replace = ap (λ v. only_if v Replace) (other b new_body apart)

  pub replace_kind : kind s.geometry q (change_in s.geometry c q (slot_at t p) (marked Live new_body)) ≡ Some Replace
  replace_kind = kind_on s c q l t p (marked Live new_body) (Full Live b) (Full Live new_body) held_home.table held_home.place st says_live ∙ is_replace

  -- a Replace by its live word may follow
  pub replace_meets : Meets s q (change_in s.geometry c q (slot_at t p) (marked Live new_body))
  replace_meets = slot_meets s c q l t p (marked Live new_body) (Full Live b) (Full Live new_body) (Some Replace) held_home.table held_home.place st says_live is_replace
      (record {
        body = b;
        pair = pr;
        holder = subst (λ v. Holder s q v t p b pr) (sym held_home.same_key) ho;
        new_body = new_body;
        new_pair = pair;
        word = says_live;
        same_key = sym held_home.same_key;
        fresh = record { packs = block_packs s c at pair ip q l bl; print = refl; unpublished = bl.mine.hidden; taken = bl.mine.taken };
      })

  -- and it sets the key's pair
  pub replace_change : changes_by s.geometry q (change_in s.geometry c q (slot_at t p) (marked Live new_body)) (kind s.geometry q (change_in s.geometry c q (slot_at t p) (marked Live new_body))) ≡ (record { key = pair.key; value = Some pair.value }) ∷ []
  replace_change =
      ap (changes_by s.geometry q (change_in s.geometry c q (slot_at t p) (marked Live new_body))) replace_kind
      ∙ ap (λ v. set_to (pair_in s.geometry q v)) says_live ∙ ap set_to (block_packs s c at pair ip q l bl)
