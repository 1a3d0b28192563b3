-- What is known of a block that a look found held: kept by every legal entry.
use Rattle.std.specs.Prelude.{◌≡◌, ℕ, true, List, ◌∷◌, Some, refl}
use Rattle.std.proofs.Common.{◌∙◌, subst}
use Rattle.slot_word.specs.declared.slots.Mark.{Mark}
use Rattle.slot_word.specs.declared.slots.Mark.TheVariants.{Live, Copied}
use Rattle.kv_block.specs.Packing.{Pair}
use Rattle.node_words.specs.Roles.{SlotWord}
use Rattle.verb_log.specs.declared.entry.Entry.{Entry}
use Rattle.verb_log.specs.Decoded.{Body, Full, content}
use Rattle.verb_log.specs.Tables.{Past, Before, here, pair_at, role, publishes}
use Rattle.race_laws.specs.Setting.{Setting}
use Rattle.race_laws.specs.Standing.{IsTable, place_in, Word}
use Rattle.race_laws.specs.Chains.{Holder, live}
use Rattle.race_laws.specs.Rows.{IsPlace}
use Rattle.race_laws.specs.Legal.{Legal}
use Rattle.race_laws.specs.Named.{Named}
use Rattle.race_laws.proofs.SoundStep.{sound, packs_later, named_at}
use Rattle.race_laws.proofs.Covers.{covered, table_before}
use Rattle.race_laws.proofs.Slots.{standing_named}
use Rattle.race_laws.proofs.Candidates.{word_candidate}
use Rattle.race_laws.proofs.Homes.{Home, Stands, as_live, as_copy}
use Rattle.race_laws.proofs.Presence.{holder_home}
use Rattle.log_facts.specs.Mine.{Mine}
use Rattle.log_facts.proofs.Mine.{mine_own}

-- what was held: a block of the key, in a slot of a table
pub record Known (s : Setting) (key : List ℕ) (t p : ℕ) (b : Body) (pr : Pair) (q : Past) : Type 0 where
  pub table : IsTable s.geometry q t
  pub place : IsPlace s.geometry p
  pub named : Named s.geometry q b
  pub packs : pair_at s.geometry q b ≡ Some pr
  pub same_key : pr.key ≡ key

pub known_before : (s : Setting) (key : List ℕ) (t p : ℕ) (b : Body) (pr : Pair) {x y : Past} → Before x y → Legal s y → Known s key t p b pr x → Known s key t p b pr y
known_before s key t p b pr bf l k = record {
  table = table_before s.geometry bf t t k.table;
  place = k.place;
  named = named_at s bf l b k.named;
  packs = packs_later s bf l b k.named ∙ k.packs;
  same_key = k.same_key;
}

pub holder_known : (s : Setting) (q : Past) → Legal s q → (key : List ℕ) (t p : ℕ) (b : Body) (pr : Pair) → Holder s q key t p b pr → Known s key t p b pr q
holder_known s q l key t p b pr ho =
    let hm = holder_home s q l key t p b pr ho in
    record { table = hm.table; place = hm.place; named = by hm hm.stands; packs = hm.packs; same_key = hm.same_key }
  where
    by : Home s q key t p b pr → Stands s.geometry q t p b → Named s.geometry q b
    by hm (as_live w) = standing_named s.geometry q (sound s q l) t p Live b hm.table hm.place w
    by hm (as_copy w m) = standing_named s.geometry q (sound s q l) t p Copied b hm.table hm.place w

-- its live word makes it the holder
pub live_holder : (s : Setting) (q : Past) → Legal s q → (key : List ℕ) (t p : ℕ) (b : Body) (pr : Pair) → Known s key t p b pr q → place_in s.geometry q t p ≡ Full Live b → Holder s q key t p b pr
live_holder s q l key t p b pr k st =
    let w : Word s.geometry q Live t p b pr = record { stands = st; packs = k.packs } in
    let seat = word_candidate s q l q here t p Live b pr k.table k.place w in
    subst (λ v. Holder s q v t p b pr) k.same_key (live t p b pr w refl seat.candidate seat.chain)

-- an entry of one's own on a slot, of a block that is published, leaves one's words
pub own_slot : (s : Setting) (q : Past) (e : Entry) → Legal s (e ∷ q) → (c t p a n : ℕ) (m : Mark) (b : Body) → role s.geometry q e.at ≡ SlotWord t p → content e.new ≡ Full m b → Named s.geometry q b → Mine s.geometry q c a n → Mine s.geometry (e ∷ q) c a n
own_slot s q e l c t p a n m b r nw nm mi = mine_own s q e c a n (λ x h k z.
    let y = covered (content e.new) m b x nw (subst (λ v. publishes s.geometry e v x ≡ true) r z) in
    let pu = nm.published x y.0 y.1 in let hi = mi.hidden x h k in cc) mi
