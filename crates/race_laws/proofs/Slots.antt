-- The slots of sound tables, and the blocks that stand in them.
use Rattle.std.specs.Prelude.{◌≡◌, ℕ, ◌+◌, ◌-◌, ◌*◌, ◌<◌, Option, Some, refl}
use Rattle.std.proofs.Common.{sym, ◌∙◌, ap, arith}
use Rattle.slot_word.specs.declared.slots.Mark.{Mark}
use Rattle.node_words.specs.declared.geometry.Geometry.{Geometry}
use Rattle.node_words.specs.Addresses.{table_words, slot_at}
use Rattle.node_words.specs.Roles.{SlotWord, role_in, offset_role}
use Rattle.node_words.proofs.RoleLemmas.{slot_in, slot_role}
use Rattle.verb_log.specs.Decoded.{Body, Empty, Full, content}
use Rattle.verb_log.specs.Tables.{Past, table_of, role}
use Rattle.race_laws.specs.Standing.{IsTable, place_in}
use Rattle.race_laws.specs.Rows.{IsPlace}
use Rattle.race_laws.specs.Named.{Named}
use Rattle.race_laws.proofs.Sound.{Sound}

-- a slot's place, where its address stands in its table
pub slot_place_of : (g : Geometry) (past : Past) → Sound g past → (a t p : ℕ) → role g past a ≡ SlotWord t p → IsPlace g p × (a ≡ slot_at t p) × (table_of g past a ≡ Some t)
slot_place_of g past so a t p h =
    let x = slot_in g a (table_of g past a) t p h in
    let y = so.tables a t x.0 in
    let off : role_in g a (Some t) ≡ SlotWord t p = ap (role_in g a) (sym x.0) ∙ h in
    let q = x.1 in
    ((omega (arith, below a t p q y.1), x.2), x.1, x.0)
  where
    below : (a t p : ℕ) → a ≡ slot_at t p → a < t + table_words g → p < 24 * g.groups
    below a t p q h = omega arith

-- the slot at a place of a table of the log
pub slot_is : (g : Geometry) (past : Past) → Sound g past → (t p : ℕ) → IsTable g past t → IsPlace g p → role g past (slot_at t p) ≡ SlotWord t p
slot_is g past so t p h k =
    let inside : table_of g past (slot_at t p) ≡ Some t = so.whole t t h (slot_at t p) (omega arith) (low t p k.0) in
    ap (role_in g (slot_at t p)) inside ∙ slot_role g t p k.1
  where
    low : (t p : ℕ) → p < 24 * g.groups → slot_at t p < t + table_words g
    low t p h = omega arith

-- a block that stands in a slot of a table is named
pub standing_named : (g : Geometry) (past : Past) → Sound g past → (t p : ℕ) (m : Mark) (b : Body) → IsTable g past t → IsPlace g p → place_in g past t p ≡ Full m b → Named g past b
standing_named g past so t p m b h k w = so.named (slot_at t p) t p m b (slot_is g past so t p h k) w

-- the word of 0 is an empty slot
pub content-0 : content 0 ≡ Empty
unfolding content
content-0 = refl

pub role_by_offset : (g : Geometry) (a t : ℕ) → role_in g a (Some t) ≡ offset_role t (a - t)
unfolding role_in
role_by_offset g a t = refl

pub full_same : (m n : Mark) (b c : Body) → Full m b ≡ Full n c → b ≡ c
full_same m n b c h = cc

-- the same table at an address
pub some_same : (t u : ℕ) (o : Option ℕ) → o ≡ Some t → o ≡ Some u → t ≡ u
some_same t u o h k = cc
