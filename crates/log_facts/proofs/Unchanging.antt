-- Entries that change nothing in the map, by what is known of their kind. On every legal log.
use Rattle.std.specs.Prelude.{◌≡◌, ℕ, ◌<◌, Bool, true, false, not, ◌&&◌, ◌==◌, [], Option, Some, None, refl}
use Rattle.std.proofs.Common.{◌∙◌, ap}
use Rattle.node_words.specs.declared.geometry.Geometry.{Geometry}
use Rattle.node_words.specs.Addresses.{child_at}
use Rattle.node_words.specs.Roles.{HeapWord}
use Rattle.verb_log.specs.declared.entry.Entry.{Entry}
use Rattle.verb_log.specs.declared.kind.Kind.{Kind}
use Rattle.verb_log.specs.declared.kind.Kind.TheVariants.{Store, Take, Place, Drop, Commit, Replace, Remove, Lock, Unlock, Link, Begin, Open, Copy, Uncopy, Flip, Settle, Clear, Finish, Close, Ripen, Name, Deepen}
use Rattle.verb_log.specs.Tables.{Past, role, is_address, is_taken, is_published}
use Rattle.verb_log.specs.Kinds.{kind, kind_of_role, only_if}
use Rattle.verb_log.specs.Changes.{changes_by}
use Rattle.race_laws.specs.Setting.{Setting}
use Rattle.race_laws.specs.Standing.{IsTable}
use Rattle.race_laws.specs.Legal.{Legal}
use Rattle.race_laws.proofs.SoundStep.{sound}
use Rattle.race_laws.proofs.Frames.{child_is}
use Rattle.log_facts.specs.Since.{change_in}
use Rattle.log_facts.specs.Entries.{Unchanging, uses_fresh, Modest}
use Rattle.race_laws.proofs.Sound.{judged_is}

-- a modest entry
by_kind : (g : Geometry) (q : Past) (e : Entry) (k : Option Kind) → uses_fresh k ≡ false → changes_by g q e k ≡ []
by_kind g q e None h = refl
by_kind g q e (Some Store) h = cc
by_kind g q e (Some Take) h = refl
by_kind g q e (Some Place) h = cc
by_kind g q e (Some Drop) h = refl
by_kind g q e (Some Commit) h = absurd (cc)
by_kind g q e (Some Replace) h = absurd (cc)
by_kind g q e (Some Remove) h = absurd (cc)
by_kind g q e (Some Lock) h = refl
by_kind g q e (Some Unlock) h = refl
by_kind g q e (Some Link) h = refl
by_kind g q e (Some Begin) h = refl
by_kind g q e (Some Open) h = refl
by_kind g q e (Some Copy) h = refl
by_kind g q e (Some Uncopy) h = refl
by_kind g q e (Some Flip) h = refl
by_kind g q e (Some Settle) h = refl
by_kind g q e (Some Clear) h = refl
by_kind g q e (Some Finish) h = refl
by_kind g q e (Some Close) h = refl
by_kind g q e (Some Ripen) h = refl
by_kind g q e (Some Name) h = refl
by_kind g q e (Some Deepen) h = refl

pub modest_unchanging : (s : Setting) (c : ℕ) (q : Past) (e : Entry) → Modest s q e → Unchanging s c q e
modest_unchanging s c q e h = by_kind s.geometry q e (kind s.geometry q e) h

if_unchanging : (g : Geometry) (q : Past) (e : Entry) (v : Bool) (k : Kind) → changes_by g q e (Some k) ≡ [] → changes_by g q e (only_if v k) ≡ []
if_unchanging g q e true k h = h
if_unchanging g q e false k h = refl

module _ (s : Setting) (c : ℕ) (q : Past) (l : Legal s q) where
  -- a store
  pub store_unchanging : (x w : ℕ) → role s.geometry q x ≡ HeapWord → Unchanging s c q (change_in s.geometry c q x w)
  store_unchanging x w h = ap (λ r. changes_by s.geometry q (change_in s.geometry c q x w) (kind_of_role s.geometry q (change_in s.geometry c q x w) r)) (judged_is s.geometry q (sound s q l) x ∙ h)
      ∙ if_unchanging s.geometry q (change_in s.geometry c q x w) (is_taken s.geometry q x && not (is_published s.geometry q x)) Store refl

  -- a word of a child
  pub child_unchanging : (t i u : ℕ) → IsTable s.geometry q t → i < 16 → Unchanging s c q (change_in s.geometry c q (child_at t i) u)
  child_unchanging t i u h low = ap (λ r. changes_by s.geometry q e (kind_of_role s.geometry q e r)) (judged_is s.geometry q (sound s q l) (child_at t i) ∙ child_is s.geometry q (sound s q l) t h i low)
      ∙ if_unchanging s.geometry q e ((e.old == 0) && is_address s.geometry e.new) Link refl
    where
      e : Entry
      e = change_in s.geometry c q (child_at t i) u
