-- Entries that use no lock, by the role of their word; and what entries beside keep, the entries of others keep.
use Rattle.std.specs.Prelude.{◌≡◌, ℕ, ◌*◌, ◌<◌, Bool, true, false, not, ◌&&◌, nat_lt, refl}
use Rattle.std.proofs.Common.{◌∙◌, ap}
use Rattle.node_words.specs.Addresses.{node_at, header_at, slot_at, bucket_header_at}
use Rattle.node_words.specs.Roles.{HeapWord}
use Rattle.verb_log.specs.declared.kind.Kind.{Kind}
use Rattle.verb_log.specs.declared.kind.Kind.TheVariants.{Take, Store}
use Rattle.verb_log.specs.Decoded.{Content, content, Header, header}
use Rattle.verb_log.specs.Tables.{Past, word_at, role, is_taken, is_published}
use Rattle.verb_log.specs.Kinds.{kind_of_role, only_if, slot_kind, header_kind, bucket_kind}
use Rattle.race_laws.specs.Setting.{Setting}
use Rattle.race_laws.specs.Standing.{IsTable, header_in, bucket_in, place_in}
use Rattle.race_laws.specs.Rows.{IsPlace}
use Rattle.race_laws.specs.Legal.{Legal}
use Rattle.race_laws.proofs.Sound.{judged_is, next_is}
use Rattle.race_laws.proofs.SoundStep.{sound}
use Rattle.race_laws.proofs.Slots.{slot_is}
use Rattle.race_laws.proofs.Frames.{header_is, bucket_is}
use Rattle.log_facts.specs.Since.{change_in, Since, same, more}
use Rattle.log_facts.specs.Beside.{by_lock, uses_lock, Beside, other, mild, Firm}

pub if_mild : (x : Bool) (k : Kind) → by_lock k ≡ false → uses_lock (only_if x k) ≡ false
if_mild true k h = h
if_mild false k h = refl

module _ (s : Setting) (c : ℕ) (q : Past) (l : Legal s q) where
  pub slot_mild : (t p w : ℕ) (o n : Content) → IsTable s.geometry q t → IsPlace s.geometry p → place_in s.geometry q t p ≡ o → content w ≡ n → uses_lock (slot_kind o n) ≡ false → Beside s c q (change_in s.geometry c q (slot_at t p) w)
  slot_mild t p w o n h pl po cw f = mild (ap uses_lock (ap (kind_of_role s.geometry q (change_in s.geometry c q (slot_at t p) w)) (judged_is s.geometry q (sound s q l) (slot_at t p) ∙ slot_is s.geometry q (sound s q l) t p h pl) ∙ ap (λ v. slot_kind v (content w)) po ∙ ap (slot_kind o) cw) ∙ f)

  pub header_mild : (t w : ℕ) (o n : Header) → IsTable s.geometry q t → header_in s.geometry q t ≡ o → header w ≡ n → uses_lock (header_kind o n) ≡ false → Beside s c q (change_in s.geometry c q (header_at t) w)
  header_mild t w o n h po cw f = mild (ap uses_lock (ap (kind_of_role s.geometry q (change_in s.geometry c q (header_at t) w)) (judged_is s.geometry q (sound s q l) (header_at t) ∙ header_is s.geometry q (sound s q l) t h) ∙ ap (λ v. header_kind v (header w)) po ∙ ap (header_kind o) cw) ∙ f)

  pub bucket_mild : (t m w : ℕ) (o n : Header) → IsTable s.geometry q t → m < 2 * s.geometry.groups → bucket_in s.geometry q t m ≡ o → header w ≡ n → uses_lock (bucket_kind o n) ≡ false → Beside s c q (change_in s.geometry c q (bucket_header_at t m) w)
  bucket_mild t m w o n h k po cw f = mild (ap uses_lock (ap (kind_of_role s.geometry q (change_in s.geometry c q (bucket_header_at t m) w)) (judged_is s.geometry q (sound s q l) (bucket_header_at t m) ∙ bucket_is s.geometry q (sound s q l) t h m k) ∙ ap (λ v. bucket_kind v (header w)) po ∙ ap (bucket_kind o) cw) ∙ f)

  pub take_mild : (k w : ℕ) → k < s.geometry.nodes → Beside s c q (change_in s.geometry c q (node_at s.geometry k) w)
  take_mild k w low = mild (ap uses_lock (ap (kind_of_role s.geometry q (change_in s.geometry c q (node_at s.geometry k) w)) (judged_is s.geometry q (sound s q l) (node_at s.geometry k) ∙ next_is s.geometry q (sound s q l) k low)) ∙ if_mild (nat_lt (word_at s.geometry q (node_at s.geometry k)) w) Take refl)

  pub store_mild : (x w : ℕ) → role s.geometry q x ≡ HeapWord → Beside s c q (change_in s.geometry c q x w)
  store_mild x w h = mild (ap uses_lock (ap (kind_of_role s.geometry q (change_in s.geometry c q x w)) (judged_is s.geometry q (sound s q l) x ∙ h)) ∙ if_mild (is_taken s.geometry q x && not (is_published s.geometry q x)) Store refl)

-- a fact that entries beside keep is kept by others
module _ (s : Setting) (c : ℕ) (P : Past → Type 0) (f : Firm s c P) where
  pub firm_on : {p q : Past} → Since c p q → Legal s q → P p → P q
  firm_on same l h = h
  firm_on (more {q = q} e b o) l h = f q e l (other o) (firm_on b l.0 h)
