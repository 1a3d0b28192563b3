-- A pass goes over positions in order, and in a table that has shown a key gone a sweep for it has no end.
use Rattle.std.specs.Prelude.{◌≡◌, ℕ, ◌<◌, ◌≤◌, List, [], ◌∷◌, Option, Some}
use Rattle.std.proofs.Common.{sym, ◌∙◌, ap, subst, arith}
use Rattle.slot_word.specs.declared.births.Birth.{Birth}
use Rattle.bucket_group.specs.ExitLevel.{exit_level}
use Rattle.bucket_group.proofs.CandidateLaws.{first_below}
use Rattle.node_words.specs.Addresses.{slot_at}
use Rattle.node_words.proofs.Sizes.{some_groups}
use Rattle.verb_log.specs.Decoded.{Header, PlainAt, SplittingAt, FillingAt, NoHeader}
use Rattle.verb_log.specs.Tables.{Past, Before, table_of}
use Rattle.verb_log.proofs.Positions.{Before-trans}
use Rattle.race_laws.specs.Setting.{Setting, hash, main_of}
use Rattle.race_laws.specs.Standing.{IsTable, header_in, key_header, IsGone, Exits, Stays}
use Rattle.race_laws.specs.Splits.{IsOpen}
use Rattle.race_laws.specs.Looks.{Passing, begins, goes_on, InOrder, Between, Reading, Searched, Swept}
use Rattle.race_laws.specs.Rows.{IsPlace}
use Rattle.race_laws.specs.Legal.{Legal}
use Rattle.race_laws.proofs.Positions.{legal_before}
use Rattle.race_laws.proofs.SoundStep.{sound}
use Rattle.race_laws.proofs.Covers.{table_before}
use Rattle.race_laws.proofs.Slots.{slot_is, slot_place_of, some_same}
use Rattle.race_laws.proofs.Frames.{birth_before}
use Rattle.race_laws.proofs.Finality.{gone_before}
use Rattle.race_laws.proofs.Opening.{splits}

-- the words of a whole pass stand in order
pub in_order_span : (from : Past) (seen : List Reading) (to : Past) → InOrder from seen to → Before from to
in_order_span from [] to h = h
in_order_span from (r ∷ rs) to h = Before-trans h.0 (in_order_span r.at rs to h.1)

pub between_span : (from : Past) (seen : List Reading) (to : Past) → Between from seen to → Before from to
between_span from [] to h = h
between_span from (r ∷ rs) to h = between_span from rs to h.2

pub open_gone : (h : Header) (d : ℕ) → IsOpen h d → IsGone h d
open_gone (PlainAt e) d x = x
open_gone (SplittingAt e) d x = x
open_gone (FillingAt e) d x = x
open_gone NoHeader d x = absurd x

pub passing_span : (Stand : Past → List Reading → Past → Type 0) → ((from : Past) (seen : List Reading) (to : Past) → Stand from seen to → Before from to) → (s : Setting) (key : List ℕ) (own : Option ℕ) (from : Past) (prev : Option Searched) (t : ℕ) (since : Past) → Passing Stand s key own from prev t since → Before from since
passing_span Stand span s key own from prev t since (begins u at b c f) = b
passing_span Stand span s key own from prev t since (goes_on v u from2 end seen i c k mi ex gone ch n) = Before-trans (passing_span Stand span s key own from v u from2 k) (span from2 seen end mi.stand)

-- a header that shows a key gone does so in its key's header at each later position
pub key_gone : (s : Setting) {p q : Past} → Before p q → Legal s q → (t i : ℕ) (key : List ℕ) → IsTable s.geometry p t → IsGone (header_in s.geometry p t) i → IsGone (key_header s q t key) i
key_gone s b l t i key h x =
    (splits s _ l).heads t (main_of s key) i (table_before s.geometry b t t h) (first_below s.geometry.groups (hash s key) (positive (some_groups s.geometry))) (gone_before s b l t i h x)
  where
    positive : 1 ≤ s.geometry.groups → 0 < s.geometry.groups
    positive h = omega arith

-- the exit level in a table is the same at every position
pub exits_before : (s : Setting) {p q : Past} → Before p q → Legal s q → (t i : ℕ) (key : List ℕ) → IsTable s.geometry p t → Exits s q t key i → Exits s p t key i
exits_before s b l t i key h x = ap (λ (v : Birth). exit_level (hash s key) v.depth) (sym (birth_before s b l t h)) ∙ x

pub exits_later : (s : Setting) {p q : Past} → Before p q → Legal s q → (t i : ℕ) (key : List ℕ) → IsTable s.geometry p t → Exits s p t key i → Exits s q t key i
exits_later s b l t i key h x = ap (λ (v : Birth). exit_level (hash s key) v.depth) (birth_before s b l t h) ∙ x

-- a sweep of a slot whose table showed the key gone at its start, or before, has no end
pub swept_gone : (s : Setting) {at from log : Past} → Before at from → Legal s log → (t p i : ℕ) (key : List ℕ) → IsTable s.geometry at t → IsPlace s.geometry p → Exits s at t key i → IsGone (header_in s.geometry at t) i → Swept s log from key (slot_at t p) → ⊥
swept_gone s {at = at} {from = from} a l t p i key h k x gone w =
    let span = Before-trans a (Before-trans (passing_span InOrder in_order_span s key (Some (slot_at t p)) from w.prev w.table w.since w.passing) (in_order_span w.since w.seen w.end w.misses.stand)) in
    let le = legal_before s w.up_to l in
    let te = table_before s.geometry span t t h in
    let own : table_of s.geometry w.end (slot_at t p) ≡ Some t = (slot_place_of s.geometry w.end (sound s w.end le) (slot_at t p) t p (slot_is s.geometry w.end (sound s w.end le) t p te k)).2 in
    let same : w.table ≡ t = some_same w.table t (table_of s.geometry w.end (slot_at t p)) w.has_own own in
    let stays : Stays s w.end t key (key_header s w.end t key) = subst (λ v. Stays s w.end v key (key_header s w.end v key)) same w.stays in
    stays i (exits_later s span le t i key h x) (key_gone s span le t i key h gone)
