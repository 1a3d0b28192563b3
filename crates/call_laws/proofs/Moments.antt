-- The map at a moment of a log: changes are only added behind, so it is the map of that moment. On every legal log.
use Rattle.std.specs.Prelude.{◌≡◌, ℕ, ◌≤◌, List, [], ◌∷◌, ◌++◌, length, take, reverse, Some, refl}
use Rattle.std.specs.FinMap as fin
use Rattle.std.proofs.Common.{sym, ◌∙◌, ap, subst, arith, append-nil, append_assoc, length-append}
use Rattle.kv_block.specs.declared.changes.Change.{Change}
use Rattle.kv_block.specs.Packing.{Pair}
use Rattle.map_model.specs.Machine.{map_after, map_at}
use Rattle.node_words.specs.declared.geometry.Geometry.{Geometry}
use Rattle.verb_log.specs.declared.entry.Entry.{Entry}
use Rattle.verb_log.specs.Decoded.{Body}
use Rattle.verb_log.specs.Tables.{Past, Before, here, later}
use Rattle.verb_log.specs.Kinds.{kind}
use Rattle.verb_log.specs.Changes.{changes, changes_by}
use Rattle.verb_log.proofs.Positions.{Before-is, Before-take, Before-prefix, position_all}
use Rattle.race_laws.specs.Setting.{Setting}
use Rattle.race_laws.specs.Chains.{Holder}
use Rattle.race_laws.specs.Looks.{Looked}
use Rattle.race_laws.specs.Laws.{position, LacksBetween}
use Rattle.race_laws.specs.Legal.{Legal}
use Rattle.race_laws.proofs.Maps.{map_holds}
use Rattle.race_laws.proofs.Presence.{holder_home}
use Rattle.race_laws.proofs.Positions.{legal_before}
use Rattle.race_laws.proofs.TheLaws.{absence}
use Rattle.call_laws.specs.Moments.{map_then, Lacked, HoldsAtMoments, LacksAtMoments}

-- later changes come after
pub changes_before : (g : Geometry) {p q : Past} → Before p q → (more : List Change) × (changes g q ≡ changes g p ++ more)
changes_before g {p = p} here = ([], sym (append-nil (changes g p)))
changes_before g {p = p} (later {q = q} {e = e} b) =
    let x = changes_before g b in
    (x.0 ++ changes_by g q e (kind g q e), ap (λ (v : List Change). v ++ changes_by g q e (kind g q e)) x.1 ∙ append_assoc (changes g p) x.0 (changes_by g q e (kind g q e)))

pub fewer_changes : (g : Geometry) {p q : Past} → Before p q → length (changes g p) ≤ length (changes g q)
fewer_changes g {p = p} b = let x = changes_before g b in let e = ap (λ (v : List Change). length v) x.1 in let f = length-append (changes g p) x.0 in omega arith

-- the map after the changes of an earlier position
pub map_then-is : (g : Geometry) {p q : Past} → Before p q → map_then g q p ≡ map_after fin.empty (changes g p)
map_then-is g {p = p} b = let x = changes_before g b in ap (λ (v : List Change). map_after fin.empty v) (ap (take (length (changes g p))) x.1 ∙ taken (changes g p) x.0)
  where
    taken : (xs ys : List Change) → take (length xs) (xs ++ ys) ≡ xs
    taken [] ys = refl
    taken (x ∷ xs) ys = ap (λ (v : List Change). x ∷ v) (taken xs ys)

-- a holder's value was the map's
pub held_then : (s : Setting) {p q : Past} → Before p q → Legal s q → (key : List ℕ) (t r : ℕ) (b : Body) (pr : Pair) → Holder s p key t r b pr → fin.get (map_then s.geometry q p) key ≡ Some pr.value
held_then s {p = p} b l key t r d pr h =
    ap (λ m. fin.get m key) (map_then-is s.geometry b) ∙ (map_holds s p (legal_before s b l)).held key t r d pr (holder_home s p (legal_before s b l) key t r d pr h)

-- the map lacked the key at some position of a look
pub lacked_then : (s : Setting) (l : List Entry) → Legal s (reverse l) → (from : Past) → Before from (reverse l) → (key : List ℕ) → Looked s (reverse l) from key → Lacked s key from (reverse l)
lacked_then s l lg from b key k =
    let w = Before-is from l b in
    let n = length l in
    let lk : Looked s (position l n) (position l w.0) key = subst (λ v. Looked s v (position l w.0) key) (sym (position_all l)) (subst (λ v. Looked s (reverse l) v key) w.2 k) in
    by w.0 w.1 w.2 ((absence s l lg w.0 n w.1 (le_self n) key).0 lk)
  where
    le_self : (n : ℕ) → n ≤ n
    le_self n = omega arith

    by : (i : ℕ) → i ≤ length l → from ≡ position l i → LacksBetween s l i (length l) key → Lacked s key from (reverse l)
    by i low e z =
        let up = Before-prefix l z.at in
        record {
          at = position l z.at;
          from_then = subst (λ v. Before v (position l z.at)) (sym e) (Before-take l i z.at z.from);
          till = up;
          lacks = ap (λ m. fin.get m key) (map_then-is s.geometry up ∙ sym (whole (position l z.at))) ∙ z.lacks;
        }
      where
        whole : (q : Past) → map_at (changes s.geometry q) (length (changes s.geometry q)) ≡ map_after fin.empty (changes s.geometry q)
        whole q = map_then-is s.geometry {p = q} here

pub holds_at_moments : HoldsAtMoments
holds_at_moments s log l x b key t p d pr h = held_then s b l key t p d pr h

pub lacks_at_moments : LacksAtMoments
lacks_at_moments s log l from b key k = lacked_then s log l from b key k
