-- The map of all changes has a key exactly where a slot holds it, with the value of its block.
use Rattle.std.specs.Prelude.{◌≡◌, ◌≢◌, ℕ, Bool, true, false, cond, List, [], ◌∷◌, ◌++◌, Option, Some, None, refl}
use Rattle.std.proofs.Common.{sym, ◌∙◌, ap, subst, inl, inr, arith, append-nil}
use Rattle.std.specs.FinMap as fin
use Rattle.slot_word.specs.declared.slots.Mark.TheVariants.{Live, Pending, Copied}
use Rattle.kv_block.specs.Bytes.{key_cmp, key_eq}
use Rattle.kv_block.specs.Packing.{Pair}
use Rattle.kv_block.specs.declared.changes.Change.{Change}
use Rattle.kv_block.proofs.Keys.{key_cmp_total, key_eq-is, key_eq-same, key_ties}
use Rattle.map_model.specs.Contents.{Contents}
use Rattle.map_model.specs.Machine.{map_after, changed}
use Rattle.map_model.proofs.Bridge.{map_after-push}
use Rattle.node_words.specs.declared.geometry.Geometry.{Geometry}
use Rattle.node_words.specs.Addresses.{slot_at}
use Rattle.node_words.specs.Roles.{SlotWord}
use Rattle.verb_log.specs.declared.entry.Entry.{Entry}
use Rattle.verb_log.specs.declared.kind.Kind.{Kind}
use Rattle.verb_log.specs.declared.kind.Kind.TheVariants.{Store, Take, Place, Drop, Commit, Replace, Remove, Lock, Unlock, Link, Begin, Open, Copy, Uncopy, Flip, Settle, Clear, Finish, Close, Ripen, Name, Deepen}
use Rattle.verb_log.specs.Decoded.{Body, Empty, Full, content}
use Rattle.verb_log.specs.Tables.{Past, Before, word_at, pair_at, role, judged_role}
use Rattle.verb_log.specs.Kinds.{kind}
use Rattle.verb_log.specs.Changes.{pair_in, set_to, gone, changes_by, changes}
use Rattle.race_laws.specs.Setting.{Setting}
use Rattle.race_laws.specs.Standing.{IsTable, place_in}
use Rattle.race_laws.specs.Rows.{IsPlace}
use Rattle.race_laws.specs.Legal.{Legal}
use Rattle.race_laws.proofs.Step.{StepAt, step_of, SlotStep, place, drop, commit, replace, remove, copy, uncopy, flip, settle, clear}
use Rattle.race_laws.proofs.Touch.{word_put, table_stays}
use Rattle.race_laws.proofs.Sound.{Sound, judged_is}
use Rattle.race_laws.proofs.SoundStep.{sound, sounds, fresh_packs}
use Rattle.race_laws.proofs.Slots.{slot_place_of, standing_named, full_same}
use Rattle.race_laws.proofs.RegionsStep.{packs_kept}
use Rattle.race_laws.proofs.Opening.{opening_empty_slot}
use Rattle.race_laws.proofs.SlotKinds.{on_slot}
use Rattle.race_laws.proofs.Pending.{same_slot}
use Rattle.race_laws.proofs.Homes.{parent_of, Stands, as_live, as_copy, Home, Somewhere, Was, there, flipped, committed, was, one_home}
use Rattle.race_laws.proofs.Commits.{alone}
use Rattle.race_laws.proofs.Onward.{Onward, stays, renewed, flips, removed, onward}

-- the map after all changes of a log
abbrev pub map_of : Geometry → Past → Contents
map_of g q = map_after fin.empty (changes g q)

-- at its key a change sets the value or takes it away; at another key it leaves the map
pub get-changed : (m : Contents) (k v : List ℕ) → fin.get (changed m (record { key = k; value = Some v })) k ≡ Some v
get-changed m k v = fin.get-insert key_cmp_total m k v k ∙ ap (λ (b : Bool). cond b (Some v) (fin.get m k)) (sym (key_ties k k) ∙ key_eq-same k)

pub get-changed_gone : (m : Contents) (k : List ℕ) → fin.get (changed m (record { key = k; value = None })) k ≡ None
get-changed_gone m k = fin.get-remove key_cmp_total m k k ∙ ap (λ (b : Bool). cond b None (fin.get m k)) (sym (key_ties k k) ∙ key_eq-same k)

pub get-changed_other : (m : Contents) (k q : List ℕ) (v : Option (List ℕ)) → key_eq q k ≡ false → fin.get (changed m (record { key = k; value = v })) q ≡ fin.get m q
get-changed_other m k q (Some v) e = fin.get-insert key_cmp_total m k v q ∙ ap (λ (b : Bool). cond b (Some v) (fin.get m q)) (sym (key_ties q k) ∙ e)
get-changed_other m k q None e = fin.get-remove key_cmp_total m k q ∙ ap (λ (b : Bool). cond b None (fin.get m q)) (sym (key_ties q k) ∙ e)

-- what an entry does to the map
pub data Effect (s : Setting) (q : Past) (e : Entry) : Type 0 where
  nothing : changes_by s.geometry q e (kind s.geometry q e) ≡ [] → kind s.geometry q e ≢ Some Commit → kind s.geometry q e ≢ Some Replace → kind s.geometry q e ≢ Some Remove → Effect s q e
  sets : (t p : ℕ) (b : Body) (pr : Pair) → IsTable s.geometry q t → IsPlace s.geometry p → slot_at t p ≡ e.at → content e.new ≡ Full Live b → pair_at s.geometry (e ∷ q) b ≡ Some pr → changes_by s.geometry q e (kind s.geometry q e) ≡ record { key = pr.key; value = Some pr.value } ∷ [] → kind s.geometry q e ≢ Some Remove → Effect s q e
  takes : (t p : ℕ) (b : Body) (pr : Pair) → IsTable s.geometry q t → IsPlace s.geometry p → slot_at t p ≡ e.at → content (word_at s.geometry q e.at) ≡ Full Live b → content e.new ≡ Empty → pair_at s.geometry q b ≡ Some pr → changes_by s.geometry q e (kind s.geometry q e) ≡ record { key = pr.key; value = None } ∷ [] → Effect s q e

module _ (s : Setting) (q : Past) (e : Entry) (l : Legal s (e ∷ q)) where
  so : Sound s.geometry q
  so = sound s q l.0

  ss : (x : Past) → Before x q → Sound s.geometry x
  ss x b = sounds s x q b l.0

  set_by : (b : Body) (pr : Pair) (k : Kind) → changes_by s.geometry q e (Some k) ≡ set_to (pair_in s.geometry q (content e.new)) → kind s.geometry q e ≡ Some k → content e.new ≡ Full Live b → pair_at s.geometry q b ≡ Some pr → changes_by s.geometry q e (kind s.geometry q e) ≡ record { key = pr.key; value = Some pr.value } ∷ []
  set_by b pr k d e2 n pk = ap (changes_by s.geometry q e) e2 ∙ d ∙ ap (λ c. set_to (pair_in s.geometry q c)) n ∙ ap set_to pk

  gone_by : (b : Body) (pr : Pair) → kind s.geometry q e ≡ Some Remove → content e.old ≡ Full Live b → pair_at s.geometry q b ≡ Some pr → changes_by s.geometry q e (kind s.geometry q e) ≡ record { key = pr.key; value = None } ∷ []
  gone_by b pr e2 n pk = ap (changes_by s.geometry q e) e2 ∙ ap (λ c. gone (pair_in s.geometry q c)) n ∙ ap gone pk

  -- a set slot, by its step
  commits : (t p : ℕ) → role s.geometry q e.at ≡ SlotWord t p → kind s.geometry q e ≡ Some Commit → SlotStep s q e t p → Effect s q e
  commits t p r kd (place c i o n row) = absurd (cc)
  commits t p r kd (drop c i o n) = absurd (cc)
  commits t p r kd (commit c i o n row) =
      let at = slot_place_of s.geometry q so e.at t p r in
      let tb = so.whole e.at t at.2 t (omega arith) (omega arith) in
      let old = ap (λ v. content (word_at s.geometry q v)) (sym at.1) ∙ o in
      let same = full_same Live Live row.body c (sym row.word ∙ n) in
      let pk : pair_at s.geometry q c ≡ Some row.pair = subst (λ x. pair_at s.geometry q x ≡ Some row.pair) same row.packs in
      sets t p c row.pair tb at.0 (sym at.1) n (packs_kept s q e l.1 so ss c (standing_named s.geometry q so t p Pending c tb at.0 old) ∙ pk) (set_by c row.pair Commit refl kd n pk) (λ v. cc)
  commits t p r kd (replace c d i o n x row) = absurd (cc)
  commits t p r kd (remove c i o n row) = absurd (cc)
  commits t p r kd (copy c i o n row) = absurd (cc)
  commits t p r kd (uncopy c i o n row) = absurd (cc)
  commits t p r kd (flip c i o n row) = absurd (cc)
  commits t p r kd (settle c i o n row) = absurd (cc)
  commits t p r kd (clear c i o n row) = absurd (cc)

  replaces : (t p : ℕ) → role s.geometry q e.at ≡ SlotWord t p → kind s.geometry q e ≡ Some Replace → SlotStep s q e t p → Effect s q e
  replaces t p r kd (place c i o n row) = absurd (cc)
  replaces t p r kd (drop c i o n) = absurd (cc)
  replaces t p r kd (commit c i o n row) = absurd (cc)
  replaces t p r kd (replace c d i o n x row) =
      let at = slot_place_of s.geometry q so e.at t p r in
      let tb = so.whole e.at t at.2 t (omega arith) (omega arith) in
      sets t p row.new_body row.new_pair tb at.0 (sym at.1) row.word (fresh_packs s q e l.0 l.1 so ss t p e.client row.new_body row.new_pair r row.fresh) (set_by row.new_body row.new_pair Replace refl kd row.word row.fresh.packs) (λ v. cc)
  replaces t p r kd (remove c i o n row) = absurd (cc)
  replaces t p r kd (copy c i o n row) = absurd (cc)
  replaces t p r kd (uncopy c i o n row) = absurd (cc)
  replaces t p r kd (flip c i o n row) = absurd (cc)
  replaces t p r kd (settle c i o n row) = absurd (cc)
  replaces t p r kd (clear c i o n row) = absurd (cc)

  removes : (t p : ℕ) → role s.geometry q e.at ≡ SlotWord t p → kind s.geometry q e ≡ Some Remove → SlotStep s q e t p → Effect s q e
  removes t p r kd (place c i o n row) = absurd (cc)
  removes t p r kd (drop c i o n) = absurd (cc)
  removes t p r kd (commit c i o n row) = absurd (cc)
  removes t p r kd (replace c d i o n x row) = absurd (cc)
  removes t p r kd (remove c i o n row) =
      let at = slot_place_of s.geometry q so e.at t p r in
      let tb = so.whole e.at t at.2 t (omega arith) (omega arith) in
      let old = ap (λ v. content (word_at s.geometry q v)) (sym at.1) ∙ o in
      let nm = standing_named s.geometry q so t p Live c tb at.0 old in
      takes t p c nm.pair tb at.0 (sym at.1) o n nm.packs (gone_by c nm.pair kd (ap content (sym l.1.stands) ∙ o) nm.packs)
  removes t p r kd (copy c i o n row) = absurd (cc)
  removes t p r kd (uncopy c i o n row) = absurd (cc)
  removes t p r kd (flip c i o n row) = absurd (cc)
  removes t p r kd (settle c i o n row) = absurd (cc)
  removes t p r kd (clear c i o n row) = absurd (cc)

  step_at_slot : (t p : ℕ) → role s.geometry q e.at ≡ SlotWord t p → SlotStep s q e t p
  step_at_slot t p r = subst (StepAt s q e) (judged_is s.geometry q so e.at ∙ r) (step_of s q e l.1)

  none_of : (o : Option Kind) → kind s.geometry q e ≡ o → changes_by s.geometry q e o ≡ [] → o ≢ Some Commit → o ≢ Some Replace → o ≢ Some Remove → Effect s q e
  none_of o kd d a b c = nothing (ap (changes_by s.geometry q e) kd ∙ d) (λ v. a (sym kd ∙ v)) (λ v. b (sym kd ∙ v)) (λ v. c (sym kd ∙ v))

  effect_of : (o : Option Kind) → kind s.geometry q e ≡ o → Effect s q e
  effect_of None kd = none_of None kd refl (λ v. cc) (λ v. cc) (λ v. cc)
  effect_of (Some Commit) kd = let x = on_slot s.geometry q e (judged_role s.geometry q e.at) Commit refl kd in let r = sym (judged_is s.geometry q so e.at) ∙ x.2 in commits x.0 x.1 r kd (step_at_slot x.0 x.1 r)
  effect_of (Some Replace) kd = let x = on_slot s.geometry q e (judged_role s.geometry q e.at) Replace refl kd in let r = sym (judged_is s.geometry q so e.at) ∙ x.2 in replaces x.0 x.1 r kd (step_at_slot x.0 x.1 r)
  effect_of (Some Remove) kd = let x = on_slot s.geometry q e (judged_role s.geometry q e.at) Remove refl kd in let r = sym (judged_is s.geometry q so e.at) ∙ x.2 in removes x.0 x.1 r kd (step_at_slot x.0 x.1 r)
  effect_of (Some Store) kd = none_of (Some Store) kd refl (λ v. cc) (λ v. cc) (λ v. cc)
  effect_of (Some Take) kd = none_of (Some Take) kd refl (λ v. cc) (λ v. cc) (λ v. cc)
  effect_of (Some Place) kd = none_of (Some Place) kd refl (λ v. cc) (λ v. cc) (λ v. cc)
  effect_of (Some Drop) kd = none_of (Some Drop) kd refl (λ v. cc) (λ v. cc) (λ v. cc)
  effect_of (Some Lock) kd = none_of (Some Lock) kd refl (λ v. cc) (λ v. cc) (λ v. cc)
  effect_of (Some Unlock) kd = none_of (Some Unlock) kd refl (λ v. cc) (λ v. cc) (λ v. cc)
  effect_of (Some Link) kd = none_of (Some Link) kd refl (λ v. cc) (λ v. cc) (λ v. cc)
  effect_of (Some Begin) kd = none_of (Some Begin) kd refl (λ v. cc) (λ v. cc) (λ v. cc)
  effect_of (Some Open) kd = none_of (Some Open) kd refl (λ v. cc) (λ v. cc) (λ v. cc)
  effect_of (Some Copy) kd = none_of (Some Copy) kd refl (λ v. cc) (λ v. cc) (λ v. cc)
  effect_of (Some Uncopy) kd = none_of (Some Uncopy) kd refl (λ v. cc) (λ v. cc) (λ v. cc)
  effect_of (Some Flip) kd = none_of (Some Flip) kd refl (λ v. cc) (λ v. cc) (λ v. cc)
  effect_of (Some Settle) kd = none_of (Some Settle) kd refl (λ v. cc) (λ v. cc) (λ v. cc)
  effect_of (Some Clear) kd = none_of (Some Clear) kd refl (λ v. cc) (λ v. cc) (λ v. cc)
  effect_of (Some Finish) kd = none_of (Some Finish) kd refl (λ v. cc) (λ v. cc) (λ v. cc)
  effect_of (Some Close) kd = none_of (Some Close) kd refl (λ v. cc) (λ v. cc) (λ v. cc)
  effect_of (Some Ripen) kd = none_of (Some Ripen) kd refl (λ v. cc) (λ v. cc) (λ v. cc)
  effect_of (Some Name) kd = none_of (Some Name) kd refl (λ v. cc) (λ v. cc) (λ v. cc)
  effect_of (Some Deepen) kd = none_of (Some Deepen) kd refl (λ v. cc) (λ v. cc) (λ v. cc)

pub effect : (s : Setting) (q : Past) (e : Entry) → Legal s (e ∷ q) → Effect s q e
effect s q e l = effect_of s q e l (kind s.geometry q e) refl

-- the map after an entry
map_same : (g : Geometry) (q : Past) (e : Entry) → changes_by g q e (kind g q e) ≡ [] → map_of g (e ∷ q) ≡ map_of g q
map_same g q e h = ap (λ (cs : List Change). map_after fin.empty (changes g q ++ cs)) h ∙ ap (map_after fin.empty) (append-nil (changes g q))

map_changed : (g : Geometry) (q : Past) (e : Entry) (c : Change) → changes_by g q e (kind g q e) ≡ c ∷ [] → map_of g (e ∷ q) ≡ changed (map_of g q) c
map_changed g q e c h = ap (λ (cs : List Change). map_after fin.empty (changes g q ++ cs)) h ∙ map_after-push fin.empty (changes g q) c

-- the map of all changes and the homes tell the same
pub record MapHolds (s : Setting) (q : Past) : Type 0 where
  pub held : (key : List ℕ) (t p : ℕ) (b : Body) (pr : Pair) → Home s q key t p b pr → fin.get (map_of s.geometry q) key ≡ Some pr.value
  pub found : (key v : List ℕ) → fin.get (map_of s.geometry q) key ≡ Some v → Somewhere s q key

no_home : (s : Setting) (key : List ℕ) (t p : ℕ) (b : Body) (pr : Pair) → Home s [] key t p b pr → ⊥
no_home s key t p b pr hm = by hm.stands (opening_empty_slot s.geometry t p hm.table hm.place)
  where
    by : Stands s.geometry [] t p b → place_in s.geometry [] t p ≡ Empty → ⊥
    by (as_live w) z = cc
    by (as_copy w m) z = cc

module _ (s : Setting) (q : Past) (e : Entry) (l : Legal s (e ∷ q)) (ih : MapHolds s q) where
  value_same : {o : Option Pair} {x y : Pair} → o ≡ Some x → o ≡ Some y → x.value ≡ y.value
  value_same h k = cc

  key_same : {o : Option Pair} {x y : Pair} → o ≡ Some x → o ≡ Some y → x.key ≡ y.key
  key_same h k = cc

  -- a home with its block as before: the value is that of the map before
  old_value : (key : List ℕ) (t p : ℕ) (c b : Body) (pc pr : Pair) → Home s q key t p c pc → c ≡ b → pair_at s.geometry (e ∷ q) b ≡ Some pr → fin.get (map_of s.geometry q) key ≡ Some pr.value
  old_value key t p c b pc pr hm same pk =
      let nm = by hm.stands in
      let pk2 : pair_at s.geometry (e ∷ q) c ≡ Some pc = nm ∙ hm.packs in
      ih.held key t p c pc hm ∙ ap (λ v. Some v) (value_same pk2 (ap (pair_at s.geometry (e ∷ q)) same ∙ pk))
    where
      by : Stands s.geometry q t p c → pair_at s.geometry (e ∷ q) c ≡ pair_at s.geometry q c
      by (as_live w) = packs_kept s q e l.1 (sound s q l.0) (λ x k. sounds s x q k l.0) c (standing_named s.geometry q (sound s q l.0) t p Live c hm.table hm.place w)
      by (as_copy w m) = packs_kept s q e l.1 (sound s q l.0) (λ x k. sounds s x q k l.0) c (standing_named s.geometry q (sound s q l.0) t p Copied c hm.table hm.place w)

  -- a home that no set and no removal made: its value is that of the map before
  kept_value : (key : List ℕ) (t p : ℕ) (b : Body) (pr : Pair) → Home s (e ∷ q) key t p b pr → (kind s.geometry q e ≡ Some Replace → slot_at t p ≡ e.at → ⊥) → (kind s.geometry q e ≡ Some Commit → slot_at t p ≡ e.at → ⊥) → fin.get (map_of s.geometry q) key ≡ Some pr.value
  kept_value key t p b pr hm nr nc = by (was s q e l key t p b pr hm)
    where
      by : Was s q e key t p b → fin.get (map_of s.geometry q) key ≡ Some pr.value
      by (there c pc h f (inl same)) = old_value key t p c b pc pr h same hm.packs
      by (there c pc h f (inr r)) = absurd (nr r.kind r.at)
      by (flipped pc h tb cp mo at) = old_value key (parent_of s.geometry q t) p b b pc pr h refl hm.packs
      by (committed pc tb at kd o n v pk kk row) = absurd (nc kd at)

  -- the slot of an entry that sets the map is a home
  set_home : (t p : ℕ) (b : Body) (pr : Pair) → IsTable s.geometry q t → IsPlace s.geometry p → slot_at t p ≡ e.at → content e.new ≡ Full Live b → pair_at s.geometry (e ∷ q) b ≡ Some pr → Home s (e ∷ q) pr.key t p b pr
  set_home t p b pr tb pl at n pk = record {
    table = table_stays s.geometry q e t t tb;
    place = pl;
    packs = pk;
    same_key = refl;
    stands = as_live (ap content (word_put s.geometry q e (slot_at t p) at) ∙ n);
  }

  home_as : (k1 k2 : List ℕ) (t p : ℕ) (b : Body) (pr : Pair) → k1 ≡ k2 → Home s (e ∷ q) k1 t p b pr → Home s (e ∷ q) k2 t p b pr
  home_as k1 k2 t p b pr same h = subst (λ v. Home s (e ∷ q) v t p b pr) same h

  -- another slot than the entry's, where the keys are not the same
  apart : (key : List ℕ) (t p u r : ℕ) (b c : Body) (pr pc : Pair) → Home s (e ∷ q) key t p b pr → Home s (e ∷ q) pc.key u r c pc → key_eq key pc.key ≡ false → slot_at u r ≡ e.at → slot_at t p ≡ e.at → ⊥
  apart key t p u r b c pr pc x y f au at =
      let sm = same_slot s.geometry (e ∷ q) (sound s (e ∷ q) l) t p u r x.table y.table x.place y.place (at ∙ sym au) in
      let y2 = subst (λ v. Home s (e ∷ q) pc.key v p c pc) sm.0 (subst (λ v. Home s (e ∷ q) pc.key u v c pc) sm.1 y) in
      let bc = same_stands x.stands y2.stands in
      let kk : key ≡ pc.key = sym x.same_key ∙ key_same (ap (pair_at s.geometry (e ∷ q)) (sym bc) ∙ x.packs) y.packs in
      let z = ap (key_eq key) kk in
      let z2 = key_eq-same key in
      cc
    where
      same_stands : Stands s.geometry (e ∷ q) t p b → Stands s.geometry (e ∷ q) t p c → b ≡ c
      same_stands (as_live w) (as_live v) = full_same Live Live b c (sym w ∙ v)
      same_stands (as_live w) (as_copy v m) = absurd (cc)
      same_stands (as_copy w m) (as_live v) = absurd (cc)
      same_stands (as_copy w m) (as_copy v n) = full_same Copied Copied b c (sym w ∙ v)

  emptied : (t p : ℕ) (b : Body) → slot_at t p ≡ e.at → content e.new ≡ Empty → Stands s.geometry (e ∷ q) t p b → ⊥
  emptied t p b at n (as_live w) = let z = ap content (word_put s.geometry q e (slot_at t p) at) in cc
  emptied t p b at n (as_copy w m) = let z = ap content (word_put s.geometry q e (slot_at t p) at) in cc

  -- no home of a key whose only home an entry takes away
  pub taken_none : (key : List ℕ) (t p : ℕ) (b : Body) (pr : Pair) → Home s (e ∷ q) key t p b pr → (u r : ℕ) (c : Body) (pc : Pair) → Home s q key u r c pc → slot_at u r ≡ e.at → content e.new ≡ Empty → kind s.geometry q e ≢ Some Commit → ⊥
  taken_none key t p b pr hm u r c pc old at n nc = by (was s q e l key t p b pr hm)
    where
      by : Was s q e key t p b → ⊥
      by (there d pd h f rp) =
          let sm = one_home s q l.0 (alone s q l.0) key t u p r d c pd pc h old in
          emptied t p b (ap (λ v. slot_at v p) sm.table ∙ ap (slot_at u) sm.place ∙ at) n hm.stands
      by (flipped pd h tb cp mo at2) = let z = ap content (word_put s.geometry q e (slot_at (parent_of s.geometry q t) p) at2) in cc
      by (committed pd tb at2 kd o n2 v pk kk row) = nc kd

  held_step : (key : List ℕ) (t p : ℕ) (b : Body) (pr : Pair) → Home s (e ∷ q) key t p b pr → Effect s q e → fin.get (map_of s.geometry (e ∷ q)) key ≡ Some pr.value
  held_step key t p b pr hm (nothing d a c r) = ap (λ m. fin.get m key) (map_same s.geometry q e d) ∙ kept_value key t p b pr hm (λ k at. c k) (λ k at. a k)
  held_step key t p b pr hm (sets u r c pc tb pl at n pk d nr) = by (key_eq key pc.key) refl
    where
      new : Home s (e ∷ q) pc.key u r c pc
      new = set_home u r c pc tb pl at n pk

      by : (y : Bool) → key_eq key pc.key ≡ y → fin.get (map_of s.geometry (e ∷ q)) key ≡ Some pr.value
      by true y =
          let same = key_eq-is key pc.key y in
          let sm = one_home s (e ∷ q) l (alone s (e ∷ q) l) key t u p r b c pr pc hm (home_as pc.key key u r c pc (sym same) new) in
          let vv = value_same (ap (pair_at s.geometry (e ∷ q)) (sym sm.body) ∙ hm.packs) pk in
          ap (λ m. fin.get m key) (map_changed s.geometry q e _ d) ∙ ap (λ k. fin.get (changed (map_of s.geometry q) (record { key = pc.key; value = Some pc.value })) k) same ∙ get-changed (map_of s.geometry q) pc.key pc.value ∙ ap (λ v. Some v) (sym vv)
      by false y =
          ap (λ m. fin.get m key) (map_changed s.geometry q e _ d) ∙ get-changed_other (map_of s.geometry q) pc.key key (Some pc.value) y
          ∙ kept_value key t p b pr hm (λ k a2. apart key t p u r b c pr pc hm new y at a2) (λ k a2. apart key t p u r b c pr pc hm new y at a2)
  held_step key t p b pr hm (takes u r c pc tb pl at o n pk d) = by (key_eq key pc.key) refl
    where
      gone_home : Home s q pc.key u r c pc
      gone_home = record { table = tb; place = pl; packs = pk; same_key = refl; stands = as_live (ap (λ v. content (word_at s.geometry q v)) at ∙ o) }

      no_live : (k : Kind) → content e.new ≡ Empty → slot_at t p ≡ e.at → ⊥
      no_live k n2 a2 = emptied t p b a2 n2 hm.stands

      not_commit : kind s.geometry q e ≢ Some Commit
      not_commit k = let z = on_live k in cc
        where
          on_live : kind s.geometry q e ≡ Some Commit → changes_by s.geometry q e (kind s.geometry q e) ≡ []
          on_live k2 = ap (changes_by s.geometry q e) k2 ∙ ap (λ c2. set_to (pair_in s.geometry q c2)) n

      by : (y : Bool) → key_eq key pc.key ≡ y → fin.get (map_of s.geometry (e ∷ q)) key ≡ Some pr.value
      by true y =
          let same = key_eq-is key pc.key y in
          absurd (taken_none key t p b pr hm u r c pc (subst (λ v. Home s q v u r c pc) (sym same) gone_home) at n not_commit)
      by false y =
          ap (λ m. fin.get m key) (map_changed s.geometry q e _ d) ∙ get-changed_other (map_of s.geometry q) pc.key key None y
          ∙ kept_value key t p b pr hm (λ k a2. no_live Replace n a2) (λ k a2. no_live Commit n a2)

  -- what is found in the map before is found after, unless the entry takes it away
  found_on : (key v : List ℕ) → fin.get (map_of s.geometry q) key ≡ Some v → ((t p : ℕ) (b : Body) (pr : Pair) → Home s q key t p b pr → kind s.geometry q e ≡ Some Remove → slot_at t p ≡ e.at → content (word_at s.geometry q e.at) ≡ Full Live b → ⊥) → Somewhere s (e ∷ q) key
  found_on key v g nr =
      let w = ih.found key v g in
      by w (onward s q e l key w.table w.place w.body w.pair w.home)
    where
      by : (w : Somewhere s q key) → Onward s q e key w.table w.place w.body w.pair → Somewhere s (e ∷ q) key
      by w (stays h) = record { table = w.table; place = w.place; body = w.body; pair = w.pair; home = h }
      by w (renewed c pc k at n h) = record { table = w.table; place = w.place; body = c; pair = pc; home = h }
      by w (flips c k at par h) = record { table = c; place = w.place; body = w.body; pair = w.pair; home = h }
      by w (removed k at o) = absurd (nr w.table w.place w.body w.pair w.home k at o)

  found_step : (key v : List ℕ) → fin.get (map_of s.geometry (e ∷ q)) key ≡ Some v → Effect s q e → Somewhere s (e ∷ q) key
  found_step key v g (nothing d a c r) = found_on key v (sym (ap (λ m. fin.get m key) (map_same s.geometry q e d)) ∙ g) (λ t p b pr hm k at o. r k)
  found_step key v g (sets u r c pc tb pl at n pk d nr) = by (key_eq key pc.key) refl
    where
      by : (y : Bool) → key_eq key pc.key ≡ y → Somewhere s (e ∷ q) key
      by true y = let same = key_eq-is key pc.key y in record { table = u; place = r; body = c; pair = pc; home = home_as pc.key key u r c pc (sym same) (set_home u r c pc tb pl at n pk) }
      by false y = found_on key v (sym (ap (λ m. fin.get m key) (map_changed s.geometry q e _ d) ∙ get-changed_other (map_of s.geometry q) pc.key key (Some pc.value) y) ∙ g) (λ t p b pr hm k a2 o. nr k)
  found_step key v g (takes u r c pc tb pl at o n pk d) = by (key_eq key pc.key) refl
    where
      gone_key : (t p : ℕ) (b : Body) (pr : Pair) → Home s q key t p b pr → content (word_at s.geometry q e.at) ≡ Full Live b → key ≡ pc.key
      gone_key t p b pr hm o2 = sym hm.same_key ∙ key_same (ap (pair_at s.geometry q) (full_same Live Live c b (sym o ∙ o2)) ∙ hm.packs) pk

      by : (y : Bool) → key_eq key pc.key ≡ y → Somewhere s (e ∷ q) key
      by true y =
          let same = key_eq-is key pc.key y in
          let z = ap (λ m. fin.get m key) (map_changed s.geometry q e _ d) ∙ ap (λ k. fin.get (changed (map_of s.geometry q) (record { key = pc.key; value = None })) k) same ∙ get-changed_gone (map_of s.geometry q) pc.key in
          absurd (cc)
      by false y = found_on key v (sym (ap (λ m. fin.get m key) (map_changed s.geometry q e _ d) ∙ get-changed_other (map_of s.geometry q) pc.key key None y) ∙ g)
          (λ t p b pr hm k a2 o2. let kk = ap (key_eq key) (gone_key t p b pr hm o2) in let k2 = key_eq-same key in cc)

none_empty : {o : Option (List ℕ)} {v : List ℕ} → o ≡ None → o ≡ Some v → ⊥
none_empty h k = cc

-- so of every legal log
pub map_holds : (s : Setting) (q : Past) → Legal s q → MapHolds s q
map_holds s [] l = record { held = λ key t p b pr hm. absurd (no_home s key t p b pr hm); found = λ key v g. absurd (none_empty (fin.get-empty key_cmp key) g) }
map_holds s (e ∷ q) l = let ih = map_holds s q l.0 in record {
  held = λ key t p b pr hm. held_step s q e l ih key t p b pr hm (effect s q e l);
  found = λ key v g. found_step s q e l ih key v g (effect s q e l);
}
