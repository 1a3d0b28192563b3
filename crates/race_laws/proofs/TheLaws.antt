-- The seven laws, over logs in order.
use Rattle.std.specs.Prelude.{◌≡◌, ℕ, ◌+◌, ◌<◌, ◌≤◌, List, ◌∷◌, length, reverse, Option, Some, None, ◌⊎◌, IsSome, refl}
use Rattle.std.proofs.Common.{sym, ◌∙◌, ap, subst, inl, inr, arith, ⊎_elim}
use Rattle.std.proofs.lemmas.List.{take_all}
use Rattle.std.specs.FinMap as fin
use Rattle.slot_word.specs.declared.slots.Mark.TheVariants.{Live, Pending}
use Rattle.kv_block.specs.Packing.{Pair}
use Rattle.map_model.specs.Machine.{map_after}
use Rattle.node_words.specs.declared.geometry.Geometry.{Geometry}
use Rattle.node_words.specs.Addresses.{slot_at}
use Rattle.node_words.specs.Roles.{SlotWord}
use Rattle.verb_log.specs.declared.entry.Entry.{Entry}
use Rattle.verb_log.specs.declared.kind.Kind.TheVariants.{Commit, Remove}
use Rattle.verb_log.specs.Decoded.{Body, Empty, Full, content, Header}
use Rattle.verb_log.specs.Tables.{Past, Before, here, later, word_at, pair_at, role, judged_role}
use Rattle.verb_log.specs.Kinds.{kind}
use Rattle.verb_log.specs.Changes.{changes}
use Rattle.verb_log.proofs.Positions.{Before-take, length-position}
use Rattle.verb_log.proofs.InOrder.{reverse_push}
use Rattle.race_laws.specs.Setting.{Setting}
use Rattle.race_laws.specs.Standing.{IsTable, IsFilling, IsGone}
use Rattle.race_laws.specs.Chains.{Holder, live}
use Rattle.race_laws.specs.Looks.{SpreadLooked}
use Rattle.race_laws.specs.Rows.{IsPlace}
use Rattle.race_laws.specs.Legal.{Legal, IsLegal}
use Rattle.race_laws.specs.Laws.{position, map_in, OneHolder, KeepsPlace, keeps, goes_down, HolderPlace, HasLeft, Finality, ClearPlaces, CommitLaw, LacksBetween, Absence, Presence}
use Rattle.race_laws.proofs.Step.{StepAt, step_of, SlotStep, place, drop, commit, replace, remove, copy, uncopy, flip, settle, clear}
use Rattle.race_laws.proofs.Sound.{judged_is}
use Rattle.race_laws.proofs.SoundStep.{sound}
use Rattle.race_laws.proofs.Slots.{slot_place_of}
use Rattle.race_laws.proofs.Finality.{GoesOn, opens, finishes, ripens, gone_on, filling_on, header_keeps, bucket_keeps}
use Rattle.race_laws.proofs.SlotKinds.{on_slot}
use Rattle.race_laws.proofs.Clear.{clear_on}
use Rattle.race_laws.proofs.Homes.{Somewhere, SameHome, one_home}
use Rattle.race_laws.proofs.Tracks.{in_order_passed, no_pass}
use Rattle.race_laws.proofs.Commits.{alone, lonely}
use Rattle.race_laws.proofs.Positions.{before_length, before_same, position_of, position_legal}
use Rattle.race_laws.proofs.Paths.{AllHomes}
use Rattle.race_laws.proofs.WordTracks.{HomeIn, home_track}
use Rattle.race_laws.proofs.Onward.{Onward, stays, renewed, flips, removed, onward}
use Rattle.race_laws.proofs.Maps.{map_of, map_holds, taken_none, effect, Effect, nothing, sets, takes}
use Rattle.race_laws.proofs.Presence.{holder_home, home_holder, copy_present}

-- the map after all changes
map_whole : (g : Geometry) (q : Past) → map_in g q ≡ map_of g q
map_whole g q = ap (map_after fin.empty) (take_all (length (changes g q)) (changes g q) (omega arith))

pub one_holder : OneHolder
one_holder s log l n h key = record {
  one = λ t u p r b c pb pc x y. by (one_home s (position log n) lq (alone s (position log n) lq) key t u p r b c pb pc (holder_home s (position log n) lq key t p b pb x) (holder_home s (position log n) lq key u r c pc y));
  held = λ t p b pr x. ap (λ m. fin.get m key) (map_whole s.geometry (position log n)) ∙ (map_holds s (position log n) lq).held key t p b pr (holder_home s (position log n) lq key t p b pr x);
  found = λ value g. somewhere value g ((map_holds s (position log n) lq).found key value (sym (ap (λ m. fin.get m key) (map_whole s.geometry (position log n))) ∙ g));
}
  where
    lq : Legal s (position log n)
    lq = position_legal s log n l

    by : {t u p r : ℕ} {b c : Body} → SameHome t u p r b c → (t ≡ u) × (p ≡ r) × (b ≡ c)
    by x = (x.table, x.place, x.body)

    somewhere : (value : List ℕ) → fin.get (map_in s.geometry (position log n)) key ≡ Some value → Somewhere s (position log n) key → (t : ℕ) × (p : ℕ) × (b : Body) × (pr : Pair) × Holder s (position log n) key t p b pr × (pr.value ≡ value)
    somewhere value g w =
        let held = ap (λ m. fin.get m key) (map_whole s.geometry (position log n)) ∙ (map_holds s (position log n) lq).held key w.table w.place w.body w.pair w.home in
        (w.table, w.place, w.body, w.pair, home_holder s (position log n) lq key w.table w.place w.body w.pair w.home, values (sym held ∙ g))
      where
        values : {x y : List ℕ} → Some x ≡ Some y → x ≡ y
        values h = cc

-- where its map lacks the key, a removal took the home
pub holder_place : HolderPlace
holder_place s log e lg key t p b pr x some = by (onward s (reverse log) e l key t p b pr (holder_home s (reverse log) l.0 key t p b pr x))
  where
    l : Legal s (e ∷ reverse log)
    l = subst (Legal s) (reverse_push log e) lg

    gone : kind s.geometry (reverse log) e ≡ Some Remove → slot_at t p ≡ e.at → Effect s (reverse log) e → ⊥
    gone k at (nothing d a c r) = r k
    gone k at (sets u r c pc tb pl at2 n pk d nr) = nr k
    gone k at (takes u r c pc tb pl at2 o n pk d) = lacks (taken_key u r c pc tb pl at2 o n pk)
      where
        taken_key : (u r : ℕ) (c : Body) (pc : Pair) → IsTable s.geometry (reverse log) u → IsPlace s.geometry r → slot_at u r ≡ e.at → content (word_at s.geometry (reverse log) e.at) ≡ Full Live c → content e.new ≡ Empty → pair_at s.geometry (reverse log) c ≡ Some pc → (value : List ℕ) → fin.get (map_of s.geometry (e ∷ reverse log)) key ≡ Some value → ⊥
        taken_key u r c pc tb pl at2 o n pk value g =
            let w = (map_holds s (e ∷ reverse log) l).found key value g in
            let hm = holder_home s (reverse log) l.0 key t p b pr x in
            taken_none s (reverse log) e l (map_holds s (reverse log) l.0) key w.table w.place w.body w.pair w.home t p b pr hm at n (λ k2. not_both k k2)
          where
            not_both : kind s.geometry (reverse log) e ≡ Some Remove → kind s.geometry (reverse log) e ≡ Some Commit → ⊥
            not_both k k2 = cc

        lacks : ((value : List ℕ) → fin.get (map_of s.geometry (e ∷ reverse log)) key ≡ Some value → ⊥) → ⊥
        lacks f = is_some (fin.get (map_in s.geometry (e ∷ reverse log)) key) refl some
          where
            is_some : (o : Option (List ℕ)) → fin.get (map_in s.geometry (e ∷ reverse log)) key ≡ o → IsSome (fin.get (map_in s.geometry (e ∷ reverse log)) key) → ⊥
            is_some None q w = let z = ap (λ (v : Option (List ℕ)). IsSome v) q in let y = subst (λ (v : Option (List ℕ)). IsSome v) q w in none y
              where
                none : IsSome {T = List ℕ} None → ⊥
                none h = cc
            is_some (Some value) q w = f value (sym (ap (λ m. fin.get m key) (map_whole s.geometry (e ∷ reverse log))) ∙ q)

    by : Onward s (reverse log) e key t p b pr → KeepsPlace s (reverse log) e key t p
    by (stays h) = keeps b pr (home_holder s (e ∷ reverse log) l key t p b pr h)
    by (renewed c pc k at n h) = keeps c pc (home_holder s (e ∷ reverse log) l key t p c pc h)
    by (flips c k at par h) = goes_down c b pr k (sym at) par (home_holder s (e ∷ reverse log) l key c p b pr h)
    by (removed k at o) = absurd (gone k at (effect s (reverse log) e l))

left_on : {h k : Header} → GoesOn h k → (i : ℕ) → HasLeft h i → HasLeft k i
left_on (opens d p q) i x = subst (λ v. HasLeft v i) (sym q) (subst (λ v. HasLeft v i) p x)
left_on (finishes d p q) i x = subst (λ v. HasLeft v i) (sym q) (more (subst (λ v. HasLeft v i) p x))
  where
    more : i < d → i < d + 1
    more h = omega arith
left_on (ripens d p q) i x = subst (λ v. HasLeft v i) (sym q) (subst (λ v. HasLeft v i) p x)

pub finality : Finality
finality s log l n m h k t tb = (
  record {
    left = λ i x. header_keeps s (λ v. HasLeft v i) (λ a b z. left_on z i) bf lm t tb x;
    gone = λ i x. header_keeps s (λ v. IsGone v i) (λ a b z. gone_on z i) bf lm t tb x;
    ripe = λ x. header_keeps s (λ v. IsFilling v → ⊥) (λ a b z y f. y (filling_on z f)) bf lm t tb x;
  },
  λ bucket low. record {
    left = λ i x. bucket_keeps s (λ v. HasLeft v i) (λ a b z. left_on z i) bf lm t bucket tb low x;
    gone = λ i x. bucket_keeps s (λ v. IsGone v i) (λ a b z. gone_on z i) bf lm t bucket tb low x;
    ripe = λ x. bucket_keeps s (λ v. IsFilling v → ⊥) (λ a b z y f. y (filling_on z f)) bf lm t bucket tb low x;
  },
)
  where
    bf : Before (position log n) (position log m)
    bf = Before-take log n m h

    lm : Legal s (position log m)
    lm = position_legal s log m l

pub clear_places : ClearPlaces
clear_places s log l n m h k t d p pl cl mark b pr w ex = clear_on s (Before-take log n m h) (position_legal s log m l) t d p pl cl mark b pr w ex

pub commit_law : CommitLaw
commit_law s log e lg kd b pr n pk = by (fin.get (map_in s.geometry (reverse log)) pr.key) refl
  where
    l : Legal s (e ∷ reverse log)
    l = subst (Legal s) (reverse_push log e) lg

    alone_here : (t p : ℕ) → role s.geometry (reverse log) e.at ≡ SlotWord t p → SlotStep s (reverse log) e t p → Somewhere s (reverse log) pr.key → ⊥
    alone_here t p r (place c i o n2 row) w = cc
    alone_here t p r (drop c i o n2) w = cc
    alone_here t p r (commit c i o n2 row) w =
        let at = slot_place_of s.geometry (reverse log) (sound s (reverse log) l.0) e.at t p r in
        let tb = (sound s (reverse log) l.0).whole e.at t at.2 t (omega arith) (omega arith) in
        let same = bodies (sym n2 ∙ n) in
        lonely s (reverse log) e l.0 l.1 (alone s (reverse log) l.0) t p b pr tb at.0 (sym at.1) (subst (λ v. content (word_at s.geometry (reverse log) e.at) ≡ Full Pending v) same o) n pk row w
      where
        bodies : {x y : Body} → Full Live x ≡ Full Live y → x ≡ y
        bodies h = cc
    alone_here t p r (replace c d i o n2 x row) w = cc
    alone_here t p r (remove c i o n2 row) w = cc
    alone_here t p r (copy c i o n2 row) w = cc
    alone_here t p r (uncopy c i o n2 row) w = cc
    alone_here t p r (flip c i o n2 row) w = cc
    alone_here t p r (settle c i o n2 row) w = cc
    alone_here t p r (clear c i o n2 row) w = cc

    by : (o : Option (List ℕ)) → fin.get (map_in s.geometry (reverse log)) pr.key ≡ o → fin.get (map_in s.geometry (reverse log)) pr.key ≡ None
    by None q = q
    by (Some value) q =
        let w = (map_holds s (reverse log) l.0).found pr.key value (sym (ap (λ m. fin.get m pr.key) (map_whole s.geometry (reverse log))) ∙ q) in
        let x = on_slot s.geometry (reverse log) e (judged_role s.geometry (reverse log) e.at) Commit refl kd in
        let r = sym (judged_is s.geometry (reverse log) (sound s (reverse log) l.0) e.at) ∙ x.2 in
        absurd (alone_here x.0 x.1 r (subst (StepAt s (reverse log) e) x.2 (step_of s (reverse log) e l.1)) w)

-- a position without the key, or homes all the way
lacks_or_homes : (s : Setting) (key : List ℕ) {from to : Past} → Before from to → Legal s to → ((z : Past) × Before from z × Before z to × (fin.get (map_of s.geometry z) key ≡ None)) ⊎ AllHomes s key from to
lacks_or_homes s key {from = from} here l = by (fin.get (map_of s.geometry from) key) refl
  where
    by : (o : Option (List ℕ)) → fin.get (map_of s.geometry from) key ≡ o → ((z : Past) × Before from z × Before z from × (fin.get (map_of s.geometry z) key ≡ None)) ⊎ AllHomes s key from from
    by None q = inl (from, here, here, q)
    by (Some value) q = let w = (map_holds s from l).found key value q in inr (λ z b c. subst (λ v. Somewhere s v key) (before_same b c) w)
lacks_or_homes s key {from = from} (later {q = q} {e = e} bf) l = by (lacks_or_homes s key bf l.0) (fin.get (map_of s.geometry (e ∷ q)) key) refl
  where
    by : ((z : Past) × Before from z × Before z q × (fin.get (map_of s.geometry z) key ≡ None)) ⊎ AllHomes s key from q → (o : Option (List ℕ)) → fin.get (map_of s.geometry (e ∷ q)) key ≡ o → ((z : Past) × Before from z × Before z (e ∷ q) × (fin.get (map_of s.geometry z) key ≡ None)) ⊎ AllHomes s key from (e ∷ q)
    by (inl x) o g = inl (x.0, x.1, later x.2, x.3)
    by (inr a) None g = inl (e ∷ q, later bf, here, g)
    by (inr a) (Some value) g = inr (longer ((map_holds s (e ∷ q) l).found key value g) a)
      where
        longer : Somewhere s (e ∷ q) key → AllHomes s key from q → AllHomes s key from (e ∷ q)
        longer w a z b here = w
        longer w a z b (later c) = a z b c

absent : (s : Setting) (log : List Entry) → IsLegal s log → (n m : ℕ) → n ≤ m → m ≤ length log → (key : List ℕ) → SpreadLooked s (position log m) (position log n) key → LacksBetween s log n m key
absent s log l n m h k key w = ⊎_elim (λ x. found x) (λ (a : AllHomes s key (position log n) (position log m)). absurd (none a)) (lacks_or_homes s key bf lm)
  where
    bf : Before (position log n) (position log m)
    bf = Before-take log n m h

    lm : Legal s (position log m)
    lm = position_legal s log m l

    found : (z : Past) × Before (position log n) z × Before z (position log m) × (fin.get (map_of s.geometry z) key ≡ None) → LacksBetween s log n m key
    found x =
        let y = position_of log m k x.0 x.2 in
        let low = before_length (subst (Before (position log n)) y.2 x.1) in
        let ln = length-position log n (omega arith) in
        let ly = length-position log y.0 (let z = y.1 in omega arith) in
        record {
          at = y.0;
          from = omega arith;
          to = y.1;
          lacks = ap (λ v. fin.get v key) (map_whole s.geometry (position log y.0)) ∙ ap (λ v. fin.get (map_of s.geometry v) key) (sym y.2) ∙ x.3;
        }

    none : AllHomes s key (position log n) (position log m) → ⊥
    none a =
        let top = a (position log m) bf here in
        no_pass s key None (position log n) (position log m) lm top.place (HomeIn s key top.place)
        (home_track s lm (alone s (position log m) lm) bf key None a (λ z v b c o. absurd (not_own o)) top.table top.place top.body top.pair top.home) w
      where
        not_own : {v : ℕ} → None ≡ Some v → ⊥
        not_own h = cc

pub absence : Absence
absence s log l n m h k key = ((λ w. absent s log l n m h k key (in_order_passed s (position log m) (position log n) key None w)), (λ w. absent s log l n m h k key w))

pub presence : Presence
presence s log l m h = record {
  live = λ t p b pr w ca ch. live t p b pr w refl ca ch;
  copy = λ n k t c p b pr ta pl ma tc pa w. copy_present s (Before-take log n m k) (position_legal s log m l) t c p b pr ta pl ma tc pa w.stands w.packs;
}
