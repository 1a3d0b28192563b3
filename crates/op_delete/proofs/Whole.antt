-- A whole delete, as a call: by how many swaps may still be lost.
use Rattle.std.specs.Prelude.{◌≡◌, ℕ, zero, suc, ◌+◌, ◌-◌, ◌*◌, ◌<◌, ◌≤◌, List, ◌∷◌, ◌++◌, reverse, Option, Some, None, refl, ◌⊎◌}
use Rattle.std.proofs.Common.{sym, ◌∙◌, ap, subst, arith, inl, inr}
use Rattle.slot_word.specs.declared.slots.Mark.{Mark}
use Rattle.slot_word.specs.declared.slots.Mark.TheVariants.{Live, Copied}
use Rattle.kv_block.specs.declared.changes.Change.{Change}
use Rattle.kv_block.specs.Packing.{Pair}
use Rattle.node_words.specs.declared.geometry.Geometry.{Geometry}
use Rattle.node_words.specs.Addresses.{slot_at}
use Rattle.verb_log.specs.declared.entry.Entry.{Entry}
use Rattle.verb_log.specs.declared.kind.Kind.TheVariants.{Place, Remove}
use Rattle.verb_log.specs.Decoded.{Body, Full, content}
use Rattle.verb_log.specs.Tables.{Past, Before, here, later, word_at}
use Rattle.verb_log.specs.Changes.{changes}
use Rattle.verb_log.specs.Kinds.{kind}
use Rattle.verb_log.proofs.Positions.{Before-trans}
use Rattle.verb_log.specs.declared.entry.Verb.TheVariants.{Swap}
use Rattle.verbs.specs.Programs.{do_verb, Prog, ask, bind, Within}
use Rattle.verbs.specs.Logs.{Entries}
use Rattle.race_laws.specs.Setting.{Setting, hash}
use Rattle.race_laws.specs.Standing.{place_in}
use Rattle.race_laws.specs.Chains.{Holder}
use Rattle.race_laws.specs.Legal.{Legal}
use Rattle.race_laws.proofs.Positions.{legal_before}
use Rattle.race_laws.proofs.Presence.{holder_home}
use Rattle.race_laws.proofs.Homes.{Stands, as_live, as_copy}
use Rattle.log_facts.specs.Start.{Start}
use Rattle.log_facts.specs.Since.{change_in, Since}
use Rattle.log_facts.specs.Among.{changes_of}
use Rattle.log_facts.specs.Beside.{mild, uses_lock}
use Rattle.log_facts.specs.Entries.{uses_fresh}
use Rattle.log_facts.specs.Mine.{Mine}
use Rattle.log_facts.proofs.Mine.{mine_others}
use Rattle.log_facts.proofs.Modest.{modest_mine}
use Rattle.log_facts.proofs.Silent.{kept_since, kept_mine, zero_silent}
use Rattle.log_facts.proofs.Growing.{since_before}
use Rattle.log_facts.proofs.Starts.{start_before}
use Rattle.log_facts.proofs.Passings.{passed_between}
use Rattle.log_facts.proofs.Within.{slot_within}
use Rattle.log_facts.proofs.Known.{Known, known_before, holder_known, live_holder}
use Rattle.pass_text.specs.declared.job.PassMode.TheVariants.{Look}
use Rattle.pass_text.specs.declared.passed.Held.{Held as HeldWord}
use Rattle.pass_text.specs.declared.passed.Passed.{Passed}
use Rattle.pass_text.specs.declared.passed.PassEnd.{PassEnd}
use Rattle.pass_text.specs.declared.passed.PassEnd.TheVariants.{Held, Clear, Gone, Spent}
use Rattle.pass_text.specs.Pass.{pass}
use Rattle.pass_text.specs.Bound.{most_verbs}
use Rattle.pass_laws.specs.HasPassed.{HasPassed, HeldAt, EndsSo}
use Rattle.pass_laws.specs.Law.{MayBegin, IsJobOf}
use Rattle.call_laws.specs.Judged.{SafeOnce, PlacedNone}
use Rattle.call_laws.specs.Settling.{look_job}
use Rattle.call_laws.proofs.Changing.{remove_kind, remove_meets, remove_change}
use Rattle.call_laws.proofs.Once.{once_more, once_bind, once_swap, once_found, once_lost, placed_none, placed_more, placed_since}
use Rattle.call_laws.proofs.Settling.{settle_safe}
use Rattle.call_laws.proofs.Rounds.{one_more, all_rounds, look-within, look_calm}
use Rattle.op_delete.specs.declared.end.DeleteEnd.{DeleteEnd}
use Rattle.op_delete.specs.declared.end.DeleteOutcome.TheVariants.{Deleted}
use Rattle.op_delete.specs.Text.{ended, after_remove, remove_word, on_end, after_look, again, delete}
use Rattle.op_delete.specs.Bound.{delete_round, delete_verbs}
use Rattle.op_delete.specs.Law.{HasDeleted, IsSafeDelete, DeleteIsSafe}
use Rattle.op_delete.proofs.Bounds.{delete-within}

module _ (s : Setting) (c : ℕ) (g : Geometry) (key : List ℕ) (h : ℕ) (job : IsJobOf s (look_job g key h)) (tries : ℕ) (from : Past) where
  abbrev End : List Change → Entries → DeleteEnd → Type 0
  End before l e = HasDeleted s c key tries from before (reverse l) e

  abbrev Goes : ℕ → List Change → Entries → Prog DeleteEnd → Type 0
  Goes n d l p = SafeOnce s c n d l p End

  abbrev round : ℕ
  round = delete_round g.max_depth

  -- what was taken and not published is so still
  abbrev Keeps : Past → Type 0
  Keeps q = (a n : ℕ) → Mine s.geometry from c a n → Mine s.geometry q c a n

  -- what is known at each moment of the delete, where its last look ended at table t
  record At (t : ℕ) (q : Past) : Type 0 where
    since : Before from q
    start : Start s.geometry q (hash s key) t
    placed : PlacedNone s c from q
    keeps : Keeps q

  at_since : (t : ℕ) (y z : Past) → Since c y z → Legal s z → At t y → At t z
  at_since t y z b l a = record { since = Before-trans a.since (since_before b); start = start_before s (since_before b) l (hash s key) t a.start; placed = placed_since s c from b a.placed; keeps = λ x n m. kept_since s c (λ q. Mine s.geometry q c x n) (kept_mine s c x n) b l (a.keeps x n m) }

  -- an own entry that is no Place
  at_own : (t : ℕ) (y : Past) (e : Entry) → Legal s (e ∷ y) → (kind s.geometry y e ≡ Some Place → ⊥) → ((x n : ℕ) → Mine s.geometry y c x n → Mine s.geometry (e ∷ y) c x n) → At t y → At t (e ∷ y)
  at_own t y e l n k a = record { since = later a.since; start = start_before s (later here) l (hash s key) t a.start; placed = placed_more s c from y e (λ x j. n j) a.placed; keeps = λ x j m. k x j (a.keeps x j m) }

  -- what follows a counted swap that was lost after a look at table t
  abbrev GoesAgain : ℕ → (ℕ → Prog DeleteEnd) → Type 0
  GoesAgain n more = (t : ℕ) (d : List Change) (l : Entries) → Legal s (reverse l) → At t (reverse l) → changes_of s l ≡ d → Goes n d l (more t)

  module _ (n lost : ℕ) (few : lost < tries) (more : ℕ → Prog DeleteEnd) (again_safe : GoesAgain n more) where
    -- the live word of the block that was held is removed
    module _ (t : ℕ) (w : HeldWord) (place table : ℕ) (b : Body) (pr : Pair) (slot : w.at ≡ slot_at table place) (value : pr.value ≡ w.value) (held : (content w.word ≡ Full Live b) ⊎ (content w.word ≡ Full Copied b)) where
      removed : (live : ℕ) → content live ≡ Full Live b → (d : List Change) (m : Entries) → Legal s (reverse m) → Known s key table place b pr (reverse m) → At t (reverse m) → changes_of s m ≡ d
          → Goes (suc n) d m (remove_word lost more w t live)
      removed live lw d m l kn a e =
          subst (λ v. Goes (suc n) d m (ask (do_verb None (Swap v live 0)) (after_remove lost more w t live))) (sym slot)
          (once_swap s c End (slot_at table place) live 0 n (after_remove lost more w t live) d m e (slot_within s (reverse m) l table place kn.table kn.place) (λ z lz sz.
          let kz = known_before s key table place b pr (since_before sz) lz kn in
          let az = at_since t (reverse m) (reverse z) sz lz a in (
            (λ now.
                let st : place_in s.geometry (reverse z) table place ≡ Full Live b = ap content now ∙ lw in
                let ho = live_holder s (reverse z) lz key table place b pr kz st in
                let me = remove_meets s c (reverse z) lz key table place b pr ho st in (
                  (me, mild (ap uses_lock (remove_kind s c (reverse z) lz key table place b pr ho st))),
                  λ r x. once_found s c End (word_at s.geometry (reverse z) (slot_at table place)) live n (changes_of s z) r (ended (Deleted w) t lost) (more t) now (by z lz az st ho r x),
                )),
            (λ other. once_lost s c End (word_at s.geometry (reverse z) (slot_at table place)) live n (changes_of s z) z (ended (Deleted w) t lost) (more t) other (again_safe t (changes_of s z) z lz az refl)),
          )))
        where
          by : (z : Entries) → (lz : Legal s (reverse z)) → At t (reverse z) → (st : place_in s.geometry (reverse z) table place ≡ Full Live b) → (ho : Holder s (reverse z) key table place b pr)
              → (r : Entries) → reverse r ≡ change_in s.geometry c (reverse z) (slot_at table place) 0 ∷ reverse z → End (changes_of s z) r (record { outcome = Deleted w; table = t; lost = lost })
          by z lz az st ho r x = subst (λ q. HasDeleted s c key tries from (changes_of s z) q (record { outcome = Deleted w; table = t; lost = lost })) (sym x) (record {
            start = a2.start;
            so = (
              record {
                past = reverse z;
                entry = e2;
                last = refl;
                client = refl;
                at = sym slot;
                is_remove = kd;
                new = refl;
                table = table;
                place = place;
                body = b;
                pair = pr;
                slot = slot;
                holder = ho;
                live = st;
                held = held;
                value = value;
                told = refl;
                change = ap (λ (v : List Change). changes s.geometry (reverse z) ++ v) (remove_change s c (reverse z) lz key table place b pr ho st);
              },
              few,
            );
            placed = a2.placed;
            keeps = a2.keeps;
          })
            where
              e2 : Entry
              e2 = change_in s.geometry c (reverse z) (slot_at table place) 0

              kd : kind s.geometry (reverse z) e2 ≡ Some Remove
              kd = remove_kind s c (reverse z) lz key table place b pr ho st

              a2 : At t (e2 ∷ reverse z)
              a2 = at_own t (reverse z) e2 (lz, remove_meets s c (reverse z) lz key table place b pr ho st) (λ k. let y = sym kd ∙ k in cc) (λ a j m. (kept_mine s c a j).silent (reverse z) e2 (lz, remove_meets s c (reverse z) lz key table place b pr ho st) (zero_silent s (reverse z) e2 refl) m) az

    -- the look has ended
    module _ (start_at : Past) (since_start : Before from start_at) where
      held_safe : (t : ℕ) (w : HeldWord) (x : Past) → Before from x → (d : List Change) (m : Entries) → HeldAt s key x (reverse m) t w → Legal s (reverse m) → At t (reverse m) → changes_of s m ≡ d
          → Goes (suc (suc n)) d m (on_end lost more t (Held w))
      held_safe t w x bx d m ha l a e =
          settle_safe s c End key t ha.place ha.body ha.pair w ha.at ha.holder ha.slot ha.word
          (At t) (λ y z b lz i. at_since t y z b lz i) (λ z v lz k lw kd i. at_own t z (change_in s.geometry c z (slot_at t ha.place) v) lz (λ q. let y = sym kd ∙ q in cc) (λ a j m. modest_mine s z (change_in s.geometry c z (slot_at t ha.place) v) lz (ap uses_fresh kd) c a j m) i)
          (suc n) (remove_word lost more w t) (more t)
          (λ live lw d2 m2 l2 b2 i2 e2. removed t w ha.place t ha.body ha.pair ha.slot ha.value held live lw d2 m2 l2
          (known_before s key t ha.place ha.body ha.pair b2 l2 (holder_known s ha.at (legal_before s b2 l2) key t ha.place ha.body ha.pair ha.holder)) i2 e2)
          (λ d2 m2 l2 b2 i2 e2. once_up d2 m2 (again_safe t d2 m2 l2 i2 e2))
          d m l ha.till a e
        where
          once_up : (d2 : List Change) (m2 : Entries) → Goes n d2 m2 (more t) → Goes (suc n) d2 m2 (more t)
          once_up d2 m2 x = once_more s c End n (suc n) d2 m2 (more t) (omega arith) x

          held : (content w.word ≡ Full Live ha.body) ⊎ (content w.word ≡ Full Copied ha.body)
          held = by (holder_home s ha.at (legal_before s ha.till l) key t ha.place ha.body ha.pair ha.holder).stands
            where
              stood : (mk : Mark) → place_in s.geometry ha.at t ha.place ≡ Full mk ha.body → content w.word ≡ Full mk ha.body
              stood mk p = ap content (sym ha.word ∙ ap (word_at s.geometry ha.at) ha.slot) ∙ p

              by : Stands s.geometry ha.at t ha.place ha.body → (content w.word ≡ Full Live ha.body) ⊎ (content w.word ≡ Full Copied ha.body)
              by (as_live p) = inl (stood Live p)
              by (as_copy p mo) = inr (stood Copied p)

      end_safe : (x : Past) → Before from x → (p : Passed) (end : PassEnd) (d : List Change) (m : Entries) → EndsSo s key Look x (reverse m) p end → Legal s (reverse m) → At p.table (reverse m) → changes_of s m ≡ d
          → Goes (suc (suc n)) d m (on_end lost more p.table end)
      end_safe x bx p (Held w) d m so l a e = held_safe p.table w x bx d m so l a e
      end_safe x bx p Clear d m so l a e = record { start = a.start; so = (passed_between s key None bx here so.clear.passed, e, few); placed = a.placed; keeps = a.keeps }
      end_safe x bx p Gone d m so l a e = absurd so
      end_safe x bx p Spent d m so l a e = absurd so

    -- what is kept through the look
    record Kept (q y : Past) : Type 0 where
      legal : Legal s y
      since : Before q y
      placed : PlacedNone s c from y
      keeps : Keeps y

    from_safe : (start : Option ℕ) (d : List Change) (l : Entries) → Legal s (reverse l) → Before from (reverse l) → PlacedNone s c from (reverse l) → Keeps (reverse l) → MayBegin s key Look (reverse l) start → changes_of s l ≡ d
        → Goes (round + n) d l (bind (pass (look_job g key h) start) (after_look lost more))
    from_safe start d l lg bf pl kp beg e =
        subst (λ v. Goes v d l (bind (pass (look_job g key h) start) (after_look lost more))) (sum (most_verbs g.max_depth) n)
        (once_bind s c End (pass (look_job g key h) start) (after_look lost more) (λ y p. HasPassed s key Look (reverse l) y p × Kept (reverse l) y) (most_verbs g.max_depth) (suc (suc n)) d l
        (look-within g key h start) e
        (look_calm s c g key h job start (reverse l) lg beg (Kept (reverse l)) (λ y en ly o k. record { legal = ly; since = later k.since; placed = placed_more s c from y en (λ x q. o x) k.placed; keeps = λ a j m. mine_others s y en ly c a j o (k.keeps a j m) }) (record { legal = lg; since = here; placed = pl; keeps = kp }))
        (λ m p d2 x e2. end_safe (reverse l) bf x.0.opened (Before-trans bf x.0.from_then) p p.end d2 m x.0.so x.1.legal (record { since = Before-trans bf x.1.since; start = x.0.start; placed = x.1.placed; keeps = x.1.keeps }) e2))
      where
        sum : (k n : ℕ) → k + suc (suc n) ≡ k + 2 + n
        sum k n = omega arith

  -- where the delete starts again, or may lose no more
  again_safe : (left lost : ℕ) → lost + left ≡ tries → GoesAgain (left * round) (again (look_job g key h) left lost)
  unfolding again
  again_safe zero lost e t d l lg a q = record { start = a.start; so = (q, zero_more lost e); placed = a.placed; keeps = a.keeps }
    where
      zero_more : (x : ℕ) → x + 0 ≡ tries → x ≡ tries
      zero_more x e = omega arith
  again_safe (suc left) lost e t d l lg a q =
      subst (λ v. Goes v d l (again (look_job g key h) (suc left) lost t)) (one_more left round)
      (from_safe (left * round) lost (omega arith) (again (look_job g key h) left (lost + 1)) (again_safe left (lost + 1) (omega arith)) (Some t) d l lg a.since a.placed a.keeps a.start q)

-- each delete is safe
pub delete_is_safe : DeleteIsSafe
delete_is_safe g key h tries some start s c log l job b =
    subst (λ v. SafeOnce s c v (changes_of s log) log (delete (look_job g key h) tries start) (λ before log2 e. HasDeleted s c key tries (reverse log) before (reverse log2) e)) (all_rounds tries (delete_round g.max_depth) some)
    (from_safe s c g key h job tries (reverse log) ((tries - 1) * delete_round g.max_depth) 0 (omega arith) (again (look_job g key h) (tries - 1) 1) (again_safe s c g key h job tries (reverse log) (tries - 1) 1 (omega arith)) start (changes_of s log) log l here (placed_none s c (reverse log)) (λ a n m. m) b refl)

-- a program that is the delete is safe as the delete is, and has its bound
pub safe_as_delete : (g : Geometry) (key : List ℕ) (h tries : ℕ) → 1 ≤ tries → (start : Option ℕ) (program : Prog DeleteEnd) → program ≡ delete (look_job g key h) tries start → IsSafeDelete g key h tries start program
safe_as_delete g key h tries some start program e = subst (IsSafeDelete g key h tries start) (sym e) (delete_is_safe g key h tries some start)

pub within_as_delete : (g : Geometry) (key : List ℕ) (h tries : ℕ) → 1 ≤ tries → (start : Option ℕ) (program : Prog DeleteEnd) → program ≡ delete (look_job g key h) tries start → Within (delete_verbs g.max_depth tries) program
within_as_delete g key h tries some start program e = subst (Within (delete_verbs g.max_depth tries)) (sym e) (delete-within g key h tries some start)
