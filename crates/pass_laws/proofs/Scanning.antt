-- The candidates of one table, in order.
use Rattle.std.specs.Prelude.{◌≡◌, ℕ, ◌≤◌, List, [], ◌∷◌, ◌++◌, map, Option, refl}
use Rattle.std.proofs.Common.{sym, ◌∙◌, inl, inr, append-nil}
use Rattle.kv_block.specs.Bytes.{AreBytes}
use Rattle.node_words.specs.Addresses.{slot_at}
use Rattle.verb_log.specs.Tables.{Past, Before, here, word_at}
use Rattle.verb_log.proofs.Positions.{Before-trans}
use Rattle.verbs.specs.Programs.{Prog}
use Rattle.race_laws.specs.Setting.{Setting, hash, places}
use Rattle.race_laws.specs.Standing.{IsIn}
use Rattle.race_laws.specs.Looks.{Reading, Searched, InOrder, AllMiss, Passing}
use Rattle.race_laws.specs.Legal.{Legal}
use Rattle.race_laws.proofs.Passes.{in_order_span}
use Rattle.race_laws.proofs.Presence.{candidate_place}
use Rattle.pass_laws.proofs.ListPass.{Mode, Shown, Seen, Ended, own_of, scan}
use Rattle.log_facts.specs.Start.{Start}
use Rattle.pass_laws.proofs.ListEnd.{Reads, Saw, PassEnd, SafeDrops}
use Rattle.log_facts.proofs.Growing.{since_before}
use Rattle.log_facts.proofs.Starts.{start_table, start_before}
use Rattle.pass_laws.proofs.Seen.{saw_push, in_order_push, all_miss_push, places_push, PrevSaw}
use Rattle.log_facts.proofs.Within.{slot_within}
use Rattle.pass_laws.proofs.Judging.{aim_of, judge_safe}

module _ (s : Setting) (c : ℕ) (key : List ℕ) (bytes : AreBytes key) (mode : Mode) (reads : Reads mode) (from : Past) (prev : Option Searched) (shown : Option Seen) (t : ℕ) (since : Past) (ps : PrevSaw s.geometry prev shown) (pass : Passing InOrder s key (own_of mode) from prev t since) (st : Start s.geometry since (hash s key) t) where
  -- what follows a whole table that misses is safe
  abbrev pub After : List ℕ → (List Shown → ℕ → Prog Ended) → Type 0
  After whole next =
      (seen : List Reading) (words : List Shown) (base q : Past) (left : ℕ) → InOrder since seen base → Before base q → Legal s q → Saw s.geometry t seen words
      → AllMiss s key (own_of mode) prev t seen → map (λ (r : Reading). r.place) seen ≡ whole → 1 ≤ left → SafeDrops mode s c q (next words left) (PassEnd s key mode from)

  pub scan_safe : (some whole : List ℕ) → ((p : ℕ) → IsIn p some → IsIn p (places s key)) → (seen : List Reading) (words : List Shown) (base q : Past) (left : ℕ) → InOrder since seen base → Before base q → Legal s q → Saw s.geometry t seen words → AllMiss s key (own_of mode) prev t seen → map (λ (r : Reading). r.place) seen ++ some ≡ whole → 1 ≤ left → (next : List Shown → ℕ → Prog Ended) → After whole next → SafeDrops mode s c q (scan s.geometry (aim_of s key) mode shown t some words left next) (PassEnd s key mode from)
  scan_safe [] whole cand seen words base q left io bq l saw miss all lv next f = f seen words base q left io bq l saw miss (sym (append-nil _) ∙ all) lv
  scan_safe (p ∷ some) whole cand seen words base q left io bq l saw miss all lv next f =
      let bs = in_order_span since seen base io in
      let cp = cand p (inl refl) in (
        slot_within s q l t p (start_table s q l (hash s key) t (start_before s (Before-trans bs bq) l (hash s key) t st)) (candidate_place s key p cp),
        λ z lz sz.
            let bz = Before-trans bq (since_before sz) in
            judge_safe s c key bytes mode reads from prev shown t since ps pass p cp base bs left (word_at s.geometry z (slot_at t p)) z z bz here lz refl
            (start_before s (Before-trans bs bz) lz (hash s key) t st) (inl lv)
            (λ word left2. scan s.geometry (aim_of s key) mode shown t some (words ++ record { place = p; word = word } ∷ []) left2 next)
            (λ r q2 word left2 br rq l2 wd m lv2.
            let this : Reading = record { place = p; at = r } in
            scan_safe some whole (λ x h. cand x (inr h)) (seen ++ this ∷ []) (words ++ record { place = p; word = word } ∷ []) r q2 left2
            (in_order_push since seen base io this r br here) rq l2 (saw_push s.geometry t seen words saw this (record { place = p; word = word }) refl wd)
            (all_miss_push s key (own_of mode) prev t seen miss this m) (places_push seen this some ∙ all) lv2 next f),
      )
