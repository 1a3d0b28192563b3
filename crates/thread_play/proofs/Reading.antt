-- The next words that a client reads when all others have ended.
use Rattle.std.specs.Prelude.{◌≡◌, ◌≢◌, ℕ, suc, ◌+◌, ◌<◌, List, [], ◌∷◌, ◌++◌, refl}
use Rattle.std.proofs.Common.{sym, ◌∙◌, ap, subst, arith}
use Rattle.node_words.specs.Addresses.{node_at}
use Rattle.node_words.specs.declared.geometry.Geometry.{Geometry}
use Rattle.verbs.specs.Logs as logs
use Rattle.verbs.specs.Logs.{Entries, Begins, Longer, word}
use Rattle.verbs.proofs.Growth.{begins-then, longer-begins, longer-then}
use Rattle.race_laws.specs.Setting.{Setting}
use Rattle.race_laws.specs.Legal.{MayFollow}
use Rattle.client_seat.specs.Rule.{OfSeats}
use Rattle.client_seat.specs.Seated.{Home, Seated}
use Rattle.run_laws.specs.Whole.{HasMet}
use Rattle.run_laws.proofs.Looks.{still}
use Rattle.play_ends.specs.Nexts.{nexts_of}
use Rattle.thread_play.specs.Seen.{ReadsNext, ReadNexts, read_none, read_more}

-- what is known of the seat after so many reads
pub record Reading (first : Seated) (seat : Seated) : Type 0 where
  pub home : seat.home ≡ first.home
  pub client : seat.client ≡ first.client
  pub longer : Longer (MayFollow first.home.setting) first.client first.front seat.front

pub reading : (first : Seated) (n : ℕ) (seat : Seated) (words : List ℕ) → ReadNexts first n seat words → Reading first seat
reading first n seat words read_none = record { home = refl; client = refl; longer = logs.same }
reading first n2 seat2 words2 (read_more {n = n} {seat = seat} {words = words} next found reads one) =
    let r = reading first n seat words reads in
    record {
      home = one.home ∙ r.home;
      client = one.client ∙ r.client;
      longer = longer-then (MayFollow first.home.setting) first.client first.front seat.front next.front r.longer (as_first seat next r one.longer);
    }
  where
    as_first : (seat next : Seated) → Reading first seat → Longer (MayFollow seat.home.setting) seat.client seat.front next.front → Longer (MayFollow first.home.setting) first.client seat.front next.front
    as_first seat next r l = subst (λ (c : ℕ). Longer (MayFollow first.home.setting) c seat.front next.front) r.client (subst (λ (h : Home). Longer (MayFollow h.setting) seat.client seat.front next.front) r.home l)

-- who has met all others reads the words of one log
pub reads_all : (s : Setting) (seats : ℕ) (log met : Entries) (first : Seated) → first.home.setting ≡ s → OfSeats seats log → HasMet s (λ c. (c < seats) × (c ≢ first.client)) log met → Begins met first.front
    → (n : ℕ) (seat : Seated) (words : List ℕ) → ReadNexts first n seat words → Begins seat.front log → (seat.front ≡ first.front) × (words ≡ nexts_of n s.geometry first.front)
reads_all s seats log met first is known others begun n seat words read_none end = (refl, refl)
reads_all s seats log met first is known others begun n2 seat2 words2 (read_more {n = n} {seat = seat} {words = words} next found reads one) end =
    let r = reading first n seat words reads in
    let longer : Longer (MayFollow s) first.client seat.front next.front =
    subst (λ (t : Setting). Longer (MayFollow t) first.client seat.front next.front) is
    (subst (λ (c : ℕ). Longer (MayFollow first.home.setting) c seat.front next.front) r.client (subst (λ (h : Home). Longer (MayFollow h.setting) seat.client seat.front next.front) r.home one.longer)) in
    let before = begins-then seat.front next.front log (longer-begins (MayFollow s) first.client seat.front next.front longer) end in
    let x = reads_all s seats log met first is known others begun n seat words reads before in
    let same : next.front ≡ seat.front = still s seats first.client log met seat.front next.front known others (subst (Begins met) (sym x.0) begun) longer end in
    let all = same ∙ x.0 in
    let sizes : seat.home.setting.geometry ≡ s.geometry = ap (λ (h : Home). h.setting.geometry) r.home ∙ ap (λ (t : Setting). t.geometry) is in
    (all, (λ i. x.1 i ++ word_at seat next found one sizes all i ∷ []) ∙ sym (one_more n s.geometry first.front))
  where
    word_at : (seat next : Seated) (found : ℕ) → ReadsNext seat n next found → seat.home.setting.geometry ≡ s.geometry → next.front ≡ first.front → found ≡ word s.geometry first.front (node_at s.geometry n)
    word_at seat next found one sizes all = one.is ∙ ap (λ (g : Geometry). word g next.front (node_at g n)) sizes ∙ ap (λ (l : Entries). word s.geometry l (node_at s.geometry n)) all

    one_more : (k : ℕ) (g : Geometry) (l : Entries) → nexts_of (k + 1) g l ≡ nexts_of k g l ++ word g l (node_at g k) ∷ []
    one_more k g l = ap (λ (j : ℕ). nexts_of j g l) (next_is k)
      where
        next_is : (j : ℕ) → j + 1 ≡ suc j
        next_is j = omega arith
