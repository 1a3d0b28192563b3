-- Seats that workers give back.
use Rattle.std.specs.Prelude.{◌≡◌, ℕ, zero, suc, ◌+◌, ◌<◌, List, [], ◌∷◌, ◌++◌, length, take, drop, slice_set, refl}
use Rattle.std.proofs.Common.{sym, ◌∙◌, ap, subst, arith}
use Rattle.map_model.specs.declared.calls.Call.{Call}
use Rattle.play_report.specs.declared.report.Line.{Line}
use Rattle.verbs.specs.Logs.{Entries}
use Rattle.script_value.specs.Content.{calls_at}
use Rattle.client_seat.specs.Seated.{Home, Seated}
use Rattle.call_texts.specs.State.{State}
use Rattle.call_machine.specs.Fresh.{fresh_state}
use Rattle.running_client.specs.Points.{MadeNone, none_yet}
use Rattle.run_laws.proofs.Living.{lives_seat}
use Rattle.running_play.specs.declared.worker.Worked.{Worked}
use Rattle.running_play.specs.Worked.{Tells, all_told, one_open}
use Rattle.running_play.specs.GivenBack.{AreNumbered, WorkersHaveRun}

-- the last of numbered seats
pub numbered_last : (home : Home) (n : ℕ) (all : List Worked) (w : Worked) → AreNumbered home n (all ++ w ∷ []) → AreNumbered home n all × ((w.seat.home ≡ home) × (w.seat.client ≡ n + length all))
numbered_last home n [] w h = (tt, (h.0, h.1 ∙ plus n))
  where
    plus : (x : ℕ) → x ≡ x + 0
    plus x = omega arith
numbered_last home n (x ∷ all) w h =
    let r = numbered_last home (n + 1) all w h.2 in
    ((h.0, h.1, r.0), (r.1.0, r.1.1 ∙ shift n (length all)))
  where
    shift : (x y : ℕ) → x + 1 + y ≡ x + suc y
    shift x y = omega arith

-- a write at the end of the first part
pub set_front : {A : Type 0} (ps rest : List A) (m : ℕ) (x : A) → m < length ps → slice_set (take (m + 1) ps ++ rest) m x ≡ take m ps ++ x ∷ rest
set_front [] rest m x low = absurd (omega arith)
set_front {A = A} (p ∷ ps) rest zero x low = refl_at
  where
    refl_at : slice_set (take (zero + 1) (p ∷ ps) ++ rest) zero x ≡ x ∷ rest
    refl_at = refl
set_front {A = A} (p ∷ ps) rest (suc m) x low =
    let k : suc m + 1 ≡ suc (m + 1) = omega arith in
    ap (λ n. slice_set (take n (p ∷ ps) ++ rest) (suc m) x) k ∙ ap (λ l. p ∷ l) (set_front ps rest m x (omega arith))

-- in a call that was left a client has made no change
left_none : (calls : List Call) (answered : ℕ) (last next : Seated) (kept : State) (more : List Line) (home : Home) (c : ℕ) → last.home ≡ home → last.client ≡ c → Tells calls answered last kept next more → MadeNone home.setting c last.front next.front
left_none calls answered last next kept more home c here own all_told = none_yet
left_none calls answered last next kept more home c here own (one_open call next2 at stopped longer) =
    subst (λ (h : Home). MadeNone h.setting c last.front next.front) here (subst (λ (n : ℕ). MadeNone last.home.setting n last.front next.front) own stopped.none)

pub workers_have_run : WorkersHaveRun
workers_have_run home script seat next lines here front h =
    let done = h.done in
    let calls = calls_at script.content seat.client in
    let first = fresh_state home.setting.geometry seat.client script.tries in
    let is = lives_seat calls seat first done.answered done.last done.kept done.answers done.lives in
    record {
      begin = seat;
      home_is = here;
      client = sym h.client;
      none = subst (λ (l : Entries). MadeNone home.setting next.client [] l) (sym front) none_yet;
      first = first;
      many = done.answered;
      last = done.last;
      kept = done.kept;
      lives = done.lives;
      left = left_none calls done.answered done.last next done.kept done.more home next.client (is.0 ∙ here) (is.1 ∙ sym h.client) done.tells;
    }

-- the last of the places
pub set_end : {A : Type 0} (xs ps : List A) (x : A) → length ps ≡ length xs + 1 → slice_set (xs ++ drop (length xs) ps) (length xs) x ≡ xs ++ x ∷ []
set_end [] [] x long = absurd (omega arith)
set_end [] (p ∷ []) x long = refl
set_end [] (p ∷ q ∷ ps) x long = absurd (omega arith)
set_end (y ∷ xs) [] x long = absurd (omega arith)
set_end (y ∷ xs) (p ∷ ps) x long = ap (λ l. y ∷ l) (set_end xs ps x (omega arith))
