-- Seats that workers give back, and what their calls are in the run of the closed memory.
use Rattle.std.specs.Prelude.{◌≡◌, ℕ, ◌+◌, List, [], ◌∷◌, map, Option, Some}
use Rattle.play_report.specs.declared.report.Line.{Line}
use Rattle.script_value.specs.Content.{ScriptValue, calls_at}
use Rattle.client_seat.specs.Seated.{Home, Seated}
use Rattle.run_laws.specs.Headline.{HasRun}
use Rattle.running_play.specs.Worked.{HasWorked}
use Rattle.running_play.specs.declared.worker.Worked.{Worked}

-- seats of the memory with the numbers from this one on, in order
abbrev pub AreNumbered : Home → ℕ → List Worked → Type 0
AreNumbered home n [] = Unit {0}
AreNumbered home n (w ∷ all) = (w.seat.home ≡ home) × (w.seat.client ≡ n) × AreNumbered home (n + 1) all

abbrev pub places_of : List Worked → List (Option Seated)
places_of all = map (λ (w : Worked). Some w.seat) all

-- a worker that began at a seat that had seen nothing is a client of the run, told by its answered calls
abbrev pub WorkersHaveRun : Type 0
WorkersHaveRun = (home : Home) (script : ScriptValue) (seat next : Seated) (lines : List Line) → seat.home ≡ home → seat.front ≡ [] → (h : HasWorked home script seat next lines)
    → HasRun home (record { calls = calls_at script.content seat.client; answers = h.done.answers; seat = next })
