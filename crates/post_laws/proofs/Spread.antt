-- The tables that a posted look has come through, whose readings stand in any order.
use Rattle.std.specs.Prelude.{◌≡◌, ℕ, List, [], ◌∷◌, Option, Some}
use Rattle.std.proofs.Common.{sym, subst}
use Rattle.bucket_group.proofs.ExitLaws.{exit-below}
use Rattle.verb_log.specs.Tables.{Past, Before}
use Rattle.verb_log.proofs.Positions.{Before-trans}
use Rattle.race_laws.specs.Setting.{Setting, hash}
use Rattle.race_laws.specs.Standing.{IsTable, IsIn}
use Rattle.race_laws.specs.Looks.{Reading, Searched, Between, Passing, begins, goes_on}
use Rattle.race_laws.specs.Legal.{Legal}
use Rattle.race_laws.proofs.Positions.{legal_before}
use Rattle.race_laws.proofs.Covers.{table_before}
use Rattle.race_laws.proofs.Opening.{splits}
use Rattle.race_laws.proofs.Chain.{born_at, chain_table}
use Rattle.race_laws.proofs.Passes.{between_span}
use Rattle.race_laws.proofs.Tracks.{reading_stands}
use Rattle.log_facts.proofs.Passings.{Behind}

-- a table that a posted look has come to is one of the log, and the table before it is its parent
pub spread_table : (s : Setting) (key : List ℕ) (own : Option ℕ) (from : Past) (prev : Option Searched) (t : ℕ) (since : Past) → Legal s since → Passing Between s key own from prev t since → IsTable s.geometry since t
spread_table s key own from prev t since l (begins u at b c f) = chain_table s since l (hash s key) t c
spread_table s key own from prev t since l (goes_on v u from2 end seen i c k mi ex g ch n) =
    let b = between_span from2 seen since mi.stand in
    let tb = table_before s.geometry b u u (spread_table s key own from v u from2 (legal_before s b l) k) in
    ((splits s since l).born u i t tb (exit-below (hash s key) (born_at s.geometry since u) i ex) ch n).table

pub spread_behind : (s : Setting) (key : List ℕ) (own : Option ℕ) (from : Past) (prev : Option Searched) (t : ℕ) (since : Past) → Legal s since → Passing Between s key own from prev t since → (before : Searched) → prev ≡ Some before → (x : Reading) → IsIn x before.seen → Behind s before t since x
spread_behind s key own from prev t since l (begins u at b c f) before e x a = absurd (cc)
spread_behind s key own from prev t since l (goes_on v u from2 end seen i c k mi ex g ch n) before e x a = subst (λ z. Behind s z t since x) (same e) (by (subst (λ (z : Searched). IsIn x z.seen) (sym (same e)) a))
  where
    this : Searched
    this = record { table = u; seen = seen }

    same : Some this ≡ Some before → this ≡ before
    same e = cc

    by : IsIn x seen → Behind s this t since x
    by a =
        let b = between_span from2 seen since mi.stand in
        let st = reading_stands from2 seen since mi.stand x a in
        let t0 = spread_table s key own from v u from2 (legal_before s b l) k in
        let born = (splits s since l).born u i t (table_before s.geometry b u u t0) (exit-below (hash s key) (born_at s.geometry since u) i ex) ch n in
        record { earlier = st.1; table = table_before s.geometry st.0 u u t0; parent = born.parent }

-- readings from a later position on, up to an earlier one
pub between_from : (a b : Past) (seen : List Reading) (to : Past) → Before a b → Between b seen to → Between a seen to
between_from a b [] to h w = Before-trans h w
between_from a b (x ∷ seen) to h w = (Before-trans h w.0, w.1, between_from a b seen to h w.2)

pub between_to : (a : Past) (seen : List Reading) (to end : Past) → Before to end → Between a seen to → Between a seen end
between_to a [] to end h w = Before-trans w h
between_to a (x ∷ seen) to end h w = (w.0, Before-trans w.1 h, between_to a seen to end h w.2)
