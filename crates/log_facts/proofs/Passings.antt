-- The tables that a pass has come through: each is one of the log, a pass may start there, and it is the child of the table before
-- it; and what was looked for from one position on was looked for from each earlier one. Of every legal log.
use Rattle.std.specs.Prelude.{◌≡◌, ℕ, List, Option, Some, None, refl}
use Rattle.std.proofs.Common.{sym, ◌∙◌, ap, subst}
use Rattle.bucket_group.specs.ExitLevel.{exit_level}
use Rattle.bucket_group.proofs.ExitLaws.{exit-below}
use Rattle.verb_log.specs.Tables.{Past, Before}
use Rattle.verb_log.proofs.Positions.{Before-trans}
use Rattle.race_laws.specs.Setting.{Setting, hash}
use Rattle.race_laws.specs.Standing.{IsTable, header_in, IsFilling, IsIn}
use Rattle.race_laws.specs.Chains.{OnChain}
use Rattle.race_laws.specs.Looks.{Reading, Searched, InOrder, Passing, begins, goes_on, PassedBy}
use Rattle.race_laws.specs.Legal.{Legal}
use Rattle.race_laws.proofs.Positions.{legal_before}
use Rattle.race_laws.proofs.Covers.{table_before}
use Rattle.race_laws.proofs.Frames.{child_before}
use Rattle.race_laws.proofs.Opening.{splits}
use Rattle.race_laws.proofs.Chain.{born_at, born_before, chain_table, chain_before}
use Rattle.race_laws.proofs.Passes.{in_order_span}
use Rattle.race_laws.proofs.Tracks.{in_order_between, reading_stands}
use Rattle.race_laws.proofs.Homes.{parent_of}
use Rattle.log_facts.specs.Start.{Start, on_chain, below}
use Rattle.log_facts.specs.Passings.{searched_before, Under}
use Rattle.log_facts.proofs.Starts.{start_before, start_on}

-- a table that a pass has come to is one of the log, and the table before it is its parent
pub passing_table : (s : Setting) (key : List ℕ) (own : Option ℕ) (from : Past) (prev : Option Searched) (t : ℕ) (since : Past) → Legal s since → Passing InOrder s key own from prev t since → IsTable s.geometry since t
passing_table s key own from prev t since l (begins u at b c f) = chain_table s since l (hash s key) t c
passing_table s key own from prev t since l (goes_on v u from2 end seen i c k mi ex g ch n) =
    let b = in_order_span from2 seen since mi.stand in
    let tb = table_before s.geometry b u u (passing_table s key own from v u from2 (legal_before s b l) k) in
    ((splits s since l).born u i t tb (exit-below (hash s key) (born_at s.geometry since u) i ex) ch n).table

pub record Behind (s : Setting) (before : Searched) (t : ℕ) (since : Past) (x : Reading) : Type 0 where
  pub earlier : Before x.at since
  pub table : IsTable s.geometry x.at before.table
  pub parent : parent_of s.geometry since t ≡ before.table

pub passing_behind : (s : Setting) (key : List ℕ) (own : Option ℕ) (from : Past) (prev : Option Searched) (t : ℕ) (since : Past) → Legal s since → Passing InOrder s key own from prev t since → (before : Searched) → prev ≡ Some before → (x : Reading) → IsIn x before.seen → Behind s before t since x
passing_behind s key own from prev t since l (begins u at b c f) before e x a = absurd (cc)
passing_behind s key own from prev t since l (goes_on v u from2 end seen i c k mi ex g ch n) before e x a = subst (λ z. Behind s z t since x) (same e) (by (subst (λ (z : Searched). IsIn x z.seen) (sym (same e)) a))
  where
    this : Searched
    this = record { table = u; seen = seen }

    same : Some this ≡ Some before → this ≡ before
    same e = cc

    by : IsIn x seen → Behind s this t since x
    by a =
        let b = in_order_span from2 seen since mi.stand in
        let st = reading_stands from2 seen since (in_order_between from2 seen since mi.stand) x a in
        let t0 = passing_table s key own from v u from2 (legal_before s b l) k in
        let born = (splits s since l).born u i t (table_before s.geometry b u u t0) (exit-below (hash s key) (born_at s.geometry since u) i ex) ch n in
        record { earlier = st.1; table = table_before s.geometry st.0 u u t0; parent = born.parent }

pub passing_start : (s : Setting) (key : List ℕ) (own : Option ℕ) (from : Past) (prev : Option Searched) (t : ℕ) (since : Past) → Legal s since → Passing InOrder s key own from prev t since → Start s.geometry since (hash s key) t
passing_start s key own from prev t since l (begins u at b c f) = on_chain t c
passing_start s key own from prev t since l (goes_on v u from2 end seen i c k mi ex g ch n) =
    let b = in_order_span from2 seen since mi.stand in
    let st = start_before s b l (hash s key) u (passing_start s key own from v u from2 (legal_before s b l) k) in
    let e16 = exit-below (hash s key) (born_at s.geometry since u) i ex in
    below u i t (start_on s since l (hash s key) u i st e16 (λ z. n (sym ch ∙ z))) ex ch n

pub passing_under : (s : Setting) (key : List ℕ) (own : Option ℕ) (from : Past) (prev : Option Searched) (t : ℕ) (since : Past) → Legal s since → Passing InOrder s key own from prev t since → (u : ℕ) → searched_before prev ≡ Some u → Under s key since u t
passing_under s key own from prev t since l (begins v at b c f) u e = absurd (cc)
passing_under s key own from prev t since l (goes_on v w from2 end seen i c k mi ex g ch n) u e =
    let b = in_order_span from2 seen since mi.stand in
    let st = start_before s b l (hash s key) w (passing_start s key own from v w from2 (legal_before s b l) k) in
    let e16 = exit-below (hash s key) (born_at s.geometry since w) i ex in
    subst (λ y. Under s key since y t) (same w u e) (record { chain = start_on s since l (hash s key) w i st e16 (λ z. n (sym ch ∙ z)); level = i; exits = ex; child = ch; some = n })
  where
    same : (x y : ℕ) → Some x ≡ Some y → x ≡ y
    same x y h = cc

pub passing_first : (s : Setting) (key : List ℕ) (own : Option ℕ) (from : Past) (prev : Option Searched) (t : ℕ) (since : Past) → Passing InOrder s key own from prev t since → searched_before prev ≡ None → OnChain s.geometry since (hash s key) t × (IsFilling (header_in s.geometry since t) → ⊥)
passing_first s key own from prev t since (begins v at b c f) e = (c, f)
passing_first s key own from prev t since (goes_on v w from2 end seen i c k mi ex g ch n) e = absurd (cc)

pub under_before : (s : Setting) (key : List ℕ) {p q : Past} → Before p q → Legal s q → (u t : ℕ) → (x : Under s key p u t) → (y : Under s key q u t) × (y.level ≡ x.level)
under_before s key {p = p} b l u t x =
    let lp = legal_before s b l in
    let tb = chain_table s p lp (hash s key) u x.chain in
    let e16 = exit-below (hash s key) (born_at s.geometry p u) x.level x.exits in (
      record {
        chain = chain_before s b l (hash s key) u x.chain;
        level = x.level;
        exits = ap (exit_level (hash s key)) (born_before s b l u tb) ∙ x.exits;
        child = child_before s b l u x.level tb e16 (λ z. x.some (sym x.child ∙ z)) ∙ x.child;
        some = x.some;
      },
      refl,
    )

-- a pass from a position on is one from each earlier position on
pub passing_from : (s : Setting) (key : List ℕ) (own : Option ℕ) {p from : Past} → Before p from → (prev : Option Searched) (t : ℕ) (since : Past) → Passing InOrder s key own from prev t since → Passing InOrder s key own p prev t since
passing_from s key own b prev t since (begins u at x c f) = begins t since (Before-trans b x) c f
passing_from s key own b prev t since (goes_on v u from2 end seen i c k mi ex g ch n) = goes_on v u from2 since seen i t (passing_from s key own b v u from2 k) mi ex g ch n

-- .. and a whole pass is one up to each later position
pub passed_between : (s : Setting) (key : List ℕ) (own : Option ℕ) {p from q y : Past} → Before p from → Before q y → PassedBy InOrder s q from key own → PassedBy InOrder s y p key own
passed_between s key own b b2 w = record {
  prev = w.prev;
  table = w.table;
  since = w.since;
  passing = passing_from s key own b w.prev w.table w.since w.passing;
  seen = w.seen;
  end = w.end;
  misses = w.misses;
  up_to = Before-trans w.up_to b2;
  stays = w.stays;
  has_own = w.has_own;
}
