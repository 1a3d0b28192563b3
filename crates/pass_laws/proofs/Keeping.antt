-- What is kept through a program: facts that entries beside keep, through a call's part; and facts that entries which publish
-- nothing keep, through a pass.
use Rattle.std.specs.Prelude.{◌≡◌, ◌≢◌, ℕ, ◌∷◌}
use Rattle.std.proofs.Common.{ap}
use Rattle.verb_log.specs.declared.entry.Entry.{Entry}
use Rattle.verb_log.specs.Tables.{Past}
use Rattle.verb_log.specs.Changes.{changes_by}
use Rattle.verbs.specs.Programs.{Prog}
use Rattle.race_laws.specs.Setting.{Setting}
use Rattle.race_laws.specs.Legal.{Legal}
use Rattle.log_facts.specs.Beside.{Firm, other, mild, uses_lock}
use Rattle.log_facts.proofs.Silent.{Kept, zero_silent}
use Rattle.pass_text.specs.declared.job.PassMode.{PassMode}
use Rattle.pass_text.specs.declared.job.PassMode.TheVariants.{Look, Sweep, Walk}
use Rattle.pass_laws.specs.SafeIn.{Calmly, SafeIn}
use Rattle.pass_laws.specs.Drops.{Drops}
use Rattle.pass_laws.proofs.Rules.{Holds, by_kept}

-- a drop changes nothing in the map, and uses no lock
pub drop_calmly : (s : Setting) (c : ℕ) (pm : PassMode) (q : Past) (e : Entry) → Drops pm s c q e → Calmly s c q e
drop_calmly s c Look q e d = absurd d
drop_calmly s c (Sweep own n) q e d = (ap (changes_by s.geometry q e) d.0, mild (ap uses_lock d.0))
drop_calmly s c Walk q e d = absurd d

-- a fact that entries beside keep is kept through a part of a call
pub firm_holds : (s : Setting) (c : ℕ) (P : Past → Type 0) → Firm s c P → Holds Calmly s c P
firm_holds s c P f = record { others = λ q e l o h. f q e l (other o) h; own = λ q e l r h. f q e l r.1 h }

pub firm_kept : {A : Type 0} (s : Setting) (c : ℕ) (P : Past → Type 0) → Firm s c P → (p : Past) (prog : Prog A) (End : Past → A → Type 0) → P p → SafeIn s c p prog End → SafeIn s c p prog (λ q a. End q a × P q)
firm_kept s c P f p prog End h x = by_kept Calmly s c P (firm_holds s c P f) p prog End h x

-- a fact that entries of others keep, and own entries that publish nothing, is kept through a pass
pub drops_holds : (s : Setting) (c : ℕ) (pm : PassMode) (P : Past → Type 0) → Kept s c P → Holds (Drops pm) s c P
drops_holds s c pm P k = record { others = k.others; own = λ q e l r h. k.silent q e l (zero_silent s q e (zero pm q e r)) h }
  where
    zero : (m : PassMode) (q : Past) (e : Entry) → Drops m s c q e → e.new ≡ 0
    zero Look q e r = absurd r
    zero (Sweep own left) q e r = r.1
    zero Walk q e r = absurd r

-- a fact that entries of others keep is kept through a look
pub look_holds : (s : Setting) (c : ℕ) (P : Past → Type 0) → ((q : Past) (e : Entry) → Legal s (e ∷ q) → e.client ≢ c → P q → P (e ∷ q)) → Holds (Drops Look) s c P
look_holds s c P k = record { others = k; own = λ q e l r h. absurd r }
