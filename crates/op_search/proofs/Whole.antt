-- A whole search, by the text.
use Rattle.std.specs.Prelude.{◌≡◌, ℕ, List, reverse, Option, Some, None, IsSome, refl}
use Rattle.std.proofs.Common.{sym, subst}
use Rattle.verb_log.specs.Tables.{Past, Before, here}
use Rattle.verb_log.proofs.Positions.{Before-trans}
use Rattle.verbs.specs.Programs.{Prog, next_act, mapped, Within}
use Rattle.race_laws.specs.Setting.{Setting}
use Rattle.race_laws.specs.Legal.{Legal}
use Rattle.log_facts.proofs.Passings.{passed_between}
use Rattle.pass_text.specs.declared.job.Job.{Job}
use Rattle.pass_text.specs.declared.job.PassMode.TheVariants.{Look}
use Rattle.pass_text.specs.declared.passed.Passed.{Passed}
use Rattle.pass_text.specs.declared.passed.PassEnd.{PassEnd}
use Rattle.pass_text.specs.declared.passed.PassEnd.TheVariants.{Held, Clear, Gone, Spent}
use Rattle.pass_text.specs.Pass.{pass}
use Rattle.pass_text.specs.Bound.{pass_verbs}
use Rattle.pass_text.proofs.Bounds.{pass-within}
use Rattle.pass_laws.specs.SafeIn.{SafeBy, Calmly, SafeIn}
use Rattle.pass_laws.specs.Drops.{Drops}
use Rattle.pass_laws.specs.HasPassed.{HasPassed, EndsSo}
use Rattle.pass_laws.specs.Law.{MayBegin, IsJobOf}
use Rattle.pass_laws.proofs.Bridge.{safe_in_order}
use Rattle.pass_laws.proofs.Keeping.{drop_calmly}
use Rattle.pass_laws.proofs.Rules.{by_weaker}
use Rattle.pass_laws.proofs.Whole.{pass_safe}
use Rattle.op_search.specs.declared.end.SearchEnd.{SearchEnd}
use Rattle.op_search.specs.Text.{found_by, found, search}
use Rattle.op_search.specs.Law.{AnswersSo, HasSearched, IsSafeSearch, SearchIsSafe}
use Rattle.op_search.proofs.Mapped.{Within-mapped, by_mapped}

-- what the end of a look says, of the whole search
module _ (s : Setting) (key : List ℕ) (from q : Past) (p : Passed) where
  so_answered : (opened : Past) → Before from opened → (end : PassEnd) → EndsSo s key Look opened q p end → AnswersSo s key from q p.table (found_by end)
  so_answered opened b (Held h) x = record { at = x.at; from_then = Before-trans b x.from_then; till = x.till; place = x.place; body = x.body; pair = x.pair; holder = x.holder; slot = x.slot; word = x.word; value = x.value }
  so_answered opened b Clear x = passed_between s key None b here x.clear.passed
  so_answered opened b Gone x = absurd x
  so_answered opened b Spent x = absurd x

  answered : HasPassed s key Look from q p → HasSearched s key from q (found p)
  answered x = record { start = x.start; so = so_answered x.opened x.from_then p.end x.so }

-- a search of any client: it makes no entry
pub search_safe : (s : Setting) (c : ℕ) (j : Job) → IsJobOf s j → j.mode ≡ Look → (start : Option ℕ) (q : Past) → Legal s q → MayBegin s j.key Look q start → SafeBy (Drops Look) s c q (search j start) (HasSearched s j.key q)
search_safe s c j job look start q l b =
    by_mapped (Drops Look) s c found q (pass j start) (HasSearched s j.key q)
    (subst (λ m. SafeBy (Drops m) s c q (pass j start) (λ y p. HasSearched s j.key q y (found p))) look
    (by_weaker (Drops j.mode) s c (Drops j.mode) (λ z e x. x) q (pass j start) (λ y p. HasPassed s j.key j.mode q y p) (λ y p. HasSearched s j.key q y (found p))
    (λ y p x. answered s j.key q y p (subst (λ m. HasPassed s j.key m q y p) look x))
    (pass_safe s c j job start q l (subst (λ m. MayBegin s j.key m q start) (sym look) b))))

-- .. as part of a call
pub search_calm : (s : Setting) (c : ℕ) (j : Job) → IsJobOf s j → j.mode ≡ Look → (start : Option ℕ) (q : Past) → Legal s q → MayBegin s j.key Look q start → SafeIn s c q (search j start) (HasSearched s j.key q)
search_calm s c j job look start q l b = by_weaker (Drops Look) s c Calmly (λ x e d. drop_calmly s c Look x e d) q (search j start) (HasSearched s j.key q) (HasSearched s j.key q) (λ n a h. h) (search_safe s c j job look start q l b)

pub search_is_safe : SearchIsSafe
search_is_safe j look start s c log l job b = safe_in_order s c log (search j start) (HasSearched s j.key (reverse log)) (search_calm s c j job look start (reverse log) l b)

-- a program that is the search is safe as the search is, and has its bound
pub safe_as_search : (j : Job) → j.mode ≡ Look → (start : Option ℕ) (program : Prog SearchEnd) → program ≡ search j start → IsSafeSearch j start program
safe_as_search j look start program e = subst (IsSafeSearch j start) (sym e) (search_is_safe j look start)

pub within_as_search : (j : Job) (start : Option ℕ) (program : Prog SearchEnd) → program ≡ search j start → Within (pass_verbs j) program
within_as_search j start program e = subst (Within (pass_verbs j)) (sym e) (Within-mapped found (pass_verbs j) (pass j start) (pass-within j start j.geometry.deep))

-- it has a verb
search_waits : (j : Job) (start : Option ℕ) → IsSome (next_act (search j start))
unfolding mapped
search_waits j None = refl
search_waits j (Some t) = refl

pub waits_as_search : (j : Job) (start : Option ℕ) (program : Prog SearchEnd) → program ≡ search j start → IsSome (next_act program)
waits_as_search j start program e = subst (λ p. IsSome (next_act p)) (sym e) (search_waits j start)
