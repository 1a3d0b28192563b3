-- A word is as it was, or the entry changes it as its role allows: the one lemma behind every fact that an entry does not
-- touch.
use Rattle.std.specs.Prelude.{◌≡◌, ◌≢◌, ℕ, Bool, true, false, ◌&&◌, ◌||◌, ◌==◌, [], ◌∷◌, Some, ◌⊎◌, refl}
use Rattle.std.proofs.Common.{sym, ◌∙◌, ap, subst, inl, inr, arith, ⊎_elim}
use Rattle.std.proofs.lemmas.Bool.Decides.{nat_tests}
use Rattle.node_words.specs.declared.geometry.Geometry.{Geometry}
use Rattle.node_words.specs.Roles.{Role, role_in}
use Rattle.verb_log.specs.declared.entry.Entry.{Entry}
use Rattle.verb_log.specs.Tables.{Past, word_at, table_of, role, judged_role, or_else, linked_by, is_taken, is_taken_by, moves_across, is_published, publishes}
use Rattle.race_laws.specs.Setting.{Setting}
use Rattle.race_laws.specs.Legal.{Meets}
use Rattle.race_laws.proofs.Step.{StepAt, step_of}

pub same_or_not : (a b : ℕ) → (a ≡ b) ⊎ (a ≢ b)
same_or_not a b = by_test (a == b) refl
  where
    by_test : (t : Bool) → (a == b) ≡ t → (a ≡ b) ⊎ (a ≢ b)
    by_test true q = inl (grind (arith, nat_tests, q))
    by_test false q = inr (grind (arith, nat_tests, q))

-- another word is as it was, and the entry's is the new one
pub word_kept : (g : Geometry) (past : Past) (e : Entry) (a : ℕ) → a ≢ e.at → word_at g (e ∷ past) a ≡ word_at g past a
word_kept g past e a n = grind (arith, nat_tests)

pub word_put : (g : Geometry) (past : Past) (e : Entry) (a : ℕ) → a ≡ e.at → word_at g (e ∷ past) a ≡ e.new
word_put g past e a q = grind (arith, nat_tests)

-- the frame: an entry leaves a word, or is on it and does what its role allows
pub touched : (s : Setting) (past : Past) (e : Entry) (a : ℕ) (r : Role) → Meets s past e → judged_role s.geometry past a ≡ r → (word_at s.geometry (e ∷ past) a ≡ word_at s.geometry past a) ⊎ ((a ≡ e.at) × StepAt s past e r)
touched s past e a r m h =
    ⊎_elim (λ (q : a ≡ e.at). inr (q, subst (StepAt s past e) (sym (ap (judged_role s.geometry past) q) ∙ h) (step_of s past e m))) (λ q. inl (word_kept s.geometry past e a q)) (same_or_not a e.at)

-- a table of the log stays where it is
pub table_stays : (g : Geometry) (past : Past) (e : Entry) (a t : ℕ) → table_of g past a ≡ Some t → table_of g (e ∷ past) a ≡ Some t
table_stays g past e a t h = ap (λ o. or_else o (linked_by g e (judged_role g past e.at) a)) h

pub role_stays : (g : Geometry) (past : Past) (e : Entry) (a t : ℕ) → table_of g past a ≡ Some t → role g (e ∷ past) a ≡ role g past a
role_stays g past e a t h = ap (role_in g a) (table_stays g past e a t h ∙ sym h)

-- what was taken or published stays so
pub taken_stays : (g : Geometry) (past : Past) (e : Entry) (a : ℕ) → is_taken g past a ≡ true → is_taken g (e ∷ past) a ≡ true
taken_stays g past e a h = or_right (moves_across g e (judged_role g past e.at) a) (is_taken g past a) h
  where
    or_right : (x y : Bool) → y ≡ true → (x || y) ≡ true
    or_right true y h = refl
    or_right false y h = h

pub published_stays : (g : Geometry) (past : Past) (e : Entry) (a : ℕ) → is_published g past a ≡ true → is_published g (e ∷ past) a ≡ true
published_stays g past e a h = or_right (publishes g e (role g past e.at) a) (is_published g past a) h
  where
    or_right : (x y : Bool) → y ≡ true → (x || y) ≡ true
    or_right true y h = refl
    or_right false y h = h

-- of an or one side holds
pub or_either : (x y : Bool) → (x || y) ≡ true → (x ≡ true) ⊎ (y ≡ true)
or_either true y h = inl refl
or_either false y h = inr h

pub and_both : (x y : Bool) → (x && y) ≡ true → (x ≡ true) × (y ≡ true)
and_both true true h = (refl, refl)
and_both true false h = cc
and_both false y h = cc

pub taken_by_someone : (g : Geometry) (past : Past) (c a : ℕ) → is_taken_by g past c a ≡ true → is_taken g past a ≡ true
taken_by_someone g [] c a h = h
taken_by_someone g (e ∷ past) c a h =
    ⊎_elim (λ (x : (moves_across g e (judged_role g past e.at) a && (e.client == c)) ≡ true). or_left (moves_across g e (judged_role g past e.at) a) (is_taken g past a) (and_both _ (e.client == c) x).0)
    (λ (y : is_taken_by g past c a ≡ true). taken_stays g past e a (taken_by_someone g past c a y)) (or_either (moves_across g e (judged_role g past e.at) a && (e.client == c)) (is_taken_by g past c a) h)
  where
    or_left : (x y : Bool) → x ≡ true → (x || y) ≡ true
    or_left true y h = refl
    or_left false y h = cc
