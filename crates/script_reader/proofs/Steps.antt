-- What a step gave, step by step.
use Rattle.std.proofs.Common.{◌≡◌, Bool, true, false, List, [], ◌∷◌, Option, Some, None, Result, Ok, Err, refl, ap, if◌then◌else◌}
use Rattle.spelling.specs.Words.{is_empty}
use Rattle.script_reader.specs.declared.fault.ScriptKind.{ScriptKind}
use Rattle.script_reader.specs.Rules.{◌>>=◌, or_else}

-- the value that a step gave, and what was made of it
pub ok_bind : {E A B : Type 0} (r : Result A E) (f : A → Result B E) (y : B) → (r >>= f) ≡ Ok y → (x : A) × (r ≡ Ok x) × (f x ≡ Ok y)
ok_bind (Ok x) f y h = (x, refl, h)
ok_bind (Err e) f y h = absurd (by h)
  where
    by : Err e ≡ Ok y → ⊥
    by q = cc

pub ok_same : {E A : Type 0} (x y : A) → ◌≡◌ {A = Result A E} (Ok x) (Ok y) → x ≡ y
ok_same x y h = cc

pub err_ok : {E A : Type 0} (e : E) (y : A) → ◌≡◌ {A = Result A E} (Err e) (Ok y) → ⊥
err_ok e y h = cc

pub ok_or_else : {A : Type 0} (k : ScriptKind) (o : Option A) (x : A) → or_else k o ≡ Ok x → o ≡ Some x
ok_or_else k (Some y) x h = ap Some (ok_same y x h)
ok_or_else k None x h = absurd (err_ok k x h)

-- a choice that gave an answer
pub ok_unless : {A : Type 0} (b : Bool) (k : ScriptKind) (r : Result A ScriptKind) (x : A) → (if b then Err k else r) ≡ Ok x → (b ≡ false) × (r ≡ Ok x)
ok_unless true k r x h = absurd (err_ok k x h)
ok_unless false k r x h = (refl, h)

pub ok_if : {A : Type 0} (b : Bool) (k : ScriptKind) (r : Result A ScriptKind) (x : A) → (if b then r else Err k) ≡ Ok x → (b ≡ true) × (r ≡ Ok x)
ok_if true k r x h = (refl, h)
ok_if false k r x h = absurd (err_ok k x h)

-- an empty list
pub nothing : {A : Type 0} (xs : List A) → is_empty xs ≡ true → xs ≡ []
nothing [] h = refl
nothing (x ∷ xs) h = absurd (by h)
  where
    by : false ≡ true → ⊥
    by e = cc
