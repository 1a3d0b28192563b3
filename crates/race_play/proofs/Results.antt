-- What holds of each result holds of this one.
use Rattle.std.specs.Prelude.{Result, Ok, Err, IfOk}

pub if-ok : {X E : Type 0} (P Q : X → Type 0) (r : Result X E) → ((x : X) → P x → Q x) → IfOk r P → IfOk r Q
if-ok P Q (Ok x) f h = f x h
if-ok P Q (Err e) f h = h

-- the same of four facts
pub if-ok-all : {X E : Type 0} (A B C D Q : X → Type 0) (r : Result X E) → ((x : X) → A x → B x → C x → D x → Q x) → IfOk r A → IfOk r B → IfOk r C → IfOk r D → IfOk r Q
if-ok-all A B C D Q (Ok x) f a b c d = f x a b c d
if-ok-all A B C D Q (Err e) f a b c d = a
