-- Results of workers, taken from the last to the first.
use Rattle.std.specs.Prelude.{◌≡◌, List, [], ◌∷◌, ◌++◌, reverse, Result, Ok}
use Rattle.std.proofs.Common.{sym, ◌∙◌, ap, append_assoc}
use Rattle.verb_log.proofs.InOrder.{reverse_push}
use Rattle.running_play.specs.declared.worker.Worked.{Worked}
use Rattle.running_play.specs.Gathered.{all_ok}

-- one more was taken
pub one_gathered : {E : Type 0} (first rest left : List (Result Worked E)) (all more : List Worked) (r : Result Worked E) (w : Worked) → first ≡ rest ++ all_ok (reverse all) → rest ≡ left ++ r ∷ [] → r ≡ Ok w → more ≡ all ++ w ∷ [] → first ≡ left ++ all_ok (reverse more)
one_gathered first rest left all more r w h popped ok pushed =
    h ∙ ap (λ l. l ++ all_ok (reverse all)) popped ∙ append_assoc left (r ∷ []) (all_ok (reverse all)) ∙ ap (λ x. left ++ x ∷ all_ok (reverse all)) ok
    ∙ ap (λ l. left ++ all_ok l) (sym (ap reverse pushed ∙ reverse_push all w))
