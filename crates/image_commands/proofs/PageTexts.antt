-- Texts that go to a sink by way of a page.
use Rattle.std.specs.Prelude.{◌≡◌, ℕ, zero, suc, ◌+◌, ◌≤◌, List, [], ◌∷◌, ◌++◌, length, codes, take, Option, Result, Ok, Err, OnOk, OnErr, refl}
use Rattle.std.proofs.Common.{sym, ◌∙◌, ap, subst, arith, append-nil, append_assoc}
use Rattle.std.proofs.lemmas.List.{length-append}
use Rattle.std.specs.List.{flat_map}
use Rattle.std.specs.Fmt.{decimal}
use Rattle.std.specs.Io.KnownBytes.{Appends}
use Rattle.race_io.specs.Transfer.{AppendsPart}
use Rattle.race_io.proofs.Chains.{Appends-then, Appends-none}
use Rattle.play_report.specs.Report.{map_line}
use Rattle.image_commands.specs.Pages.{Moves}
use Rattle.image_commands.specs.Texts.{audit_report, number_line}

-- the first bytes of a longer text
take_in : (n : ℕ) (xs ys : List ℕ) → n ≤ length xs → take n (xs ++ ys) ≡ take n xs
take_in zero xs ys h = refl
take_in (suc n) [] ys h = absurd (omega arith)
take_in (suc n) (x ∷ xs) ys h = ap (λ v. x ∷ v) (take_in n xs ys (omega arith))

take_behind : (xs ys : List ℕ) (n k : ℕ) → k ≡ length xs + n → take k (xs ++ ys) ≡ xs ++ take n ys
take_behind [] ys n k e = ap (λ v. take v ys) (none e)
  where
    none : k ≡ 0 + n → k ≡ n
    none e = omega arith
take_behind (x ∷ xs) ys n zero e = absurd (omega arith)
take_behind (x ∷ xs) ys n (suc k) e = ap (λ v. x ∷ v) (take_behind xs ys n k (omega arith))

-- a part of a text is a part of a longer one
pub part_in : (a b : Option (List ℕ)) (xs ys : List ℕ) → AppendsPart a b xs → AppendsPart a b (xs ++ ys)
part_in a b xs ys h = (h.0, (let l = length-append xs ys in let m = h.1 in omega arith), subst (Appends a b) (sym (take_in h.0 xs ys (let m = h.1 in omega arith))) h.2)

-- nothing was written
pub moves_none : (a : Option (List ℕ)) (page : List ℕ) → Moves a a page page
moves_none a page = ([], Appends-none a, refl)

-- all that stood on the page was written
pub moves_all : (a b : Option (List ℕ)) (page : List ℕ) → Appends a b page → Moves a b [] page
moves_all a b page h = (page, h, sym (append-nil page))

-- more was put on the page
pub moves_put : (a b : Option (List ℕ)) (page text more : List ℕ) → Moves a b page text → Moves a b (page ++ more) (text ++ more)
moves_put a b page text more h = (h.0, h.1, ap (λ v. v ++ more) h.2 ∙ append_assoc h.0 page more)

-- more was written
pub moves_then : (a b c : Option (List ℕ)) (page rest text : List ℕ) → Moves a b page text → Moves b c rest page → Moves a c rest text
moves_then a b c page rest text h k = (h.0 ++ k.0, Appends-then a b c h.0 k.0 h.1 k.1, h.2 ∙ ap (λ v. h.0 ++ v) k.2 ∙ sym (append_assoc h.0 k.0 rest))

-- what stood on the page was written, in whole or in part
pub moves_whole : (a b c : Option (List ℕ)) (page text : List ℕ) → Moves a b page text → Appends b c page → Appends a c text
moves_whole a b c page text h k = subst (Appends a c) (sym h.2) (Appends-then a b c h.0 page h.1 k)

pub moves_part : (a b c : Option (List ℕ)) (page text : List ℕ) → Moves a b page text → AppendsPart b c page → AppendsPart a c text
moves_part a b c page text h k = subst (AppendsPart a c) (sym h.2)
    (length h.0 + k.0, (let l = length-append h.0 page in let m = k.1 in omega arith), subst (Appends a c) (sym (take_behind h.0 page k.0 (length h.0 + k.0) refl)) (Appends-then a b c h.0 (take k.0 page) h.1 k.2))

-- the head, the lines and the last line of a report
pub report_part : (a b : Option (List ℕ)) (page head lines last : List ℕ) → page ≡ head → AppendsPart a b (page ++ lines) → AppendsPart a b (head ++ (lines ++ last))
report_part a b page head lines last e h = subst (AppendsPart a b) (append_assoc head lines last) (part_in a b (head ++ lines) last (subst (λ v. AppendsPart a b (v ++ lines)) e h))

pub report_moves : (a b c : Option (List ℕ)) (page head lines last middle rest slice : List ℕ) → page ≡ head → Moves a b middle (page ++ lines) → Moves b c rest middle → slice ≡ rest ++ last → Moves a c slice (head ++ (lines ++ last))
report_moves a b c page head lines last middle rest slice e h k f =
    subst (λ v. Moves a c v (head ++ (lines ++ last))) (sym f)
    (subst (Moves a c (rest ++ last)) (ap (λ v. (v ++ lines) ++ last) e ∙ append_assoc head lines last) (moves_put a c rest (page ++ lines) last (moves_then a b c middle rest (page ++ lines) h k)))

pub on_err : {U E P : Type 0} (r : Result U E) → P → OnErr r P
on_err (Ok u) p = tt
on_err (Err e) p = p

pub ok_so : {U E P Q : Type 0} (r : Result U E) → OnOk r P → (P → Q) → OnOk r Q
ok_so (Ok u) p f = f p
ok_so (Err e) p f = tt

pub err_so : {U E P Q : Type 0} (r : Result U E) → OnErr r P → (P → Q) → OnErr r Q
err_so (Ok u) p f = tt
err_so (Err e) p f = f p

-- the text of a report, by its head, its lines and its last line
pub report_is : (pairs given : List (List ℕ × List ℕ)) (last : List ℕ) (n : ℕ) → last ≡ number_line (codes "keys ") n → n ≡ length given → given ≡ pairs → codes "race audit\n" ++ (flat_map map_line pairs ++ last) ≡ audit_report pairs
report_is pairs given last n e f h = ap (λ v. codes "race audit\n" ++ (flat_map map_line pairs ++ v)) (e ∙ ap (λ v. number_line (codes "keys ") v) (f ∙ ap length h)) ∙ regroup (codes "race audit\n") (flat_map map_line pairs) (codes "keys ") (decimal (length pairs)) (10 ∷ [])
  where
    regroup : (a b c d e : List ℕ) → a ++ (b ++ ((c ++ d) ++ e)) ≡ (((a ++ b) ++ c) ++ d) ++ e
    regroup a b c d e = simp append_assoc
