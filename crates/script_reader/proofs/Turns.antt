-- Reading line by line.
use Rattle.std.proofs.Common.{◌≡◌, ℕ, ◌+◌, Bool, true, false, nat_lt, ◌≤◌, List, [], ◌∷◌, length, Result, Ok, Err, Some, None, refl, sym, ap, ◌∙◌, nat_eq, if◌then◌else◌}
use Rattle.std.proofs.lemmas.Bool.{cond-true, cond-false, le-ltb}
use Rattle.script_reader.specs.declared.fault.ScriptKind.{ScriptKind}
use Rattle.script_reader.specs.declared.fault.ScriptKind.TheVariants as kind
use Rattle.script_value.specs.Content.{Content, no_content}
use Rattle.std.specs.List.{onto_first}
use Rattle.std.specs.Result.{result_unwrap_or}
use Rattle.std.proofs.lemmas.List.Splits.{slice_split-cons_yes, slice_split-cons_no}
use Rattle.spelling.specs.Words.{parts_at, is_empty}
use Rattle.spelling.proofs.Cuts.{parts_at-some}
use Rattle.script_reader.specs.declared.fault.Halt.{Halt}
use Rattle.script_reader.specs.declared.fault.Halt.TheVariants as halt
use Rattle.script_reader.specs.Gives.{Fails, Refuses, fault_at}
use Rattle.script_reader.specs.Rules.{◌>>=◌, Head, Told, head_of, script_of, ending, Reading, Refusal, is_all, next_line, goes_on, read_lines, line_step}
use Rattle.script_value.specs.Valid.{most_clients}

-- a line is there: reading goes on behind it
pub read_lines-next : (most n : ℕ) (r : Reading) (parts : List (List ℕ)) (line : List ℕ) (others : List (List ℕ)) → next_line parts ≡ Ok (line, others)
    → read_lines most n r parts ≡ goes_on n r.content others (λ s. read_lines most (n + 1) s others) (line_step most r line)
read_lines-next most n r [] line others h = absurd (by h)
  where
    by : let found : List ℕ × List (List ℕ) = (line, others) in Err kind.End ≡ Ok found → ⊥
    by e = cc
read_lines-next most n r (tail ∷ []) line others h = absurd (by h)
  where
    by : let found : List ℕ × List (List ℕ) = (line, others) in Err kind.End ≡ Ok found → ⊥
    by e = cc
read_lines-next most n r (first ∷ more ∷ parts) line others h = by (nat_lt 4096 (length first)) refl
  where
    by : (t : Bool) → nat_lt 4096 (length first) ≡ t → read_lines most n r (first ∷ more ∷ parts) ≡ goes_on n r.content others (λ s. read_lines most (n + 1) s others) (line_step most r line)
    by true e = absurd (none (sym (cond-true _ _ _ e) ∙ h))
      where
        none : let found : List ℕ × List (List ℕ) = (line, others) in Err kind.TooLong ≡ Ok found → ⊥
        none e = cc
    by false e =
        let found = sym (cond-false _ _ _ e) ∙ h in
        let d : List ℕ × List (List ℕ) = (line, others) in
        let pair = ap (λ read. result_unwrap_or read d) found in
        cond-false _ _ _ e ∙ ap (λ (p : List ℕ × List (List ℕ)). goes_on n r.content p.1 (λ s. read_lines most (n + 1) s p.1) (line_step most r p.0)) pair

-- no line is there, or it is too long: reading ends
pub read_lines-stops : (most n : ℕ) (r : Reading) (parts : List (List ℕ)) (k : ScriptKind) → next_line parts ≡ Err k → read_lines most n r parts ≡ Err (n, k)
read_lines-stops most n r [] k h = let same : kind.End ≡ k = cc in ap (λ k. Err (n, k)) same
read_lines-stops most n r (tail ∷ []) k h = let same : kind.End ≡ k = cc in ap (λ k. Err (n, k)) same
read_lines-stops most n r (first ∷ more ∷ parts) k h = by (nat_lt 4096 (length first)) refl
  where
    by : (t : Bool) → nat_lt 4096 (length first) ≡ t → read_lines most n r (first ∷ more ∷ parts) ≡ Err (n, k)
    by true e =
        let found = sym (cond-true _ _ _ e) ∙ h in
        let same : kind.TooLong ≡ k = cc in
        cond-true _ _ _ e ∙ ap (λ k. Err (n, k)) same
    by false e = absurd (none (sym (cond-false _ _ _ e) ∙ h))
      where
        none : let found : List ℕ × List (List ℕ) = (first, more ∷ parts) in Ok found ≡ Err k → ⊥
        none e = cc

-- a line with its line feed
pub next_line-more : (line bytes : List ℕ) → next_line (line ∷ parts_at 10 bytes) ≡ (if nat_lt 4096 (length line) then Err kind.TooLong else Ok (line, parts_at 10 bytes))
next_line-more line bytes =
    let some = parts_at-some 10 bytes in
    ap (λ ps. next_line (line ∷ ps)) some.2 ∙ ap (λ (ps : List (List ℕ)). if nat_lt 4096 (length line) then Err kind.TooLong else Ok (line, ps)) (sym some.2)

-- no part but an empty one is left of no bytes alone
pub is_all-parts : (c : ℕ) (bytes : List ℕ) → is_all (parts_at c bytes) ≡ is_empty bytes
is_all-parts c [] = refl
is_all-parts c (b ∷ bs) = by (nat_eq b c) refl
  where
    one : (p : List ℕ) (ps : List (List ℕ)) → is_all ((b ∷ p) ∷ ps) ≡ false
    one p [] = refl
    one p (q ∷ ps) = refl

    by : (t : Bool) → nat_eq b c ≡ t → is_all (parts_at c (b ∷ bs)) ≡ false
    by true e = let some = parts_at-some c bs in ap is_all (slice_split-cons_yes (λ x. nat_eq x c) b bs e) ∙ ap (λ (ps : List (List ℕ)). is_all ([] ∷ ps)) some.2
    by false e = let some = parts_at-some c bs in ap is_all (slice_split-cons_no (λ x. nat_eq x c) b bs e) ∙ ap (λ (ps : List (List ℕ)). is_all (onto_first b ps)) some.2 ∙ one some.0 some.1

-- one turn of the reading
module _ (most n : ℕ) (r : Reading) (parts : List (List ℕ)) (total : Result Content Refusal) (same : read_lines most n r parts ≡ total) where
  pub turn_stops : (k : ScriptKind) → next_line parts ≡ Err k → total ≡ Err (n, k)
  turn_stops k h = sym same ∙ read_lines-stops most n r parts k h

  module _ (line : List ℕ) (others : List (List ℕ)) (found : next_line parts ≡ Ok (line, others)) where
    turn : total ≡ goes_on n r.content others (λ s. read_lines most (n + 1) s others) (line_step most r line)
    turn = sym same ∙ read_lines-next most n r parts line others found

    pub turn_more : (s : Reading) → line_step most r line ≡ Ok (Some s) → read_lines most (n + 1) s others ≡ total
    turn_more s h = sym (turn ∙ ap (goes_on n r.content others (λ s. read_lines most (n + 1) s others)) h)

    pub turn_ends : line_step most r line ≡ Ok None → ending n r.content others ≡ total
    turn_ends h = sym (turn ∙ ap (goes_on n r.content others (λ s. read_lines most (n + 1) s others)) h)

    pub turn_halts : (h : Halt) → Fails h (line_step most r line) → Refuses (fault_at n h) total
    turn_halts (halt.Refused k) h = turn ∙ ap (goes_on n r.content others (λ s. read_lines most (n + 1) s others)) h
    turn_halts halt.OutOfMemory h = tt

-- bytes that are there
pub is_empty-some : (bytes : List ℕ) → nat_eq (length bytes) 0 ≡ false → is_empty bytes ≡ false
is_empty-some [] h = h
is_empty-some (b ∷ bs) h = refl

-- the first two lines and the others are the script
pub script_of-reads : (bytes : List ℕ) (h : Head) (c : Content) → length bytes ≤ 4194304 → head_of bytes ≡ Ok h
    → read_lines (most_clients h.version) 3 (record { calls = 0; content = no_content }) h.others ≡ Ok c
    → script_of bytes ≡ Ok (record { version = h.version; sizes = h.sizes; content = c })
script_of-reads bytes h c short head body =
    let others : Head → Result Told Refusal = λ head. (read_lines (most_clients head.version) 3 (record { calls = 0; content = no_content }) head.others >>= (λ content. Ok (record { version = head.version; sizes = head.sizes; content = content }))) in
    let told : Content → Result Told Refusal = λ content. Ok (record { version = h.version; sizes = h.sizes; content = content }) in
    cond-false _ _ _ (le-ltb 4194304 (length bytes) short) ∙ ap (λ read. read >>= others) head ∙ ap (λ read. read >>= told) body
