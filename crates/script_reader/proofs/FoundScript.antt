-- What is read as a script is the text of one.
use Rattle.std.proofs.Common.{◌≡◌, ℕ, ◌+◌, ◌≤◌, Bool, true, false, not, ◌&&◌, nat_lt, List, [], ◌∷◌, ◌++◌, length, Option, Some, None, Result, Ok, Err, codes, refl, sym, ap, subst, ◌∙◌, arith, append_assoc, append-nil, if◌then◌else◌}
use Rattle.std.proofs.lemmas.Bool.{cond-true, cond-false, true≢false, ltb-false}
use Rattle.std.proofs.lemmas.List.Splits.{join_with_byte-slice_split}
use Rattle.std.specs.List.{AllByRecursion, join_with_byte, list_all}
use Rattle.script_reader.specs.declared.fault.ScriptKind.{ScriptKind}
use Rattle.script_reader.specs.declared.fault.ScriptKind.TheVariants as kind
use Rattle.script_reader.specs.declared.command.Command.{Command}
use Rattle.script_reader.specs.declared.command.Command.TheVariants as command
use Rattle.spelling.specs.Words.{parts_at, is_empty}
use Rattle.script_value.specs.Content.{Content}
use Rattle.script_value.specs.ScriptText.{content_words, line_of, text_of}
use Rattle.script_reader.specs.Rules.{or_else, Reading, Refusal, misplaced, command_of, command_step, going_on, unless_fault, words_step, line_step, is_printable, is_all, goes_on, read_lines}
use Rattle.script_value.specs.Valid.{IsContent}
use Rattle.script_reader.proofs.Steps.{ok_bind, ok_same, ok_or_else, ok_if, err_ok, nothing}
use Rattle.script_reader.proofs.Found.{command-found, command_word}
use Rattle.script_reader.proofs.Taken.{IsReading, Took, took-command}

-- the line that ends a script
abbrev pub end_words : List (List ℕ)
end_words = codes "end" ∷ []

none_some : {A : Type 0} (x : A) → None ≡ Some x → ⊥
none_some x e = cc

some_none : {A : Type 0} (x : A) → Some x ≡ None → ⊥
some_none x e = cc

-- no fault, and an answer
placed-found : {A : Type 0} (f : Option ScriptKind) (read : Result A ScriptKind) (y : A) → unless_fault f read ≡ Ok y → (f ≡ None) × (read ≡ Ok y)
placed-found None read y h = (refl, h)
placed-found (Some k) read y h = absurd (err_ok k y h)

-- words that are taken
words-found : (most : ℕ) (r s : Reading) (ws : List (List ℕ)) → IsReading most r → words_step most r ws ≡ Ok (Some s) → Took most r s ws
words-found most r s [] v h = absurd (err_ok kind.Word (Some s) h)
words-found most r s (first ∷ ws) v h =
    let a = ok_bind (or_else kind.Word (command_of first)) _ (Some s) h in
    let word = command-found first a.0 (ok_or_else kind.Word (command_of first) a.0 a.1) in
    let b = placed-found (misplaced r.content a.0) _ (Some s) a.2 in
    subst (λ w. Took most r s (w ∷ ws)) (sym word) (took-command most r v s a.0 ws b.0 b.1)

-- a line that is taken
line-found : (most : ℕ) (r s : Reading) (line : List ℕ) → IsReading most r → line_step most r line ≡ Ok (Some s) → (ws : List (List ℕ)) × (line_of ws ≡ line) × Took most r s ws
line-found most r s line v h =
    let a = ok_if (list_all is_printable line && list_all (λ w. not (is_empty w)) (parts_at 32 line)) kind.Word _ (Some s) h in
    (parts_at 32 line, join_with_byte-slice_split 32 line, words-found most r s (parts_at 32 line) v a.1)

-- nothing that adds a line ends the script
no_end : (read : Result Reading ScriptKind) → going_on read ≡ Ok None → ⊥
no_end read h = let a = ok_bind read (λ r. Ok (Some r)) None h in some_none a.0 (ok_same (Some a.0) None a.2)

-- the command that ends it
end-found : (most : ℕ) (r : Reading) (d : Command) (ws : List (List ℕ)) → command_step most r d ws ≡ Ok None → (d ≡ command.End) × (ws ≡ [])
end-found most r command.Hash ws h = absurd (no_end _ h)
end-found most r command.Client ws h = absurd (no_end _ h)
end-found most r command.Insert ws h = absurd (no_end _ h)
end-found most r command.Search ws h = absurd (no_end _ h)
end-found most r command.Update ws h = absurd (no_end _ h)
end-found most r command.Delete ws h = absurd (no_end _ h)
end-found most r command.Resize ws h = absurd (no_end _ h)
end-found most r command.Stop ws h = absurd (no_end _ h)
end-found most r command.Schedule ws h = absurd (no_end _ h)
end-found most r command.End ws h = let none : Option Reading = None in (refl, nothing ws (ok_if (is_empty ws) kind.Word (Ok none) None h).0)

end-words : (most : ℕ) (r : Reading) (ws : List (List ℕ)) → words_step most r ws ≡ Ok None → (ws ≡ end_words) × (is_empty r.content.clients ≡ false)
end-words most r [] h = absurd (err_ok kind.Word None h)
end-words most r (first ∷ ws) h =
    let a = ok_bind (or_else kind.Word (command_of first)) _ None h in
    let word = command-found first a.0 (ok_or_else kind.Word (command_of first) a.0 a.1) in
    let b = placed-found (misplaced r.content a.0) _ None a.2 in
    let end = end-found most r a.0 ws b.1 in
    let placed : misplaced r.content command.End ≡ None = subst (λ d. misplaced r.content d ≡ None) end.0 b.0 in
    (ap (λ w. w ∷ ws) (word ∙ ap command_word end.0) ∙ ap (λ ws. codes "end" ∷ ws) end.1, some (is_empty r.content.clients) placed)
  where
    some : (t : Bool) → (if t then Some kind.Client else None) ≡ None → t ≡ false
    some true q = absurd (some_none kind.Client q)
    some false q = refl

end-line : (most : ℕ) (r : Reading) (line : List ℕ) → line_step most r line ≡ Ok None → (line_of end_words ≡ line) × (is_empty r.content.clients ≡ false)
end-line most r line h =
    let a = ok_if (list_all is_printable line && list_all (λ w. not (is_empty w)) (parts_at 32 line)) kind.Word _ None h in
    let b = end-words most r (parts_at 32 line) a.1 in
    (ap line_of (sym b.0) ∙ join_with_byte-slice_split 32 line, b.1)

-- the lines from one on are those of a script
pub record Rest (most : ℕ) (r : Reading) (parts : List (List ℕ)) (c : Content) : Type 0 where
  pub new : List (List (List ℕ))
  pub text : join_with_byte 10 parts ≡ text_of (new ++ end_words ∷ [])
  pub content : content_words c ≡ content_words r.content ++ new
  pub valid : IsContent most c
  pub some : is_empty c.clients ≡ false
  pub short : AllByRecursion (λ ws. length (line_of ws) ≤ 4096) (new ++ end_words ∷ [])

valid-content : (most : ℕ) (r : Reading) → IsReading most r → IsContent most r.content
valid-content most r v = record { hashes = v.hashes; clients = v.clients; calls = (let n = v.calls in let e = v.counted in omega (arith, n, e)); stops = v.stops; schedules = v.schedules }

-- the first of them
first-line : (most n : ℕ) (r : Reading) (line : List ℕ) (parts : List (List ℕ)) (c : Content) (more : List ℕ) → IsReading most r → length line ≤ 4096
    → ((s : Reading) → read_lines most (n + 1) s (more ∷ parts) ≡ Ok c → IsReading most s → Rest most s (more ∷ parts) c)
    → (step : Result (Option Reading) ScriptKind) → line_step most r line ≡ step
    → goes_on n r.content (more ∷ parts) (λ s. read_lines most (n + 1) s (more ∷ parts)) step ≡ Ok c → Rest most r (line ∷ more ∷ parts) c
first-line most n r line parts c more v short others (Err k) e h = absurd (err_ok (let at : Refusal = (n, k) in at) c h)
first-line most n r line parts c more v short others (Ok (Some s)) e h =
    let took = line-found most r s line v e in
    let rest = others s h took.2.valid in
    record {
      new = took.0 ∷ rest.new;
      text = ap (λ l. l ++ 10 ∷ join_with_byte 10 (more ∷ parts)) (sym took.1) ∙ ap (λ t. line_of took.0 ++ 10 ∷ t) rest.text ∙ sym (append_assoc (line_of took.0) (10 ∷ []) (text_of (rest.new ++ end_words ∷ [])));
      content = rest.content ∙ ap (λ l. l ++ rest.new) took.2.text ∙ append_assoc (content_words r.content) (took.0 ∷ []) rest.new;
      valid = rest.valid;
      some = rest.some;
      short = (subst (λ l. length l ≤ 4096) (sym took.1) short, rest.short);
    }
first-line most n r line parts c more v short others (Ok None) e h =
    let end = end-line most r line e in
    let last = ended (is_all (more ∷ parts)) refl h in
    record {
      new = [];
      text = ap (λ ps. line ++ 10 ∷ join_with_byte 10 ps) (alone more parts last.0) ∙ ap (λ l. l ++ 10 ∷ []) (sym end.0) ∙ sym (append-nil (line_of end_words ++ 10 ∷ []));
      content = ap content_words (sym last.1) ∙ sym (append-nil (content_words r.content));
      valid = subst (IsContent most) last.1 (valid-content most r v);
      some = subst (λ c. is_empty c.clients ≡ false) last.1 end.1;
      short = (subst (λ l. length l ≤ 4096) (sym end.0) short, tt);
    }
  where
    ended : (t : Bool) → is_all (more ∷ parts) ≡ t → (if t then Ok r.content else Err (let at : Refusal = (n + 1, kind.End) in at)) ≡ Ok c → (is_all (more ∷ parts) ≡ true) × (r.content ≡ c)
    ended true q g = (q, ok_same r.content c g)
    ended false q g = absurd (err_ok (let at : Refusal = (n + 1, kind.End) in at) c g)

    alone : (p : List ℕ) (ps : List (List ℕ)) → is_all (p ∷ ps) ≡ true → p ∷ ps ≡ [] ∷ []
    alone p [] q = ap (λ x. x ∷ []) (nothing p q)
    alone p (x ∷ xs) q = absurd (true≢false (sym q))

-- all lines that are read
pub lines-found : (most n : ℕ) (r : Reading) (parts : List (List ℕ)) (c : Content) → read_lines most n r parts ≡ Ok c → IsReading most r → Rest most r parts c
lines-found most n r [] c h v = absurd (err_ok (let at : Refusal = (n, kind.End) in at) c h)
lines-found most n r (tail ∷ []) c h v = absurd (err_ok (let at : Refusal = (n, kind.End) in at) c h)
lines-found most n r (line ∷ more ∷ parts) c h v = by (nat_lt 4096 (length line)) refl (λ s. lines-found most (n + 1) s (more ∷ parts) c)
  where
    by : (t : Bool) → nat_lt 4096 (length line) ≡ t → ((s : Reading) → read_lines most (n + 1) s (more ∷ parts) ≡ Ok c → IsReading most s → Rest most s (more ∷ parts) c) → Rest most r (line ∷ more ∷ parts) c
    by true e others = absurd (err_ok (let at : Refusal = (n, kind.TooLong) in at) c (sym (cond-true _ _ _ e) ∙ h))
    by false e others = first-line most n r line parts c more v (ltb-false 4096 (length line) e) others (line_step most r line) refl (sym (cond-false _ _ _ e) ∙ h)
