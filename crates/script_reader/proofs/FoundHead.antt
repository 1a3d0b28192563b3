-- The first two lines that are read, and the whole script.
use Rattle.std.proofs.Common.{◌≡◌, ℕ, ◌<◌, ◌≤◌, ◌^◌, Bool, true, false, nat_eq, ◌==◌, nat_lt, List, [], ◌∷◌, ◌++◌, length, Some, None, Result, Ok, Err, codes, refl, sym, ap, subst, ◌∙◌, arith, append_assoc, if◌then◌else◌}
use Rattle.std.proofs.lemmas.Bool.{cond-true, cond-false, true≢false, ltb-false, eqb-true, eqb-false}
use Rattle.std.proofs.lemmas.Option.{same_Some, option_and_then_some}
use Rattle.std.proofs.lemmas.Fmt.{decimal_digit, decimal_injective}
use Rattle.std.proofs.lemmas.List.Splits.{join_with_byte-slice_split}
use Rattle.std.specs.List.{AllByRecursion, join_with_byte}
use Rattle.std.specs.Fmt.{decimal}
use Rattle.std.specs.Cmp.Lexicographic.{same_text}
use Rattle.kv_block.specs.Bytes.{key_eq}
use Rattle.script_reader.specs.declared.fault.ScriptKind.{ScriptKind}
use Rattle.script_reader.specs.declared.fault.ScriptKind.TheVariants as kind
use Rattle.spelling.specs.Words.{parts_at, number_of, is_empty}
use Rattle.map_model.specs.declared.calls.Call.{Call}
use Rattle.script_reader.specs.Gives.{told_of}
use Rattle.script_value.specs.Content.{ScriptValue, Sizes, no_content}
use Rattle.script_value.specs.ScriptText.{header_words, table_words, content_words, line_of, text_of, text_of_script}
use Rattle.script_reader.specs.Rules.{◌>>=◌, or_else, Refusal, version_of, behind_label, field, no_more, behind_table, SizeWords, size_words_1, size_words_2, size_words, sizes_told, table_of, next_line, on_line, read_lines, Told, Head, version_line, table_line, head_of, script_of}
use Rattle.script_value.specs.Valid.{are_sizes, most_clients, IsContent, IsScript}
use Rattle.script_reader.proofs.Steps.{ok_bind, ok_same, ok_or_else, ok_if, err_ok, nothing}
use Rattle.spelling.proofs.Spelled.{decimal-number_of}
use Rattle.script_reader.proofs.Taken.{IsReading}
use Rattle.script_reader.proofs.FoundScript.{lines-found, end_words}

-- an answer on a line
on_line-found : {A : Type 0} (n : ℕ) (read : Result A ScriptKind) (x : A) → on_line n read ≡ Ok x → read ≡ Ok x
on_line-found n (Ok y) x h = ap Ok (ok_same y x h)
on_line-found n (Err k) x h = absurd (err_ok (let at : Refusal = (n, k) in at) x h)

-- a line, and what is behind it
line-parts : (parts : List (List ℕ)) (p : List ℕ × List (List ℕ)) → next_line parts ≡ Ok p → (join_with_byte 10 parts ≡ p.0 ++ 10 ∷ join_with_byte 10 p.1) × (length p.0 ≤ 4096)
line-parts [] p h = absurd (err_ok kind.End p h)
line-parts (tail ∷ []) p h = absurd (err_ok kind.End p h)
line-parts (line ∷ more ∷ parts) p h = by (nat_lt 4096 (length line)) refl
  where
    by : (t : Bool) → nat_lt 4096 (length line) ≡ t → (join_with_byte 10 (line ∷ more ∷ parts) ≡ p.0 ++ 10 ∷ join_with_byte 10 p.1) × (length p.0 ≤ 4096)
    by true e = absurd (err_ok kind.TooLong p (sym (cond-true _ _ _ e) ∙ h))
    by false e =
        let whole : List ℕ × List (List ℕ) = (line, more ∷ parts) in
        let same = ok_same whole p (sym (cond-false _ _ _ e) ∙ h) in
        subst (λ (p : List ℕ × List (List ℕ)). (join_with_byte 10 (line ∷ more ∷ parts) ≡ p.0 ++ 10 ∷ join_with_byte 10 p.1) × (length p.0 ≤ 4096)) same (refl, ltb-false 4096 (length line) e)

-- line 1
version-found : (line : List ℕ) (v : ℕ) → version_of line ≡ Ok v → (line_of (header_words v) ≡ line) × (1 ≤ v) × (v ≤ 2)
version-found line v h = by (key_eq line (codes "race 1")) refl
  where
    spelled_1 : line_of (header_words 1) ≡ codes "race 1"
    spelled_1 = ap (λ d. codes "race" ++ 32 ∷ d) (decimal_digit 1 (omega arith))

    spelled_2 : line_of (header_words 2) ≡ codes "race 2"
    spelled_2 = ap (λ d. codes "race" ++ 32 ∷ d) (decimal_digit 2 (omega arith))

    second : (t : Bool) → key_eq line (codes "race 2") ≡ t → (if t then Ok 2 else Err kind.Header) ≡ Ok v → (line_of (header_words v) ≡ line) × (1 ≤ v) × (v ≤ 2)
    second true e g =
        let found : (line_of (header_words 2) ≡ line) × (1 ≤ 2) × (2 ≤ 2) = (spelled_2 ∙ sym (same_text line (codes "race 2") (sym e)), omega arith, omega arith) in
        subst (λ v. (line_of (header_words v) ≡ line) × (1 ≤ v) × (v ≤ 2)) (ok_same 2 v g) found
    second false e g = absurd (err_ok kind.Header v g)

    by : (t : Bool) → key_eq line (codes "race 1") ≡ t → (line_of (header_words v) ≡ line) × (1 ≤ v) × (v ≤ 2)
    by true e =
        let found : (line_of (header_words 1) ≡ line) × (1 ≤ 1) × (1 ≤ 2) = (spelled_1 ∙ sym (same_text line (codes "race 1") (sym e)), omega arith, omega arith) in
        subst (λ v. (line_of (header_words v) ≡ line) × (1 ≤ v) × (v ≤ 2)) (ok_same 1 v (sym (cond-true _ _ _ e) ∙ h)) found
    by false e = second (key_eq line (codes "race 2")) refl (sym (cond-false _ _ _ e) ∙ h)

-- a label and what is behind it
label-found : (label word text : List ℕ) → behind_label label word ≡ Some text → label ++ text ≡ word
label-found [] word text h = sym (same_Some word text h)
label-found (l ∷ ls) [] text h = absurd (by h)
  where
    by : None ≡ Some text → ⊥
    by e = cc
label-found (l ∷ ls) (b ∷ bs) text h = by (nat_eq b l) refl h (label-found ls bs text)
  where
    by : (t : Bool) → nat_eq b l ≡ t → (if t then behind_label ls bs else None) ≡ Some text → (behind_label ls bs ≡ Some text → ls ++ text ≡ bs) → (l ∷ ls) ++ text ≡ b ∷ bs
    by true e g others = ap (λ x. x ∷ ls ++ text) (sym (eqb-true b l e)) ∙ ap (λ xs. b ∷ xs) (others g)
    by false e g others = absurd (no g)
      where
        no : None ≡ Some text → ⊥
        no q = cc

field-found : (label : List ℕ) (words : List (List ℕ)) (p : List ℕ × List (List ℕ)) → field label words ≡ Ok p → words ≡ (label ++ p.0) ∷ p.1
field-found label [] p h = absurd (err_ok kind.Table p h)
field-found label (w ∷ ws) p h =
    option_and_then_some (λ text. Some (let pair : List ℕ × List (List ℕ) = (text, ws) in pair)) (behind_label label w) p (ok_or_else kind.Table _ p h) (λ text read made.
    let pair : List ℕ × List (List ℕ) = (text, ws) in
    let found : w ∷ ws ≡ (label ++ pair.0) ∷ pair.1 = ap (λ x. x ∷ ws) (sym (label-found label w text read)) in
    subst (λ (p : List ℕ × List (List ℕ)). w ∷ ws ≡ (label ++ p.0) ∷ p.1) (same_Some pair p made) found)

table-found : (words rest : List (List ℕ)) → behind_table words ≡ Ok rest → words ≡ codes "table" ∷ rest
table-found [] rest h = absurd (err_ok kind.Table rest h)
table-found (w ∷ ws) rest h =
    let a = ok_if (key_eq w (codes "table")) kind.Table (Ok ws) rest h in
    ap (λ x. x ∷ ws) (same_text w (codes "table") (sym a.0)) ∙ ap (λ xs. codes "table" ∷ xs) (ok_same ws rest a.1)

-- the words of line 2
abbrev size_words-of : ℕ → SizeWords → List (List ℕ)
size_words-of version w =
    codes "table" ∷ (codes "groups=" ++ w.groups) ∷ (codes "depth=" ++ w.max_depth)
    ∷ ((if version == 1 then [] else (codes "first=" ++ w.first_depth) ∷ (codes "nodes=" ++ w.nodes) ∷ [])
    ++ (codes "words=" ++ w.words) ∷ (codes "tries=" ++ w.tries) ∷ [])

no_more-found : {A : Type 0} (words : List (List ℕ)) (x y : A) → no_more words x ≡ Ok y → (words ≡ []) × (x ≡ y)
no_more-found words x y h = let a = ok_if (is_empty words) kind.Table (Ok x) y h in (nothing words a.0, ok_same x y a.1)

size_1-found : (words : List (List ℕ)) (w : SizeWords) → size_words_1 words ≡ Ok w → (words ≡ size_words-of 1 w) × (w.first_depth ≡ codes "0") × (w.nodes ≡ codes "1")
size_1-found words w h =
    let t = ok_bind (behind_table words) _ w h in
    let g = ok_bind (field (codes "groups=") t.0) _ w t.2 in
    let d = ok_bind (field (codes "depth=") g.0.1) _ w g.2 in
    let a = ok_bind (field (codes "words=") d.0.1) _ w d.2 in
    let r = ok_bind (field (codes "tries=") a.0.1) _ w a.2 in
    let last : SizeWords = record { groups = g.0.0; max_depth = d.0.0; first_depth = codes "0"; nodes = codes "1"; words = a.0.0; tries = r.0.0 } in
    let end = no_more-found r.0.1 last w r.2 in
    let text : words ≡ size_words-of 1 last =
    table-found words t.0 t.1 ∙ ap (λ ws. codes "table" ∷ ws) (field-found (codes "groups=") t.0 g.0 g.1)
    ∙ ap (λ ws. codes "table" ∷ (codes "groups=" ++ g.0.0) ∷ ws) (field-found (codes "depth=") g.0.1 d.0 d.1)
    ∙ ap (λ ws. codes "table" ∷ (codes "groups=" ++ g.0.0) ∷ (codes "depth=" ++ d.0.0) ∷ ws) (field-found (codes "words=") d.0.1 a.0 a.1)
    ∙ ap (λ ws. codes "table" ∷ (codes "groups=" ++ g.0.0) ∷ (codes "depth=" ++ d.0.0) ∷ (codes "words=" ++ a.0.0) ∷ ws) (field-found (codes "tries=") a.0.1 r.0 r.1)
    ∙ ap (λ ws. codes "table" ∷ (codes "groups=" ++ g.0.0) ∷ (codes "depth=" ++ d.0.0) ∷ (codes "words=" ++ a.0.0) ∷ (codes "tries=" ++ r.0.0) ∷ ws) end.0 in
    let found : (words ≡ size_words-of 1 last) × (last.first_depth ≡ codes "0") × (last.nodes ≡ codes "1") = (text, refl, refl) in
    subst (λ w. (words ≡ size_words-of 1 w) × (w.first_depth ≡ codes "0") × (w.nodes ≡ codes "1")) end.1 found

size_2-found : (words : List (List ℕ)) (w : SizeWords) → size_words_2 words ≡ Ok w → words ≡ size_words-of 2 w
size_2-found words w h =
    let t = ok_bind (behind_table words) _ w h in
    let g = ok_bind (field (codes "groups=") t.0) _ w t.2 in
    let d = ok_bind (field (codes "depth=") g.0.1) _ w g.2 in
    let f = ok_bind (field (codes "first=") d.0.1) _ w d.2 in
    let n = ok_bind (field (codes "nodes=") f.0.1) _ w f.2 in
    let a = ok_bind (field (codes "words=") n.0.1) _ w n.2 in
    let r = ok_bind (field (codes "tries=") a.0.1) _ w a.2 in
    let last : SizeWords = record { groups = g.0.0; max_depth = d.0.0; first_depth = f.0.0; nodes = n.0.0; words = a.0.0; tries = r.0.0 } in
    let end = no_more-found r.0.1 last w r.2 in
    let text : words ≡ size_words-of 2 last =
    table-found words t.0 t.1 ∙ ap (λ ws. codes "table" ∷ ws) (field-found (codes "groups=") t.0 g.0 g.1)
    ∙ ap (λ ws. codes "table" ∷ (codes "groups=" ++ g.0.0) ∷ ws) (field-found (codes "depth=") g.0.1 d.0 d.1)
    ∙ ap (λ ws. codes "table" ∷ (codes "groups=" ++ g.0.0) ∷ (codes "depth=" ++ d.0.0) ∷ ws) (field-found (codes "first=") d.0.1 f.0 f.1)
    ∙ ap (λ ws. codes "table" ∷ (codes "groups=" ++ g.0.0) ∷ (codes "depth=" ++ d.0.0) ∷ (codes "first=" ++ f.0.0) ∷ ws) (field-found (codes "nodes=") f.0.1 n.0 n.1)
    ∙ ap (λ ws. codes "table" ∷ (codes "groups=" ++ g.0.0) ∷ (codes "depth=" ++ d.0.0) ∷ (codes "first=" ++ f.0.0) ∷ (codes "nodes=" ++ n.0.0) ∷ ws) (field-found (codes "words=") n.0.1 a.0 a.1)
    ∙ ap (λ ws. codes "table" ∷ (codes "groups=" ++ g.0.0) ∷ (codes "depth=" ++ d.0.0) ∷ (codes "first=" ++ f.0.0) ∷ (codes "nodes=" ++ n.0.0) ∷ (codes "words=" ++ a.0.0) ∷ ws) (field-found (codes "tries=") a.0.1 r.0 r.1)
    ∙ ap (λ ws. codes "table" ∷ (codes "groups=" ++ g.0.0) ∷ (codes "depth=" ++ d.0.0) ∷ (codes "first=" ++ f.0.0) ∷ (codes "nodes=" ++ n.0.0) ∷ (codes "words=" ++ a.0.0) ∷ (codes "tries=" ++ r.0.0) ∷ ws) end.0 in
    subst (λ w. words ≡ size_words-of 2 w) end.1 text

-- the numbers are spelled so
record Spells (w : SizeWords) (s : Sizes) : Type 0 where
  groups : decimal s.groups ≡ w.groups
  max_depth : decimal s.max_depth ≡ w.max_depth
  first_depth : decimal s.first_depth ≡ w.first_depth
  nodes : decimal s.nodes ≡ w.nodes
  words : decimal s.words ≡ w.words
  tries : decimal s.tries ≡ w.tries
  first_small : s.first_depth < 2 ^ 64
  nodes_small : s.nodes < 2 ^ 64

told-found : (w : SizeWords) (s : Sizes) → sizes_told w ≡ Ok s → Spells w s
told-found w s h =
    let g = ok_bind (or_else kind.Number (number_of w.groups)) _ s h in
    let d = ok_bind (or_else kind.Number (number_of w.max_depth)) _ s g.2 in
    let f = ok_bind (or_else kind.Number (number_of w.first_depth)) _ s d.2 in
    let n = ok_bind (or_else kind.Number (number_of w.nodes)) _ s f.2 in
    let a = ok_bind (or_else kind.Number (number_of w.words)) _ s n.2 in
    let r = ok_bind (or_else kind.Number (number_of w.tries)) _ s a.2 in
    let told : Sizes = record { groups = g.0; max_depth = d.0; first_depth = f.0; nodes = n.0; words = a.0; tries = r.0 } in
    let found : Spells w told = record {
      groups = (decimal-number_of w.groups g.0 (ok_or_else kind.Number (number_of w.groups) g.0 g.1)).0;
      max_depth = (decimal-number_of w.max_depth d.0 (ok_or_else kind.Number (number_of w.max_depth) d.0 d.1)).0;
      first_depth = (decimal-number_of w.first_depth f.0 (ok_or_else kind.Number (number_of w.first_depth) f.0 f.1)).0;
      nodes = (decimal-number_of w.nodes n.0 (ok_or_else kind.Number (number_of w.nodes) n.0 n.1)).0;
      words = (decimal-number_of w.words a.0 (ok_or_else kind.Number (number_of w.words) a.0 a.1)).0;
      tries = (decimal-number_of w.tries r.0 (ok_or_else kind.Number (number_of w.tries) r.0 r.1)).0;
      first_small = (decimal-number_of w.first_depth f.0 (ok_or_else kind.Number (number_of w.first_depth) f.0 f.1)).1;
      nodes_small = (decimal-number_of w.nodes n.0 (ok_or_else kind.Number (number_of w.nodes) n.0 n.1)).1;
    } in
    subst (Spells w) (ok_same told s r.2) found

-- what line 2 says
pub record IsTable (version : ℕ) (line : List ℕ) (s : Sizes) : Type 0 where
  pub text : line_of (table_words version s) ≡ line
  pub sizes : are_sizes version s ≡ true
  pub first : version ≡ 1 → s.first_depth ≡ 0
  pub nodes : version ≡ 1 → s.nodes ≡ 1

-- the words of line 2, by those of the numbers
abbrev table_as : ℕ → List ℕ → List ℕ → List ℕ → List ℕ → List ℕ → List ℕ → List (List ℕ)
table_as version g d f n a t = size_words-of version (record { groups = g; max_depth = d; first_depth = f; nodes = n; words = a; tries = t })

words-spelled : (version : ℕ) (w : SizeWords) (s : Sizes) → Spells w s → table_words version s ≡ size_words-of version w
words-spelled version w s p =
    ap (λ x. table_as version x (decimal s.max_depth) (decimal s.first_depth) (decimal s.nodes) (decimal s.words) (decimal s.tries)) p.groups
    ∙ ap (λ x. table_as version w.groups x (decimal s.first_depth) (decimal s.nodes) (decimal s.words) (decimal s.tries)) p.max_depth
    ∙ ap (λ x. table_as version w.groups w.max_depth x (decimal s.nodes) (decimal s.words) (decimal s.tries)) p.first_depth
    ∙ ap (λ x. table_as version w.groups w.max_depth w.first_depth x (decimal s.words) (decimal s.tries)) p.nodes
    ∙ ap (λ x. table_as version w.groups w.max_depth w.first_depth w.nodes x (decimal s.tries)) p.words
    ∙ ap (λ x. table_as version w.groups w.max_depth w.first_depth w.nodes w.words x) p.tries

table-line : (version : ℕ) (line : List ℕ) (s : Sizes) → 1 ≤ version → version ≤ 2 → table_of version line ≡ Ok s → IsTable version line s
table-line version line s least most h =
    let a = ok_bind (size_words version (parts_at 32 line)) _ s h in
    let b = ok_bind (sizes_told a.0) _ s a.2 in
    let spells = told-found a.0 b.0 b.1 in
    let c = ok_if (are_sizes version b.0) kind.Table (Ok b.0) s b.2 in
    let found : IsTable version line b.0 = by (nat_eq version 1) refl a.0 b.0 a.1 spells c.0 in
    subst (IsTable version line) (ok_same b.0 s c.1) found
  where
    zero : (n : ℕ) (w : List ℕ) → w ≡ codes "0" → decimal n ≡ w → n < 2 ^ 64 → n ≡ 0
    zero n w e d small = decimal_injective n 0 small (omega arith) (d ∙ e ∙ sym (decimal_digit 0 (omega arith)))

    one : (n : ℕ) (w : List ℕ) → w ≡ codes "1" → decimal n ≡ w → n < 2 ^ 64 → n ≡ 1
    one n w e d small = decimal_injective n 1 small (omega arith) (d ∙ e ∙ sym (decimal_digit 1 (omega arith)))

    by : (t : Bool) → nat_eq version 1 ≡ t → (w : SizeWords) (s : Sizes) → size_words version (parts_at 32 line) ≡ Ok w → Spells w s → are_sizes version s ≡ true → IsTable version line s
    by true e w s read spells sizes =
        let v = eqb-true version 1 e in
        let found = size_1-found (parts_at 32 line) w (sym (cond-true _ _ _ e) ∙ read) in
        record {
          text = ap line_of (words-spelled version w s spells ∙ ap (λ v. size_words-of v w) v ∙ sym found.0) ∙ join_with_byte-slice_split 32 line;
          sizes = sizes;
          first = λ q. zero s.first_depth w.first_depth found.1 spells.first_depth spells.first_small;
          nodes = λ q. one s.nodes w.nodes found.2 spells.nodes spells.nodes_small;
        }
    by false e w s read spells sizes =
        let other = eqb-false version 1 e in
        let v : version ≡ 2 = omega (arith, other, least, most) in
        let found = size_2-found (parts_at 32 line) w (sym (cond-false _ _ _ e) ∙ read) in
        record {
          text = ap line_of (words-spelled version w s spells ∙ ap (λ v. size_words-of v w) v ∙ sym found) ∙ join_with_byte-slice_split 32 line;
          sizes = sizes;
          first = λ q. absurd (other q);
          nodes = λ q. absurd (other q);
        }

-- what has been read of nothing
nothing-read : (most : ℕ) → IsReading most (record { calls = 0; content = no_content })
nothing-read most = record { hashes = tt; clients = tt; counted = refl; calls = omega arith; stops = tt; schedules = tt; order = λ _. (refl, refl) }

-- all lines of what is told
abbrev pub told_words : Told → List (List (List ℕ))
told_words t = header_words t.version ∷ table_words t.version t.sizes ∷ content_words t.content ++ end_words ∷ []

-- bytes that are a script
pub record IsTold (bytes : List ℕ) (t : Told) : Type 0 where
  pub text : bytes ≡ text_of (told_words t)
  pub version_least : 1 ≤ t.version
  pub version_most : t.version ≤ 2
  pub sizes : are_sizes t.version t.sizes ≡ true
  pub first : t.version ≡ 1 → t.sizes.first_depth ≡ 0
  pub nodes : t.version ≡ 1 → t.sizes.nodes ≡ 1
  pub content : IsContent (most_clients t.version) t.content
  pub some : is_empty t.content.clients ≡ false
  pub short_lines : AllByRecursion (λ ws. length (line_of ws) ≤ 4096) (told_words t)
  pub short : length bytes ≤ 4194304

-- line 1 with what is behind it
record IsVersionLine (parts : List (List ℕ)) (p : ℕ × List (List ℕ)) : Type 0 where
  text : join_with_byte 10 parts ≡ line_of (header_words p.0) ++ 10 ∷ join_with_byte 10 p.1
  short : length (line_of (header_words p.0)) ≤ 4096
  least : 1 ≤ p.0
  most : p.0 ≤ 2

version_line-found : (parts : List (List ℕ)) (p : ℕ × List (List ℕ)) → version_line parts ≡ Ok p → IsVersionLine parts p
version_line-found parts p h =
    let a = ok_bind (on_line 1 (next_line parts)) _ p h in
    let line = line-parts parts a.0 (on_line-found 1 (next_line parts) a.0 a.1) in
    let b = ok_bind (on_line 1 (version_of a.0.0)) _ p a.2 in
    let version = version-found a.0.0 b.0 (on_line-found 1 (version_of a.0.0) b.0 b.1) in
    let whole : ℕ × List (List ℕ) = (b.0, a.0.1) in
    let found : IsVersionLine parts whole = record {
      text = line.0 ∙ ap (λ l. l ++ 10 ∷ join_with_byte 10 a.0.1) (sym version.0);
      short = subst (λ l. length l ≤ 4096) (sym version.0) line.1;
      least = version.1;
      most = version.2;
    } in
    subst (IsVersionLine parts) (ok_same whole p b.2) found

-- line 2 with what is behind it
record IsTableLine (version : ℕ) (parts : List (List ℕ)) (p : Sizes × List (List ℕ)) : Type 0 where
  text : join_with_byte 10 parts ≡ line_of (table_words version p.0) ++ 10 ∷ join_with_byte 10 p.1
  short : length (line_of (table_words version p.0)) ≤ 4096
  table : IsTable version (line_of (table_words version p.0)) p.0

table_line-found : (version : ℕ) (parts : List (List ℕ)) (p : Sizes × List (List ℕ)) → 1 ≤ version → version ≤ 2 → table_line version parts ≡ Ok p → IsTableLine version parts p
table_line-found version parts p least most h =
    let a = ok_bind (on_line 2 (next_line parts)) _ p h in
    let line = line-parts parts a.0 (on_line-found 2 (next_line parts) a.0 a.1) in
    let b = ok_bind (on_line 2 (table_of version a.0.0)) _ p a.2 in
    let table = table-line version a.0.0 b.0 least most (on_line-found 2 (table_of version a.0.0) b.0 b.1) in
    let whole : Sizes × List (List ℕ) = (b.0, a.0.1) in
    let found : IsTableLine version parts whole = record {
      text = line.0 ∙ ap (λ l. l ++ 10 ∷ join_with_byte 10 a.0.1) (sym table.text);
      short = subst (λ l. length l ≤ 4096) (sym table.text) line.1;
      table = record { text = refl; sizes = table.sizes; first = table.first; nodes = table.nodes };
    } in
    subst (IsTableLine version parts) (ok_same whole p b.2) found

-- a line in front of a text
in_front_of : (first : List (List ℕ)) (others : List (List (List ℕ))) (text : List ℕ) → text ≡ text_of others → line_of first ++ 10 ∷ text ≡ text_of (first ∷ others)
in_front_of first others text e = ap (λ t. line_of first ++ 10 ∷ t) e ∙ sym (append_assoc (line_of first) (10 ∷ []) (text_of others))

-- the parts of a script that is not too long
script-parts : (bytes : List ℕ) (t : Told) → length bytes ≤ 4194304
    → (head_of bytes >>= (λ head. (read_lines (most_clients head.version) 3 (record { calls = 0; content = no_content }) head.others >>= (λ content. Ok (record { version = head.version; sizes = head.sizes; content = content }))))) ≡ Ok t
    → IsTold bytes t
script-parts bytes t short h =
    let head = ok_bind (head_of bytes) _ t h in
    let first = ok_bind (version_line (parts_at 10 bytes)) _ head.0 head.1 in
    let one = version_line-found (parts_at 10 bytes) first.0 first.1 in
    let second = ok_bind (table_line first.0.0 first.0.1) _ head.0 first.2 in
    let two = table_line-found first.0.0 first.0.1 second.0 one.least one.most second.1 in
    let whole : Head = record { version = first.0.0; sizes = second.0.0; others = second.0.1 } in
    let same = ok_same whole head.0 second.2 in
    let body = ok_bind (read_lines (most_clients head.0.version) 3 (record { calls = 0; content = no_content }) head.0.others) _ t head.2 in
    let rest = lines-found (most_clients head.0.version) 3 (record { calls = 0; content = no_content }) head.0.others body.0 body.1 (nothing-read (most_clients head.0.version)) in
    let told : Told = record { version = head.0.version; sizes = head.0.sizes; content = body.0 } in
    let whole_text : Head → Type 0 = λ h. join_with_byte 10 (parts_at 10 bytes) ≡ line_of (header_words h.version) ++ 10 ∷ (line_of (table_words h.version h.sizes) ++ 10 ∷ join_with_byte 10 h.others) in
    let lines = subst whole_text same (one.text ∙ ap (λ r. line_of (header_words first.0.0) ++ 10 ∷ r) two.text) in
    let facts : Head → Type 0 = λ h. (length (line_of (header_words h.version)) ≤ 4096) × (1 ≤ h.version) × (h.version ≤ 2) × (length (line_of (table_words h.version h.sizes)) ≤ 4096) × IsTable h.version (line_of (table_words h.version h.sizes)) h.sizes in
    let known = subst facts same (one.short, one.least, one.most, two.short, two.table) in
    let content : rest.new ≡ content_words body.0 = sym rest.content in
    let found : IsTold bytes told = record {
      text = sym (join_with_byte-slice_split 10 bytes) ∙ lines
          ∙ ap (λ r. line_of (header_words head.0.version) ++ 10 ∷ r)
          (in_front_of (table_words head.0.version head.0.sizes) (content_words body.0 ++ end_words ∷ []) _ (rest.text ∙ ap (λ ws. text_of (ws ++ end_words ∷ [])) content))
          ∙ in_front_of (header_words head.0.version) (table_words head.0.version head.0.sizes ∷ content_words body.0 ++ end_words ∷ []) _ refl;
      version_least = known.1;
      version_most = known.2;
      sizes = known.4.sizes;
      first = known.4.first;
      nodes = known.4.nodes;
      content = rest.valid;
      some = rest.some;
      short_lines = (known.0, (known.3, subst (λ ws. AllByRecursion (λ ws. length (line_of ws) ≤ 4096) (ws ++ end_words ∷ [])) content rest.short));
      short = short;
    } in
    subst (IsTold bytes) (ok_same told t body.2) found

-- what is read is a script, and its text
pub script-found : (bytes : List ℕ) (t : Told) → script_of bytes ≡ Ok t → IsTold bytes t
script-found bytes t h = by (nat_lt 4194304 (length bytes)) refl
  where
    by : (b : Bool) → nat_lt 4194304 (length bytes) ≡ b → IsTold bytes t
    by true e = absurd (err_ok (let at : Refusal = (0, kind.TooLong) in at) t (sym (cond-true _ _ _ e) ∙ h))
    by false e = script-parts bytes t (ltb-false 4194304 (length bytes) e) (sym (cond-false _ _ _ e) ∙ h)

-- a script that is told, with its geometry
pub script-told : (bytes : List ℕ) (s : ScriptValue) → script_of bytes ≡ Ok (told_of s) → IsScript s × (bytes ≡ text_of_script s)
script-told bytes s h =
    let t = script-found bytes (told_of s) h in (
      record {
        version_least = t.version_least;
        version_most = t.version_most;
        sizes = t.sizes;
        first = t.first;
        nodes = t.nodes;
        content = t.content;
        some = one s.content.clients t.some;
        short_lines = t.short_lines;
        short = subst (λ bs. length bs ≤ 4194304) t.text t.short;
      },
      t.text,
    )
  where
    one : (cs : List (List ℕ × List Call)) → is_empty cs ≡ false → 1 ≤ length cs
    one [] e = absurd (true≢false e)
    one (c ∷ cs) e = omega arith
