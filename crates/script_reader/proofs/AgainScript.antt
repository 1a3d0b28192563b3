-- The text of a script is read as that script.
use Rattle.std.proofs.Common.{◌≡◌, ℕ, ◌+◌, ◌%◌, ◌<◌, ◌≤◌, ◌^◌, Bool, true, false, not, ◌||◌, ◌==◌, nat_eq, nat_lt, List, [], ◌∷◌, ◌++◌, length, map, Option, Some, None, is_none, Result, Ok, Err, codes, refl, sym, ap, subst, ◌∙◌, arith, append_assoc, if◌then◌else◌, inl, inr}
use Rattle.std.proofs.lemmas.Bool.{cond-true, cond-false, and_parts, leb-true, le-ltb, ltb-false, cases_eq, true≢false}
use Rattle.std.proofs.lemmas.List.{map-append}
use Rattle.std.proofs.lemmas.Fmt.{decimal_digit}
use Rattle.std.specs.List.{AllByRecursion, flat_map}
use Rattle.std.specs.Fmt.{decimal}
use Rattle.map_model.specs.declared.calls.Call.{Call}
use Rattle.map_model.specs.declared.calls.Call.TheVariants.{Insert, Search, Update, Delete, Resize}
use Rattle.map_model.specs.declared.plans.Item.{Item}
use Rattle.node_words.specs.Faults.{first_fault}
use Rattle.node_words.specs.Limits.{is_group_count, words_needed}
use Rattle.node_words.specs.declared.geometry.GeometryFault.{GeometryFault}
use Rattle.node_words.specs.declared.geometry.GeometryFault.TheVariants.{GroupsBad, DepthBad, NodesBad, WordsFew, WordsMany}
use Rattle.script_reader.specs.declared.fault.ScriptKind.{ScriptKind}
use Rattle.script_reader.specs.declared.fault.ScriptKind.TheVariants as kind
use Rattle.spelling.specs.Words.{number_of, is_empty}
use Rattle.script_value.specs.Content.{Content, ScriptValue, Sizes, sizes_of, no_content}
use Rattle.script_value.specs.ScriptText.{header_words, table_words, call_words, hash_words, client_words, stop_words, schedule_words, content_words, line_of, script_words, text_of_script}
use Rattle.script_reader.specs.Gives.{told_of, Reads}
use Rattle.node_words.proofs.GeometryNumbers.{same_geometry}
use Rattle.script_reader.specs.declared.fault.ScriptFault.{ScriptFault}
use Rattle.script_reader.specs.declared.fault.ScriptFault.TheVariants as fault
use Rattle.script_reader.proofs.Steps.{ok_same, err_ok}
use Rattle.script_reader.specs.Rules.{◌>>=◌, or_else, Reading, Refusal, unless_fault, words_step, goes_on, read_lines, next_line, on_line, version_of, SizeWords, size_words, sizes_told, table_of, version_line, table_line, Head, head_of, Told, script_of}
use Rattle.script_value.specs.Valid.{are_sizes, most_depth, most_clients, Each, IsCall, IsHash, IsClient, IsStop, IsSchedule, IsContent, IsScript, call_count}
use Rattle.spelling.proofs.Spelled.{number_of-decimal}
use Rattle.script_reader.proofs.FoundScript.{end_words}
use Rattle.script_reader.proofs.Plain.{IsWord, IsWord-name, IsWord-hex_number, IsWord-decimal, IsWord-append, parts-line, parts-text}
use Rattle.script_reader.proofs.Again.{name-again}
use Rattle.script_reader.proofs.AgainLines.{key_word, value_word, item-words, leads-more, line-taken, word_of, reading, AreShort, parts_of, hashes-again, clients-again, stops-again, schedules-again}

-- `end` ends the script
end-again : (most n : ℕ) (r : Reading) → is_empty r.content.clients ≡ false → read_lines most n r (line_of end_words ∷ [] ∷ []) ≡ Ok r.content
end-again most n r some =
    let step : words_step most r end_words ≡ Ok None = ap (λ f. unless_fault f (Ok None)) (cond-false (is_empty r.content.clients) (Some kind.Client) None some) in
    let words : AllByRecursion IsWord end_words = (word_of (codes "end") refl refl, tt) in
    ap (goes_on n r.content ([] ∷ []) (λ s. read_lines most (n + 1) s ([] ∷ []))) (line-taken most r None (codes "end") [] words step)

-- the lines behind the first two
content-again : (most : ℕ) (c : Content) → IsContent most c → is_empty c.clients ≡ false → AreShort (content_words c)
    → read_lines most 3 (reading 0 [] [] [] []) (map line_of (content_words c ++ end_words ∷ []) ++ [] ∷ []) ≡ Ok c
content-again most c h some short =
    let hs = map hash_words c.hashes in
    let cs = flat_map client_words c.clients in
    let names = map (λ (e : List ℕ × List Call). e.0) c.clients in
    let ss = map (stop_words names) c.stops in
    let is = map (schedule_words names) c.schedules in
    let p = parts_of (λ l. length (line_of l) ≤ 4096) (hs ++ cs ++ ss) is short in
    let q = parts_of (λ l. length (line_of l) ≤ 4096) (hs ++ cs) ss p.0 in
    let o = parts_of (λ l. length (line_of l) ≤ 4096) hs cs q.0 in
    let a = hashes-again most 3 [] c.hashes h.hashes o.0 in
    let b = clients-again most a.0 0 c.hashes [] c.clients h.clients (let calls = h.calls in omega (arith, calls)) o.1 in
    let k = 0 + call_count c.clients in
    let d = stops-again most k c.hashes c.clients h.clients some b.0 [] c.stops h.stops q.1 in
    let e = schedules-again most k c.hashes c.clients h.clients some d.0 c.stops [] c.schedules h.schedules p.1 in
    let ab = leads-more most 3 a.0 b.0 (reading 0 [] [] [] []) (reading 0 c.hashes [] [] []) (reading k c.hashes c.clients [] []) hs cs a.1 b.1 in
    let abd = leads-more most 3 b.0 d.0 (reading 0 [] [] [] []) (reading k c.hashes c.clients [] []) (reading k c.hashes c.clients c.stops []) (hs ++ cs) ss ab d.1 in
    let all = leads-more most 3 d.0 e.0 (reading 0 [] [] [] []) (reading k c.hashes c.clients c.stops []) (reading k c.hashes c.clients c.stops c.schedules) (hs ++ cs ++ ss) is abd e.1 in
    ap (read_lines most 3 (reading 0 [] [] [] [])) (ap (λ l. l ++ [] ∷ []) (map-append line_of (content_words c) (end_words ∷ [])) ∙ append_assoc (map line_of (content_words c)) (line_of end_words ∷ []) ([] ∷ []))
    ∙ all (line_of end_words ∷ [] ∷ []) refl
    ∙ end-again most e.0 (reading k c.hashes c.clients c.stops c.schedules) some

-- line 1
version-again : (v : ℕ) → 1 ≤ v → v ≤ 2 → version_of (line_of (header_words v)) ≡ Ok v
version-again v l h = elim (cases_eq v 1) [
  | inl one ↦ subst (λ v. version_of (line_of (header_words v)) ≡ Ok v) (sym one) (ap (λ d. version_of (codes "race" ++ 32 ∷ d)) (decimal_digit 1 (omega arith)))
  | inr other ↦
      let two : 2 ≡ v = omega (arith, other) in
      subst (λ v. version_of (line_of (header_words v)) ≡ Ok v) two (ap (λ d. version_of (codes "race" ++ 32 ∷ d)) (decimal_digit 2 (omega arith)))
]

-- numbers that have no fault are below 2 ^ 64
no_fault : (b : Bool) (f : GeometryFault) (o : Option GeometryFault) → is_none (if b then Some f else o) ≡ true → (b ≡ false) × (is_none o ≡ true)
no_fault true f o h = absurd (true≢false (sym h))
no_fault false f o h = (refl, h)

words-small : (g m f n w : ℕ) → is_none (first_fault g m f n w) ≡ true → w ≤ 2 ^ 24
words-small g m f n w h =
    let few : Option GeometryFault = if nat_lt w (words_needed g m f n) then Some (WordsFew (words_needed g m f n) w) else None in
    let many : Option GeometryFault = if nat_lt (2 ^ 24) w then Some (WordsMany w) else few in
    let nodes : Option GeometryFault = if (n == 0) || nat_lt 8 n || not (w % n == 0) then Some (NodesBad n) else many in
    let first : Option GeometryFault = if nat_lt m f then Some (DepthBad f) else nodes in
    let depth : Option GeometryFault = if nat_lt 16 m then Some (DepthBad m) else first in
    let a = no_fault (not (is_group_count g)) (GroupsBad g) depth h in
    let b = no_fault (nat_lt 16 m) (DepthBad m) first a.1 in
    let c = no_fault (nat_lt m f) (DepthBad f) nodes b.1 in
    let d = no_fault ((n == 0) || nat_lt 8 n || not (w % n == 0)) (NodesBad n) many c.1 in
    let e = no_fault (nat_lt (2 ^ 24) w) (WordsMany w) few d.1 in
    ltb-false (2 ^ 24) w e.0

-- the sizes of the limits
record AreSmall (s : Sizes) : Type 0 where
  groups : s.groups < 2 ^ 64
  max_depth : s.max_depth < 2 ^ 64
  first_depth : s.first_depth < 2 ^ 64
  nodes : s.nodes < 2 ^ 64
  words : s.words < 2 ^ 64
  tries : s.tries < 2 ^ 64

sizes-small : (version : ℕ) (s : Sizes) → are_sizes version s ≡ true → AreSmall s
sizes-small version s h =
    let a = and_parts _ _ h in
    let b = and_parts _ _ a.0 in
    let c = and_parts _ _ b.0 in
    let d = and_parts _ _ c.0 in
    let e = and_parts _ _ d.0 in
    let g = leb-true s.groups 64 e.0 in
    let m = leb-true s.max_depth (most_depth version) e.1 in
    let f = leb-true s.first_depth 16 d.1 in
    let n = leb-true s.nodes 8 c.1 in
    let t = leb-true s.tries 64 (and_parts _ _ b.1).1 in
    let w = words-small s.groups s.max_depth s.first_depth s.nodes s.words a.1 in
    record {
      groups = omega (arith, g);
      max_depth = depth (nat_eq version 1) m;
      first_depth = omega (arith, f);
      nodes = omega (arith, n);
      words = omega (arith, w);
      tries = omega (arith, t);
    }
  where
    depth : (t : Bool) → s.max_depth ≤ (if t then 12 else 16) → s.max_depth < 2 ^ 64
    depth true l = omega arith
    depth false l = omega arith

-- the number words of line 2
abbrev number_words : Sizes → SizeWords
number_words s = record { groups = decimal s.groups; max_depth = decimal s.max_depth; first_depth = decimal s.first_depth; nodes = decimal s.nodes; words = decimal s.words; tries = decimal s.tries }

told-again : (s : Sizes) → AreSmall s → sizes_told (number_words s) ≡ Ok s
told-again s h =
    let told : ℕ → ℕ → ℕ → ℕ → ℕ → ℕ → Result Sizes ScriptKind = λ g d f n a t. Ok (record { groups = g; max_depth = d; first_depth = f; nodes = n; words = a; tries = t }) in
    let at_tries : ℕ → ℕ → ℕ → ℕ → ℕ → Result Sizes ScriptKind = λ g d f n a. or_else kind.Number (number_of (decimal s.tries)) >>= told g d f n a in
    let at_words : ℕ → ℕ → ℕ → ℕ → Result Sizes ScriptKind = λ g d f n. or_else kind.Number (number_of (decimal s.words)) >>= at_tries g d f n in
    let at_nodes : ℕ → ℕ → ℕ → Result Sizes ScriptKind = λ g d f. or_else kind.Number (number_of (decimal s.nodes)) >>= at_words g d f in
    let at_first : ℕ → ℕ → Result Sizes ScriptKind = λ g d. or_else kind.Number (number_of (decimal s.first_depth)) >>= at_nodes g d in
    let at_depth : ℕ → Result Sizes ScriptKind = λ g. or_else kind.Number (number_of (decimal s.max_depth)) >>= at_first g in
    ap (λ o. or_else kind.Number o >>= at_depth) (number_of-decimal s.groups h.groups)
    ∙ ap (λ o. or_else kind.Number o >>= at_first s.groups) (number_of-decimal s.max_depth h.max_depth)
    ∙ ap (λ o. or_else kind.Number o >>= at_nodes s.groups s.max_depth) (number_of-decimal s.first_depth h.first_depth)
    ∙ ap (λ o. or_else kind.Number o >>= at_words s.groups s.max_depth s.first_depth) (number_of-decimal s.nodes h.nodes)
    ∙ ap (λ o. or_else kind.Number o >>= at_tries s.groups s.max_depth s.first_depth s.nodes) (number_of-decimal s.words h.words)
    ∙ ap (λ o. or_else kind.Number o >>= told s.groups s.max_depth s.first_depth s.nodes s.words) (number_of-decimal s.tries h.tries)

-- the words of line 2
size_words-again : (version : ℕ) (s : Sizes) → 1 ≤ version → version ≤ 2 → (version ≡ 1 → s.first_depth ≡ 0) → (version ≡ 1 → s.nodes ≡ 1) → size_words version (table_words version s) ≡ Ok (number_words s)
size_words-again version s l h first nodes = elim (cases_eq version 1) [
  | inl one ↦
      let f = decimal_digit 0 (omega arith) in
      let n = decimal_digit 1 (omega arith) in
      let zero : codes "0" ≡ decimal s.first_depth = sym f ∙ ap decimal (sym (first one)) in
      let unit : codes "1" ≡ decimal s.nodes = sym n ∙ ap decimal (sym (nodes one)) in
      subst (λ v. size_words v (table_words v s) ≡ Ok (number_words s)) (sym one)
      (ap (λ (x : List ℕ). Ok (let w : SizeWords = record { groups = decimal s.groups; max_depth = decimal s.max_depth; first_depth = x; nodes = codes "1"; words = decimal s.words; tries = decimal s.tries } in w)) zero
      ∙ ap (λ (x : List ℕ). Ok (let w : SizeWords = record { groups = decimal s.groups; max_depth = decimal s.max_depth; first_depth = decimal s.first_depth; nodes = x; words = decimal s.words; tries = decimal s.tries } in w)) unit)
  | inr other ↦
      let two : 2 ≡ version = omega (arith, other) in
      subst (λ v. size_words v (table_words v s) ≡ Ok (number_words s)) two refl
]

-- each word of line 2 is one
sizes-words : (version : ℕ) (s : Sizes) → AreSmall s → AllByRecursion IsWord (table_words version s)
sizes-words version s h = by (nat_eq version 1)
  where
    labelled : (label : List ℕ) (n : ℕ) → IsWord label → n < 2 ^ 64 → IsWord (label ++ decimal n)
    labelled label n w small = IsWord-append label (decimal n) w (IsWord-decimal n small).bytes

    last : AllByRecursion IsWord ((codes "words=" ++ decimal s.words) ∷ (codes "tries=" ++ decimal s.tries) ∷ [])
    last = (labelled (codes "words=") s.words (word_of (codes "words=") refl refl) h.words, (labelled (codes "tries=") s.tries (word_of (codes "tries=") refl refl) h.tries, tt))

    by : (t : Bool) → AllByRecursion IsWord (codes "table" ∷ (codes "groups=" ++ decimal s.groups) ∷ (codes "depth=" ++ decimal s.max_depth)
        ∷ ((if t then [] else (codes "first=" ++ decimal s.first_depth) ∷ (codes "nodes=" ++ decimal s.nodes) ∷ []) ++ (codes "words=" ++ decimal s.words) ∷ (codes "tries=" ++ decimal s.tries) ∷ []))
    by true = (word_of (codes "table") refl refl, (labelled (codes "groups=") s.groups (word_of (codes "groups=") refl refl) h.groups, (labelled (codes "depth=") s.max_depth (word_of (codes "depth=") refl refl) h.max_depth, last)))
    by false = (
      word_of (codes "table") refl refl,
      (
        labelled (codes "groups=") s.groups (word_of (codes "groups=") refl refl) h.groups,
        (
          labelled (codes "depth=") s.max_depth (word_of (codes "depth=") refl refl) h.max_depth,
          (labelled (codes "first=") s.first_depth (word_of (codes "first=") refl refl) h.first_depth, (labelled (codes "nodes=") s.nodes (word_of (codes "nodes=") refl refl) h.nodes, last)),
        ),
      ),
    )

-- line 2
pub table-again : (version : ℕ) (s : Sizes) → 1 ≤ version → version ≤ 2 → (version ≡ 1 → s.first_depth ≡ 0) → (version ≡ 1 → s.nodes ≡ 1) → are_sizes version s ≡ true → table_of version (line_of (table_words version s)) ≡ Ok s
table-again version s l h first nodes valid =
    let small = sizes-small version s valid in
    let fits : Sizes → Result Sizes ScriptKind = λ s. if are_sizes version s then Ok s else Err kind.Table in
    let numbers : SizeWords → Result Sizes ScriptKind = λ w. sizes_told w >>= fits in
    ap (λ ws. size_words version ws >>= numbers) (parts-line (codes "table") ((codes "groups=" ++ decimal s.groups) ∷ (codes "depth=" ++ decimal s.max_depth)
    ∷ ((if version == 1 then [] else (codes "first=" ++ decimal s.first_depth) ∷ (codes "nodes=" ++ decimal s.nodes) ∷ []) ++ (codes "words=" ++ decimal s.words) ∷ (codes "tries=" ++ decimal s.tries) ∷ [])) (sizes-words version s small))
    ∙ ap (λ read. read >>= numbers) (size_words-again version s l h first nodes)
    ∙ ap (λ read. read >>= fits) (told-again s small)
    ∙ cond-true _ _ _ valid

-- a line with others behind it
next-again : (line : List ℕ) (others : List (List ℕ)) → is_empty others ≡ false → length line ≤ 4096 → let p : List ℕ × List (List ℕ) = (line, others) in next_line (line ∷ others) ≡ Ok p
next-again line [] some short = absurd (true≢false some)
next-again line (o ∷ os) some short = cond-false _ _ _ (le-ltb 4096 (length line) short)

-- some behind others
some_behind : {A : Type 0} (xs : List A) (y : A) → is_empty (xs ++ y ∷ []) ≡ false
some_behind [] y = refl
some_behind (x ∷ xs) y = refl

-- the words of the lines behind the first two
header-words : (v : ℕ) → 1 ≤ v → v ≤ 2 → AllByRecursion IsWord (header_words v)
header-words v l h = (word_of (codes "race") refl refl, (IsWord-decimal v (omega arith), tt))

-- what holds of two lists holds of both
both : {X : Type 0} (P : X → Type 0) (xs ys : List X) → AllByRecursion P xs → AllByRecursion P ys → AllByRecursion P (xs ++ ys)
both P [] ys p q = q
both P (x ∷ xs) ys p q = (p.0, both P xs ys p.1 q)

hashes-words : (front es : List (List ℕ × ℕ)) → Each IsHash front es → AllByRecursion (AllByRecursion IsWord) (map hash_words es)
hashes-words front [] h = tt
hashes-words front (e ∷ es) h = ((word_of (codes "hash") refl refl, (key_word e.0 h.0.0, (IsWord-hex_number e.1, tt))), hashes-words (front ++ e ∷ []) es h.1)

call-words : (call : Call) → IsCall call → AllByRecursion IsWord (call_words call)
call-words (Insert key value) h = (word_of (codes "insert") refl refl, (key_word key h.0, (value_word value h.1, tt)))
call-words (Search key) h = (word_of (codes "search") refl refl, (key_word key h, tt))
call-words (Update key value) h = (word_of (codes "update") refl refl, (key_word key h.0, (value_word value h.1, tt)))
call-words (Delete key) h = (word_of (codes "delete") refl refl, (key_word key h, tt))
call-words (Resize key) h = (word_of (codes "resize") refl refl, (key_word key h, tt))

calls-words : (calls : List Call) → AllByRecursion IsCall calls → AllByRecursion (AllByRecursion IsWord) (map call_words calls)
calls-words [] h = tt
calls-words (c ∷ cs) h = (call-words c h.0, calls-words cs h.1)

clients-words : (most : ℕ) (front cs : List (List ℕ × List Call)) → Each (IsClient most) front cs → AllByRecursion (AllByRecursion IsWord) (flat_map client_words cs)
clients-words most front [] h = tt
clients-words most front (e ∷ es) h =
    both (AllByRecursion IsWord) (client_words e) (flat_map client_words es)
    ((word_of (codes "client") refl refl, (IsWord-name e.0 h.0.0, tt)), calls-words e.1 h.0.3) (clients-words most (front ++ e ∷ []) es h.1)

module _ (most : ℕ) (cs : List (List ℕ × List Call)) (valid : Each (IsClient most) [] cs) (some : is_empty cs ≡ false) where
  stops-words : (front es : List (ℕ × ℕ)) → Each (IsStop (length cs)) front es → AllByRecursion (AllByRecursion IsWord) (map (stop_words (map (λ (e : List ℕ × List Call). e.0) cs)) es)
  stops-words front [] h = tt
  stops-words front (e ∷ es) h = (
    (word_of (codes "stop") refl refl, (IsWord-name _ (name-again most (record no_content { clients = cs }) e.0 valid h.0.0), (IsWord-decimal e.1 (let small = h.0.1 in omega (arith, small)), tt))),
    stops-words (front ++ e ∷ []) es h.1,
  )

  schedules-words : (is : List (List Item)) → AllByRecursion (IsSchedule (length cs)) is → AllByRecursion (AllByRecursion IsWord) (map (schedule_words (map (λ (e : List ℕ × List Call). e.0) cs)) is)
  schedules-words [] h = tt
  schedules-words (i ∷ is) h = ((word_of (codes "schedule") refl refl, item-words most 0 [] cs valid some (record no_content { clients = cs }) refl i h.0.1), schedules-words is h.1)

-- each word of a script is one
content-are_words : (most : ℕ) (c : Content) → IsContent most c → is_empty c.clients ≡ false → AllByRecursion (AllByRecursion IsWord) (content_words c ++ end_words ∷ [])
content-are_words most c h some =
    let hs = map hash_words c.hashes in
    let cs = flat_map client_words c.clients in
    let names = map (λ (e : List ℕ × List Call). e.0) c.clients in
    let ss = map (stop_words names) c.stops in
    let is = map (schedule_words names) c.schedules in
    let a = both (AllByRecursion IsWord) hs cs (hashes-words [] c.hashes h.hashes) (clients-words most [] c.clients h.clients) in
    let b = both (AllByRecursion IsWord) (hs ++ cs) ss a (stops-words most c.clients h.clients some [] c.stops h.stops) in
    let d = both (AllByRecursion IsWord) (hs ++ cs ++ ss) is b (schedules-words most c.clients h.clients some c.schedules h.schedules) in
    both (AllByRecursion IsWord) (content_words c) (end_words ∷ []) d ((word_of (codes "end") refl refl, tt), tt)

-- the text of a script is read as the script
pub script-again : (s : ScriptValue) → IsScript s → script_of (text_of_script s) ≡ Ok (told_of s)
script-again s h =
    let words = content-are_words (most_clients s.version) s.content h.content (clients-some s.content.clients h.some) in
    let sizes = sizes_of s.geometry s.tries in
    let small = sizes-small s.version sizes h.sizes in
    let parts = parts-text (script_words s) (header-words s.version h.version_least h.version_most, (sizes-words s.version sizes small, words)) in
    let first = line_of (header_words s.version) in
    let second = line_of (table_words s.version sizes) in
    let rest = map line_of (content_words s.content ++ end_words ∷ []) ++ [] ∷ [] in
    let start = reading 0 [] [] [] [] in
    let told : Content → Result Told Refusal = λ content. Ok (record { version = s.version; sizes = sizes; content = content }) in
    let others : Head → Result Told Refusal = λ head. (read_lines (most_clients head.version) 3 start head.others >>= (λ content. Ok (record { version = head.version; sizes = head.sizes; content = content }))) in
    let head : Head = record { version = s.version; sizes = sizes; others = rest } in
    let one : let p : ℕ × List (List ℕ) = (s.version, second ∷ rest) in version_line (first ∷ second ∷ rest) ≡ Ok p =
    ap (λ (read : Result (List ℕ × List (List ℕ)) ScriptKind). on_line 1 read >>= (λ (line : List ℕ × List (List ℕ)). on_line 1 (version_of line.0) >>= (λ (v : ℕ). Ok (let p : ℕ × List (List ℕ) = (v, line.1) in p)))) (next-again first (second ∷ rest) refl h.short_lines.0)
    ∙ ap (λ (read : Result ℕ ScriptKind). on_line 1 read >>= (λ (v : ℕ). Ok (let p : ℕ × List (List ℕ) = (v, second ∷ rest) in p))) (version-again s.version h.version_least h.version_most) in
    let two : let p : Sizes × List (List ℕ) = (sizes, rest) in table_line s.version (second ∷ rest) ≡ Ok p =
    ap (λ (read : Result (List ℕ × List (List ℕ)) ScriptKind). on_line 2 read >>= (λ (line : List ℕ × List (List ℕ)). on_line 2 (table_of s.version line.0) >>= (λ (t : Sizes). Ok (let p : Sizes × List (List ℕ) = (t, line.1) in p)))) (next-again second rest (some_behind (map line_of (content_words s.content ++ end_words ∷ [])) []) h.short_lines.1.0)
    ∙ ap (λ (read : Result Sizes ScriptKind). on_line 2 read >>= (λ (t : Sizes). Ok (let p : Sizes × List (List ℕ) = (t, rest) in p))) (table-again s.version sizes h.version_least h.version_most h.first h.nodes h.sizes) in
    let whole_head : head_of (text_of_script s) ≡ Ok head =
    ap (λ ps. version_line ps >>= (λ (f : ℕ × List (List ℕ)). table_line f.0 f.1 >>= (λ (t : Sizes × List (List ℕ)). Ok (let x : Head = record { version = f.0; sizes = t.0; others = t.1 } in x)))) parts
    ∙ ap (λ (read : Result (ℕ × List (List ℕ)) Refusal). read >>= (λ (f : ℕ × List (List ℕ)). table_line f.0 f.1 >>= (λ (t : Sizes × List (List ℕ)). Ok (let x : Head = record { version = f.0; sizes = t.0; others = t.1 } in x)))) one
    ∙ ap (λ (read : Result (Sizes × List (List ℕ)) Refusal). read >>= (λ (t : Sizes × List (List ℕ)). Ok (let x : Head = record { version = s.version; sizes = t.0; others = t.1 } in x))) two in
    let some = clients-some s.content.clients h.some in
    let short = parts_of (λ l. length (line_of l) ≤ 4096) (content_words s.content) (end_words ∷ []) h.short_lines.1.1 in
    cond-false _ _ _ (le-ltb 4194304 (length (text_of_script s)) h.short)
    ∙ ap (λ read. read >>= others) whole_head
    ∙ ap (λ read. read >>= told) (content-again (most_clients s.version) s.content h.content some short.0)
  where
    clients-some : (cs : List (List ℕ × List Call)) → 1 ≤ length cs → is_empty cs ≡ false
    clients-some [] l = absurd (omega arith)
    clients-some (c ∷ cs) l = refl

-- a script is what is told of it
same-told : (s t : ScriptValue) → told_of s ≡ told_of t → s ≡ t
same-told s t h =
    let version = ap (λ (x : Told). x.version) h in
    let content = ap (λ (x : Told). x.content) h in
    let tries = ap (λ (x : Told). x.sizes.tries) h in
    let geometry = same_geometry s.geometry t.geometry (ap (λ (x : Told). x.sizes.groups) h) (ap (λ (x : Told). x.sizes.max_depth) h) (ap (λ (x : Told). x.sizes.first_depth) h)
    (ap (λ (x : Told). x.sizes.nodes) h) (ap (λ (x : Told). x.sizes.words) h) in
    λ i. record { version = version i; geometry = geometry i; tries = tries i; content = content i }

-- the text of a script is read as that script
pub only-read : (bytes : List ℕ) (result : Result ScriptValue ScriptFault) (s : ScriptValue) → Reads told_of result (script_of bytes) → IsScript s → bytes ≡ text_of_script s → Reads (λ t. t) result (Ok s)
only-read bytes (Ok t) s read h text =
    let told = sym read ∙ ap script_of text ∙ script-again s h in
    ap Ok (sym (same-told t s (ok_same (told_of t) (told_of s) told)))
only-read bytes (Err (fault.Refused line k)) s read h text = absurd (err_ok (let at : Refusal = (line, k) in at) (told_of s) (sym read ∙ ap script_of text ∙ script-again s h))
only-read bytes (Err fault.OutOfMemory) s read h text = tt

-- two scripts never have one text
pub one-text : (s t : ScriptValue) → IsScript s → IsScript t → text_of_script s ≡ text_of_script t → s ≡ t
one-text s t p q e = same-told s t (ok_same (told_of s) (told_of t) (sym (script-again s p) ∙ ap script_of e ∙ script-again t q))
