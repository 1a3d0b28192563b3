-- The lines of a script are read again, one after the other.
use Rattle.std.proofs.Common.{◌≡◌, ℕ, ◌+◌, ◌<◌, ◌≤◌, Bool, true, false, not, ◌&&◌, nat_eq, List, [], ◌∷◌, ◌++◌, length, map, Option, Some, None, Result, Ok, codes, refl, sym, ap, subst, ◌∙◌, arith, append_assoc, append-nil, if◌then◌else◌}
use Rattle.std.proofs.lemmas.Bool.{cond-true, cond-false, and_from, not_from_false, le-ltb, true≢false}
use Rattle.std.proofs.lemmas.List.{map-append}
use Rattle.std.proofs.lemmas.List.Elements.{recursion_from_All}
use Rattle.std.specs.List.{AllByRecursion, list_all, flat_map}
use Rattle.std.specs.Fmt.{decimal}
use Rattle.map_model.specs.declared.calls.Call.{Call}
use Rattle.map_model.specs.declared.calls.Call.TheVariants.{Insert, Search, Update, Delete, Resize}
use Rattle.map_model.specs.declared.plans.Item.{Item}
use Rattle.map_model.specs.declared.plans.Item.TheVariants as item
use Rattle.script_reader.specs.declared.fault.ScriptKind.{ScriptKind}
use Rattle.script_reader.specs.declared.fault.ScriptKind.TheVariants as kind
use Rattle.spelling.specs.Spelling.{spelled, hex_number}
use Rattle.script_value.specs.Content.{Content, names_of, called, no_content}
use Rattle.script_value.specs.ScriptText.{hash_words, client_words, call_words, stop_words, schedule_words, item_word, name_at, line_of}
use Rattle.script_reader.specs.Rules.{◌>>=◌, Reading, content_step, going_on, after_call, insert_step, search_step, update_step, delete_step, resize_step, stop_step, schedule_step, unless_fault, words_step, line_step, goes_on, read_lines}
use Rattle.spelling.specs.Words.{is_empty, IsKey, IsValue}
use Rattle.script_value.specs.Valid.{Each, IsCall, IsHash, IsClient, IsStop, IsItem, IsSchedule, call_count}
use Rattle.script_reader.proofs.Plain.{IsWord, is_word_byte, IsWord-decimal, IsWord-name, IsWord-spelled, IsWord-hex_number, IsWord-append, parts-line, line_printable}
use Rattle.script_reader.proofs.Again.{hash-again, client-again, key-again, pair-again, stop-again, schedule-again, name-again}

-- lines that lead from what has been read to more, whatever stands behind them
abbrev pub Leads : ℕ → ℕ → Reading → List (List (List ℕ)) → ℕ → Reading → Type 0
Leads most n r lines m s = (more : List (List ℕ)) → is_empty more ≡ false → read_lines most n r (map line_of lines ++ more) ≡ read_lines most m s more

pub some_append : {A : Type 0} (xs ys : List A) → is_empty ys ≡ false → is_empty (xs ++ ys) ≡ false
some_append [] ys h = h
some_append (x ∷ xs) ys h = refl

leads-one : (most n : ℕ) (r s : Reading) (l : List (List ℕ)) → line_step most r (line_of l) ≡ Ok (Some s) → length (line_of l) ≤ 4096 → Leads most n r (l ∷ []) (n + 1) s
leads-one most n r s l step short [] h = absurd (true≢false h)
leads-one most n r s l step short (m ∷ ms) h =
    cond-false _ _ _ (le-ltb 4096 (length (line_of l)) short) ∙ ap (goes_on n r.content (m ∷ ms) (λ s. read_lines most (n + 1) s (m ∷ ms))) step

pub leads-more : (most n m k : ℕ) (r s t : Reading) (xs ys : List (List (List ℕ))) → Leads most n r xs m s → Leads most m s ys k t → Leads most n r (xs ++ ys) k t
leads-more most n m k r s t xs ys p q more h =
    ap (read_lines most n r) (ap (λ l. l ++ more) (map-append line_of xs ys) ∙ append_assoc (map line_of xs) (map line_of ys) more)
    ∙ p (map line_of ys ++ more) (some_append (map line_of ys) more h) ∙ q more h

-- a line of words is taken as its words are
pub line-taken : (most : ℕ) (r : Reading) (o : Option Reading) (w : List ℕ) (ws : List (List ℕ)) → AllByRecursion IsWord (w ∷ ws) → words_step most r (w ∷ ws) ≡ Ok o → line_step most r (line_of (w ∷ ws)) ≡ Ok o
line-taken most r o w ws h step =
    let parts = parts-line w ws h in
    cond-true _ _ _ (and_from _ _ (line_printable (w ∷ ws) h) (ap (list_all (λ w. not (is_empty w))) parts ∙ some (w ∷ ws) h)) ∙ ap (words_step most r) parts ∙ step
  where
    some : (ws : List (List ℕ)) → AllByRecursion IsWord ws → list_all (λ w. not (is_empty w)) ws ≡ true
    some [] q = refl
    some (v ∷ vs) q = and_from _ _ (not_from_false _ q.0.some) (some vs q.1)

-- what has been read
abbrev pub reading : ℕ → List (List ℕ × ℕ) → List (List ℕ × List Call) → List (ℕ × ℕ) → List (List Item) → Reading
reading k hs cs ss is = record { calls = k; content = record { hashes = hs; clients = cs; stops = ss; schedules = is } }

-- no line is too long
abbrev pub AreShort : List (List (List ℕ)) → Type 0
AreShort lines = AllByRecursion (λ l. length (line_of l) ≤ 4096) lines

-- the word of a command
pub word_of : (w : List ℕ) → list_all is_word_byte w ≡ true → is_empty w ≡ false → IsWord w
word_of w p q = record { bytes = p; some = q }

pub key_word : (k : List ℕ) → IsKey k → IsWord (spelled k)
key_word k h = IsWord-spelled k (recursion_from_All (λ b. b < 256) k h.1)

pub value_word : (v : List ℕ) → IsValue v → IsWord (spelled v)
value_word v h = IsWord-spelled v (recursion_from_All (λ b. b < 256) v h.1)

pub hashes-again : (most n : ℕ) (front es : List (List ℕ × ℕ)) → Each IsHash front es → AreShort (map hash_words es)
    → (m : ℕ) × Leads most n (reading 0 front [] [] []) (map hash_words es) m (reading 0 (front ++ es) [] [] [])
hashes-again most n front [] h short = (n, subst (λ f. Leads most n (reading 0 front [] [] []) [] n (reading 0 f [] [] [])) (sym (append-nil front)) (λ more some. refl))
hashes-again most n front (e ∷ es) h short =
    let old = reading 0 front [] [] [] in
    let new = reading 0 (front ++ e ∷ []) [] [] [] in
    let step : words_step most old (hash_words e) ≡ Ok (Some new) = ap (λ read. going_on (content_step old read)) (hash-again old.content e.0 e.1 h.0) in
    let words : AllByRecursion IsWord (hash_words e) = (word_of (codes "hash") refl refl, (key_word e.0 h.0.0, (IsWord-hex_number e.1, tt))) in
    let one = leads-one most n old new (hash_words e) (line-taken most old (Some new) (codes "hash") (spelled e.0 ∷ hex_number e.1 ∷ []) words step) short.0 in
    let others = hashes-again most (n + 1) (front ++ e ∷ []) es h.1 short.1 in
    let whole = leads-more most n (n + 1) others.0 old new (reading 0 (front ++ e ∷ [] ++ es) [] [] []) (hash_words e ∷ []) (map hash_words es) one others.1 in
    (others.0, subst (λ f. Leads most n old (map hash_words (e ∷ es)) others.0 (reading 0 f [] [] [])) (append_assoc front (e ∷ []) es) whole)

-- the last client with a call more
called-last : (front : List (List ℕ × List Call)) (name : List ℕ) (calls : List Call) (call : Call) → called (front ++ (name, calls) ∷ []) call ≡ front ++ (name, calls ++ call ∷ []) ∷ []
called-last [] name calls call = refl
called-last (e ∷ []) name calls call = refl
called-last (e ∷ f ∷ es) name calls call = ap (λ r. e ∷ r) (called-last (f ∷ es) name calls call)

-- a call's line is taken
module _ (most : ℕ) (r : Reading) (some : is_empty r.content.clients ≡ false) (no_stop : is_empty r.content.stops ≡ true) (no_schedule : is_empty r.content.schedules ≡ true) (room : r.calls < 65536) where
  placed : (if not (is_empty r.content.clients) && is_empty r.content.stops && is_empty r.content.schedules then None else Some kind.Word) ≡ None
  placed = cond-true _ _ _ (and_from _ _ (and_from _ _ (not_from_false _ some) no_stop) no_schedule)

  call-taken : (call : Call) → IsCall call → line_step most r (line_of (call_words call)) ≡ Ok (Some (after_call r call))
  call-taken (Insert key value) h =
      let words : AllByRecursion IsWord (call_words (Insert key value)) = (word_of (codes "insert") refl refl, (key_word key h.0, (value_word value h.1, tt))) in
      let told : List ℕ × List ℕ → Result Reading ScriptKind = λ (p : List ℕ × List ℕ). Ok (after_call r (Insert p.0 p.1)) in
      line-taken most r (Some (after_call r (Insert key value))) (codes "insert") (spelled key ∷ spelled value ∷ []) words
      (ap (λ f. unless_fault f (going_on (insert_step r (spelled key ∷ spelled value ∷ [])))) placed ∙ ap (λ read. going_on (read >>= told)) (pair-again r.calls key value h.0 h.1 room))
  call-taken (Search key) h =
      let words : AllByRecursion IsWord (call_words (Search key)) = (word_of (codes "search") refl refl, (key_word key h, tt)) in
      let told : List ℕ → Result Reading ScriptKind = λ key. Ok (after_call r (Search key)) in
      line-taken most r (Some (after_call r (Search key))) (codes "search") (spelled key ∷ []) words
      (ap (λ f. unless_fault f (going_on (search_step r (spelled key ∷ [])))) placed ∙ ap (λ read. going_on (read >>= told)) (key-again r.calls key h room))
  call-taken (Update key value) h =
      let words : AllByRecursion IsWord (call_words (Update key value)) = (word_of (codes "update") refl refl, (key_word key h.0, (value_word value h.1, tt))) in
      let told : List ℕ × List ℕ → Result Reading ScriptKind = λ (p : List ℕ × List ℕ). Ok (after_call r (Update p.0 p.1)) in
      line-taken most r (Some (after_call r (Update key value))) (codes "update") (spelled key ∷ spelled value ∷ []) words
      (ap (λ f. unless_fault f (going_on (update_step r (spelled key ∷ spelled value ∷ [])))) placed ∙ ap (λ read. going_on (read >>= told)) (pair-again r.calls key value h.0 h.1 room))
  call-taken (Delete key) h =
      let words : AllByRecursion IsWord (call_words (Delete key)) = (word_of (codes "delete") refl refl, (key_word key h, tt)) in
      let told : List ℕ → Result Reading ScriptKind = λ key. Ok (after_call r (Delete key)) in
      line-taken most r (Some (after_call r (Delete key))) (codes "delete") (spelled key ∷ []) words
      (ap (λ f. unless_fault f (going_on (delete_step r (spelled key ∷ [])))) placed ∙ ap (λ read. going_on (read >>= told)) (key-again r.calls key h room))
  call-taken (Resize key) h =
      let words : AllByRecursion IsWord (call_words (Resize key)) = (word_of (codes "resize") refl refl, (key_word key h, tt)) in
      let told : List ℕ → Result Reading ScriptKind = λ key. Ok (after_call r (Resize key)) in
      line-taken most r (Some (after_call r (Resize key))) (codes "resize") (spelled key ∷ []) words
      (ap (λ f. unless_fault f (going_on (resize_step r (spelled key ∷ [])))) placed ∙ ap (λ read. going_on (read >>= told)) (key-again r.calls key h room))

calls-again : (most n k : ℕ) (hs : List (List ℕ × ℕ)) (front : List (List ℕ × List Call)) (name : List ℕ) (done calls : List Call) → AllByRecursion IsCall calls → k + length calls ≤ 65536 → AreShort (map call_words calls)
    → (m : ℕ) × Leads most n (reading k hs (front ++ (name, done) ∷ []) [] []) (map call_words calls) m (reading (k + length calls) hs (front ++ (name, done ++ calls) ∷ []) [] [])
calls-again most n k hs front name done [] h room short =
    let zero : k ≡ k + 0 = omega arith in (
      n,
      subst (λ (calls : List Call). Leads most n (reading k hs (front ++ (name, done) ∷ []) [] []) [] n (reading (k + 0) hs (front ++ (name, calls) ∷ []) [] [])) (sym (append-nil done))
          (subst (λ j. Leads most n (reading k hs (front ++ (name, done) ∷ []) [] []) [] n (reading j hs (front ++ (name, done) ∷ []) [] [])) zero (λ more some. refl)),
    )
calls-again most n k hs front name done (call ∷ calls) h room short =
    let old = reading k hs (front ++ (name, done) ∷ []) [] [] in
    let new = reading (k + 1) hs (front ++ (name, done ++ call ∷ []) ∷ []) [] [] in
    let taken = call-taken most old (some_append front ((name, done) ∷ []) refl) refl refl (omega arith) call h.0 in
    let same : after_call old call ≡ new = ap (λ cs. reading (k + 1) hs cs [] []) (called-last front name done call) in
    let one = leads-one most n old new (call_words call) (taken ∙ ap (λ r. Ok (Some r)) same) short.0 in
    let others = calls-again most (n + 1) (k + 1) hs front name (done ++ call ∷ []) calls h.1 (omega arith) short.1 in
    let count : k + 1 + length calls ≡ k + length (call ∷ calls) = omega arith in
    let whole = leads-more most n (n + 1) others.0 old new (reading (k + 1 + length calls) hs (front ++ (name, done ++ call ∷ [] ++ calls) ∷ []) [] []) (call_words call ∷ []) (map call_words calls) one others.1 in (
      others.0,
      subst (λ j. Leads most n old (map call_words (call ∷ calls)) others.0 (reading j hs (front ++ (name, done ++ call ∷ calls) ∷ []) [] [])) count
          (subst (λ (all : List Call). Leads most n old (map call_words (call ∷ calls)) others.0 (reading (k + 1 + length calls) hs (front ++ (name, all) ∷ []) [] [])) (append_assoc done (call ∷ []) calls) whole),
    )

-- parts of lists of which something holds
pub parts_of : {X : Type 0} (P : X → Type 0) (xs ys : List X) → AllByRecursion P (xs ++ ys) → AllByRecursion P xs × AllByRecursion P ys
parts_of P [] ys h = (tt, h)
parts_of P (x ∷ xs) ys h = let p = parts_of P xs ys h.1 in ((h.0, p.0), p.1)

pub clients-again : (most n k : ℕ) (hs : List (List ℕ × ℕ)) (front cs : List (List ℕ × List Call)) → Each (IsClient most) front cs → k + call_count cs ≤ 65536 → AreShort (flat_map client_words cs)
    → (m : ℕ) × Leads most n (reading k hs front [] []) (flat_map client_words cs) m (reading (k + call_count cs) hs (front ++ cs) [] [])
clients-again most n k hs front [] h room short =
    let zero : k ≡ k + 0 = omega arith in (
      n,
      subst (λ f. Leads most n (reading k hs front [] []) [] n (reading (k + 0) hs f [] [])) (sym (append-nil front))
          (subst (λ j. Leads most n (reading k hs front [] []) [] n (reading j hs front [] [])) zero (λ more some. refl)),
    )
clients-again most n k hs front (e ∷ es) h room short =
    let old = reading k hs front [] [] in
    let new = reading k hs (front ++ (e.0, []) ∷ []) [] [] in
    let line : List (List ℕ) = codes "client" ∷ e.0 ∷ [] in
    let step : words_step most old line ≡ Ok (Some new) = ap (λ read. going_on (content_step old read)) (client-again most old.content e h.0) in
    let words : AllByRecursion IsWord line = (word_of (codes "client") refl refl, (IsWord-name e.0 h.0.0, tt)) in
    let split = parts_of (λ l. length (line_of l) ≤ 4096) (client_words e) (flat_map client_words es) short in
    let one = leads-one most n old new line (line-taken most old (Some new) (codes "client") (e.0 ∷ []) words step) split.0.0 in
    let calls = calls-again most (n + 1) k hs front e.0 [] e.1 h.0.3 (omega arith) split.0.1 in
    let with_calls = reading (k + length e.1) hs (front ++ e ∷ []) [] [] in
    let client = leads-more most n (n + 1) calls.0 old new with_calls (line ∷ []) (map call_words e.1) one calls.1 in
    let others = clients-again most calls.0 (k + length e.1) hs (front ++ e ∷ []) es h.1 (omega arith) split.1 in
    let count : k + length e.1 + call_count es ≡ k + call_count (e ∷ es) = omega arith in
    let whole = leads-more most n calls.0 others.0 old with_calls (reading (k + length e.1 + call_count es) hs (front ++ e ∷ [] ++ es) [] []) (client_words e) (flat_map client_words es) client others.1 in (
      others.0,
      subst (λ j. Leads most n old (flat_map client_words (e ∷ es)) others.0 (reading j hs (front ++ e ∷ es) [] [])) count
          (subst (λ f. Leads most n old (flat_map client_words (e ∷ es)) others.0 (reading (k + length e.1 + call_count es) hs f [] [])) (append_assoc front (e ∷ []) es) whole),
    )

module _ (most k : ℕ) (hs : List (List ℕ × ℕ)) (cs : List (List ℕ × List Call)) (valid : Each (IsClient most) [] cs) (some : is_empty cs ≡ false) where
  names : List (List ℕ)
  names = map (λ (e : List ℕ × List Call). e.0) cs

  pub stops-again : (n : ℕ) (front es : List (ℕ × ℕ)) → Each (IsStop (length cs)) front es → AreShort (map (stop_words (map (λ (e : List ℕ × List Call). e.0) cs)) es)
      → (m : ℕ) × Leads most n (reading k hs cs front []) (map (stop_words (map (λ (e : List ℕ × List Call). e.0) cs)) es) m (reading k hs cs (front ++ es) [])
  stops-again n front [] h short = (n, subst (λ f. Leads most n (reading k hs cs front []) [] n (reading k hs cs f [])) (sym (append-nil front)) (λ more some. refl))
  stops-again n front (e ∷ es) h short =
      let old = reading k hs cs front [] in
      let new = reading k hs cs (front ++ e ∷ []) [] in
      let line = stop_words (map (λ (e : List ℕ × List Call). e.0) cs) e in
      let step : words_step most old line ≡ Ok (Some new) =
      ap (λ f. unless_fault f (going_on (content_step old (stop_step old.content (name_at (names_of old.content) e.0 ∷ decimal e.1 ∷ []))))) (cond-false _ _ _ some)
      ∙ ap (λ read. going_on (content_step old read)) (stop-again most old.content e valid h.0) in
      let words : AllByRecursion IsWord line = (word_of (codes "stop") refl refl, (IsWord-name _ (name-again most old.content e.0 valid h.0.0), (IsWord-decimal e.1 (let small = h.0.1 in omega (arith, small)), tt))) in
      let one = leads-one most n old new line (line-taken most old (Some new) (codes "stop") (name_at (names_of old.content) e.0 ∷ decimal e.1 ∷ []) words step) short.0 in
      let others = stops-again (n + 1) (front ++ e ∷ []) es h.1 short.1 in
      let whole = leads-more most n (n + 1) others.0 old new (reading k hs cs (front ++ e ∷ [] ++ es) []) (line ∷ []) (map (stop_words (map (λ (e : List ℕ × List Call). e.0) cs)) es) one others.1 in
      (others.0, subst (λ f. Leads most n old (map (stop_words (map (λ (e : List ℕ × List Call). e.0) cs)) (e ∷ es)) others.0 (reading k hs cs f [])) (append_assoc front (e ∷ []) es) whole)

  -- items are words
  pub item-words : (c : Content) → c.clients ≡ cs → (is : List Item) → AllByRecursion (IsItem (length cs)) is → AllByRecursion IsWord (map (item_word (map (λ (e : List ℕ × List Call). e.0) cs)) is)
  item-words c same [] h = tt
  item-words c same (item.Call client ∷ is) h =
      (IsWord-append _ (33 ∷ []) (IsWord-name _ (name-again most (record no_content { clients = cs }) client valid h.0)) refl, item-words c same is h.1)
  item-words c same (item.Verbs client count ∷ is) h =
      let name = IsWord-name _ (name-again most (record no_content { clients = cs }) client valid h.0.0) in
      (by (nat_eq count 1) refl name, item-words c same is h.1)
    where
      by : (t : Bool) → nat_eq count 1 ≡ t → IsWord (name_at (map (λ (e : List ℕ × List Call). e.0) cs) client) → IsWord (item_word (map (λ (e : List ℕ × List Call). e.0) cs) (item.Verbs client count))
      by true e name = subst IsWord (sym (cond-true _ _ _ e)) name
      by false e name =
          let number = IsWord-decimal count (let small = h.0.2 in omega (arith, small)) in
          subst IsWord (sym (cond-false _ _ _ e)) (IsWord-append _ (42 ∷ decimal count) name number.bytes)

  pub schedules-again : (n : ℕ) (ss : List (ℕ × ℕ)) (front is : List (List Item)) → AllByRecursion (IsSchedule (length cs)) is → AreShort (map (schedule_words (map (λ (e : List ℕ × List Call). e.0) cs)) is)
      → (m : ℕ) × Leads most n (reading k hs cs ss front) (map (schedule_words (map (λ (e : List ℕ × List Call). e.0) cs)) is) m (reading k hs cs ss (front ++ is))
  schedules-again n ss front [] h short = (n, subst (λ f. Leads most n (reading k hs cs ss front) [] n (reading k hs cs ss f)) (sym (append-nil front)) (λ more some. refl))
  schedules-again n ss front (i ∷ is) h short =
      let old = reading k hs cs ss front in
      let new = reading k hs cs ss (front ++ i ∷ []) in
      let items = map (item_word (map (λ (e : List ℕ × List Call). e.0) cs)) i in
      let line = schedule_words (map (λ (e : List ℕ × List Call). e.0) cs) i in
      let step : words_step most old line ≡ Ok (Some new) =
      ap (λ f. unless_fault f (going_on (content_step old (schedule_step old.content items)))) (cond-false _ _ _ some)
      ∙ ap (λ read. going_on (content_step old read)) (schedule-again most old.content i valid h.0) in
      let words : AllByRecursion IsWord line = (word_of (codes "schedule") refl refl, item-words old.content refl i h.0.1) in
      let one = leads-one most n old new line (line-taken most old (Some new) (codes "schedule") items words step) short.0 in
      let others = schedules-again (n + 1) ss (front ++ i ∷ []) is h.1 short.1 in
      let whole = leads-more most n (n + 1) others.0 old new (reading k hs cs ss (front ++ i ∷ [] ++ is)) (line ∷ []) (map (schedule_words (map (λ (e : List ℕ × List Call). e.0) cs)) is) one others.1 in
      (others.0, subst (λ f. Leads most n old (map (schedule_words (map (λ (e : List ℕ × List Call). e.0) cs)) (i ∷ is)) others.0 (reading k hs cs ss f)) (append_assoc front (i ∷ []) is) whole)
