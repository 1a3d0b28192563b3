-- What is read is spelled so: each line that is taken is the text of what it adds.
use Rattle.std.proofs.Common.{◌≡◌, ℕ, ◌<◌, ◌≤◌, Bool, true, false, ◌&&◌, nat_eq, nat_lt, List, [], ◌∷◌, ◌++◌, length, map, Option, Some, None, is_some, is_none, Ok, codes, refl, sym, ap, subst, ◌∙◌, arith, append-nil, get_or, suc, if◌then◌else◌}
use Rattle.std.proofs.lemmas.Bool.{and_parts, leb-true, ltb-true, true≢false, cond-true, cond-false, eqb-true, ne_eqb}
use Rattle.std.specs.List.{AllByRecursion}
use Rattle.std.specs.Fmt.{decimal}
use Rattle.std.specs.Cmp.Lexicographic.{same_text}
use Rattle.kv_block.specs.Bytes.{key_eq}
use Rattle.key_hash.specs.Placing.{is_listed}
use Rattle.map_model.specs.declared.calls.Call.{Call}
use Rattle.map_model.specs.declared.plans.Item.{Item}
use Rattle.script_reader.specs.declared.fault.ScriptKind.TheVariants as kind
use Rattle.script_reader.specs.declared.command.Command.{Command}
use Rattle.script_reader.specs.declared.command.Command.TheVariants as command
use Rattle.spelling.specs.Spelling.{spelled, hex_number, is_within, is_name_byte}
use Rattle.spelling.specs.Words.{number_of, one_of, two_of, key_of, value_of, hex_number_of, is_name, is_empty, IsKey, IsValue}
use Rattle.script_value.specs.Content.{Content, names_of, client_at, stop_at, with_hash, with_client, with_stop, with_schedule}
use Rattle.script_value.specs.ScriptText.{name_at, item_word}
use Rattle.script_reader.specs.Rules.{or_else, command_of, hash_step, client_step, call_key, call_pair, client_of, number_within, stop_step, item_name, item_rest, item_with, item_of, item_first, items_of, schedule_step}
use Rattle.script_value.specs.Valid.{IsHash, IsClient, IsStop, IsItem, IsSchedule}
use Rattle.spelling.proofs.Spelled.{spelled-key_of, spelled-value_of, hex_number-hex_number_of, decimal-number_of}
use Rattle.map_model.specs.declared.plans.Item.TheVariants as item
use Rattle.std.proofs.lemmas.Option.{cond_some, option_and_then_some, same_Some}
use Rattle.std.proofs.lemmas.List.Quantifiers.{position-Some}
use Rattle.std.specs.Option.{option_and_then}
use Rattle.script_value.proofs.Entries.{none-from}
use Rattle.script_reader.proofs.Steps.{ok_bind, ok_same, ok_or_else, ok_unless, ok_if, nothing}

-- the words that are there
one-found : (ws : List (List ℕ)) (w : List ℕ) → one_of ws ≡ Some w → ws ≡ w ∷ []
one-found [] w h = absurd (by h)
  where
    by : None ≡ Some w → ⊥
    by e = cc
one-found (v ∷ []) w h = let same : v ≡ w = cc in ap (λ x. x ∷ []) same
one-found (v ∷ u ∷ ws) w h = absurd (by h)
  where
    by : None ≡ Some w → ⊥
    by e = cc

two-found : (ws : List (List ℕ)) (p : List ℕ × List ℕ) → two_of ws ≡ Some p → ws ≡ p.0 ∷ p.1 ∷ []
two-found [] p h = absurd (by h)
  where
    by : None ≡ Some p → ⊥
    by e = cc
two-found (v ∷ []) p h = absurd (by h)
  where
    by : None ≡ Some p → ⊥
    by e = cc
two-found (v ∷ u ∷ []) p h =
    let pair : List ℕ × List ℕ = (v, u) in
    let same : pair ≡ p = cc in
    ap (λ (q : List ℕ × List ℕ). q.0 ∷ q.1 ∷ []) same
two-found (v ∷ u ∷ w ∷ ws) p h = absurd (by h)
  where
    by : None ≡ Some p → ⊥
    by e = cc

-- the word of a command
abbrev pub command_word : Command → List ℕ
command_word command.Hash = codes "hash"
command_word command.Client = codes "client"
command_word command.Insert = codes "insert"
command_word command.Search = codes "search"
command_word command.Update = codes "update"
command_word command.Delete = codes "delete"
command_word command.Resize = codes "resize"
command_word command.Stop = codes "stop"
command_word command.Schedule = codes "schedule"
command_word command.End = codes "end"

-- one test of the chain
chosen : (w text : List ℕ) (c d : Command) (rest : Option Command) → command_word c ≡ text → (rest ≡ Some d → w ≡ command_word d) → (if key_eq w text then Some c else rest) ≡ Some d → w ≡ command_word d
chosen w text c d rest word others h = by (key_eq w text) refl h
  where
    by : (b : Bool) → key_eq w text ≡ b → (if b then Some c else rest) ≡ Some d → w ≡ command_word d
    by true e h = let same : c ≡ d = cc in same_text w text (sym e) ∙ sym word ∙ ap command_word same
    by false e h = others h

-- a command that is read is spelled so
pub command-found : (w : List ℕ) (d : Command) → command_of w ≡ Some d → w ≡ command_word d
command-found w d h =
    chosen w (codes "hash") command.Hash d _ refl
    (chosen w (codes "client") command.Client d _ refl
    (chosen w (codes "insert") command.Insert d _ refl
    (chosen w (codes "search") command.Search d _ refl
    (chosen w (codes "update") command.Update d _ refl
    (chosen w (codes "delete") command.Delete d _ refl
    (chosen w (codes "resize") command.Resize d _ refl
    (chosen w (codes "stop") command.Stop d _ refl
    (chosen w (codes "schedule") command.Schedule d _ refl
    (chosen w (codes "end") command.End d None refl (λ e. absurd (none e))))))))))) h
  where
    none : None ≡ Some d → ⊥
    none e = cc

-- `hash KEY HEX`
pub hash-found : (c d : Content) (words : List (List ℕ)) → hash_step c words ≡ Ok d
    → (key : List ℕ) × (hash : ℕ) × (words ≡ spelled key ∷ hex_number hash ∷ []) × (d ≡ with_hash c key hash) × IsHash c.hashes (key, hash)
hash-found c d words h =
    let a = ok_bind (or_else kind.Word (two_of words)) _ d h in
    let pair = two-found words a.0 (ok_or_else kind.Word (two_of words) a.0 a.1) in
    let b = ok_bind (or_else kind.Key (key_of a.0.0)) _ d a.2 in
    let key = spelled-key_of a.0.0 b.0 (ok_or_else kind.Key (key_of a.0.0) b.0 b.1) in
    let fresh = ok_unless (is_listed c.hashes b.0) kind.Key _ d b.2 in
    let e = ok_bind (or_else kind.Number (hex_number_of a.0.1)) _ d fresh.1 in
    let hash = hex_number-hex_number_of a.0.1 e.0 (ok_or_else kind.Number (hex_number_of a.0.1) e.0 e.1) in
    let added = ok_same (with_hash c b.0 e.0) d e.2 in
    (b.0, e.0, pair ∙ ap (λ w. w ∷ a.0.1 ∷ []) (sym key.0) ∙ ap (λ w. spelled b.0 ∷ w ∷ []) (sym hash.0), sym added, (key.1, hash.1, fresh.0))

-- `client NAME`
pub client-found : (most : ℕ) (c d : Content) (words : List (List ℕ)) → client_step most c words ≡ Ok d
    → (name : List ℕ) × (words ≡ name ∷ []) × (d ≡ with_client c name []) × IsClient most c.clients (name, [])
client-found most c d words h =
    let a = ok_bind (or_else kind.Word (one_of words)) _ d h in
    let word = one-found words a.0 (ok_or_else kind.Word (one_of words) a.0 a.1) in
    let b = ok_if (is_name a.0 && is_none (client_at c a.0) && nat_lt (length c.clients) most) kind.Client _ d a.2 in
    let p = and_parts _ _ b.0 in
    let q = and_parts _ _ p.0 in
    (a.0, word, sym (ok_same (with_client c a.0 []) d b.1), (q.0, no_client (client_at c a.0) q.1, ltb-true (length c.clients) most p.1, tt))
  where
    no_client : (o : Option ℕ) → is_none o ≡ true → o ≡ None
    no_client None e = refl
    no_client (Some i) e = absurd (by e)
      where
        by : false ≡ true → ⊥
        by q = cc

-- the key of a call line
pub key-found : (calls : ℕ) (words : List (List ℕ)) (key : List ℕ) → call_key calls words ≡ Ok key → (words ≡ spelled key ∷ []) × IsKey key × (calls < 65536)
key-found calls words key h =
    let a = ok_bind (or_else kind.Word (one_of words)) _ key h in
    let word = one-found words a.0 (ok_or_else kind.Word (one_of words) a.0 a.1) in
    let b = ok_if (nat_lt calls 65536) kind.TooLong _ key a.2 in
    let k = spelled-key_of a.0 key (ok_or_else kind.Key (key_of a.0) key b.1) in
    (word ∙ ap (λ w. w ∷ []) (sym k.0), k.1, ltb-true calls 65536 b.0)

-- the key and the value of a call line
pub pair-found : (calls : ℕ) (words : List (List ℕ)) (pair : List ℕ × List ℕ) → call_pair calls words ≡ Ok pair
    → (words ≡ spelled pair.0 ∷ spelled pair.1 ∷ []) × IsKey pair.0 × IsValue pair.1 × (calls < 65536)
pair-found calls words pair h =
    let a = ok_bind (or_else kind.Word (two_of words)) _ pair h in
    let word = two-found words a.0 (ok_or_else kind.Word (two_of words) a.0 a.1) in
    let b = ok_if (nat_lt calls 65536) kind.TooLong _ pair a.2 in
    let k = ok_bind (or_else kind.Key (key_of a.0.0)) _ pair b.1 in
    let key = spelled-key_of a.0.0 k.0 (ok_or_else kind.Key (key_of a.0.0) k.0 k.1) in
    let v = ok_bind (or_else kind.Value (value_of a.0.1)) _ pair k.2 in
    let value = spelled-value_of a.0.1 v.0 (ok_or_else kind.Value (value_of a.0.1) v.0 v.1) in
    let found : (words ≡ spelled k.0 ∷ spelled v.0 ∷ []) × IsKey k.0 × IsValue v.0 × (calls < 65536) =
    (word ∙ ap (λ w. w ∷ a.0.1 ∷ []) (sym key.0) ∙ ap (λ w. spelled k.0 ∷ w ∷ []) (sym value.0), key.1, value.1, ltb-true calls 65536 b.0) in
    let whole : List ℕ × List ℕ = (k.0, v.0) in
    subst (λ (p : List ℕ × List ℕ). (words ≡ spelled p.0 ∷ spelled p.1 ∷ []) × IsKey p.0 × IsValue p.1 × (calls < 65536)) (ok_same whole pair v.2) found

-- as many names as clients
pub length-names : (es : List (List ℕ × List Call)) → length (map (λ (e : List ℕ × List Call). e.0) es) ≡ length es
length-names [] = refl
length-names (e ∷ es) = ap suc (length-names es)

-- a name that is known is that of a client
pub known-found : (c : Content) (w : List ℕ) (i : ℕ) → client_of c w ≡ Some i → (name_at (names_of c) i ≡ w) × (i < length c.clients)
known-found c w i h =
    let p = chosen_some (is_name w) (client_at c w) h in
    let q = position-Some (key_eq w) (names_of c) i [] p.1 in
    (sym (same_text w (get_or (names_of c) i []) (sym q.1)), subst (λ n. i < n) (length-names c.clients) q.0)
  where
    chosen_some : (b : Bool) (o : Option ℕ) → (if b then o else None) ≡ Some i → (b ≡ true) × (o ≡ Some i)
    chosen_some true o e = (refl, e)
    chosen_some false o e = absurd (by e)
      where
        by : None ≡ Some i → ⊥
        by q = cc

-- a number within two others
pub within-found : (low high : ℕ) (w : List ℕ) (n : ℕ) → number_within low high w ≡ Some n → (decimal n ≡ w) × (low ≤ n) × (n ≤ high)
within-found low high w n h =
    option_and_then_some (λ n. if is_within low high n then Some n else None) (number_of w) n h (λ m read fits.
    let p = cond_some (is_within low high m) m n fits in
    let q = and_parts _ _ p.0 in
    let found : (decimal m ≡ w) × (low ≤ m) × (m ≤ high) = ((decimal-number_of w m read).0, leb-true low m q.0, leb-true m high q.1) in
    subst (λ m. (decimal m ≡ w) × (low ≤ m) × (m ≤ high)) p.1 found)

-- `stop NAME N`
pub stop-found : (c d : Content) (words : List (List ℕ)) → stop_step c words ≡ Ok d
    → (client : ℕ) × (stop : ℕ) × (words ≡ name_at (names_of c) client ∷ decimal stop ∷ []) × (d ≡ with_stop c client stop) × IsStop (length c.clients) c.stops (client, stop)
stop-found c d words h =
    let a = ok_bind (or_else kind.Word (two_of words)) _ d h in
    let pair = two-found words a.0 (ok_or_else kind.Word (two_of words) a.0 a.1) in
    let b = ok_bind (or_else kind.Client (client_of c a.0.0)) _ d a.2 in
    let client = known-found c a.0.0 b.0 (ok_or_else kind.Client (client_of c a.0.0) b.0 b.1) in
    let fresh = ok_unless (is_some (stop_at c b.0)) kind.Client _ d b.2 in
    let e = ok_bind (or_else kind.Number (number_within 0 1000000000 a.0.1)) _ d fresh.1 in
    let stop = within-found 0 1000000000 a.0.1 e.0 (ok_or_else kind.Number (number_within 0 1000000000 a.0.1) e.0 e.1) in (
      b.0,
      e.0,
      pair ∙ ap (λ w. w ∷ a.0.1 ∷ []) (sym client.0) ∙ ap (λ w. name_at (names_of c) b.0 ∷ w ∷ []) (sym stop.0),
      sym (ok_same (with_stop c b.0 e.0) d e.2),
      (client.1, stop.2, none-from (stop_at c b.0) fresh.0),
    )

-- the two parts of an item
item-parts : (w : List ℕ) → item_name w ++ item_rest w ≡ w
item-parts [] = refl
item-parts (b ∷ bs) = by (is_name_byte b) refl (item-parts bs)
  where
    by : (t : Bool) → is_name_byte b ≡ t → item_name bs ++ item_rest bs ≡ bs → item_name (b ∷ bs) ++ item_rest (b ∷ bs) ≡ b ∷ bs
    by true e rest = ap (λ x. x ++ item_rest (b ∷ bs)) (cond-true _ _ _ e) ∙ ap (λ x. b ∷ item_name bs ++ x) (cond-true _ _ _ e) ∙ ap (λ x. b ∷ x) rest
    by false e rest = ap (λ x. x ++ item_rest (b ∷ bs)) (cond-false _ _ _ e) ∙ cond-false _ _ _ e

-- an item, by what is behind the name
with-found : (n : ℕ) (names : List (List ℕ)) (client : ℕ) (rest : List ℕ) (i : Item) → client < n → item_with client rest ≡ Some i
    → (item_word names i ≡ name_at names client ++ rest) × IsItem n i
with-found n names client [] i l h =
    let one : Item = item.Verbs client 1 in
    let same : one ≡ i = cc in
    let found : (item_word names one ≡ name_at names client ++ []) × IsItem n one = (sym (append-nil (name_at names client)), (l, omega arith, omega arith)) in
    subst (λ i. (item_word names i ≡ name_at names client ++ []) × IsItem n i) same found
with-found n names client (b ∷ bs) i l h = by (nat_eq b 33 && is_empty bs) refl
  where
    Goal : Type 0
    Goal = (item_word names i ≡ name_at names client ++ b ∷ bs) × IsItem n i

    by : (t : Bool) → (nat_eq b 33 && is_empty bs) ≡ t → (item_word names i ≡ name_at names client ++ b ∷ bs) × IsItem n i
    by true e =
        let p = and_parts _ _ e in
        let mark = eqb-true b 33 p.0 in
        let none = nothing bs p.1 in
        let call : Item = item.Call client in
        let same = same_Some call i (sym (cond-true _ _ _ e) ∙ h) in
        let text : name_at names client ++ 33 ∷ [] ≡ name_at names client ++ b ∷ bs = ap (λ x. name_at names client ++ x ∷ []) (sym mark) ∙ ap (λ xs. name_at names client ++ b ∷ xs) (sym none) in
        let found : (item_word names call ≡ name_at names client ++ b ∷ bs) × IsItem n call = (text, l) in
        subst (λ i. (item_word names i ≡ name_at names client ++ b ∷ bs) × IsItem n i) same found
    by false e =
        let p = star (nat_eq b 42) (sym (cond-false _ _ _ e) ∙ h) in
        option_and_then_some (λ count. Some (item.Verbs client count)) (number_within 2 1000000 bs) i p.1 (λ count read made.
        let mark = eqb-true b 42 p.0 in
        let number = within-found 2 1000000 bs count read in
        let verbs : Item = item.Verbs client count in
        let many = cond-false _ _ _ (ne_eqb count 1 (λ one. let two = number.1 in omega (arith, one, two))) in
        let text : item_word names verbs ≡ name_at names client ++ b ∷ bs =
        many ∙ ap (λ x. name_at names client ++ x ∷ decimal count) (sym mark) ∙ ap (λ ds. name_at names client ++ b ∷ ds) number.0 in
        let found : (item_word names verbs ≡ name_at names client ++ b ∷ bs) × IsItem n verbs = (text, (l, (let two = number.1 in omega (arith, two)), number.2)) in
        subst (λ i. (item_word names i ≡ name_at names client ++ b ∷ bs) × IsItem n i) (same_Some verbs i made) found)
      where
        star : (t : Bool) → (if t then option_and_then (λ count. Some (item.Verbs client count)) (number_within 2 1000000 bs) else None) ≡ Some i
            → (t ≡ true) × (option_and_then (λ count. Some (item.Verbs client count)) (number_within 2 1000000 bs) ≡ Some i)
        star true q = (refl, q)
        star false q = absurd (no q)
          where
            no : None ≡ Some i → ⊥
            no e = cc

-- an item that is read is spelled so
item-found : (c : Content) (w : List ℕ) (i : Item) → item_of c w ≡ Some i → (item_word (names_of c) i ≡ w) × IsItem (length c.clients) i
item-found c w i h =
    option_and_then_some (λ client. item_with client (item_rest w)) (client_of c (item_name w)) i h (λ client read made.
    let known = known-found c (item_name w) client read in
    let found = with-found (length c.clients) (names_of c) client (item_rest w) i known.1 made in
    (found.0 ∙ ap (λ x. x ++ item_rest w) known.0 ∙ item-parts w, found.1))

-- items that are read are spelled so
items-found : (c : Content) (ws : List (List ℕ)) (is : List Item) → items_of c ws ≡ Some is → (map (item_word (names_of c)) is ≡ ws) × AllByRecursion (IsItem (length c.clients)) is
items-found c [] is h =
    let same : [] ≡ is = cc in
    subst (λ is. (map (item_word (names_of c)) is ≡ []) × AllByRecursion (IsItem (length c.clients)) is) same (refl, tt)
items-found c (w ∷ ws) is h =
    let p = first-parts (item_of c w) (items_of c ws) h in
    let first = item-found c w p.0 p.2 in
    let others = items-found c ws p.1 p.3 in
    let found : (map (item_word (names_of c)) (p.0 ∷ p.1) ≡ w ∷ ws) × AllByRecursion (IsItem (length c.clients)) (p.0 ∷ p.1) =
    (ap (λ x. x ∷ map (item_word (names_of c)) p.1) first.0 ∙ ap (λ xs. w ∷ xs) others.0, (first.1, others.1)) in
    subst (λ is. (map (item_word (names_of c)) is ≡ w ∷ ws) × AllByRecursion (IsItem (length c.clients)) is) p.4 found
  where
    first-parts : (o : Option Item) (os : Option (List Item)) → item_first o os ≡ Some is → (i : Item) × (js : List Item) × (o ≡ Some i) × (os ≡ Some js) × (i ∷ js ≡ is)
    first-parts (Some i) (Some js) e = let same : i ∷ js ≡ is = cc in (i, js, refl, refl, same)
    first-parts (Some i) None e = absurd (no e)
      where
        no : None ≡ Some is → ⊥
        no q = cc
    first-parts None os e = absurd (no e)
      where
        no : None ≡ Some is → ⊥
        no q = cc

-- `schedule ITEM ITEM ..`
pub schedule-found : (c d : Content) (words : List (List ℕ)) → schedule_step c words ≡ Ok d
    → (items : List Item) × (words ≡ map (item_word (names_of c)) items) × (d ≡ with_schedule c items) × IsSchedule (length c.clients) items
schedule-found c d words h =
    let a = ok_unless (is_empty words) kind.Word _ d h in
    let b = ok_bind (or_else kind.Schedule (items_of c words)) _ d a.1 in
    let items = items-found c words b.0 (ok_or_else kind.Schedule (items_of c words) b.0 b.1) in
    (b.0, sym items.0, sym (ok_same (with_schedule c b.0) d b.2), (some b.0 (subst (λ ws. is_empty ws ≡ false) (sym items.0) a.0), items.1))
  where
    some : (is : List Item) → is_empty (map (item_word (names_of c)) is) ≡ false → 1 ≤ length is
    some [] e = absurd (true≢false e)
    some (i ∷ is) e = omega arith
