-- Words that are written one behind the other.
use Rattle.std.proofs.Common.{◌≡◌, ℕ, List, [], ◌∷◌, ◌++◌, refl, sym, ap, ◌∙◌, append_assoc, append-nil, map, codes, subst, drop, drop-cons, get_or, length, ◌<◌}
use Rattle.std.specs.List.{join_with_byte, flat_map, AllByRecursion}
use Rattle.std.proofs.lemmas.List.Concat.{flat_map-append}
use Rattle.std.specs.Fmt.{decimal}
use Rattle.script_value.specs.Content.{Sizes, ScriptValue, sizes_of}
use Rattle.map_model.specs.declared.plans.Item.{Item}
use Rattle.map_model.specs.declared.plans.Item.TheVariants as item
use Rattle.script_value.specs.Valid.{Each, IsStop, IsItem, IsSchedule}
use Rattle.script_value.specs.ScriptText.{item_client, header_words, content_words, text_of_script, table_text_1, table_text_2, table_words, line_text, text_of, line_of, schedule_words, item_word, spaced_items}

-- parts and a line feed, grouped from the left or the right
joined-4 : (a b c d : List ℕ) → a ++ b ++ c ++ d ++ 10 ∷ [] ≡ (a ++ (b ++ (c ++ d))) ++ 10 ∷ []
joined-4 a b c d = simp append_assoc refl

joined-6 : (a b c d e f : List ℕ) → a ++ b ++ c ++ d ++ e ++ f ++ 10 ∷ [] ≡ (a ++ (b ++ (c ++ (d ++ (e ++ f))))) ++ 10 ∷ []
joined-6 a b c d e f = simp append_assoc refl

-- line 2
pub table_1-written : (s : Sizes) → table_text_1 s ≡ line_text (table_words 1 s)
table_1-written s = joined-4 (codes "table groups=" ++ decimal s.groups) (codes " depth=" ++ decimal s.max_depth) (codes " words=" ++ decimal s.words) (codes " tries=" ++ decimal s.tries)

pub table_2-written : (s : Sizes) → table_text_2 s ≡ line_text (table_words 2 s)
table_2-written s =
    joined-6 (codes "table groups=" ++ decimal s.groups) (codes " depth=" ++ decimal s.max_depth) (codes " first=" ++ decimal s.first_depth) (codes " nodes=" ++ decimal s.nodes)
    (codes " words=" ++ decimal s.words) (codes " tries=" ++ decimal s.tries)

-- words behind a first one, each behind a space
pub line_of-cons : (first : List ℕ) (words : List (List ℕ)) → join_with_byte 32 (first ∷ words) ≡ first ++ flat_map (λ w. 32 ∷ w) words
line_of-cons first [] = sym (append-nil first)
line_of-cons first (w ∷ ws) = ap (λ r. first ++ 32 ∷ r) (line_of-cons w ws)

-- a schedule line
pub schedule_line : (names : List (List ℕ)) (items : List Item) → line_of (schedule_words names items) ≡ codes "schedule" ++ spaced_items names items
schedule_line names items = line_of-cons (codes "schedule") (map (item_word names) items) ∙ ap (λ r. codes "schedule" ++ r) (flat_map-map items)
  where
    flat_map-map : (is : List Item) → flat_map (λ w. 32 ∷ w) (map (item_word names) is) ≡ spaced_items names is
    flat_map-map [] = refl
    flat_map-map (i ∷ is) = ap (λ r. 32 ∷ (item_word names i ++ r)) (flat_map-map is)

-- three parts behind a text
pub three_parts : (old a b c : List ℕ) → old ++ a ++ b ++ c ≡ old ++ ((a ++ b) ++ c)
three_parts old a b c = simp append_assoc refl

-- the text of lines behind others
pub text_of_append : (xs ys : List (List (List ℕ))) → text_of (xs ++ ys) ≡ text_of xs ++ text_of ys
text_of_append xs ys = flat_map-append line_text xs ys

pub five_parts : (old a b c d e : List ℕ) → old ++ a ++ b ++ c ++ d ++ e ≡ old ++ (a ++ b ++ c ++ d ++ e)
five_parts old a b c d e = simp append_assoc refl

pub seven_parts : (old a b c d e f g : List ℕ) → old ++ a ++ b ++ c ++ d ++ e ++ f ++ g ≡ old ++ (a ++ b ++ c ++ d ++ e ++ f ++ g)
seven_parts old a b c d e f g = simp append_assoc refl

-- of what holds of each that is left, the first has it
pub first_has : {X Y : Type 0} (P : Y → Type 0) (f : X → Y) (xs : List X) (i : ℕ) (x : X) → i < length xs → x ≡ get_or xs i x → AllByRecursion P (map f (drop i xs)) → P (f x)
first_has P f xs i x h is all =
    let rest = subst (λ r. AllByRecursion P (map f r)) (drop-cons xs i x h) all in
    subst (λ y. P (f y)) (sym is) rest.0

-- the stops of a script are those of its clients
pub stops_known : (clients : ℕ) (front stops : List (ℕ × ℕ)) → Each (IsStop clients) front stops → AllByRecursion (λ e. e.0 < clients) stops
stops_known clients front [] h = tt
stops_known clients front (e ∷ es) h = (h.0.0, stops_known clients (front ++ e ∷ []) es h.1)

items_known : (clients : ℕ) (items : List Item) → AllByRecursion (IsItem clients) items → AllByRecursion (λ i. item_client i < clients) items
items_known clients [] h = tt
items_known clients (item.Verbs client count ∷ is) h = (h.0.0, items_known clients is h.1)
items_known clients (item.Call client ∷ is) h = (h.0, items_known clients is h.1)

-- and so are its items
pub schedules_known : (clients : ℕ) (schedules : List (List Item)) → AllByRecursion (IsSchedule clients) schedules → AllByRecursion (AllByRecursion (λ i. item_client i < clients)) schedules
schedules_known clients [] h = tt
schedules_known clients (is ∷ others) h = (items_known clients is h.0.1, schedules_known clients others h.1)

-- the text of a script, part by part
pub whole_text : (s : ScriptValue) → line_text (header_words s.version) ++ line_text (table_words s.version (sizes_of s.geometry s.tries)) ++ text_of (content_words s.content) ++ codes "end\n" ≡ text_of_script s
whole_text s =
    let h = line_text (header_words s.version) in
    let t = line_text (table_words s.version (sizes_of s.geometry s.tries)) in
    let c = text_of (content_words s.content) in
    append_assoc (h ++ t) c (codes "end\n") ∙ append_assoc h t (c ++ codes "end\n") ∙ ap (λ r. h ++ (t ++ r)) (sym (text_of_append (content_words s.content) ((codes "end" ∷ []) ∷ [])))

four_parts : (old a b c d : List ℕ) → old ++ a ++ b ++ c ++ d ≡ old ++ (a ++ b ++ c ++ d)
four_parts old a b c d = simp append_assoc refl

-- items of lines, one line more
pub joined_items : (a b c : List Item) → a ++ (b ++ c) ≡ (a ++ b) ++ c
joined_items a b c = sym (append_assoc a b c)
