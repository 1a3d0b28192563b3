-- The keys that a script names, one after another.
use Rattle.std.specs.Prelude.{◌≡◌, ◌⊎◌, ℕ, ◌+◌, ◌<◌, true, is_some, cond, List, [], ◌∷◌, ◌++◌, slice_get, Option, Some, None, refl}
use Rattle.std.proofs.Common.{sym, ◌∙◌, ap, subst, inl, inr, ⊎_elim, arith}
use Rattle.std.proofs.lemmas.Bool.{cases_eq}
use Rattle.std.proofs.lemmas.Option.{none-some, same_Some}
use Rattle.std.specs.FinMap as fin
use Rattle.kv_block.specs.Bytes.{key_cmp}
use Rattle.map_model.specs.declared.calls.Call.{Call}
use Rattle.map_model.specs.declared.calls.Call.TheVariants.{Insert}
use Rattle.map_model.specs.declared.calls.Reply.TheVariants.{Exists}
use Rattle.map_model.specs.Machine.{key_of, reply_of, after, insert_reply}
use Rattle.map_model.specs.Contents.{Contents}
use Rattle.script_value.specs.Content.{Content, calls_at}
use Rattle.thread_play.specs.Named.{IsNamed, AreSeen, AreKept, AreNamed}
use Rattle.thread_play.proofs.Pairs.{put_has}

named_front : (key : List ℕ) (keys more : List (List ℕ)) → IsNamed key keys → IsNamed key (keys ++ more)
named_front key [] more h = absurd h
named_front key (k ∷ keys) more (inl e) = inl e
named_front key (k ∷ keys) more (inr h) = inr (named_front key keys more h)

named_end : (key : List ℕ) (keys : List (List ℕ)) → IsNamed key (keys ++ key ∷ [])
named_end key [] = inl refl
named_end key (k ∷ keys) = inr (named_end key keys)

-- one key more
pub kept_push : (key : List ℕ) (keys more : List (List ℕ)) → more ≡ keys ++ key ∷ [] → AreKept keys more
kept_push key keys more pushed q h = subst (IsNamed q) (sym pushed) (named_front q keys (key ∷ []) h)

pub named_push : (key : List ℕ) (keys more : List (List ℕ)) → more ≡ keys ++ key ∷ [] → IsNamed key more
named_push key keys more pushed = subst (IsNamed key) (sym pushed) (named_end key keys)

some_value : (o : Option (List ℕ)) → is_some o ≡ true → (v : List ℕ) × (o ≡ Some v)
some_value None e = absurd (cc)
some_value (Some v) e = (v, refl)

pub seen_push : (m next : Contents) (key value : List ℕ) (keys more : List (List ℕ)) → AreSeen m keys → next ≡ after m (Insert key value) → more ≡ keys ++ key ∷ [] → AreSeen next more
seen_push m next key value keys more seen is pushed q there =
    let x = some_value (fin.get next q) there in
    ⊎_elim
    (λ old. kept_push key keys more pushed q (seen q (ap is_some old)))
    (λ own. subst (λ k. IsNamed k more) (sym own) (named_push key keys more pushed))
    (by (fin.get m key) refl x.0 (sym (ap (λ n. fin.get n q) is) ∙ x.1))
  where
    by : (o : Option (List ℕ)) → fin.get m key ≡ o → (v : List ℕ) → fin.get (cond (is_some (fin.get m key)) m (fin.insert m key value)) q ≡ Some v → (fin.get m q ≡ Some v) ⊎ (q ≡ key)
    by (Some old) e v has = inl (sym (ap (λ (y : Option (List ℕ)). fin.get (cond (is_some y) m (fin.insert m key value)) q) e) ∙ has)
    by None e v has = ⊎_elim (λ own. inr own.0) (λ old. inl old) (put_has m key value q v (sym (ap (λ (y : Option (List ℕ)). fin.get (cond (is_some y) m (fin.insert m key value)) q) e) ∙ has))

-- a key that was there: the map stays, and the key is named
pub seen_same : (m next : Contents) (key value old : List ℕ) (keys : List (List ℕ)) → AreSeen m keys → next ≡ after m (Insert key value) → Some (Exists old) ≡ reply_of m (Insert key value) → AreSeen next keys × IsNamed key keys
seen_same m next key value old keys seen is reply = by (fin.get m key) refl
  where
    not_new : Some (Exists old) ≡ Some (insert_reply None) → ⊥
    not_new e = cc

    by : (o : Option (List ℕ)) → fin.get m key ≡ o → AreSeen next keys × IsNamed key keys
    by (Some v) e = (subst (λ n. AreSeen n keys) (sym (is ∙ ap (λ (y : Option (List ℕ)). cond (is_some y) m (fin.insert m key value)) e)) seen, seen key (ap is_some e))
    by None e = absurd (not_new (reply ∙ ap (λ (y : Option (List ℕ)). Some (insert_reply y)) e))

pub seen_none : (m : Contents) (keys : List (List ℕ)) → m ≡ fin.empty → AreSeen m keys
seen_none m keys is key there = let x = some_value (fin.get m key) there in absurd (none-some x.0 (sym (fin.get-empty key_cmp key) ∙ sym (ap (λ n. fin.get n key) is) ∙ x.1))

pub kept_then : (a b c : List (List ℕ)) → AreKept a b → AreKept b c → AreKept a c
kept_then a b c f g key h = g key (f key h)

-- the calls so far
abbrev pub NamedSoFar : List Call → ℕ → List (List ℕ) → Type 0
NamedSoFar calls n keys = (i : ℕ) (call : Call) → i < n → slice_get calls i ≡ Some call → IsNamed (key_of call) keys

pub call_named : (calls : List Call) (n : ℕ) (keys more : List (List ℕ)) (call : Call) (key : List ℕ) → NamedSoFar calls n keys → AreKept keys more → slice_get calls n ≡ Some call → key ≡ key_of call → IsNamed key more → NamedSoFar calls (n + 1) more
call_named calls n keys more call key so_far kept at is named i other low there = ⊎_elim
    (λ same. subst (λ k. IsNamed k more) (is ∙ ap key_of (same_Some call other (sym at ∙ ap (slice_get calls) (sym same) ∙ there))) named)
    (λ not. kept (key_of other) (so_far i other (omega arith) there))
    (cases_eq i n)

-- the clients so far
abbrev pub NamedBefore : Content → ℕ → List (List ℕ) → Type 0
NamedBefore c n keys = (client : ℕ) → client < n → AreNamed (calls_at c client) keys

pub client_named : (c : Content) (n : ℕ) (keys more : List (List ℕ)) (calls : List Call) → NamedBefore c n keys → AreKept keys more → calls ≡ calls_at c n → AreNamed calls more → NamedBefore c (n + 1) more
client_named c n keys more calls so_far kept is named client low i call there = ⊎_elim
    (λ same. named i call (ap (λ l. slice_get l i) (is ∙ ap (calls_at c) (sym same)) ∙ there))
    (λ not. kept (key_of call) (so_far client (omega arith) i call there))
    (cases_eq client n)
