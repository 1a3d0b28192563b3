-- What the ends of calls have in common: a point at which the map answers so, the blocks of a word, the state of a client.
use Rattle.std.specs.Prelude.{◌≡◌, ℕ, true, false, List, length, reverse, Option, Some, None, ◌⊎◌, refl}
use Rattle.std.specs.FinMap.{get}
use Rattle.std.proofs.Common.{sym, ◌∙◌, ap, subst, inl, inr, ⊎_elim}
use Rattle.slot_word.specs.declared.slots.Mark.{Mark}
use Rattle.slot_word.specs.declared.slots.Mark.TheVariants.{Live, Copied}
use Rattle.kv_block.specs.declared.changes.Change.{Change}
use Rattle.kv_block.specs.Packing.{Pair}
use Rattle.map_model.specs.declared.calls.Call.{Call}
use Rattle.map_model.specs.declared.calls.Reply.{Reply}
use Rattle.map_model.specs.declared.calls.Reply.TheVariants as reply
use Rattle.map_model.specs.Machine.{key_of, reply_at, map_at, is_quiet}
use Rattle.verb_log.specs.Decoded.{Body, Full, content}
use Rattle.verb_log.specs.Changes.{changes}
use Rattle.verb_log.specs.Tables.{Past, Before, here, later, word_at}
use Rattle.verb_log.proofs.Positions.{Before-trans}
use Rattle.verbs.specs.Logs.{Entries}
use Rattle.race_laws.specs.Setting.{Setting}
use Rattle.race_laws.specs.Standing.{place_in}
use Rattle.race_laws.specs.Chains.{Holder, live, copied}
use Rattle.race_laws.specs.Legal.{Legal}
use Rattle.dir_cache.specs.Cached.{Cached, entry_of}
use Rattle.log_facts.specs.Beside.{Firm}
use Rattle.pass_text.specs.declared.job.PassMode.TheVariants.{Look, Walk}
use Rattle.pass_text.specs.declared.passed.Held.{Held as HeldWord}
use Rattle.pass_laws.specs.HasPassed.{HeldAt}
use Rattle.pass_laws.specs.Law.{MayBegin}
use Rattle.block_taking.specs.declared.taking.Area.{Area}
use Rattle.split_text.specs.declared.site.Ticket.{Ticket}
use Rattle.call_laws.specs.Moments.{map_then}
use Rattle.call_laws.proofs.Moments.{fewer_changes, held_then}
use Rattle.call_laws.proofs.Settling.{full_slot}
use Rattle.call_texts.specs.State.{State}
use Rattle.call_texts.specs.Text.{block_at, block_of}
use Rattle.whole_calls.specs.Fits.{TicketFits}
use Rattle.whole_calls.specs.Right.{AtPoint, HolderRead, WasRead}
use Rattle.whole_calls.proofs.Fitting.{ticket_firm}

pub false_true : false ≡ true → ⊥
false_true e = cc

pub true_false : true ≡ false → ⊥
true_false e = cc

-- where at a position of the call the map had this at the key, and answers so by it
pub point : (s : Setting) (call : Call) (first l : Entries) (reply : Reply) (x : Past) → Before (reverse first) x → Before x (reverse l) → (o : Option (List ℕ)) → get (map_then s.geometry (reverse l) x) (key_of call) ≡ o → reply_at call o ≡ Some reply → AtPoint s call first l reply
point s call first l reply x b d o g r = record { point = length (changes s.geometry x); least = fewer_changes s.geometry b; most = fewer_changes s.geometry d; answers = ap (reply_at call) g ∙ r }

-- before the last entry, by the changes told
pub value_before : (s : Setting) (past : Past) → Legal s past → (before : List Change) → changes s.geometry past ≡ before → (key : List ℕ) (t p : ℕ) (b : Body) (pr : Pair) (value : List ℕ) → Holder s past key t p b pr → pr.value ≡ value → get (map_at before (length before)) key ≡ Some value
value_before s past l before told key t p b pr value h v =
    subst (λ (cs : List Change). get (map_at cs (length cs)) key ≡ Some pr.value) told (held_then s {p = past} {q = past} here l key t p b pr h) ∙ ap Some v

-- the block of a held word
block_is : (h : HeldWord) (m : Mark) (b : Body) → content h.word ≡ Full m b → b.at ≡ block_of h
block_is h m b e = sym (ap block_at (full_slot h.word m b e))

pub held_block : (h : HeldWord) (b : Body) → (content h.word ≡ Full Live b) ⊎ (content h.word ≡ Full Copied b) → b.at ≡ block_of h
held_block h b e = ⊎_elim (λ (x : content h.word ≡ Full Live b). block_is h Live b x) (λ (x : content h.word ≡ Full Copied b). block_is h Copied b x) e

-- a holder's word is live, or a copy
holder_word : (s : Setting) (x : Past) (key : List ℕ) (t p : ℕ) (b : Body) (pr : Pair) → Holder s x key t p b pr → (place_in s.geometry x t p ≡ Full Live b) ⊎ (place_in s.geometry x t p ≡ Full Copied b)
holder_word s x key t p b pr (live t1 p1 b1 pr1 w k i o) = inl w.stands
holder_word s x key t p b pr (copied t1 p1 b1 pr1 w k i o parent m) = inr w.stands

-- what a pass has held was read in its block
pub was_read : (s : Setting) (key : List ℕ) (from since q : Past) (t : ℕ) (h : HeldWord) → Before from since → HeldAt s key since q t h → HolderRead s key h.value from q (block_of h)
was_read s key from since q t h b x = record {
  at = x.at;
  from_then = Before-trans b x.from_then;
  till = x.till;
  table = t;
  place = x.place;
  body = x.body;
  pair = x.pair;
  holder = x.holder;
  named = held_block h x.body (subst (λ w. (content w ≡ Full Live x.body) ⊎ (content w ≡ Full Copied x.body)) (ap (word_at s.geometry x.at) (sym x.slot) ∙ x.word) (holder_word s x.at key t x.place x.body x.pair x.holder));
  value_is = x.value;
}

-- what is no reply of the map was read nowhere
pub not_read : (s : Setting) (call : Call) (from q : Past) (reply : Reply) (source target : ℕ) → is_quiet reply ≡ false → WasRead s call from q reply source target
not_read s call from q (reply.Found value) source target e = absurd (true_false e)
not_read s call from q reply.Missing source target e = tt
not_read s call from q reply.Inserted source target e = tt
not_read s call from q (reply.Exists value) source target e = absurd (true_false e)
not_read s call from q (reply.Updated value) source target e = tt
not_read s call from q (reply.Deleted value) source target e = tt
not_read s call from q (reply.Split table depth) source target e = tt
not_read s call from q (reply.Again lost) source target e = tt
not_read s call from q (reply.FullDepth depth) source target e = tt
not_read s call from q (reply.FullWords next need) source target e = tt
not_read s call from q (reply.NoBlock next need) source target e = tt

-- a table that is told
pub told : (P : ℕ → Type 0) (t u : ℕ) → Some t ≡ Some u → P t → P u
told P t u e h = subst P (same e) h
  where
    same : Some t ≡ Some u → t ≡ u
    same e = cc

-- what is kept through a call without a split
abbrev pub Going : Setting → ℕ → Option Ticket → Past → Past → Type 0
Going s c ticket from q = Legal s q × (Before from q × TicketFits s c ticket q)

pub going_firm : (s : Setting) (c : ℕ) (ticket : Option Ticket) (from : Past) → Firm s c (Going s c ticket from)
going_firm s c ticket from q e l bs h = (l, (later h.1.0, ticket_firm s c ticket q e l bs h.1.1))

-- the state of a client of this number, with the sizes of the setting
abbrev pub own_state : Setting → ℕ → ℕ → Cached → Option Ticket → Area → State
own_state s c tries cache ticket area = record { geometry = s.geometry; client = c; tries = tries; cache = cache; ticket = ticket; area = area }

pub state_is : (s : Setting) (c : ℕ) (k : State) → k.geometry ≡ s.geometry → k.client ≡ c → k ≡ own_state s c k.tries k.cache k.ticket k.area
state_is s c k g e = λ i. record { geometry = g i; client = e i; tries = k.tries; cache = k.cache; ticket = k.ticket; area = k.area }

-- a look or a walk may begin at the cached table
pub may_look : (s : Setting) (c : ℕ) (k : State) (key : List ℕ) (h : ℕ) (q : Past) → ((t : ℕ) → entry_of k.cache h ≡ Some t → MayBegin s key Look q (Some t)) → MayBegin s key Look q (entry_of k.cache h)
may_look s c k key h q f = by (entry_of k.cache h) refl
  where
    by : (o : Option ℕ) → entry_of k.cache h ≡ o → MayBegin s key Look q o
    by None e = tt
    by (Some t) e = f t e

pub may_walk : (s : Setting) (c : ℕ) (k : State) (key : List ℕ) (h : ℕ) (q : Past) → ((t : ℕ) → entry_of k.cache h ≡ Some t → MayBegin s key Walk q (Some t)) → MayBegin s key Walk q (entry_of k.cache h)
may_walk s c k key h q f = by (entry_of k.cache h) refl
  where
    by : (o : Option ℕ) → entry_of k.cache h ≡ o → MayBegin s key Walk q o
    by None e = tt
    by (Some t) e = f t e
