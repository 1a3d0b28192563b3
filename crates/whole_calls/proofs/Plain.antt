-- The calls of one operation: a search, a delete and an update.
use Rattle.std.specs.Prelude.{◌≡◌, ℕ, ◌+◌, ◌*◌, ◌≤◌, List, reverse, Option, Some, None, refl}
use Rattle.std.proofs.Common.{sym, ap, subst, arith}
use Rattle.std.proofs.lemmas.Nat.{mul-le}
use Rattle.kv_block.specs.declared.changes.Change.{Change}
use Rattle.kv_block.specs.Bytes.{AreBytes}
use Rattle.kv_block.specs.Packing.{Pair}
use Rattle.kv_block.proofs.Packed.{packed_most}
use Rattle.map_model.specs.declared.calls.Call.TheVariants.{Search, Update, Delete}
use Rattle.map_model.specs.declared.calls.Reply.TheVariants.{Found, Missing}
use Rattle.map_model.specs.Machine.{reply_at}
use Rattle.verb_log.specs.Tables.{Past, Before, here}
use Rattle.verbs.specs.Logs.{Entries}
use Rattle.verbs.specs.Programs.{Prog, Go, goes_on}
use Rattle.verbs.specs.Calls.{SafeCall}
use Rattle.verbs.proofs.Calls.{SafeCall-more}
use Rattle.race_laws.specs.Setting.{Setting, hash}
use Rattle.race_laws.specs.Legal.{Legal, IsLegal}
use Rattle.log_facts.specs.Among.{changes_of}
use Rattle.log_facts.specs.Beside.{other}
use Rattle.log_facts.proofs.Mine.{mine_others}
use Rattle.pass_text.specs.declared.job.PassMode.TheVariants.{Look}
use Rattle.pass_text.specs.Bound.{most_verbs, pass_verbs}
use Rattle.pass_laws.specs.Drops.{Drops}
use Rattle.pass_laws.specs.SafeIn.{Calmly}
use Rattle.pass_laws.specs.Law.{IsJobOf}
use Rattle.pass_laws.proofs.Keeping.{drop_calmly, look_holds}
use Rattle.pass_laws.proofs.Rules.{by_weaker, by_kept}
use Rattle.call_laws.specs.Judged.{judged}
use Rattle.call_laws.specs.Settling.{look_job}
use Rattle.call_laws.proofs.Moments.{held_then, lacked_then}
use Rattle.call_laws.proofs.QuietParts.{call_bind}
use Rattle.dir_cache.specs.Cached.{Cached, entry_of}
use Rattle.log_facts.specs.Start.{Start}
use Rattle.block_taking.specs.declared.taking.Area.{Area}
use Rattle.block_taking.specs.Holdings.{Owns}
use Rattle.split_text.specs.declared.site.Ticket.{Ticket}
use Rattle.op_search.specs.declared.end.SearchOutcome.{SearchOutcome}
use Rattle.op_search.specs.declared.end.SearchOutcome.TheVariants as searched
use Rattle.op_search.specs.Text.{search}
use Rattle.op_search.specs.Law.{HasSearched, AnswersSo as SearchedSo}
use Rattle.op_search.proofs.Whole.{search_safe, within_as_search}
use Rattle.op_delete.specs.declared.end.DeleteOutcome.{DeleteOutcome}
use Rattle.op_delete.specs.declared.end.DeleteOutcome.TheVariants as deleted
use Rattle.op_delete.specs.Text.{delete}
use Rattle.op_delete.specs.Bound.{delete_verbs}
use Rattle.op_delete.specs.Law.{HasDeleted, AnswersSo as DeletedSo}
use Rattle.op_delete.proofs.Whole.{delete_is_safe}
use Rattle.op_update.specs.declared.end.UpdateEnd.{UpdateEnd}
use Rattle.op_update.specs.declared.end.UpdateOutcome.{UpdateOutcome}
use Rattle.op_update.specs.declared.end.UpdateOutcome.TheVariants as updated
use Rattle.op_update.specs.Text.{update}
use Rattle.op_update.specs.Bound.{update_verbs, update_round}
use Rattle.op_update.specs.Law.{plan_of, HasUpdated, AnswersSo as UpdatedSo}
use Rattle.op_update.proofs.Whole.{update_is_safe}
use Rattle.call_texts.specs.State.{State, caller_of, CallEnd, Stage}
use Rattle.call_texts.specs.Text.{after_search, after_delete, after_update, part_of, begin_call}
use Rattle.call_texts.specs.Bound.{round_most, call_most}
use Rattle.whole_calls.specs.Fits.{TicketFits}
use Rattle.whole_calls.specs.Right.{Right}
use Rattle.whole_calls.specs.Law.{IsSafeWithin, MayCall, SearchIsSafe, DeleteIsSafe, UpdateIsSafe}
use Rattle.whole_calls.proofs.Inside.{op_inside}
use Rattle.whole_calls.proofs.Points.{was_read, false_true, true_false, point, value_before, held_block, told, Going, going_firm, own_state, state_is, may_look}

module _ (s : Setting) (c tries : ℕ) (cache : Cached) (ticket : Option Ticket) (area : Area) (key : List ℕ) where
  abbrev k : State
  k = own_state s c tries cache ticket area

  abbrev part : Stage → Prog (Go Stage CallEnd)
  part = part_of

  abbrev job : AreBytes key → IsJobOf s (look_job s.geometry key (hash s key))
  job b = record { geometry = refl; hash = refl; bytes = b }

  -- a search has ended
  module _ (first l : Entries) (b : List Change) (same : changes_of s l ≡ b) (lg : Legal s (reverse l)) (bf : Before (reverse first) (reverse l)) (ow : Owns s c area (reverse l)) (tk : TicketFits s c ticket (reverse l)) (t : ℕ) (st : Start s.geometry (reverse l) (hash s key) t) where
    searched_right : (o : SearchOutcome) → SearchedSo s key (reverse first) (reverse l) t o → SafeCall (judged s c part) 0 b l (goes_on part (after_search (caller_of k (hash s key)) area ticket t o)) (Right s c (Search key) k first)
    searched_right (searched.Found h) x = record {
      changing = λ e. absurd (false_true e);
      staying = λ e. same;
      quiet = λ e. point s (Search key) first l (Found h.value) x.at x.from_then x.till (Some x.pair.value) (held_then s x.till lg key t x.place x.body x.pair x.holder) (ap (λ v. Some (Found v)) x.value);
      read = (was_read s key (reverse first) (reverse first) (reverse l) t h here x, refl);
      cause = tt;
      of_key = refl;
      start = λ u e. told (Start s.geometry (reverse l) (hash s key)) t u e st;
      owns = ow;
      ticket = tk;
    }
    searched_right searched.Missing x =
        let y = lacked_then s l lg (reverse first) bf key x in
        record {
          changing = λ e. absurd (false_true e);
          staying = λ e. same;
          quiet = λ e. point s (Search key) first l Missing y.at y.from_then y.till None y.lacks refl;
          read = tt;
          cause = tt;
          of_key = refl;
          start = λ u e. told (Start s.geometry (reverse l) (hash s key)) t u e st;
          owns = ow;
          ticket = tk;
        }

  abbrev Kept : Past → Past → Type 0
  Kept from q = Going s c ticket from q × Owns s c area q

  search_call_safe : (l : Entries) → IsLegal s l → MayCall s c k (Search key) l → IsSafeWithin (most_verbs s.geometry.max_depth) s c k (Search key) l
  search_call_safe l lg m =
      SafeCall-more (judged s c part) (Right s c (Search key) k l) (pass_verbs (look_job s.geometry key (hash s key)) + 0) (most_verbs s.geometry.max_depth) (changes_of s l) l (goes_on part (begin_call k (hash s key) (Search key))) (few (most_verbs s.geometry.max_depth))
      (call_bind s c part (search (look_job s.geometry key (hash s key)) (entry_of cache (hash s key))) (λ e. after_search (caller_of k (hash s key)) area ticket e.table e.outcome) (λ y e. HasSearched s key (reverse l) y e × Kept (reverse l) y) (Right s c (Search key) k l)
      (pass_verbs (look_job s.geometry key (hash s key))) 0 (changes_of s l) l (within_as_search (look_job s.geometry key (hash s key)) (entry_of cache (hash s key)) (search (look_job s.geometry key (hash s key)) (entry_of cache (hash s key))) refl) refl
      (by_weaker (Drops Look) s c Calmly (λ x e d. drop_calmly s c Look x e d) (reverse l) (search (look_job s.geometry key (hash s key)) (entry_of cache (hash s key))) (λ y e. HasSearched s key (reverse l) y e × Kept (reverse l) y) (λ y e. HasSearched s key (reverse l) y e × Kept (reverse l) y) (λ n a x. x)
      (by_kept (Drops Look) s c (Kept (reverse l)) (look_holds s c (Kept (reverse l)) (λ y e ly o h. (going_firm s c ticket (reverse l) y e ly (other o) h.0, mine_others s y e ly c area.at area.left o h.1)))
      (reverse l) (search (look_job s.geometry key (hash s key)) (entry_of cache (hash s key))) (λ y e. HasSearched s key (reverse l) y e) ((lg, (here, m.fits.ticket)), m.fits.owns)
      (search_safe s c (look_job s.geometry key (hash s key)) (job m.is_call) refl (entry_of cache (hash s key)) (reverse l) lg (may_look s c k key (hash s key) (reverse l) (λ t e. m.fits.starts (hash s key) t e)))))
      (λ y e d x q. searched_right l y d q x.1.0.0 x.1.0.1.0 x.1.1 x.1.0.1.1 e.table x.0.start e.outcome x.0.so))
    where
      few : (n : ℕ) → n + 138 * 0 + 0 ≤ n
      few n = omega arith

  -- a delete has ended
  module _ (first l : Entries) (b : List Change) (lg : Legal s (reverse l)) (bf : Before (reverse first) (reverse l)) (ow : Owns s c area (reverse l)) (tk : TicketFits s c ticket (reverse l)) (t lost : ℕ) (st : Start s.geometry (reverse l) (hash s key) t) where
    deleted_right : (o : DeleteOutcome) → DeletedSo s c key tries (reverse first) b (reverse l) o lost → SafeCall (judged s c part) 0 b l (goes_on part (after_delete (caller_of k (hash s key)) area ticket t o)) (Right s c (Delete key) k first)
    deleted_right (deleted.Deleted h) x =
        let r = x.0 in
        let lp = (subst (Legal s) r.last lg).0 in
        record {
          changing = λ e. record {
            change = record { key = key; value = None };
            is = refl;
            made = r.change;
            answers = ap (reply_at (Delete key)) (value_before s r.past lp b r.told key r.table r.place r.body r.pair h.value r.holder r.value);
            entry = r.entry;
            past = r.past;
            last = r.last;
            client = r.client;
            blocks = ((r.body, r.live, held_block h r.body r.held), refl, r.new);
          };
          staying = λ e. absurd (true_false e);
          quiet = λ e. absurd (false_true e);
          read = tt;
          cause = tt;
          of_key = refl;
          start = λ u e. told (Start s.geometry (reverse l) (hash s key)) t u e st;
          owns = ow;
          ticket = tk;
        }
    deleted_right deleted.Missing x =
        let y = lacked_then s l lg (reverse first) bf key x.0 in
        record {
          changing = λ e. absurd (false_true e);
          staying = λ e. x.1;
          quiet = λ e. point s (Delete key) first l Missing y.at y.from_then y.till None y.lacks refl;
          read = tt;
          cause = tt;
          of_key = refl;
          start = λ u e. told (Start s.geometry (reverse l) (hash s key)) t u e st;
          owns = ow;
          ticket = tk;
        }
    deleted_right deleted.Again x = record {
      changing = λ e. absurd (false_true e);
      staying = λ e. x.0;
      quiet = λ e. absurd (false_true e);
      read = tt;
      cause = refl;
      of_key = refl;
      start = λ u e. told (Start s.geometry (reverse l) (hash s key)) t u e st;
      owns = ow;
      ticket = tk;
    }

  delete_call_safe : (l : Entries) → IsLegal s l → MayCall s c k (Delete key) l → IsSafeWithin (call_most s.geometry tries) s c k (Delete key) l
  delete_call_safe l lg m =
      SafeCall-more (judged s c part) (Right s c (Delete key) k l) (delete_verbs s.geometry.max_depth tries + 0) (call_most s.geometry tries) (changes_of s l) l (goes_on part (begin_call k (hash s key) (Delete key))) few
      (op_inside s c part (λ e. after_delete (caller_of k (hash s key)) area ticket e.table e.outcome) (λ b y e. HasDeleted s c key tries (reverse l) b (reverse y) e) (Right s c (Delete key) k l) (Going s c ticket (reverse l)) (going_firm s c ticket (reverse l))
      (delete_verbs s.geometry.max_depth tries) 0 (changes_of s l) l (delete (look_job s.geometry key (hash s key)) tries (entry_of cache (hash s key))) (lg, (here, m.fits.ticket))
      (delete_is_safe s.geometry key (hash s key) tries m.some (entry_of cache (hash s key)) s c l lg (job m.is_call) (may_look s c k key (hash s key) (reverse l) (λ t e. m.fits.starts (hash s key) t e)))
      (λ b y e x g. deleted_right l y b g.0 g.1.0 (x.keeps area.at area.left m.fits.owns) g.1.1 e.table e.lost x.start e.outcome x.so))
    where
      few : delete_verbs s.geometry.max_depth tries + 0 ≤ call_most s.geometry tries
      few = let x = mul-le tries (most_verbs s.geometry.max_depth + 2) (tries + 2 * s.geometry.max_depth + 4) (round_most s.geometry) (omega arith) (omega arith) in omega arith

module _ (s : Setting) (c tries : ℕ) (cache : Cached) (ticket : Option Ticket) (area0 : Area) (key value : List ℕ) where
  abbrev pair : Pair
  pair = record { key = key; value = value }

  abbrev ku : State
  ku = own_state s c tries cache ticket area0

  abbrev partu : Stage → Prog (Go Stage CallEnd)
  partu = part_of

  -- an update has ended
  module _ (first l : Entries) (b : List Change) (lg : Legal s (reverse l)) (bf : Before (reverse first) (reverse l)) (tk : TicketFits s c ticket (reverse l)) (e : UpdateEnd) (ow : Owns s c e.area (reverse l)) (st : Start s.geometry (reverse l) (hash s key) e.table) where
    updated_right : (o : UpdateOutcome) → UpdatedSo s c pair tries (reverse first) b (reverse l) o e.lost → SafeCall (judged s c partu) 0 b l (goes_on partu (after_update (caller_of ku (hash s key)) ticket e o)) (Right s c (Update key value) ku first)
    updated_right (updated.Updated h at) x =
        let r = x.0 in
        let lp = (subst (Legal s) r.last lg).0 in
        record {
          changing = λ _. record {
            change = record { key = key; value = Some value };
            is = refl;
            made = r.change;
            answers = ap (reply_at (Update key value)) (value_before s r.past lp b r.told key r.table r.place r.body r.old h.value r.holder r.value);
            entry = r.entry;
            past = r.past;
            last = r.last;
            client = r.client;
            blocks = ((r.body, r.live, held_block h r.body r.held), (r.new_body, r.new, r.new_block));
          };
          staying = λ y. absurd (true_false y);
          quiet = λ y. absurd (false_true y);
          read = tt;
          cause = tt;
          of_key = refl;
          start = λ u y. told (Start s.geometry (reverse l) (hash s key)) e.table u y st;
          owns = ow;
          ticket = tk;
        }
    updated_right updated.Missing x =
        let y = lacked_then s l lg (reverse first) bf key x.0 in
        record {
          changing = λ y. absurd (false_true y);
          staying = λ _. x.1;
          quiet = λ _. point s (Update key value) first l Missing y.at y.from_then y.till None y.lacks refl;
          read = tt;
          cause = tt;
          of_key = refl;
          start = λ u z. told (Start s.geometry (reverse l) (hash s key)) e.table u z st;
          owns = ow;
          ticket = tk;
        }
    updated_right updated.Again x = record {
      changing = λ y. absurd (false_true y);
      staying = λ _. x.0;
      quiet = λ y. absurd (false_true y);
      read = tt;
      cause = refl;
      of_key = refl;
      start = λ u y. told (Start s.geometry (reverse l) (hash s key)) e.table u y st;
      owns = ow;
      ticket = tk;
    }
    updated_right (updated.NoBlock next need) x = record {
      changing = λ y. absurd (false_true y);
      staying = λ _. x.1;
      quiet = λ y. absurd (false_true y);
      read = tt;
      cause = (x.0.need, x.0.count, x.0.full);
      of_key = refl;
      start = λ u y. told (Start s.geometry (reverse l) (hash s key)) e.table u y st;
      owns = ow;
      ticket = tk;
    }

  update_call_safe : (l : Entries) → IsLegal s l → MayCall s c ku (Update key value) l → IsSafeWithin (call_most s.geometry tries) s c ku (Update key value) l
  update_call_safe l lg m =
      SafeCall-more (judged s c partu) (Right s c (Update key value) ku l) (update_verbs (plan_of s.geometry c pair (hash s key) tries) + 0) (call_most s.geometry tries) (changes_of s l) l (goes_on partu (begin_call ku (hash s key) (Update key value))) few
      (op_inside s c partu (λ e. after_update (caller_of ku (hash s key)) ticket e e.outcome) (λ b y e. HasUpdated s c pair tries (reverse l) b (reverse y) e) (Right s c (Update key value) ku l) (Going s c ticket (reverse l)) (going_firm s c ticket (reverse l))
      (update_verbs (plan_of s.geometry c pair (hash s key) tries)) 0 (changes_of s l) l (update (plan_of s.geometry c pair (hash s key) tries) area0 (entry_of cache (hash s key))) (lg, (here, m.fits.ticket))
      (update_is_safe s.geometry c pair m.is_call (hash s key) tries m.some area0 (entry_of cache (hash s key)) s c l lg (record { geometry = refl; hash = refl; bytes = m.is_call.key_bytes }) (may_look s c ku key (hash s key) (reverse l) (λ t e. m.fits.starts (hash s key) t e)) m.fits.owns)
      (λ b y e x g. updated_right l y b g.0 g.1.0 g.1.1 e x.owns x.start e.outcome x.so))
    where
      few : update_verbs (plan_of s.geometry c pair (hash s key) tries) + 0 ≤ call_most s.geometry tries
      few =
          let nodes = s.geometry.few in
          let words = packed_most pair m.is_call in
          let less = m.few in
          let x = mul-le tries (update_round (plan_of s.geometry c pair (hash s key) tries)) (tries + 2 * s.geometry.max_depth + 4) (round_most s.geometry) (omega arith) (omega arith) in omega arith

-- for each state that fits
pub search_is_safe : SearchIsSafe
search_is_safe s c k key l lg m =
    let e = state_is s c k m.fits.geometry m.fits.client in
    subst (λ v. IsSafeWithin (most_verbs s.geometry.max_depth) s c v (Search key) l) (sym e) (search_call_safe s c k.tries k.cache k.ticket k.area key l lg (subst (λ v. MayCall s c v (Search key) l) e m))

pub delete_is_safe_call : DeleteIsSafe
delete_is_safe_call s c k key l lg m =
    let e = state_is s c k m.fits.geometry m.fits.client in
    subst (λ (v : State). IsSafeWithin (call_most s.geometry v.tries) s c v (Delete key) l) (sym e) (delete_call_safe s c k.tries k.cache k.ticket k.area key l lg (subst (λ v. MayCall s c v (Delete key) l) e m))

pub update_is_safe_call : UpdateIsSafe
update_is_safe_call s c k key value l lg m =
    let e = state_is s c k m.fits.geometry m.fits.client in
    subst (λ (v : State). IsSafeWithin (call_most s.geometry v.tries) s c v (Update key value) l) (sym e) (update_call_safe s c k.tries k.cache k.ticket k.area key value l lg (subst (λ v. MayCall s c v (Update key value) l) e m))
