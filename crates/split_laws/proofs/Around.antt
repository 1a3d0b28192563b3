-- What is known around a place is kept: by entries that use no lock of the client, and by the client's own on the place.
use Rattle.std.specs.Prelude.{◌≡◌, ◌≢◌, ℕ, ◌+◌, ◌<◌, ◌∷◌, None, ◌⊎◌}
use Rattle.std.proofs.Common.{sym, ◌∙◌, subst, arith, ⊎_elim}
use Rattle.node_words.specs.Addresses.{slot_at}
use Rattle.verb_log.specs.declared.entry.Entry.{Entry}
use Rattle.verb_log.specs.Tables.{Past}
use Rattle.race_laws.specs.Setting.{Setting}
use Rattle.race_laws.specs.Splits.{WasClear}
use Rattle.race_laws.specs.Rows.{IsPlace}
use Rattle.race_laws.specs.Legal.{Legal}
use Rattle.race_laws.proofs.Candidates.{was_clear_later}
use Rattle.race_laws.proofs.Touch.{same_or_not}
use Rattle.log_facts.specs.Beside.{other, Firm}
use Rattle.pass_laws.proofs.Rules.{Holds}
use Rattle.split_text.specs.declared.site.Site.{Site}
use Rattle.split_text.specs.declared.site.Ticket.{Ticket}
use Rattle.split_text.specs.Words.{place_of}
use Rattle.move_laws.specs.States.{Opened, Still, Bare, Busy}
use Rattle.move_laws.specs.Law.{Moves}
use Rattle.move_laws.proofs.Stable.{opened_firm, still_firm, bare_firm, judging_firm}
use Rattle.move_laws.proofs.Sites.{child_open, child_table_word, child_other_word, table_open, table_child_word, table_other_word}
use Rattle.split_laws.specs.Ticket.{Around, Fits}
use Rattle.split_laws.proofs.Places.{place_is}

-- between two places: the slots from number i on are to come
pub record Resting (s : Setting) (c : ℕ) (site : Site) (i : ℕ) (q : Past) : Type 0 where
  pub open_now : Opened s c site q
  pub still : (r : ℕ) → IsPlace s.geometry r → Still s site.table q r
  pub bare : (r : ℕ) → IsPlace s.geometry r → Bare s site.child q r
  pub done : (k : ℕ) → k < i → WasClear s q site.table site.depth (place_of k)

module _ (s : Setting) (c : ℕ) (site : Site) where
  done_later : (i : ℕ) (q : Past) (e : Entry) → ((k : ℕ) → k < i → WasClear s q site.table site.depth (place_of k)) → (k : ℕ) → k < i → WasClear s (e ∷ q) site.table site.depth (place_of k)
  done_later i q e d k low = was_clear_later s e site.table site.depth (place_of k) (d k low)

  pub resting_firm : (i : ℕ) → Firm s c (Resting s c site i)
  resting_firm i q e l bs h = record {
    open_now = opened_firm s c site q e l bs h.open_now;
    still = λ r k. still_firm s c site q e l bs h.open_now.going r k (h.still r k);
    bare = λ r k. bare_firm s c site q e l bs h.open_now.going r k (h.bare r k);
    done = done_later i q e h.done;
  }

  pub around_firm : (p i : ℕ) → Firm s c (Around s c site p i)
  around_firm p i q e l bs h = record {
    open_now = opened_firm s c site q e l bs h.open_now;
    still = λ r k n. still_firm s c site q e l bs h.open_now.going r k (h.still r k n);
    bare = λ r k n. bare_firm s c site q e l bs h.open_now.going r k (h.bare r k n);
    done = done_later i q e h.done;
  }

  -- an own entry on the place
  pub around_own : (p i : ℕ) → IsPlace s.geometry p → (q : Past) (e : Entry) → Legal s (e ∷ q) → (e.at ≡ slot_at site.table p) ⊎ (e.at ≡ slot_at site.child p) → Around s c site p i q → Around s c site p i (e ∷ q)
  around_own p i pl q e l on h = ⊎_elim
      (λ (a : e.at ≡ slot_at site.table p). record {
        open_now = table_open s c site q e l p pl a h.open_now;
        still = λ r k n d x. h.still r k n d (sym (table_other_word s c site q e l p pl a h.open_now r k n) ∙ x);
        bare = λ r k n d x. h.bare r k n d (sym (table_child_word s c site q e l p pl a h.open_now r k) ∙ x);
        done = done_later i q e h.done;
      })
      (λ (a : e.at ≡ slot_at site.child p). record {
        open_now = child_open s c site q e l p pl a h.open_now;
        still = λ r k n d x. h.still r k n d (sym (child_table_word s c site q e l p pl a h.open_now r k) ∙ x);
        bare = λ r k n d x. h.bare r k n d (sym (child_other_word s c site q e l p pl a h.open_now r k n) ∙ x);
        done = done_later i q e h.done;
      }) on

  pub around_holds : (p i : ℕ) → IsPlace s.geometry p → Holds (Moves site p) s c (Around s c site p i)
  around_holds p i pl = record { others = λ q e l o h. around_firm p i q e l (other o) h; own = λ q e l r h. around_own p i pl q e l r.1 h }

  pub resting_around : (p i : ℕ) (q : Past) → Resting s c site i q → Around s c site p i q
  resting_around p i q h = record { open_now = h.open_now; still = λ r k n. h.still r k; bare = λ r k n. h.bare r k; done = h.done }

  pub resting_busy : (p i : ℕ) → IsPlace s.geometry p → (q : Past) → Resting s c site i q → Busy s c site p None q
  resting_busy p i pl q h = record { open_now = h.open_now; still = h.still p pl; stands = h.bare p pl }

  -- the place is neither moved nor a copy, and was clear
  pub around_done : (i : ℕ) (q : Past) → Around s c site (place_of i) i q → Still s site.table q (place_of i) → Bare s site.child q (place_of i) → WasClear s q site.table site.depth (place_of i) → Resting s c site (i + 1) q
  around_done i q h st bp w = record {
    open_now = h.open_now;
    still = λ r k. ⊎_elim (λ (x : r ≡ place_of i). subst (Still s site.table q) (sym x) st) (λ (x : r ≢ place_of i). h.still r k x) (same_or_not r (place_of i));
    bare = λ r k. ⊎_elim (λ (x : r ≡ place_of i). subst (Bare s site.child q) (sym x) bp) (λ (x : r ≢ place_of i). h.bare r k x) (same_or_not r (place_of i));
    done = λ k low. ⊎_elim (λ (x : k ≡ i). subst (λ v. WasClear s q site.table site.depth (place_of v)) (sym x) w) (λ (x : k ≢ i). h.done k (omega arith)) (same_or_not k i);
  }

-- a ticket fits as long as no lock of the client is used
pub fits_firm : (s : Setting) (c : ℕ) (ticket : Ticket) → Firm s c (Fits s c ticket)
fits_firm s c ticket q e l bs h = record {
  geometry = h.geometry;
  client = h.client;
  number = h.number;
  around = around_firm s c ticket.site (place_of ticket.slot) ticket.slot q e l bs h.around;
  copy = h.copy;
  copy_is = h.copy_is;
  at = h.at;
  judging = judging_firm s c ticket.site (place_of ticket.slot) ticket.word h.copy h.at (place_is s.geometry ticket.slot h.number) q e l bs h.judging;
}
