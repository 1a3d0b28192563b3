-- What a client keeps fits each longer log, and each call's end; a fresh state fits each log.
use Rattle.std.specs.Prelude.{◌≡◌, ℕ, ◌%◌, ◌^◌, reverse, Option, Some, None}
use Rattle.std.proofs.Common.{sym, ◌∙◌, subst, arith, ⊎_elim}
use Rattle.race_laws.specs.Setting.{Setting, hash}
use Rattle.map_model.specs.Machine.{key_of}
use Rattle.log_facts.specs.Beside.{Firm}
use Rattle.log_facts.proofs.Growing.{since_before}
use Rattle.log_facts.proofs.Mild.{firm_on}
use Rattle.log_facts.proofs.Silent.{kept_since, kept_mine}
use Rattle.log_facts.proofs.Starts.{start_before}
use Rattle.dir_cache.specs.Cached.{entry_of}
use Rattle.block_taking.specs.Holdings.{Owns}
use Rattle.split_text.specs.declared.site.Ticket.{Ticket}
use Rattle.split_laws.proofs.Around.{fits_firm}
use Rattle.whole_calls.specs.Fits.{TicketFits, FreshFits, StaysFitting}
use Rattle.whole_calls.specs.Law.{LeavesFitting}
use Rattle.whole_calls.proofs.Shared.{start_shared}
use Rattle.whole_calls.proofs.Caching.{after_depth, after_at}

pub ticket_firm : (s : Setting) (c : ℕ) (ticket : Option Ticket) → Firm s c (TicketFits s c ticket)
ticket_firm s c None q e l bs h = tt
ticket_firm s c (Some t) q e l bs h = fits_firm s c t q e l bs h

not_some : {t : ℕ} → None ≡ Some t → ⊥
not_some h = cc

pub fresh_fits : FreshFits
fresh_fits s c k q g cl d none left ticket = record {
  geometry = g;
  client = cl;
  depth = d;
  starts = λ h t e. absurd (not_some (sym (none h) ∙ e));
  owns = record { taken = λ x h m. absurd (omega arith); hidden = λ x h m. absurd (omega arith) };
  ticket = subst (λ o. TicketFits s c o q) (sym ticket) tt;
}

pub stays_fitting : StaysFitting
stays_fitting s c k p q b l f = record {
  geometry = f.geometry;
  client = f.client;
  depth = f.depth;
  starts = λ h t e. start_before s (since_before b) l h t (f.starts h t e);
  owns = kept_since s c (Owns s c k.area) (kept_mine s c k.area.at k.area.left) b l f.owns;
  ticket = firm_on s c (TicketFits s c k.ticket) (ticket_firm s c k.ticket) b l f.ticket;
}

pub leaves_fitting : LeavesFitting
leaves_fitting s c k call first l before e lg b f r = record {
  geometry = f.geometry;
  client = f.client;
  depth = after_depth k.cache e ∙ f.depth;
  starts = λ i t x. ⊎_elim (λ (y : entry_of k.cache i ≡ Some t). start_before s b lg i t (f.starts i t y))
      (λ (y : (i % 2 ^ k.cache.depth ≡ e.hash % 2 ^ k.cache.depth) × (e.table ≡ Some t)).
      start_shared s (reverse l) lg (hash s (key_of call)) i
      (sym (subst (λ d. i % 2 ^ d ≡ hash s (key_of call) % 2 ^ d) f.depth (subst (λ h. i % 2 ^ k.cache.depth ≡ h % 2 ^ k.cache.depth) r.of_key y.0))) t (r.start t y.1)) (after_at k.cache e i t x);
  owns = r.owns;
  ticket = r.ticket;
}
