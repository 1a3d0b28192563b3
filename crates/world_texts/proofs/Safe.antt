-- The calls of a client are safe in a world.
use Rattle.std.specs.Prelude.{◌≡◌, ℕ, ◌<◌, ◌^◌, []}
use Rattle.std.proofs.Common.{sym, subst, append-nil}
use Rattle.key_hash.specs.Placing.{placed}
use Rattle.map_model.specs.declared.calls.Call.{Call}
use Rattle.map_model.specs.declared.calls.Call.TheVariants.{Insert, Search, Update, Delete, Resize}
use Rattle.map_model.specs.Machine.{key_of}
use Rattle.node_words.specs.declared.geometry.Geometry.{Geometry}
use Rattle.verbs.specs.Programs.{goes_on}
use Rattle.verbs.specs.Logs.{Entries, MayStand}
use Rattle.race_laws.specs.Setting.{Setting, hash}
use Rattle.race_laws.specs.Legal.{MayFollow}
use Rattle.log_facts.specs.Among.{changes_of}
use Rattle.log_facts.proofs.Growing.{stands_legal}
use Rattle.pass_text.specs.Bound.{most_verbs}
use Rattle.call_texts.specs.State.{State, CallEnd, Stage}
use Rattle.call_texts.specs.Text.{part_of, begin_call}
use Rattle.call_texts.specs.Bound.{call_most}
use Rattle.whole_calls.specs.Fits.{FreshFits, StaysFitting}
use Rattle.whole_calls.specs.Right.{Right}
use Rattle.whole_calls.specs.Law.{IsCall, IsSafeWithin, MayCall, LeavesFitting, SearchIsSafe, DeleteIsSafe, UpdateIsSafe, InsertIsSafe, ResizeIsSafe}
use Rattle.world_texts.specs.Bound.{most_acts}
use Rattle.world_texts.specs.Fits.{Fits}
use Rattle.world_texts.specs.Safety.{SafeCall, EndsWell, CallsAreSafe, AreSafe}
use Rattle.world_texts.specs.Losses.{AgainIsLost}
use Rattle.world_texts.specs.Texts.{whole, one_by_one}
use Rattle.world_texts.proofs.Wholes.{whole-goes_on}
use Rattle.world_texts.proofs.Opening.{part_asks, begun_open}
use Rattle.world_texts.proofs.Fitting.{fits_longer, fits_first, ends_well}
use Rattle.world_texts.proofs.InWorlds.{in_world}

may_call : (s : Setting) (l : Entries) (c : ℕ) (k : State) (call : Call) → IsCall call → placed s.listed (key_of call) < 2 ^ 64 → Fits s l c k → MayCall s c k call l
unfolding hash
may_call s l c k call is small f = record { is_call = is; small = small; some = f.some; few = f.few; fits = f.state }

module _ (fresh : FreshFits) (stay : StaysFitting) (leave : LeavesFitting) (searches : SearchIsSafe) (deletes : DeleteIsSafe) (updates : UpdateIsSafe) (inserts : InsertIsSafe) (resizes : ResizeIsSafe) where
  -- one call
  call_safe : (most : ℕ) (s : Setting) (l : Entries) (c : ℕ) (k : State) (call : Call) → MayStand (MayFollow s) l → Fits s l c k → IsSafeWithin most s c k call l → SafeCall one_by_one s c most (changes_of s l) l (whole part_of (placed s.listed) (begin_call k (placed s.listed (key_of call)) call)) (EndsWell s c call k l)
  unfolding hash
  call_safe most s l c k call st f h =
      subst (λ t. SafeCall one_by_one s c most (changes_of s l) l t (EndsWell s c call k l)) (whole-goes_on Stage CallEnd part_of part_asks (placed s.listed) (begin_call k (placed s.listed (key_of call)) call))
      (in_world s c l (Right s c call k l) (EndsWell s c call k l) (λ before m e stands b r. ends_well fresh stay leave s c call k l f before m e stands b r)
      most (changes_of s l) l (goes_on part_of (begin_call k (placed s.listed (key_of call)) call)) st ([], sym (append-nil l)) h)

  -- within the bound of its kind
  within : (s : Setting) (l : Entries) (c : ℕ) (k : State) (call : Call) → MayStand (MayFollow s) l → MayCall s c k call l → k.geometry ≡ s.geometry → IsSafeWithin (most_acts k call) s c k call l
  unfolding most_acts
  within s l c k (Search key) st may g = subst (λ (x : Geometry). IsSafeWithin (most_verbs x.max_depth) s c k (Search key) l) (sym g) (searches s c k key l (stands_legal s l st) may)
  within s l c k (Delete key) st may g = subst (λ (x : Geometry). IsSafeWithin (call_most x k.tries) s c k (Delete key) l) (sym g) (deletes s c k key l (stands_legal s l st) may)
  within s l c k (Update key value) st may g = subst (λ (x : Geometry). IsSafeWithin (call_most x k.tries) s c k (Update key value) l) (sym g) (updates s c k key value l (stands_legal s l st) may)
  within s l c k (Insert key value) st may g = subst (λ (x : Geometry). IsSafeWithin (call_most x k.tries) s c k (Insert key value) l) (sym g) (inserts s c k key value l (stands_legal s l st) may)
  within s l c k (Resize key) st may g = subst (λ (x : Geometry). IsSafeWithin (call_most x k.tries) s c k (Resize key) l) (sym g) (resizes s c k key l (stands_legal s l st) may)

  begun_safe : CallsAreSafe one_by_one
  begun_safe s l c k call st is small f = (
    begun_open (placed s.listed) k (placed s.listed (key_of call)) call,
    call_safe (most_acts k call) s l c k call st f (within s l c k call st (may_call s l c k call is small f) f.state.geometry),
  )

  pub calls_safe : AgainIsLost one_by_one → AreSafe one_by_one
  calls_safe lost = record { calls = begun_safe; longer = fits_longer fresh stay leave; first = fits_first fresh stay leave; losses = lost }
