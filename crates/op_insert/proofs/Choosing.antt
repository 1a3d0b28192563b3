-- A block for the chosen candidate, and its place.
use Rattle.std.specs.Prelude.{◌≡◌, ℕ, zero, suc, ◌<◌, ◌≤◌, Bool, List, [], ◌∷◌, length, slice_index, Option, Some, None, refl}
use Rattle.std.proofs.Common.{inl, inr, arith, get_or}
use Rattle.kv_block.specs.Packing.{Pair, IsPair, packed}
use Rattle.kv_block.proofs.Packed.{packed_least, packed_most}
use Rattle.bucket_group.specs.Buckets.{candidates}
use Rattle.bucket_group.specs.Choice.{choice}
use Rattle.bucket_group.proofs.ChoiceLaws.{choice-free}
use Rattle.bucket_group.proofs.CandidateLaws.{length-candidates_two}
use Rattle.node_words.specs.Addresses.{slot_at}
use Rattle.verb_log.specs.Tables.{Past, Before, here}
use Rattle.verb_log.proofs.Positions.{Before-trans}
use Rattle.race_laws.specs.Setting.{Setting, hash, places}
use Rattle.race_laws.specs.Standing.{IsIn}
use Rattle.race_laws.specs.Chains.{OnChain}
use Rattle.race_laws.specs.Rows.{IsPlace}
use Rattle.race_laws.specs.Legal.{Legal}
use Rattle.race_laws.proofs.Chain.{chain_table, chain_before}
use Rattle.race_laws.proofs.Presence.{candidate_place}
use Rattle.log_facts.specs.Start.{on_chain}
use Rattle.log_facts.specs.Ready.{Ready}
use Rattle.log_facts.specs.Reached.{Stayed}
use Rattle.log_facts.proofs.Silent.{Kept, kept_both, kept_before, kept_legal}
use Rattle.log_facts.proofs.Readiness.{ready_before}
use Rattle.log_facts.proofs.Reached.{stayed_later}
use Rattle.log_facts.proofs.Places.{EachPlace, None_placed, kept_places}
use Rattle.pass_text.specs.declared.passed.Passed.{Passed}
use Rattle.pass_laws.specs.SafeIn.{SafeIn, Calmly}
use Rattle.pass_laws.proofs.Rules.{by_weaker, by_bind, by_kept}
use Rattle.block_taking.specs.declared.taking.Area.{Area}
use Rattle.block_taking.specs.declared.taking.TakeOutcome.{TakeOutcome}
use Rattle.block_taking.specs.declared.taking.TakeOutcome.TheVariants.{Taken, NoBlock as NoBlockTaken, Spent as SpentTaking}
use Rattle.block_taking.specs.declared.taking.TakeEnd.{TakeEnd}
use Rattle.block_taking.specs.Holdings.{Owns, KeptBlock}
use Rattle.block_taking.specs.Law.{WasFull, TakenSo, HasTaken}
use Rattle.block_taking.specs.Text.{take_block}
use Rattle.block_taking.proofs.Own.{Quietly, quietly_holds}
use Rattle.block_taking.proofs.Whole.{taking_safe}
use Rattle.op_insert.specs.Text.{Inserting, Part, on_taken, after_taking, take_and_place, slot_in, choice_of}
use Rattle.op_insert.specs.Law.{inserting_of}
use Rattle.op_insert.proofs.PartEnds.{PartEnd, none_pending}
use Rattle.op_insert.proofs.Placing.{place_safe}

index_in : (xs : List ℕ) (i : ℕ) → i < length xs → IsIn (get_or xs i 0) xs
index_in [] i h = absurd (omega arith)
index_in (x ∷ xs) zero h = inl refl
index_in (x ∷ xs) (suc i) h = inr (index_in xs i (omega arith))

pub chosen : (s : Setting) (key : List ℕ) (free : List Bool) (i : ℕ) → choice (length (candidates s.geometry.groups (hash s key))) free ≡ Some i → IsIn (slice_index (candidates s.geometry.groups (hash s key)) i) (places s key)
chosen s key free i e = index_in (candidates s.geometry.groups (hash s key)) i (choice-free (length (candidates s.geometry.groups (hash s key))) free i (length-candidates_two s.geometry.groups (hash s key)) e).1

module _ (s : Setting) (c client : ℕ) (pair : Pair) (ip : IsPair pair) (tries most : ℕ) (from : Past) where
  abbrev i : Inserting
  i = inserting_of s client pair tries

  abbrev End : Past → Part → Type 0
  End q part = PartEnd s c i pair most from q part

  abbrev Placed_none : Past → Type 0
  Placed_none q = EachPlace s c from None_placed q

  -- a place that is ready: a block, and its place
  pub take_and_place_safe : (t p : ℕ) → IsIn p (places s pair.key) → (kept : Option ℕ) (area : Area) (left : ℕ) (q : Past) → Legal s q → OnChain s.geometry q (hash s pair.key) t → Ready s t p q → Stayed s pair.key from q t → Before from q → Owns s c area q → KeptBlock s c (packed pair.key pair.value) kept area q → Placed_none q → 1 ≤ left → left ≤ most → SafeIn s c q (take_and_place i t (slot_at t p) kept area left) End
  take_and_place_safe t p cand (Some at) area left q l ch rd sd bf ow kb np lv le = place_safe s c client pair ip tries most from t p at cand area left q l ch rd sd kb.0 ow kb.1 bf np lv le
  take_and_place_safe t p cand None area left q l ch rd sd bf ow kb np lv le =
      by_bind Calmly s c q (take_block i.taking area left) (after_taking i t (slot_at t p)) End
      (by_weaker Quietly s c Calmly (λ x e r. r.1) q (take_block i.taking area left) (λ y e. HasTaken s c i.taking left q y e × Then y) (λ y e. SafeIn s c y (after_taking i t (slot_at t p) e) End)
      (λ y e x. taken e e.outcome y x.1 x.0.owns x.0.fewer x.0.so)
      (by_kept Quietly s c Then (quietly_holds s c Then then_kept) q (take_block i.taking area left) (λ y e. HasTaken s c i.taking left q y e) (l, (here, np))
      (taking_safe s c i.taking area left q l (record { geometry = refl; least = packed_least pair ip; most = packed_most pair ip; owns = ow }) lv)))
    where
      Then : Past → Type 0
      Then y = Legal s y × (Before q y × Placed_none y)

      then_kept : Kept s c Then
      then_kept = kept_both s c (Legal s) (λ y. Before q y × Placed_none y) (kept_legal s c) (kept_both s c (Before q) Placed_none (kept_before s c q) (kept_places s c from None_placed))

      later_full : {y : Past} (k n : ℕ) → WasFull s q y k n (length (packed pair.key pair.value)) → WasFull s from y k n (length (packed pair.key pair.value))
      later_full k n w = record { at = w.at; from_then = Before-trans bf w.from_then; till = w.till; read = w.read; past = w.past }

      taken : (e : TakeEnd) (o : TakeOutcome) (y : Past) → Then y → Owns s c e.area y → e.left ≤ left → TakenSo s c i.taking q y e o → SafeIn s c y (on_taken i t (slot_at t p) e o) End
      taken e (Taken at) y h ow2 fw so =
          let by = h.1.0 in
          place_safe s c client pair ip tries most from t p at cand e.area e.left y h.0 (chain_before s by h.0 (hash s pair.key) t ch) (ready_before s t p by h.0 (chain_table s q l (hash s pair.key) t ch) rd) (stayed_later s pair.key from by t sd) so.0 ow2 so.1 (Before-trans bf by) h.1.1 so.2 (omega arith)
      taken e (NoBlockTaken next words) y h ow2 fw so = record {
        start = on_chain t (chain_before s h.1.0 h.0 (hash s pair.key) t ch);
        owns = ow2;
        kept = tt;
        so = (so.0, so.1, (λ k low. later_full k (slice_index next k) (so.2 k low)), so.3);
        leaves = none_pending s c from y h.1.1;
        falls = omega arith;
      }
      taken e SpentTaking y h ow2 fw so = record { start = on_chain t (chain_before s h.1.0 h.0 (hash s pair.key) t ch); owns = ow2; kept = tt; so = tt; leaves = none_pending s c from y h.1.1; falls = tt }

  -- a candidate that was chosen, of a table all of whose places are ready
  pub take_chosen_safe : (r : Passed) (x : ℕ) (q : Past) → choice_of i r.free ≡ Some x → (kept : Option ℕ) (area : Area) (left : ℕ) → Legal s q → OnChain s.geometry q (hash s pair.key) r.table → ((p : ℕ) → IsPlace s.geometry p → Ready s r.table p q) → Stayed s pair.key from q r.table → Before from q → Owns s c area q → KeptBlock s c (packed pair.key pair.value) kept area q → Placed_none q → 1 ≤ left → left ≤ most
      → SafeIn s c q (take_and_place i r.table (slot_in i r.table x) kept area left) End
  unfolding slot_in
  take_chosen_safe r x q e kept area left l ch rd sd bf ow kb np lv le =
      let cand = chosen s pair.key r.free x e in
      take_and_place_safe r.table (slice_index (candidates s.geometry.groups (hash s pair.key)) x) cand kept area left q l ch (rd _ (candidate_place s pair.key _ cand)) sd bf ow kb np lv le
