-- What a client's cache saves over its calls.
use Rattle.std.specs.Prelude.{◌≡◌, ℕ, ◌+◌, ◌-◌, ◌^◌, ◌≤◌, min, List, [], ◌++◌, Option, Some, None, refl}
use Rattle.std.proofs.Common.{sym, ◌∙◌, ap, arith, append_assoc}
use Rattle.verb_log.specs.declared.entry.Verb.{Verb}
use Rattle.verbs.specs.Programs.{Act}
use Rattle.verbs.proofs.Progs.{verbs_of-append}
use Rattle.client_seat.specs.Traces.{verbs_in}
use Rattle.block_cache.specs.Cache.{Cache, done_of}
use Rattle.block_cache.specs.Saved.{HasWordsOf, saved_over, CountsSaved, DoesLeft}
use Rattle.block_cache.proofs.DoneLemmas.{done_append}
use Rattle.block_cache.proofs.SavedLemmas.{went_append}
use Rattle.running_client.specs.Cached.{went_all, done_all, saved_by}
use Rattle.running_client.specs.Saving.{empty_cache, GoOnThrough, SavesOver, DoesOver}
use Rattle.running_client.proofs.Runs.{kept_as}

went_both : (cache : Option Cache) (xs ys : List (Act × ℕ)) → went_all cache (xs ++ ys) ≡ went_all (went_all cache xs) ys
went_both None xs ys = refl
went_both (Some c) xs ys = ap (λ (x : Cache). Some x) (went_append xs ys c)

done_both : (cache : Option Cache) (xs ys : List (Act × ℕ)) → done_all cache (xs ++ ys) ≡ done_all cache xs ++ done_all (went_all cache xs) ys
done_both None xs ys = verbs_of-append xs ys
done_both (Some c) xs ys = done_append xs ys c

pub go_on_through : GoOnThrough
go_on_through seat cache mid now next after acts more home client one two = record {
  done = two.done ∙ ap (λ (v : List (Verb × ℕ)). v ++ done_all now more) one.done
      ∙ ap (λ (o : Option Cache). (verbs_in seat.trace ++ done_all cache acts) ++ done_all o more) one.goes_on
      ∙ append_assoc (verbs_in seat.trace) (done_all cache acts) (done_all (went_all cache acts) more)
      ∙ ap (λ (v : List (Verb × ℕ)). verbs_in seat.trace ++ v) (sym (done_both cache acts more));
  goes_on = two.goes_on ∙ ap (λ (o : Option Cache). went_all o more) one.goes_on ∙ sym (went_both cache acts more);
  keeps = kept_as seat mid next.front after home client two.keeps;
}

empty_has : (words_of : ℕ → List ℕ) (blocks : ℕ) → 1 ≤ blocks → HasWordsOf words_of (empty_cache blocks)
empty_has words_of blocks some = record { some = some; few = omega arith; same = tt }

pub saves_over : CountsSaved → SavesOver
saves_over counts words_of blocks readings acts after some are reads goes =
    ap saved_by goes ∙ counts words_of readings (empty_cache blocks) acts (empty_has words_of blocks some) are reads ∙ from_none (saved_over blocks [] readings)
  where
    from_none : (n : ℕ) → min (0 + n) (2 ^ 64 - 1) ≡ min n (2 ^ 64 - 1)
    from_none n = omega arith

pub does_over : DoesLeft → DoesOver
does_over does words_of blocks readings acts some are reads = ap (done_of (empty_cache blocks)) reads ∙ does words_of readings (empty_cache blocks) (empty_has words_of blocks some) are
