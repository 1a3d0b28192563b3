-- What a client's cache saves over its calls.
use Rattle.std.specs.Prelude.{◌≡◌, ℕ, ◌-◌, ◌^◌, ◌≤◌, min, List, [], ◌++◌, Option, Some}
use Rattle.verbs.specs.Programs.{Act}
use Rattle.client_seat.specs.Seated.{Seated}
use Rattle.block_cache.specs.declared.reading.Reading.TheVariants.{Idle}
use Rattle.block_cache.specs.Cache.{Cache, done_of}
use Rattle.block_cache.specs.Saved.{Readings, AreReadings, acts_of, block_acts, saved_over, left_over}
use Rattle.running_client.specs.Cached.{went_all, saved_by, Through}

-- a cache of so many blocks that keeps none
abbrev pub empty_cache : ℕ → Cache
empty_cache blocks = record { kept = []; blocks = blocks; reading = Idle; saved = 0 }

-- what was done and served between two seats of a client, and then between the second and a third, was done and served between the
-- first and the third: so it is known of all calls of a client, one after another
abbrev pub GoOnThrough : Type 0
GoOnThrough =
    (seat : Seated) (cache : Option Cache) (mid : Seated) (now : Option Cache) (next : Seated) (after : Option Cache) (acts more : List (Act × ℕ)) → mid.home ≡ seat.home → mid.client ≡ seat.client
    → Through seat cache acts mid now → Through mid now more next after → Through seat cache (acts ++ more) next after

-- a client that began with an empty cache of so many blocks: where its reads of blocks' words are these readings, each but the last of
-- a whole block, the reads that it has served are as many as those saved over the readings, or the greatest number
abbrev pub SavesOver : Type 0
SavesOver =
    (words_of : ℕ → List ℕ) (blocks : ℕ) (readings : Readings) (acts : List (Act × ℕ)) (after : Option Cache) → 1 ≤ blocks → AreReadings words_of readings → block_acts acts ≡ acts_of readings
    → after ≡ went_all (Some (empty_cache blocks)) acts → saved_by after ≡ min (saved_over blocks [] readings) (2 ^ 64 - 1)

-- and of its reads of blocks' words it has done exactly those that are left to do over the readings
abbrev pub DoesOver : Type 0
DoesOver =
    (words_of : ℕ → List ℕ) (blocks : ℕ) (readings : Readings) (acts : List (Act × ℕ)) → 1 ≤ blocks → AreReadings words_of readings → block_acts acts ≡ acts_of readings
    → done_of (empty_cache blocks) (block_acts acts) ≡ left_over blocks [] readings
