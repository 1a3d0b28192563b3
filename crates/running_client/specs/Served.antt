-- Clients on running words, from call to call.
use Rattle.std.specs.Prelude.{◌≡◌, Option}
use Rattle.verbs.specs.Logs.{MayStand}
use Rattle.race_laws.specs.Legal.{MayFollow}
use Rattle.log_facts.specs.Among.{among}
use Rattle.client_seat.specs.Seated.{Home, Seated}
use Rattle.call_texts.specs.State.{State}
use Rattle.block_cache.specs.Cache.{Cache}
use Rattle.world_texts.specs.Fits.{Fits}
use Rattle.running_client.specs.Cached.{AllKept}

-- a client: its seat, what it keeps from call to call, and its cache of blocks, where it has one
pub record Serving : Type 0 where
  pub seat : Seated
  pub state : State
  pub cache : Option Cache

-- what always holds of a client: its seat is one of this memory, its front is legal, what it keeps fits its front, and the blocks of
-- its cache are published there
pub record IsServing (memory : Home) (seat : Seated) (state : State) (cache : Option Cache) : Type 0 where
  pub home : seat.home ≡ memory
  pub legal : MayStand (MayFollow seat.home.setting) seat.front
  pub fits : Fits seat.home.setting seat.front seat.client state
  pub kept : AllKept (among seat.home.setting seat.client) seat.front cache
