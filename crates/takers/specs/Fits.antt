-- What fits a taker: its addresses are numbers of 64 bits.
use Rattle.std.specs.Prelude.{ℕ, ◌+◌, ◌≤◌, ◌^◌}
use Rattle.std.specs.Coded.{Unit-prop, le_prop}
use Rattle.takers.specs.declared.taker.At.{At}
use Rattle.takers.specs.declared.taker.At.TheVariants.{Next, Take, Store, Ended}

abbrev pub AtFits : At → Type 0
AtFits Next = Unit {0}
AtFits (Take next) = next + 3 ≤ 2 ^ 63
AtFits (Store first at more) = at + more ≤ 2 ^ 63
AtFits (Ended taken) = Unit {0}

pub AtFits-prop : (at : At) → IsProp (AtFits at)
AtFits-prop Next = Unit-prop
AtFits-prop (Take next) = le_prop
AtFits-prop (Store first at more) = le_prop
AtFits-prop (Ended taken) = Unit-prop
