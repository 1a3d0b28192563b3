use Rattle.std.proofs.Common.{◌≡◌, ℕ, ◌<◌, List, length, slice_index, sym, subst}
use Rattle.node_words.proofs.Sizes.{some_groups}
use Rattle.bucket_group.specs.Buckets.{IsSlotPlace}
use Rattle.bucket_group.proofs.CandidateLaws.{candidate_slot, candidates_apart}
use Rattle.bucket_group.proofs.candidates.places.Goals as goal

-- each element of a list is the place of a slot, and none comes twice
abbrev AreSlots : ℕ → List ℕ → Type 0
AreSlots groups xs = (i : ℕ) → i < length xs → IsSlotPlace groups (slice_index xs i)

abbrev AreDistinct : List ℕ → Type 0
AreDistinct xs = (i j : ℕ) → i < length xs → j < length xs → slice_index xs i ≡ slice_index xs j → i ≡ j

pub returns-clause-slots : goal.returns-clause-slots
returns-clause-slots c =
    subst (AreSlots c.args.geometry.now.groups) (sym c.buckets_of.ensures)
    (λ i h. candidate_slot c.args.geometry.now.groups c.args.hash i (some_groups c.args.geometry.now) h)

pub returns-clause-distinct : goal.returns-clause-distinct
returns-clause-distinct c =
    subst AreDistinct (sym c.buckets_of.ensures) (candidates_apart c.args.geometry.now.groups c.args.hash)
