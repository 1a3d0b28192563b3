-- Safe texts of whose verbs several may be outstanding, over logs newest first, with a rule of what the client's own entries are.
use Rattle.std.specs.Prelude.{◌≡◌, ℕ, ◌<◌, ◌≤◌, length, slice_get, Some}
use Rattle.verb_log.specs.Tables.{Past}
use Rattle.verbs.specs.Logs.{place_of}
use Rattle.race_laws.specs.Setting.{Setting}
use Rattle.race_laws.specs.Legal.{Legal}
use Rattle.log_facts.specs.Since.{Since}
use Rattle.post_text.specs.Posts.{Request, Posts, ends, posts}
use Rattle.pass_laws.specs.SafeIn.{Rule, MayDoBy}

-- on a log the text is safe: some verb is outstanding, and whichever of them is done next, on every legal log that others may have
-- made of the one that the client saw last, its entry is legal and by the rule, where it names a block it reads a word of that
-- block, which is published, and what follows is safe
abbrev pub PostsBy : {A : Type 0} → Rule → Setting → ℕ → Past → Posts A → (Past → A → Type 0) → Type 0
PostsBy R s c p (ends a) End = End p a
PostsBy R s c p (posts requests next) End =
    (1 ≤ length requests)
    × ((i : ℕ) (r : Request) → slice_get requests i ≡ Some r → (place_of r.verb < s.geometry.words)
    × ((q : Past) → Legal s q → Since c p q → MayDoBy R s c q r.block r.verb (λ n answer. PostsBy R s c n (next i answer) End)))
