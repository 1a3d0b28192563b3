-- The faults of five numbers that are no geometry.

use Rattle.std.specs.Prelude.{ℕ, ◌%◌, ◌^◌, not, nat_lt, ◌==◌, ◌||◌, Option, Some, None, if◌then◌else◌}
use Rattle.node_words.specs.Limits.{is_group_count, words_needed}
use Rattle.node_words.specs.declared.geometry.GeometryFault.{GeometryFault}
use Rattle.node_words.specs.declared.geometry.GeometryFault.TheVariants.{GroupsBad, DepthBad, NodesBad, WordsFew, WordsMany}

-- the first fault of these numbers, in the order in which they are tested
abbrev pub first_fault : ℕ → ℕ → ℕ → ℕ → ℕ → Option GeometryFault
first_fault groups max_depth first_depth nodes words =
    if not (is_group_count groups) then Some (GroupsBad groups)
    else if nat_lt 16 max_depth then Some (DepthBad max_depth)
    else if nat_lt max_depth first_depth then Some (DepthBad first_depth)
    else if (nodes == 0) || nat_lt 8 nodes || not (words % nodes == 0) then Some (NodesBad nodes)
    else if nat_lt (2 ^ 24) words then Some (WordsMany words)
    else if nat_lt words (words_needed groups max_depth first_depth nodes)
    then Some (WordsFew (words_needed groups max_depth first_depth nodes) words)
    else None
