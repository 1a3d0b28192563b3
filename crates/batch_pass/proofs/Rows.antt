-- Candidates in a row.
use Rattle.std.specs.Prelude.{◌≡◌, ℕ, ◌+◌, ◌<◌, List, length, take, slice_index, refl}
use Rattle.std.proofs.Common.{sym, ap, ◌∙◌, get_or, arith}
use Rattle.std.proofs.lemmas.List.{get_or-take}
use Rattle.pass_text.specs.declared.job.Job.{Job}
use Rattle.pass_text.specs.Words.{candidate_at, key_header_at}
use Rattle.bucket_group.specs.Buckets.{candidates, places_of, main_place, first_bucket}

pub row-at : (j : Job) (table i : ℕ) (xs : List ℕ) → take (length (candidates j.geometry.groups j.hash)) xs ≡ candidates j.geometry.groups j.hash → i < length (candidates j.geometry.groups j.hash)
    → table + 20 + slice_index xs i ≡ candidate_at j table i
unfolding candidate_at
row-at j table i xs e h =
    let ps = candidates j.geometry.groups j.hash in
    ap (λ (n : ℕ). table + 20 + n) (sym (get_or-take (length ps) xs i 0 h) ∙ ap (λ (ys : List ℕ). get_or ys i 0) e)

pub ruleset rows = (row-at)

first-is : (g h : ℕ) → slice_index (candidates g h) 0 ≡ main_place (first_bucket g h) + 1
unfolding candidates places_of
first-is g h = refl

some-places : (g h : ℕ) → 0 < length (candidates g h)
unfolding candidates places_of
some-places g h = omega arith

-- the key's header stands before its first candidate
pub header-first : (j : Job) (table : ℕ) (xs : List ℕ) → take (length (candidates j.geometry.groups j.hash)) xs ≡ candidates j.geometry.groups j.hash
    → (table + 20 + slice_index xs 0 ≡ key_header_at j table + 1)
unfolding key_header_at
header-first j table xs e =
    let ps = candidates j.geometry.groups j.hash in
    let low = some-places j.geometry.groups j.hash in
    let same : slice_index xs 0 ≡ slice_index ps 0 = sym (get_or-take (length ps) xs 0 0 low) ∙ ap (λ (ys : List ℕ). get_or ys 0 0) e in
    let first = first-is j.geometry.groups j.hash in
    omega (arith, same, first)

pub ruleset headers = (header-first)
