-- The counts of replies, call by call.
use Rattle.std.proofs.Common.{◌≡◌, ◌≢◌, ℕ, ◌+◌, ◌<◌, ◌≤◌, ◌==◌, ◌++◌, ◌⊎◌, inl, inr, Bool, true, false, List, take, length, get_or, slice_set, codes, min, Some, slice_get, sym, ap, subst, ◌∙◌, arith, get_or-set_same, get_or-set_other}
use Rattle.std.proofs.lemmas.Bool.Decides.{eqb_tells}
use Rattle.std.proofs.lemmas.List.{length-take}
use Rattle.std.proofs.lemmas.List.Sums.{count_by-le-length, count_by_more_yes, count_by_more_no}
use Rattle.item_list.proofs.Pieces.{get_or-there}
use Rattle.play_report.specs.declared.report.Line.{Line}
use Rattle.storm_script.specs.Summary.{reply_place, has_place, replies_at, count_lines, count_line}

-- one call more
pub counts-step : (counts : List ℕ) (lines : List Line) (line : Line) (i place : ℕ) → i < length lines → slice_get lines i ≡ Some line → reply_place line.reply < length counts
    → ((p : ℕ) → p < length counts → get_or counts p 0 ≡ replies_at (take i lines) p) → place < length counts
    → get_or (slice_set counts (reply_place line.reply) (get_or counts (reply_place line.reply) 0 + 1)) place 0 ≡ replies_at (take (i + 1) lines) place
counts-step counts lines line i place low there within before placed = by (eqb_tells (reply_place line.reply) place)
  where
    own : ℕ
    own = reply_place line.reply

    at : (b : Bool) → (own == place) ≡ b → has_place place (get_or lines i line) ≡ b
    at b h = subst (λ l. has_place place l ≡ b) (get_or-there lines i line there) h

    by : (((own == place) ≡ true) × (own ≡ place)) ⊎ (((own == place) ≡ false) × (own ≢ place)) → get_or (slice_set counts own (get_or counts own 0 + 1)) place 0 ≡ replies_at (take (i + 1) lines) place
    by (inl (yes_is, same)) =
        ap (λ p. get_or (slice_set counts own (get_or counts own 0 + 1)) p 0) (sym same)
        ∙ get_or-set_same counts own (get_or counts own 0 + 1) 0 within
        ∙ ap (λ n. n + 1) (before own within)
        ∙ ap (λ p. replies_at (take i lines) p + 1) same
        ∙ sym (count_by_more_yes (has_place place) lines i line low (at true yes_is))
    by (inr (no_is, other)) =
        get_or-set_other counts own place (get_or counts own 0 + 1) 0 (λ e. other (sym e))
        ∙ before place placed
        ∙ sym (count_by_more_no (has_place place) lines i line low (at false no_is))

-- no more than the calls
pub counts-few : (lines : List Line) (i place : ℕ) → replies_at (take i lines) place ≤ i
counts-few lines i place =
    let few = count_by-le-length (has_place place) (take i lines) in
    let front : length (take i lines) ≡ min i (length lines) = length-take i lines in
    omega (arith, few, front)

-- the lines with these counts
pub lines-same : (f g : ℕ → ℕ) → ((place : ℕ) → place < 12 → f place ≡ g place) → count_lines f ≡ count_lines g
lines-same f g h = λ i.
    count_line (codes "inserted") (h 0 (omega arith) i) ++ count_line (codes "exists") (h 1 (omega arith) i) ++ count_line (codes "found") (h 2 (omega arith) i)
    ++ count_line (codes "missing") (h 3 (omega arith) i) ++ count_line (codes "updated") (h 4 (omega arith) i) ++ count_line (codes "deleted") (h 5 (omega arith) i)
    ++ count_line (codes "again") (h 6 (omega arith) i) ++ count_line (codes "full-depth") (h 7 (omega arith) i) ++ count_line (codes "full-words") (h 8 (omega arith) i)
    ++ count_line (codes "no-block") (h 9 (omega arith) i)
