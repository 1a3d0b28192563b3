-- Posted reads that wait: how many there are, and where they stand.
use Rattle.std.specs.Prelude.{◌≡◌, ℕ, zero, suc, ◌+◌, ◌<◌, ◌≤◌, Bool, true, false, List, [], ◌∷◌, length, drop, take, map, replicate, slice_get, slice_set, Option, Some, refl}
use Rattle.std.proofs.Common.{sym, ◌∙◌, ap, subst, arith}
use Rattle.verb_log.specs.declared.entry.Verb.TheVariants.{Read}
use Rattle.post_text.specs.Posts.{Request, Posts, Posted, waits, has, waiting, words, fill, reads, post, completed, outstanding}
use Rattle.batch_pass.specs.Waiting.{open_in, opens, nth_open, cells}

drop_one : {X : Type 0} (xs : List X) (k : ℕ) (x : X) → slice_get xs k ≡ Some x → drop k xs ≡ x ∷ drop (k + 1) xs
drop_one [] k x e = absurd (cc)
drop_one (y ∷ ys) zero x e = ap (λ z. z ∷ ys) (same e)
  where
    same : Some y ≡ Some x → y ≡ x
    same e = cc
drop_one (y ∷ ys) (suc k) x e = let next : suc (k + 1) ≡ suc k + 1 = omega arith in drop_one ys k x e ∙ ap (λ n. x ∷ drop n (y ∷ ys)) next

-- from a place on
pub open_done : (done : List Bool) (k : ℕ) → slice_get done k ≡ Some true → opens (drop k done) ≡ opens (drop (k + 1) done)
open_done done k e = ap opens (drop_one done k true e)

pub open_waits : (done : List Bool) (k : ℕ) → slice_get done k ≡ Some false → opens (drop k done) ≡ opens (drop (k + 1) done) + 1
open_waits done k e = ap opens (drop_one done k false e) ∙ omega arith

pub nth_done : (done : List Bool) (k left : ℕ) → slice_get done k ≡ Some true → nth_open (drop k done) left ≡ nth_open (drop (k + 1) done) left + 1
nth_done done k left e = ap (λ xs. nth_open xs left) (drop_one done k true e) ∙ omega arith

pub nth_first : (done : List Bool) (k : ℕ) → slice_get done k ≡ Some false → nth_open (drop k done) 0 ≡ 0
nth_first done k e = ap (λ xs. nth_open xs 0) (drop_one done k false e)

pub nth_later : (done : List Bool) (k left : ℕ) → slice_get done k ≡ Some false → nth_open (drop k done) (suc left) ≡ nth_open (drop (k + 1) done) left + 1
nth_later done k left e = ap (λ xs. nth_open xs (suc left)) (drop_one done k false e) ∙ omega arith

pub ruleset finds = (open_done, open_waits, nth_done, nth_first, nth_later)

-- where one stands
pub nth_low : (n : ℕ) (done : List Bool) (i : ℕ) → i < open_in n done → nth_open done i < n
nth_low zero done i low = absurd (omega arith)
nth_low (suc n) [] i low = absurd (omega arith)
nth_low (suc n) (true ∷ done) i low = let h = nth_low n done i low in omega arith
nth_low (suc n) (false ∷ done) zero low = omega arith
nth_low (suc n) (false ∷ done) (suc i) low = let h = nth_low n done i (omega arith) in omega arith

pub open_opens : (n : ℕ) (done : List Bool) → open_in n done ≤ opens done
open_opens zero done = omega arith
open_opens (suc n) [] = omega arith
open_opens (suc n) (true ∷ done) = open_opens n done
open_opens (suc n) (false ∷ done) = let h = open_opens n done in omega arith

pub nth_within : (done : List Bool) (i : ℕ) → i < opens done → nth_open done i < length done
nth_within [] i low = absurd (omega arith)
nth_within (true ∷ done) i low = let h = nth_within done i low in omega arith
nth_within (false ∷ done) zero low = omega arith
nth_within (false ∷ done) (suc i) low = let h = nth_within done i (omega arith) in omega arith

pub open_set : (n : ℕ) (done : List Bool) (i : ℕ) → i < open_in n done → open_in n done ≡ suc (open_in n (slice_set done (nth_open done i) true))
open_set zero done i low = absurd (omega arith)
open_set (suc n) [] i low = absurd (omega arith)
open_set (suc n) (true ∷ done) i low = open_set n done i low
open_set (suc n) (false ∷ done) zero low = refl
open_set (suc n) (false ∷ done) (suc i) low = ap suc (open_set n done i (omega arith))

-- just posted
pub open_all : (n : ℕ) (done : List Bool) → take n done ≡ replicate n false → open_in n done ≡ n
open_all zero done e = refl
open_all (suc n) [] e = absurd (cc)
open_all (suc n) (true ∷ done) e = absurd (cc)
open_all (suc n) (false ∷ done) e = ap suc (open_all n done (cc))

cells_new : (ats ws : List ℕ) (done : List Bool) → length ats ≤ length ws → take (length ats) done ≡ replicate (length ats) false → cells ats ws done ≡ map waits ats
cells_new [] ws done w e = refl
cells_new (at ∷ ats) [] done w e = absurd (omega arith)
cells_new (at ∷ ats) (x ∷ ws) [] w e = absurd (cc)
cells_new (at ∷ ats) (x ∷ ws) (true ∷ done) w e = absurd (cc)
cells_new (at ∷ ats) (x ∷ ws) (false ∷ done) w e = ap (λ xs. waits at ∷ xs) (cells_new ats ws done (omega arith) (cc))

pub posted_new : {A : Type 0} (block : Option ℕ) (ats ws : List ℕ) (done : List Bool) (n left : ℕ) (go_on : List ℕ → Posts A) → length ats ≡ n → left ≡ n → n ≤ length ws → take n done ≡ replicate n false → reads block left (cells ats ws done) go_on ≡ post block ats go_on
posted_new block ats ws done n left go_on long e w fresh =
    ap (λ k. reads block k (cells ats ws done) go_on) (e ∙ sym long)
    ∙ ap (λ xs. reads block (length ats) xs go_on) (cells_new ats ws done (omega arith) (ap (λ k. take k done) long ∙ fresh ∙ ap (λ k. replicate k false) (sym long)))

-- the one of this number has its word
cells_fill : (ats ws : List ℕ) (done : List Bool) (i word : ℕ) → length ats ≤ length ws → i < open_in (length ats) done → cells ats (slice_set ws (nth_open done i) word) (slice_set done (nth_open done i) true) ≡ fill (cells ats ws done) i word
cells_fill [] ws done i word w low = absurd (omega arith)
cells_fill (at ∷ ats) [] done i word w low = absurd (omega arith)
cells_fill (at ∷ ats) (x ∷ ws) [] i word w low = absurd (omega arith)
cells_fill (at ∷ ats) (x ∷ ws) (true ∷ done) i word w low = ap (λ xs. has at x ∷ xs) (cells_fill ats ws done i word (omega arith) low)
cells_fill (at ∷ ats) (x ∷ ws) (false ∷ done) zero word w low = refl
cells_fill (at ∷ ats) (x ∷ ws) (false ∷ done) (suc i) word w low = ap (λ xs. waits at ∷ xs) (cells_fill ats ws done i word (omega arith) (omega arith))

pub filled : {A : Type 0} (block : Option ℕ) (ats ws : List ℕ) (done : List Bool) (i place word left next : ℕ) (go_on : List ℕ → Posts A) → length ats ≤ length ws → left ≡ open_in (length ats) done → i < left → place ≡ nth_open done i → next + 1 ≡ left
    → reads block next (cells ats (slice_set ws place word) (slice_set done place true)) go_on ≡ completed (reads block left (cells ats ws done) go_on) i word
filled block ats ws done i place word left next go_on w e low there more =
    ap (λ k. reads block next (cells ats (slice_set ws k word) (slice_set done k true)) go_on) there
    ∙ ap (λ xs. reads block next xs go_on) (cells_fill ats ws done i word w (subst (λ k. i < k) e low))
    ∙ ap (λ k. completed (reads block k (cells ats ws done) go_on) i word) (up next left more)
  where
    up : (n k : ℕ) → n + 1 ≡ k → suc n ≡ k
    up n k h = omega arith

pub open_filled : (n : ℕ) (done : List Bool) (i place left next : ℕ) → left ≡ open_in n done → i < left → place ≡ nth_open done i → next + 1 ≡ left → next ≡ open_in n (slice_set done place true)
open_filled n done i place left next e low there more =
    let h = open_set n done i (subst (λ k. i < k) e low) in
    let g : open_in n (slice_set done place true) ≡ open_in n (slice_set done (nth_open done i) true) = ap (λ k. open_in n (slice_set done k true)) there in
    omega arith

-- as the text has them
pub waiting_open : (block : Option ℕ) (ats ws : List ℕ) (done : List Bool) → length ats ≤ length ws → length ats ≤ length done → length (waiting block (cells ats ws done)) ≡ open_in (length ats) done
waiting_open block [] ws done w d = refl
waiting_open block (at ∷ ats) [] done w d = absurd (omega arith)
waiting_open block (at ∷ ats) (x ∷ ws) [] w d = absurd (omega arith)
waiting_open block (at ∷ ats) (x ∷ ws) (true ∷ done) w d = waiting_open block ats ws done (omega arith) (omega arith)
waiting_open block (at ∷ ats) (x ∷ ws) (false ∷ done) w d = ap suc (waiting_open block ats ws done (omega arith) (omega arith))

waiting_nth : (block : Option ℕ) (ats ws : List ℕ) (done : List Bool) (i at : ℕ) → length ats ≤ length ws → i < open_in (length ats) done → slice_get ats (nth_open done i) ≡ Some at → slice_get (waiting block (cells ats ws done)) i ≡ Some (record { block = block; verb = Read at })
waiting_nth block [] ws done i at w low e = absurd (omega arith)
waiting_nth block (a ∷ ats) [] done i at w low e = absurd (omega arith)
waiting_nth block (a ∷ ats) (x ∷ ws) [] i at w low e = absurd (omega arith)
waiting_nth block (a ∷ ats) (x ∷ ws) (true ∷ done) i at w low e = waiting_nth block ats ws done i at (omega arith) low e
waiting_nth block (a ∷ ats) (x ∷ ws) (false ∷ done) zero at w low e = ap (λ k. Some (record { block = block; verb = Read k })) (same e)
  where
    same : Some a ≡ Some at → a ≡ at
    same e = cc
waiting_nth block (a ∷ ats) (x ∷ ws) (false ∷ done) (suc i) at w low e = waiting_nth block ats ws done i at (omega arith) (omega arith) e

reads_outstanding : {A : Type 0} (block : Option ℕ) (n : ℕ) (xs : List Posted) (go_on : List ℕ → Posts A) → 1 ≤ n → outstanding (reads block n xs go_on) ≡ waiting block xs
reads_outstanding block zero xs go_on h = absurd (omega arith)
reads_outstanding block (suc n) xs go_on h = refl

pub count_outstanding : {A : Type 0} (block : Option ℕ) (ats ws : List ℕ) (done : List Bool) (left : ℕ) (go_on : List ℕ → Posts A) → length ats ≤ length ws → length ats ≤ length done → left ≡ open_in (length ats) done → 1 ≤ left → left ≡ length (outstanding (reads block left (cells ats ws done) go_on))
count_outstanding block ats ws done left go_on w d e some = e ∙ sym (waiting_open block ats ws done w d) ∙ ap (λ (rs : List Request). length rs) (sym (reads_outstanding block left (cells ats ws done) go_on some))

pub verb_outstanding : {A : Type 0} (block : Option ℕ) (ats ws : List ℕ) (done : List Bool) (i place at left : ℕ) (go_on : List ℕ → Posts A) → length ats ≤ length ws → left ≡ open_in (length ats) done → i < left → place ≡ nth_open done i → slice_get ats place ≡ Some at
    → slice_get (outstanding (reads block left (cells ats ws done) go_on)) i ≡ Some (record { block = block; verb = Read at })
verb_outstanding block ats ws done i place at left go_on w e low there is =
    ap (λ (rs : List Request). slice_get rs i) (reads_outstanding block left (cells ats ws done) go_on (omega arith))
    ∙ waiting_nth block ats ws done i at w (subst (λ k. i < k) e low) (ap (slice_get ats) (sym there) ∙ is)

-- all are done
pub words_done : (ats ws : List ℕ) (done : List Bool) → length ats ≤ length ws → length ats ≤ length done → open_in (length ats) done ≡ 0 → words (cells ats ws done) ≡ take (length ats) ws
words_done [] ws done w d e = refl
words_done (at ∷ ats) [] done w d e = absurd (omega arith)
words_done (at ∷ ats) (x ∷ ws) [] w d e = absurd (omega arith)
words_done (at ∷ ats) (x ∷ ws) (true ∷ done) w d e = ap (λ xs. x ∷ xs) (words_done ats ws done (omega arith) (omega arith) e)
words_done (at ∷ ats) (x ∷ ws) (false ∷ done) w d e = absurd (omega arith)
