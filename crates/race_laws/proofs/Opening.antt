-- The empty log: the words of the first tables; and what is kept of tables at every position of a legal log.
use Rattle.std.specs.Prelude.{◌≡◌, ℕ, ◌*◌, ◌^◌, ◌<◌, ◌≤◌, [], ◌∷◌}
use Rattle.std.proofs.Common.{sym, ◌∙◌, ap, subst, inl, arith}
use Rattle.slot_word.specs.declared.heads.State.TheVariants.{Plain}
use Rattle.slot_word.specs.declared.births.Birth.{Birth}
use Rattle.slot_word.specs.Heads.{head_of, head_word}
use Rattle.slot_word.specs.Births.{birth_of, birth_word}
use Rattle.slot_word.proofs.HeadLaws.{head_of-head_word}
use Rattle.slot_word.proofs.BirthLaws.{birth_of-birth_word}
use Rattle.node_words.specs.declared.geometry.Geometry.{Geometry}
use Rattle.node_words.specs.Addresses.{first_table}
use Rattle.node_words.specs.Opening.{plain_header, first_birth}
use Rattle.node_words.proofs.Sizes.{few_first}
use Rattle.node_words.proofs.FirstTables.{IsInFirst, first_in}
use Rattle.node_words.proofs.OpeningWords.{opening_birth, opening_header, opening_lock, opening_child, opening_bucket, opening_slot}
use Rattle.verb_log.specs.Decoded.{Empty, content, PlainAt, header, header_of, birth, birth_or_none}
use Rattle.verb_log.specs.Tables.{Past, Before}
use Rattle.race_laws.specs.Setting.{Setting}
use Rattle.race_laws.specs.Standing.{IsTable, header_in, birth_in, lock_in, child_in, bucket_in, place_in, depth, IsPlain, IsGone}
use Rattle.race_laws.specs.Splits.{IsQuiet}
use Rattle.race_laws.specs.Rows.{IsPlace}
use Rattle.race_laws.specs.Legal.{Legal}
use Rattle.race_laws.proofs.Slots.{content-0}
use Rattle.race_laws.proofs.Positions.{legal_before}
use Rattle.race_laws.proofs.Splits.{IsFirst, Splits}
use Rattle.race_laws.proofs.SplitsStep.{splits_step}

-- the header word of a first table
plain_word : (f : ℕ) → f ≤ 16 → header (plain_header f) ≡ PlainAt f
unfolding header head_word
plain_word f h = ap header_of (ap head_of (word f) ∙ head_of-head_word (record { depth = f; state = Plain }) h)
  where
    word : (f : ℕ) → plain_header f ≡ head_word (record { depth = f; state = Plain })
    word f = omega arith

-- its birth word
birth_word_is : (f j : ℕ) → f ≤ 16 → j < 2 ^ f → birth (first_birth f j) ≡ (let b : Birth = record { depth = f; suffix = j; parent = 0 } in b)
unfolding birth birth_word
birth_word_is f j h k = ap birth_or_none (ap birth_of (word f j) ∙ birth_of-birth_word (record { depth = f; suffix = j; parent = 0 }) (record { depth = h; suffix = k; parent = omega arith }))
  where
    word : (f j : ℕ) → first_birth f j ≡ birth_word (record { depth = f; suffix = j; parent = 0 })
    word f j = omega arith

module _ (g : Geometry) (t : ℕ) (h : IsTable g [] t) where
  where_it_is : IsInFirst g t t
  where_it_is = first_in g t t h

  at_first : {A : Type 0} (f : ℕ → A) → f t ≡ f (first_table g where_it_is.index)
  at_first f = ap f where_it_is.is

  pub opening_head : header_in g [] t ≡ PlainAt g.first_depth
  opening_head = at_first (header_in g []) ∙ ap header (opening_header g where_it_is.index where_it_is.below) ∙ plain_word g.first_depth (few_first g)

  pub opening_head_bucket : (n : ℕ) → n < 2 * g.groups → bucket_in g [] t n ≡ PlainAt g.first_depth
  opening_head_bucket n k = at_first (λ v. bucket_in g [] v n) ∙ ap header (opening_bucket g where_it_is.index n where_it_is.below k) ∙ plain_word g.first_depth (few_first g)

  opening_no_child : (i : ℕ) → i < 16 → child_in g [] t i ≡ 0
  opening_no_child i k = at_first (λ v. child_in g [] v i) ∙ opening_child g where_it_is.index i where_it_is.below k

  opening_birth_is : birth_in g [] t ≡ (let b : Birth = record { depth = g.first_depth; suffix = where_it_is.index; parent = 0 } in b)
  opening_birth_is = at_first (birth_in g []) ∙ ap birth (opening_birth g where_it_is.index where_it_is.below) ∙ birth_word_is g.first_depth where_it_is.index (few_first g) where_it_is.below

  pub opening_birth_depth : (birth_in g [] t).depth ≡ g.first_depth
  opening_birth_depth = ap (λ (x : Birth). x.depth) opening_birth_is

  opening_slot_empty : (p : ℕ) → IsPlace g p → place_in g [] t p ≡ Empty
  opening_slot_empty p k = at_first (λ v. place_in g [] v p) ∙ ap content (opening_slot g where_it_is.index p where_it_is.below k.0 k.1) ∙ content-0

  opening_first : IsFirst g [] t
  opening_first =
      let b = opening_birth_is in
      record {
        inside = where_it_is;
        level = ap (λ (x : Birth). x.depth) b;
        is = where_it_is.is ∙ ap (λ (x : Birth). first_table g x.suffix) (sym b);
        parent = ap (λ (x : Birth). x.parent) b;
      }

splits_opening : (g : Geometry) → Splits g []
splits_opening g = record {
  valid = λ t h x. let y = opening_head g t h in absurd (cc);
  deep = λ t h. let y = ap depth (opening_head g t h) in let b = g.begins in omega arith;
  from = λ t h. let y = ap depth (opening_head g t h) in let z = ap (λ (x : Birth). x.depth) (opening_birth_is g t h) in omega arith;
  first = λ t d h x. let y = opening_head g t h in absurd (cc);
  splitting = λ t d h x. let y = opening_head g t h in absurd (cc);
  born = λ t i c h k q n. absurd (n (sym q ∙ opening_no_child g t h i k));
  kin = λ c h. inl (opening_first g c h);
  heads = λ t n i h k x. subst (λ v. IsGone v i) (sym (opening_head_bucket g t h n k)) (subst (λ v. IsGone v i) (opening_head g t h) x);
  fills = λ t i c h k q n x. absurd (n (sym q ∙ opening_no_child g t h i k));
  upto = λ t i h k n. absurd (n (opening_no_child g t h i k));
  all_below = λ t i h b x. let y = ap depth (opening_head g t h) in let z = ap (λ (x : Birth). x.depth) (opening_birth_is g t h) in absurd (omega arith);
  copies = λ c p b h k w. let y = opening_slot_empty g c h p k in absurd (cc);
}

-- tables, parents and children at every position
pub splits : (s : Setting) (q : Past) → Legal s q → Splits s.geometry q
splits s [] l = splits_opening s.geometry
splits s (e ∷ past) l = splits_step s past e l.0 l.1 (splits s past l.0)

pub splits_at : (s : Setting) {p q : Past} → Before p q → Legal s q → Splits s.geometry p
splits_at s {p = p} b l = splits s p (legal_before s b l)

-- the slots of the opening are empty
pub opening_empty_slot : (g : Geometry) (t p : ℕ) → IsTable g [] t → IsPlace g p → place_in g [] t p ≡ Empty
opening_empty_slot g t p h k = opening_slot_empty g t h p k

-- the depth of a first table is its birth depth at first
pub first_depth_only : (s : Setting) (t : ℕ) → IsTable s.geometry [] t → depth (header_in s.geometry [] t) ≡ (birth_in s.geometry [] t).depth
first_depth_only s t h = ap depth (opening_head s.geometry t h) ∙ sym (ap (λ (x : Birth). x.depth) (opening_birth_is s.geometry t h))

-- no lock of the opening is held, and no table is split
pub opening_lock_free : (g : Geometry) (t : ℕ) → IsTable g [] t → lock_in g [] t ≡ 0
opening_lock_free g t h = at_first g t h (lock_in g []) ∙ opening_lock g (where_it_is g t h).index (where_it_is g t h).below

pub opening_quiet : (g : Geometry) (t : ℕ) → IsTable g [] t → IsQuiet g [] t
opening_quiet g t h =
    let hd = opening_head g t h in
    let d = ap depth hd in
    let b = ap (λ (x : Birth). x.depth) (opening_birth_is g t h) in
    record {
      plain = subst IsPlain (sym hd) tt;
      buckets = λ m k. opening_head_bucket g t h m k ∙ sym hd;
      no_child = λ k. opening_no_child g t h (depth (header_in g [] t)) k;
      ripe = λ i k low f. absurd (omega arith);
    }
