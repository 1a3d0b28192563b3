-- Bytes are one image.
use Rattle.std.specs.Prelude.{◌≡◌, ℕ, ◌+◌, List, [], ◌∷◌, ◌++◌, length, drop, slice_index, refl}
use Rattle.std.proofs.Common.{sym, ◌∙◌, ap, subst, arith, append-nil, length-append}
use Rattle.key_hash.specs.Placing.{Pairs}
use Rattle.node_words.specs.declared.geometry.Geometry.{Geometry}
use Rattle.node_words.proofs.GeometryNumbers.{same_geometry}
use Rattle.image_audit.specs.Shape.{IsNode}
use Rattle.node_image.specs.Numbers.{entry_of, entries_of, words_of_nodes, numbers_of, IsKey, AreKeys, AreNodes}
use Rattle.node_image.specs.Image.{OneImage}
use Rattle.node_image.proofs.Prefixes.{all_in, all_from, prefix}
use Rattle.node_image.proofs.ListedKeys.{entry_one}
use Rattle.node_image.proofs.NodeLists.{node_one}
use Rattle.node_image.proofs.ByteNumbers.{numbers_one}

none_more : {A : Type 0} (xs ys more : List A) → ys ≡ xs ++ more → length xs ≡ length ys → more ≡ []
none_more xs ys [] e l = refl
none_more xs ys (z ∷ more) e l = let a = ap length e in let b = length-append xs (z ∷ more) in absurd (omega arith)

whole : {A : Type 0} (xs ys more : List A) → ys ≡ xs ++ more → more ≡ [] → xs ≡ ys
whole xs ys more e n = sym (append-nil xs) ∙ ap (λ v. xs ++ v) (sym n) ∙ sym e

same_entries : (l m : Pairs) (x y : List ℕ) → AreKeys l → AreKeys m → length l ≡ length m → entries_of l ++ x ≡ entries_of m ++ y → (l ≡ m) × (x ≡ y)
same_entries l m x y hl hm n e =
    let r = prefix entry_of (λ k. IsKey) entry_one 0 l m x y (all_in IsKey 0 l hl) (all_in IsKey 0 m hm) (omega arith) e in
    let z = none_more l m r.0 r.1 n in
    (whole l m r.0 r.1 z, r.2 ∙ ap (λ v. entries_of v ++ y) z)

same_nodes : (g : Geometry) (ns ws : List (List ℕ)) → AreNodes g ns → AreNodes g ws → words_of_nodes ns ≡ words_of_nodes ws → ns ≡ ws
same_nodes g ns ws hn hw e =
    let n : length ns ≡ length ws = hn.count ∙ sym hw.count in
    let r = prefix (λ v. v) (IsNode g) (node_one g) 0 ns ws [] [] (all_from (IsNode g) 0 ns (λ j v f. subst (λ z. IsNode g z v) (zero_plus j) (hn.node j v f))) (all_from (IsNode g) 0 ws (λ j v f. subst (λ z. IsNode g z v) (zero_plus j) (hw.node j v f))) (omega arith) (append-nil (words_of_nodes ns) ∙ e ∙ sym (append-nil (words_of_nodes ws))) in
    whole ns ws r.0 r.1 (none_more ns ws r.0 r.1 n)
  where
    zero_plus : (j : ℕ) → j ≡ 0 + j
    zero_plus j = omega arith

pub one_image : OneImage
one_image bytes g h l m ns ws a b = (same, entries.0, same_nodes g ns ws a.are.stand (subst (λ v. AreNodes v ws) (sym same) b.are.stand) entries.1)
  where
    both : numbers_of g l ns ≡ numbers_of h m ws
    both = sym a.are.are ∙ numbers_one a.numbers b.numbers a.small b.small (sym a.spell ∙ b.spell) ∙ b.are.are

    same : g ≡ h
    same = same_geometry g h (ap (λ v. slice_index v 1) both) (ap (λ v. slice_index v 2) both) (ap (λ v. slice_index v 3) both) (ap (λ v. slice_index v 4) both) (ap (λ v. slice_index v 5) both)

    entries : (l ≡ m) × (words_of_nodes ns ≡ words_of_nodes ws)
    entries = same_entries l m (words_of_nodes ns) (words_of_nodes ws) a.are.keys b.are.keys (ap (λ v. slice_index v 6) both) (ap (drop 7) both)
