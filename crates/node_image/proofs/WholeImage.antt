-- The head, the listed keys and the nodes' words together.
use Rattle.std.specs.Prelude.{◌≡◌, ◌≢◌, ℕ, ◌+◌, ◌*◌, ◌%◌, ◌^◌, ◌<◌, ◌≤◌, List, [], ◌∷◌, ◌++◌, length, drop, slice_index, Option, Some, None, IfSome, IfNone}
use Rattle.std.proofs.Common.{sym, ◌∙◌, ap, subst, arith, length-append}
use Rattle.std.proofs.lemmas.List.{drop-drop}
use Rattle.kv_block.specs.Packing.{bytes_of}
use Rattle.kv_block.proofs.Packed.{length-bytes_of}
use Rattle.key_hash.specs.Placing.{Pairs, AreDistinct}
use Rattle.node_words.specs.declared.geometry.Geometry.{Geometry}
use Rattle.node_words.proofs.GeometryNumbers.{same_geometry}
use Rattle.race_laws.specs.Standing.{IsIn}
use Rattle.image_audit.specs.Shape.{ImageFits}
use Rattle.node_image.specs.Numbers.{head_of, entry_of, entries_of, words_of_nodes, numbers_of, IsKey, AreKeys, AreNodes, AreNumbers}
use Rattle.node_image.specs.Image.{IsImage}
use Rattle.node_image.proofs.Prefixes.{all_in, prefix}
use Rattle.node_image.proofs.ListedKeys.{entry_one}
use Rattle.node_image.proofs.ByteNumbers.{numbers_one}

pub if_some : {A : Type 0} (P : A → Type 0) (o : Option A) (x : A) → o ≡ Some x → IfSome o P → P x
if_some P o x e h = subst (λ v. IfSome v P) e h

pub if_none : {A : Type 0} (Q : Type 0) (o : Option A) → o ≡ None → IfNone o Q → Q
if_none Q o e h = subst (λ v. IfNone v Q) e h

-- what was read of a well formed image
pub record EntriesRead (ns : List ℕ) (count : ℕ) (listed : Pairs) (taken : ℕ) : Type 0 where
  pub whole : ns ≡ entries_of listed ++ drop taken ns
  pub low : taken ≤ length ns
  pub size : length listed ≡ count
  pub keys : AreKeys listed
  pub distinct : AreDistinct listed

pub image_read : (ns : List ℕ) (g : Geometry) (n : ℕ) (listed : Pairs) (taken : ℕ) (nodes : List (List ℕ)) (longest : ℕ) → ns ≡ head_of g ++ n ∷ drop 7 ns → EntriesRead (drop 7 ns) n listed taken → drop (7 + taken) ns ≡ words_of_nodes nodes → ImageFits g nodes longest → AreNumbers ns g listed nodes
image_read ns g n listed taken nodes longest e r w f = record {
  are = e ∙ ap (λ v. head_of g ++ n ∷ v) (r.whole ∙ ap (λ v. entries_of listed ++ v) (drop-drop taken 7 ns ∙ w)) ∙ ap (λ m. head_of g ++ m ∷ (entries_of listed ++ words_of_nodes nodes)) (sym r.size);
  keys = r.keys;
  distinct = r.distinct;
  stand = record { count = f.count; node = λ k v h. let x = f.node k v h in record { next = x.next; from = x.from; to = x.to } };
}

-- where the nodes' words are not those of any nodes, the numbers are those of no image
pub no_nodes : (ns : List ℕ) (g : Geometry) (n : ℕ) (listed : Pairs) (taken : ℕ) → ns ≡ head_of g ++ n ∷ drop 7 ns → EntriesRead (drop 7 ns) n listed taken → ((nodes : List (List ℕ)) → AreNodes g nodes → drop (7 + taken) ns ≢ words_of_nodes nodes) → (g2 : Geometry) (listed2 : Pairs) (nodes2 : List (List ℕ)) → AreNumbers ns g2 listed2 nodes2 → ⊥
no_nodes ns g n listed taken e r f g2 listed2 nodes2 h = f nodes2 (subst (λ v. AreNodes v nodes2) (sym same) h.stand) (sym (drop-drop taken 7 ns) ∙ rest)
  where
    both : head_of g ++ n ∷ drop 7 ns ≡ numbers_of g2 listed2 nodes2
    both = sym e ∙ h.are

    same : g ≡ g2
    same = same_geometry g g2 (ap (λ v. slice_index v 1) both) (ap (λ v. slice_index v 2) both) (ap (λ v. slice_index v 3) both) (ap (λ v. slice_index v 4) both) (ap (λ v. slice_index v 5) both)

    count : n ≡ length listed2
    count = ap (λ v. slice_index v 6) both

    behind : drop 7 ns ≡ entries_of listed2 ++ words_of_nodes nodes2
    behind = ap (drop 7) both

    parted : (more : Pairs) × (listed2 ≡ listed ++ more) × (drop taken (drop 7 ns) ≡ entries_of more ++ words_of_nodes nodes2)
    parted = prefix entry_of (λ k. IsKey) entry_one 0 listed listed2 (drop taken (drop 7 ns)) (words_of_nodes nodes2) (all_in IsKey 0 listed r.keys) (all_in IsKey 0 listed2 h.keys) (let a = r.size in let b = count in omega arith) (sym r.whole ∙ behind)

    rest : drop taken (drop 7 ns) ≡ words_of_nodes nodes2
    rest = by parted.0 parted.1 parted.2
      where
        by : (more : Pairs) → listed2 ≡ listed ++ more → drop taken (drop 7 ns) ≡ entries_of more ++ words_of_nodes nodes2 → drop taken (drop 7 ns) ≡ words_of_nodes nodes2
        by [] a b = b
        by (q ∷ more) a b = let x = ap length a in let y = length-append listed (q ∷ more) in let z = r.size in let c = count in absurd (omega arith)

-- the bytes of an image are eight to a number
pub whole_numbers : (bs : List ℕ) (g : Geometry) (listed : Pairs) (nodes : List (List ℕ)) → IsImage bs g listed nodes → length bs % 8 ≡ 0
whole_numbers bs g listed nodes h = let a = ap length h.spell in let b = length-bytes_of h.numbers in eight (length bs) (length h.numbers) (a ∙ b)
  where
    eight : (x y : ℕ) → x ≡ 8 * y → x % 8 ≡ 0
    eight x y e = omega arith

-- an image of the bytes of numbers is one of the numbers
pub of_numbers : (bs ns : List ℕ) → bs ≡ bytes_of ns → ((x : ℕ) → IsIn x ns → x < 2 ^ 64) → (g : Geometry) (listed : Pairs) (nodes : List (List ℕ)) → IsImage bs g listed nodes → AreNumbers ns g listed nodes
of_numbers bs ns e small g listed nodes h = subst (λ v. AreNumbers v g listed nodes) (numbers_one h.numbers ns h.small small (sym h.spell ∙ e)) h.are
