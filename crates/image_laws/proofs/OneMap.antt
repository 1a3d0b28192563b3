-- Sound words are one map.
use Rattle.std.specs.Prelude.{◌≡◌, ℕ, List, Some, None, refl}
use Rattle.std.proofs.Common.{sym, ◌∙◌, ap, subst, inl, ⊎_elim}
use Rattle.std.specs.FinMap as fin
use Rattle.kv_block.specs.Bytes.{key_cmp}
use Rattle.kv_block.specs.Packing.{Pair}
use Rattle.map_model.specs.Contents.{Contents}
use Rattle.verb_log.specs.Decoded.{Body}
use Rattle.image_laws.specs.Walk.{walk}
use Rattle.image_laws.specs.Sound.{held}
use Rattle.image_laws.specs.Answers.{Answers, map_held}
use Rattle.image_laws.specs.Laws.{SoundIsOneMap}
use Rattle.image_laws.proofs.OneAnswer.{answer_standing, held_answers, answers_held, one, same_pair}
use Rattle.image_laws.proofs.SetPairs.{HasPair, get_of, get_in}

pub sound_is_one_map : SoundIsOneMap
sound_is_one_map s w so key = record {
  one = λ t u p r b c pb pc a d. one s w so key t u p r b c pb pc a d;
  held = λ t p b q a. held_value t p b q a;
  found = λ value e. found value e;
}
  where
    held_value : (t p : ℕ) (b : Body) (q : Pair) → Answers s w key t p b q → fin.get (map_held s w) key ≡ Some q.value
    held_value t p b q a =
        let h = answers_held s w so key t p b q a in
        let k = (answer_standing s w so key t p b q a).1 in
        get_in key q.value (held w (walk s.geometry w)) fin.empty (λ z m e. ap (λ (v : Pair). v.value) (same_pair s w so z q m h (e ∙ sym k))) (inl (record { pair = q; among = h; same_key = k; same_value = refl }))

    found : (value : List ℕ) → fin.get (map_held s w) key ≡ Some value → (t : ℕ) × (p : ℕ) × (b : Body) × (q : Pair) × Answers s w key t p b q × (q.value ≡ value)
    found value e = ⊎_elim
        (λ (x : HasPair key value (held w (walk s.geometry w))). let a = held_answers s w so x.pair x.among in (a.table, a.place, a.body, x.pair, subst (λ v. Answers s w v a.table a.place a.body x.pair) x.same_key a.answers, x.same_value))
        (λ (x : fin.get fin.empty key ≡ Some value). absurd (none x)) (get_of key value (held w (walk s.geometry w)) fin.empty e)
      where
        empty : Contents
        empty = fin.empty

        none : fin.get empty key ≡ Some value → ⊥
        none x = let y : fin.get empty key ≡ None = fin.get-empty key_cmp key in cc
