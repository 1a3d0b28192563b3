-- The slots that answer in the words after a legal log are the holders of the log, and the map of the live slots of quiet words is that
-- of all changes.
use Rattle.std.specs.Prelude.{◌≡◌, ℕ, List, length, Option, Some, None, refl, reverse}
use Rattle.std.proofs.Common.{sym, ◌∙◌, ap, subst, arith}
use Rattle.std.proofs.lemmas.List.{take_all}
use Rattle.std.specs.FinMap as fin
use Rattle.slot_word.specs.declared.slots.Mark.TheVariants.{Live, Copied}
use Rattle.slot_word.specs.declared.slots.Mark.{Mark}
use Rattle.kv_block.specs.Packing.{Pair, unpacked}
use Rattle.kv_block.proofs.Keys.{key_cmp_total, key_cmp-IsAntisymmetric}
use Rattle.map_model.specs.Machine.{map_after}
use Rattle.node_words.specs.declared.geometry.Geometry.{Geometry}
use Rattle.verb_log.specs.Decoded.{Body, Full}
use Rattle.verb_log.specs.Tables.{Past, word_at, pair_at}
use Rattle.verb_log.specs.Changes.{changes}
use Rattle.verb_log.proofs.BlockWords.{pair_unpacked}
use Rattle.race_laws.specs.Setting.{Setting, hash}
use Rattle.race_laws.specs.Standing.{IsTable, birth_in, place_in}
use Rattle.race_laws.specs.Chains.{OnChain, Holder}
use Rattle.race_laws.specs.Rows.{IsPlace}
use Rattle.race_laws.specs.Legal.{Legal}
use Rattle.race_laws.specs.Laws.{map_in}
use Rattle.race_laws.proofs.SoundStep.{sound}
use Rattle.race_laws.proofs.Slots.{standing_named}
use Rattle.race_laws.proofs.Chain.{chain_table}
use Rattle.race_laws.proofs.Homes.{parent_table}
use Rattle.race_laws.proofs.Maps.{map_of, map_holds}
use Rattle.race_laws.proofs.Presence.{candidate_place, holder_home, home_holder}
use Rattle.race_laws.specs.Chains as chains
use Rattle.image_laws.specs.Walk.{Words}
use Rattle.image_laws.specs.Sound.{pair_from}
use Rattle.image_laws.specs.Quiet.{AreQuiet}
use Rattle.image_laws.specs.Answers.{Chained, starts, goes_on, Answers, live, copied, map_held}
use Rattle.image_laws.specs.Laws.{QuietIsSound, AnswersAreHolders}
use Rattle.image_laws.proofs.SoundWords.{ListedAt}
use Rattle.image_laws.proofs.OneMap.{sound_is_one_map}
use Rattle.image_laws.proofs.WordForms.{words_same}
use Rattle.image_laws.proofs.LogTables.{stands, known}
use Rattle.image_laws.proofs.QuietSound.{quiet_sound}

-- a chain of the log is one of its words, and the other way round
to_words : (g : Geometry) (q : Past) (h t : ℕ) → OnChain g q h t → Chained g (word_at g q) h t
to_words g q h t chains.starts = starts
to_words g q h t (chains.goes_on u i c k ex gn ch n) = goes_on u i c (to_words g q h u k) ex gn ch n

to_log : (g : Geometry) (q : Past) (h t : ℕ) → Chained g (word_at g q) h t → OnChain g q h t
to_log g q h t starts = chains.starts
to_log g q h t (goes_on u i c k ex gn ch n) = chains.goes_on u i c (to_log g q h u k) ex gn ch n

module _ (s : Setting) (q : Past) (l : Legal s q) where
  abbrev words : Words
  words = word_at s.geometry q

  reads : (b : Body) (pr : Pair) → pair_at s.geometry q b ≡ Some pr → pair_from words b ≡ Some pr
  reads b pr e = ap unpacked (words_same s.geometry q b.at b.length) ∙ pair_unpacked s.geometry q b pr e

  packs : (t p : ℕ) (m : Mark) (b : Body) (pr : Pair) → IsTable s.geometry q t → IsPlace s.geometry p → place_in s.geometry q t p ≡ Full m b → pair_from words b ≡ Some pr → pair_at s.geometry q b ≡ Some pr
  packs t p m b pr h k e r = let nm = standing_named s.geometry q (sound s q l) t p m b h k e in nm.packs ∙ sym (reads b nm.pair nm.packs) ∙ r

  pub holder_answers : (key : List ℕ) (t p : ℕ) (b : Body) (pr : Pair) → Holder s q key t p b pr → Answers s words key t p b pr
  holder_answers key t p b pr (chains.live t2 p2 b2 q2 w ky ca ch) = live t p b pr (record { stands = w.stands; packs = reads b pr w.packs }) ky ca (to_words s.geometry q (hash s key) t ch)
  holder_answers key t p b pr (chains.copied t2 p2 b2 q2 w ky ca ta tp mo) = by (known s q l t ta)
    where
      by : ListedAt s.geometry words t → Answers s words key t p b pr
      by kn = subst (λ v. Answers s words key v p b pr) kn.is (copied kn.table p b pr kn.is_listed
          (record { stands = ap (λ v. place_in s.geometry q v p) kn.is ∙ w.stands; packs = reads b pr w.packs }) ky ca
          (ap (λ v. place_in s.geometry q (birth_in s.geometry q v).parent p) kn.is ∙ mo))

  pub answers_holder : (key : List ℕ) (t p : ℕ) (b : Body) (pr : Pair) → Answers s words key t p b pr → Holder s q key t p b pr
  answers_holder key t p b pr (live t2 p2 b2 q2 sh ky ca ch) =
      let on = to_log s.geometry q (hash s key) t ch in
      chains.live t p b pr (record { stands = sh.stands; packs = packs t p Live b pr (chain_table s q l (hash s key) t on) (candidate_place s key p ca) sh.stands sh.packs }) ky ca on
  answers_holder key t p b pr (copied u p2 b2 q2 h sh ky ca mo) =
      let tb = (stands s q l u h).is_table in
      let pl = candidate_place s key p ca in
      chains.copied u.at p b pr (record { stands = sh.stands; packs = packs u.at p Copied b pr tb pl sh.stands sh.packs }) ky ca tb (parent_table s q l u.at p b tb pl sh.stands) mo

  whole : map_in s.geometry q ≡ map_of s.geometry q
  whole = ap (map_after fin.empty) (take_all (length (changes s.geometry q)) (changes s.geometry q) (omega arith))

  module _ (qu : AreQuiet s.geometry words) where
    to_change : (key value : List ℕ) → fin.get (map_held s words) key ≡ Some value → fin.get (map_in s.geometry q) key ≡ Some value
    to_change key value e =
        let x = (sound_is_one_map s words (quiet_sound s q l qu) key).found value e in
        ap (λ m. fin.get m key) whole ∙ (map_holds s q l).held key x.0 x.1 x.2 x.3 (holder_home s q l key x.0 x.1 x.2 x.3 (answers_holder key x.0 x.1 x.2 x.3 x.4)) ∙ ap Some x.5

    to_slot : (key value : List ℕ) → fin.get (map_in s.geometry q) key ≡ Some value → fin.get (map_held s words) key ≡ Some value
    to_slot key value e =
        let o = sym (ap (λ m. fin.get m key) whole) ∙ e in
        let x = (map_holds s q l).found key value o in
        let v = sym ((map_holds s q l).held key x.table x.place x.body x.pair x.home) ∙ o in
        (sound_is_one_map s words (quiet_sound s q l qu) key).held x.table x.place x.body x.pair (holder_answers key x.table x.place x.body x.pair (home_holder s q l key x.table x.place x.body x.pair x.home)) ∙ v

    agree : (a b : Option (List ℕ)) → ((v : List ℕ) → a ≡ Some v → b ≡ Some v) → ((v : List ℕ) → b ≡ Some v → a ≡ Some v) → a ≡ b
    agree (Some v) b f g = sym (f v refl)
    agree None (Some v) f g = g v refl
    agree None None f g = refl

    pub same_contents : map_held s words ≡ map_in s.geometry q
    same_contents = fin.same_map key_cmp_total key_cmp-IsAntisymmetric (map_held s words) (map_in s.geometry q) (λ key. agree _ _ (λ v e. to_change key v e) (λ v e. to_slot key v e))

pub quiet_is_sound : QuietIsSound
quiet_is_sound s log l qu = (quiet_sound s (reverse log) l qu, same_contents s (reverse log) l qu)

pub answers_are_holders : AnswersAreHolders
answers_are_holders s log l key t p b q = (answers_holder s (reverse log) l key t p b q, holder_answers s (reverse log) l key t p b q)
