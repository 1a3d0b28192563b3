-- A key leaves with a split exactly where its hash has the child's suffix.
use Rattle.std.specs.Prelude.{◌≡◌, ℕ, ◌+◌, ◌%◌, ◌^◌, ◌≤◌}
use Rattle.std.proofs.Common.{sym, ◌∙◌, ap, arith}
use Rattle.slot_word.specs.declared.slots.Mark.{Mark}
use Rattle.slot_word.specs.declared.births.Birth.{Birth}
use Rattle.kv_block.specs.Packing.{Pair}
use Rattle.verb_log.specs.Decoded.{Body}
use Rattle.verb_log.specs.Tables.{Past, Before, here}
use Rattle.race_laws.specs.Setting.{Setting, hash}
use Rattle.race_laws.specs.Standing.{IsTable, birth_in, Exits, Word}
use Rattle.race_laws.specs.Rows.{IsPlace}
use Rattle.race_laws.specs.Legal.{Legal}
use Rattle.race_laws.proofs.Positions.{legal_before}
use Rattle.race_laws.proofs.Frames.{birth_before}
use Rattle.race_laws.proofs.Opening.{splits}
use Rattle.race_laws.proofs.Chain.{born_at}
use Rattle.race_laws.proofs.Candidates.{word_candidate}
use Rattle.log_facts.proofs.Suffixes.{suffix_leaves, leaves_suffix}
use Rattle.split_text.specs.declared.site.Site.{Site}
use Rattle.move_laws.specs.States.{Going}
use Rattle.move_laws.proofs.Stable.{small}

module _ (s : Setting) (c : ℕ) (site : Site) (q : Past) (l : Legal s q) (g : Going s c site q) (at : Past) (bf : Before at q) (tb : IsTable s.geometry at site.table) (p : ℕ) (pl : IsPlace s.geometry p) (m : Mark) (b : Body) (pr : Pair) (w : Word s.geometry at m site.table p b pr) where
  birth : birth_in s.geometry q site.table ≡ birth_in s.geometry at site.table
  birth = birth_before s bf l site.table tb

  from : born_at s.geometry at site.table ≤ site.depth
  from = let up = (splits s q l).upto site.table site.depth g.table (small s c site q g) (λ z. g.some (sym g.link ∙ z)) in let x = up.0 in let y = ap (λ (v : Birth). v.depth) birth in omega arith

  suffix : site.suffix ≡ (birth_in s.geometry at site.table).suffix + 2 ^ site.depth
  suffix = g.suffix ∙ ap (λ (v : Birth). v.suffix + 2 ^ site.depth) birth

  pub leaving : hash s pr.key % 2 ^ (site.depth + 1) ≡ site.suffix → Exits s at site.table pr.key site.depth
  leaving h = suffix_leaves s at (hash s pr.key) site.table site.depth from (small s c site q g) (h ∙ suffix)

  pub staying : Exits s at site.table pr.key site.depth → hash s pr.key % 2 ^ (site.depth + 1) ≡ site.suffix
  staying ex =
      let la = legal_before s bf l in
      let st = word_candidate s at la at here site.table p m b pr tb pl w in
      leaves_suffix s at la (hash s pr.key) site.table site.depth st.chain ex ∙ sym suffix
