-- The slot words of an insert's block; and the job of a setting.
use Rattle.std.specs.Prelude.{◌≡◌, ℕ, ◌==◌, true, false, length, refl}
use Rattle.std.proofs.Common.{◌∙◌, ap, arith}
use Rattle.std.proofs.Math.Nat.{mod-eq_of_lt}
use Rattle.std.proofs.lemmas.Bool.Decides.{nat_tests}
use Rattle.slot_word.specs.declared.slots.Mark.{Mark}
use Rattle.slot_word.specs.declared.slots.Mark.TheVariants.{Live, Pending}
use Rattle.kv_block.specs.Packing.{Pair, IsPair, packed}
use Rattle.kv_block.proofs.Packed.{packed_least}
use Rattle.verb_log.specs.Decoded.{Body, Full, content}
use Rattle.verb_log.specs.Tables.{Past}
use Rattle.race_laws.specs.Setting.{Setting, hash}
use Rattle.race_laws.specs.Legal.{Legal}
use Rattle.log_facts.specs.Mine.{Block}
use Rattle.log_facts.specs.SlotWords.{marked}
use Rattle.log_facts.proofs.Taking.{mine_within}
use Rattle.log_facts.proofs.Written.{body, says}
use Rattle.pass_text.specs.Words.{address_of}
use Rattle.pass_text.specs.declared.job.PassMode.{PassMode}
use Rattle.pass_laws.specs.Law.{IsJobOf}
use Rattle.op_insert.specs.Text.{Inserting, body_of, pending_word, live_word}
use Rattle.op_insert.specs.Law.{inserting_of}

pub equal : (x y : ℕ) → (x == y) ≡ true → x ≡ y
equal x y h = grind (arith, nat_tests)

pub differ : (x y : ℕ) → x ≡ y → (x == y) ≡ false → ⊥
differ x y h k = grind (arith, nat_tests)

-- a pass of the insert is of the setting
pub job_is : (s : Setting) (pair : Pair) → IsPair pair → (mode : PassMode) → IsJobOf s (record { geometry = s.geometry; key = pair.key; hash = hash s pair.key; mode = mode })
job_is s pair ip mode = record { geometry = refl; hash = refl; bytes = ip.key_bytes }

module _ (s : Setting) (c client : ℕ) (pair : Pair) (ip : IsPair pair) (tries at : ℕ) (q : Past) (l : Legal s q) (b : Block s c at (packed pair.key pair.value) q) where
  abbrev i : Inserting
  i = inserting_of s client pair tries

  low : address_of at ≡ at
  unfolding address_of
  low = let two = packed_least pair ip in let x = mine_within s c q l at (length (packed pair.key pair.value)) at 0 b.mine (omega arith) (omega arith) in let w = s.geometry.within in mod-eq_of_lt (omega arith)

  pub body_is : body_of (inserting_of s client pair tries) at ≡ body s c at pair ip q l b
  body_is = ap (λ v. let x : Body = record { print = (body s c at pair ip q l b).print; length = length (packed pair.key pair.value); at = v } in x) low

  word_says : (m : Mark) → content (marked m (body_of i at)) ≡ Full m (body s c at pair ip q l b)
  word_says m = ap (λ v. content (marked m v)) body_is ∙ says s c at pair ip q l b m

  pub pending_says : content (pending_word (inserting_of s client pair tries) at) ≡ Full Pending (body s c at pair ip q l b)
  unfolding pending_word
  pending_says = word_says Pending

  pub live_says : content (live_word (inserting_of s client pair tries) at) ≡ Full Live (body s c at pair ip q l b)
  unfolding live_word
  live_says = word_says Live
