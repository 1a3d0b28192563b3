use Rattle.std.proofs.Common.{◌≡◌, ◌∙◌, sym, arith, slice_index, ◌+◌, true, false, Some}
use Rattle.std.specs.Prelude.{◌==◌, ◌≢◌, ℕ}
use Rattle.std.proofs.lemmas.Bool.Decides.{nat_tests}
use Rattle.slot_word.specs.Slots.{slot_of}
use Rattle.pass_text.specs.Words.{concerns}
use Rattle.post_text.specs.Look.{takes}
use Rattle.batch_pass.specs.Seen.{seen}
use Rattle.batch_pass.specs.Rest.{goes_on}
use Rattle.batch_pass.proofs.Onward.{judge-none, onward-same}
use Rattle.batch_pass.proofs.scan.Scan.judge.Goals as goal

differs : (n : ℕ) → n ≢ 0 → (n == 0) ≡ false
differs n h = grind (arith, nat_tests, h)

-- a word that is taken, of a block of no words, is passed over
pub returns-then-slot-eq0-clause-rest : goal.returns-then-slot-eq0-clause-rest
returns-then-slot-eq0-clause-rest c =
    let j = c.args.task.now.job in
    let s = c.args.self.now in
    let t = c.skip-then-slot-eq0.new.self in
    let e = c.skip-then-slot-eq0.ensures in
    let b = c.in-Some.slot in
    let word = slice_index s.slots s.index in
    let nz : (word == 0) ≡ false = differs word c.if-word-eq0.false in
    let is : slot_of word ≡ Some b = sym c.read_slot.ensures.value ∙ c.in-Some.is in
    let near : concerns j b ≡ true = sym (c.if-not-concerns.ensures).value in
    let taken : takes (seen s) s.index b b.mark ≡ true = sym c.takes.ensures ∙ c.if-takes.true in
    onward-same j t.slots s.slots t.index (s.index + 1) t.follow s.follow (seen t) (seen s) e.slots e.index e.follow e.seen
    ∙ sym (judge-none j s.index (seen s) word b (goes_on j s) nz is near taken c.if-slot-eq0.true)
