-- A value is told by its words.
use Rattle.std.proofs.Common.{◌≡◌, ℕ, ◌*◌, ◌≤◌, List, length, true, nat_eq, arith}
use Rattle.std.specs.Prelude.{nat_le}
use Rattle.std.proofs.lemmas.Bool.Decides.{nat_tests}
use Rattle.kv_block.specs.Bytes.{IsValueLength, AreBytes}
use Rattle.kv_block.specs.Packing.{words_for, words_of}
use Rattle.kv_block.specs.ValueWords.{value_words, value_told}
use Rattle.kv_block.proofs.Packed.{IsByteList-from_AreBytes, length-words_of, take-bytes_of}

pub told-value : (v : List ℕ) → IsValueLength (length v) → AreBytes v → value_told (value_words v) ≡ v
told-value v h bytes =
    let n = length-words_of (words_for (length v)) v in
    let a : nat_le (length v) 1024 ≡ true = grind (arith, nat_tests) in
    let b : nat_eq (length (words_of (words_for (length v)) v)) (words_for (length v)) ≡ true = grind (arith, nat_tests) in
    let long : length v ≤ 8 * words_for (length v) = omega arith in
    rw (a, b) (take-bytes_of (words_for (length v)) v (IsByteList-from_AreBytes v bytes) long)

pub ruleset told_values = (told-value)
