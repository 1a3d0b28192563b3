-- A record is told by its words.
use Rattle.std.proofs.Common.{◌≡◌, ℕ, ◌<◌, ◌^◌, List, ◌++◌, length, take, drop, slice_index, refl, ap, ◌∙◌, arith}
use Rattle.std.proofs.lemmas.List.{take_at, drop_at}
use Rattle.kv_block.specs.Packing.{IsPair, block_length, packed}
use Rattle.kv_block.specs.Bytes.{IsKeyLength}
use Rattle.kv_block.proofs.Packed.{block_length-packed}
use Rattle.map_model.specs.declared.calls.Call.{Call}
use Rattle.map_model.specs.declared.records.Record.{Record}
use Rattle.map_model.specs.Machine.{key_of}
use Rattle.map_model.specs.CallWords.{value_put, call_words, call_told}
use Rattle.map_model.specs.ReplyWords.{reply_words, reply_told}
use Rattle.map_model.specs.RecordWords.{record_words, call_count, record_told}
use Rattle.map_model.proofs.CallWords.{told-call}
use Rattle.map_model.proofs.ReplyWords.{number-told}

first-packed_more : (k v rest : List ℕ) → slice_index (packed k v ++ rest) 0 ≡ slice_index (packed k v) 0
unfolding packed
first-packed_more k v rest = refl

-- the words of a call tell their number
call_count-call_words : (c : Call) (rest : List ℕ) → IsKeyLength (length (key_of c)) → call_count (call_words c ++ rest) ≡ length (call_words c)
call_count-call_words c rest h =
    let e = ap block_length (first-packed_more (key_of c) (value_put c) rest) ∙ block_length-packed (key_of c) (value_put c) h in
    omega (arith, e)

pub told-record : (r : Record) → r.client < 2 ^ 32 → r.number < 2 ^ 32 → IsPair (record { key = key_of r.call; value = value_put r.call })
    → reply_told (reply_words r.reply) ≡ r.reply → record_told (record_words r) ≡ r
told-record r client number pair reply =
    let words = call_words r.call in
    let more = reply_words r.reply in
    let count = call_count-call_words r.call more pair.key_length in
    let front : take (call_count (words ++ more)) (words ++ more) ≡ words = ap (λ (n : ℕ). take n (words ++ more)) count ∙ take_at words more (length words) refl in
    let back : drop (call_count (words ++ more)) (words ++ more) ≡ more = ap (λ (n : ℕ). drop n (words ++ more)) count ∙ drop_at words more (length words) refl in
    let c = ap call_told front ∙ told-call r.call pair in
    let q = ap reply_told back ∙ reply in
    λ j. record {
      client = number-told r.client client j;
      number = number-told r.number number j;
      call = c j;
      reply = q j;
      lo = r.lo;
      hi = r.hi;
      point = r.point;
    }

pub ruleset told_records = (told-record)
