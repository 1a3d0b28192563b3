-- A record as words: its numbers, its call's words and its reply's.
use Rattle.std.specs.Prelude.{ℕ, ◌+◌, List, ◌∷◌, ◌++◌, take, drop, slice_index}
use Rattle.item_list.specs.Numbers.{number_at}
use Rattle.kv_block.specs.Packing.{block_length}
use Rattle.map_model.specs.declared.records.Record.{Record}
use Rattle.map_model.specs.CallWords.{call_words, call_told}
use Rattle.map_model.specs.ReplyWords.{reply_words, reply_told}

abbrev pub record_words : Record → List ℕ
record_words r = r.client ∷ r.number ∷ r.lo ∷ r.hi ∷ r.point ∷ call_words r.call ++ reply_words r.reply

-- how many words the call has that these begin with: its kind, and its block by the block's first word
abbrev pub call_count : List ℕ → ℕ
call_count words = 1 + block_length (slice_index words 1)

-- the record of these numbers, with the call and the reply that words tell
abbrev pub record_of : List ℕ → List ℕ → Record
record_of numbers words = record {
  client = number_at numbers 0;
  number = number_at numbers 1;
  call = call_told (take (call_count words) words);
  reply = reply_told (drop (call_count words) words);
  lo = slice_index numbers 2;
  hi = slice_index numbers 3;
  point = slice_index numbers 4;
}

-- the record that words tell
abbrev pub record_told : List ℕ → Record
record_told words = record_of words (drop 5 words)
