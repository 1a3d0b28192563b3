-- A call at its beginning, by its caller, its pair and what an insert starts from.
use Rattle.kv_block.specs.Packing.{Pair}
use Rattle.map_model.specs.declared.calls.Call.{Call}
use Rattle.map_model.specs.declared.calls.Call.TheVariants.{Insert, Search, Update, Delete, Resize}
use Rattle.call_texts.specs.State.{Caller, Inserting}
use Rattle.call_texts.specs.Text.{search_call, delete_call, update_call, insert_part, resize_call}
use Rattle.call_machine.specs.Rest.{Left}

abbrev pub begin_from : Caller → Pair → Inserting → Call → Left
begin_from who pair st (Search key) = search_call who pair.key st.start st.area st.ticket
begin_from who pair st (Delete key) = delete_call who pair.key st.start st.area st.ticket
begin_from who pair st (Update key value) = update_call who pair st.start st.area st.ticket
begin_from who pair st (Insert key value) = insert_part who pair st
begin_from who pair st (Resize key) = resize_call who pair.key st.start st.area st.ticket
