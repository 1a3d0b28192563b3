use Rattle.world_texts.proofs.Losses.{again_is_lost}
use Rattle.world_texts.proofs.Safe.{calls_safe}
use Rattle.world_texts.proofs.laws.law_calls_in_worlds.Goals as goal

pub returns : goal.returns
returns c = calls_safe c.law_states_fit.ensures.fresh c.law_states_fit.ensures.longer c.law_states_fit.ensures.after c.law_search_call.ensures c.law_delete_call.ensures c.law_update_call.ensures c.law_insert_call.ensures c.law_resize_call.ensures (again_is_lost c.law_again_is_lost.ensures)
