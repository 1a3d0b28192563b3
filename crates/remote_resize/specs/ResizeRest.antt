-- What is left of a split, and what is known of each place where it stands.
use Rattle.std.specs.Prelude.{ℕ, suc, ◌+◌, Some}
use Rattle.node_words.specs.Addresses.{slot_at}
use Rattle.verbs.specs.Programs.{Prog, bind}
use Rattle.directory.specs.Rest.{name_rest}
use Rattle.split_text.specs.declared.resized.ResizeOutcome.TheVariants.{Split as SplitEnd, Again}
use Rattle.split_text.specs.declared.resized.ResizeEnd.{ResizeEnd}
use Rattle.split_text.specs.Words.{place_of, main_count}
use Rattle.split_text.specs.Begin.{sure, unlock}
use Rattle.split_text.specs.Text.{resized, unlocks, ripen, close, finish, ticket_at, after_move, slots, after_begin}
use Rattle.remote_resize.specs.declared.work.Work.{Work}
use Rattle.remote_resize.specs.declared.resize_at.ResizeAt.{ResizeAt}
use Rattle.remote_resize.specs.declared.resize_at.ResizeAt.TheVariants.{Beginning, NotBegun, Moving, Clear, Finish, Close, Naming, RipenBucket, Ripen, UnlockTable, UnlockChild, Split, HeldUp}
use Rattle.remote_resize.specs.BeginRest.{begin_rest, left_at as begin_left}
use Rattle.remote_resize.specs.MoveRest.{move_rest, left_at as move_left}

-- what follows the first half, and what follows a place
abbrev pub begun_on : Work → Prog ResizeEnd
begun_on w = bind (begin_rest w.begin) (λ e. after_begin w.begin.job e.left e.outcome)

abbrev pub moved_on : Work → Prog ResizeEnd
moved_on w = bind (move_rest w.mover) (λ e. after_move w.geometry w.client w.site w.slot (slots w.geometry w.client w.site w.more (w.slot + 1)) e e.outcome)

abbrev pub named_on : Work → Prog ResizeEnd
named_on w = bind (name_rest w.name) (λ named. ripen w.geometry w.client w.site w.left (main_count w.geometry) 0)

abbrev pub resize_rest_at : Work → ResizeAt → Prog ResizeEnd
resize_rest_at w Beginning = begun_on w
resize_rest_at w NotBegun = begun_on w
resize_rest_at w Moving = moved_on w
resize_rest_at w Clear = sure (slot_at w.site.table (place_of w.slot)) w.word 0 (slots w.geometry w.client w.site w.more (w.slot + 1) w.left)
resize_rest_at w Finish = finish w.geometry w.client w.site w.left
resize_rest_at w Close = close w.geometry w.client w.site w.left (suc w.after) w.index
resize_rest_at w Naming = named_on w
resize_rest_at w RipenBucket = ripen w.geometry w.client w.site w.left (suc w.after) w.index
resize_rest_at w Ripen = ripen w.geometry w.client w.site w.left 0 w.index
resize_rest_at w UnlockTable = unlocks w.geometry w.client w.site w.left
resize_rest_at w UnlockChild = unlock w.client w.site.child (resized (SplitEnd w.site.table (w.site.depth + 1)) w.left)
resize_rest_at w Split = resized (SplitEnd w.site.table (w.site.depth + 1)) w.left
resize_rest_at w HeldUp = resized (Again (Some (ticket_at w.geometry w.client w.site w.slot w.mover.mover.word w.mover.mover.standing))) 0

-- how many swaps may still be lost
abbrev pub left_at : Work → ResizeAt → ℕ
left_at w Beginning = begin_left w.begin.starter w.begin.at
left_at w NotBegun = begin_left w.begin.starter w.begin.at
left_at w Moving = move_left w.mover.mover w.mover.at
left_at w HeldUp = 0
left_at w _ = w.left
