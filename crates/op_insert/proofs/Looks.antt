-- How a look, a sweep and a taking inside an insert have ended; and what a pass in another mode is.
use Rattle.std.specs.Prelude.{◌≡◌, ℕ, ◌-◌, true, false, Option, Some, None, take, refl}
use Rattle.std.proofs.Common.{ap}
use Rattle.verbs.specs.Programs.{bind, outcome_of}
use Rattle.pass_text.specs.declared.job.Job.{Job}
use Rattle.pass_text.specs.declared.job.PassMode.{PassMode}
use Rattle.pass_text.specs.declared.passed.PassEnd.TheVariants.{Clear as ClearEnd}
use Rattle.pass_text.specs.Pass.{passed, pass}
use Rattle.scan_pass.specs.declared.pass.Pass.{Pass}
use Rattle.scan_pass.specs.declared.scan.Scan.{Scan}
use Rattle.scan_pass.specs.declared.at.At as pass_at
use Rattle.scan_pass.specs.declared.at.At.TheVariants.{Depth, Directory, Header, Parent, Birth, Slot, Block, Drop, KeyHeader, Child, Held, Clear, Gone, Spent}
use Rattle.scan_pass.specs.Seen.{seen}
use Rattle.scan_pass.specs.Ends.{held_of, is_held, is_gone, is_spent, has_ended}
use Rattle.scan_pass.specs.Rest.{pass_rest, at_rest as pass_at_rest}
use Rattle.scan_pass.specs.BlockWords.{words_of}
use Rattle.pass_text.specs.Words.{candidate_at}
use Rattle.pass_text.specs.declared.passed.Held.{Held as HeldWord}
use Rattle.kv_block.specs.Reading.{block_value}
use Rattle.block_taking.specs.declared.taking.Taking.{Taking}
use Rattle.block_taking.specs.declared.taking.Area.{Area}
use Rattle.block_taking.specs.declared.take_op.TakeOp.{TakeOp}
use Rattle.block_taking.specs.declared.at.At as take_at
use Rattle.block_taking.specs.declared.at.At.TheVariants.{Read, Area as AreaAt, Alone, Write, Taken, NoBlock, Spent as SpentAt}
use Rattle.block_taking.specs.Text.{need}
use Rattle.block_taking.specs.Ends as takes
use Rattle.block_taking.specs.declared.progress.Progress.{Progress}
use Rattle.block_taking.specs.Rest.{take_rest, at_rest as take_at_rest}
use Rattle.op_insert.specs.Text.{Inserting, exists_with, to_commit, left_again, spent, no_block, part_end, choose, after_look, after_sweep, after_taking, withdraw, place_block}
use Rattle.work_area.specs.Looking.{look_form}
use Rattle.op_insert.specs.Looking.{IsClear}
use Rattle.op_insert.specs.Rest.{clear_of}

-- the word that holds the key
abbrev held_by : Job → Scan → HeldWord
held_by j s = record { at = candidate_at j s.table s.index; word = s.word; value = block_value (words_of s.block) }

look_held : (j : Job) (s : Scan) (at : pass_at.At) (i : Inserting) (kept : Option ℕ) (area : Area) (left : ℕ) → is_held at ≡ true → bind (pass_at_rest j s at) (after_look i kept area left) ≡ part_end (exists_with (held_by j s)) s.table kept area left
look_held j s Depth i kept area left h = absurd (cc)
look_held j s Directory i kept area left h = absurd (cc)
look_held j s Header i kept area left h = absurd (cc)
look_held j s Parent i kept area left h = absurd (cc)
look_held j s Birth i kept area left h = absurd (cc)
look_held j s Slot i kept area left h = absurd (cc)
look_held j s Block i kept area left h = absurd (cc)
look_held j s Drop i kept area left h = absurd (cc)
look_held j s KeyHeader i kept area left h = absurd (cc)
look_held j s Child i kept area left h = absurd (cc)
look_held j s Held i kept area left h = refl
look_held j s Clear i kept area left h = absurd (cc)
look_held j s Gone i kept area left h = absurd (cc)
look_held j s Spent i kept area left h = absurd (cc)

look_gone : (j : Job) (s : Scan) (at : pass_at.At) (i : Inserting) (kept : Option ℕ) (area : Area) (left : ℕ) → is_gone at ≡ true → bind (pass_at_rest j s at) (after_look i kept area left) ≡ part_end spent s.table kept area 0
look_gone j s Depth i kept area left h = absurd (cc)
look_gone j s Directory i kept area left h = absurd (cc)
look_gone j s Header i kept area left h = absurd (cc)
look_gone j s Parent i kept area left h = absurd (cc)
look_gone j s Birth i kept area left h = absurd (cc)
look_gone j s Slot i kept area left h = absurd (cc)
look_gone j s Block i kept area left h = absurd (cc)
look_gone j s Drop i kept area left h = absurd (cc)
look_gone j s KeyHeader i kept area left h = absurd (cc)
look_gone j s Child i kept area left h = absurd (cc)
look_gone j s Held i kept area left h = absurd (cc)
look_gone j s Clear i kept area left h = absurd (cc)
look_gone j s Gone i kept area left h = refl
look_gone j s Spent i kept area left h = absurd (cc)

look_spent : (j : Job) (s : Scan) (at : pass_at.At) (i : Inserting) (kept : Option ℕ) (area : Area) (left : ℕ) → is_spent at ≡ true → bind (pass_at_rest j s at) (after_look i kept area left) ≡ part_end spent s.table kept area 0
look_spent j s Depth i kept area left h = absurd (cc)
look_spent j s Directory i kept area left h = absurd (cc)
look_spent j s Header i kept area left h = absurd (cc)
look_spent j s Parent i kept area left h = absurd (cc)
look_spent j s Birth i kept area left h = absurd (cc)
look_spent j s Slot i kept area left h = absurd (cc)
look_spent j s Block i kept area left h = absurd (cc)
look_spent j s Drop i kept area left h = absurd (cc)
look_spent j s KeyHeader i kept area left h = absurd (cc)
look_spent j s Child i kept area left h = absurd (cc)
look_spent j s Held i kept area left h = absurd (cc)
look_spent j s Clear i kept area left h = absurd (cc)
look_spent j s Gone i kept area left h = absurd (cc)
look_spent j s Spent i kept area left h = refl

look_clear : (j : Job) (s : Scan) (at : pass_at.At) (i : Inserting) (kept : Option ℕ) (area : Area) (left : ℕ) → IsClear at → bind (pass_at_rest j s at) (after_look i kept area left) ≡ choose i (passed j (seen s) ClearEnd) kept area left
look_clear j s Depth i kept area left h = absurd (cc)
look_clear j s Directory i kept area left h = absurd (cc)
look_clear j s Header i kept area left h = absurd (cc)
look_clear j s Parent i kept area left h = absurd (cc)
look_clear j s Birth i kept area left h = absurd (cc)
look_clear j s Slot i kept area left h = absurd (cc)
look_clear j s Block i kept area left h = absurd (cc)
look_clear j s Drop i kept area left h = absurd (cc)
look_clear j s KeyHeader i kept area left h = absurd (cc)
look_clear j s Child i kept area left h = absurd (cc)
look_clear j s Held i kept area left h = absurd (cc)
look_clear j s Clear i kept area left h = refl
look_clear j s Gone i kept area left h = absurd (cc)
look_clear j s Spent i kept area left h = absurd (cc)

sweep_held : (j : Job) (s : Scan) (at : pass_at.At) (i : Inserting) (own block : ℕ) (area : Area) (left : ℕ) → is_held at ≡ true → bind (pass_at_rest j s at) (after_sweep i own block area left) ≡ withdraw i own block (part_end (exists_with (held_by j s)) s.table None area (left - s.lost))
sweep_held j s Depth i own block area left h = absurd (cc)
sweep_held j s Directory i own block area left h = absurd (cc)
sweep_held j s Header i own block area left h = absurd (cc)
sweep_held j s Parent i own block area left h = absurd (cc)
sweep_held j s Birth i own block area left h = absurd (cc)
sweep_held j s Slot i own block area left h = absurd (cc)
sweep_held j s Block i own block area left h = absurd (cc)
sweep_held j s Drop i own block area left h = absurd (cc)
sweep_held j s KeyHeader i own block area left h = absurd (cc)
sweep_held j s Child i own block area left h = absurd (cc)
sweep_held j s Held i own block area left h = refl
sweep_held j s Clear i own block area left h = absurd (cc)
sweep_held j s Gone i own block area left h = absurd (cc)
sweep_held j s Spent i own block area left h = absurd (cc)

sweep_gone : (j : Job) (s : Scan) (at : pass_at.At) (i : Inserting) (own block : ℕ) (area : Area) (left : ℕ) → is_gone at ≡ true → bind (pass_at_rest j s at) (after_sweep i own block area left) ≡ withdraw i own block (part_end left_again s.table None area (left - s.lost))
sweep_gone j s Depth i own block area left h = absurd (cc)
sweep_gone j s Directory i own block area left h = absurd (cc)
sweep_gone j s Header i own block area left h = absurd (cc)
sweep_gone j s Parent i own block area left h = absurd (cc)
sweep_gone j s Birth i own block area left h = absurd (cc)
sweep_gone j s Slot i own block area left h = absurd (cc)
sweep_gone j s Block i own block area left h = absurd (cc)
sweep_gone j s Drop i own block area left h = absurd (cc)
sweep_gone j s KeyHeader i own block area left h = absurd (cc)
sweep_gone j s Child i own block area left h = absurd (cc)
sweep_gone j s Held i own block area left h = absurd (cc)
sweep_gone j s Clear i own block area left h = absurd (cc)
sweep_gone j s Gone i own block area left h = refl
sweep_gone j s Spent i own block area left h = absurd (cc)

sweep_spent : (j : Job) (s : Scan) (at : pass_at.At) (i : Inserting) (own block : ℕ) (area : Area) (left : ℕ) → is_spent at ≡ true → bind (pass_at_rest j s at) (after_sweep i own block area left) ≡ withdraw i own block (part_end spent s.table None area 0)
sweep_spent j s Depth i own block area left h = absurd (cc)
sweep_spent j s Directory i own block area left h = absurd (cc)
sweep_spent j s Header i own block area left h = absurd (cc)
sweep_spent j s Parent i own block area left h = absurd (cc)
sweep_spent j s Birth i own block area left h = absurd (cc)
sweep_spent j s Slot i own block area left h = absurd (cc)
sweep_spent j s Block i own block area left h = absurd (cc)
sweep_spent j s Drop i own block area left h = absurd (cc)
sweep_spent j s KeyHeader i own block area left h = absurd (cc)
sweep_spent j s Child i own block area left h = absurd (cc)
sweep_spent j s Held i own block area left h = absurd (cc)
sweep_spent j s Clear i own block area left h = absurd (cc)
sweep_spent j s Gone i own block area left h = absurd (cc)
sweep_spent j s Spent i own block area left h = refl

sweep_clear : (j : Job) (s : Scan) (at : pass_at.At) (i : Inserting) (own block : ℕ) (area : Area) (left : ℕ) → IsClear at → bind (pass_at_rest j s at) (after_sweep i own block area left) ≡ part_end (to_commit own block) s.table None area (left - s.lost)
sweep_clear j s Depth i own block area left h = absurd (cc)
sweep_clear j s Directory i own block area left h = absurd (cc)
sweep_clear j s Header i own block area left h = absurd (cc)
sweep_clear j s Parent i own block area left h = absurd (cc)
sweep_clear j s Birth i own block area left h = absurd (cc)
sweep_clear j s Slot i own block area left h = absurd (cc)
sweep_clear j s Block i own block area left h = absurd (cc)
sweep_clear j s Drop i own block area left h = absurd (cc)
sweep_clear j s KeyHeader i own block area left h = absurd (cc)
sweep_clear j s Child i own block area left h = absurd (cc)
sweep_clear j s Held i own block area left h = absurd (cc)
sweep_clear j s Clear i own block area left h = refl
sweep_clear j s Gone i own block area left h = absurd (cc)
sweep_clear j s Spent i own block area left h = absurd (cc)

clear_told : (j : Job) (s : Scan) (at : pass_at.At) → IsClear at → outcome_of (pass_at_rest j s at) ≡ Some (passed j (seen s) ClearEnd)
clear_told j s Depth h = absurd (cc)
clear_told j s Directory h = absurd (cc)
clear_told j s Header h = absurd (cc)
clear_told j s Parent h = absurd (cc)
clear_told j s Birth h = absurd (cc)
clear_told j s Slot h = absurd (cc)
clear_told j s Block h = absurd (cc)
clear_told j s Drop h = absurd (cc)
clear_told j s KeyHeader h = absurd (cc)
clear_told j s Child h = absurd (cc)
clear_told j s Held h = absurd (cc)
clear_told j s Clear h = refl
clear_told j s Gone h = absurd (cc)
clear_told j s Spent h = absurd (cc)

-- by the pass
module _ (p : Pass) (i : Inserting) (kept : Option ℕ) (area : Area) (left : ℕ) where
  pub look-held : is_held p.at ≡ true → bind (pass_rest p) (after_look i kept area left) ≡ part_end (exists_with (held_of p)) p.scan.table kept area left
  look-held h = look_held p.task.job p.scan p.at i kept area left h

  pub look-gone : is_gone p.at ≡ true → bind (pass_rest p) (after_look i kept area left) ≡ part_end spent p.scan.table kept area 0
  look-gone h = look_gone p.task.job p.scan p.at i kept area left h

  pub look-spent : is_spent p.at ≡ true → bind (pass_rest p) (after_look i kept area left) ≡ part_end spent p.scan.table kept area 0
  look-spent h = look_spent p.task.job p.scan p.at i kept area left h

  pub look-clear : has_ended p.at ≡ true → is_held p.at ≡ false → is_gone p.at ≡ false → is_spent p.at ≡ false → bind (pass_rest p) (after_look i kept area left) ≡ choose i (clear_of p) kept area left
  look-clear a b c d = look_clear p.task.job p.scan p.at i kept area left (a, b, c, d)

module _ (p : Pass) (i : Inserting) (own block : ℕ) (area : Area) (left : ℕ) where
  pub sweep-held : is_held p.at ≡ true → bind (pass_rest p) (after_sweep i own block area left) ≡ withdraw i own block (part_end (exists_with (held_of p)) p.scan.table None area (left - p.scan.lost))
  sweep-held h = sweep_held p.task.job p.scan p.at i own block area left h

  pub sweep-gone : is_gone p.at ≡ true → bind (pass_rest p) (after_sweep i own block area left) ≡ withdraw i own block (part_end left_again p.scan.table None area (left - p.scan.lost))
  sweep-gone h = sweep_gone p.task.job p.scan p.at i own block area left h

  pub sweep-spent : is_spent p.at ≡ true → bind (pass_rest p) (after_sweep i own block area left) ≡ withdraw i own block (part_end spent p.scan.table None area 0)
  sweep-spent h = sweep_spent p.task.job p.scan p.at i own block area left h

  pub sweep-clear : has_ended p.at ≡ true → is_held p.at ≡ false → is_gone p.at ≡ false → is_spent p.at ≡ false → bind (pass_rest p) (after_sweep i own block area left) ≡ part_end (to_commit own block) p.scan.table None area (left - p.scan.lost)
  sweep-clear a b c d = sweep_clear p.task.job p.scan p.at i own block area left (a, b, c, d)

pub clear-told : (p : Pass) → IsClear p.at → outcome_of (pass_rest p) ≡ Some (clear_of p)
clear-told p h = clear_told p.task.job p.scan p.at h

pub ruleset looks = (look-held, look-gone, look-spent, look-clear)

pub ruleset sweeps = (sweep-held, sweep-gone, sweep-spent, sweep-clear)

-- how a taking has ended
take_taken : (t : Taking) (s : Progress) (at : take_at.At) (i : Inserting) (table own : ℕ) → takes.is_taken at ≡ true → bind (take_at_rest t s at) (after_taking i table own) ≡ place_block i table own s.block s.area s.left
take_taken t s Read i table own h = absurd (cc)
take_taken t s AreaAt i table own h = absurd (cc)
take_taken t s Alone i table own h = absurd (cc)
take_taken t s Write i table own h = absurd (cc)
take_taken t s Taken i table own h = refl
take_taken t s NoBlock i table own h = absurd (cc)
take_taken t s SpentAt i table own h = absurd (cc)

take_full : (t : Taking) (s : Progress) (at : take_at.At) (i : Inserting) (table own : ℕ) → takes.is_full at ≡ true → bind (take_at_rest t s at) (after_taking i table own) ≡ part_end (no_block (take t.geometry.nodes s.nexts) (need t)) table None s.area s.left
take_full t s Read i table own h = absurd (cc)
take_full t s AreaAt i table own h = absurd (cc)
take_full t s Alone i table own h = absurd (cc)
take_full t s Write i table own h = absurd (cc)
take_full t s Taken i table own h = absurd (cc)
take_full t s NoBlock i table own h = refl
take_full t s SpentAt i table own h = absurd (cc)

take_spent : (t : Taking) (s : Progress) (at : take_at.At) (i : Inserting) (table own : ℕ) → (takes.has_ended at ≡ true) × (takes.is_taken at ≡ false) × (takes.is_full at ≡ false) → bind (take_at_rest t s at) (after_taking i table own) ≡ part_end spent table None s.area 0
take_spent t s Read i table own h = absurd (cc)
take_spent t s AreaAt i table own h = absurd (cc)
take_spent t s Alone i table own h = absurd (cc)
take_spent t s Write i table own h = absurd (cc)
take_spent t s Taken i table own h = absurd (cc)
take_spent t s NoBlock i table own h = absurd (cc)
take_spent t s SpentAt i table own h = refl

module _ (t : TakeOp) (i : Inserting) (table own : ℕ) where
  pub taking-taken : takes.is_taken t.at ≡ true → bind (take_rest t) (after_taking i table own) ≡ place_block i table own t.progress.block t.progress.area t.progress.left
  taking-taken h = take_taken t.taking t.progress t.at i table own h

  pub taking-full : takes.is_full t.at ≡ true → bind (take_rest t) (after_taking i table own) ≡ part_end (no_block (take t.taking.geometry.nodes t.progress.nexts) (need t.taking)) table None t.progress.area t.progress.left
  taking-full h = take_full t.taking t.progress t.at i table own h

  pub taking-spent : takes.has_ended t.at ≡ true → takes.is_taken t.at ≡ false → takes.is_full t.at ≡ false → bind (take_rest t) (after_taking i table own) ≡ part_end spent table None t.progress.area 0
  taking-spent a b c = take_spent t.taking t.progress t.at i table own (a, b, c)

pub ruleset takings = (taking-taken, taking-full, taking-spent)

-- a pass of the same key in another mode
pub turn-is : (j job : Job) (mode : PassMode) → look_form j ≡ job → (let x : Job = record { geometry = j.geometry; key = j.key; hash = j.hash; mode = mode } in x) ≡ record { geometry = job.geometry; key = job.key; hash = job.hash; mode = mode }
turn-is j job mode e = ap (λ (x : Job). let y : Job = record { geometry = x.geometry; key = x.key; hash = x.hash; mode = mode } in y) e

pub turned : (j job : Job) (mode : PassMode) (start : Option ℕ) → look_form j ≡ job → pass (record { geometry = j.geometry; key = j.key; hash = j.hash; mode = mode }) start ≡ pass (record { geometry = job.geometry; key = job.key; hash = job.hash; mode = mode }) start
turned j job mode start e = ap (λ x. pass x start) (turn-is j job mode e)

pub ruleset turns = (turned, turn-is)

pub ruleset ended = (clear-told)
