-- The laws of starts, of logs in order.
use Rattle.verb_log.proofs.Positions.{Before-take, Before-prefix}
use Rattle.race_laws.specs.Chains as chains
use Rattle.race_laws.proofs.Positions.{legal_before}
use Rattle.log_facts.specs.Start.{on_chain}
use Rattle.log_facts.specs.StartLaws.{StartLasts, FirstTableStarts, DirectoryStarts}
use Rattle.log_facts.proofs.Starts.{start_before}
use Rattle.log_facts.proofs.Directory.{directory_chain}

pub start_lasts : StartLasts
start_lasts s log l n m le up h t st = start_before s (Before-take log n m le) (legal_before s (Before-prefix log m) l) h t st

pub first_table_starts : FirstTableStarts
first_table_starts s log l n up h = on_chain _ chains.starts

pub directory_starts : DirectoryStarts
directory_starts s log l n m le up h = on_chain _ (directory_chain s (Before-take log n m le) (legal_before s (Before-prefix log m) l) h)
