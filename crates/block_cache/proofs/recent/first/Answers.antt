use Rattle.block_cache.proofs.EntryLemmas.{first_some, first_none, first_empty}
use Rattle.block_cache.proofs.recent.first.Goals as goal

pub returns-in-Some-default-Some : goal.returns-in-Some-default-Some
returns-in-Some-default-Some c = first_some c.args.entries.now.entries c.in-Some-default-Some.field-0-0.now c.in-Some-default-Some.field-0-1.now c.in-Some-default-Some.held c.in-Some-default-Some.ensures c.in-Some-default-Some.field-0-1-is

pub returns-in-Some-default-None : goal.returns-in-Some-default-None
returns-in-Some-default-None c = first_none c.args.entries.now.entries c.in-Some-default-None.field-0-0.now c.in-Some-default-None.field-0-1.now c.requires c.in-Some-default-None.ensures c.in-Some-default-None.field-0-1-is

pub returns-in-None : goal.returns-in-None
returns-in-None c = first_empty c.args.entries.now.entries c.in-None.ensures
