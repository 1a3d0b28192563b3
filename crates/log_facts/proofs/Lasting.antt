-- Published blocks last, among others on a legal log: kept by every legal entry.
use Rattle.std.specs.Prelude.{ℕ, ◌+◌, reverse}
use Rattle.std.proofs.Common.{sym, ◌∙◌, subst, arith}
use Rattle.verb_log.specs.Tables.{here, later}
use Rattle.verb_log.proofs.InOrder.{reverse_push, replay_index}
use Rattle.verbs.specs.Logs.{same}
use Rattle.verbs.specs.Terms.{SeenAgain, BlocksLast}
use Rattle.verbs.proofs.Growth.{may_stand-push}
use Rattle.race_laws.specs.Setting.{Setting}
use Rattle.race_laws.specs.Legal.{MayFollow}
use Rattle.race_laws.specs.Named.{PublishedIn}
use Rattle.race_laws.proofs.Published.{published_later, published_shape, published_within, published_stands}
use Rattle.log_facts.specs.Among.{among}
use Rattle.log_facts.proofs.Growing.{stands_legal, longer_since, since_before}

pub seen_again : (s : Setting) (c : ℕ) → SeenAgain (among s c)
seen_again s c = record {
  among_others = λ l m g. (g.0, same);
  by_entry = λ before l e g r. (may_stand-push (MayFollow s) l e g.0 r, same);
}

pub blocks_last : (s : Setting) (c : ℕ) → BlocksLast (among s c)
blocks_last s c = record {
  shape = λ l at words h. published_shape s.geometry (reverse l) at words h;
  stands = λ l at words h i less. replay_index s.geometry l (at + i) (let w = published_within s.geometry (reverse l) at words h in omega arith) ∙ published_stands s.geometry (reverse l) at words h i less;
  among_others = λ l m at words g h. published_later s (since_before (longer_since s c l m g.1)) (stands_legal s m g.0) at words h;
  by_entry = λ before l e at words g r h. subst (λ q. PublishedIn s.geometry q at words) (sym (reverse_push l e)) (published_later s (later here) (stands_legal s l g.0, r) at words h);
}
