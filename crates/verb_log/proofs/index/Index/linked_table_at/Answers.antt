use Rattle.std.proofs.Common.{subst, sym, ◌<◌, ℕ, arith, get_or}
use Rattle.std.proofs.lemmas.List.{get_or_default}
use Rattle.verb_log.proofs.Told.{told_table}
use Rattle.verb_log.proofs.index.Index.linked_table_at.Goals as goal

pub returns-then-number-n : goal.returns-then-number-n
returns-then-number-n c =
    let less = c.if-number-n.true in
    let within = c.requires.position in
    let e = get_or c.args.entries.now c.in_ok-number.number (record { client = 0; at = 0; old = 0; new = 0 }) in
    told_table c.args.geometry.now c.args.entries.now c.args.self.now.linked.items c.args.at c.args.n c.in_ok-number.number _ e c.requires.tells.linked
    (subst (λ (n : ℕ). c.args.at < n) (sym c.requires.tells.linked_long) c.requires.at)
    c.index.ensures c.in_ok-number.was less (get_or_default c.args.entries.now c.in_ok-number.number (record { client = 0; at = 0; old = 0; new = 0 }) e (omega arith))
