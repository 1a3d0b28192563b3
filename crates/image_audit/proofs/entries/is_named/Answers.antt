use Rattle.std.proofs.Common.{◌≡◌, ◌^◌, ◌<◌, ◌≤◌, ap, sym, ◌∙◌, subst, ⊎_elim, ◌%◌}
use Rattle.std.proofs.lemmas.Bool.{cases_lt}
use Rattle.std.specs.Ordering.{nat_cmp}
use Rattle.std.specs.BTreeMap as tree
use Rattle.race_laws.proofs.Touch.{same_or_not}
use Rattle.image_audit.proofs.DirectoryWords.{zero_word, zero_low, named, misnamed}
use Rattle.image_audit.proofs.entries.is_named.Goals as goal

pub returns-then-word-eq0 : goal.returns-then-word-eq0
returns-then-word-eq0 g c =
    let z = sym c.word-word.ensures ∙ c.if-word-eq0.true in (
      (λ t. zero_word (g.M.Memory.shape c.args.memory.now) (g.M.Memory.words c.args.memory.now) _ _ c.requires.index.indexes c.requires.index.all c.requires.index.once c.args.j z (subst (λ v. 2 ^ v ≤ c.args.j) c.requires.depth (c.is_high.ensures.0 t))),
      (λ r. c.is_high.ensures.1 (⊎_elim (λ (y : c.args.j < 2 ^ c.args.depth). absurd (zero_low (g.M.Memory.shape c.args.memory.now) (g.M.Memory.words c.args.memory.now) _ _ c.requires.index.indexes c.requires.index.all c.requires.index.once c.args.j z (subst (λ v. c.args.j < 2 ^ v) c.requires.depth y) r)) (λ (y : 2 ^ c.args.depth ≤ c.args.j). y) (cases_lt c.args.j (2 ^ c.args.depth)))),
    )

pub has_suffix-requires : goal.has_suffix-requires
has_suffix-requires g c = (c.requires.index.small c.in-Some.table.now (c.requires.index.indexes.found c.word-word.result c.in-Some.table.now (sym c.in-Some.ensures.value)).0).depth

pub returns-in-Some : goal.returns-in-Some
returns-in-Some g c = (
  (λ t. named (g.M.Memory.shape c.args.memory.now) (g.M.Memory.words c.args.memory.now) _ _ c.requires.index.indexes c.requires.index.all c.requires.index.once c.args.j c.in-Some.table.now (ap (λ v. tree.get nat_cmp c.args.index.now v) (sym c.word-word.ensures) ∙ sym c.in-Some.ensures.value) (c.has_suffix.ensures.0 t)),
  (λ r. ⊎_elim (λ (y : c.args.j % 2 ^ c.in-Some.table.now.depth ≡ c.in-Some.table.now.suffix). c.has_suffix.ensures.1 y)
      (λ n. absurd (misnamed (g.M.Memory.shape c.args.memory.now) (g.M.Memory.words c.args.memory.now) _ _ c.requires.index.indexes c.requires.index.all c.requires.index.once c.args.j (λ z. c.if-word-eq0.false (c.word-word.ensures ∙ z)) c.in-Some.table.now (ap (λ v. tree.get nat_cmp c.args.index.now v) (sym c.word-word.ensures) ∙ sym c.in-Some.ensures.value) n r)) (same_or_not (c.args.j % 2 ^ c.in-Some.table.now.depth) c.in-Some.table.now.suffix)),
)
