use Rattle.std.proofs.Common.{◌≡◌, All, ℕ, ◌/◌, length, Vec, List, sym, ap, subst, ◌∙◌}
use Rattle.sparse_words.specs.Chunks.{IsChunk, IsZero}
use Rattle.std.specs.declared.alloc.Global.{Global}
use Rattle.sparse_words.proofs.ChunkWords.{opened, get_set-same, there-at, same-there, get-there, no-items, whole-items}
use Rattle.sparse_words.proofs.chunks.Chunks.open.Goals as goal

pub returns-then-is_empty-clause-words : goal.returns-then-is_empty-clause-words
returns-then-is_empty-clause-words c =
    let s = c.args.self.now in
    let i = c.args.at / 8192 in
    let v : Vec ℕ Global = c.index.result.now in
    let w : Vec ℕ Global = c.index_mut.result.now in
    let a = there-at s.chunks.items i v c.requires.place c.index.ensures in
    let b = there-at s.chunks.items i w c.requires.place c.index_mut.ensures.value in
    let none = no-items (length v.items) v.len v.ok.0 (sym c.is_empty.ensures ∙ c.if-is_empty.true) in
    let items : length w.items ≡ 0 = ap (λ (u : Vec ℕ Global). length u.items) (same-there _ w v b a) ∙ none in
    opened s.chunks.items i w c.swap.new.x c.requires.place b items (subst (λ (xs : List ℕ). All IsZero xs) (sym (ap (λ (u : Vec ℕ Global). u.items) c.swap.ensures.x_after)) s.ready.1)

pub returns-then-is_empty-clause-there : goal.returns-then-is_empty-clause-there
returns-then-is_empty-clause-there c d e =
    let s = c.args.self.now in
    let x : Vec ℕ Global = c.swap.new.x in
    let a = get_set-same s.chunks.items (c.args.at / 8192) x c.requires.place in
    ap (λ (u : Vec ℕ Global). length u.items) (same-there _ d x e a ∙ c.swap.ensures.x_after) ∙ c.requires.spare

pub returns-else-is_empty-clause-there : goal.returns-else-is_empty-clause-there
returns-else-is_empty-clause-there c d e =
    let s = c.args.self.now in
    let i = c.args.at / 8192 in
    let v : Vec ℕ Global = c.index.result.now in
    let a = there-at s.chunks.items i v c.requires.place c.index.ensures in
    let same : d ≡ v = same-there _ d v e a in
    let fits = subst IsChunk (get-there s.chunks.items i v c.requires.place a) (s.whole i v c.requires.place) in
    ap (λ (u : Vec ℕ Global). length u.items) same ∙ whole-items (length v.items) v.len v.ok.0 (sym c.is_empty.ensures ∙ c.if-is_empty.false) fits.0 fits.1
