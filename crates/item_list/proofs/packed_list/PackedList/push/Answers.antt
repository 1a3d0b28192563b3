use Rattle.std.proofs.Common.{ap, sym, subst, ◌∙◌, ◌++◌, ◌∷◌, [], ℕ, ◌≡◌, length, List, arith}
use Rattle.std.proofs.lemmas.List.{length-append}
use Rattle.item_list.specs.RoomyList.{RoomyList}
use Rattle.item_list.specs.Pieces.{IsCut}
use Rattle.item_list.proofs.Pieces.{cut-push, told-push}
use Rattle.item_list.proofs.packed_list.PackedList.push.Goals as goal

pub invariant_of-self : goal.invariant_of-self
invariant_of-self g c =
    let s = c.self.inside in
    let a = length-append s.words.items (g.T.Pack.packed c.args.item) in
    let b : length c.pack.new.words.items ≡ length (s.words.items ++ g.T.Pack.packed c.args.item) = ap (λ (xs : List ℕ). length xs) c.pack.ensures.items in
    let d : c.len.result ≡ length c.pack.new.words.items = c.len.ensures ∙ c.pack.new.words.ok.0 in
    subst (λ (xs : List ℕ). IsCut 0 (length c.pack.new.words.items) xs) (sym c.push_reserved.ensures.items)
    (subst (λ (n : ℕ). IsCut 0 (length c.pack.new.words.items) (s.ends.items ++ n ∷ [])) (sym d)
    (cut-push 0 (length s.words.items) (length c.pack.new.words.items) s.ends.items c.self.invariant (omega (arith, a, b))))

pub returns-clause-appended : goal.returns-clause-appended
returns-clause-appended g c =
    let s = c.self.inside in
    told-push g.T.Pack.told 0 s.words.items (g.T.Pack.packed c.args.item) s.ends.items c.pack.new.words.items c.push_reserved.new.self.items c.len.result c.args.item c.self.invariant
    c.pack.ensures.items
    (c.len.ensures ∙ c.pack.new.words.ok.0)
    c.push_reserved.ensures.items
    c.pack.ensures.told
    ∙ ap (λ (l : RoomyList _). l.items ++ c.args.item ∷ []) c.self.view_is
    ∙ ap (λ xs. xs ++ c.args.item ∷ []) c.in_ok-reserve.ensures.items
