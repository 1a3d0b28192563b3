use Rattle.std.proofs.Common.{◌≡◌, ℕ, ◌∙◌, ap, sym, subst, nat_eq, false, List}
use Rattle.kv_block.specs.Packing.{Pair, IsPair, HasShape, packed, unpacked}
use Rattle.std.specs.Cmp.Lexicographic.{pointwise}
use Rattle.std.proofs.lemmas.Slice.Eq.{bytes_eq-Decides}
use Rattle.kv_block.proofs.Packed.{unpacked-packed, unpacked-no_shape, unpacked-none, no_block, HasShape-packed}
use Rattle.kv_block.proofs.block.read_block.Goals as goal

pub returns-in_err-key_len-clause-pair : goal.returns-in_err-key_len-clause-pair
returns-in_err-key_len-clause-pair c = rw c.from_residual.ensures (unpacked-no_shape c.args.words.now (c.in_err-key_len.ensures))

pub returns-in_err-key_len-clause-none : goal.returns-in_err-key_len-clause-none
returns-in_err-key_len-clause-none c =
    rw c.from_residual.ensures (λ p pair e. c.in_err-key_len.ensures (subst HasShape (sym e) (HasShape-packed p pair)))

pub returns-then-eq-clause-pair : goal.returns-then-eq-clause-pair
returns-then-eq-clause-pair c =
    let block = ap unpacked (sym ((bytes_eq-Decides c.words.result.now c.args.words.now).0 (sym (c.if-eq.ensures))) ∙ c.words.ensures ∙ c.write_block-block.ensures.words) in
    block ∙ unpacked-packed _ c.write_block-block.ensures.pair

other : (c : goal.Else-eq) (p : Pair) → IsPair p → c.args.words.now ≡ packed p.key p.value → ⊥
other c = no_block c.args.words.now c.in_ok-key.key c.in_ok-value.value c.in_ok-key_len.key_len c.in_ok-key_len.value_len c.words_for-key_words.result
    (ap (λ (q : ℕ × ℕ). q.0) c.in_ok-key_len.ensures.1) (ap (λ (q : ℕ × ℕ). q.1) c.in_ok-key_len.ensures.1) c.words_for-key_words.ensures c.in_ok-key.ensures.1 c.in_ok-value.ensures.1
    (subst (λ (us : List ℕ). pointwise nat_eq us c.args.words.now ≡ false) (c.words.ensures ∙ c.write_block-block.ensures.words) (sym (c.if-eq.ensures)))

pub returns-else-eq-clause-none : goal.returns-else-eq-clause-none
returns-else-eq-clause-none c = other c

pub returns-else-eq-clause-pair : goal.returns-else-eq-clause-pair
returns-else-eq-clause-pair c = unpacked-none c.args.words.now (λ p pair e. other c p pair (sym e))
