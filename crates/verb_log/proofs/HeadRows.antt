-- The kinds on headers are rows of one table.
use Rattle.std.proofs.Common.{◌≡◌, ℕ, Some, None, refl, sym, ap}
use Rattle.slot_word.specs.declared.heads.Head.{Head}
use Rattle.slot_word.specs.Heads.{head_of}
use Rattle.verb_log.specs.declared.kind.Kind.TheVariants.{Begin, Open, Close, Finish}
use Rattle.verb_log.specs.Decoded.{Header, PlainAt, SplittingAt, FillingAt, NoHeader, header, header_of, header_with}
use Rattle.verb_log.specs.Kinds.{header_kind, bucket_kind}
use Rattle.verb_log.specs.HeadKinds.{head_kind}

pub table_heads : (h k : Header) → header_kind h k ≡ head_kind Open Finish h k
table_heads (PlainAt d) (SplittingAt e) = refl
table_heads (SplittingAt d) (PlainAt e) = refl
table_heads (FillingAt d) (PlainAt e) = refl
table_heads _ _ = refl

pub bucket_heads : (h k : Header) → bucket_kind h k ≡ head_kind Begin Close h k
bucket_heads (PlainAt d) (SplittingAt e) = refl
bucket_heads (SplittingAt d) (PlainAt e) = refl
bucket_heads (FillingAt d) (PlainAt e) = refl
bucket_heads _ _ = refl

-- what a word says as a header
pub header_is : (w : ℕ) (h : Head) → Some h ≡ head_of w → header w ≡ header_with h.depth h.state
unfolding header
header_is w h e = ap header_of (sym e)

pub header_is_not : (w : ℕ) → None ≡ head_of w → header w ≡ NoHeader
unfolding header
header_is_not w e = ap header_of (sym e)
