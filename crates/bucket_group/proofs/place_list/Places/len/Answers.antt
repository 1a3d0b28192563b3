use Rattle.std.proofs.Common.{◌∙◌, sym, ap, inl, inr, refl, length}
use Rattle.bucket_group.specs.PlaceLists.{length-short, length-long}
use Rattle.bucket_group.proofs.place_list.Places.len.Goals as goal

pub returns-then-self-clause-len : goal.returns-then-self-clause-len
returns-then-self-clause-len c = sym (length-short _ _ _ _ c.if-self.true) ∙ ap length c.self.view_is

pub returns-then-self-clause-two : goal.returns-then-self-clause-two
returns-then-self-clause-two c = inl refl

pub returns-else-self-clause-len : goal.returns-else-self-clause-len
returns-else-self-clause-len c = sym (length-long _ _ _ _ c.if-self.false) ∙ ap length c.self.view_is

pub returns-else-self-clause-two : goal.returns-else-self-clause-two
returns-else-self-clause-two c = inr refl
