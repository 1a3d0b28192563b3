-- The image of the words after a legal log.
use Rattle.std.specs.Prelude.{◌≡◌, ℕ, List, reverse, Option, Some, None}
use Rattle.std.proofs.Common.{sym, ◌∙◌, ap, subst}
use Rattle.std.proofs.Math.Path.{fun_ext}
use Rattle.node_words.specs.declared.geometry.Geometry.{Geometry}
use Rattle.verb_log.specs.declared.entry.Entry.{Entry}
use Rattle.race_laws.specs.Setting.{Setting}
use Rattle.race_laws.specs.Legal.{IsLegal}
use Rattle.race_laws.specs.Laws.{map_in}
use Rattle.race_laws.proofs.SoundStep.{sound}
use Rattle.image_laws.specs.Walk.{Words, tables}
use Rattle.image_laws.specs.Sound.{NextsFit}
use Rattle.image_laws.specs.Quiet.{AreQuiet}
use Rattle.image_laws.specs.Laws.{words_after}
use Rattle.image_laws.proofs.Beyond.{beyond, outside}
use Rattle.image_audit.specs.Kept.{AllSmall, setting_of}
use Rattle.image_audit.specs.Outcome.{IsAudit}
use Rattle.image_audit.specs.Shape.{word_in}
use Rattle.image_audit.specs.declared.audit.Audit.{Audit}
use Rattle.image_audit.specs.declared.audit.Audit.TheVariants.{Sound}
use Rattle.image_audit.proofs.Audited.{audit_of_log}
use Rattle.quiet_walk.specs.Loud.{IsFirstLoud}
use Rattle.quiet_walk.proofs.SmallTables.{small_tables}
use Rattle.node_image.specs.Image.{IsImage, IsAudited}
use Rattle.node_image.specs.Parts.{parts_of}
use Rattle.node_image.specs.Written.{IsLoudAt, IsImaged, IsWritten}
use Rattle.node_image.specs.declared.imaging.Imaged.{Imaged}
use Rattle.node_image.specs.declared.imaging.Imaged.TheVariants as imaged
use Rattle.node_image.proofs.OneImage.{one_image}
use Rattle.node_image.proofs.NodeParts.{parts_keep}

module _ (s : Setting) (log : List Entry) (l : IsLegal s log) where
  abbrev w : Words
  w = words_after s.geometry log

  pub nexts_after : NextsFit s.geometry w
  nexts_after k h = let so = sound s (reverse log) l in (so.next_from k h, so.next_to k h)

  pub kept : (a : ℕ) → word_in s.geometry (parts_of s.geometry w) a ≡ w a
  kept a = parts_keep s.geometry w nexts_after (λ b h n. beyond s (reverse log) l b h n) (λ b h. outside s (reverse log) l b h) a

  -- what is read of the image's words is read of the log's
  module _ (g : Geometry) (nodes : List (List ℕ)) (ge : g ≡ s.geometry) (ne : nodes ≡ parts_of s.geometry w) where
    same_words : word_in g nodes ≡ w
    same_words = ap (λ v. word_in v nodes) ge ∙ ap (word_in s.geometry) ne ∙ fun_ext kept

    pub small_after : AllSmall (tables g (word_in g nodes))
    small_after = subst AllSmall (sym (ap (λ v. tables v (word_in g nodes)) ge ∙ ap (tables s.geometry) same_words)) (small_tables s (reverse log) l)

    loud_of : (o : Option ℕ) → IsFirstLoud g (word_in g nodes) o → IsFirstLoud s.geometry w o
    loud_of o h = subst (λ v. IsFirstLoud s.geometry v o) same_words (subst (λ v. IsFirstLoud v (word_in g nodes) o) ge h)

    pub loud_after : (o : Option ℕ) (at : ℕ) → o ≡ Some at → IsFirstLoud g (word_in g nodes) o → IsLoudAt s log at
    loud_after o at e h = loud_of (Some at) (subst (IsFirstLoud g (word_in g nodes)) e h)

    pub quiet_after : (o : Option ℕ) → o ≡ None → IsFirstLoud g (word_in g nodes) o → AreQuiet s.geometry w
    quiet_after o e h = loud_of None (subst (IsFirstLoud g (word_in g nodes)) e h)

  audited : AreQuiet s.geometry w → (bytes : List ℕ) → IsImage bytes s.geometry s.listed (parts_of s.geometry w) → (audit : Audit) → IsAudited bytes audit → audit ≡ Sound (map_in s.geometry (reverse log))
  audited qu bytes im audit h =
      let r = one_image bytes h.geometry s.geometry h.listed s.listed h.nodes (parts_of s.geometry w) h.is_image im in
      audit_of_log s log l qu (word_in s.geometry (parts_of s.geometry w)) kept audit
      (subst (λ v. IsAudit s (word_in s.geometry v) audit) r.2 (subst (λ v. IsAudit (setting_of s.geometry v) (word_in s.geometry h.nodes) audit) r.1 (subst (λ v. IsAudit (setting_of v h.listed) (word_in v h.nodes) audit) r.0 h.is_audit)))

  written_here : AreQuiet s.geometry w → (i : Imaged) → IsWritten s.geometry s.listed (parts_of s.geometry w) i → IsImaged s log i
  written_here qu (imaged.Bytes bytes) h = (record { quiet = qu; spelled = h.0; is_image = h.1 }, record { words = kept; audited = audited qu bytes.items h.1 })
  written_here qu (imaged.NotQuiet at) h = absurd h
  written_here qu (imaged.TooLarge n) h = record { quiet = qu; count = h.0; many = h.1 }

  pub written_after : (g : Geometry) (nodes : List (List ℕ)) (i : Imaged) → g ≡ s.geometry → nodes ≡ parts_of s.geometry w → AreQuiet s.geometry w → IsWritten g s.listed nodes i → IsImaged s log i
  written_after g nodes i ge ne qu h = written_here qu i (subst (λ v. IsWritten s.geometry s.listed v i) ne (subst (λ v. IsWritten v s.listed nodes i) ge h))

-- the same, of a log whose geometry is the one of the setting
module _ (s : Setting) (log : List Entry) (l : IsLegal s log) (g : Geometry) (ge : g ≡ s.geometry) where
  pub nexts_there : NextsFit g (words_after g log)
  nexts_there = subst (λ v. NextsFit v (words_after v log)) (sym ge) (nexts_after s log l)

  pub parts_there : (nodes : List (List ℕ)) → nodes ≡ parts_of g (words_after g log) → nodes ≡ parts_of s.geometry (words_after s.geometry log)
  parts_there nodes e = e ∙ ap (λ v. parts_of v (words_after v log)) ge
