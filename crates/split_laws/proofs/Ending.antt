-- Steps 7 to 9.
use Rattle.std.specs.Prelude.{◌≡◌, ℕ, ◌+◌, ◌*◌, ◌∷◌, refl}
use Rattle.std.proofs.Common.{sym, ◌∙◌, ap, arith}
use Rattle.node_words.specs.Addresses.{header_at}
use Rattle.slot_word.specs.declared.births.Birth.{Birth}
use Rattle.verb_log.specs.Tables.{Past, word_at}
use Rattle.race_laws.specs.Setting.{Setting}
use Rattle.race_laws.specs.Standing.{birth_in, depth}
use Rattle.race_laws.specs.Legal.{Legal}
use Rattle.log_facts.specs.Since.{change_in}
use Rattle.log_facts.proofs.HeadWords.{is_splitting}
use Rattle.log_facts.proofs.Mild.{firm_on}
use Rattle.log_facts.proofs.Modest.{header_modest}
use Rattle.log_facts.proofs.Within.{header_low}
use Rattle.pass_laws.specs.SafeIn.{SafeBy}
use Rattle.pass_laws.proofs.Rules.{by_weaker, by_bind, by_kept}
use Rattle.directory.specs.Law.{Names, MayName, HasNamed}
use Rattle.directory.specs.Text.{naming}
use Rattle.directory.proofs.Child.{names_modest}
use Rattle.directory.proofs.Whole.{naming_safe, names_holds}
use Rattle.split_text.specs.declared.site.Site.{Site}
use Rattle.split_text.specs.declared.resized.ResizeOutcome.TheVariants.{Split}
use Rattle.split_text.specs.declared.resized.ResizeEnd.{ResizeEnd}
use Rattle.split_text.specs.Words.{plain_of, splitting_of, slot_count, main_count, naming_of}
use Rattle.split_text.specs.Text.{ripen, name_child, close, finish}
use Rattle.move_laws.proofs.Stable.{going_born}
use Rattle.begin_laws.specs.States.{Modestly}
use Rattle.split_laws.specs.Law.{SplitBy}
use Rattle.split_laws.proofs.Around.{Resting, resting_firm}
use Rattle.split_laws.proofs.Closing.{Closing, closing_firm, finish_meets, finish_done, close_safe}
use Rattle.split_laws.proofs.Ripening.{ripen_safe, closed_ripening}
use Rattle.split_laws.proofs.Sure.{sure_safe}

module _ (s : Setting) (c : ℕ) (site : Site) (End : Past → ResizeEnd → Type 0) (left : ℕ) (f : (z : Past) → Legal s z → SplitBy s c site.table (site.depth + 1) z → End z (record { outcome = Split site.table (site.depth + 1); left = left })) where
  zero_plus : (x : ℕ) → 0 + x ≡ x
  zero_plus x = omega arith

  -- the child may be named
  may_name : (q : Past) → Legal s q → Closing s c site (2 * s.geometry.groups) q → MayName s q (naming_of s.geometry site)
  may_name q l h =
      let g = h.finished.going in
      let b = going_born s c site q l g in
      record {
        geometry = refl;
        table = b.table;
        birth = same (birth_in s.geometry q site.child) b.level (b.suffix ∙ sym g.suffix) b.parent;
        ready = let d = ap depth h.finished.head in omega arith;
      }
    where
      same : (b : Birth) → b.depth ≡ site.depth + 1 → b.suffix ≡ site.suffix → b.parent ≡ site.table → b ≡ record { depth = site.depth + 1; suffix = site.suffix; parent = site.table }
      same b d x p = λ i. record { depth = d i; suffix = x i; parent = p i }

  name_safe : (q : Past) → Legal s q → Closing s c site (2 * s.geometry.groups) q → SafeBy Modestly s c q (name_child s.geometry c site left) End
  name_safe q l h = by_bind Modestly s c q (naming (naming_of s.geometry site)) (λ named. ripen s.geometry c site left (main_count s.geometry) 0) End
      (by_weaker Names s c Modestly (λ x e r. names_modest s c x e r) q (naming (naming_of s.geometry site)) (λ y n. HasNamed s (naming_of s.geometry site) q y n × (Closing s c site (2 * s.geometry.groups) y × Legal s y)) (λ y n. SafeBy Modestly s c y (ripen s.geometry c site left (main_count s.geometry) 0) End)
      (λ y n x. ripen_safe s c site s.geometry q n End left f (2 * s.geometry.groups) 0 (zero_plus (2 * s.geometry.groups)) y x.1.1 (closed_ripening s c site y x.1.0) x.0)
      (by_kept Names s c (λ y. Closing s c site (2 * s.geometry.groups) y × Legal s y)
      (names_holds s c (λ y. Closing s c site (2 * s.geometry.groups) y × Legal s y) (λ y e le bs x. (closing_firm s c site (2 * s.geometry.groups) y e le bs x.0, le)))
      q (naming (naming_of s.geometry site)) (λ y n. HasNamed s (naming_of s.geometry site) q y n) (h, l) (naming_safe s c (naming_of s.geometry site) q l (may_name q l h))))

  pub finish_safe : (q : Past) → Legal s q → Resting s c site (slot_count s.geometry) q → SafeBy Modestly s c q (finish s.geometry c site left) End
  finish_safe q l h = sure_safe s c End (header_at site.table) (splitting_of site.depth) (plain_of (site.depth + 1)) (close s.geometry c site left (main_count s.geometry) 0) q (header_low s q l site.table h.open_now.going.table)
      (λ z lz sz. let hz = firm_on s c (Resting s c site (slot_count s.geometry)) (resting_firm s c site (slot_count s.geometry)) sz lz h in (
        is_splitting (word_at s.geometry z (header_at site.table)) site.depth hz.open_now.splits,
        (finish_meets s c site z lz hz, header_modest s c z lz site.table (plain_of (site.depth + 1)) hz.open_now.going.table),
        close_safe s c site s.geometry left End name_safe (2 * s.geometry.groups) 0 (zero_plus (2 * s.geometry.groups)) (change_in s.geometry c z (header_at site.table) (plain_of (site.depth + 1)) ∷ z) (lz, finish_meets s c site z lz hz) (finish_done s c site z lz hz),
      ))
