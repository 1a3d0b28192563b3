-- What was read, audited and written.
use Rattle.std.specs.Prelude.{◌≡◌, ℕ, ◌⊎◌, List, length, codes, Option, Result, Ok, Err, OnOk, OnErr}
use Rattle.std.proofs.Common.{inl, inr, arith, subst}
use Rattle.std.specs.Io.KnownBytes.{IsAtEnd}
use Rattle.map_model.specs.Contents.{Contents}
use Rattle.race_io.specs.Transfer.{TakesAll}
use Rattle.key_hash.specs.Placing.{Pairs}
use Rattle.node_words.specs.declared.geometry.Geometry.{Geometry}
use Rattle.image_laws.proofs.OneMap.{sound_is_one_map}
use Rattle.image_audit.specs.Kept.{setting_of}
use Rattle.image_audit.specs.Shape.{word_in}
use Rattle.image_audit.specs.declared.audit.Audit.TheVariants.{Sound, Bad}
use Rattle.node_image.specs.Image.{IsImage, IsAudited}
use Rattle.image_commands.specs.Audits.{ReadsImage, AreSound, TellsBad}
use Rattle.image_commands.specs.Texts.{TellsLine, number_line}

-- a text was put whole, or in part where the sink failed
pub put_or_failed : {A B C E U : Type 0} (put : Result U E) → OnOk put A → OnErr put B → OnErr put C → A ⊎ (C × B)
put_or_failed (Ok u) whole part failed = inl whole
put_or_failed (Err e) whole part failed = inr (failed, part)

-- the bytes of an image are fewer than are read at most, so the source was read to its end
pub image_read : (old new : Option (List ℕ)) (bytes : List ℕ) (g : Geometry) (listed : Pairs) (nodes : List (List ℕ)) → TakesAll old new 16777217 bytes → IsImage bytes g listed nodes → ReadsImage old new g listed nodes
image_read old new bytes g listed nodes taken im = record { bytes = bytes; taken = taken; whole = by taken.whole; is_image = im }
  where
    by : (length bytes ≡ 16777217) ⊎ IsAtEnd new → IsAtEnd new
    by (inl e) = absurd (let few = im.few in omega (arith, e, few))
    by (inr end) = end

pub sound_read : (old new : Option (List ℕ)) (bytes : List ℕ) (pairs : Contents) → TakesAll old new 16777217 bytes → IsAudited bytes (Sound pairs) → AreSound old new pairs
sound_read old new bytes pairs taken h = record {
  geometry = h.geometry;
  listed = h.listed;
  nodes = h.nodes;
  reads = image_read old new bytes h.geometry h.listed h.nodes taken h.is_image;
  sound = h.is_audit.0;
  map = h.is_audit.1;
  one = sound_is_one_map (setting_of h.geometry h.listed) (word_in h.geometry h.nodes) h.is_audit.0;
}

pub bad_read : (old new : Option (List ℕ)) (bytes : List ℕ) (taken_old taken_new : Option (List ℕ)) (faults_old faults_new at : ℕ) → TakesAll old new 16777217 bytes → IsAudited bytes (Bad at) → TellsLine taken_old taken_new faults_old faults_new (number_line (codes "bad ") at) → TellsBad old new taken_old taken_new faults_old faults_new
bad_read old new bytes taken_old taken_new faults_old faults_new at taken h w = record {
  geometry = h.geometry;
  listed = h.listed;
  nodes = h.nodes;
  reads = image_read old new bytes h.geometry h.listed h.nodes taken h.is_image;
  word = h.is_audit.0;
  bad = h.is_audit.1;
  written = subst (λ n. TellsLine taken_old taken_new faults_old faults_new (number_line (codes "bad ") n)) h.is_audit.2 w;
}
