-- The log of a play is legal with the script's sizes and hashes, and so it has an image where its words are quiet.
use Rattle.std.specs.Prelude.{MatchOption}
use Rattle.std.proofs.Common.{◌≡◌, ◌≢◌, ℕ, List, Option, Some, None, refl, sym, ap, subst, ◌∙◌, ◌⊎◌, inl, inr, arith}
use Rattle.key_hash.specs.Placing.{Pairs}
use Rattle.node_words.specs.declared.geometry.Geometry.{Geometry}
use Rattle.verb_log.specs.declared.entry.Entry.{Entry}
use Rattle.verb_log.specs.Recorded.{Recorded}
use Rattle.race_laws.specs.Setting.{Setting}
use Rattle.race_laws.specs.Legal.{IsLegal}
use Rattle.image_commands.specs.Images.{TellsNoImage, WritesImage, WritesImageInPart}
use Rattle.image_audit.specs.Kept.{setting_of as pair_setting}
use Rattle.client_seat.specs.Fronts.{Fronted}
use Rattle.call_machine.specs.declared.call.CallMachine.{CallMachine}
use Rattle.verb_core.specs.Machine.{call_kind}
use Rattle.verb_core.specs.Play.{Play, Event}
use Rattle.verb_core.specs.Traces.{Turns, turns_none, turns_more}
use Rattle.verb_core.proofs.Traces.{plays_turns}
use Rattle.script_value.specs.Content.{ScriptValue}
use Rattle.play_ends.specs.Settings.{setting_of}
use Rattle.race_play.specs.Plays.{IsPlayed}
use Rattle.race_play.specs.Texts.{LogsPlay, ReadsAndPlays}
use Rattle.script_commands.specs.Endings.{TellsPlay}
use Rattle.script_commands.specs.Reading.{ReadsScript}
use Rattle.race_play.specs.Outcomes.{IsImageStatus, TellsNoPicture, WritesPicture, WritesPictureInPart}

-- verbs leave the sizes and hashes as they were
turns-setting : (w v : Play CallMachine) (es : List Event) → Turns call_kind w es v → v.setting ≡ w.setting
turns-setting w v es turns_none = refl
turns-setting w v es2 (turns_more {es = es} {u = u} c e answered ts t) = t.setting ∙ turns-setting w u es ts

pub play-setting : (script : ScriptValue) (v : Play CallMachine) → IsPlayed script v → v.setting ≡ setting_of script
play-setting script v h = turns-setting h.begun v h.events (plays_turns call_kind h.begun v _ h.events h.plays) ∙ h.begins.setting

module _ (script : ScriptValue) (log : Recorded) (geometry : Geometry) (listed : Pairs) (h : LogsPlay script log geometry listed) where
  setting-is : h.ended.setting ≡ setting_of script
  setting-is = play-setting script h.ended h.played

  pub same-setting : pair_setting geometry listed ≡ setting_of script
  same-setting = by h.geometry_is h.listed_is
    where
      by : geometry ≡ script.geometry → listed ≡ script.content.hashes → (let s : Setting = record { geometry = geometry; listed = listed } in s) ≡ record { geometry = script.geometry; listed = script.content.hashes }
      by e f = cc

  pub log-geometry : log.geometry ≡ geometry
  log-geometry = h.same_geometry ∙ ap (λ (s : Setting). s.geometry) setting-is ∙ sym h.geometry_is

  pub log-legal : IsLegal (pair_setting geometry listed) log.entries
  log-legal = subst (λ s. IsLegal s log.entries) (setting-is ∙ sym same-setting) (subst (IsLegal h.ended.setting) (sym h.same_entries) h.played.legal.log)

  pub reads-and-plays : (old new : Option (List ℕ)) (front : Fronted) → ReadsScript old new script → front.geometry ≡ log.geometry → front.entries ≡ log.entries → front.ran ≡ None → ReadsAndPlays old new script front
  reads-and-plays old new front reads g e r = record {
    reads = reads;
    ended = h.ended;
    played = h.played;
    log = record { geometry = g ∙ h.same_geometry; entries = e ∙ h.same_entries; stored = r };
  }

  -- what is told after a picture
  module _ (old new taken_old taken_new : Option (List ℕ)) (faults_old faults_new : ℕ) (front : Option Fronted) (status : ℕ) (reads : ReadsScript old new script) (fr : MatchOption front (status ≡ 6) (λ f. (f.geometry ≡ log.geometry) × (f.entries ≡ log.entries) × (f.ran ≡ None) × (status ≢ 6))) where
    front-some : status ≢ 6 → (f : Fronted) × (front ≡ Some f) × (f.geometry ≡ log.geometry) × (f.entries ≡ log.entries) × (f.ran ≡ None)
    front-some n = by front refl fr
      where
        by : (o : Option Fronted) → front ≡ o → MatchOption o (status ≡ 6) (λ f. (f.geometry ≡ log.geometry) × (f.entries ≡ log.entries) × (f.ran ≡ None) × (status ≢ 6)) → (f : Fronted) × (front ≡ Some f) × (f.geometry ≡ log.geometry) × (f.entries ≡ log.entries) × (f.ran ≡ None)
        by None e k = absurd (n k)
        by (Some f) e k = (f, e, k.0, k.1, k.2)

    pub picture-front : (status ≡ 0) ⊎ (status ≡ 5) ⊎ (status ≡ 6) ⊎ (status ≡ 7) → TellsPlay status front
    picture-front st = by front fr st
      where
        by : (o : Option Fronted) → MatchOption o (status ≡ 6) (λ f. (f.geometry ≡ log.geometry) × (f.entries ≡ log.entries) × (f.ran ≡ None) × (status ≢ 6)) → (status ≡ 0) ⊎ (status ≡ 5) ⊎ (status ≡ 6) ⊎ (status ≡ 7) → TellsPlay status o
        by None k s = inr (inr k)
        by (Some f) k (inl e) = inl e
        by (Some f) k (inr (inl e)) = inr (inl e)
        by (Some f) k (inr (inr (inl e))) = absurd (k.3 e)
        by (Some f) k (inr (inr (inr e))) = inr (inr e)

    -- of the log's entries, as the front has them
    to-front : (P : Setting → List Entry → Type 0) (f : Fronted) → f.entries ≡ log.entries → P (pair_setting geometry listed) log.entries → P (setting_of script) f.entries
    to-front P f e p = subst (P (setting_of script)) (sym e) (subst (λ s. P s log.entries) same-setting p)

    pub picture-written : status ≡ 0 → WritesImage (pair_setting geometry listed) log.entries taken_old taken_new → WritesPicture old new taken_old taken_new front
    picture-written z w = let r = front-some (λ e. omega arith) in record {
      script = script;
      log = r.0;
      told = r.1;
      reads = reads-and-plays old new r.0 reads r.2 r.3 r.4;
      written = to-front (λ s es. WritesImage s es taken_old taken_new) r.0 r.3 w;
    }

    pub picture-in-part : status ≡ 5 → WritesImageInPart (pair_setting geometry listed) log.entries taken_old taken_new → WritesPictureInPart old new taken_old taken_new front
    picture-in-part z w = let r = front-some (λ e. omega arith) in record {
      script = script;
      log = r.0;
      told = r.1;
      reads = reads-and-plays old new r.0 reads r.2 r.3 r.4;
      written = to-front (λ s es. WritesImageInPart s es taken_old taken_new) r.0 r.3 w;
    }

    pub no-picture : status ≡ 7 → TellsNoImage (pair_setting geometry listed) log.entries taken_old taken_new faults_old faults_new → TellsNoPicture old new taken_old taken_new faults_old faults_new front
    no-picture z w = let r = front-some (λ e. omega arith) in record {
      script = script;
      log = r.0;
      told = r.1;
      reads = reads-and-plays old new r.0 reads r.2 r.3 r.4;
      written = to-front (λ s es. TellsNoImage s es taken_old taken_new faults_old faults_new) r.0 r.3 w;
    }

-- the statuses of what was played
pub picture-status : (n : ℕ) → (n ≡ 0) ⊎ (n ≡ 5) ⊎ (n ≡ 6) ⊎ (n ≡ 7) → IsImageStatus n
picture-status n (inl e) = inl e
picture-status n (inr (inl e)) = inr (inr (inr (inl e)))
picture-status n (inr (inr (inl e))) = inr (inr (inr (inr (inl e))))
picture-status n (inr (inr (inr e))) = inr (inr (inr (inr (inr e))))

pub picture-not : {X : Type 0} (n : ℕ) → (n ≡ 0) ⊎ (n ≡ 5) ⊎ (n ≡ 6) ⊎ (n ≡ 7) → (n ≡ 3) ⊎ (n ≡ 4) → X
picture-not n h (inl f) = absurd (by h)
  where
    by : (n ≡ 0) ⊎ (n ≡ 5) ⊎ (n ≡ 6) ⊎ (n ≡ 7) → ⊥
    by (inl e) = omega (arith, e, f)
    by (inr (inl e)) = omega (arith, e, f)
    by (inr (inr (inl e))) = omega (arith, e, f)
    by (inr (inr (inr e))) = omega (arith, e, f)
picture-not n h (inr f) = absurd (by h)
  where
    by : (n ≡ 0) ⊎ (n ≡ 5) ⊎ (n ≡ 6) ⊎ (n ≡ 7) → ⊥
    by (inl e) = omega (arith, e, f)
    by (inr (inl e)) = omega (arith, e, f)
    by (inr (inr (inl e))) = omega (arith, e, f)
    by (inr (inr (inr e))) = omega (arith, e, f)
