use Rattle.std.proofs.Common.{sym, subst, ◌≢◌}
use Rattle.image_laws.specs.Pairwise.{Pairwise}
use Rattle.image_laws.specs.declared.table.ImageTable.{ImageTable}
use Rattle.image_audit.specs.Kept.{Indexes, setting_of}
use Rattle.image_audit.proofs.DirectoryWords.{audit_sound, last_bad, kept_listed, kept_map}
use Rattle.image_audit.proofs.audit.audit_directory.Goals as goal

pub walk_directory-requires : goal.walk_directory-requires
walk_directory-requires g c = record {
  index = record {
    tables = c.args.auditor.tables.items;
    indexes = subst (Indexes c.in_ok-index.index) c.deref.ensures.value c.in_ok-index.ensures;
    all = kept_listed (setting_of (g.M.Memory.shape c.args.memory.now) (g.P.Placer.listed c.args.placer.now)) _ _ _ _ _ _ c.requires.kept;
    small = c.requires.small;
    once = subst (Pairwise (λ (t u : ImageTable). t.at ≢ u.at)) (sym c.requires.kept.listed) c.requires.kept.once;
  };
}

pub returns-in-Some : goal.returns-in-Some
returns-in-Some g c = last_bad (setting_of (g.M.Memory.shape c.args.memory.now) (g.P.Placer.listed c.args.placer.now)) (g.M.Memory.words c.args.memory.now) c.in-Some.at c.requires.meets (c.in-Some.ensures (g.P.Placer.listed c.args.placer.now) _)

pub fill_map-requires : goal.fill_map-requires
fill_map-requires g c = kept_map (setting_of (g.M.Memory.shape c.args.memory.now) (g.P.Placer.listed c.args.placer.now)) _ _ _ _ _ _ c.requires.kept

pub returns-in_ok-map-in-None : goal.returns-in_ok-map-in-None
returns-in_ok-map-in-None g c = (audit_sound (setting_of (g.M.Memory.shape c.args.memory.now) (g.P.Placer.listed c.args.placer.now)) (g.M.Memory.words c.args.memory.now) c.requires.meets (λ before. c.in-None.ensures (g.P.Placer.listed c.args.placer.now) before) (g.met.M.Memory.nexts c.args.memory.now), c.in_ok-map-in-None.ensures)
