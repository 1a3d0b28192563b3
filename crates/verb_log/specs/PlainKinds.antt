-- The table of kinds, by roles without numbers.
use Rattle.std.specs.Prelude.{◌+◌, Bool, ◌&&◌, nat_lt, ◌==◌, Option, None}
use Rattle.node_words.specs.declared.geometry.Geometry.{Geometry}
use Rattle.verb_log.specs.declared.entry.Entry.{Entry}
use Rattle.verb_log.specs.declared.kind.Kind.{Kind}
use Rattle.verb_log.specs.declared.kind.Kind.TheVariants.{Store, Take, Link, Name, Deepen}
use Rattle.verb_log.specs.declared.role.Role.{Role}
use Rattle.verb_log.specs.declared.role.Role.TheVariants.{Next, Depth, Directory, Birth, Header, Lock, Reserved, Child, Bucket, Slot, Heap}
use Rattle.verb_log.specs.Decoded.{content, header}
use Rattle.verb_log.specs.Tables.{is_address}
use Rattle.verb_log.specs.Kinds.{only_if, slot_kind, header_kind, bucket_kind, lock_kind}

-- where it is said whether the entry's word may be stored
abbrev pub kind_of_plain : Geometry → Bool → Entry → Role → Option Kind
kind_of_plain g store e Next = only_if (nat_lt e.old e.new) Take
kind_of_plain g store e Depth = only_if (e.new == e.old + 1) Deepen
kind_of_plain g store e Directory = only_if (is_address g e.new) Name
kind_of_plain g store e Birth = None
kind_of_plain g store e Header = header_kind (header e.old) (header e.new)
kind_of_plain g store e Lock = lock_kind e
kind_of_plain g store e Reserved = None
kind_of_plain g store e Child = only_if ((e.old == 0) && is_address g e.new) Link
kind_of_plain g store e Bucket = bucket_kind (header e.old) (header e.new)
kind_of_plain g store e Slot = slot_kind (content e.old) (content e.new)
kind_of_plain g store e Heap = only_if store Store
