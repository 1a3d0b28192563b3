-- Roles without the numbers of tables, places and levels.
use Rattle.node_words.specs.Roles.{Role as WordRole, NextWord, DepthWord, DirectoryWord, BirthWord, HeaderWord, LockWord, ReservedWord, ChildWord, BucketWord, SlotWord, HeapWord}
use Rattle.verb_log.specs.declared.role.Role.{Role}
use Rattle.verb_log.specs.declared.role.Role.TheVariants.{Next, Depth, Directory, Birth, Header, Lock, Reserved, Child, Bucket, Slot, Heap}

abbrev pub plain_role : WordRole → Role
plain_role (NextWord k) = Next
plain_role DepthWord = Depth
plain_role (DirectoryWord j) = Directory
plain_role (BirthWord t) = Birth
plain_role (HeaderWord t) = Header
plain_role (LockWord t) = Lock
plain_role ReservedWord = Reserved
plain_role (ChildWord t i) = Child
plain_role (BucketWord t m) = Bucket
plain_role (SlotWord t p) = Slot
plain_role HeapWord = Heap
