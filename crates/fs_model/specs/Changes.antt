-- Changes of attributes.
use Rattle.fs_model.specs.declared.attr.Attr.{Attr}
use Rattle.fs_model.specs.Instant.{Instant}
use Rattle.fs_model.specs.Step.{with_mode, with_owner, with_times}
use Rattle.fs_model.specs.declared.attributes.AttrChange.{AttrChange}
use Rattle.fs_model.specs.declared.attributes.AttrChange.TheVariants.{Mode, Owner, Times}

-- the attributes after a change
abbrev pub changed_by : AttrChange → Instant → Attr → Attr
changed_by (Mode mode) now attr = with_mode mode now attr
changed_by (Owner uid gid) now attr = with_owner uid gid now attr
changed_by (Times atime mtime) now attr = with_times atime mtime now attr
