-- Changes of attributes that a tree takes.
use Rattle.std.specs.Prelude.{◌≤◌}
use Rattle.fs_model.specs.declared.limits.TheConstants.{MAX_MODE}
use Rattle.fs_model.specs.declared.attributes.AttrChange.{AttrChange}
use Rattle.fs_model.specs.declared.attributes.AttrChange.TheVariants.{Mode, Owner, Times}

-- a mode is within its limit
abbrev pub ChangeFits : AttrChange → Type 0
ChangeFits (Mode mode) = mode ≤ MAX_MODE
ChangeFits (Owner uid gid) = Unit {0}
ChangeFits (Times atime mtime) = Unit {0}
