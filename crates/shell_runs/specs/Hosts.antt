-- What a run sees of the host folder.
use Rattle.std.specs.Prelude.{◌≡◌, ℕ}
use Rattle.std.specs.declared.option.Option.{Option}
use Rattle.fs_model.specs.Tree.{Tree}
use Rattle.host_attributes.specs.host_folder.Folders.{HostTree}

-- Its tree before and after, and its attributes before and after, where they are told; and how often a call on it had failed before and after.
pub record HostSeen : Type 0 where
  pub old : Option HostTree
  pub new : Option HostTree
  pub attributes_before : Option Tree
  pub attributes_after : Option Tree
  pub faults : ℕ
  pub risen : ℕ

abbrev pub host_of : {F : Type 0} → (F → Option HostTree) → (F → Option Tree) → (F → ℕ) → F → F → HostSeen
host_of tree attributes faults old new = record {
  old = tree old;
  new = tree new;
  attributes_before = attributes old;
  attributes_after = attributes new;
  faults = faults old;
  risen = faults new;
}

-- no call on it failed, and it is as it was
pub record IsStill (host : HostSeen) : Type 0 where
  pub same : host.new ≡ host.old
  pub attributes : host.attributes_after ≡ host.attributes_before
  pub quiet : host.risen ≡ host.faults
