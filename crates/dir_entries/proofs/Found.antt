-- What was found at a place.
use Rattle.std.specs.Prelude.{◌≡◌, true, false, is_some, Option, Some, None}
use Rattle.std.proofs.Common.{refl}
use Rattle.block_id.specs.declared.id.BlockId.{BlockId}
use Rattle.fs_model.specs.declared.attr.Attr.{Attr}
use Rattle.dir_entries.specs.Layout.{EntryTarget}
use Rattle.dir_entries.specs.Places.{target_of}

pub present_is : (found : Option (Attr × BlockId)) (target : EntryTarget) → target_of found ≡ Some target → is_some found ≡ true
present_is None target e = absurd cc
present_is (Some x) target e = refl

pub absent_is : (found : Option (Attr × BlockId)) → target_of found ≡ None → is_some found ≡ false
absent_is None e = refl
absent_is (Some x) e = absurd cc

pub not_found : (found : Option (Attr × BlockId)) → is_some found ≡ false → target_of found ≡ None
not_found None e = refl
not_found (Some x) e = absurd cc

pub found_there : (found : Option (Attr × BlockId)) → is_some found ≡ true → is_some (target_of found) ≡ true
found_there None e = e
found_there (Some x) e = refl
