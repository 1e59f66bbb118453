-- A store that knows no block.
use Rattle.std.proofs.Common.{◌≡◌, ℕ, List, [], length, refl, sym, ◌∙◌, ap, subst, arith}
use Rattle.std.specs.Prelude.{Bool, is_some, IfSome, true, false}
use Rattle.std.specs.FinMap as fin
use Rattle.std.specs.FinMap.{get-empty, len-empty, contains_key-keys}
use Rattle.std.specs.Ordering.{nat_cmp}
use Rattle.std.specs.Cmp.Lexicographic.{slice_cmp}
use Rattle.std.specs.declared.option.Option.{Option}
use Rattle.std.specs.declared.option.Option.TheVariants.{None, Some}
use Rattle.outside.specs.Trace.{Call}
use Rattle.record_saver.specs.local_state.declared.life.Life.{Life}
use Rattle.record_saver.specs.local_state.Known.{Lives, FitsLife, FitLives}
use Rattle.record_saver.specs.local_state.Record.{PlainState, HasRecord}
use Rattle.integrity_store.specs.block_versions.Soundness.{IsUntouched}
use Rattle.block_cache.specs.store_api.Holdings.{has_id}
use Rattle.mount_stores.specs.Making.{IsUnchanged}
use Rattle.mount_stores.specs.Opening.{ReadsConfigOnce}
use Rattle.mount_stores.proofs.Reading.{true_is_false, reads_told, reads_last}

lives_get : (lives : Lives) (id : List ℕ) → lives ≡ fin.empty → fin.get lives id ≡ None
lives_get lives id e = ap (λ m. fin.get m id) e ∙ get-empty (slice_cmp nat_cmp) id

pub unused_none : (content : Option (List ℕ)) (used : Bool) → used ≡ false → (is_some content ≡ true → used ≡ true) → content ≡ None
unused_none None used e f = refl
unused_none (Some bytes) used e f = absurd (true_is_false (sym (f refl) ∙ e))

pub none_used : (lives : Lives) (id : List ℕ) → lives ≡ fin.empty → has_id (fin.keys lives) id ≡ false
none_used lives id e = sym (contains_key-keys lives id) ∙ ap is_some (lives_get lives id e)

pub untouched : (t : Option (List Call)) → IsUnchanged t → IsUntouched t
untouched None u = absurd (true_is_false (sym u.told))
untouched (Some t) u = u.none

pub reads_unchanged : (a b : Option (List Call)) → ReadsConfigOnce a b → IsUnchanged a → IsUnchanged b
reads_unchanged a b reads u = record { told = reads_told a b reads ∙ u.told; none = λ name. reads_last name a b reads ∙ u.none name }

no_lives : (lives : Lives) → lives ≡ fin.empty → FitLives lives
no_lives lives e id = subst (λ o. IfSome o (FitsLife id)) (sym (lives_get lives id e)) tt

pub fresh_record : (state : PlainState) → state.least ≡ 2 → length state.fs_id ≡ 16 → length state.key_salt ≡ 32 → length state.key_digest ≡ 32 → state.client ≡ 1 → state.lives ≡ fin.empty → HasRecord state []
fresh_record state l f s d c m = record {
  state = record {
    head = record { fs_id = f; key_salt = s; key_digest = d; client = omega (arith, c) };
    least = record { from_one = omega (arith, l); to_two = omega (arith, l) };
    client = omega (arith, c);
    lives = no_lives state.lives m;
    count = let z : fin.len state.lives ≡ 0 = ap fin.len m ∙ len-empty (slice_cmp nat_cmp) Life in omega (arith, z);
  };
  entries = record { each = tt; order = tt; count = omega arith };
}
