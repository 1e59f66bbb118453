-- A batch leaves a state and a list that have a record.
use Rattle.std.proofs.Common.{◌≡◌, ℕ, ◌^◌, ◌<◌, ◌≤◌, List, [], ◌∷◌, Bool, true, false, length, refl, sym, ◌∙◌, ap, subst, arith}
use Rattle.std.specs.Prelude.{T, Option, Some, None, IfSome, is_some, not, ◌&&◌}
use Rattle.std.specs.Option.{option_map_or}
use Rattle.std.specs.FinMap as fin
use Rattle.std.specs.FinMap.{is_sorted}
use Rattle.std.specs.FinMap.Entries.{below_all}
use Rattle.std.specs.Ordering.{is_lt, nat_cmp}
use Rattle.std.specs.Cmp.Lexicographic.{slice_cmp}
use Rattle.outside.specs.Trace.{At, config, block, Call}
use Rattle.outside.specs.Names.{at_cmp}
use Rattle.outside.specs.NameLaws.{at_total, at_exact}
use Rattle.outside.specs.Changes.{change_at}
use Rattle.block_versions.specs.local_state.declared.life.Life.{Life}
use Rattle.block_versions.specs.local_state.Known.{Lives, FitsLife, FitLives}
use Rattle.block_versions.specs.local_state.Record.{FitsEntry, FitsHead, IsLeast, Rise, comes_after, may_change, has_bytes}
use Rattle.store_api.specs.Content.{Id, Changes}
use Rattle.block_id.proofs.Conditions.{left, right}
use Rattle.block_versions.specs.sealed_store.BlockFiles.{OpensAlike}
use Rattle.block_versions.specs.BlockRecords.{Record, opened}
use Rattle.block_versions.specs.RecordLaws.{opens-length, opened-plain}
use Rattle.integrity_store.specs.Applied.{life_after, WaitsAfter, Applied}
use Rattle.block_versions.specs.Held.{Held, waiting}
use Rattle.integrity_store.specs.Raising.{MayCome}
use Rattle.block_versions.specs.Stores.{IsWhole, IsNoBlock}
use Rattle.integrity_store.proofs.Sorted.{all_by, each_found, of_found}
use Rattle.integrity_store.proofs.Waiting.{true_of}

-- ---- the order of a list

comes : (a b : At) → T (is_lt (at_cmp a b)) → comes_after (Some a) b ≡ true
comes config config h = absurd h
comes config (block b) h = refl
comes (block a) config h = absurd h
comes (block a) (block b) h = true_of (is_lt (slice_cmp nat_cmp a b)) h

rise_after : (name : At) (list : List (At × Option (List ℕ))) → T (below_all at_cmp name list) → T (is_sorted at_cmp list) → Rise (Some name) list
rise_after name [] below rises = tt
rise_after name (e ∷ es) below rises = (
  comes name e.0 (left (is_lt (at_cmp name e.0)) (below_all at_cmp name es) below),
  rise_after e.0 es (left (below_all at_cmp e.0 es) (is_sorted at_cmp es) rises) (right (below_all at_cmp e.0 es) (is_sorted at_cmp es) rises),
)

rise : (list : List (At × Option (List ℕ))) → T (is_sorted at_cmp list) → Rise None list
rise [] rises = tt
rise (e ∷ es) rises = (refl, rise_after e.0 es (left (below_all at_cmp e.0 es) (is_sorted at_cmp es) rises) (right (below_all at_cmp e.0 es) (is_sorted at_cmp es) rises))

-- ---- what waits for one name

may_same : (old new : Lives) (id : Id) (puts : Bool) → fin.get new id ≡ fin.get old id → may_change new (block id) puts ≡ may_change old (block id) puts
may_same old new id true same = ap (λ o. option_map_or (λ m. m.live) o false) same
may_same old new id false same = ap (λ o. is_some o && not (option_map_or (λ m. m.live) o false)) same

dead_after : (life now : Option Life) → now ≡ life_after (Some None) life → option_map_or (λ m. m.live) life false ≡ true → (is_some now && not (option_map_or (λ m. m.live) now false)) ≡ true
dead_after None now is live = absurd (cc)
dead_after (Some life) now is live = ap (λ o. is_some o && not (option_map_or (λ m. m.live) o false)) is

used_if_live : (life : Option Life) → option_map_or (λ m. m.live) life false ≡ true → is_some life ≡ true
used_if_live None live = absurd (cc)
used_if_live (Some life) live = refl

long : (id : Id) (life : Option Life) → is_some life ≡ true → IfSome life (FitsLife id) → length id ≡ 16
long id None used fits = absurd (cc)
long id (Some life) used fits = fits.length

-- a file that opens to a record is short enough for a list
short : (opens : List ℕ → List ℕ → Option (List ℕ)) (size : ℕ) (id file : List ℕ) (r : Record) → size ≤ 1048576 → opened opens size id file ≡ Some r → length file < 2 ^ 32
short opens size id file r most is = let plain = opened-plain opens size id file r is in omega (arith, opens-length opens size id file plain.0 plain.1)

module _ (a b : Held) (old new : Option (List Call)) (changes : Changes) (x : Applied a b old new changes) (whole : IsWhole a)
    (may : (id : Id) (change : Option (List ℕ)) → fin.get changes id ≡ Some change → MayCome id change (fin.get a.state.lives id)) (fit : FitLives b.state.lives) where
  -- as nothing is said of it, a block's change fits as before
  fits_kept : (id : Id) (change : Option (List ℕ)) → fin.get b.state.lives id ≡ fin.get a.state.lives id → waiting a id ≡ Some change → FitsEntry b.state.lives (block id, change)
  fits_kept id change same waits =
      let before : FitsEntry a.state.lives (block id, change) = of_found at_total (FitsEntry a.state.lives) at_exact a.list (block id) change whole.has_record.entries.each waits in
      record { name = before.name; bytes = before.bytes; change = may_same a.state.lives b.state.lives id (has_bytes change) same ∙ before.change }

  fits_file : (id : Id) (payload file : List ℕ) (r : Record) (life : Life) → fin.get b.state.lives id ≡ Some life → life.live ≡ true → opened b.opens b.size id file ≡ Some r
      → FitsEntry b.state.lives (block id, Some file)
  fits_file id payload file r life is live opens = record {
    name = long id (fin.get b.state.lives id) (ap is_some is) (fit id);
    bytes = short b.opens b.size id file r (omega (arith, x.size, whole.most)) opens;
    change = ap (λ o. option_map_or (λ m. m.live) o false) is ∙ live;
  }

  fits_removal : (id : Id) → fin.get b.state.lives id ≡ life_after (Some None) (fin.get a.state.lives id) → option_map_or (λ m. m.live) (fin.get a.state.lives id) false ≡ true
      → FitsEntry b.state.lives (block id, None)
  fits_removal id is live = record {
    name = long id (fin.get a.state.lives id) (used_if_live (fin.get a.state.lives id) live) (whole.has_record.state.lives id);
    bytes = tt;
    change = dead_after (fin.get a.state.lives id) (fin.get b.state.lives id) is live;
  }

  fits_block : (id : Id) (change : Option (List ℕ)) (said : Option (Option (List ℕ))) → fin.get changes id ≡ said → WaitsAfter a b id said
      → fin.get b.state.lives id ≡ life_after said (fin.get a.state.lives id) → waiting b id ≡ Some change → FitsEntry b.state.lives (block id, change)
  fits_block id change None is waits marked there = fits_kept id change marked (sym waits ∙ there)
  fits_block id change (Some None) is waits marked there =
      let none : None ≡ change = cc in subst (λ c. FitsEntry b.state.lives (block id, c)) none (fits_removal id marked (may id None is))
  fits_block id change (Some (Some payload)) is waits marked there =
      let file : Some waits.0 ≡ change = cc (waits.1, there) in
      subst (λ c. FitsEntry b.state.lives (block id, c)) file (fits_file id payload waits.0 _ _ marked refl waits.2.opens)

  fits_name : (name : At) (change : Option (List ℕ)) → change_at name b.list ≡ Some change → FitsEntry b.state.lives (name, change)
  fits_name config change there =
      let before : FitsEntry a.state.lives (config, change) = of_found at_total (FitsEntry a.state.lives) at_exact a.list config change whole.has_record.entries.each (sym x.config ∙ there) in
      record { name = tt; bytes = before.bytes; change = before.change }
  fits_name (block id) change there = fits_block id change (fin.get changes id) refl (x.waits id) (x.lives id) there

  -- ---- the whole

  fits_head : FitsHead b.state
  fits_head =
      let head = whole.has_record.state.head in
      let same : FitsHead (record a.state { lives = b.state.lives }) = record { fs_id = head.fs_id; key_salt = head.key_salt; key_digest = head.key_digest; client = head.client } in
      subst FitsHead (sym x.state) same

  pub whole_after : fin.len b.state.lives < 2 ^ 64 → T (is_sorted at_cmp b.list) → length b.list < 2 ^ 64 → IsWhole b
  whole_after few rises count = record {
    least = omega (arith, x.size, whole.least);
    most = omega (arith, x.size, whole.most);
    has_record = record {
      state = record { head = fits_head; least = subst (λ s. IsLeast s.least) (sym x.state) whole.has_record.state.least; client = subst (λ s. 0 < s.client) (sym x.state) whole.has_record.state.client; lives = fit; count = few };
      entries = record {
        each = all_by (λ e. change_at e.0 b.list ≡ Some e.1) (FitsEntry b.state.lives) b.list (λ e there. fits_name e.0 e.1 there) (each_found at_total b.list rises);
        order = rise b.list rises;
        count = count;
      };
    };
    config = subst IsNoBlock (sym x.config) whole.config;
    alike = subst OpensAlike (sym x.opens) whole.alike;
  }
