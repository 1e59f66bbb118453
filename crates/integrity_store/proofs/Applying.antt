-- What a batch that fits makes of a store: which lives it may change, what it may seal, and what it applies.
use Rattle.std.proofs.Common.{◌≡◌, ◌≢◌, ℕ, ◌-◌, List, true, false, length, refl, sym, ◌∙◌, ap, subst, inl, inr, arith}
use Rattle.std.specs.Prelude.{T, Option, Some, None, IfSome, is_some, not, ◌&&◌, map, if◌then◌else◌}
use Rattle.std.specs.List.{AllByRecursion}
use Rattle.std.specs.Option.{option_or, option_map_or}
use Rattle.std.specs.FinMap as fin
use Rattle.std.specs.FinMap.{is_sorted, entries_sorted, get-entries, get-empty}
use Rattle.std.specs.FinMap.Entries.{find}
use Rattle.rand_core.specs.Stream.{Stream}
use Rattle.block_id.specs.Fresh.{zero_id}
use Rattle.outside.specs.Trace.{At, config, block, Call}
use Rattle.outside.specs.Names.{at_cmp}
use Rattle.outside.specs.Changes.{change_at, set_changes}
use Rattle.outside.specs.ChangeLaws.{change_at-set_changes}
use Rattle.block_versions.specs.local_state.declared.life.Life.{Life}
use Rattle.block_versions.specs.local_state.Known.{Lives, FitsLife, is_live_in, version_if_live, is_last}
use Rattle.store_api.specs.Content.{Id, id_cmp, same_id, Changes}
use Rattle.store_api.specs.Holdings.{FitsStore}
use Rattle.store_api.proofs.Rising.{ids_total}
use Rattle.block_versions.specs.BlockRecords.{payload_in}
use Rattle.integrity_store.specs.Applied.{life_after, WaitsAfter, Applied}
use Rattle.integrity_store.specs.Draws.{AreDrawn, given_in, iv_of, draws}
use Rattle.block_versions.specs.Held.{Held, where_live, waiting, wanted, file_of, told_or_none}
use Rattle.integrity_store.specs.Raising.{BatchEntry, MayRaise, MayCome, lives_after_each, MayComeEach, some_spent_in}
use Rattle.integrity_store.specs.Sealing.{MaySeal, AreMadeOf, IsListed}
use Rattle.block_versions.specs.Stores.{IsWhole, holdings_by}
use Rattle.block_versions.specs.StoreLaws.{has-keys}
use Rattle.integrity_store.proofs.Lives.{get-lives_after_each, may_come_each, not_spent}
use Rattle.integrity_store.proofs.Sorted.{all_by, each_found}
use Rattle.integrity_store.proofs.Waiting.{MadeAt, made_rises, made_at, none_of_config, drawn, true_of}

-- ---- before a batch

life_of_live : (life : Option Life) (payload : List ℕ) → is_some (where_live (version_if_live life) payload) ≡ true → option_map_or (λ m. m.live) life false ≡ true
life_of_live None payload e = absurd (cc)
life_of_live (Some life) payload e =
    elim life.live as (λ b. is_some (where_live (if b then Some life.version else None) payload) ≡ true → b ≡ true) [ true ↦ λ h. refl | false ↦ λ h. absurd (cc) ] e

-- an id of the content lives
content_lives : (a : Held) (trace : Option (List Call)) (id : Id) → is_some (wanted a trace id) ≡ true → is_live_in a.state.lives id ≡ true
content_lives a trace id there = life_of_live (fin.get a.state.lives id) (payload_in a.opens a.size id (file_of a (told_or_none trace) id)) there

raise_live : (id : Id) (life : Option Life) → IfSome life (FitsLife id) → option_map_or (λ m. m.live) life false ≡ true → is_last life ≡ false → MayRaise id life
raise_live id None fits live below = absurd (cc)
raise_live id (Some life) fits live below = record { not_zero = fits.not_zero; not_dead = live; not_last = below }

not_zero : (id : Id) → not (same_id id zero_id) ≡ true → id ≢ zero_id
not_zero id free zero = let bad : not (same_id zero_id zero_id) ≡ true = subst (λ x. not (same_id x zero_id) ≡ true) zero free in absurd (cc)

raise_new : (id : Id) (life : Option Life) → (not (is_some life) && not (same_id id zero_id)) ≡ true → MayRaise id life
raise_new id None free = record { not_zero = not_zero id free; not_dead = tt; not_last = refl }
raise_new id (Some life) free = absurd (cc)

module _ {S : Type 0} (held : S → Held) (trace : S → Option (List Call)) (s : S) (changes : Changes) (es : List BatchEntry) (are : es ≡ fin.entries changes)
    (whole : IsWhole (held s)) (fits : FitsStore (holdings_by held trace) s changes) (none_spent : some_spent_in (held s).state.lives es ≡ false) where
  abbrev lives : Lives
  lives = (held s).state.lives

  rises : T (is_sorted id_cmp es)
  rises = subst (λ xs. T (is_sorted id_cmp xs)) (sym are) (entries_sorted changes)

  said : (id : Id) (change : Option (List ℕ)) → find id_cmp id es ≡ Some change → fin.get changes id ≡ Some change
  said id change found = get-entries changes id ∙ (ap (find id_cmp id) (sym are) ∙ found)

  may_raise : (id : Id) (payload : List ℕ) → find id_cmp id es ≡ Some (Some payload) → MayRaise id (fin.get lives id)
  may_raise id payload found = elim (fits.gets id payload (said id (Some payload) found)) [
    | inl there ↦ raise_live id (fin.get lives id) (whole.has_record.state.lives id) (content_lives (held s) (trace s) id there) (not_spent es lives id payload none_spent found)
    | inr free ↦ raise_new id (fin.get lives id) (ap (λ used. not used && not (same_id id zero_id)) (sym (has-keys (held s) id)) ∙ free)
  ]

  pub may_come : (id : Id) (change : Option (List ℕ)) → find id_cmp id es ≡ Some change → MayCome id change (fin.get lives id)
  may_come id (Some payload) found = may_raise id payload found
  may_come id None found = content_lives (held s) (trace s) id (fits.removes id (said id None found))

  pub may_come_batch : MayComeEach lives es
  may_come_batch = may_come_each es lives rises may_come

  may_seal_one : (e : BatchEntry) → find id_cmp e.0 es ≡ Some e.1 → MaySeal (held s) e
  may_seal_one (id, Some payload) found =
      let sized : length payload ≡ (held s).size - 78 = fits.sized id payload (said id (Some payload) found) in
      record { sized = omega (arith, sized, whole.least); not_last = not_spent es lives id payload none_spent found }
  may_seal_one (id, None) found = tt

  pub may_seal_batch : AllByRecursion (MaySeal (held s)) es
  may_seal_batch = all_by (λ e. find id_cmp e.0 es ≡ Some e.1) (MaySeal (held s)) es may_seal_one (each_found ids_total es rises)

-- ---- after it, or where it wasn't made

-- what is held, and no call, is no changes
pub applied_nothing : (a b : Held) (old new : Option (List Call)) → b ≡ a → new ≡ old → Applied a b old new fin.empty
applied_nothing a b old new same trace = record {
  trace = trace;
  size = ap (λ h. h.size) same;
  opens = ap (λ h. h.opens) same;
  state = ap (λ h. h.state) same ∙ ap (λ m. record a.state { lives = m }) (sym (ap (λ h. h.state.lives) same));
  lives = λ id. ap (λ h. fin.get h.state.lives id) same ∙ ap (λ o. life_after o (fin.get a.state.lives id)) (sym (get-empty id_cmp id));
  waits = λ id. subst (λ o. WaitsAfter a b id o) (sym (get-empty id_cmp id)) (ap (λ h. waiting h id) same);
  config = ap (λ h. change_at config h.list) same;
}

-- the files that were made of the entries wait, and their ids are marked
pub record Made (a b : Held) (es : List BatchEntry) (stream left : Stream) : Type 0 where
  pub changes : List (At × Option (List ℕ))
  pub made : AreMadeOf a es stream changes left
  pub held : b ≡ record a { list = set_changes changes a.list; state = record a.state { lives = lives_after_each a.state.lives es } }

pub made_of : (a m : Held) (known : Lives) (es : List BatchEntry) (stream left : Stream) → IsListed a m es stream left → known ≡ lives_after_each m.state.lives es
    → Made a (record m { state = record m.state { lives = known } }) es stream left
made_of a m known es stream left lists marked =
    let with_lives : Lives → Held = λ x. record m { state = record m.state { lives = x } } in
    let with_batch : Held → Held = λ h. record h { state = record h.state { lives = lives_after_each h.state.lives es } } in
    record { changes = lists.changes; made = lists.made; held = ap with_lives marked ∙ ap with_batch lists.held }

waits_after : (a : Held) (known : Lives) (list : List (At × Option (List ℕ))) (id : Id) (said made : Option (Option (List ℕ))) → change_at (block id) list ≡ option_or made (change_at (block id) a.list)
    → MadeAt a id said made → WaitsAfter a (record a { list = list; state = record a.state { lives = known } }) id said
waits_after a known list id None made is at = is ∙ ap (λ o. option_or o (change_at (block id) a.list)) at
waits_after a known list id (Some None) made is at = is ∙ ap (λ o. option_or o (change_at (block id) a.list)) at
waits_after a known list id (Some (Some payload)) made is at = (at.0, is ∙ ap (λ o. option_or o (change_at (block id) a.list)) at.1, record { opens = at.2.opens; format = at.2.format })

module _ (a b : Held) (trace : Option (List Call)) (changes : Changes) (es : List BatchEntry) (stream left : Stream) (are : es ≡ fin.entries changes) (made : Made a b es stream left) where
  in_order : T (is_sorted id_cmp es)
  in_order = subst (λ xs. T (is_sorted id_cmp xs)) (sym are) (entries_sorted changes)

  listed_in_order : T (is_sorted at_cmp made.changes)
  listed_in_order = made_rises a es stream left made.changes in_order made.made

  found_said : (id : Id) → find id_cmp id es ≡ fin.get changes id
  found_said id = ap (find id_cmp id) are ∙ sym (get-entries changes id)

  set_at : (name : At) → change_at name (set_changes made.changes a.list) ≡ option_or (change_at name made.changes) (change_at name a.list)
  set_at name = change_at-set_changes name made.changes a.list (true_of (is_sorted at_cmp made.changes) listed_in_order)

  pub applied : Applied a b trace trace changes
  applied = record {
    trace = refl;
    size = ap (λ h. h.size) made.held;
    opens = ap (λ h. h.opens) made.held;
    state = ap (λ h. h.state) made.held ∙ ap (λ m. record a.state { lives = m }) (sym (ap (λ h. h.state.lives) made.held));
    lives = λ id. ap (λ h. fin.get h.state.lives id) made.held ∙ (get-lives_after_each es a.state.lives id in_order ∙ ap (λ o. life_after o (fin.get a.state.lives id)) (found_said id));
    waits = λ id. subst (λ h. WaitsAfter a h id (fin.get changes id)) (sym made.held)
        (waits_after a (lives_after_each a.state.lives es) (set_changes made.changes a.list) id (fin.get changes id) (change_at (block id) made.changes) (set_at (block id))
        (subst (λ o. MadeAt a id o (change_at (block id) made.changes)) (found_said id) (made_at a es stream left made.changes id made.made)));
    config = ap (λ h. change_at config h.list) made.held
        ∙ (set_at config ∙ ap (λ o. option_or o (change_at config a.list)) (none_of_config a es stream left made.changes made.made));
  }

  pub drawn_batch : AreDrawn changes b.list stream left
  drawn_batch =
      let list = set_changes made.changes a.list in
      subst (λ xs. AreDrawn changes xs stream left) (sym (ap (λ h. h.list) made.held))
      (subst (λ xs. (map (λ id. iv_of (change_at (block id) list)) (given_in xs), left) ≡ draws (length (given_in xs)) stream) are (drawn a es stream left made.changes a.list in_order made.made))
