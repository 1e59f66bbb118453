-- Rows of a folder, one after the other.
use Rattle.std.proofs.Common.{◌≡◌, ◌≢◌, ℕ, Bool, true, false, cond, List, [], ◌∷◌, ◌++◌, refl, sym, ◌∙◌, ap, subst}
use Rattle.std.specs.Prelude.{Option, Some, None, is_some, T, reverse}
use Rattle.std.specs.FinMap.{find, get, entries, get-entries, entries_sorted}
use Rattle.std.specs.FinMap.Entries.{is_sorted, below_all}
use Rattle.std.specs.Cmp.{tied_itself}
use Rattle.std.specs.Ordering.{is_eq}
use Rattle.std.specs.declared.cmp.Ordering.{Ordering}
use Rattle.std.specs.declared.cmp.Ordering.TheVariants.{Less, Equal, Greater}
use Rattle.std.proofs.lemmas.List.{append_cancel_left, reverse-reverse}
use Rattle.std.proofs.lemmas.Option.{same_Some}
use Rattle.block_id.proofs.Conditions.{left, right}
use Rattle.fs_model.specs.declared.attr.Kind.{Kind}
use Rattle.fs_model.specs.declared.attr.Kind.TheVariants.{Directory, File, Link}
use Rattle.fs_model.specs.declared.command.Command.{Command}
use Rattle.fs_model.specs.Instant.{Instant}
use Rattle.fs_model.specs.Tree.{Path, Tree, path_cmp, upward}
use Rattle.fs_model.proofs.TreeLemmas.{path_total, path_exact}
use Rattle.store_api.proofs.Rising.{not_below}
use Rattle.host_folder.specs.Folders.{HostPath, HostRow, HostTree}
use Rattle.copy_laws.specs.Importing.{AllDone, commands_for, commands_in, plain_of, Merged, ImportMerges}
use Rattle.copy_laws.proofs.Steps.{Sets, row_sets, bytes_by}

done_parts : (now : Instant) (cs ds : List Command) (t last : Tree) → AllDone t now (cs ++ ds) last → (mid : Tree) × (AllDone t now cs mid × AllDone mid now ds last)
done_parts now [] ds t last h = (t, (refl, h))
done_parts now (c ∷ cs) ds t last (mid, (h, rest)) = let parts = done_parts now cs ds mid last rest in (parts.0, ((mid, (h, parts.1.0)), parts.1.1))

pub upward_is : (q a b : HostPath) → upward (q ++ a) ≡ upward (q ++ b) → a ≡ b
upward_is q a b e = append_cancel_left q a b (sym (reverse-reverse (q ++ a)) ∙ (ap reverse e ∙ reverse-reverse (q ++ b)))

-- a directory's row has no bytes
abbrev pub IsHostRow : HostRow → Type 0
IsHostRow row = bytes_by row.kind row.bytes ≡ row.bytes

record MergedBy (old new : Tree) (q : HostPath) (es : List (HostPath × HostRow)) : Type 0 where
  each : (n : List ℕ) (r : HostPath) (row : HostRow) → find path_cmp (n ∷ r) es ≡ Some row → IsHostRow row → plain_of (get new (upward (q ++ n ∷ r))) ≡ Some row
  rest : (p : Path) → ((n : List ℕ) (r : HostPath) → is_some (find path_cmp (n ∷ r) es) ≡ true → p ≢ upward (q ++ n ∷ r)) → plain_of (get new p) ≡ plain_of (get old p)

some_either : (b : Bool) (x : HostRow) (o : Option HostRow) → is_some o ≡ true → is_some (cond b (Some x) o) ≡ true
some_either true x o h = refl
some_either false x o h = h

some_here : (r : Ordering) (x : HostRow) (o : Option HostRow) → r ≡ Equal → is_some (cond (is_eq r) (Some x) o) ≡ true
some_here r x o e = ap (λ z. is_some (cond (is_eq z) (Some x) o)) e

merged_in : (now : Instant) (q : HostPath) (es : List (HostPath × HostRow)) (old new : Tree) → T (is_sorted path_cmp es) → AllDone old now (commands_in q es) new → MergedBy old new q es
merged_in now q [] old new sorted h = record { each = λ n r row e. absurd (cc); rest = λ p none. ap (λ t. plain_of (get t p)) h }
merged_in now q (([], x) ∷ es) old new sorted h =
    let m = merged_in now q es old new (right (below_all path_cmp [] es) (is_sorted path_cmp es) sorted) h in
    record { each = λ n r row e. m.each n r row e; rest = λ p none. m.rest p none }
merged_in now q ((k ∷ s, x) ∷ es) old new sorted h =
    let parts = done_parts now (commands_for (q ++ k ∷ s) x.kind x.bytes) (commands_in q es) old new h in
    let mid = parts.0 in
    let set = row_sets now (q ++ k ∷ s) x.kind x.bytes old mid parts.1.0 in
    let m = merged_in now q es mid new (right (below_all path_cmp (k ∷ s) es) (is_sorted path_cmp es) sorted) parts.1.1 in
    let below : T (below_all path_cmp (k ∷ s) es) = left (below_all path_cmp (k ∷ s) es) (is_sorted path_cmp es) sorted in
    let absent : find path_cmp (k ∷ s) es ≡ None = not_below path_total (k ∷ s) (k ∷ s) es (tied_itself path_total (k ∷ s)) below in
    let stays : plain_of (get new (upward (q ++ k ∷ s))) ≡ plain_of (get mid (upward (q ++ k ∷ s))) =
    m.rest (upward (q ++ k ∷ s)) (λ n r some e. by_none (n ∷ r) (k ∷ s) es absent some (sym (upward_is q (k ∷ s) (n ∷ r) e))) in
    record {
      each = λ n r row e fits. each_of n r row (path_cmp (n ∷ r) (k ∷ s)) refl e fits stays set (λ n r row e fits. m.each n r row e fits);
      rest = λ p none.
          m.rest p (λ n r some. none n r (some_either (is_eq (path_cmp (n ∷ r) (k ∷ s))) x (find path_cmp (n ∷ r) es) some))
          ∙ set.others p (none k s (some_here (path_cmp (k ∷ s) (k ∷ s)) x (find path_cmp (k ∷ s) es) (tied_itself path_total (k ∷ s))));
    }
  where
    by_none : (a b : HostPath) (es : List (HostPath × HostRow)) → find path_cmp b es ≡ None → is_some (find path_cmp a es) ≡ true → a ≡ b → ⊥
    by_none a b es none some e = let bad : true ≡ false = sym some ∙ (ap (λ z. is_some (find path_cmp z es)) e ∙ ap is_some none) in cc

    row_is : (mid : Tree) (p : Path) (set : Sets old mid p x.kind (bytes_by x.kind x.bytes)) → IsHostRow x → plain_of (get mid p) ≡ Some x
    row_is mid p set fits =
        ap plain_of set.here ∙ (ap (λ z. Some (record { kind = z; bytes = set.row.bytes })) set.of_kind
        ∙ ap (λ b. Some (record { kind = x.kind; bytes = b })) (set.holds ∙ fits))

    each_of : {mid : Tree} (n : List ℕ) (r : HostPath) (row : HostRow) (o : Ordering) → path_cmp (n ∷ r) (k ∷ s) ≡ o → cond (is_eq (path_cmp (n ∷ r) (k ∷ s))) (Some x) (find path_cmp (n ∷ r) es) ≡ Some row → IsHostRow row
        → plain_of (get new (upward (q ++ k ∷ s))) ≡ plain_of (get mid (upward (q ++ k ∷ s))) → Sets old mid (upward (q ++ k ∷ s)) x.kind (bytes_by x.kind x.bytes)
        → ((n : List ℕ) (r : HostPath) (row : HostRow) → find path_cmp (n ∷ r) es ≡ Some row → IsHostRow row → plain_of (get new (upward (q ++ n ∷ r))) ≡ Some row) → plain_of (get new (upward (q ++ n ∷ r))) ≡ Some row
    each_of {mid = mid} n r row Less c e fits stays set later = later n r row (subst (λ z. cond (is_eq z) (Some x) (find path_cmp (n ∷ r) es) ≡ Some row) c e) fits
    each_of {mid = mid} n r row Greater c e fits stays set later = later n r row (subst (λ z. cond (is_eq z) (Some x) (find path_cmp (n ∷ r) es) ≡ Some row) c e) fits
    each_of {mid = mid} n r row Equal c e fits stays set later =
        let same : x ≡ row = same_Some _ _ (subst (λ z. cond (is_eq z) (Some x) (find path_cmp (n ∷ r) es) ≡ Some row) c e) in
        let here : n ∷ r ≡ k ∷ s = path_exact (n ∷ r) (k ∷ s) c in
        ap (λ z. plain_of (get new (upward (q ++ z)))) here ∙ (stays ∙ (row_is mid (upward (q ++ k ∷ s)) set (subst IsHostRow (sym same) fits) ∙ ap Some same))

host_row : (kind : Kind) (bytes : List ℕ) → (kind ≡ Directory → bytes ≡ []) → bytes_by kind bytes ≡ bytes
host_row Directory bytes none = sym (none refl)
host_row File bytes none = refl
host_row Link bytes none = refl

merges_by : (t : HostTree) (q : HostPath) (now : Instant) (old new : Tree) → ((r : HostPath) (row : HostRow) → get t r ≡ Some row → IsHostRow row) → AllDone old now (commands_in q (entries t)) new → Merged old new q t
merges_by t q now old new fits h =
    let m = merged_in now q (entries t) old new (entries_sorted t) h in
    record {
      each = λ n r row e. m.each n r row (sym (get-entries t (n ∷ r)) ∙ e) (fits (n ∷ r) row e);
      rest = λ p none. m.rest p (λ n r some. none n r (ap is_some (get-entries t (n ∷ r)) ∙ some));
    }

pub merges : ImportMerges
merges t q now old new plain h = merges_by t q now old new (λ r row e. host_row row.kind row.bytes (plain r row e)) h
