-- The program's map and the finite map that it stands for answer alike.
use Rattle.std.proofs.Common.{◌≡◌, ℕ, ◌+◌, false, cond, List, [], ◌∷◌, map, length, Some, None, refl, sym, ap, ◌∙◌, add-one}
use Rattle.std.specs.Prelude.{nat_eq, is_some}
use Rattle.std.specs.FinMap as fin
use Rattle.std.specs.FinMap.{get-from_entries, get-insert, len-empty, len-insert, same_map, slice_cmp-IsAntisymmetric, nat_cmp-IsAntisymmetric}
use Rattle.std.specs.FinMap.Entries.{find}
use Rattle.std.specs.Ordering.{nat_cmp, eq_by_cmp}
use Rattle.std.specs.Cmp.Lexicographic.{slice_cmp, pointwise, texts_ties, nat_list_cmp_total, nat_list_eq_equiv}
use Rattle.std.specs.List.{IsDistinct, AllByRecursion}
use Rattle.std.specs.Map.{lookup, keys_of}
use Rattle.block_id.specs.declared.id.BlockId.{BlockId}
use Rattle.local_state.specs.declared.life.Life.{Life}
use Rattle.local_state.specs.Known.{Lives, plain_entry, lives_of, same_id}

pub find-plain : (q : BlockId) (es : List (BlockId × Life)) → find (slice_cmp nat_cmp) q.0 (map plain_entry es) ≡ lookup (same_id q) es
find-plain q [] = refl
find-plain q (e ∷ es) =
    ap (λ b. cond b (Some e.1) (find (slice_cmp nat_cmp) q.0 (map plain_entry es))) (sym (texts_ties q.0 e.0.0)) ∙ ap (cond (same_id q e.0) (Some e.1)) (find-plain q es)

pub get-lives_of : (q : BlockId) (es : List (BlockId × Life)) → fin.get (lives_of es) q.0 ≡ lookup (same_id q) es
get-lives_of q es = get-from_entries nat_list_cmp_total (map plain_entry es) q.0 ∙ find-plain q es

-- of two maps, one answers as the other does with one key changed
pub lives_of-insert : (id : BlockId) (life : Life) (es fs : List (BlockId × Life)) → ((q : BlockId) → lookup (same_id q) fs ≡ cond (same_id id q) (Some life) (lookup (same_id q) es))
    → lives_of fs ≡ fin.insert (lives_of es) id.0 life
lives_of-insert id life es fs is =
    same_map nat_list_cmp_total (slice_cmp-IsAntisymmetric nat_cmp-IsAntisymmetric) _ _
    (λ q. let k : BlockId = record { 0 = q } in
    let same : same_id id k ≡ eq_by_cmp (slice_cmp nat_cmp) q id.0 = nat_list_eq_equiv.symm id.0 q ∙ texts_ties q id.0 in
    get-lives_of k fs ∙ is k ∙ ap (λ b. cond b (Some life) (lookup (same_id k) es)) same
    ∙ ap (cond (eq_by_cmp (slice_cmp nat_cmp) q id.0) (Some life)) (sym (get-lives_of k es))
    ∙ sym (get-insert nat_list_cmp_total (lives_of es) id.0 life q))

pub lives_of-same : (es fs : List (BlockId × Life)) → ((q : BlockId) → lookup (same_id q) fs ≡ lookup (same_id q) es) → lives_of fs ≡ lives_of es
lives_of-same es fs is =
    same_map nat_list_cmp_total (slice_cmp-IsAntisymmetric nat_cmp-IsAntisymmetric) _ _
    (λ q. let k : BlockId = record { 0 = q } in get-lives_of k fs ∙ is k ∙ sym (get-lives_of k es))

none_there : (k : BlockId) (es : List (BlockId × Life)) → AllByRecursion (λ y. same_id k y ≡ false) (keys_of es) → lookup (same_id k) es ≡ None
none_there k [] h = refl
none_there k (e ∷ es) h = ap (λ b. cond b (Some e.1) (lookup (same_id k) es)) h.0 ∙ none_there k es h.1

-- as many ids as entries
pub len-lives_of : (es : List (BlockId × Life)) → IsDistinct same_id (keys_of es) → fin.len (lives_of es) ≡ length es
unfolding IsDistinct
len-lives_of [] h = len-empty (slice_cmp nat_cmp) Life
len-lives_of (e ∷ es) h =
    let absent : fin.get (lives_of es) e.0.0 ≡ None = get-lives_of e.0 es ∙ none_there e.0 es h.0 in
    len-insert nat_list_cmp_total (lives_of es) e.0.0 e.1 ∙ ap (λ o. cond (is_some o) (fin.len (lives_of es)) (fin.len (lives_of es) + 1)) absent
    ∙ ap (λ n. n + 1) (len-lives_of es h.1) ∙ add-one (length es)

-- a look-up after one life is set, with the test that `==` of ids answers
pub get-set : (lives : Lives) (id q : List ℕ) (life : Life) → fin.get (fin.insert lives id life) q ≡ cond (pointwise nat_eq id q) (Some life) (fin.get lives q)
get-set lives id q life =
    get-insert nat_list_cmp_total lives id life q ∙ ap (λ b. cond b (Some life) (fin.get lives q)) (sym (texts_ties q id) ∙ nat_list_eq_equiv.symm q id)
