-- The program's map of others' versions and the finite map that it stands for answer alike.
use Rattle.std.proofs.Common.{◌≡◌, ℕ, cond, List, [], ◌∷◌, map, Some, refl, sym, ap, ◌∙◌}
use Rattle.std.specs.Prelude.{◌==◌}
use Rattle.std.specs.Str.{bytes_eq}
use Rattle.std.specs.FinMap as fin
use Rattle.std.specs.FinMap.{get-from_entries, get-insert, same_map}
use Rattle.std.specs.FinMap.Entries.{find}
use Rattle.std.specs.Ordering.{nat_cmp, eq_by_cmp}
use Rattle.std.specs.Cmp.{both_tied, unsigned_ties, eq_by_cmp_equiv}
use Rattle.std.specs.Cmp.Lexicographic.{slice_cmp, texts_ties}
use Rattle.std.specs.Map.{lookup}
use Rattle.clients_core.specs.declared.others.Author.{Author}
use Rattle.clients_core.specs.Others.{key_cmp, plain_key, plain_entry, others_of, same_author}
use Rattle.clients_core.proofs.Keys.{key_total, key_antisymmetric}

pub ties : (a b : Author) → same_author a b ≡ eq_by_cmp key_cmp (plain_key a) (plain_key b)
ties a b = both_tied (bytes_eq a.id.0 b.id.0) (a.client == b.client) (slice_cmp nat_cmp a.id.0 b.id.0) (nat_cmp a.client b.client) (texts_ties a.id.0 b.id.0) (unsigned_ties a.client b.client)

pub find-plain : (q : Author) (es : List (Author × ℕ)) → find key_cmp (plain_key q) (map plain_entry es) ≡ lookup (same_author q) es
find-plain q [] = refl
find-plain q (e ∷ es) =
    ap (λ b. cond b (Some e.1) (find key_cmp (plain_key q) (map plain_entry es))) (sym (ties q e.0)) ∙ ap (cond (same_author q e.0) (Some e.1)) (find-plain q es)

pub get-others_of : (q : Author) (es : List (Author × ℕ)) → fin.get (others_of es) (plain_key q) ≡ lookup (same_author q) es
get-others_of q es = get-from_entries key_total (map plain_entry es) (plain_key q) ∙ find-plain q es

-- of two maps, one answers as the other does with one key changed
pub others_of-insert : (a : Author) (version : ℕ) (es fs : List (Author × ℕ)) → ((q : Author) → lookup (same_author q) fs ≡ cond (same_author a q) (Some version) (lookup (same_author q) es))
    → others_of fs ≡ fin.insert (others_of es) (plain_key a) version
others_of-insert a version es fs is =
    same_map key_total key_antisymmetric _ _
    (λ q. let k : Author = record { id = record { 0 = q.0 }; client = q.1 } in
    let same : same_author a k ≡ eq_by_cmp key_cmp q (plain_key a) = ties a k ∙ (eq_by_cmp_equiv key_total).symm (plain_key a) q in
    get-others_of k fs ∙ is k ∙ ap (λ b. cond b (Some version) (lookup (same_author k) es)) same
    ∙ ap (cond (eq_by_cmp key_cmp q (plain_key a)) (Some version)) (sym (get-others_of k es))
    ∙ sym (get-insert key_total (others_of es) (plain_key a) version q))

pub others_of-same : (es fs : List (Author × ℕ)) → ((q : Author) → lookup (same_author q) fs ≡ lookup (same_author q) es) → others_of fs ≡ others_of es
others_of-same es fs is =
    same_map key_total key_antisymmetric _ _
    (λ q. let k : Author = record { id = record { 0 = q.0 }; client = q.1 } in get-others_of k fs ∙ is k ∙ sym (get-others_of k es))
