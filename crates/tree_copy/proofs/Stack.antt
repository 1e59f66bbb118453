-- The directories that a copy is in, one more and one less.
use Rattle.std.proofs.Common.{◌≡◌, inl, inr, ℕ, zero, suc, ◌+◌, ◌<◌, ◌≤◌, List, [], ◌∷◌, ◌++◌, length, map, drop, get_or, refl, sym, ◌∙◌, ap, arith, append-nil, append_assoc}
use Rattle.std.specs.Prelude.{IfSome, Some, None}
use Rattle.std.specs.FinMap.{get, find}
use Rattle.std.specs.declared.option.Option.{Option}
use Rattle.fs_model.specs.declared.reply.ListRow.{ListRow}
use Rattle.fs_model.specs.Tree.{name_cmp}
use Rattle.copy_row.specs.host_folder.Folders.{HostPath, HostTree, AreRowsOf, row_pair, kind_in}
use Rattle.copy_row.specs.copy_laws.Walks.{todo_in}
use Rattle.copy_row.specs.declared.place.RowPlace.{RowPlace}
use Rattle.tree_copy.specs.declared.levels.Level.{Level}
use Rattle.tree_copy.specs.Levels.{left_of, todo_of, HasTargets, IsDeeper, IsStep, IsTaken}

pub todo_push : (ls : List Level) (l : Level) → todo_of (ls ++ l ∷ []) ≡ todo_in l.host (left_of l) ++ todo_of ls
todo_push [] l = sym (append-nil (todo_in l.host (left_of l)))
todo_push (m ∷ ls) l =
    ap (λ z. z ++ todo_in m.host (left_of m)) (todo_push ls l) ∙ append_assoc (todo_in l.host (left_of l)) (todo_of ls) (todo_in m.host (left_of m))

pub targets_push : (q : HostPath) (ls : List Level) (l : Level) → HasTargets q ls → l.tree ≡ q ++ l.host → HasTargets q (ls ++ l ∷ [])
targets_push q [] l h e = (e, tt)
targets_push q (m ∷ ls) l h e = (h.0, targets_push q ls l h.1 e)

pub targets_front : (q : HostPath) (ls : List Level) (l : Level) → HasTargets q (ls ++ l ∷ []) → HasTargets q ls
targets_front q [] l h = tt
targets_front q (m ∷ ls) l h = (h.0, targets_front q ls l h.1)

pub targets_last : (q : HostPath) (ls : List Level) (l : Level) → HasTargets q (ls ++ l ∷ []) → l.tree ≡ q ++ l.host
targets_last q [] l h = h.0
targets_last q (m ∷ ls) l h = targets_last q ls l h.1

-- a level without rows adds nothing
pub todo_spent : (ls : List Level) (l : Level) → left_of l ≡ [] → todo_of (ls ++ l ∷ []) ≡ todo_of ls
todo_spent ls l e = todo_push ls l ∙ ap (λ z. todo_in l.host z ++ todo_of ls) e

pub todo_taken : (ls : List Level) (old new : Level) (at : RowPlace) → IsTaken old new at → todo_of (ls ++ old ∷ []) ≡ (at.host, at.kind) ∷ todo_of (ls ++ new ∷ [])
todo_taken ls old new at k =
    todo_push ls old
    ∙ (ap (λ z. todo_in old.host z ++ todo_of ls) k.left
    ∙ (ap (λ p. (p, at.kind) ∷ (todo_in old.host (left_of new) ++ todo_of ls)) (sym k.at_host)
    ∙ (ap (λ h. (at.host, at.kind) ∷ (todo_in h (left_of new) ++ todo_of ls)) (sym k.host)
    ∙ ap (λ z. (at.host, at.kind) ∷ z) (sym (todo_push ls new)))))

-- the row that is taken is below the target where its directory is
pub taken_to : (q : HostPath) (old new : Level) (at : RowPlace) → IsTaken old new at → old.tree ≡ q ++ old.host → at.tree ≡ q ++ at.host
taken_to q old new at k e = k.at_tree ∙ (ap (λ z. z ++ k.name ∷ []) e ∙ (append_assoc q old.host (k.name ∷ []) ∙ ap (λ z. q ++ z) (sym k.at_host)))

pub taken_target : (q : HostPath) (old new : Level) (at : RowPlace) → IsTaken old new at → old.tree ≡ q ++ old.host → new.tree ≡ q ++ new.host
taken_target q old new at k e = k.tree ∙ (e ∙ ap (λ z. q ++ z) (sym k.host))

-- the row at this place is the first that is left
pub left_some : (rows : List ListRow) (i : ℕ) (row : ListRow) → i < length rows → row ≡ get_or rows i row → drop i (map row_pair rows) ≡ row_pair row ∷ drop (i + 1) (map row_pair rows)
left_some [] i row h e = absurd (omega arith)
left_some (x ∷ rows) zero row h e = ap (λ z. row_pair z ∷ map row_pair rows) (sym e)
left_some (x ∷ rows) (suc i) row h e =
    let less : i < length rows = omega arith in
    let next : suc i + 1 ≡ suc (i + 1) = omega arith in
    left_some rows i row less e ∙ ap (λ k. row_pair row ∷ drop k (row_pair x ∷ map row_pair rows)) (sym next)

pub left_none : (rows : List ListRow) (i : ℕ) → length rows ≤ i → drop i (map row_pair rows) ≡ []
left_none [] zero h = refl
left_none [] (suc i) h = refl
left_none (x ∷ rows) zero h = absurd (omega arith)
left_none (x ∷ rows) (suc i) h = let less : length rows ≤ i = omega arith in left_none rows i less

-- a listed directory's children
pub rows_told : (told : Option HostTree) (p : HostPath) (rows : List ListRow) → IfSome told (λ t. AreRowsOf t p rows) → IfSome told (λ t. (n : List ℕ) → find name_cmp n (map row_pair rows) ≡ kind_in (get t (p ++ n ∷ [])))
rows_told None p rows h = tt
rows_told (Some t) p rows h = λ n. h.each n

-- a row was taken, and the levels are as before or one more
pub step_on : (ls was pushed now : List Level) (old new : Level) (at : RowPlace) → was ≡ ls ++ old ∷ [] → pushed ≡ ls ++ new ∷ [] → IsTaken old new at → IsDeeper at.host pushed now → IsStep was now
step_on ls was pushed now old new at from to k deeper = by deeper
  where
    taken : todo_of was ≡ (at.host, at.kind) ∷ todo_of pushed
    taken = ap todo_of from ∙ (todo_taken ls old new at k ∙ ap (λ z. (at.host, at.kind) ∷ todo_of z) (sym to))

    by : IsDeeper at.host pushed now → IsStep was now
    by (inl same) = record { path = at.host; kind = at.kind; kids = []; rest = todo_of pushed; was = taken; is = ap todo_of same }
    by (inr (l, (is, of))) = record {
      path = at.host;
      kind = at.kind;
      kids = left_of l;
      rest = todo_of pushed;
      was = taken;
      is = ap todo_of is ∙ (todo_push pushed l ∙ ap (λ h. todo_in h (left_of l) ++ todo_of pushed) of);
    }
