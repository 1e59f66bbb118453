-- A directory in memory whose answers and files nobody replaced stays so, and is honest.
use Rattle.std.proofs.Common.{◌≡◌, inl, inr, ℕ, ◌+◌, Bool, true, false, not, ◌||◌, cond, List, [], ◌∷◌, ◌++◌, map, reverse, ◌≤◌, Err, refl, sym, ◌∙◌, ap, subst, arith}
use Rattle.std.specs.Prelude.{unwrap_or, option_and_then}
use Rattle.std.specs.Ordering.{is_eq, eq_by_cmp}
use Rattle.std.proofs.lemmas.Slice.Eq.{bytes_eq-Decides}
use Rattle.std.specs.declared.option.Option.{Option}
use Rattle.std.specs.declared.option.Option.TheVariants.{None, Some}
use Rattle.std.specs.FinMap.Entries.{find-put, find-where_key}
use Rattle.std.proofs.lemmas.List.{map-append, reverse-append}
use Rattle.memory_outside.specs.declared.event.Event.{Event}
use Rattle.std.specs.Prelude.{filter}
use Rattle.block_id.proofs.Orders.{eq_reverse}
use Rattle.outside.specs.declared.vault.GetFail.{GetFail}
use Rattle.outside.specs.declared.vault.GetFail.TheVariants.{Memory, Failed}
use Rattle.outside.specs.Causes.{GetHasCause, one_more}
use Rattle.outside.specs.declared.change.FileName.{FileName}
use Rattle.outside.specs.declared.change.Pending.{Pending}
use Rattle.outside.specs.View.{at_of, pending_of, list_of}
use Rattle.memory_outside.specs.View.{call_of}
use Rattle.outside.specs.Trace.{At, Call, got, put, removed}
use Rattle.outside.specs.Names.{same_at, at_cmp}
use Rattle.outside.specs.NameLaws.{same_ties, at_total, at_exact}
use Rattle.outside.specs.Changes.{FileChanges, change_at, set_change, cut}
use Rattle.outside.specs.Honest.{LastChange, last_change, same_answer, is_left, lies}
use Rattle.memory_outside.specs.Vaults.{VaultState, answer_at, file_at, given, without, after_get, after_change, after_failed_change, after_failed_list, IsLeftBy, IsUntampered}

flips : (a b : At) → same_at a b ≡ eq_by_cmp at_cmp b a
flips a b = same_ties a b ∙ ap is_eq (at_total.antisymm a b) ∙ eq_reverse (at_cmp b a)

chosen : (b : Bool) (x : Option (List ℕ)) (o : Option (Option (List ℕ))) → option_and_then (λ (c : Option (List ℕ)). c) (cond b (Some x) o) ≡ cond b x (option_and_then (λ c. c) o)
chosen true x o = refl
chosen false x o = refl

kept : (b : Bool) (o : Option (Option (List ℕ))) → option_and_then (λ (c : Option (List ℕ)). c) (cond (not b) o None) ≡ cond b None (option_and_then (λ c. c) o)
kept true o = refl
kept false o = refl

file_at-set : (n m : At) (change : Option (List ℕ)) (files : FileChanges) → file_at m (set_change n change files) ≡ cond (same_at n m) change (file_at m files)
file_at-set n m change files =
    ap (option_and_then (λ c. c)) (find-put at_cmp at_total m n change files ∙ ap (λ b. cond b (Some change) (change_at m files)) (sym (flips n m)))
    ∙ chosen (same_at n m) change (change_at m files)

file_at-without : (n m : At) (files : FileChanges) → file_at m (without n files) ≡ cond (same_at n m) None (file_at m files)
file_at-without n m files =
    ap (option_and_then (λ c. c)) (find-where_key at_cmp (λ x. not (same_at n x)) m (λ x e. ap (λ y. not (same_at n y)) (sym (at_exact m x e))) files)
    ∙ kept (same_at n m) (change_at m files)

changed_left : (b : Bool) (bytes : Option (List ℕ)) (last : Option LastChange) (file : Option (List ℕ)) → IsLeftBy last file
    → IsLeftBy (cond b (Some (record { bytes = bytes; ok = true })) last) (cond b bytes file)
changed_left true bytes last file h = inr refl
changed_left false bytes last file h = h

failed_left : (b : Bool) (bytes : Option (List ℕ)) (last : Option LastChange) (file : Option (List ℕ)) → IsLeftBy last file
    → IsLeftBy (cond b (Some (record { bytes = bytes; ok = false })) last) file
failed_left true bytes last file h = inl refl
failed_left false bytes last file h = h

-- what is plain of w is so of v
pub record AsPlain (v w : VaultState) : Type 0 where
  pub trace : w.trace ≡ v.trace
  pub files : w.files ≡ v.files
  pub answers : w.answers ≡ v.answers

pub plain_same : (v w : VaultState) → AsPlain v w → IsUntampered v → IsUntampered w
plain_same v w e p = record {
  none_replaced = e.answers ∙ p.none_replaced;
  files_left = λ name. subst (λ t. IsLeftBy (last_change name t) (file_at name w.files)) (sym e.trace)
      (subst (λ f. IsLeftBy (last_change name v.trace) (file_at name f)) (sym e.files) (p.files_left name));
}

memory_isnt_failed : Memory ≡ Failed → ⊥
memory_isnt_failed h = cc

pub plain_got : (v : VaultState) (n : At) (max : ℕ) (answer : Option (List ℕ)) → IsUntampered v → IsUntampered (after_get v (got n max answer))
plain_got v n max answer p = record { none_replaced = p.none_replaced; files_left = p.files_left }

pub plain_put : (v : VaultState) (n : At) (bytes : List ℕ) → IsUntampered v → IsUntampered (after_change v (put n bytes true) (set_change n (Some bytes) v.files))
plain_put v n bytes p = record {
  none_replaced = p.none_replaced;
  files_left = λ m. subst (IsLeftBy (last_change m (put n bytes true ∷ v.trace))) (sym (file_at-set n m (Some bytes) v.files))
      (changed_left (same_at n m) (Some bytes) (last_change m v.trace) (file_at m v.files) (p.files_left m));
}

pub plain_removed : (v : VaultState) (n : At) → IsUntampered v → IsUntampered (after_change v (removed n true) (without n v.files))
plain_removed v n p = record {
  none_replaced = p.none_replaced;
  files_left = λ m. subst (IsLeftBy (last_change m (removed n true ∷ v.trace))) (sym (file_at-without n m v.files))
      (changed_left (same_at n m) None (last_change m v.trace) (file_at m v.files) (p.files_left m));
}

pub plain_failed_put : (v : VaultState) (n : At) (bytes : List ℕ) → IsUntampered v → IsUntampered (after_failed_change v (put n bytes false))
plain_failed_put v n bytes p = record {
  none_replaced = p.none_replaced;
  files_left = λ m. failed_left (same_at n m) (Some bytes) (last_change m v.trace) (file_at m v.files) (p.files_left m);
}

pub plain_failed_removal : (v : VaultState) (n : At) → IsUntampered v → IsUntampered (after_failed_change v (removed n false))
plain_failed_removal v n p = record {
  none_replaced = p.none_replaced;
  files_left = λ m. failed_left (same_at n m) None (last_change m v.trace) (file_at m v.files) (p.files_left m);
}

-- after a put or a removal that failed, of which only a fault of the outside tells
pub plain_failed : (fail : GetFail) (old new failed : VaultState) → (fail ≡ Failed → new ≡ failed) → (fail ≡ Memory → new ≡ old) → IsUntampered failed → IsUntampered old → IsUntampered new
plain_failed Failed old new failed told untold p q = subst IsUntampered (sym (told refl)) p
plain_failed Memory old new failed told untold p q = subst IsUntampered (sym (untold refl)) q

same_itself : (answer : Option (List ℕ)) → same_answer answer answer ≡ true
same_itself None = refl
same_itself (Some bytes) = (bytes_eq-Decides bytes bytes).1 refl

or_true : (b c : Bool) → c ≡ true → (not b || c) ≡ true
or_true true c h = h
or_true false c h = refl

left_is : (last : Option LastChange) (max : ℕ) (file : Option (List ℕ)) → IsLeftBy last file → is_left last max (cut max file) ≡ true
left_is None max file h = ap (λ f. is_left None max (cut max f)) h
left_is (Some last) max file (inl h) = ap (λ b. not b || same_answer (cut max file) (cut max last.bytes)) h
left_is (Some last) max file (inr h) =
    or_true last.ok _ (ap (λ f. same_answer (cut max f) (cut max last.bytes)) h ∙ same_itself (cut max last.bytes))

none_given : (v : VaultState) (n : At) (number : ℕ) → v.answers ≡ [] → unwrap_or (answer_at v.answers number) (file_at n v.files) ≡ file_at n v.files
none_given v n number h = ap (λ a. unwrap_or (answer_at a number) (file_at n v.files)) h

pub honest_get : (v : VaultState) (n : At) (max : ℕ) (answer : Option (List ℕ)) → answer ≡ cut max (given v n) → IsUntampered v → lies (got n max answer ∷ v.trace) ≡ lies v.trace
honest_get v n max answer e p =
    let file : answer ≡ cut max (file_at n v.files) = e ∙ ap (cut max) (none_given v n _ p.none_replaced) in
    let left : is_left (last_change n v.trace) max answer ≡ true =
    ap (is_left (last_change n v.trace) max) file ∙ left_is (last_change n v.trace) max (file_at n v.files) (p.files_left n) in
    ap (λ b. cond (not b) 1 0 + lies v.trace) left ∙ omega arith

-- a call was pushed onto the events
pub pushed : (events new : List Event) (event : Event) (trace : List Call) → new ≡ events ++ event ∷ [] → reverse (map call_of events) ≡ trace → reverse (map call_of new) ≡ call_of event ∷ trace
pushed events new event trace e is =
    ap (λ xs. reverse (map call_of xs)) e ∙ ap reverse (map-append call_of events (event ∷ [])) ∙ reverse-append (map call_of events) (call_of event ∷ []) ∙ ap (λ t. call_of event ∷ t) is

-- dropping the entries of a name drops its file
pub list_without : (name : FileName) (ps : List Pending) → list_of (filter (λ p. not (same_at (at_of name) (at_of p.name))) ps) ≡ without (at_of name) (list_of ps)
list_without name [] = refl
list_without name (p ∷ ps) =
    elim (same_at (at_of name) (at_of p.name)) as (λ b. list_of (cond (not b) (p ∷ filter (λ q. not (same_at (at_of name) (at_of q.name))) ps) (filter (λ q. not (same_at (at_of name) (at_of q.name))) ps))
    ≡ cond (not b) (pending_of p ∷ without (at_of name) (list_of ps)) (without (at_of name) (list_of ps))) [
      | true ↦ list_without name ps
      | false ↦ ap (λ t. pending_of p ∷ t) (list_without name ps)
    ]

-- a listing that fails counts a fault
pub failed_has_cause : {T : Type 0} (v w : VaultState) (fail : GetFail) → fail ≡ Failed → w ≡ after_failed_list v → v.faults ≤ w.faults → GetHasCause {T = T} v.faults w.faults (Err fail)
failed_has_cause v w Failed is after grows = record {
  grows = grows;
  failed = λ _. subst (λ (n : ℕ). one_more v.faults ≤ n) (sym (ap (λ x. x.faults) after)) (omega arith);
  quiet = tt;
}
failed_has_cause v w Memory is after grows = absurd (memory_isnt_failed is)
