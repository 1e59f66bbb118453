-- The whole record, read and written.
use Rattle.std.proofs.Common.{◌≡◌, ℕ, ◌<◌, Bool, true, false, cond, eqb, List, [], ◌∷◌, ◌++◌, length, take, drop, Option, Some, None, Result, Ok, Err, refl, sym, ap, subst, ◌∙◌, append_assoc, arith}
use Rattle.std.specs.Prelude.{◌&&◌, nat_eq, nat_lt, IfOk, IsErrOf, slice_index, slice_set}
use Rattle.std.specs.Int.{w32, to_le_bytes}
use Rattle.std.specs.List.{starts_with}
use Rattle.std.specs.Cmp.Lexicographic.{pointwise, bytes_decides}
use Rattle.std.specs.FinMap as fin
use Rattle.std.specs.Global.{Vec}
use Rattle.std.proofs.lemmas.Bool.{and_from, lt-ltb, ltb-true, eqb-true}
use Rattle.std.proofs.lemmas.List.{append-nil, nil_from_length, take-append-drop, take_at, drop_at}
use Rattle.outside.specs.Plain.{IsPlain}
use Rattle.outside.specs.declared.change.Pending.{Pending}
use Rattle.local_state.specs.declared.state.State.{State}
use Rattle.local_state.specs.declared.state.Form.{Form}
use Rattle.local_state.specs.declared.state.Form.TheVariants.{Older, Newer}
use Rattle.local_state.specs.declared.state.StateError.{StateError}
use Rattle.local_state.specs.declared.state.StateError.TheVariants as errors
use Rattle.local_state.specs.Known.{Lives}
use Rattle.local_state.specs.Record.{PlainState, ListEntry, plain_record, magic_of, flag, least_bytes, head_bytes, lives_bytes, list_bytes, bytes_by, record_bytes, with_mark, Allows, IsLeast, FitsHead, FitsState, HasRecord, IsRecord}
use Rattle.byte_fields.specs.Fields.{IsBytes, front_at, number_at}
use Rattle.byte_fields.proofs.Fields.{IsBytes-drop, Takes, Takes-then, front_takes, front_again, wide32, number_takes, number_again}
use Rattle.local_state.specs.Reading.{◌>>=◌, Gives, flag_at, form_at, least_at, head_at, table_at, list_at, record_at}
use Rattle.local_state.proofs.Fields.{IsBytes-rest, bind_some, guard_some, some, some_is, flag_takes, flag_again}
use Rattle.local_state.proofs.Tables.{table_takes, table_again, true_ltb}
use Rattle.local_state.proofs.Entries.{list_takes, list_again}
use Rattle.block_id.proofs.Conditions.{and_true}

-- ---- what stands first

prefix_takes : (n : ℕ) (text bytes : List ℕ) → IsBytes bytes → pointwise nat_eq text (take n bytes) ≡ true → Takes bytes text (drop n bytes)
prefix_takes n text bytes small e =
    let is : text ≡ take n bytes = (bytes_decides text (take n bytes)).0 e in
    record { parts = sym (ap (λ (x : List ℕ). x ++ drop n bytes) is ∙ take-append-drop n bytes); rest_fits = IsBytes-drop n bytes small }

form_takes : (bytes : List ℕ) (x : Form × List ℕ) → IsBytes bytes → form_at bytes ≡ Some x → Takes bytes (magic_of x.0) x.1
form_takes bytes x small e =
    elim (starts_with nat_eq bytes (magic_of Older)) as (λ v. starts_with nat_eq bytes (magic_of Older) ≡ v
    → cond v (Some (Older, drop 19 bytes)) (cond (starts_with nat_eq bytes (magic_of Newer)) (Some (Newer, drop 19 bytes)) None) ≡ Some x → Takes bytes (magic_of x.0) x.1) [
      | true ↦ λ is e. subst (λ (y : Form × List ℕ). Takes bytes (magic_of y.0) y.1) (some_is (Older, drop 19 bytes) x e) (prefix_takes 19 (magic_of Older) bytes small is)
      | false ↦ λ is e.
          let g = guard_some (starts_with nat_eq bytes (magic_of Newer)) (Newer, drop 19 bytes) x e in
          subst (λ (y : Form × List ℕ). Takes bytes (magic_of y.0) y.1) g.1 (prefix_takes 19 (magic_of Newer) bytes small g.0)
    ] refl e

pub record LeastTaken (f : Form) (bytes : List ℕ) (x : ℕ × List ℕ) : Type 0 where
  pub takes : Takes bytes (least_bytes f x.0) x.1
  pub allows : Allows f x.0
  pub least : IsLeast x.0

least_takes : (f : Form) (bytes : List ℕ) (x : ℕ × List ℕ) → IsBytes bytes → least_at f bytes ≡ Some x → LeastTaken f bytes x
least_takes Older bytes x small e =
    subst (λ (y : ℕ × List ℕ). LeastTaken Older bytes y) (some_is (1, bytes) x e)
    (record { takes = record { parts = refl; rest_fits = small }; allows = refl; least = record { from_one = omega arith; to_two = omega arith } })
least_takes Newer [] x small e = absurd cc
least_takes Newer (n ∷ rest) x small e =
    let g = guard_some (nat_lt 0 n && nat_lt n 3) (n, rest) x e in
    let t = and_true (nat_lt 0 n) (nat_lt n 3) g.0 in
    subst (λ (y : ℕ × List ℕ). LeastTaken Newer (n ∷ rest) y) g.1
    (record {
      takes = record { parts = refl; rest_fits = IsBytes-rest n rest small };
      allows = tt;
      least = record { from_one = omega (arith, ltb-true 0 n t.0); to_two = omega (arith, ltb-true n 3 t.1) };
    })

both_tests : (n : ℕ) → IsLeast n → (nat_lt 0 n && nat_lt n 3) ≡ true
both_tests n least = and_from _ _ (lt-ltb 0 n (omega (arith, least.from_one))) (lt-ltb n 3 (omega (arith, least.to_two)))

form_again : (f : Form) (rest : List ℕ) → form_at (magic_of f ++ rest) ≡ Some (f, rest)
form_again Older rest =
    let same : pointwise nat_eq (magic_of Older) (take 19 (magic_of Older ++ rest)) ≡ true = (bytes_decides (magic_of Older) (take 19 (magic_of Older ++ rest))).1 (sym (take_at (magic_of Older) rest 19 refl)) in
    ap (λ b. cond b (Some (Older, drop 19 (magic_of Older ++ rest))) None) same ∙ ap (λ r. Some (Older, r)) (drop_at (magic_of Older) rest 19 refl)
form_again Newer rest =
    let same : pointwise nat_eq (magic_of Newer) (take 19 (magic_of Newer ++ rest)) ≡ true = (bytes_decides (magic_of Newer) (take 19 (magic_of Newer ++ rest))).1 (sym (take_at (magic_of Newer) rest 19 refl)) in
    ap (λ b. cond b (Some (Newer, drop 19 (magic_of Newer ++ rest))) None) same ∙ ap (λ r. Some (Newer, r)) (drop_at (magic_of Newer) rest 19 refl)

least_again : (f : Form) (n : ℕ) (rest : List ℕ) → Allows f n → IsLeast n → least_at f (least_bytes f n ++ rest) ≡ Some (n, rest)
least_again Older n rest is least = ap (λ m. Some (m, rest)) (sym is)
least_again Newer n rest is least = ap (λ b. cond b (Some (n, rest)) None) (both_tests n least)

-- ---- what stands before the known blocks

abbrev made : Bool → ℕ → List ℕ → List ℕ → List ℕ → ℕ → PlainState
made marked least fs_id key_salt key_digest client = record { marked = marked; least = least; fs_id = fs_id; key_salt = key_salt; key_digest = key_digest; client = client; lives = fin.empty }

abbrev after_client : Bool → ℕ → List ℕ → List ℕ → List ℕ → ℕ × List ℕ → Option (PlainState × List ℕ)
after_client marked least fs_id key_salt key_digest client = cond (nat_lt 0 client.0) (Some (made marked least fs_id key_salt key_digest client.0, client.1)) None

abbrev after_digest : Bool → ℕ → List ℕ → List ℕ → List ℕ × List ℕ → Option (PlainState × List ℕ)
after_digest marked least fs_id key_salt key_digest = number_at w32 key_digest.1 >>= after_client marked least fs_id key_salt key_digest.0

abbrev after_salt : Bool → ℕ → List ℕ → List ℕ × List ℕ → Option (PlainState × List ℕ)
after_salt marked least fs_id key_salt = front_at 32 key_salt.1 >>= after_digest marked least fs_id key_salt.0

abbrev after_id : Bool → ℕ → List ℕ × List ℕ → Option (PlainState × List ℕ)
after_id marked least fs_id = front_at 32 fs_id.1 >>= after_salt marked least fs_id.0

abbrev after_least : Bool → ℕ × List ℕ → Option (PlainState × List ℕ)
after_least marked least = front_at 16 least.1 >>= after_id marked least.0

abbrev after_mark : Form → Bool × List ℕ → Option (PlainState × List ℕ)
after_mark f marked = least_at f marked.1 >>= after_least marked.0

abbrev after_form : Form × List ℕ → Option (PlainState × List ℕ)
after_form form = flag_at form.1 >>= after_mark form.0

pub record HeadTaken (bytes : List ℕ) (x : PlainState × List ℕ) : Type 0 where
  pub form : Form
  pub allows : Allows form x.0.least
  pub takes : Takes bytes (head_bytes form x.0) x.1
  pub fits : FitsHead x.0
  pub least : IsLeast x.0.least
  pub client : 0 < x.0.client

pub head_takes : (bytes : List ℕ) (x : PlainState × List ℕ) → IsBytes bytes → head_at bytes ≡ Some x → HeadTaken bytes x
unfolding head_at head_bytes
head_takes bytes x small e =
    let a = bind_some (form_at bytes) after_form x e in
    let b = bind_some (flag_at a.0.1) (after_mark a.0.0) x a.2 in
    let l = bind_some (least_at a.0.0 b.0.1) (after_least b.0.0) x b.2 in
    let c = bind_some (front_at 16 l.0.1) (after_id b.0.0 l.0.0) x l.2 in
    let d = bind_some (front_at 32 c.0.1) (after_salt b.0.0 l.0.0 c.0.0) x c.2 in
    let f = bind_some (front_at 32 d.0.1) (after_digest b.0.0 l.0.0 c.0.0 d.0.0) x d.2 in
    let g = bind_some (number_at w32 f.0.1) (after_client b.0.0 l.0.0 c.0.0 d.0.0 f.0.0) x f.2 in
    let h = guard_some (nat_lt 0 g.0.0) (made b.0.0 l.0.0 c.0.0 d.0.0 f.0.0 g.0.0, g.0.1) x g.2 in
    let ta = form_takes bytes a.0 small a.1 in
    let tb = flag_takes a.0.1 b.0 ta.rest_fits b.1 in
    let tl = least_takes a.0.0 b.0.1 l.0 tb.rest_fits l.1 in
    let tc = front_takes 16 l.0.1 c.0 tl.takes.rest_fits c.1 in
    let td = front_takes 32 c.0.1 d.0 tc.0.rest_fits d.1 in
    let tf = front_takes 32 d.0.1 f.0 td.0.rest_fits f.1 in
    let tg = number_takes wide32 f.0.1 g.0 tf.0.rest_fits g.1 in
    let client = to_le_bytes w32 g.0.0 in
    let least = least_bytes a.0.0 l.0.0 in
    let e5 = Takes-then d.0.1 f.0.0 f.0.1 client g.0.1 tf.0 tg.0 in
    let e4 = Takes-then c.0.1 d.0.0 d.0.1 (f.0.0 ++ client) g.0.1 td.0 e5 in
    let e3 = Takes-then l.0.1 c.0.0 c.0.1 (d.0.0 ++ (f.0.0 ++ client)) g.0.1 tc.0 e4 in
    let el = Takes-then b.0.1 least l.0.1 (c.0.0 ++ (d.0.0 ++ (f.0.0 ++ client))) g.0.1 tl.takes e3 in
    let e2 = Takes-then a.0.1 (flag b.0.0 ∷ []) b.0.1 (least ++ (c.0.0 ++ (d.0.0 ++ (f.0.0 ++ client)))) g.0.1 tb el in
    let e1 = Takes-then bytes (magic_of a.0.0) a.0.1 (flag b.0.0 ∷ (least ++ (c.0.0 ++ (d.0.0 ++ (f.0.0 ++ client))))) g.0.1 ta e2 in
    let fits : FitsHead (made b.0.0 l.0.0 c.0.0 d.0.0 f.0.0 g.0.0) = record { fs_id = tc.1; key_salt = td.1; key_digest = tf.1; client = tg.1 } in
    subst (λ (y : PlainState × List ℕ). HeadTaken bytes y) h.1 (record { form = a.0.0; allows = tl.allows; takes = e1; fits = fits; least = tl.least; client = ltb-true 0 g.0.0 h.0 })

abbrev without_lives : PlainState → PlainState
without_lives s = record s { lives = fin.empty }

head_again : (f : Form) (s : PlainState) (rest : List ℕ) → Allows f s.least → FitsHead s → IsLeast s.least → 0 < s.client → head_at (head_bytes f s ++ rest) ≡ Some (without_lives s, rest)
unfolding head_at head_bytes
head_again f s rest allows fits in_range from_one =
    let client = to_le_bytes w32 s.client in
    let least = least_bytes f s.least in
    let tail = flag s.marked ∷ (least ++ (s.fs_id ++ (s.key_salt ++ (s.key_digest ++ client)))) in
    let parts = s.fs_id ++ (s.key_salt ++ (s.key_digest ++ (client ++ rest))) in
    let regrouped : tail ++ rest ≡ flag s.marked ∷ (least ++ parts) =
    ap (λ (x : List ℕ). flag s.marked ∷ x) (append_assoc least (s.fs_id ++ (s.key_salt ++ (s.key_digest ++ client))) rest
    ∙ ap (λ (x : List ℕ). least ++ x) (append_assoc s.fs_id (s.key_salt ++ (s.key_digest ++ client)) rest
    ∙ ap (λ (x : List ℕ). s.fs_id ++ x) (append_assoc s.key_salt (s.key_digest ++ client) rest
    ∙ ap (λ (x : List ℕ). s.key_salt ++ x) (append_assoc s.key_digest client rest)))) in
    let start : form_at (head_bytes f s ++ rest) ≡ Some (f, tail ++ rest) = ap form_at (append_assoc (magic_of f) tail rest) ∙ form_again f (tail ++ rest) in
    ap (λ (o : Option (Form × List ℕ)). o >>= after_form) start
    ∙ ap (λ (x : List ℕ). flag_at x >>= after_mark f) regrouped
    ∙ rw (
      flag_again s.marked (least ++ parts),
      least_again f s.least parts allows in_range,
      front_again 16 s.fs_id (s.key_salt ++ (s.key_digest ++ (client ++ rest))) fits.fs_id,
      front_again 32 s.key_salt (s.key_digest ++ (client ++ rest)) fits.key_salt,
      front_again 32 s.key_digest (client ++ rest) fits.key_digest,
      number_again wide32 s.client rest fits.client,
      true_ltb s.client from_one,
    ) refl

-- ---- the record

abbrev after_list : PlainState → Lives → List ListEntry × List ℕ → Option (PlainState × List ListEntry)
after_list head lives list = cond (eqb (length list.1) 0) (Some (record head { lives = lives }, list.0)) None

abbrev after_table : PlainState → Lives × List ℕ → Option (PlainState × List ListEntry)
after_table head known = list_at known.0 known.1 >>= after_list head known.0

pub record_takes : (bytes : List ℕ) (x : PlainState × List ListEntry) → IsBytes bytes → record_at bytes ≡ Some x → IsRecord x.0 x.1 bytes
unfolding record_at head_bytes bytes_by
record_takes bytes x small e =
    let a = bind_some (head_at bytes) (λ head. table_at head.1 >>= after_table head.0) x e in
    let b = bind_some (table_at a.0.1) (after_table a.0.0) x a.2 in
    let c = bind_some (list_at b.0.0 b.0.1) (after_list a.0.0 b.0.0) x b.2 in
    let s : PlainState = record a.0.0 { lives = b.0.0 } in
    let g = guard_some (eqb (length c.0.1) 0) (s, c.0.0) x c.2 in
    let ta = head_takes bytes a.0 small a.1 in
    let tb = table_takes a.0.1 b.0 ta.takes.rest_fits b.1 in
    let tc = list_takes b.0.0 b.0.1 c.0 tb.takes.rest_fits c.1 in
    let nothing : c.0.1 ≡ [] = nil_from_length c.0.1 (eqb-true _ _ g.0) in
    let e2 = Takes-then a.0.1 (lives_bytes b.0.0) b.0.1 (list_bytes c.0.0) c.0.1 tb.takes tc.0 in
    let e1 = Takes-then bytes (head_bytes ta.form s) a.0.1 (lives_bytes b.0.0 ++ list_bytes c.0.0) c.0.1 ta.takes e2 in
    let whole : bytes ≡ bytes_by ta.form s c.0.0 = e1.parts ∙ ap (λ (r : List ℕ). bytes_by ta.form s c.0.0 ++ r) nothing ∙ append-nil (bytes_by ta.form s c.0.0) in
    let fits : FitsHead s = record { fs_id = ta.fits.fs_id; key_salt = ta.fits.key_salt; key_digest = ta.fits.key_digest; client = ta.fits.client } in
    let state : FitsState s = record { head = fits; least = ta.least; client = ta.client; lives = tb.fits; count = tb.count } in
    let has : HasRecord s c.0.0 = record { state = state; entries = tc.1 } in
    subst (λ (y : PlainState × List ListEntry). IsRecord y.0 y.1 bytes) g.1 (record { has = has; form = ta.form; allows = ta.allows; is = whole })

pub record_again : (f : Form) (s : PlainState) (list : List ListEntry) → Allows f s.least → HasRecord s list → record_at (bytes_by f s list) ≡ Some (s, list)
unfolding record_at head_bytes bytes_by
record_again f s list allows has =
    let behind = lives_bytes s.lives ++ list_bytes list in
    let head = head_again f s behind allows has.state.head has.state.least has.state.client in
    let table = table_again s.lives (list_bytes list) has.state.lives has.state.count in
    let whole : list_at s.lives (list_bytes list) ≡ Some (list, []) = ap (list_at s.lives) (sym (append-nil (list_bytes list))) ∙ list_again s.lives list [] has.entries in
    ap (λ (o : Option (PlainState × List ℕ)). o >>= (λ head. table_at head.1 >>= after_table head.0)) head
    ∙ ap (λ (o : Option (Lives × List ℕ)). o >>= after_table s) table
    ∙ ap (λ (o : Option (List ListEntry × List ℕ)). o >>= after_list s s.lives) whole

pub is_record : (bytes : List ℕ) (r : Result (State × Vec Pending) StateError) → IsBytes bytes → Gives plain_record r (record_at bytes) → IfOk r (λ x. IsRecord (plain_record x).0 (plain_record x).1 bytes)
is_record bytes (Ok x) small given = record_takes bytes (plain_record x) small given
is_record bytes (Err e) small given = tt

only_these : (bytes : List ℕ) (r : Result (State × Vec Pending) StateError) (s : PlainState) (list : List ListEntry) → Gives plain_record r (record_at bytes) → IsRecord s list bytes → Gives plain_record r (some (s, list))
only_these bytes r s list given is = subst (λ (o : Option (PlainState × List ListEntry)). Gives plain_record r o) (ap record_at is.is ∙ record_again is.form s list is.allows is.has) given

pub has_only : (bytes : List ℕ) (r : Result (State × Vec Pending) StateError) → Gives plain_record r (record_at bytes) → IfOk r (λ x. (s : PlainState) (list : List ListEntry) → IsRecord s list bytes → plain_record x ≡ (s, list))
has_only bytes (Ok x) given = λ s list is. sym (some_is (s, list) (plain_record x) (only_these bytes (Ok x) s list given is))
has_only bytes (Err e) given = tt

nothing_found : (x : PlainState × List ListEntry) → some x ≡ None → ⊥
nothing_found x e = cc

pub is_bad : (bytes : List ℕ) (r : Result (State × Vec Pending) StateError) → Gives plain_record r (record_at bytes) → IsErrOf r errors.BadState → (s : PlainState) (list : List ListEntry) → IsRecord s list bytes → ⊥
is_bad bytes r given bad s list is =
    nothing_found (s, list) (subst (λ (t : Result (State × Vec Pending) StateError). Gives plain_record t (some (s, list))) bad (only_these bytes r s list given is))

-- ---- laws

first_is : (a b : PlainState × List ListEntry) → a ≡ b → a.0 ≡ b.0
first_is a b e = ap (λ (x : PlainState × List ListEntry). x.0) e

second_is : (a b : PlainState × List ListEntry) → a ≡ b → a.1 ≡ b.1
second_is a b e = ap (λ (x : PlainState × List ListEntry). x.1) e

pub one_reading : (s t : PlainState) (k l : List ListEntry) (bytes : List ℕ) → IsRecord s k bytes → IsRecord t l bytes → (s ≡ t) × (k ≡ l)
one_reading s t k l bytes is also =
    let both = some_is (s, k) (t, l) (sym (ap record_at is.is ∙ record_again is.form s k is.allows is.has) ∙ (ap record_at also.is ∙ record_again also.form t l also.allows also.has)) in
    (first_is (s, k) (t, l) both, second_is (s, k) (t, l) both)

-- what is written is a record
pub written_record : (s : PlainState) (list : List ListEntry) → HasRecord s list → IsRecord s list (record_bytes s list)
written_record s list has = record { has = has; form = Newer; allows = tt; is = refl }

-- the mark is the byte at place 19
place_by : (f : Form) (s : PlainState) (list : List ListEntry) → slice_index (bytes_by f s list) 19 ≡ flag s.marked
unfolding head_bytes bytes_by
place_by Older s list = refl
place_by Newer s list = refl

pub mark_place : (s : PlainState) (list : List ListEntry) (bytes : List ℕ) → IsRecord s list bytes → slice_index bytes 19 ≡ flag s.marked
mark_place s list bytes is = ap (λ b. slice_index b 19) is.is ∙ place_by is.form s list

in_by : (f : Form) (s : PlainState) (list : List ListEntry) → 19 < length (bytes_by f s list)
unfolding head_bytes bytes_by
in_by Older s list = omega arith
in_by Newer s list = omega arith

pub mark_in : (s : PlainState) (list : List ListEntry) (bytes : List ℕ) → IsRecord s list bytes → 19 < length bytes
mark_in s list bytes is = subst (λ b. 19 < length b) (sym is.is) (in_by is.form s list)

marked_by : (f : Form) (s : PlainState) (list : List ListEntry) → bytes_by f (with_mark s) list ≡ slice_set (bytes_by f s list) 19 1
unfolding head_bytes bytes_by
marked_by Older s list = refl
marked_by Newer s list = refl

marked_has : (s : PlainState) (list : List ListEntry) → HasRecord s list → HasRecord (with_mark s) list
marked_has s list has =
    let h = has.state.head in
    let head : FitsHead (with_mark s) = record { fs_id = h.fs_id; key_salt = h.key_salt; key_digest = h.key_digest; client = h.client } in
    record { state = record { head = head; least = has.state.least; client = has.state.client; lives = has.state.lives; count = has.state.count }; entries = has.entries }

pub marked_record : (s : PlainState) (list : List ListEntry) (bytes : List ℕ) → IsRecord s list bytes → IsRecord (with_mark s) list (slice_set bytes 19 1)
marked_record s list bytes is = record {
  has = marked_has s list is.has;
  form = is.form;
  allows = is.allows;
  is = ap (λ b. slice_set b 19 1) is.is ∙ sym (marked_by is.form s list);
}

plain_by : (f : Form) (s : PlainState) (list : List ListEntry) → IsPlain (bytes_by f s list)
unfolding head_bytes bytes_by
plain_by Older s list = refl
plain_by Newer s list = refl

-- every keeper takes a record
pub is_plain : (s : PlainState) (list : List ListEntry) (bytes : List ℕ) → IsRecord s list bytes → IsPlain bytes
is_plain s list bytes is = subst IsPlain (sym is.is) (plain_by is.form s list)
