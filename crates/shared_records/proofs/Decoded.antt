-- What is read of a record of several clients, and that nothing else has its bytes.
use Rattle.std.proofs.Common.{◌≡◌, ℕ, ◌+◌, ◌<◌, ◌≤◌, List, ◌++◌, length, take, drop, Some, None, Result, Err, refl, sym, ap, subst, ◌∙◌, arith}
use Rattle.std.specs.Prelude.{slice_set}
use Rattle.std.proofs.lemmas.List.{take_at, drop_at, length-append}
use Rattle.byte_fields.specs.Fields.{IsBytes}
use Rattle.outside.specs.Plain.{shared_magic}
use Rattle.local_state.specs.declared.state.StateError.{StateError}
use Rattle.local_state.specs.declared.state.Form.TheVariants.{Newer}
use Rattle.local_state.specs.Record.{PlainState, ListEntry, magic_of, record_bytes, IsRecord}
use Rattle.local_state.specs.Versions.{Version}
use Rattle.local_state.proofs.Fields.{some_is}
use Rattle.local_state.proofs.Records.{one_reading, written_record}
use Rattle.shared_records.specs.Scan.{split_at, versions_in}
use Rattle.shared_records.specs.Shared.{others_bytes, shared_bytes, IsShared}
use Rattle.shared_records.proofs.Versions.{listed_again}
use Rattle.shared_records.proofs.Wholes.{tail_bytes, record_is, split_takes, split_again}

-- ---- its two parts

pub front_is : (s : PlainState) (list : List ListEntry) (vs : List Version) → slice_set (take (length (record_bytes s list)) (shared_bytes s list vs)) 17 50 ≡ record_bytes s list
front_is s list vs =
    let tail = tail_bytes s list in
    let same : take (length tail) (tail ++ others_bytes vs) ≡ tail = take_at tail (others_bytes vs) (length tail) refl in
    ap (λ (r : List ℕ). slice_set (take (length r) (shared_magic ++ (drop 19 r ++ others_bytes vs))) 17 50) (record_is s list)
    ∙ ap (λ (x : List ℕ). magic_of Newer ++ x) same
    ∙ sym (record_is s list)

pub behind_is : (s : PlainState) (list : List ListEntry) (vs : List Version) → drop (length (record_bytes s list)) (shared_bytes s list vs) ≡ others_bytes vs
behind_is s list vs =
    let tail = tail_bytes s list in
    ap (λ (r : List ℕ). drop (length r) (shared_magic ++ (drop 19 r ++ others_bytes vs))) (record_is s list) ∙ drop_at tail (others_bytes vs) (length tail) refl

-- with its digit another, and the versions behind it, form 2 is such a record
pub joined_is : (s : PlainState) (list : List ListEntry) (vs : List Version) → slice_set (record_bytes s list) 17 51 ++ others_bytes vs ≡ shared_bytes s list vs
joined_is s list vs =
    ap (λ (r : List ℕ). slice_set r 17 51 ++ others_bytes vs) (record_is s list) ∙ sym (ap (λ (r : List ℕ). shared_magic ++ (drop 19 r ++ others_bytes vs)) (record_is s list))

pub splits_of : (s : PlainState) (list : List ListEntry) (vs : List Version) (bytes : List ℕ) → IsShared s list vs bytes → split_at bytes ≡ Some (length (record_bytes s list))
splits_of s list vs bytes is = ap split_at is.is ∙ split_again s list vs is.has

pub one_shared : (s t : PlainState) (k l : List ListEntry) (vs ws : List Version) (bytes : List ℕ) → IsShared s k vs bytes → IsShared t l ws bytes → (s ≡ t) × (k ≡ l) × (vs ≡ ws)
one_shared s t k l vs ws bytes is also =
    let one : length (record_bytes s k) ≡ length (record_bytes t l) = some_is _ _ (sym (splits_of s k vs bytes is) ∙ splits_of t l ws bytes also) in
    let front : record_bytes s k ≡ record_bytes t l =
    sym (front_is s k vs) ∙ ap (λ (b : List ℕ). slice_set (take (length (record_bytes s k)) b) 17 50) (sym is.is ∙ also.is)
    ∙ ap (λ (n : ℕ). slice_set (take n (shared_bytes t l ws)) 17 50) one ∙ front_is t l ws in
    let behind : others_bytes vs ≡ others_bytes ws =
    sym (behind_is s k vs) ∙ ap (λ (b : List ℕ). drop (length (record_bytes s k)) b) (sym is.is ∙ also.is)
    ∙ ap (λ (n : ℕ). drop n (shared_bytes t l ws)) one ∙ behind_is t l ws in
    let records = one_reading s t k l (record_bytes t l) (subst (λ (b : List ℕ). IsRecord s k b) front (written_record s k is.has.front)) (written_record t l also.has.front) in
    (records.0, records.1, some_is vs ws (sym (listed_again s.client vs is.has.others) ∙ ap versions_in behind ∙ listed_again t.client ws also.has.others))

-- ---- what is read

pub split_bounds : (bytes : List ℕ) (end : ℕ) → IsBytes bytes → split_at bytes ≡ Some end → (17 < end) × (end ≤ length bytes)
split_bounds bytes end small e =
    let t = split_takes bytes end small e in
    let tail = tail_bytes t.s t.list in
    let front : length (record_bytes t.s t.list) ≡ length (magic_of Newer ++ tail) = ap length (record_is t.s t.list) in
    let whole : length bytes ≡ length (shared_magic ++ (tail ++ others_bytes t.vs)) =
    ap length t.is.is ∙ ap (λ (r : List ℕ). length (shared_magic ++ (drop 19 r ++ others_bytes t.vs))) (record_is t.s t.list) in
    let sum : length (tail ++ others_bytes t.vs) ≡ length tail + length (others_bytes t.vs) = length-append tail (others_bytes t.vs) in
    (omega (arith, t.len, front), omega (arith, t.len, front, whole, sum))

pub record FrontRead (bytes : List ℕ) (end : ℕ) : Type 0 where
  pub s : PlainState
  pub list : List ListEntry
  pub vs : List Version
  pub is : IsShared s list vs bytes
  pub front : slice_set (take end bytes) 17 50 ≡ record_bytes s list
  pub record_of : IsRecord s list (slice_set (take end bytes) 17 50)
  pub behind : versions_in (drop end bytes) ≡ Some vs

pub front_read : (bytes : List ℕ) (end : ℕ) → IsBytes bytes → split_at bytes ≡ Some end → FrontRead bytes end
front_read bytes end small e =
    let t = split_takes bytes end small e in
    let front : slice_set (take end bytes) 17 50 ≡ record_bytes t.s t.list =
    ap (λ (n : ℕ). slice_set (take n bytes) 17 50) t.len ∙ ap (λ (b : List ℕ). slice_set (take (length (record_bytes t.s t.list)) b) 17 50) t.is.is ∙ front_is t.s t.list t.vs in
    let behind : drop end bytes ≡ others_bytes t.vs =
    ap (λ (n : ℕ). drop n bytes) t.len ∙ ap (drop (length (record_bytes t.s t.list))) t.is.is ∙ behind_is t.s t.list t.vs in
    record {
      s = t.s;
      list = t.list;
      vs = t.vs;
      is = t.is;
      front = front;
      record_of = subst (λ (b : List ℕ). IsRecord t.s t.list b) (sym front) (written_record t.s t.list t.is.has.front);
      behind = ap versions_in behind ∙ listed_again t.s.client t.vs t.is.has.others;
    }

pub read_is : (bytes : List ℕ) (end : ℕ) (s : PlainState) (list : List ListEntry) (vs : List Version) → IsBytes bytes → split_at bytes ≡ Some end
    → IsRecord s list (slice_set (take end bytes) 17 50) → versions_in (drop end bytes) ≡ Some vs → IsShared s list vs bytes
read_is bytes end s list vs small e is read =
    let t = front_read bytes end small e in
    let same = one_reading t.s s t.list list _ t.record_of is in
    let versions : t.vs ≡ vs = some_is t.vs vs (sym t.behind ∙ read) in
    subst (λ (s : PlainState). IsShared s list vs bytes) same.0 (subst (λ (l : List ListEntry). IsShared t.s l vs bytes) same.1 (subst (λ (v : List Version). IsShared t.s t.list v bytes) versions t.is))

none_some : {A : Type 0} {x : A} → None ≡ Some x → ⊥
none_some e = cc

pub not_split : (bytes : List ℕ) → split_at bytes ≡ None → (s : PlainState) (list : List ListEntry) (vs : List Version) → IsShared s list vs bytes → ⊥
not_split bytes e s list vs is = none_some (sym e ∙ splits_of s list vs bytes is)

pub no_versions : (bytes : List ℕ) (end : ℕ) → IsBytes bytes → split_at bytes ≡ Some end → versions_in (drop end bytes) ≡ None → ⊥
no_versions bytes end small e none = none_some (sym none ∙ (front_read bytes end small e).behind)

pub same_error : {T : Type 0} {a b : StateError} → ◌≡◌ {A = Result T StateError} (Err a) (Err b) → a ≡ b
same_error e = cc
