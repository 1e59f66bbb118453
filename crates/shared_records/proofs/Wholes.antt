-- The whole record, read and written.
use Rattle.std.proofs.Common.{◌≡◌, ℕ, ◌-◌, ◌+◌, Bool, true, false, cond, List, [], ◌++◌, length, take, drop, Option, Some, None, refl, sym, ap, subst, ◌∙◌, append_assoc, arith}
use Rattle.std.specs.Prelude.{nat_eq}
use Rattle.std.specs.Option.{option_map}
use Rattle.std.specs.Int.{w64}
use Rattle.std.specs.List.{starts_with}
use Rattle.std.specs.FinMap as fin
use Rattle.std.specs.FinMap.{get-empty}
use Rattle.std.specs.Ordering.{nat_cmp}
use Rattle.std.specs.Cmp.Lexicographic.{slice_cmp, pointwise, bytes_decides}
use Rattle.std.proofs.lemmas.List.{take-append-drop, take_at, drop_at, length-append}
use Rattle.byte_fields.specs.Fields.{IsBytes, number_at}
use Rattle.byte_fields.proofs.Fields.{IsBytes-drop, Takes, Takes-then, mapped}
use Rattle.outside.specs.Plain.{shared_magic}
use Rattle.local_state.specs.declared.life.Life.{Life}
use Rattle.local_state.specs.declared.state.Form.TheVariants.{Newer}
use Rattle.local_state.specs.Known.{Lives, zero_id}
use Rattle.local_state.specs.Reading.{◌>>=◌, lives_at, table_at, entries_at, list_at}
use Rattle.local_state.specs.Record.{PlainState, ListEntry, magic_of, head_bytes, lives_bytes, list_bytes, bytes_by, record_bytes, FitsHead, FitsState, HasRecord}
use Rattle.local_state.specs.Versions.{Version}
use Rattle.local_state.proofs.Fields.{bind_some, guard_some, some_is}
use Rattle.local_state.proofs.Tables.{table_takes, table_again}
use Rattle.local_state.proofs.Entries.{list_takes, list_again}
use Rattle.clients_core.specs.Listed.{FitsOthers}
use Rattle.shared_records.specs.Scan.{client_at, rows_at, life_in, entries_past, front_past, are_others, split_at}
use Rattle.shared_records.specs.Shared.{others_bytes, shared_bytes, HasShared, IsShared}
use Rattle.shared_records.proofs.Clients.{front_bytes, client_takes, client_again}
use Rattle.shared_records.proofs.Tables.{rows_end, rows_say, entries_end}
use Rattle.shared_records.proofs.Versions.{others_taken, are_again}

-- ---- up to the list

-- what stands behind the magic bytes of form 2
abbrev pub tail_bytes : PlainState → List ListEntry → List ℕ
tail_bytes s list = front_bytes s ++ (lives_bytes s.lives ++ list_bytes list)

pub record_is : (s : PlainState) (list : List ListEntry) → record_bytes s list ≡ magic_of Newer ++ tail_bytes s list
unfolding head_bytes bytes_by
record_is s list = refl

pub tail_is : (s : PlainState) (list : List ListEntry) → drop 19 (record_bytes s list) ≡ tail_bytes s list
unfolding head_bytes bytes_by
tail_is s list = refl

abbrev said : ℕ × List ℕ → List ℕ → Option Life
said n id = life_in n.0 zero_id n.1 id None

abbrev after_entries : ℕ → List ℕ → Option (ℕ × List ℕ)
after_entries client rest = Some (client, rest)

abbrev after_count : ℕ → ℕ × List ℕ → ℕ × List ℕ → Option (ℕ × List ℕ)
after_count client n m = entries_past (said n) m.0 None m.1 >>= after_entries client

abbrev after_rows : ℕ → ℕ × List ℕ → List ℕ → Option (ℕ × List ℕ)
after_rows client n list = number_at w64 list >>= after_count client n

abbrev after_number : ℕ → ℕ × List ℕ → Option (ℕ × List ℕ)
after_number client n = rows_at n.0 zero_id n.1 >>= after_rows client n

abbrev after_client : ℕ × List ℕ → Option (ℕ × List ℕ)
after_client client = number_at w64 client.1 >>= after_number client.0

-- the rows say what the map of them answers
says : (n : ℕ × List ℕ) (x : Lives × List ℕ) → lives_at n.0 zero_id fin.empty n.1 ≡ Some x → (id : List ℕ) → fin.get x.0 id ≡ said n id
says n x read id = rows_say n.0 zero_id fin.empty n.1 x id read ∙ ap (λ (o : Option Life). life_in n.0 zero_id n.1 id o) (get-empty (slice_cmp nat_cmp) id)

pub record FrontTaken (bytes : List ℕ) (x : ℕ × List ℕ) : Type 0 where
  pub s : PlainState
  pub list : List ListEntry
  pub client : s.client ≡ x.0
  pub takes : Takes bytes (tail_bytes s list) x.1
  pub has : HasRecord s list

front_takes : (bytes : List ℕ) (x : ℕ × List ℕ) → IsBytes bytes → front_past bytes ≡ Some x → FrontTaken bytes x
unfolding front_past table_at list_at
front_takes bytes x small e =
    let a = bind_some (client_at bytes) after_client x e in
    let b = bind_some (number_at w64 a.0.1) (after_number a.0.0) x a.2 in
    let c = bind_some (rows_at b.0.0 zero_id b.0.1) (after_rows a.0.0 b.0) x b.2 in
    let d = bind_some (number_at w64 c.0) (after_count a.0.0 b.0) x c.2 in
    let f = bind_some (entries_past (said b.0) d.0.0 None d.0.1) (after_entries a.0.0) x d.2 in
    let known = mapped (lives_at b.0.0 zero_id fin.empty b.0.1) (λ x. x.1) c.0 (rows_end b.0.0 zero_id fin.empty b.0.1 ∙ c.1) in
    let lives : Lives = known.0.0 in
    let table : table_at a.0.1 ≡ Some known.0 = ap (λ (o : Option (ℕ × List ℕ)). o >>= (λ n. lives_at n.0 zero_id fin.empty n.1)) b.1 ∙ known.1 in
    let entries = mapped (entries_at lives d.0.0 None [] d.0.1) (λ x. x.1) f.0 (entries_end (said b.0) lives (says b.0 known.0 known.1) d.0.0 None [] d.0.1 ∙ f.1) in
    let counted : number_at w64 known.0.1 ≡ Some d.0 = ap (number_at w64) known.2 ∙ d.1 in
    let listed : list_at lives known.0.1 ≡ Some entries.0 = ap (λ (o : Option (ℕ × List ℕ)). o >>= (λ n. entries_at lives n.0 None [] n.1)) counted ∙ entries.1 in
    let ta = client_takes bytes a.0 small a.1 in
    let tb = table_takes a.0.1 known.0 ta.takes.rest_fits table in
    let tc = list_takes lives known.0.1 entries.0 tb.takes.rest_fits listed in
    let s : PlainState = record ta.s { lives = lives } in
    let e2 = Takes-then a.0.1 (lives_bytes lives) known.0.1 (list_bytes entries.0.0) entries.0.1 tb.takes tc.0 in
    let e1 = Takes-then bytes (front_bytes ta.s) a.0.1 (lives_bytes lives ++ list_bytes entries.0.0) entries.0.1 ta.takes e2 in
    let fits : FitsHead s = record { fs_id = ta.fits.fs_id; key_salt = ta.fits.key_salt; key_digest = ta.fits.key_digest; client = ta.fits.client } in
    let state : FitsState s = record { head = fits; least = ta.least; client = ta.from_one; lives = tb.fits; count = tb.count } in
    subst (λ (y : ℕ × List ℕ). FrontTaken bytes y) (some_is (a.0.0, f.0) x f.2)
    (record {
      s = s;
      list = entries.0.0;
      client = ta.client;
      takes = subst (λ (r : List ℕ). Takes bytes (tail_bytes s entries.0.0) r) entries.2 e1;
      has = record { state = state; entries = tc.1 };
    })

front_again : (s : PlainState) (list : List ListEntry) (rest : List ℕ) → HasRecord s list → front_past (tail_bytes s list ++ rest) ≡ Some (s.client, rest)
unfolding front_past table_at list_at
front_again s list rest has =
    let behind = list_bytes list ++ rest in
    let regrouped : tail_bytes s list ++ rest ≡ front_bytes s ++ (lives_bytes s.lives ++ behind) =
    append_assoc (front_bytes s) (lives_bytes s.lives ++ list_bytes list) rest ∙ ap (λ (x : List ℕ). front_bytes s ++ x) (append_assoc (lives_bytes s.lives) (list_bytes list) rest) in
    let client = client_again s (lives_bytes s.lives ++ behind) has.state.head has.state.least has.state.client in
    let a = bind_some (number_at w64 (lives_bytes s.lives ++ behind)) (λ n. lives_at n.0 zero_id fin.empty n.1) (s.lives, behind) (table_again s.lives behind has.state.lives has.state.count) in
    let rows : rows_at a.0.0 zero_id a.0.1 ≡ Some behind = sym (rows_end a.0.0 zero_id fin.empty a.0.1) ∙ ap (option_map {T = Lives × List ℕ} {U = List ℕ} (λ x. x.1)) a.2 in
    let b = bind_some (number_at w64 behind) (λ n. entries_at s.lives n.0 None [] n.1) (list, rest) (list_again s.lives list rest has.entries) in
    let entries : entries_past (said a.0) b.0.0 None b.0.1 ≡ Some rest =
    sym (entries_end (said a.0) s.lives (says a.0 (s.lives, behind) a.2) b.0.0 None [] b.0.1) ∙ ap (option_map {T = List ListEntry × List ℕ} {U = List ℕ} (λ x. x.1)) b.2 in
    ap (λ (x : List ℕ). client_at x >>= after_client) regrouped
    ∙ ap (λ (o : Option (ℕ × List ℕ)). o >>= after_client) client
    ∙ ap (λ (o : Option (ℕ × List ℕ)). o >>= after_number s.client) a.1
    ∙ ap (λ (o : Option (List ℕ)). o >>= after_rows s.client a.0) rows
    ∙ ap (λ (o : Option (ℕ × List ℕ)). o >>= after_count s.client a.0) b.1
    ∙ ap (λ (o : Option (List ℕ)). o >>= after_entries s.client) entries

-- ---- the whole

abbrev after_front : List ℕ → ℕ × List ℕ → Option ℕ
after_front bytes front = cond (are_others front.0 front.1) (Some (length bytes - length front.1)) None

-- a record of several clients that was recognised
pub record SplitTaken (bytes : List ℕ) (n : ℕ) : Type 0 where
  pub s : PlainState
  pub list : List ListEntry
  pub vs : List Version
  pub is : IsShared s list vs bytes
  pub len : n ≡ length (record_bytes s list)

guard_then : {A : Type 0} (b : Bool) (o : Option A) (y : A) → cond b o None ≡ Some y → (b ≡ true) × (o ≡ Some y)
guard_then true o y e = (refl, e)
guard_then false o y e = absurd cc

pub split_takes : (bytes : List ℕ) (n : ℕ) → IsBytes bytes → split_at bytes ≡ Some n → SplitTaken bytes n
unfolding split_at
split_takes bytes n small e =
    let g = guard_then (starts_with nat_eq bytes shared_magic) (front_past (drop 19 bytes) >>= after_front bytes) n e in
    let whole : bytes ≡ shared_magic ++ drop 19 bytes = sym (ap (λ (x : List ℕ). x ++ drop 19 bytes) ((bytes_decides shared_magic (take 19 bytes)).0 g.0) ∙ take-append-drop 19 bytes) in
    let a = bind_some (front_past (drop 19 bytes)) (after_front bytes) n g.1 in
    let h = guard_some (are_others a.0.0 a.0.1) (length bytes - length a.0.1) n a.2 in
    let t = front_takes (drop 19 bytes) a.0 (IsBytes-drop 19 bytes small) a.1 in
    let o = others_taken a.0.0 a.0.1 t.takes.rest_fits h.0 in
    let tail = tail_bytes t.s t.list in
    let parts : bytes ≡ shared_magic ++ (tail ++ a.0.1) = whole ∙ ap (λ (x : List ℕ). shared_magic ++ x) t.takes.parts in
    let long : length bytes ≡ length (shared_magic ++ (tail ++ a.0.1)) = ap length parts in
    let sum : length (tail ++ a.0.1) ≡ length tail + length a.0.1 = length-append tail a.0.1 in
    let front : length (record_bytes t.s t.list) ≡ length (magic_of Newer ++ tail) = ap length (record_is t.s t.list) in
    record {
      s = t.s;
      list = t.list;
      vs = o.vs;
      is = record {
        has = record { front = t.has; others = subst (λ (c : ℕ). FitsOthers c o.vs) (sym t.client) o.fits };
        is = parts ∙ ap (λ (x : List ℕ). shared_magic ++ (tail ++ x)) o.is ∙ ap (λ (x : List ℕ). shared_magic ++ (x ++ others_bytes o.vs)) (sym (tail_is t.s t.list));
      };
      len = omega (arith, sym h.1, long, sum, front);
    }

pub split_again : (s : PlainState) (list : List ListEntry) (vs : List Version) → HasShared s list vs → split_at (shared_bytes s list vs) ≡ Some (length (record_bytes s list))
unfolding split_at
split_again s list vs has =
    let tail = tail_bytes s list in
    let others = others_bytes vs in
    let bytes = shared_magic ++ (tail ++ others) in
    let parts : shared_bytes s list vs ≡ bytes = ap (λ (x : List ℕ). shared_magic ++ (x ++ others)) (tail_is s list) in
    let magic : pointwise nat_eq shared_magic (take 19 bytes) ≡ true = (bytes_decides shared_magic (take 19 bytes)).1 (sym (take_at shared_magic (tail ++ others) 19 refl)) in
    let behind : drop 19 bytes ≡ tail ++ others = drop_at shared_magic (tail ++ others) 19 refl in
    let front : front_past (drop 19 bytes) ≡ Some (s.client, others) = ap front_past behind ∙ front_again s list others has.front in
    let sum : length (tail ++ others) ≡ length tail + length others = length-append tail others in
    let one : length (record_bytes s list) ≡ length (magic_of Newer ++ tail) = ap length (record_is s list) in
    let len : length bytes - length others ≡ length (record_bytes s list) = omega (arith, sum, one) in
    ap split_at parts
    ∙ ap (λ (b : Bool). cond b (front_past (drop 19 bytes) >>= after_front bytes) None) magic
    ∙ ap (λ (o : Option (ℕ × List ℕ)). o >>= after_front bytes) front
    ∙ ap (λ (b : Bool). cond b (Some (length bytes - length others)) None) (are_again s.client vs has.others)
    ∙ ap Some len
