-- What stands before the known blocks, read and written.
use Rattle.std.proofs.Common.{◌≡◌, ℕ, ◌<◌, Bool, true, cond, List, [], ◌∷◌, ◌++◌, Option, Some, None, refl, ap, subst, ◌∙◌, append_assoc, arith}
use Rattle.std.specs.Prelude.{◌&&◌, nat_lt}
use Rattle.std.specs.Int.{w32, to_le_bytes}
use Rattle.std.specs.FinMap as fin
use Rattle.std.proofs.lemmas.Bool.{and_from, lt-ltb, ltb-true}
use Rattle.block_id.proofs.Conditions.{and_true}
use Rattle.byte_fields.specs.Fields.{IsBytes, front_at, number_at}
use Rattle.byte_fields.proofs.Fields.{Takes, Takes-then, front_takes, front_again, wide32, number_takes, number_again}
use Rattle.local_state.specs.Reading.{◌>>=◌, flag_at, least_in}
use Rattle.local_state.specs.Record.{PlainState, flag, IsLeast, FitsHead}
use Rattle.local_state.proofs.Fields.{IsBytes-rest, bind_some, guard_some, flag_takes, flag_again}
use Rattle.local_state.proofs.Tables.{true_ltb}
use Rattle.shared_records.specs.Scan.{client_at}

-- in form 2 it stands so behind the magic bytes
abbrev pub front_bytes : PlainState → List ℕ
front_bytes s = flag s.marked ∷ (s.least ∷ (s.fs_id ++ (s.key_salt ++ (s.key_digest ++ to_le_bytes w32 s.client))))

pub record ClientTaken (bytes : List ℕ) (x : ℕ × List ℕ) : Type 0 where
  pub s : PlainState
  pub client : s.client ≡ x.0
  pub takes : Takes bytes (front_bytes s) x.1
  pub fits : FitsHead s
  pub least : IsLeast s.least
  pub from_one : 0 < s.client

abbrev made : Bool → ℕ → List ℕ → List ℕ → List ℕ → ℕ → PlainState
made marked least fs_id key_salt key_digest client = record { marked = marked; least = least; fs_id = fs_id; key_salt = key_salt; key_digest = key_digest; client = client; lives = fin.empty }

abbrev after_client : ℕ × List ℕ → Option (ℕ × List ℕ)
after_client client = cond (nat_lt 0 client.0) (Some client) None

abbrev after_digest : List ℕ × List ℕ → Option (ℕ × List ℕ)
after_digest digest = number_at w32 digest.1 >>= after_client

abbrev after_salt : List ℕ × List ℕ → Option (ℕ × List ℕ)
after_salt salt = front_at 32 salt.1 >>= after_digest

abbrev after_id : List ℕ × List ℕ → Option (ℕ × List ℕ)
after_id fs_id = front_at 32 fs_id.1 >>= after_salt

abbrev after_least : ℕ × List ℕ → Option (ℕ × List ℕ)
after_least least = front_at 16 least.1 >>= after_id

abbrev after_mark : Bool × List ℕ → Option (ℕ × List ℕ)
after_mark marked = least_in marked.1 >>= after_least

least_takes : (bytes : List ℕ) (x : ℕ × List ℕ) → IsBytes bytes → least_in bytes ≡ Some x → Takes bytes (x.0 ∷ []) x.1 × IsLeast x.0
least_takes [] x small e = absurd cc
least_takes (n ∷ rest) x small e =
    let g = guard_some (nat_lt 0 n && nat_lt n 3) (n, rest) x e in
    let t = and_true (nat_lt 0 n) (nat_lt n 3) g.0 in
    let taken : Takes (n ∷ rest) (n ∷ []) rest = record { parts = refl; rest_fits = IsBytes-rest n rest small } in
    let least : IsLeast n = record { from_one = omega (arith, ltb-true 0 n t.0); to_two = omega (arith, ltb-true n 3 t.1) } in
    subst (λ (y : ℕ × List ℕ). Takes (n ∷ rest) (y.0 ∷ []) y.1 × IsLeast y.0) g.1 (taken, least)

pub client_takes : (bytes : List ℕ) (x : ℕ × List ℕ) → IsBytes bytes → client_at bytes ≡ Some x → ClientTaken bytes x
unfolding client_at
client_takes bytes x small e =
    let b = bind_some (flag_at bytes) after_mark x e in
    let l = bind_some (least_in b.0.1) after_least x b.2 in
    let c = bind_some (front_at 16 l.0.1) after_id x l.2 in
    let d = bind_some (front_at 32 c.0.1) after_salt x c.2 in
    let f = bind_some (front_at 32 d.0.1) after_digest x d.2 in
    let g = bind_some (number_at w32 f.0.1) after_client x f.2 in
    let h = guard_some (nat_lt 0 g.0.0) g.0 x g.2 in
    let tb = flag_takes bytes b.0 small b.1 in
    let tl = least_takes b.0.1 l.0 tb.rest_fits l.1 in
    let tc = front_takes 16 l.0.1 c.0 tl.0.rest_fits c.1 in
    let td = front_takes 32 c.0.1 d.0 tc.0.rest_fits d.1 in
    let tf = front_takes 32 d.0.1 f.0 td.0.rest_fits f.1 in
    let tg = number_takes wide32 f.0.1 g.0 tf.0.rest_fits g.1 in
    let client = to_le_bytes w32 g.0.0 in
    let e5 = Takes-then d.0.1 f.0.0 f.0.1 client g.0.1 tf.0 tg.0 in
    let e4 = Takes-then c.0.1 d.0.0 d.0.1 (f.0.0 ++ client) g.0.1 td.0 e5 in
    let e3 = Takes-then l.0.1 c.0.0 c.0.1 (d.0.0 ++ (f.0.0 ++ client)) g.0.1 tc.0 e4 in
    let el = Takes-then b.0.1 (l.0.0 ∷ []) l.0.1 (c.0.0 ++ (d.0.0 ++ (f.0.0 ++ client))) g.0.1 tl.0 e3 in
    let e2 = Takes-then bytes (flag b.0.0 ∷ []) b.0.1 (l.0.0 ∷ (c.0.0 ++ (d.0.0 ++ (f.0.0 ++ client)))) g.0.1 tb el in
    let s : PlainState = made b.0.0 l.0.0 c.0.0 d.0.0 f.0.0 g.0.0 in
    let fits : FitsHead s = record { fs_id = tc.1; key_salt = td.1; key_digest = tf.1; client = tg.1 } in
    subst (λ (y : ℕ × List ℕ). ClientTaken bytes y) h.1 (record { s = s; client = refl; takes = e2; fits = fits; least = tl.1; from_one = ltb-true 0 g.0.0 h.0 })

both_tests : (n : ℕ) → IsLeast n → (nat_lt 0 n && nat_lt n 3) ≡ true
both_tests n least = and_from _ _ (lt-ltb 0 n (omega (arith, least.from_one))) (lt-ltb n 3 (omega (arith, least.to_two)))

least_again : (n : ℕ) (rest : List ℕ) → IsLeast n → least_in (n ∷ rest) ≡ Some (n, rest)
least_again n rest least = ap (λ b. cond b (Some (n, rest)) None) (both_tests n least)

pub client_again : (s : PlainState) (rest : List ℕ) → FitsHead s → IsLeast s.least → 0 < s.client → client_at (front_bytes s ++ rest) ≡ Some (s.client, rest)
unfolding client_at
client_again s rest fits in_range from_one =
    let client = to_le_bytes w32 s.client in
    let parts = s.fs_id ++ (s.key_salt ++ (s.key_digest ++ (client ++ rest))) in
    let regrouped : front_bytes s ++ rest ≡ flag s.marked ∷ (s.least ∷ parts) =
    ap (λ (x : List ℕ). flag s.marked ∷ (s.least ∷ x)) (append_assoc s.fs_id (s.key_salt ++ (s.key_digest ++ client)) rest
    ∙ ap (λ (x : List ℕ). s.fs_id ++ x) (append_assoc s.key_salt (s.key_digest ++ client) rest
    ∙ ap (λ (x : List ℕ). s.key_salt ++ x) (append_assoc s.key_digest client rest))) in
    ap (λ (x : List ℕ). flag_at x >>= after_mark) regrouped
    ∙ rw (
      flag_again s.marked (s.least ∷ parts),
      least_again s.least parts in_range,
      front_again 16 s.fs_id (s.key_salt ++ (s.key_digest ++ (client ++ rest))) fits.fs_id,
      front_again 32 s.key_salt (s.key_digest ++ (client ++ rest)) fits.key_salt,
      front_again 32 s.key_digest (client ++ rest) fits.key_digest,
      number_again wide32 s.client rest fits.client,
      true_ltb s.client from_one,
    ) refl
