-- What is read is written so, and what is written so is read.
use Rattle.std.proofs.Common.{◌≡◌, ℕ, ◌+◌, ◌-◌, ◌*◌, ◌/◌, ◌^◌, ◌<◌, ◌≤◌, true, false, eqb, ltb, List, [], ◌∷◌, ◌++◌, length, get_or, take, drop, replicate, All, refl, sym, ap, subst, ◌∙◌, append_assoc, arith, inl, inr}
use Rattle.std.specs.Prelude.{not, ◌||◌, slice_index, Option, Some, None, Result, Ok, Err, IfOk, IfSome}
use Rattle.std.specs.Option.{option_map}
use Rattle.block_id.specs.declared.fail.Memory.{Memory}
use Rattle.block_id.specs.declared.id.BlockId.{BlockId}
use Rattle.data_nodes.specs.declared.node.Node.{Node}
use Rattle.std.specs.List.{concat}
use Rattle.std.specs.Int.{w16, w32, from_le_bytes}
use Rattle.std.proofs.lemmas.Bool.{cases_eq, eqb-true, eqb-false, not-false, or_parts, ltb-false, le-ltb, ne_eqb, eq-eqb, cond-true, cond-false}
use Rattle.std.proofs.lemmas.List.{take_at, drop_at, take-append-drop, length-append, length-take, length-replicate, map_push, map_more, append-nil, take_all}
use Rattle.std.proofs.lemmas.Option.{same_Some}
use Rattle.std.proofs.lemmas.List.Folds.{concat-append}
use Rattle.std.proofs.lemmas.List.Elements.{All-more, All-map}
use Rattle.byte_fields.specs.Fields.{IsBytes}
use Rattle.byte_fields.proofs.Fields.{IsBytes-take, IsBytes-drop, some_behind, wide32}
use Rattle.data_nodes.specs.Layout.{NodeText, node_of, ids_of, size_of, leaf, inner, header, text_of, HasTypes, FitsPayload, IsNode}
use Rattle.data_nodes.specs.Reading.{is_zeros, cut, leaf_in, inner_in, contents_at, node_at}
use Rattle.data_nodes.proofs.Fields.{zeros_are, zeros_again, filled, cut_next, length-cut, concat-cut, cut_ids, cut_again, length-concat_ids, header_takes, header_again}

-- contents that are a body of this length and zeros
split_fill : (len : ℕ) (contents : List ℕ) → is_zeros (drop len contents) ≡ true → contents ≡ take len contents ++ replicate (length (drop len contents)) 0
split_fill len contents zeros = sym (take-append-drop len contents) ∙ ap (λ rest. take len contents ++ rest) (zeros_are (drop len contents) zeros)

leaf_takes : (payload contents : List ℕ) (size : ℕ) (node : NodeText) → size < 2 ^ 32 → payload ≡ header 0 size ++ contents → leaf_in size contents ≡ Some node → IsNode payload node
unfolding leaf_in
leaf_takes payload contents size node small whole e =
    let behind = some_behind (ltb (length contents) size || not (is_zeros (drop size contents))) (Some (leaf (take size contents))) node e in
    let tests = or_parts (ltb (length contents) size) (not (is_zeros (drop size contents))) behind.0 in
    let room : size ≤ length contents = ltb-false _ _ tests.0 in
    let body = take size contents in
    let len : length body ≡ size = omega (arith, length-take size contents) in
    let named : payload ≡ header 0 (length body) ++ contents = whole ∙ ap (λ n. header 0 n ++ contents) (sym len) in
    let text = filled payload (header 0 (length body)) contents body (length (drop size contents)) named (split_fill size contents (not-false _ tests.1)) in
    let whole_len : length payload ≡ 8 + length contents = ap length named ∙ length-append (header 0 (length body)) contents in
    let is : leaf body ≡ node = cc (behind.1) in
    subst (IsNode payload) is (record { types = omega arith; fits = omega arith; text = text })

inner_takes : (payload contents : List ℕ) (depth size : ℕ) (node : NodeText) → depth < 2 ^ 8 → 0 < depth → size < 2 ^ 32 → payload ≡ header depth size ++ contents → inner_in depth size contents ≡ Some node → IsNode payload node
unfolding inner_in
inner_takes payload contents depth size node byte deep small whole e =
    let body = take (size * 16) contents in
    let rest = drop (size * 16) contents in
    let behind = some_behind (eqb size 0 || ltb (length contents / 16) size || not (is_zeros rest)) (Some (inner depth (cut size body))) node e in
    let tests = or_parts (eqb size 0 || ltb (length contents / 16) size) (not (is_zeros rest)) behind.0 in
    let sizes = or_parts (eqb size 0) (ltb (length contents / 16) size) tests.0 in
    let some : size ≡ 0 → ⊥ = eqb-false _ _ sizes.0 in
    let room : size ≤ length contents / 16 = ltb-false _ _ sizes.1 in
    let body_len : length body ≡ size * 16 = omega (arith, length-take (size * 16) contents) in
    let count : length (cut size body) ≡ size = length-cut size body in
    let joined : concat (cut size body) ≡ body = concat-cut size body body_len in
    let named : payload ≡ header depth (length (cut size body)) ++ contents = whole ∙ ap (λ n. header depth n ++ contents) (sym count) in
    let parts : contents ≡ concat (cut size body) ++ replicate (length rest) 0 = split_fill (size * 16) contents (not-false _ tests.1) ∙ ap (λ b. b ++ replicate (length rest) 0) (sym joined) in
    let text = filled payload (header depth (length (cut size body))) contents (concat (cut size body)) (length rest) named parts in
    let whole_len : length payload ≡ 8 + length contents = ap length named ∙ length-append (header depth (length (cut size body))) contents in
    let is : inner depth (cut size body) ≡ node = cc (behind.1) in
    subst (IsNode payload) is (record {
      types = (byte, omega arith, cut_ids size body body_len);
      fits = (deep, omega arith, omega arith);
      text = text;
    })

pub node_takes : (payload : List ℕ) (node : NodeText) → IsBytes payload → node_at payload ≡ Some node → IsNode payload node
unfolding node_at
node_takes payload node fits e =
    let depth = slice_index payload 3 in
    let size = from_le_bytes w32 (take 4 (drop 4 payload)) in
    let contents = drop 8 payload in
    let behind = some_behind (ltb (length payload) 8 || not (eqb (from_le_bytes w16 (take 2 payload)) 0) || not (eqb (slice_index payload 2) 0)) (contents_at depth size contents) node e in
    let tests = or_parts (ltb (length payload) 8 || not (eqb (from_le_bytes w16 (take 2 payload)) 0)) (not (eqb (slice_index payload 2) 0)) behind.0 in
    let front = or_parts (ltb (length payload) 8) (not (eqb (from_le_bytes w16 (take 2 payload)) 0)) tests.0 in
    let whole = header_takes payload fits (ltb-false _ _ front.0) (eqb-true _ _ (not-false _ front.1)) (eqb-true _ _ (not-false _ tests.1)) in
    let small : size < 2 ^ 32 = wide32.below (take 4 (drop 4 payload)) (IsBytes-take 4 (drop 4 payload) (IsBytes-drop 4 payload fits)) in
    elim (cases_eq depth 0) [
      | inl none ↦ leaf_takes payload contents size node small (whole ∙ ap (λ d. header d size ++ contents) none) (rw (← cond-true (eqb depth 0) (leaf_in size contents) (inner_in depth size contents) (eq-eqb _ _ none)) behind.1)
      | inr some ↦ inner_takes payload contents depth size node (fits 3) (omega arith) small whole (rw (← cond-false (eqb depth 0) (leaf_in size contents) (inner_in depth size contents) (ne_eqb _ _ some)) behind.1)
    ]

leaf_again : (bytes : List ℕ) (fill : ℕ) → leaf_in (length bytes) (bytes ++ replicate fill 0) ≡ Some (leaf bytes)
unfolding leaf_in
leaf_again bytes fill =
    let room : ltb (length (bytes ++ replicate fill 0)) (length bytes) ≡ false = le-ltb _ _ (omega (arith, length-append bytes (replicate fill 0))) in
    rw (room, take_at bytes (replicate fill 0) (length bytes) refl, drop_at bytes (replicate fill 0) (length bytes) refl, zeros_again fill) refl

inner_again : (depth : ℕ) (ids : List (List ℕ)) (fill : ℕ) → 0 < length ids → All (λ id. length id ≡ 16) ids → inner_in depth (length ids) (concat ids ++ replicate fill 0) ≡ Some (inner depth ids)
unfolding inner_in
inner_again depth ids fill some each =
    let len : length (concat ids) ≡ length ids * 16 = length-concat_ids ids each in
    let not_none : eqb (length ids) 0 ≡ false = ne_eqb _ _ (λ e. absurd (omega arith)) in
    let room : ltb (length (concat ids ++ replicate fill 0) / 16) (length ids) ≡ false = le-ltb _ _ (omega (arith, length-append (concat ids) (replicate fill 0))) in
    rw (not_none, room, take_at (concat ids) (replicate fill 0) (length ids * 16) len, drop_at (concat ids) (replicate fill 0) (length ids * 16) len, zeros_again fill, cut_again ids each) refl

pub node_again : (payload : List ℕ) (node : NodeText) → IsNode payload node → node_at payload ≡ Some node
node_again payload (leaf bytes) is =
    let fill = length payload - length (header 0 (length bytes) ++ bytes) in
    let grouped : payload ≡ header 0 (length bytes) ++ (bytes ++ replicate fill 0) = is.text ∙ append_assoc (header 0 (length bytes)) bytes (replicate fill 0) in
    ap node_at grouped ∙ header_again 0 (length bytes) (bytes ++ replicate fill 0) is.types ∙ leaf_again bytes fill
node_again payload (inner depth ids) is =
    let fill = length payload - length (header depth (length ids) ++ concat ids) in
    let contents = concat ids ++ replicate fill 0 in
    let grouped : payload ≡ header depth (length ids) ++ contents = is.text ∙ append_assoc (header depth (length ids)) (concat ids) (replicate fill 0) in
    let deep : eqb depth 0 ≡ false = ne_eqb _ _ (λ e. absurd (omega (arith, is.fits))) in
    ap node_at grouped ∙ header_again depth (length ids) contents is.types.1 ∙ cond-false (eqb depth 0) (leaf_in (length ids) contents) (inner_in depth (length ids) contents) deep ∙ inner_again depth ids fill is.fits.1 is.types.2

-- ---- for the code's answers

found_at : (payload : List ℕ) (answer : Option Node) → IsBytes payload → option_map node_of answer ≡ node_at payload → IfSome answer (λ node. IsNode payload (node_of node))
found_at payload None fits e = tt
found_at payload (Some node) fits e = node_takes payload (node_of node) fits (sym e)

pub read_is_found : (payload : List ℕ) (r : Result (Option Node) Memory) → IsBytes payload → IfOk r (λ answer. option_map node_of answer ≡ node_at payload)
    → IfOk r (λ answer. IfSome answer (λ node. IsNode payload (node_of node)))
read_is_found payload (Ok answer) fits e = found_at payload answer fits e
read_is_found payload (Err m) fits e = tt

pub read_is_only : (payload : List ℕ) (r : Result (Option Node) Memory) → IfOk r (λ answer. option_map node_of answer ≡ node_at payload)
    → IfOk r (λ answer. (node : NodeText) → IsNode payload node → option_map node_of answer ≡ Some node)
read_is_only payload (Ok answer) e = λ node is. e ∙ node_again payload node is
read_is_only payload (Err m) e = tt

-- ids, one more
pub next_id : (ids : List BlockId) (id : BlockId) (rest after : List ℕ) (total : List (List ℕ)) → ids_of ids ++ cut (length rest / 16) rest ≡ total
    → 16 ≤ length rest → id.0 ≡ take 16 rest → after ≡ drop 16 rest → ids_of (ids ++ id ∷ []) ++ cut (length after / 16) after ≡ total
next_id ids id rest after total so_far long first left =
    ap (λ xs. xs ++ cut (length after / 16) after) (map_push (λ x. x.0) ids id)
    ∙ append_assoc (ids_of ids) (id.0 ∷ []) (cut (length after / 16) after)
    ∙ ap (λ xs. ids_of ids ++ xs) (ap (λ x. x ∷ cut (length after / 16) after) first ∙ ap (λ x. take 16 rest ∷ cut (length x / 16) x) left ∙ sym (cut_next rest long))
    ∙ so_far

pub sized : (payload : ℕ) (node : NodeText) → payload ≤ 1048576 → FitsPayload payload node → size_of node < 2 ^ 32
sized payload (leaf bytes) most fits = omega arith
sized payload (inner depth ids) most fits = omega (arith, fits)

pub length-text : (payload : ℕ) (node : NodeText) → 8 ≤ payload → HasTypes node → FitsPayload payload node → length (text_of node) ≤ payload
length-text payload (leaf bytes) least types fits = omega (arith, length-append (header 0 (length bytes)) bytes)
length-text payload (inner depth ids) least types fits = omega (arith, fits, length-append (header depth (length ids)) (concat ids), length-concat_ids ids types.2)

pub written : (payload : ℕ) (node : NodeText) (text bytes : List ℕ) (len : ℕ) → 50 ≤ payload → HasTypes node → FitsPayload payload node
    → text ≡ text_of node → len ≡ length text → bytes ≡ take payload text ++ replicate (payload - len) 0 → IsNode bytes node
written payload node text bytes len least types fits is sized made =
    let short : length text ≤ payload = omega (arith, ap length is, length-text payload node (omega arith) types fits) in
    let whole : bytes ≡ text ++ replicate (payload - len) 0 = made ∙ ap (λ t. t ++ replicate (payload - len) 0) (take_all payload text short) in
    let total : length bytes ≡ payload = ap length whole ∙ length-append text (replicate (payload - len) 0) ∙ ap (λ n. length text + n) (length-replicate (payload - len) 0) ∙ omega arith in
    record {
      types = types;
      fits = subst (λ n. FitsPayload n node) (sym total) fits;
      text = whole ∙ ap (λ t. t ++ replicate (payload - len) 0) is ∙ ap (λ n. text_of node ++ replicate n 0) (omega (arith, ap length is));
    }

-- ids that are written, one more
pub concat-next_id : (front : List ℕ) (ids : List BlockId) (i : ℕ) (d : BlockId) (out : List ℕ) → i < length ids → out ≡ front ++ concat (ids_of (take i ids))
    → out ++ (get_or ids i d).0 ≡ front ++ concat (ids_of (take (i + 1) ids))
concat-next_id front ids i d out lt so_far =
    let more : ids_of (take (i + 1) ids) ≡ ids_of (take i ids) ++ (get_or ids i d).0 ∷ [] = map_more (λ id. id.0) ids i d lt in
    let joined : concat (ids_of (take (i + 1) ids)) ≡ concat (ids_of (take i ids)) ++ (get_or ids i d).0 =
    ap concat more ∙ concat-append (ids_of (take i ids)) ((get_or ids i d).0 ∷ []) ∙ ap (λ x. concat (ids_of (take i ids)) ++ x) (append-nil (get_or ids i d).0) in
    ap (λ x. x ++ (get_or ids i d).0) so_far ∙ append_assoc front (concat (ids_of (take i ids))) (get_or ids i d).0 ∙ ap (λ x. front ++ x) (sym joined)

pub sized_next : (ids : List BlockId) (i : ℕ) (d : BlockId) → i < length ids → length (get_or ids i d).0 ≡ 16 → All (λ id. length id.0 ≡ 16) (take i ids) → All (λ id. length id.0 ≡ 16) (take (i + 1) ids)
sized_next ids i d lt len each = All-more (λ id. length id.0 ≡ 16) ids i d lt each len

pub sized_all : (ids : List BlockId) (i : ℕ) → length ids ≤ i → All (λ id. length id.0 ≡ 16) (take i ids) → All (λ id. length id ≡ 16) (ids_of ids)
sized_all ids i all each = All-map (λ id. length id ≡ 16) (λ id. id.0) ids (subst (All (λ id. length id.0 ≡ 16)) (take_all i ids all) each)

pub one_node : (payload : List ℕ) (one other : NodeText) → IsNode payload one → IsNode payload other → one ≡ other
one_node payload one other first second = same_Some one other (sym (node_again payload one first) ∙ node_again payload other second)
