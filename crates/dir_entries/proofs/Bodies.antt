-- Entries one after the other, in the order of their names.
use Rattle.std.proofs.Common.{◌≡◌, ℕ, suc, ◌+◌, ◌-◌, ◌<◌, ◌≤◌, true, false, List, [], ◌∷◌, ◌++◌, length, get_or, take, All, refl, sym, ap, subst, ◌∙◌, append_assoc, arith}
use Rattle.std.specs.Prelude.{◌&&◌, Some, None}
use Rattle.std.specs.Ordering.{is_lt}
use Rattle.std.specs.FinMap.{is_sorted}
use Rattle.std.specs.FinMap.Entries.{below_all}
use Rattle.std.proofs.lemmas.Bool.{and_parts, and_from}
use Rattle.std.proofs.lemmas.Cmp.{nat_list_cmp_total}
use Rattle.std.proofs.lemmas.List.{append-nil, nil_from_length, length-append, length-map, get_or-map, map_more, take_all}
use Rattle.std.proofs.lemmas.List.Concat.{flat_map-append, flat_map-cons}
use Rattle.std.proofs.lemmas.List.Elements.{All-nil, All-push, All-head, All-tail, All-more, All-map}
use Rattle.std.proofs.lemmas.Option.{some_pair_parts}
use Rattle.std.specs.Int.{w32, w64, to_le_bytes}
use Rattle.block_id.proofs.Orders.{less_is}
use Rattle.fs_model.specs.declared.attr.Attr.{Attr}
use Rattle.fs_model.specs.Instant.{Instant}
use Rattle.fs_model.specs.Kinds.{byte_of}
use Rattle.fs_model.specs.declared.limits.TheConstants.{MAX_MODE}
use Rattle.fs_model.specs.Tree.{name_cmp}
use Rattle.byte_fields.specs.Fields.{IsBytes}
use Rattle.dir_entries.specs.declared.entry.Entry.{Entry}
use Rattle.dir_entries.specs.Layout.{EntryTarget, Listing, entry_of, listing_of, moment_text, attr_text, entry_text, body_of, IsEntry, IsInOrder, HasModes, IsListing, IsBody}
use Rattle.dir_entries.specs.Reading.{kind_of, access_at, attr_at, entry_at, rises}
use Rattle.dir_entries.proofs.EntryCodec.{entry_codec}

-- ---- order

rises_on : (a b c : List ℕ) → is_lt (name_cmp a b) ≡ true → is_lt (name_cmp b c) ≡ true → is_lt (name_cmp a c) ≡ true
rises_on a b c first second = ap is_lt (nat_list_cmp_total.trans a b c (less_is _ first) (less_is _ second))

pub below_at : (name : List ℕ) (front : Listing) (e : List ℕ × EntryTarget) (back : Listing) → below_all name_cmp name (front ++ e ∷ back) ≡ true → is_lt (name_cmp name e.0) ≡ true
below_at name [] e back below = (and_parts (is_lt (name_cmp name e.0)) (below_all name_cmp name back) below).0
below_at name (f ∷ front) e back below = below_at name front e back (and_parts (is_lt (name_cmp name f.0)) (below_all name_cmp name (front ++ e ∷ back)) below).1

below_push : (name : List ℕ) (front : Listing) (e : List ℕ × EntryTarget) → below_all name_cmp name front ≡ true → is_lt (name_cmp name e.0) ≡ true → below_all name_cmp name (front ++ e ∷ []) ≡ true
below_push name [] e below lt = and_from (is_lt (name_cmp name e.0)) true lt refl
below_push name (f ∷ front) e below lt =
    let parts = and_parts (is_lt (name_cmp name f.0)) (below_all name_cmp name front) below in
    and_from (is_lt (name_cmp name f.0)) (below_all name_cmp name (front ++ e ∷ [])) parts.0 (below_push name front e parts.1 lt)

sorted_push : (listing : Listing) (e : List ℕ × EntryTarget) → IsInOrder listing → rises listing e.0 ≡ true → IsInOrder (listing ++ e ∷ [])
sorted_push [] e sorted up = refl
sorted_push (x ∷ []) e sorted up = and_from (is_lt (name_cmp x.0 e.0) && true) true (and_from (is_lt (name_cmp x.0 e.0)) true up refl) refl
sorted_push (x ∷ y ∷ listing) e sorted up =
    let parts = and_parts (below_all name_cmp x.0 (y ∷ listing)) (is_sorted name_cmp (y ∷ listing)) sorted in
    let rest : is_sorted name_cmp ((y ∷ listing) ++ e ∷ []) ≡ true = sorted_push (y ∷ listing) e parts.1 up in
    let first : is_lt (name_cmp x.0 y.0) ≡ true = (and_parts (is_lt (name_cmp x.0 y.0)) (below_all name_cmp x.0 listing) parts.0).0 in
    let next = and_parts (below_all name_cmp y.0 (listing ++ e ∷ [])) (is_sorted name_cmp (listing ++ e ∷ [])) rest in
    let last : is_lt (name_cmp x.0 e.0) ≡ true = rises_on x.0 y.0 e.0 first (below_at y.0 listing e [] next.0) in
    and_from (below_all name_cmp x.0 ((y ∷ listing) ++ e ∷ [])) (is_sorted name_cmp ((y ∷ listing) ++ e ∷ [])) (below_push x.0 (y ∷ listing) e parts.0 last) rest

sorted_rises : (front : Listing) (e : List ℕ × EntryTarget) (back : Listing) → IsInOrder (front ++ e ∷ back) → rises front e.0 ≡ true
sorted_rises [] e back sorted = refl
sorted_rises (x ∷ []) e back sorted =
    (and_parts (is_lt (name_cmp x.0 e.0)) (below_all name_cmp x.0 back) (and_parts (below_all name_cmp x.0 (e ∷ back)) (is_sorted name_cmp (e ∷ back)) sorted).0).0
sorted_rises (x ∷ y ∷ front) e back sorted =
    sorted_rises (y ∷ front) e back (and_parts (below_all name_cmp x.0 ((y ∷ front) ++ e ∷ back)) (is_sorted name_cmp ((y ∷ front) ++ e ∷ back)) sorted).1

pub rises-last : (entries : List Entry) (d : Entry) (name : List ℕ) → 0 < length entries → rises (listing_of entries) name ≡ is_lt (name_cmp (get_or entries (length entries - 1) d).name name)
rises-last [] d name some = absurd (omega arith)
rises-last (x ∷ []) d name some = refl
rises-last (x ∷ y ∷ entries) d name some =
    let last : length (x ∷ y ∷ entries) - 1 ≡ suc (length (y ∷ entries) - 1) = omega arith in
    rises-last (y ∷ entries) d name (omega arith) ∙ ap (λ i. is_lt (name_cmp (get_or (x ∷ y ∷ entries) i d).name name)) (sym last)

-- ---- bodies

-- the entries so far are read from the front, and each list of entries for this body goes on with those of the rest
pub record Reads (body : List ℕ) (listing : Listing) (rest : List ℕ) : Type 0 where
  pub parts : body ≡ body_of listing ++ rest
  pub bytes : IsBytes rest
  pub entries : IsListing listing
  pub others : (all : Listing) → IsBody body all → (back : Listing) × (all ≡ listing ++ back) × (rest ≡ body_of back)

pub reads_none : (body : List ℕ) → IsBytes body → Reads body [] body
reads_none body fits = record {
  parts = refl;
  bytes = fits;
  entries = record { entries = All-nil IsEntry; order = refl };
  others = λ all is. (all, refl, is.text);
}

nothing_read : (e : List ℕ × EntryTarget) (after : List ℕ) → entry_at [] ≡ Some (e, after) → ⊥
unfolding entry_at attr_at access_at kind_of
nothing_read e after found = absurd cc

pub All-at : (front : Listing) (e : List ℕ × EntryTarget) (back : Listing) → All IsEntry (front ++ e ∷ back) → IsEntry e
All-at [] e back each = All-head IsEntry e back each
All-at (f ∷ front) e back each = All-at front e back (All-tail IsEntry f (front ++ e ∷ back) each)

reads_first : (listing : Listing) (rest : List ℕ) (f : List ℕ × EntryTarget) (others all : Listing) → IsListing all → all ≡ listing ++ f ∷ others → rest ≡ body_of (f ∷ others) → entry_at rest ≡ Some (f, body_of others)
reads_first listing rest f others all is split left =
    let entry : IsEntry f = All-at listing f others (subst (All IsEntry) split is.entries) in
    ap entry_at (left ∙ flat_map-cons entry_text f others) ∙ entry_codec.again f (body_of others) entry

-- where an entry stands in front, it is the next of each list of entries
pub next_of : (listing : Listing) (rest : List ℕ) (e : List ℕ × EntryTarget) (after : List ℕ) → entry_at rest ≡ Some (e, after)
    → (all back : Listing) → IsListing all → all ≡ listing ++ back → rest ≡ body_of back → (others : Listing) × (all ≡ listing ++ e ∷ others) × (after ≡ body_of others)
next_of listing rest e after found all [] is split left = absurd (nothing_read e after (ap entry_at (sym left) ∙ found))
next_of listing rest e after found all (f ∷ others) is split left =
    let same = some_pair_parts e f after (body_of others) (sym found ∙ reads_first listing rest f others all is split left) in
    (others, split ∙ ap (λ x. listing ++ x ∷ others) (sym same.0), same.1)

pub reads_next : (body : List ℕ) (listing : Listing) (rest : List ℕ) (e : List ℕ × EntryTarget) (after : List ℕ) → Reads body listing rest → entry_at rest ≡ Some (e, after) → rises listing e.0 ≡ true
    → Reads body (listing ++ e ∷ []) after
reads_next body listing rest e after reads found up =
    let took = entry_codec.takes rest e after reads.bytes found in
    let joined : body_of (listing ++ e ∷ []) ≡ body_of listing ++ entry_text e =
    flat_map-append entry_text listing (e ∷ []) ∙ ap (λ x. body_of listing ++ x) (append-nil (entry_text e)) in
    record {
      parts = reads.parts ∙ ap (λ x. body_of listing ++ x) took.0.parts ∙ sym (append_assoc (body_of listing) (entry_text e) after) ∙ ap (λ x. x ++ after) (sym joined);
      bytes = took.0.rest_fits;
      entries = record { entries = All-push IsEntry listing e reads.entries.entries took.1; order = sorted_push listing e reads.entries.order up };
      others = λ all is.
          let back = reads.others all is in
          let next = next_of listing rest e after found all back.0 is.entries back.1 back.2 in
          (next.0, next.1 ∙ sym (append_assoc listing (e ∷ []) next.0), next.2);
    }

-- an entry stands in front of what isn't empty
pub first_entry : (listing : Listing) (rest : List ℕ) (all back : Listing) → IsListing all → all ≡ listing ++ back → rest ≡ body_of back → 0 < length rest
    → (e : List ℕ × EntryTarget) × (after : List ℕ) × (entry_at rest ≡ Some (e, after))
first_entry listing rest all [] is split left some = absurd (omega (arith, ap length left))
first_entry listing rest all (f ∷ others) is split left some = (f, body_of others, reads_first listing rest f others all is split left)

pub stuck : (listing : Listing) (rest : List ℕ) (all back : Listing) → IsListing all → all ≡ listing ++ back → rest ≡ body_of back → 0 < length rest → entry_at rest ≡ None → ⊥
stuck listing rest all back is split left some none = absurd (cc ((first_entry listing rest all back is split left some).2, none))

-- what isn't an entry is no entry's text
pub reads_stuck : (body : List ℕ) (listing : Listing) (rest : List ℕ) → Reads body listing rest → 0 < length rest → entry_at rest ≡ None → (all : Listing) → IsBody body all → ⊥
reads_stuck body listing rest reads some none all is =
    let back = reads.others all is in
    stuck listing rest all back.0 is.entries back.1 back.2 some none

-- an entry whose name isn't above that of the last one is in no order
pub reads_unordered : (body : List ℕ) (listing : Listing) (rest : List ℕ) (e : List ℕ × EntryTarget) (after : List ℕ) → Reads body listing rest → entry_at rest ≡ Some (e, after) → rises listing e.0 ≡ false
    → (all : Listing) → IsBody body all → ⊥
reads_unordered body listing rest e after reads found down all is =
    let back = reads.others all is in
    let next = next_of listing rest e after found all back.0 is.entries back.1 back.2 in
    let up : rises listing e.0 ≡ true = sorted_rises listing e next.0 (subst IsInOrder next.1 is.entries.order) in
    absurd (cc (up, down))

pub reads_end : (body : List ℕ) (listing : Listing) (rest : List ℕ) → Reads body listing rest → length rest ≡ 0 → IsBody body listing
reads_end body listing rest reads none = record {
  entries = reads.entries;
  text = reads.parts ∙ ap (λ x. body_of listing ++ x) (nil_from_length rest none) ∙ append-nil (body_of listing);
}

pub no_more : (back : Listing) → length (body_of back) ≡ 0 → back ≡ []
unfolding entry_text attr_text
no_more [] none = refl
no_more (e ∷ back) none = absurd (omega arith)

pub reads_only : (body : List ℕ) (listing : Listing) (rest : List ℕ) → Reads body listing rest → length rest ≡ 0 → (all : Listing) → IsBody body all → listing ≡ all
reads_only body listing rest reads none all is =
    let back = reads.others all is in
    let nothing : back.0 ≡ [] = no_more back.0 (sym (ap length back.2) ∙ none) in
    sym (back.1 ∙ ap (λ x. listing ++ x) nothing ∙ append-nil listing)

pub after_shorter : (rest : List ℕ) (e : List ℕ × EntryTarget) (after : List ℕ) → IsBytes rest → entry_at rest ≡ Some (e, after) → length after < length rest
unfolding entry_text attr_text
after_shorter rest e after fits found =
    let took = entry_codec.takes rest e after fits found in
    omega (arith, ap length took.0.parts, length-append (entry_text e) after)

tail_of : (e : List ℕ × EntryTarget) (listing : Listing) → IsListing (e ∷ listing) → IsListing listing
tail_of e listing is = record {
  entries = All-tail IsEntry e listing is.entries;
  order = (and_parts (below_all name_cmp e.0 listing) (is_sorted name_cmp listing) is.order).1;
}

same_text : (one other : Listing) → IsListing one → IsListing other → body_of one ≡ body_of other → one ≡ other
same_text [] other first second e = sym (no_more other (sym (ap length e)))
same_text (x ∷ one) [] first second e = no_more (x ∷ one) (ap length e)
same_text (x ∷ one) (y ∷ other) first second e =
    let left = reads_first [] (body_of (x ∷ one)) x one (x ∷ one) first refl refl in
    let right = reads_first [] (body_of (x ∷ one)) y other (y ∷ other) second refl e in
    let heads = some_pair_parts x y (body_of one) (body_of other) (sym left ∙ right) in
    let tails = same_text one other (tail_of x one first) (tail_of y other second) heads.1 in
    ap (λ z. z ∷ one) heads.0 ∙ ap (λ zs. y ∷ zs) tails

-- two lists of entries with one text
pub one_listing : (body : List ℕ) (one other : Listing) → IsBody body one → IsBody body other → one ≡ other
one_listing body one other first second = same_text one other first.entries second.entries (sym first.text ∙ second.text)

-- ---- writing

pub appended : (before middle after first second : List ℕ) → middle ≡ before ++ first → after ≡ middle ++ second → after ≡ before ++ (first ++ second)
appended before middle after first second p q = q ∙ ap (λ x. x ++ second) p ∙ append_assoc before first second

pub moment_put : (before middle after : List ℕ) (m : Instant) (secs nanos : ℕ) → secs ≡ m.secs → nanos ≡ m.nanos → middle ≡ before ++ to_le_bytes w64 secs → after ≡ middle ++ to_le_bytes w32 nanos
    → after ≡ before ++ moment_text m
unfolding moment_text
moment_put before middle after m secs nanos first second p q =
    appended before middle after (to_le_bytes w64 m.secs) (to_le_bytes w32 m.nanos) (p ∙ ap (λ n. before ++ to_le_bytes w64 n) first) (q ∙ ap (λ n. middle ++ to_le_bytes w32 n) second)

-- the lists after each field
pub attr_put : (before kind mode uid gid atime mtime ctime : List ℕ) (a : Attr) (byte : ℕ) → byte ≡ byte_of a.kind → kind ≡ before ++ byte ∷ [] → mode ≡ kind ++ to_le_bytes w32 a.mode
    → uid ≡ mode ++ to_le_bytes w32 a.uid → gid ≡ uid ++ to_le_bytes w32 a.gid → atime ≡ gid ++ moment_text a.atime → mtime ≡ atime ++ moment_text a.mtime → ctime ≡ mtime ++ moment_text a.ctime
    → ctime ≡ before ++ attr_text a
unfolding attr_text
attr_put before kind mode uid gid atime mtime ctime a byte is e0 e1 e2 e3 e4 e5 e6 =
    let first = appended kind mode uid (to_le_bytes w32 a.mode) (to_le_bytes w32 a.uid) e1 e2 in
    let second = appended kind uid gid (to_le_bytes w32 a.mode ++ to_le_bytes w32 a.uid) (to_le_bytes w32 a.gid) first e3 in
    let access : List ℕ = to_le_bytes w32 a.mode ++ to_le_bytes w32 a.uid ++ to_le_bytes w32 a.gid in
    let third = appended kind gid atime access (moment_text a.atime) second e4 in
    let fourth = appended kind atime mtime (access ++ moment_text a.atime) (moment_text a.mtime) third e5 in
    let fifth = appended kind mtime ctime (access ++ moment_text a.atime ++ moment_text a.mtime) (moment_text a.ctime) fourth e6 in
    let all : List ℕ = access ++ moment_text a.atime ++ moment_text a.mtime ++ moment_text a.ctime in
    appended before kind ctime (byte_of a.kind ∷ []) all (e0 ∙ ap (λ b. before ++ b ∷ []) is) fifth

pub mode_at : (entries : List Entry) (i : ℕ) (e : Entry) → HasModes (listing_of entries) → i < length entries → e ≡ get_or entries i e → e.attr.mode ≤ MAX_MODE
mode_at entries i e modes lt is =
    let at : get_or (listing_of entries) i (entry_of e) ≡ entry_of (get_or entries i e) = get_or-map entry_of entries i e (entry_of e) lt in
    let mode : (get_or (listing_of entries) i (entry_of e)).1.attr.mode ≤ MAX_MODE = modes i (entry_of e) (omega (arith, length-map entries entry_of)) in
    subst (λ (x : List ℕ × EntryTarget). x.1.attr.mode ≤ MAX_MODE) (at ∙ ap entry_of (sym is)) mode

pub body_next : (entries : List Entry) (i : ℕ) (e : Entry) (out after : List ℕ) → i < length entries → e ≡ get_or entries i e → out ≡ body_of (listing_of (take i entries))
    → after ≡ out ++ entry_text (entry_of e) → after ≡ body_of (listing_of (take (i + 1) entries))
body_next entries i e out after lt is so_far put =
    let more : listing_of (take (i + 1) entries) ≡ listing_of (take i entries) ++ entry_of e ∷ [] =
    map_more entry_of entries i e lt ∙ ap (λ x. listing_of (take i entries) ++ entry_of x ∷ []) (sym is) in
    let joined : body_of (listing_of (take (i + 1) entries)) ≡ body_of (listing_of (take i entries)) ++ entry_text (entry_of e) =
    ap body_of more ∙ flat_map-append entry_text (listing_of (take i entries)) (entry_of e ∷ []) ∙ ap (λ x. body_of (listing_of (take i entries)) ++ x) (append-nil (entry_text (entry_of e))) in
    put ∙ ap (λ x. x ++ entry_text (entry_of e)) so_far ∙ sym joined

pub types_next : (entries : List Entry) (i : ℕ) (e : Entry) → i < length entries → e ≡ get_or entries i e → IsEntry (entry_of e) → All (λ x. IsEntry (entry_of x)) (take i entries)
    → All (λ x. IsEntry (entry_of x)) (take (i + 1) entries)
types_next entries i e lt is entry each = All-more (λ x. IsEntry (entry_of x)) entries i e lt each (subst (λ x. IsEntry (entry_of x)) is entry)

pub body_whole : (entries : List Entry) (i : ℕ) (out : List ℕ) → length entries ≤ i → IsInOrder (listing_of entries) → out ≡ body_of (listing_of (take i entries)) → All (λ x. IsEntry (entry_of x)) (take i entries)
    → IsBody out (listing_of entries)
body_whole entries i out all order text each =
    let whole : take i entries ≡ entries = take_all i entries all in
    record {
      entries = record { entries = All-map IsEntry entry_of entries (subst (All (λ x. IsEntry (entry_of x))) whole each); order = order };
      text = text ∙ ap (λ x. body_of (listing_of x)) whole;
    }
