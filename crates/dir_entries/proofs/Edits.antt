-- The body of a directory before and after one entry changes.
use Rattle.std.specs.Prelude.{◌≡◌, ℕ, ◌+◌, ◌-◌, ◌≤◌, ◌<◌, T, List, [], ◌∷◌, ◌++◌, length, drop, All, IsSomeAnd, MatchOption}
use Rattle.std.proofs.Common.{sym, ◌∙◌, ap, subst, append_assoc, arith}
use Rattle.std.specs.FinMap.{put, is_sorted}
use Rattle.std.specs.FinMap.Entries.{is_sorted-put, is_sorted-where_key}
use Rattle.std.specs.declared.cmp.Ordering.TheVariants.{Less, Equal, Greater}
use Rattle.std.specs.declared.option.Option.{Option}
use Rattle.std.specs.declared.option.Option.TheVariants.{None, Some}
use Rattle.std.specs.Ordering.{eq_by_cmp}
use Rattle.std.specs.Prelude.{not}
use Rattle.std.proofs.lemmas.Bool.{and_parts}
use Rattle.std.proofs.lemmas.Option.{some_pair_parts}
use Rattle.std.proofs.lemmas.List.{length-append, drop_all, append-nil}
use Rattle.std.proofs.lemmas.List.Concat.{flat_map-cons}
use Rattle.std.proofs.lemmas.Grind.{flat_map-append}
use Rattle.std.proofs.lemmas.List.Elements.{All-nil, All-head, All-tail, All-cons, All-append, All-push}
use Rattle.std.proofs.Math.Seq.{drop-append_seam}
use Rattle.block_id.proofs.Conditions.{true_of}
use Rattle.block_id.specs.Contents.{resized, written}
use Rattle.block_id.proofs.Contents.{written_inside, written_tail, cut_written}
use Rattle.fs_model.specs.Tree.{name_cmp}
use Rattle.fs_model.proofs.TreeLemmas.{name_total}
use Rattle.byte_fields.specs.Fields.{IsBytes}
use Rattle.dir_entries.specs.Layout.{EntryTarget, Listing, attr_text, moment_text, entry_text, body_of, IsEntry, IsInOrder, IsListing, IsBody}
use Rattle.dir_entries.specs.Reading.{entry_at, name_at}
use Rattle.dir_entries.proofs.EntryCodec.{entry_codec, name_takes, name_of_entry}
use Rattle.dir_entries.proofs.Bodies.{next_of, first_entry, stuck, no_more, All-at}
use Rattle.dir_entries.specs.declared.place.Located.{Located}
use Rattle.dir_entries.specs.Places.{target_of, without, held, IsHeld, IsPlace}
use Rattle.dir_entries.proofs.Past.{IsBelow, IsPast, place_before, place_at, place_end}

-- ---- reading past entries

-- the entries of the body are those that were passed, below the name, and those of the rest
pub record Cut (name : List ℕ) (all : Listing) (rest : List ℕ) : Type 0 where
  pub seen : Listing
  pub back : Listing
  pub split : all ≡ seen ++ back
  pub text : rest ≡ body_of back
  pub past : IsPast name seen

pub record Passes (name body rest : List ℕ) : Type 0 where
  pub bytes : IsBytes rest
  pub shorter : length rest ≤ length body
  pub front : List ℕ
  pub parts : body ≡ front ++ rest
  pub cuts : (all : Listing) → IsBody body all → Cut name all rest

-- what the entry in front of the rest is, where the body has entries
first_of : (name body rest : List ℕ) → Passes name body rest → 0 < length rest → (all : Listing) → IsBody body all → (e : List ℕ × EntryTarget) × (after : List ℕ) × (entry_at rest ≡ Some (e, after))
first_of name body rest passes some all is =
    let cut = passes.cuts all is in
    first_entry cut.seen rest all cut.back is.entries cut.split cut.text some

-- the name in front is its name
pub named_so : (name body rest next after : List ℕ) → Passes name body rest → name_at rest ≡ Some (next, after) → (all : Listing) → IsBody body all
    → (e : List ℕ × EntryTarget) × (entry_at rest ≡ Some (e, after)) × (e.0 ≡ next)
named_so name body rest next after passes found all is =
    let took = name_takes rest next after passes.bytes found in
    let first = first_of name body rest passes (omega (arith, ap length took.1.parts, length-append took.0 after, took.2)) all is in
    let same = some_pair_parts first.0.0 next first.1 after (sym (name_of_entry rest first.0 first.1 passes.bytes first.2) ∙ found) in
    (first.0, subst (λ x. entry_at rest ≡ Some (first.0, x)) same.1 first.2, same.0)

pub passes_unnamed : (name body rest : List ℕ) → Passes name body rest → 0 < length rest → name_at rest ≡ None → (all : Listing) → IsBody body all → ⊥
passes_unnamed name body rest passes some none all is =
    let first = first_of name body rest passes some all is in
    absurd (cc (name_of_entry rest first.0 first.1 passes.bytes first.2, none))

pub name_shorter : (rest next after : List ℕ) → IsBytes rest → name_at rest ≡ Some (next, after) → length after < length rest
name_shorter rest next after fits found =
    let took = name_takes rest next after fits found in
    omega (arith, ap length took.1.parts, length-append took.0 after, took.2)

pub passes_next : (name body rest next after : List ℕ) → Passes name body rest → name_at rest ≡ Some (next, after) → name_cmp name next ≡ Greater → Passes name body after
passes_next name body rest next after passes found above =
    let took = name_takes rest next after passes.bytes found in
    record {
      bytes = took.1.rest_fits;
      shorter = omega (arith, passes.shorter, name_shorter rest next after passes.bytes found);
      front = passes.front ++ took.0;
      parts = passes.parts ∙ (ap (λ x. passes.front ++ x) took.1.parts ∙ sym (append_assoc passes.front took.0 after));
      cuts = λ all is.
          let cut = passes.cuts all is in
          let own = named_so name body rest next after passes found all is in
          let others = next_of cut.seen rest own.0 after own.1 all cut.back is.entries cut.split cut.text in
          record {
            seen = cut.seen ++ own.0 ∷ [];
            back = others.0;
            split = others.1 ∙ sym (append_assoc cut.seen (own.0 ∷ []) others.0);
            text = others.2;
            past = All-push (IsBelow name) cut.seen own.0 cut.past (ap (name_cmp name) own.2 ∙ above);
          };
    }

-- the rest as a part of the body
pub rest_of : (body front rest : List ℕ) → body ≡ front ++ rest → drop (length body - length rest) body ≡ rest
rest_of body front rest parts =
    let place : length body - length rest ≡ length front = omega (arith, ap length parts, length-append front rest) in
    ap (λ k. drop k body) place ∙ (ap (drop (length front)) parts ∙ drop-append_seam front rest)

pub passes_rest : (name body rest : List ℕ) → Passes name body rest → drop (length body - length rest) body ≡ rest
passes_rest name body rest passes = rest_of body passes.front rest passes.parts

pub passes_after : (name body rest : List ℕ) (e : List ℕ × EntryTarget) (after : List ℕ) → Passes name body rest → entry_at rest ≡ Some (e, after) → drop (length body - length after) body ≡ after
passes_after name body rest e after passes found =
    let took = (entry_codec.takes rest e after passes.bytes found).0 in
    rest_of body (passes.front ++ entry_text e) after (passes.parts ∙ (ap (λ x. passes.front ++ x) took.parts ∙ sym (append_assoc passes.front (entry_text e) after)))

pub passes_stuck : (name body rest : List ℕ) → Passes name body rest → 0 < length rest → entry_at rest ≡ None → (all : Listing) → IsBody body all → ⊥
passes_stuck name body rest passes some none all is =
    let cut = passes.cuts all is in
    stuck cut.seen rest all cut.back is.entries cut.split cut.text some none

front_of : (body rest : List ℕ) (all seen back : Listing) → body ≡ body_of all → all ≡ seen ++ back → rest ≡ body_of back → length body - length rest ≡ length (body_of seen)
front_of body rest all seen back text split left =
    let whole : length body ≡ length (body_of seen) + length (body_of back) = ap length (text ∙ (ap body_of split ∙ flat_map-append entry_text seen back)) ∙ length-append (body_of seen) (body_of back) in
    omega (arith, whole, ap length left)

pub part_order : (seen back : Listing) → IsInOrder (seen ++ back) → IsInOrder back
part_order [] back sorted = sorted
part_order (e ∷ seen) back sorted = part_order seen back (and_parts _ (is_sorted name_cmp (seen ++ back)) sorted).1

as_place : (name : List ℕ) (all : Listing) (front front2 : ℕ) (found : Option EntryTarget) (back back2 : List ℕ) (all2 : Listing) → IsPlace name all2 front2 found back2 → all ≡ all2 → front ≡ front2 → back ≡ back2 → IsPlace name all front found back
as_place name all front front2 found back back2 all2 is a f b =
    subst (λ z. IsPlace name z front found back) (sym a) (subst (λ z. IsPlace name all2 z found back) (sym f) (subst (λ z. IsPlace name all2 front2 found z) (sym b) is))

pub found_before : (name body rest : List ℕ) (e : List ℕ × EntryTarget) (after : List ℕ) → Passes name body rest → entry_at rest ≡ Some (e, after) → name_cmp name e.0 ≡ Less
    → (all : Listing) → IsBody body all → IsPlace name all (length body - length rest) None (drop (length body - length rest) body)
found_before name body rest e after passes found lt all is =
    let cut = passes.cuts all is in
    let next = next_of cut.seen rest e after found all cut.back is.entries cut.split cut.text in
    let sorted = part_order cut.seen (e ∷ next.0) (subst IsInOrder next.1 is.entries.order) in
    let text : rest ≡ body_of (e ∷ next.0) = (entry_codec.takes rest e after passes.bytes found).0.parts ∙ (ap (λ x. entry_text e ++ x) next.2 ∙ sym (flat_map-cons entry_text e next.0)) in
    as_place name all _ _ None _ _ _ (place_before name cut.seen e next.0 cut.past sorted lt) next.1 (front_of body rest all cut.seen (e ∷ next.0) is.text next.1 text) (passes_rest name body rest passes ∙ text)

pub found_at : (name body rest : List ℕ) (e : List ℕ × EntryTarget) (after : List ℕ) → Passes name body rest → entry_at rest ≡ Some (e, after) → name_cmp name e.0 ≡ Equal
    → (all : Listing) → IsBody body all → IsPlace name all (length body - length rest) (Some e.1) (drop (length body - length after) body)
found_at name body rest e after passes found eq all is =
    let cut = passes.cuts all is in
    let next = next_of cut.seen rest e after found all cut.back is.entries cut.split cut.text in
    let sorted = part_order cut.seen (e ∷ next.0) (subst IsInOrder next.1 is.entries.order) in
    let text : rest ≡ body_of (e ∷ next.0) = (entry_codec.takes rest e after passes.bytes found).0.parts ∙ (ap (λ x. entry_text e ++ x) next.2 ∙ sym (flat_map-cons entry_text e next.0)) in
    as_place name all _ _ (Some e.1) _ _ _ (place_at name cut.seen e next.0 cut.past sorted eq) next.1 (front_of body rest all cut.seen (e ∷ next.0) is.text next.1 text) (passes_after name body rest e after passes found ∙ next.2)

-- the entry in front has the name
pub found_held : (name body rest next after : List ℕ) → Passes name body rest → 0 < length rest → name_at rest ≡ Some (next, after) → name_cmp name next ≡ Equal
    → (result : Option Located) → MatchOption result (entry_at rest ≡ None) (λ p. IsHeld body rest p.front (target_of p.found) p.back)
    → (all : Listing) → IsBody body all → IsSomeAnd result (λ p. IsPlace name all p.front (target_of p.found) (drop p.back body))
found_held name body rest next after passes some found eq None none all is = absurd (passes_stuck name body rest passes some none all is)
found_held name body rest next after passes some found eq (Some p) held all is =
    let own : held.entry.0 ≡ next = (some_pair_parts held.entry.0 next held.after after (sym (name_of_entry rest held.entry held.after passes.bytes held.reads) ∙ found)).0 in
    rw (held.starts, held.target, held.ends) (found_at name body rest held.entry held.after passes held.reads (ap (name_cmp name) own ∙ eq) all is)

pub found_end : (name body rest : List ℕ) → Passes name body rest → length rest ≡ 0 → (all : Listing) → IsBody body all → IsPlace name all (length body) None (drop (length body) body)
found_end name body rest passes none all is =
    let cut = passes.cuts all is in
    let nothing : cut.back ≡ [] = no_more cut.back (sym (ap length cut.text) ∙ none) in
    let front = front_of body rest all cut.seen cut.back is.text cut.split cut.text in
    as_place name all _ _ None _ _ _ (place_end name cut.seen cut.past) (cut.split ∙ ap (λ x. cut.seen ++ x) nothing) (omega (arith, front)) (drop_all (length body) body (omega arith))

-- ---- lengths

pub entry_length : (e : List ℕ × EntryTarget) → IsEntry e → length (entry_text e) ≡ 66 + length e.0
unfolding entry_text attr_text moment_text
entry_length e is = omega (arith, length-append e.0 (0 ∷ e.1.blob), is.blob)

parts_of : (seen : Listing) (own : Listing) (after : Listing) → body_of (seen ++ (own ++ after)) ≡ body_of seen ++ (body_of own ++ body_of after)
parts_of seen own after = flat_map-append entry_text seen (own ++ after) ∙ ap (λ x. body_of seen ++ x) (flat_map-append entry_text own after)

one_of : (e : List ℕ × EntryTarget) → body_of (e ∷ []) ≡ entry_text e
one_of e = flat_map-cons entry_text e [] ∙ append-nil (entry_text e)

pub put_text : (name : List ℕ) (target : EntryTarget) (before after : Listing) → body_of (before ++ ((name, target) ∷ after)) ≡ body_of before ++ (entry_text (name, target) ++ body_of after)
put_text name target before after = flat_map-append entry_text before ((name, target) ∷ after) ∙ ap (λ x. body_of before ++ x) (flat_map-cons entry_text (name, target) after)

-- the entry and what follows it, written at its place
pub inserted : (name : List ℕ) (target : EntryTarget) (listing : Listing) (front : ℕ) (back : List ℕ) → IsPlace name listing front None back
    → written (body_of listing) front (entry_text (name, target) ++ back) ≡ body_of (put name_cmp name target listing)
inserted name target listing front back is =
    let text : body_of listing ≡ body_of is.before ++ body_of is.after = ap body_of is.split ∙ flat_map-append entry_text is.before is.after in
    ap (λ x. written x front (entry_text (name, target) ++ back)) text
    ∙ (ap (λ k. written (body_of is.before ++ body_of is.after) k (entry_text (name, target) ++ back)) is.starts
    ∙ (written_tail (body_of is.before) (body_of is.after) (entry_text (name, target) ++ back) (omega (arith, length-append (entry_text (name, target)) back, ap length is.rest))
    ∙ (ap (λ x. body_of is.before ++ (entry_text (name, target) ++ x)) is.rest
    ∙ (sym (put_text name target is.before is.after) ∙ ap body_of (sym (is.puts target))))))

-- another entry of the same name, written over the old one
pub changed : (name : List ℕ) (old target : EntryTarget) (listing : Listing) (front : ℕ) (back : List ℕ) → IsPlace name listing front (Some old) back → IsEntry (name, old) → IsEntry (name, target)
    → written (body_of listing) front (entry_text (name, target)) ≡ body_of (put name_cmp name target listing)
changed name old target listing front back is first second =
    let text : body_of listing ≡ body_of is.before ++ (entry_text (name, old) ++ body_of is.after) = ap body_of is.split ∙ put_text name old is.before is.after in
    ap (λ x. written x front (entry_text (name, target))) text
    ∙ (ap (λ k. written (body_of is.before ++ (entry_text (name, old) ++ body_of is.after)) k (entry_text (name, target))) is.starts
    ∙ (written_inside (body_of is.before) (entry_text (name, old)) (entry_text (name, target)) (body_of is.after) (entry_length (name, old) first ∙ sym (entry_length (name, target) second))
    ∙ (sym (put_text name target is.before is.after) ∙ ap body_of (sym (is.puts target)))))

-- what follows the entry, written at its place, and the end cut off
pub removed : (name : List ℕ) (old : EntryTarget) (listing : Listing) (front : ℕ) (back : List ℕ) → IsPlace name listing front (Some old) back
    → resized (written (body_of listing) front back) (front + length back) ≡ body_of (without name listing)
removed name old listing front back is =
    let text : body_of listing ≡ body_of is.before ++ (entry_text (name, old) ++ body_of is.after) = ap body_of is.split ∙ put_text name old is.before is.after in
    ap (λ x. resized (written x front back) (front + length back)) text
    ∙ (ap (λ k. resized (written (body_of is.before ++ (entry_text (name, old) ++ body_of is.after)) k back) (k + length back)) is.starts
    ∙ (ap (λ x. resized (written (body_of is.before ++ (entry_text (name, old) ++ body_of is.after)) (length (body_of is.before)) x) (length (body_of is.before) + length x)) is.rest
    ∙ (cut_written (body_of is.before) (entry_text (name, old) ++ body_of is.after) (body_of is.after) (omega (arith, length-append (entry_text (name, old)) (body_of is.after)))
    ∙ (sym (flat_map-append entry_text is.before is.after) ∙ ap body_of (sym is.drops)))))

-- ---- the entries afterwards

All-front : (front back : Listing) → All IsEntry (front ++ back) → All IsEntry front
All-front [] back each = All-nil IsEntry
All-front (e ∷ front) back each = All-cons IsEntry e front (All-head IsEntry e (front ++ back) each) (All-front front back (All-tail IsEntry e (front ++ back) each))

All-back : (front back : Listing) → All IsEntry (front ++ back) → All IsEntry back
All-back [] back each = each
All-back (e ∷ front) back each = All-back front back (All-tail IsEntry e (front ++ back) each)

pub put_listing : (name : List ℕ) (target : EntryTarget) (listing : Listing) (front : ℕ) (found : Option EntryTarget) (back : List ℕ) → IsPlace name listing front found back → IsListing listing → IsEntry (name, target) → IsListing (put name_cmp name target listing)
put_listing name target listing front found back is entries own =
    let each = subst (All IsEntry) is.split entries.entries in
    record {
      entries = subst (All IsEntry) (sym (is.puts target)) (All-append IsEntry is.before ((name, target) ∷ is.after) (All-front is.before (held name found ++ is.after) each)
          (All-cons IsEntry (name, target) is.after own (All-back (held name found) is.after (All-back is.before (held name found ++ is.after) each))));
      order = true_of (is_sorted name_cmp (put name_cmp name target listing)) (is_sorted-put name_cmp name_total name target listing (subst T (sym entries.order) tt));
    }

pub without_listing : (name : List ℕ) (listing : Listing) (front : ℕ) (found : Option EntryTarget) (back : List ℕ) → IsPlace name listing front found back → IsListing listing → IsListing (without name listing)
without_listing name listing front found back is entries =
    let each = subst (All IsEntry) is.split entries.entries in
    record {
      entries = subst (All IsEntry) (sym is.drops) (All-append IsEntry is.before is.after (All-front is.before (held name found ++ is.after) each) (All-back (held name found) is.after (All-back is.before (held name found ++ is.after) each)));
      order = true_of (is_sorted name_cmp (without name listing)) (is_sorted-where_key name_cmp (λ n. not (eq_by_cmp name_cmp name n)) listing (subst T (sym entries.order) tt));
    }

-- the entry that a place holds is one
pub held_entry : (name : List ℕ) (old : EntryTarget) (listing : Listing) (front : ℕ) (back : List ℕ) → IsPlace name listing front (Some old) back → IsListing listing → IsEntry (name, old)
held_entry name old listing front back is entries = All-at is.before (name, old) is.after (subst (All IsEntry) is.split entries.entries)

-- the place of an entry and its text are within the body
pub place_within : (name : List ℕ) (old target : EntryTarget) (listing : Listing) (front : ℕ) (back : List ℕ) → IsPlace name listing front (Some old) back → IsEntry (name, old) → IsEntry (name, target)
    → front + length (entry_text (name, target)) ≤ length (body_of listing)
place_within name old target listing front back is first second =
    let whole : length (body_of listing) ≡ length (body_of is.before) + length (entry_text (name, old) ++ body_of is.after) =
    ap length (ap body_of is.split ∙ put_text name old is.before is.after) ∙ length-append (body_of is.before) (entry_text (name, old) ++ body_of is.after) in
    omega (arith, whole, length-append (entry_text (name, old)) (body_of is.after), is.starts, entry_length (name, old) first, entry_length (name, target) second)
