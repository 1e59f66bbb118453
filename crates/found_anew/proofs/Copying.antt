-- How the writing of found blocks goes on, from one block to the next.
use Rattle.std.proofs.Common.{◌≡◌, ◌⊎◌, ◌<◌, ◌≤◌, ◌+◌, inl, inr, ℕ, Bool, true, false, cond, List, [], ◌∷◌, length, take, get_or, refl, sym, ◌∙◌, ap, subst, arith}
use Rattle.std.specs.Prelude.{◌||◌, is_some, map, if◌then◌else◌}
use Rattle.std.specs.FinMap as fin
use Rattle.std.specs.FinMap.{get-insert, get-empty}
use Rattle.std.specs.Cmp.Lexicographic.{nat_list_cmp_total}
use Rattle.std.specs.Str.{bytes_eq}
use Rattle.std.proofs.lemmas.Slice.Eq.{bytes_eq-Decides}
use Rattle.std.proofs.lemmas.Bool.{or_cases}
use Rattle.std.proofs.lemmas.List.{get_or-map, length-map, map_more}
use Rattle.std.proofs.lemmas.List.Folds.{list_any-append, list_any_at}
use Rattle.std.specs.declared.option.Option.{Option}
use Rattle.std.specs.declared.option.Option.TheVariants.{None, Some}
use Rattle.std.specs.declared.result.Result.TheVariants.{Ok}
use Rattle.block_id.specs.declared.id.BlockId.{BlockId}
use Rattle.rand_core.specs.Stream.{Stream}
use Rattle.outside.specs.Honest.{last_change}
use Rattle.outside.specs.HonestLaws.{count_grows}
use Rattle.outside.specs.Trace.{Call, block, got, put, adds}
use Rattle.anew.specs.Begun.{IsBegun, first_life}
use Rattle.anew.specs.Writing.{Renews}
use Rattle.anew.proofs.Steps.{begun_got, begun_renewed, which, itself}
use Rattle.block_id.specs.Fresh.{zero_id}
use Rattle.found_blocks.specs.Finding.{Finding, content_of, judged_as, payload_of, where_found}
use Rattle.found_blocks.specs.Views.{finding_by}
use Rattle.found_blocks.specs.block_versions.Views.{held_of}
use Rattle.found_blocks.specs.block_versions.local_state.Record.{plain_state}
use Rattle.found_blocks.specs.block_versions.local_state.declared.state.State.{State}
use Rattle.found_blocks.specs.declared.store.FoundStore.{FoundStore}
use Rattle.found_blocks.specs.Reads.{LoadAnswers, Fetched, passes}
use Rattle.found_blocks.specs.Rows.{Author, author_in}
use Rattle.cryfs_check.specs.check_rules.data_nodes.Layout.{ids_of}
use Rattle.found_blocks.specs.block_versions.BlockRecords.{opened}
use Rattle.found_blocks.specs.block_versions.Held.{Held, own}
use Rattle.found_blocks.specs.block_versions.Verdicts.{good}
use Rattle.found_blocks.specs.block_versions.local_state.declared.life.Life.{Life}
use Rattle.found_blocks.specs.store_api.Content.{Id, id_cmp, same_id}
use Rattle.found_blocks.specs.store_api.Holdings.{has_id}
use Rattle.found_blocks.specs.Finding.{is_twin}
use Rattle.found_anew.specs.Renewing.{AreCopied, AreFaithful, IsCopied, IsFaithful, RenewsAll, RenewsFound, RenewsOnce, Rests, WentOnRenewing, twins}
use Rattle.found_anew.proofs.Going.{more_twins, untwinned}

true_is_false : true ≡ false → ⊥
true_is_false e = cc

-- ---- what a load of a found block did

-- it has an author, and one call gave its file
found_by : (f : Finding) (old mid : Option (List Call)) (id payload : List ℕ) (o : Option Author) → author_in f.rows id ≡ o → LoadAnswers f old mid id o (Ok (Some payload))
    → (author : Author) × (author_in f.rows id ≡ Some author) × Fetched f old mid id author (Ok payload)
found_by f old mid id payload None is j = absurd j
found_by f old mid id payload (Some author) is j = (author, is, j)

-- ---- begun

got_begun : (h : Held) (file : List ℕ) (before old mid : Option (List Call)) (id : List ℕ) (max : ℕ) (answer : Option (List ℕ)) → mid ≡ adds old (got (block id) max answer) → IsBegun h file before old → IsBegun h file before mid
got_begun h file None old mid id max answer is b = tt
got_begun h file (Some before) old mid id max answer is b =
    (_, is ∙ ap (λ t. adds t (got (block id) max answer)) b.1, begun_got h file before b.0 (block id) max answer b.2)

put_begun : (a b : Held) (id payload iv file : List ℕ) (before mid new : Option (List Call)) → a.state.least ≡ 2 → fin.get a.state.lives id ≡ None → Renews a b id payload iv mid new → IsBegun a file before mid → IsBegun b file before new
put_begun a b id payload iv file None mid new least unknown r begun = tt
put_begun a b id payload iv file (Some before) mid new least unknown r begun =
    let p = r.puts in
    let told : new ≡ Some (put (block id) p.file true ∷ begun.0) = p.is ∙ ap (λ t. adds t (put (block id) p.file true)) begun.1 in
    let r' : Renews a b id payload iv (Some begun.0) (Some (put (block id) p.file true ∷ begun.0)) =
    record { puts = record { file = p.file; is = refl; opens = p.opens; format = p.format; has_iv = p.has_iv }; known = r.known } in
    (_, told, begun_renewed a b id payload iv file before begun.0 (put (block id) p.file true ∷ begun.0) least unknown r' begun.2)

-- ---- ids

-- what the first of more ids has, the first had, or it is the last of them
has_more : (ids : List BlockId) (i : ℕ) (d : BlockId) (q : Id) → i < length ids → has_id (ids_of (take (i + 1) ids)) q ≡ true → (has_id (ids_of (take i ids)) q ≡ true) ⊎ (q ≡ (get_or ids i d).0)
has_more ids i d q within has =
    let x = (get_or ids i d).0 in
    let split : (has_id (ids_of (take i ids)) q || (same_id q x || false)) ≡ true =
    sym (list_any-append (same_id q) (ids_of (take i ids)) (x ∷ [])) ∙ (sym (ap (λ (l : List Id). has_id l q) (map_more (λ (x : BlockId). x.0) ids i d within)) ∙ has) in
    elim (or_cases (has_id (ids_of (take i ids)) q) (same_id q x || false) split) [
      | inl before ↦ inl before
      | inr last ↦ inr (elim (which x q) [ inl same ↦ same | inr apart ↦ absurd (true_is_false (sym last ∙ ap (λ b. b || false) apart.0)) ])
    ]

has_before : (ids : List BlockId) (i : ℕ) (d : BlockId) (q : Id) → i < length ids → has_id (ids_of (take i ids)) q ≡ true → has_id (ids_of (take (i + 1) ids)) q ≡ true
has_before ids i d q within has =
    ap (λ (l : List Id). has_id l q) (map_more (λ (x : BlockId). x.0) ids i d within)
    ∙ (list_any-append (same_id q) (ids_of (take i ids)) ((get_or ids i d).0 ∷ []) ∙ ap (λ b. b || (same_id q (get_or ids i d).0 || false)) has)

has_last : (ids : List BlockId) (i : ℕ) (d : BlockId) → i < length ids → has_id (ids_of (take (i + 1) ids)) (get_or ids i d).0 ≡ true
has_last ids i d within =
    let x = (get_or ids i d).0 in
    ap (λ (l : List Id). has_id l x) (map_more (λ (x : BlockId). x.0) ids i d within)
    ∙ (list_any-append (same_id x) (ids_of (take i ids)) (x ∷ []) ∙ (ap (λ b. has_id (ids_of (take i ids)) x || (b || false)) (itself x) ∙ right (has_id (ids_of (take i ids)) x)))
  where
    right : (b : Bool) → (b || true) ≡ true
    right true = refl
    right false = refl

-- ---- one block more

module _ (f : Finding) (a : Held) (old : Option (List Call)) where
  pub renewed_none : a.state.lives ≡ fin.empty → a.list ≡ [] → RenewsAll f a a [] old old
  renewed_none empty none =
      let unknown : (id : Id) → fin.get a.state.lives id ≡ None = λ id. ap (λ m. fin.get m id) empty ∙ get-empty id_cmp id in
      record {
        beside = λ i. record { size = a.size; opens = a.opens; state = a.state; list = none i };
        known = λ id has. absurd (true_is_false (sym has));
        only = λ id has. absurd (true_is_false (sym has ∙ ap is_some (unknown id)));
        copied = none_copied old unknown;
        faithful = λ few. none_faithful old unknown;
        begun = λ file before least begun. begun;
      }
    where
      none_copied : (t : Option (List Call)) → ((id : Id) → fin.get a.state.lives id ≡ None) → AreCopied f a t
      none_copied None unknown = tt
      none_copied (Some calls) unknown = λ id has. absurd (true_is_false (sym has ∙ ap is_some (unknown id)))

      none_faithful : (t : Option (List Call)) → ((id : Id) → fin.get a.state.lives id ≡ None) → AreFaithful f a t
      none_faithful None unknown = tt
      none_faithful (Some calls) unknown = λ id has. absurd (true_is_false (sym has ∙ ap is_some (unknown id)))

  module _ (ids : List BlockId) (i : ℕ) (d : BlockId) (within : i < length ids) (h b : Held) (now new : Option (List Call)) (stream left : Stream) (r : RenewsAll f a h (ids_of (take i ids)) old now)
      (went : WentOnRenewing f old now) where
    -- the block was known
    rested : fin.get h.state.lives (get_or ids i d).0 ≡ Some first_life → Rests h b now new stream left → RenewsAll f a b (ids_of (take (i + 1) ids)) old new
    rested there rests =
        subst (λ (k : Held). RenewsAll f a k (ids_of (take (i + 1) ids)) old new) (sym rests.same) (subst (RenewsAll f a h (ids_of (take (i + 1) ids)) old) (sym rests.uncalled)
        (record {
          beside = r.beside;
          known = λ q has. elim (has_more ids i d q within has) [ inl before ↦ r.known q before | inr is ↦ ap (fin.get h.state.lives) is ∙ there ];
          only = λ q has. has_before ids i d q within (r.only q has);
          copied = r.copied;
          faithful = r.faithful;
          begun = r.begun;
        }))

    module _ (x : RenewsFound f h b (get_or ids i d).0 now new stream left) (unknown : fin.get h.state.lives (get_or ids i d).0 ≡ None) where
      -- the block is known now
      abbrev k : Held
      k = record h { list = []; state = record h.state { lives = fin.insert h.state.lives (get_or ids i d).0 first_life } }

      knows_it : fin.get k.state.lives (get_or ids i d).0 ≡ Some first_life
      knows_it =
          get-insert nat_list_cmp_total h.state.lives (get_or ids i d).0 first_life (get_or ids i d).0
          ∙ ap (λ b. cond b (Some first_life) (fin.get h.state.lives (get_or ids i d).0)) (itself (get_or ids i d).0)

      knows_other : (q : List ℕ) → same_id q (get_or ids i d).0 ≡ false → fin.get k.state.lives q ≡ fin.get h.state.lives q
      knows_other q other =
          get-insert nat_list_cmp_total h.state.lives (get_or ids i d).0 first_life q ∙ ap (λ b. cond b (Some first_life) (fin.get h.state.lives q)) other

      known_more : (q : Id) → has_id (ids_of (take (i + 1) ids)) q ≡ true → fin.get k.state.lives q ≡ Some first_life
      known_more q has = elim (which (get_or ids i d).0 q) [
        | inl same ↦ ap (fin.get k.state.lives) same ∙ knows_it
        | inr apart ↦ knows_other q apart.0 ∙ r.known q (elim (has_more ids i d q within has) [
          | inl before ↦ before
          | inr is ↦ absurd (true_is_false (sym (subst (λ z. same_id q z ≡ true) is (itself q)) ∙ apart.0))
        ])
      ]

      only_more : (q : Id) → is_some (fin.get k.state.lives q) ≡ true → has_id (ids_of (take (i + 1) ids)) q ≡ true
      only_more q has = elim (which (get_or ids i d).0 q) [
        | inl same ↦ subst (λ z. has_id (ids_of (take (i + 1) ids)) z ≡ true) (sym same) (has_last ids i d within)
        | inr apart ↦ has_before ids i d q within (r.only q (sym (ap is_some (knows_other q apart.0)) ∙ has))
      ]

      -- the file that a get gave was put anew
      copied_more : (author : Author) (file : Option (List ℕ)) (bytes : List ℕ) (start mid end : Option (List Call)) → author_in f.rows (get_or ids i d).0 ≡ Some author
          → mid ≡ adds start (got (block (get_or ids i d).0) (f.size + 1) file) → end ≡ adds mid (put (block (get_or ids i d).0) bytes true)
          → judged_as f (get_or ids i d).0 author file ≡ good x.payload → opened h.opens h.size (get_or ids i d).0 bytes ≡ Some (own h (get_or ids i d).0 1 x.payload)
          → AreCopied f h start → AreCopied f k end
      copied_more author file bytes None mid end found is put_so judged opens was =
          subst (AreCopied f k) (sym (put_so ∙ ap (λ t. adds t (put (block (get_or ids i d).0) bytes true)) is)) tt
      copied_more author file bytes (Some calls) mid end found is put_so judged opens was =
          let x_id = (get_or ids i d).0 in
          subst (AreCopied f k) (sym (put_so ∙ ap (λ t. adds t (put (block x_id) bytes true)) is)) (λ q has. elim (which x_id q) [
            | inl same ↦ subst (λ z. IsCopied f k z (put (block x_id) bytes true ∷ got (block x_id) (f.size + 1) file ∷ calls)) (sym same) (record {
              author = author;
              found = found;
              file = file;
              payload = x.payload;
              came = inr (inl refl);
              judged = judged;
              bytes = bytes;
              last = ap (λ b. if b then Some (record { bytes = Some bytes; ok = true }) else last_change (block x_id) calls) ((bytes_eq-Decides x_id x_id).1 refl);
              opens = opens;
            })
            | inr apart ↦
                let c = was q (sym (ap is_some (knows_other q apart.0)) ∙ has) in
                record {
                  author = c.author;
                  found = c.found;
                  file = c.file;
                  payload = c.payload;
                  came = inr (inr c.came);
                  judged = c.judged;
                  bytes = c.bytes;
                  last = ap (λ b. if b then Some (record { bytes = Some bytes; ok = true }) else last_change (block q) calls) apart.1 ∙ c.last;
                  opens = c.opens;
                }
          ])

      -- with the payload that was found, unless it was a twin
      faithful_more : (author : Author) (file : Option (List ℕ)) (bytes : List ℕ) (start mid end : Option (List Call)) → author_in f.rows (get_or ids i d).0 ≡ Some author
          → mid ≡ adds start (got (block (get_or ids i d).0) (f.size + 1) file) → end ≡ adds mid (put (block (get_or ids i d).0) bytes true)
          → judged_as f (get_or ids i d).0 author file ≡ good x.payload → opened h.opens h.size (get_or ids i d).0 bytes ≡ Some (own h (get_or ids i d).0 1 x.payload)
          → twins f old ≤ twins f start → (twins f start ≤ twins f old → AreFaithful f h start) → twins f end ≤ twins f old → AreFaithful f k end
      faithful_more author file bytes None mid end found is put_so judged opens rose was few =
          subst (AreFaithful f k) (sym (put_so ∙ ap (λ t. adds t (put (block (get_or ids i d).0) bytes true)) is)) tt
      faithful_more author file bytes (Some calls) mid end found is put_so judged opens rose was few =
          let x_id = (get_or ids i d).0 in
          let ends : end ≡ Some (put (block x_id) bytes true ∷ got (block x_id) (f.size + 1) file ∷ calls) = put_so ∙ ap (λ t. adds t (put (block x_id) bytes true)) is in
          let few_calls : twins f (Some (got (block x_id) (f.size + 1) file ∷ calls)) ≤ twins f (Some calls) =
          omega (arith, subst (λ t. twins f t ≤ twins f old) ends few, rose) in
          let same : x.payload ≡ payload_of f x_id = untwinned f calls x_id author file x.payload found judged few_calls in
          let few_before : twins f (Some calls) ≤ twins f old = omega (arith, subst (λ t. twins f t ≤ twins f old) ends few, count_grows (passes is_twin f) calls (got (block x_id) (f.size + 1) file ∷ [])) in
          subst (AreFaithful f k) (sym ends) (λ q has. elim (which x_id q) [
            | inl same_q ↦ subst (λ z. IsFaithful f k z (put (block x_id) bytes true ∷ got (block x_id) (f.size + 1) file ∷ calls)) (sym same_q) (record {
              bytes = bytes;
              last = ap (λ b. if b then Some (record { bytes = Some bytes; ok = true }) else last_change (block x_id) calls) ((bytes_eq-Decides x_id x_id).1 refl);
              opens = opens ∙ ap (λ p. Some (own h x_id 1 p)) same;
            })
            | inr apart ↦
                let c = was few_before q (sym (ap is_some (knows_other q apart.0)) ∙ has) in
                record {
                  bytes = c.bytes;
                  last = ap (λ b. if b then Some (record { bytes = Some bytes; ok = true }) else last_change (block q) calls) apart.1 ∙ c.last;
                  opens = c.opens;
                }
          ])

      pub renewed_more : RenewsAll f a b (ids_of (take (i + 1) ids)) old new
      renewed_more =
          let x_id = (get_or ids i d).0 in
          let p = x.renews.puts in
          let found = found_by f now x.mid x_id x.payload (author_in f.rows x_id) refl x.loads.judged in
          let fetched = found.2 in
          subst (λ (z : Held). RenewsAll f a z (ids_of (take (i + 1) ids)) old new) (sym x.renews.known) (record {
            beside = ap (λ (z : Held). record z { list = []; state = record z.state { lives = fin.insert h.state.lives x_id first_life } }) r.beside;
            known = known_more;
            only = only_more;
            copied = copied_more found.0 fetched.0 p.file now x.mid new found.1 fetched.1 p.is fetched.2 p.opens r.copied;
            faithful = faithful_more found.0 fetched.0 p.file now x.mid new found.1 fetched.1 p.is fetched.2 p.opens (more_twins f old now went) r.faithful;
            begun = λ file before least begun.
                put_begun h k x_id x.payload _ file before x.mid new (ap (λ (z : Held). z.state.least) r.beside ∙ least) unknown (record { puts = x.renews.puts; known = refl })
                (got_begun h file before now x.mid x_id (f.size + 1) fetched.0 fetched.1 (r.begun file before least begun));
          })

    -- one block more
    pub renewed_once : (o : Option Life) → fin.get h.state.lives (get_or ids i d).0 ≡ o → RenewsOnce (is_some o) f h b (get_or ids i d).0 now new stream left → RenewsAll f a b (ids_of (take (i + 1) ids)) old new
    renewed_once None is x = renewed_more x is
    renewed_once (Some life) is x = rested (r.known (get_or ids i d).0 (r.only (get_or ids i d).0 (ap is_some is))) x

-- one of the ids is among them
pub among : (ids : List BlockId) (i : ℕ) (d : BlockId) → i < length ids → has_id (ids_of ids) (get_or ids i d).0 ≡ true
among ids i d within =
    list_any_at (same_id (get_or ids i d).0) (ids_of ids) i [] (omega (arith, within, length-map ids (λ (x : BlockId). x.0)))
    (subst (λ id. same_id (get_or ids i d).0 id ≡ true) (sym (get_or-map (λ (x : BlockId). x.0) ids i d [] within)) (itself (get_or ids i d).0))

-- what is held is the same where the same was found and nothing waits
pub held_as : {V C : Type 0} (opens : C → List ℕ → List ℕ → List ℕ → Option (List ℕ)) (a b : FoundStore V C) (state : State) → finding_by opens b ≡ finding_by opens a → a.sealed.vault.list ≡ [] → b.sealed.vault.list ≡ []
    → held_of opens b.sealed state ≡ held_of opens a.sealed state
held_as opens a b state same none_a none_b = λ i. record { size = (same i).size; opens = (same i).opens; state = plain_state state; list = (none_b ∙ sym none_a) i }

-- an id in the content isn't zero
pub not_zero : (f : Finding) (id : Id) → author_in f.rows zero_id ≡ None → is_some (content_of f id) ≡ true → id ≡ zero_id → ⊥
not_zero f id none there is = true_is_false (sym there ∙ ap is_some (ap (content_of f) is ∙ ap (λ o. where_found o (payload_of f zero_id)) none))
