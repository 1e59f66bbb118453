-- What a check answers.
use Rattle.std.proofs.Common.{◌≡◌, ℕ, List, length, sym, ◌∙◌, ap, subst, true}
use Rattle.std.specs.Prelude.{Some, Ok, Err, IfOk, map, is_some, T}
use Rattle.std.specs.FinMap.{is_sorted}
use Rattle.block_id.specs.declared.id.BlockId.{BlockId}
use Rattle.check_rules.specs.store_outcome.Meanings.{Meanings, Lawful}
use Rattle.check_rules.specs.store_outcome.Outcome.{Outcome, first_, passed}
use Rattle.check_rules.specs.data_tree.Trees.{NoDoubles}
use Rattle.check_rules.specs.store_api.Content.{Id, Content, id_cmp}
use Rattle.check_rules.specs.store_api.Holdings.{Holdings, Steady, has_id}
use Rattle.check_rules.specs.store_api.Loads.{LoadAnswer}
use Rattle.check_rules.specs.check_walk.declared.flaw.Flaw.{Flaw}
use Rattle.check_rules.specs.check_walk.declared.flaw.Flaw.TheVariants.{Unowned}
use Rattle.check_rules.specs.check_walk.declared.flaw.Halt.{Halt}
use Rattle.check_rules.specs.check_walk.declared.flaw.Halt.TheVariants.{Found, Failing}
use Rattle.check_rules.specs.check_walk.Given.{Asked, AskedBy, IsLoad, given_of, content_of, fail_of}
use Rattle.check_rules.specs.check_walk.Marks.{MarkList, unmarked, first_unowned}
use Rattle.check_rules.proofs.check_walk_lemmas.Halting.{asked_of, gave-asked, asked-ids, asked-again}
use Rattle.check_rules.proofs.check_walk_lemmas.Loading.{asked_true, asked_by}
use Rattle.check_rules.specs.Flaws.{HasFlaw, HasUnowned}
use Rattle.check_rules.proofs.Refuting.{refutes}
use Rattle.cryfs_check.specs.declared.checking.Checked.TheVariants.{No}
use Rattle.cryfs_check.specs.Checks.{answer_to, ShowsSome, IsYes, OnNo, AsksOnce, IsRefuted}
use Rattle.cryfs_check.specs.Halts.{IsStopped}
use Rattle.cryfs_check.specs.Places.{PlaceText}
use Rattle.cryfs_check.specs.Visits.{VisitedAll}
use Rattle.cryfs_check.proofs.Certifying.{lives, unowned_flaw}

abbrev ids : List BlockId → List Id
ids live = map (λ (id : BlockId). id.0) live

module _ {S : Type 0} (M : Meanings S) (H : Holdings S) (loads : S → S → Id → LoadAnswer → Type 0) (payload : ℕ) (root : Id) (live : List BlockId) (a b : S) where
  pub asks_stopped : (held : Content) (halt : Halt) → IsStopped (IsLoad M H loads) payload root held a b (map unmarked live) halt → AsksOnce loads (ids live) a b
  asks_stopped held halt s = record { asked = s.asked; by = asked_by M H loads a b s.asked s.by; once = s.once; lives = λ q e. sym (lives live q) ∙ s.marked q e }

  once_all : (marks : MarkList) (places : List PlaceText) (v : VisitedAll (IsLoad M H loads) payload root a b (map unmarked live) marks places) → NoDoubles (map (λ (q : Id × LoadAnswer). q.0) (asked_of v.visited.given))
  once_all marks places v = subst NoDoubles (sym (asked-ids v.visited.given)) v.visited.owned.once

  lives_all : (marks : MarkList) (places : List PlaceText) (v : VisitedAll (IsLoad M H loads) payload root a b (map unmarked live) marks places) (q : Id) → has_id (map (λ (q : Id × LoadAnswer). q.0) (asked_of v.visited.given)) q ≡ true → has_id (ids live) q ≡ true
  lives_all marks places v q e =
      let one = v.visited in
      let o = one.owned.loaded q (sym (ap (λ xs. has_id xs q) (asked-ids one.given)) ∙ e) in
      sym (lives live q) ∙ (sym (one.owned.same q) ∙ ap is_some o.1)

  pub asks_all : (marks : MarkList) (places : List PlaceText) → VisitedAll (IsLoad M H loads) payload root a b (map unmarked live) marks places → AsksOnce loads (ids live) a b
  asks_all marks places v =
      let one = v.visited in
      record {
        asked = asked_of one.given;
        by = asked_by M H loads a b (asked_of one.given) (gave-asked (IsLoad M H loads) a b one.given one.gave);
        once = once_all marks places v;
        lives = lives_all marks places v;
      }

  module _ (alive : (id : Id) → has_id (ids live) id ≡ is_some (H.content a id)) where
    -- a flaw of what was loaded
    pub record IsFlawed (flaw : Flaw) : Type 0 where
      pub asked : Asked
      pub by : AskedBy (IsLoad M H loads) a asked b
      pub once : NoDoubles (map (λ q. q.0) asked)
      pub lives : (id : Id) → has_id (map (λ q. q.0) asked) id ≡ true → has_id (ids live) id ≡ true
      pub has : HasFlaw payload root (ids live) (content_of (given_of asked)) flaw

    pub refuted : (flaw : Flaw) → IsFlawed flaw → IsRefuted loads payload root (ids live) a b flaw
    refuted flaw f = record { asks = record { asked = f.asked; by = asked_by M H loads a b f.asked f.by; once = f.once; lives = f.lives }; flawed = f.has; refutes = refutes payload root (ids live) (given_of f.asked) flaw f.has }

    -- over a sound store that shows a tree, without a forgery, no flaw is found
    pub no_flaw : Lawful M → Steady M H → (flaw : Flaw) → IsFlawed flaw → Outcome M {T = Unit {0}} (Unit {0}) a b (Ok tt) (λ n x. Unit {0}) → Outcome M (ShowsSome payload root (H.content a)) a b (Ok (No flaw)) (λ n checked. IsYes checked)
    no_flaw laws steady flaw f o = record {
      intact = o.intact;
      loaded = o.loaded;
      sound = o.sound;
      met = tt;
      fault = tt;
      quiet = o.quiet;
      noticed = o.noticed;
      value = λ n s few.
          let agrees = ((asked_true M H laws steady loads a b f.asked f.by).true_ s few).1 in
          refutes payload root (ids live) (given_of f.asked) flaw f.has (H.content a) agrees (λ id. sym (alive id)) n.map n.stores n.tree n.shows;
      structure = λ n s few. tt;
    }

    pub flaw_stopped : (flaw : Flaw) → IsStopped (IsLoad M H loads) payload root (H.content a) a b (map unmarked live) (Found flaw) → IsFlawed flaw
    flaw_stopped flaw s = record { asked = s.asked; by = s.by; once = s.once; lives = λ q e. sym (lives live q) ∙ s.marked q e; has = s.why (ids live) (lives live) (λ id. sym (alive id)) }

    pub flaw_unowned : (marks : MarkList) (places : List PlaceText) → VisitedAll (IsLoad M H loads) payload root a b (map unmarked live) marks places → length root ≡ 16 → T (is_sorted id_cmp marks) → (q : BlockId) → first_unowned marks ≡ Some q.0
        → IsFlawed (Unowned q)
    flaw_unowned marks places v wide sorted q first =
        let one = v.visited in
        record {
          asked = asked_of one.given;
          by = gave-asked (IsLoad M H loads) a b one.given one.gave;
          once = once_all marks places v;
          lives = lives_all marks places v;
          has = subst (λ given. HasUnowned payload root (ids live) (content_of given) q.0) (sym (asked-again one.given)) (unowned_flaw payload root live marks places v wide sorted q.0 first);
        }

    -- ---- where a visit stopped

    pub stop_outcome : Lawful M → Steady M H → (halt : Halt) → IsStopped (IsLoad M H loads) payload root (H.content a) a b (map unmarked live) halt → Outcome M {T = Unit {0}} (Unit {0}) a b (fail_of {T = Unit {0}} (Err halt)) (λ n x. Unit {0})
        → Outcome M (ShowsSome payload root (H.content a)) a b (answer_to halt) (λ n checked. IsYes checked)
    stop_outcome laws steady (Found flaw) s o = no_flaw laws steady flaw (flaw_stopped flaw s) o
    stop_outcome laws steady (Failing fail) s o = first_ (λ n. tt) (passed {Q = λ n checked. IsYes checked} o) (λ n checked h. h)

    pub stop_no : (halt : Halt) → IsStopped (IsLoad M H loads) payload root (H.content a) a b (map unmarked live) halt → IfOk (answer_to halt) (λ checked. OnNo checked (IsRefuted loads payload root (ids live) a b))
    stop_no (Found flaw) s = refuted flaw (flaw_stopped flaw s)
    stop_no (Failing fail) s = tt
