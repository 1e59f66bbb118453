-- What the first bytes of a blob say of it.
use Rattle.std.proofs.Common.{◌≡◌, Bool, true, false, refl, ℕ, zero, suc, ◌+◌, ◌-◌, ◌≤◌, List, [], ◌∷◌, ◌++◌, length, take, drop, sym, ◌∙◌, ap, subst, arith}
use Rattle.std.specs.Prelude.{not}
use Rattle.std.specs.Str.{bytes_eq}
use Rattle.std.proofs.lemmas.List.{take_all}
use Rattle.std.proofs.lemmas.Slice.Eq.{bytes_eq-Decides}
use Rattle.check_rules.specs.check_walk.declared.flaw.Flaw.{Flaw}
use Rattle.check_rules.specs.check_walk.declared.flaw.Halt.{Halt}
use Rattle.check_rules.specs.check_walk.Fronts.{FrontState, joined_front}
use Rattle.check_rules.specs.check_walk.Halts.{Halted, OnFound}
use Rattle.check_rules.specs.check_walk.Marks.{MarkList}
use Rattle.check_rules.specs.check_walk.Walks.{Walked}
use Rattle.check_rules.proofs.check_walk_lemmas.Halting.{halted_here}
use Rattle.check_rules.specs.Flaws.{FitsBody}
use Rattle.check_rules.specs.dir_entries.Layout.{Listing}
use Rattle.check_rules.specs.fs_blobs.Headers.{blob, header_text, BeginsWith}
use Rattle.check_rules.proofs.fs_blobs_lemmas.Parts.{length-header, length-blob, read_behind}
use Rattle.fs_model.specs.declared.attr.Kind.{Kind}
use Rattle.fs_model.specs.declared.attr.Kind.TheVariants.{Directory, File, Link}
use Rattle.fs_model.specs.declared.limits.TheConstants.{MAX_ENTRIES, MAX_TARGET}
use Rattle.check_rules.specs.store_api.Content.{Id, Content}
use Rattle.check_rules.specs.store_api.Loads.{LoadAnswer}
use Rattle.cryfs_check.specs.Rows.{most_kept, FitsKept}
use Rattle.cryfs_check.proofs.Rows.{target_fits}

take-over : (n : ℕ) (w v : List ℕ) → length w ≤ n → take n (w ++ v) ≡ w ++ take (n - length w) v
take-over n [] v le = let e : n - 0 ≡ n = omega arith in ap (λ k. take k v) (sym e)
take-over zero (x ∷ w) v le = absurd (omega arith)
take-over (suc n) (x ∷ w) v le =
    let low : length w ≤ n = omega arith in
    let e : n - length w ≡ suc n - length (x ∷ w) = omega arith in
    ap (λ xs. x ∷ xs) (take-over n w v low ∙ ap (λ k. w ++ take k v) e)

module _ (kind : Kind) (other : Id) (body : List ℕ) (wide : length other ≡ 16) (w kept : List ℕ) (most : ℕ) (is : w ≡ blob kind other body) (front : kept ≡ take most w) (enough : 19 ≤ most) where
  head : length (header_text kind other) ≡ 19
  head = length-header kind other wide

  kept_is : kept ≡ blob kind other (take (most - 19) body)
  kept_is = front ∙ (ap (take most) is ∙ (take-over most (header_text kind other) body (omega (arith, head)) ∙ ap (λ n. header_text kind other ++ take (most - n) body) head))

  pub rest_is : drop 19 kept ≡ take (most - 19) body
  rest_is = ap (drop 19) kept_is ∙ read_behind kind other (take (most - 19) body) 0 wide

  -- what is kept of a blob begins with its header
  pub begins : BeginsWith kept kind other
  begins = record { id = wide; text = kept_is ∙ ap (blob kind other) (sym rest_is) }

  pub rest_length : length w - 19 ≡ length body
  rest_length = let long = ap length is ∙ length-blob kind other body wide in omega (arith, long)

-- a body that fits, by what is kept of it
pub fits_front : (kind : Kind) (other : Id) (body w kept : List ℕ) → length other ≡ 16 → w ≡ blob kind other body → kept ≡ take (most_kept kind) w → FitsBody kind body → (listing : Listing) × FitsKept kind (length w - 19) (drop 19 kept) listing
fits_front Directory other body w kept wide is front fits =
    let rest : drop 19 kept ≡ body = rest_is Directory other body wide w kept (19 + MAX_ENTRIES + 1) is front (omega arith) ∙ take_all (19 + MAX_ENTRIES + 1 - 19) body (omega (arith, fits.1)) in
    (fits.0.0, subst (λ b. FitsKept Directory (length w - 19) b fits.0.0) (sym rest) (fits.0.1, fits.1))
fits_front File other body w kept wide is front fits = ([], (refl, omega (arith, rest_length File other body wide w kept 19 is front (omega arith), fits)))
fits_front Link other body w kept wide is front fits =
    let rest : drop 19 kept ≡ body = rest_is Link other body wide w kept (19 + MAX_TARGET + 1) is front (omega arith) ∙ take_all (19 + MAX_TARGET + 1 - 19) body (omega (arith, target_fits body fits)) in
    ([], subst (λ b. FitsKept Link (length w - 19) b []) (sym rest) (refl, fits))

pub most_enough : (kind : Kind) → 19 ≤ most_kept kind
most_enough Directory = omega arith
most_enough File = omega arith
most_enough Link = omega arith

true_then : (b : Bool) → true ≡ not b → b ≡ true → ⊥
true_then true h e = absurd (cc)
true_then false h e = absurd (cc)

pub other_ids : (a b : Id) → true ≡ not (bytes_eq a b) → a ≡ b → ⊥
other_ids a b h e = true_then (bytes_eq a b) h ((bytes_eq-Decides a b).1 e)

module _ {S : Type 0} {loads : S → S → Id → LoadAnswer → Type 0} {owner : ℕ} where
  -- what is kept of a walk from no bytes on
  pub front_of : {a b : S} {old new : MarkList} {front back : FrontState} {X : Content → List ℕ → List Id → Type 0} {P : List ℕ → Type 0} (kind : Kind) (one : Walked loads owner a b old new front back X P) (kept : List ℕ)
      → front ≡ record { bytes = []; most = most_kept kind } → kept ≡ back.bytes → kept ≡ take (most_kept kind) one.bytes
  front_of kind one kept start is =
      let all : most_kept kind - 0 ≡ most_kept kind = omega arith in
      is ∙ (one.kept ∙ (ap (λ (f : FrontState). joined_front f one.bytes) start ∙ ap (λ k. take k one.bytes) all))

  -- a walk whose bytes have a flaw
  pub halted_at : {a b : S} {old new : MarkList} {front back : FrontState} {X : Content → List ℕ → List Id → Type 0} {P : List ℕ → Type 0} {halt : Halt} {Why : Content → Flaw → Type 0} (one : Walked loads owner a b old new front back X P)
      → ((C : Content) (ids : List Id) → X C one.bytes ids → OnFound halt (Why C)) → Halted loads owner a b old new halt Why
  halted_at {X = X} {halt = halt} {Why = Why} one why =
      halted_here {P = λ w. w ≡ one.bytes}
      (record { given = one.given; gave = one.gave; bytes = one.bytes; ids = one.ids; once = one.once; hold = one.hold; fact = refl; alone = one.alone; marked = one.marked; most = one.most; kept = one.kept })
      (λ C w ids same h. why C ids (subst (λ v. X C v ids) same h))
