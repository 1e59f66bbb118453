use Rattle.std.proofs.Common.{◌≡◌, ◌+◌, ◌-◌, [], ◌++◌, ℕ, length, take, drop, sym, ◌∙◌, ap, subst, refl, arith}
use Rattle.std.specs.Prelude.{IfSome, IfNone}
use Rattle.std.proofs.lemmas.List.{length-append, take_all}
use Rattle.check_rules.specs.check_walk.declared.flaw.Flaw.{Flaw}
use Rattle.check_rules.specs.check_walk.declared.flaw.Flaw.TheVariants.{BadNode, BadBlob, Parent, Twice, NotLive, Unowned}
use Rattle.check_rules.specs.check_walk.Fronts.{FrontState}
use Rattle.check_rules.specs.check_walk.Given.{IsLoad}
use Rattle.check_rules.specs.check_walk.Halts.{FlawAt}
use Rattle.check_rules.specs.check_walk.Marks.{MarkList}
use Rattle.check_rules.specs.check_walk.Needs.{top, Leads}
use Rattle.check_rules.specs.check_walk.Walks.{Walked}
use Rattle.check_rules.proofs.check_walk_lemmas.Halting.{halted_as}
use Rattle.check_rules.specs.data_tree.Stored.{BlobTree}
use Rattle.check_rules.specs.dir_entries.Layout.{Listing, listing_of}
use Rattle.check_rules.specs.fs_blobs.Headers.{header_text, blob, BeginsWith}
use Rattle.check_rules.proofs.fs_blobs_lemmas.Laws.{one_in_front}
use Rattle.check_rules.proofs.fs_blobs_lemmas.Parts.{length-header}
use Rattle.fs_model.specs.declared.attr.Kind.{Kind}
use Rattle.check_rules.specs.store_api.Content.{Id, Content}
use Rattle.cryfs_check.specs.Halts.{VisitFlaw}
use Rattle.cryfs_check.specs.Rows.{FitsKept, most_kept}
use Rattle.cryfs_check.proofs.Blobs.{begins, fits_front, most_enough, front_of, halted_at, other_ids}
use Rattle.cryfs_check.proofs.Rows.{row_is, row_kept, same_ids}
use Rattle.cryfs_check.proofs.visiting.visit.Goals as goal

-- a node's flaw is one of the visit
node_flaw : (payload : ℕ) (C : Content) (marks : MarkList) (held : Content) (id : Id) (kind : Kind) (parent : Id) (flaw : Flaw) → FlawAt payload C marks held (Leads C id top) flaw → VisitFlaw payload C marks held id kind parent flaw
node_flaw payload C marks held id kind parent (BadNode bad) f = f
node_flaw payload C marks held id kind parent (BadBlob bad) f = absurd f
node_flaw payload C marks held id kind parent (Parent bad) f = absurd f
node_flaw payload C marks held id kind parent (Twice bad) f = f
node_flaw payload C marks held id kind parent (NotLive bad) f = f
node_flaw payload C marks held id kind parent (Unowned bad) f = absurd f

pub returns-in-Ok-Some-clause-walked : goal.returns-in-Ok-Some-clause-walked
returns-in-Ok-Some-clause-walked g c =
    let p = g.B.Blocks.holdings.payload c.args.store.now in
    let kind = c.args.what.now.kind in
    let parent = c.args.what.now.parent.0 in
    let kept = c.bytes-bytes.result.now in
    let back = c.walk_root.new.front in
    let start : c.new-front.result ≡ record { bytes = []; most = most_kept kind } = c.new-front.ensures ∙ ap (λ m. record { bytes = []; most = m }) c.kept_of.ensures in
    let one = subst (λ (f : FrontState). Walked (IsLoad g.B.Blocks.meanings g.B.Blocks.holdings g.B.Blocks.loads) c.args.owner c.args.store.now c.walk_root.new.store c.args.marks.now c.walk_root.new.marks f back
    (λ C w ids. BlobTree p C c.args.what.now.id.0 w ids) (λ w. c.in-Ok.len ≡ length w)) start c.in-Ok.ensures.walked in
    let is = front_of kind one kept refl c.bytes-bytes.ensures in
    let begun : BeginsWith kept kind parent =
    subst (λ k. BeginsWith kept k parent) (c.if-not-is_same_kind.ensures.same refl) (subst (λ i. BeginsWith kept c.in-Some.header.kind i) (same_ids c.in-Some.header.parent.0 parent c.if-ne.ensures) c.in-Some.ensures.found) in
    let long : length kept ≡ 19 + length (drop 19 kept) = ap length begun.text ∙ (length-append (header_text kind parent) (drop 19 kept) ∙ ap (λ n. n + length (drop 19 kept)) (length-header kind parent begun.id)) in
    let rest : take (length kept - 19) (drop 19 kept) ≡ drop 19 kept = take_all (length kept - 19) (drop 19 kept) (omega (arith, long)) in
    let sliced = subst (λ z. IfSome z (λ entries. FitsKept kind c.saturating_sub.result (take (length kept - 19) (drop 19 kept)) (listing_of entries.items))) c.in-Ok-Some.field-0-is c.in-Ok-Some.ensures.fits in
    let judged = subst (λ b. FitsKept kind c.saturating_sub.result b (listing_of c.in-Ok-Some.entries.items)) rest sliced in
    let size : c.saturating_sub.result ≡ length one.bytes - 19 = c.saturating_sub.ensures ∙ ap (λ n. n - 19) one.fact in
    let fits = subst (λ n. FitsKept kind n (drop 19 kept) (listing_of c.in-Ok-Some.entries.items)) size judged in (
      back,
      record {
        given = one.given;
        gave = one.gave;
        bytes = one.bytes;
        ids = one.ids;
        once = one.once;
        hold = one.hold;
        fact = row_kept kind parent one.bytes kept (listing_of c.in-Ok-Some.entries.items) is begun long fits;
        alone = one.alone;
        marked = one.marked;
        most = one.most;
        kept = one.kept;
      },
    )

pub returns-in-Err-clause-halted : goal.returns-in-Err-clause-halted
returns-in-Err-clause-halted g c =
    let p = g.B.Blocks.holdings.payload c.args.store.now in
    let what = c.args.what.now in
    halted_as c.in-Err.ensures.halted (λ C flaw f. node_flaw p C c.args.marks.now (g.B.Blocks.holdings.content c.args.store.now) what.id.0 what.kind what.parent.0 flaw f)

pub returns-in-None-clause-halted : goal.returns-in-None-clause-halted
returns-in-None-clause-halted g c =
    let kind = c.args.what.now.kind in
    let kept = c.bytes-bytes.result.now in
    let one = c.in-Ok.ensures.walked in
    let is = front_of kind one kept (c.new-front.ensures ∙ ap (λ m. record { bytes = []; most = m }) c.kept_of.ensures) c.bytes-bytes.ensures in
    halted_at one (λ C ids tree. (
      refl,
      record {
        bytes = one.bytes;
        ids = ids;
        tree = tree;
        unfit = λ other body wide text fits. c.in-None.ensures.only kind other (begins kind other body wide one.bytes kept (most_kept kind) text is (most_enough kind));
      },
    ))

pub returns-then-not-is_same_kind-clause-halted : goal.returns-then-not-is_same_kind-clause-halted
returns-then-not-is_same_kind-clause-halted g c =
    let kind = c.args.what.now.kind in
    let kept = c.bytes-bytes.result.now in
    let one = c.in-Ok.ensures.walked in
    let is = front_of kind one kept (c.new-front.ensures ∙ ap (λ m. record { bytes = []; most = m }) c.kept_of.ensures) c.bytes-bytes.ensures in
    let header = c.in-Some.header in
    halted_at one (λ C ids tree. (
      refl,
      record {
        bytes = one.bytes;
        ids = ids;
        tree = tree;
        unfit = λ other body wide text fits.
            let here = begins kind other body wide one.bytes kept (most_kept kind) text is (most_enough kind) in
            c.if-not-is_same_kind.ensures.differ refl (one_in_front kept header.kind kind header.parent.0 other c.in-Some.ensures.found here).0;
      },
    ))

pub returns-then-ne-clause-halted : goal.returns-then-ne-clause-halted
returns-then-ne-clause-halted g c =
    let p = g.B.Blocks.holdings.payload c.args.store.now in
    let kind = c.args.what.now.kind in
    let parent = c.args.what.now.parent.0 in
    let kept = c.bytes-bytes.result.now in
    let one = c.in-Ok.ensures.walked in
    let is = front_of kind one kept (c.new-front.ensures ∙ ap (λ m. record { bytes = []; most = m }) c.kept_of.ensures) c.bytes-bytes.ensures in
    let other = c.in-Some.header.parent.0 in
    let begun : BeginsWith kept kind other = subst (λ k. BeginsWith kept k other) (c.if-not-is_same_kind.ensures.same refl) c.in-Some.ensures.found in
    let body = drop 19 kept ++ drop (most_kept kind) one.bytes in
    let text : one.bytes ≡ blob kind other body = row_is kind other (most_kept kind) one.bytes kept is begun in
    halted_at one (λ C ids tree. (
      refl,
      record {
        other = other;
        wide = begun.id;
        body = body;
        ids = ids;
        tree = subst (λ w. BlobTree p C c.args.what.now.id.0 w ids) text tree;
        differs = other_ids other parent c.if-ne.ensures;
      },
    ))

pub returns-in-Ok-None-clause-halted : goal.returns-in-Ok-None-clause-halted
returns-in-Ok-None-clause-halted g c =
    let kind = c.args.what.now.kind in
    let kept = c.bytes-bytes.result.now in
    let one = c.in-Ok.ensures.walked in
    let is = front_of kind one kept (c.new-front.ensures ∙ ap (λ m. record { bytes = []; most = m }) c.kept_of.ensures) c.bytes-bytes.ensures in
    let begun = c.in-Some.ensures.found in
    let header = c.in-Some.header in
    let long : length kept ≡ 19 + length (drop 19 kept) =
    ap length begun.text ∙ (length-append (header_text header.kind header.parent.0) (drop 19 kept) ∙ ap (λ n. n + length (drop 19 kept)) (length-header header.kind header.parent.0 begun.id)) in
    let rest : take (length kept - 19) (drop 19 kept) ≡ drop 19 kept = take_all (length kept - 19) (drop 19 kept) (omega (arith, long)) in
    let size : c.saturating_sub.result ≡ length one.bytes - 19 = c.saturating_sub.ensures ∙ ap (λ n. n - 19) one.fact in
    let none = subst (λ z. IfNone z ((listing : Listing) → FitsKept kind c.saturating_sub.result (take (length kept - 19) (drop 19 kept)) listing → ⊥)) c.in-Ok-None.field-0-is c.in-Ok-None.ensures.only in
    halted_at one (λ C ids tree. (
      refl,
      record {
        bytes = one.bytes;
        ids = ids;
        tree = tree;
        unfit = λ other body wide text fits.
            let f = fits_front kind other body one.bytes kept wide text is fits in
            none f.0 (subst (λ b. FitsKept kind c.saturating_sub.result b f.0) (sym rest) (subst (λ n. FitsKept kind n (drop 19 kept) f.0) (sym size) f.1));
      },
    ))

pub returns-clause-halted : goal.returns-clause-halted
returns-clause-halted g c = halted_at c.in-Ok.ensures.walked (λ C ids tree. tt)
