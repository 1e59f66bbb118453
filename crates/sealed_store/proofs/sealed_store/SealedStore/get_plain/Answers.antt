use Rattle.std.proofs.Common.{rules, ◌≡◌, ℕ, ◌+◌, List, refl, sym, ◌∙◌, ap, subst, arith}
use Rattle.std.specs.Prelude.{IfErr}
use Rattle.std.specs.declared.option.Option.{Option}
use Rattle.std.specs.declared.result.Result.TheVariants.{Err}
use Rattle.outside.specs.Trace.{block}
use Rattle.outside.specs.Changes.{change_at, cut}
use Rattle.outside.specs.View.{bytes_of, change_of}
use Rattle.redo_vault.specs.Redo.{Redo, Gave}
use Rattle.sealed_store.specs.BlockFiles.{front_seen}
use Rattle.sealed_store.specs.Drafts.{told_list, sealed_change}
use Rattle.sealed_store.specs.Stores.{Sealed, Sees, Unseen, seen_file_of, block_size_of, key_of, cipher_of}
use Rattle.sealed_store.proofs.Files.{sealing_of, draft_seen}
use Rattle.sealed_store.proofs.Fronts.{failed_unseen, longer_of, shown_whole}
use Rattle.sealed_store.proofs.Told.{draft_at, if_same, is_draft, told_draft, undrafted}
use Rattle.sealed_store.proofs.sealed_store.SealedStore.get_plain.Goals as goal
use Rattle.sealed_store.proofs.sealed_store.SealedStore.get_plain.Goals.{in-Ok, in-Err}

pub see_draft-requires : goal.see_draft-requires
see_draft-requires g c =
    let s = c.self.inside in
    let change = change_of c.in-Some.change.now in
    is_draft s.block_size c.args.id.now.0 change (draft_at s.block_size (block c.args.id.now.0) s.vault.list change (c.self.invariant.1 c.in-Some.ensures.drafts) c.in-Some.ensures.some)

pub returns-in-Some-clause-sees : goal.returns-in-Some-clause-sees
returns-in-Some-clause-sees g c =
    let s = c.self.inside in
    let n = block c.args.id.now.0 in
    let change = change_of c.in-Some.change.now in
    let opens = g.C.Sealer.opens s.cipher s.key in
    let seal = g.C.Sealer.sealed s.cipher s.key in
    let right = sealing_of g.C.Sealer.iv_size g.C.Sealer.opens g.C.Sealer.sealed g.met.C.Sealer.seals s.cipher s.key c.self.invariant.0.iv in
    let longer = longer_of g.C.Sealer.iv_size g.C.Sealer.opens g.met.C.Sealer.lengths s.cipher s.key c.self.invariant.0.iv in
    let may = draft_at s.block_size n s.vault.list change (c.self.invariant.1 c.in-Some.ensures.drafts) c.in-Some.ensures.some in
    let told = told_draft seal s.block_size s.drafts n s.vault.list change c.in-Some.ensures.drafts c.in-Some.ensures.some in
    elim c.match-see_draft.branch [
      | in-Ok w ↦ rw w.result-is
          (subst (λ (t : Sealed g.row.V.Denot g.row.C.Denot). Sees (g.C.Sealer.opens (cipher_of t) (key_of t)) (block_size_of t) c.args.least c.args.most (change_at n t.vault.list)
          (g.V.Vault.trace t.vault.vault) (g.V.Vault.trace t.vault.vault) c.args.id.now.0 (seen_file_of w.in-Ok.seen)) c.self.view_is
          (record {
            answer = cut (s.block_size + 1) (sealed_change seal s.block_size n change);
            gave = subst (λ (x : Option (Option (List ℕ))). Gave x (g.V.Vault.trace s.vault.vault) (g.V.Vault.trace s.vault.vault) n (s.block_size + 1) (cut (s.block_size + 1) (sealed_change seal s.block_size n change)))
                (sym told) (refl, refl);
            shows = w.in-Ok.ensures ∙ ap (front_seen c.args.most) (draft_seen opens seal s.block_size c.args.least c.args.id.now.0 change right may);
            whole = shown_whole opens s.block_size c.args.least c.args.id.now.0 (cut (s.block_size + 1) (sealed_change seal s.block_size n change)) longer (omega (arith, c.self.invariant.0.least));
          }))
      | in-Err w ↦ rw w.result-is tt
    ]

pub returns-in_err-answer-clause-unseen : goal.returns-in_err-answer-clause-unseen
returns-in_err-answer-clause-unseen g c =
    let s = c.self.inside in
    let n = block c.args.id.now.0 in
    let error = c.in_err-answer.field-0.0 in
    let told = undrafted (g.C.Sealer.sealed s.cipher s.key) s.block_size s.drafts n s.vault.list c.in_default.ensures.none in
    let same : c.from_residual.result ≡ Err error = search rules in
    subst (λ r. IfErr r (Unseen (change_at n c.args.self.now.vault.list)
    (g.V.Vault.trace c.args.self.now.vault.vault) (g.V.Vault.trace c.get.new.self.vault))) (sym same)
    (subst (λ (t : Sealed g.row.V.Denot g.row.C.Denot). Unseen (change_at n t.vault.list)
    (g.V.Vault.trace t.vault.vault) (g.V.Vault.trace c.get.new.self.vault) error) c.self.view_is
    (failed_unseen _ _ _ error c.in_err-answer.ensures.err (λ is. told ∙ c.in_err-answer.ensures.failed_by_a_call (ap Err is))))

pub returns-in_err-answer-clause-without_a_call : goal.returns-in_err-answer-clause-without_a_call
returns-in_err-answer-clause-without_a_call g c =
    let s = c.self.inside in
    let n = block c.args.id.now.0 in
    let e : change_at n s.vault.list ≡ change_at n c.args.self.now.vault.list =
    sym (undrafted (g.C.Sealer.sealed s.cipher s.key) s.block_size s.drafts n s.vault.list c.in_default.ensures.none) ∙ ap (λ (t : Sealed g.row.V.Denot g.row.C.Denot). change_at n t.vault.list) c.self.view_is in
    if_same _ _ _ _ e (λ v. ap (λ (w : Redo g.row.V.Denot). record w { list = told_list s.drafts (g.C.Sealer.sealed s.cipher s.key) s.block_size w.list }) v ∙ ap (λ (t : Sealed g.row.V.Denot g.row.C.Denot). t.vault) c.self.view_is) c.get.ensures.without_a_call

pub returns-clause-sees : goal.returns-clause-sees
returns-clause-sees g c =
    let s = c.self.inside in
    let n = block c.args.id.now.0 in
    subst (λ (t : Sealed g.row.V.Denot g.row.C.Denot). Sees (g.C.Sealer.opens (cipher_of t) (key_of t)) (block_size_of t) c.args.least c.args.most (change_at n t.vault.list)
    (g.V.Vault.trace t.vault.vault) (g.V.Vault.trace c.get.new.self.vault) c.args.id.now.0 (seen_file_of c.see.result)) c.self.view_is
    (record {
      answer = bytes_of c.in_ok-answer.answer;
      gave = subst (λ (x : Option (Option (List ℕ))). Gave x (g.V.Vault.trace s.vault.vault) (g.V.Vault.trace c.get.new.self.vault) n (s.block_size + 1) (bytes_of c.in_ok-answer.answer))
          (sym (undrafted (g.C.Sealer.sealed s.cipher s.key) s.block_size s.drafts n s.vault.list c.in_default.ensures.none)) c.in_ok-answer.ensures.gave;
      shows = c.see.ensures;
      whole = shown_whole (g.C.Sealer.opens s.cipher s.key) s.block_size c.args.least c.args.id.now.0 (bytes_of c.in_ok-answer.answer)
          (longer_of g.C.Sealer.iv_size g.C.Sealer.opens g.met.C.Sealer.lengths s.cipher s.key c.self.invariant.0.iv) (omega (arith, c.self.invariant.0.least));
    })

pub returns-clause-without_a_call : goal.returns-clause-without_a_call
returns-clause-without_a_call g c =
    let s = c.self.inside in
    let n = block c.args.id.now.0 in
    let e : change_at n s.vault.list ≡ change_at n c.args.self.now.vault.list =
    sym (undrafted (g.C.Sealer.sealed s.cipher s.key) s.block_size s.drafts n s.vault.list c.in_default.ensures.none) ∙ ap (λ (t : Sealed g.row.V.Denot g.row.C.Denot). change_at n t.vault.list) c.self.view_is in
    if_same _ _ _ _ e (λ v. ap (λ (w : Redo g.row.V.Denot). record w { list = told_list s.drafts (g.C.Sealer.sealed s.cipher s.key) s.block_size w.list }) v ∙ ap (λ (t : Sealed g.row.V.Denot g.row.C.Denot). t.vault) c.self.view_is) c.get.ensures.without_a_call
