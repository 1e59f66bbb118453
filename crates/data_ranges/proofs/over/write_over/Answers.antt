use Rattle.std.proofs.Common.{◌≡◌, ◌≤◌, ◌<◌, ◌+◌, ◌-◌, ◌++◌, sym, ◌∙◌, ap, subst, take, drop, length, inl, inr, arith}
use Rattle.std.proofs.lemmas.List.{length-append, length-drop, length-replicate}
use Rattle.block_id.specs.Contents.{zeros, written}
use Rattle.data_reads.specs.store_outcome.Outcome.{first_, no_memory, then_, passed}
use Rattle.data_reads.specs.data_tree.Roots.{IsNewRoot}
use Rattle.data_reads.specs.store_api.Txs.{tx_holdings, tx_laws, tx_steady}
use Rattle.data_reads.proofs.data_tree_lemmas.Forests.{stays-then}
use Rattle.data_reads.proofs.data_tree_lemmas.Puts.{keeps_below, unforged_before}
use Rattle.data_ranges.specs.Border.{Grew}
use Rattle.data_ranges.specs.Ranges.{IsOpened}
use Rattle.data_writes.specs.Writing.{MayWrite, WroteTree, written_at}
use Rattle.data_ranges.proofs.Borders.{border_back, border_only, range_only}
use Rattle.data_ranges.proofs.Roots.{root_wrote, wrote_then, written_over}
use Rattle.data_ranges.proofs.Inside.{root_tree}
use Rattle.data_writes.proofs.Overwriting.{length-written}
use Rattle.data_ranges.proofs.over.write_over.Goals as goal

pub returns-in-Err-clause-outcome : goal.returns-in-Err-clause-outcome
returns-in-Err-clause-outcome g c =
    let H = tx_holdings g.S.Blocks.holdings in
    let inside = c.saturating_sub.result in
    let piece_len : length c.split_at.result.0.now ≡ inside = c.split_at.ensures.front_len in
    passed (first_ {N = IsOpened H c.args.tx.now c.args.root.now.0 c.args.level.depth c.args.len} {R = λ _ _. Unit {0}}
    (λ n. record { tree = root_tree c.args.level.depth n.told n.tree n.same; inside = λ some. omega (arith, some, piece_len, c.saturating_sub.ensures, n.long) }) c.in-Err.ensures.outcome (λ _ _ _. tt))

pub returns-clause-outcome : goal.returns-clause-outcome
returns-clause-outcome g c =
    let H0 = g.S.Blocks.holdings in
    let H = tx_holdings H0 in
    let laws = tx_laws g.S.Blocks.meanings H0 g.met.S.Blocks.lawful in
    let a = c.args.tx.now in
    let d = c.write_below.new.tx in
    let e = c.append.new.tx in
    let root = c.args.root.now.0 in
    let depth = c.args.level.depth in
    let from = c.args.from in
    let bytes = c.args.bytes.now in
    let inside = c.saturating_sub.result in
    let piece = c.split_at.result.0.now in
    let rest = c.split_at.result.1.now in
    let tail = c.deref.result.now in
    let keeps = keeps_below H0 a d c.write_below.ensures.keeps.below in
    let piece_len : length piece ≡ inside = c.split_at.ensures.front_len in
    let rest_len : length rest ≡ length bytes - inside = ap length c.split_at.ensures.back ∙ length-drop inside bytes in
    let made : tail ≡ zeros c.saturating_sub-2.result ++ rest = c.deref.ensures.value ∙ c.in-Ok-after_zeros.ensures in
    let tail_len : length tail ≡ c.saturating_sub-2.result + length rest = ap length made ∙ length-append (zeros c.saturating_sub-2.result) rest ∙ ap (λ k. k + length rest) (length-replicate c.saturating_sub-2.result 0) in
    let one = first_ {N = IsOpened H a root depth c.args.len} {R = λ n _. WroteTree H a d depth root (written_at from piece n.tree.bytes) n.tree.ids}
    (λ n. record { tree = root_tree depth n.told n.tree n.same; inside = λ some. omega (arith, some, piece_len, c.saturating_sub.ensures, n.long) }) c.in-Ok.ensures.outcome (λ n y w. w) in
    then_ laws one
    (λ n w.
    let long : length n.tree.bytes ≡ length (written_at from piece n.tree.bytes) = sym (length-written from piece n.tree.bytes (λ some. omega (arith, some, piece_len, c.saturating_sub.ensures, n.long))) in
    record {
      tree = root_wrote depth n.tree n.same long keeps w;
      sum = omega (arith, long, n.long, tail_len, rest_len, c.saturating_sub.ensures, c.saturating_sub-2.ensures, c.requires.over);
    }) c.append.ensures.outcome
    (λ n w y r.
    let k_is : c.saturating_sub-2.result ≡ from - length n.tree.bytes = omega (arith, c.saturating_sub-2.ensures, n.long) in
    let tail_is : tail ≡ zeros (from - length n.tree.bytes) ++ drop inside bytes = made ∙ ap (λ xs. zeros c.saturating_sub-2.result ++ xs) c.split_at.ensures.back ∙ ap (λ j. zeros j ++ drop inside bytes) k_is in
    let is : written_at from piece n.tree.bytes ++ tail ≡ written n.tree.bytes from bytes =
    ap (λ xs. written_at from xs n.tree.bytes ++ tail) c.split_at.ensures.front ∙ ap (λ xs. written_at from (take inside bytes) n.tree.bytes ++ xs) tail_is
    ∙ written_over from bytes n.tree.bytes inside c.requires.some (omega (arith, c.requires.over, n.long)) (omega (arith, c.saturating_sub.ensures, n.long)) in
    wrote_then w (subst (λ v. IsNewRoot H d e root n.tree.ids v) is r))

pub returns-in-Err-clause-grown : goal.returns-in-Err-clause-grown
returns-in-Err-clause-grown g c n s h =
    let M = g.S.Blocks.meanings in
    let H0 = g.S.Blocks.holdings in
    let H = tx_holdings H0 in
    let laws = tx_laws M H0 g.met.S.Blocks.lawful in
    let steady = tx_steady M H0 g.met.S.Blocks.steady in
    let a = c.args.tx.now in
    let d = c.write_below.new.tx in
    let root = c.args.root.now.0 in
    let depth = c.args.level.depth in
    let from = c.args.from in
    let len = length n.tree.bytes in
    let piece = c.split_at.result.0.now in
    let inside = c.saturating_sub.result in
    let piece_len : length piece ≡ inside = c.split_at.ensures.front_len in
    let fits : 0 < length piece → from + length piece ≤ len = λ some. omega (arith, some, piece_len, c.saturating_sub.ensures, n.long) in
    let tree = root_tree depth n.told n.tree n.same in
    let need : MayWrite H a depth root from (length piece) = record { tree = tree; inside = fits } in
    let only = c.write_below.ensures.only need s h in
    subst (λ k. Grew (H.payload a) (H.content a) (H.content d) k root from c.args.len a.overlay d.overlay) (sym n.same) (record {
      stay = c.write_below.ensures.keeps.there;
      only = λ q there. range_only (H.payload a) (H.content a) depth root from (length piece) c.args.len a.overlay d.overlay q (λ some. omega (arith, fits some, n.long)) only;
    })

pub returns-in-Err-after_zeros-clause-grown : goal.returns-in-Err-after_zeros-clause-grown
returns-in-Err-after_zeros-clause-grown g c n s h =
    let M = g.S.Blocks.meanings in
    let H0 = g.S.Blocks.holdings in
    let H = tx_holdings H0 in
    let laws = tx_laws M H0 g.met.S.Blocks.lawful in
    let steady = tx_steady M H0 g.met.S.Blocks.steady in
    let a = c.args.tx.now in
    let d = c.write_below.new.tx in
    let root = c.args.root.now.0 in
    let depth = c.args.level.depth in
    let from = c.args.from in
    let len = length n.tree.bytes in
    let piece = c.split_at.result.0.now in
    let inside = c.saturating_sub.result in
    let piece_len : length piece ≡ inside = c.split_at.ensures.front_len in
    let fits : 0 < length piece → from + length piece ≤ len = λ some. omega (arith, some, piece_len, c.saturating_sub.ensures, n.long) in
    let tree = root_tree depth n.told n.tree n.same in
    let need : MayWrite H a depth root from (length piece) = record { tree = tree; inside = fits } in
    let only = c.write_below.ensures.only need s h in
    subst (λ k. Grew (H.payload a) (H.content a) (H.content d) k root from c.args.len a.overlay d.overlay) (sym n.same) (record {
      stay = c.write_below.ensures.keeps.there;
      only = λ q there. range_only (H.payload a) (H.content a) depth root from (length piece) c.args.len a.overlay d.overlay q (λ some. omega (arith, fits some, n.long)) only;
    })

pub returns-clause-grown : goal.returns-clause-grown
returns-clause-grown g c n s h =
    let M = g.S.Blocks.meanings in
    let H0 = g.S.Blocks.holdings in
    let H = tx_holdings H0 in
    let laws = tx_laws M H0 g.met.S.Blocks.lawful in
    let steady = tx_steady M H0 g.met.S.Blocks.steady in
    let a = c.args.tx.now in
    let d = c.write_below.new.tx in
    let root = c.args.root.now.0 in
    let depth = c.args.level.depth in
    let from = c.args.from in
    let len = length n.tree.bytes in
    let piece = c.split_at.result.0.now in
    let inside = c.saturating_sub.result in
    let piece_len : length piece ≡ inside = c.split_at.ensures.front_len in
    let fits : 0 < length piece → from + length piece ≤ len = λ some. omega (arith, some, piece_len, c.saturating_sub.ensures, n.long) in
    let tree = root_tree depth n.told n.tree n.same in
    let need : MayWrite H a depth root from (length piece) = record { tree = tree; inside = fits } in
    let e = c.append.new.tx in
    let before = unforged_before laws a d e c.append.ensures.outcome.loaded h in
    let loaded = laws.forgeries_grow a d c.write_below.ensures.outcome.loaded in
    let only = c.write_below.ensures.only need s before in
    let wrote = c.in-Ok.ensures.outcome.value need s before in
    let keeps = keeps_below H0 a d c.write_below.ensures.keeps.below in
    let r = root_wrote depth n.tree n.same (sym (length-written from piece n.tree.bytes fits)) keeps wrote in
    let more = c.append.ensures.only r (c.write_below.ensures.outcome.sound s before) (omega (arith, h, loaded)) in
    subst (λ k. Grew (H.payload a) (H.content a) (H.content e) k root from c.args.len a.overlay e.overlay) (sym n.same) (record {
      stay = λ q there. c.append.ensures.keeps.there q (c.write_below.ensures.keeps.there q there);
      only = λ q there. border_only a.overlay d.overlay e.overlay q (range_only (H.payload a) (H.content a) depth root from (length piece) c.args.len a.overlay d.overlay q (λ some. omega (arith, fits some, n.long)) only)
          (elim (more q (c.write_below.ensures.keeps.there q there)) [
            | inl same ↦ inl same
            | inr on ↦ inr (border_back H0 a d depth root from (length piece) q (steady.at_least a c.requires.intact) tree fits c.write_below.ensures.keeps.below only on)
          ]);
    })

pub returns-in-Err-after_zeros-clause-outcome : goal.returns-in-Err-after_zeros-clause-outcome
returns-in-Err-after_zeros-clause-outcome g c =
    let H = tx_holdings g.S.Blocks.holdings in
    let piece_len : length c.split_at.result.0.now ≡ c.saturating_sub.result = c.split_at.ensures.front_len in
    no_memory (first_ {N = IsOpened H c.args.tx.now c.args.root.now.0 c.args.level.depth c.args.len} {R = λ _ _. Unit {0}}
    (λ n. record { tree = root_tree c.args.level.depth n.told n.tree n.same; inside = λ some. omega (arith, some, piece_len, c.saturating_sub.ensures, n.long) }) c.in-Ok.ensures.outcome (λ _ _ _. tt))

pub returns-in-Err-clause-below : goal.returns-in-Err-clause-below
returns-in-Err-clause-below g c = c.write_below.ensures.keeps.below

pub returns-in-Err-after_zeros-clause-below : goal.returns-in-Err-after_zeros-clause-below
returns-in-Err-after_zeros-clause-below g c = c.write_below.ensures.keeps.below

pub returns-clause-below : goal.returns-clause-below
returns-clause-below g c = stays-then c.write_below.ensures.keeps.below c.append.ensures.keeps.below

pub split_at-requires : goal.split_at-requires
split_at-requires g c = omega (arith, c.saturating_sub.ensures, c.requires.over)

pub append-requires-clause-intact : goal.append-requires-clause-intact
append-requires-clause-intact g c = c.write_below.ensures.outcome.intact
