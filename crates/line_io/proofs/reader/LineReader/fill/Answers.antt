use Rattle.std.proofs.Common.{rules, ◌≡◌, ◌≤◌, ◌++◌, ℕ, List, [], length, take, slice_range, ap, sym, subst, ◌∙◌, arith}
use Rattle.std.proofs.lemmas.List.{take_at}
use Rattle.std.proofs.lemmas.Grind.{common_steps}
use Rattle.std.specs.declared.option.Option.{Option}
use Rattle.outside.specs.Streams.{WereTaken}
use Rattle.line_io.specs.Reading.{Reading, coming}
use Rattle.line_io.proofs.Flow.{coming-given, WereTaken-nil}
use Rattle.line_io.proofs.Progress.{on_err}
use Rattle.line_io.proofs.reader.LineReader.fill.Goals as goal

coming_read : (block now : List ℕ) (n : ℕ) (old new : Option (List ℕ)) → now ≡ block → WereTaken old new (take n block)
    → coming (slice_range now 0 n) new ≡ old
coming_read block now n old new e g = ap (λ front. coming front new) (front block now n e) ∙ coming-given old new (take n block) g
  where
    front : (block now : List ℕ) (n : ℕ) → now ≡ block → slice_range now 0 n ≡ take n block
    front block now n e = grind (arith, common_steps)

still_empty : (items other : List ℕ) (start end : ℕ) → slice_range items start end ≡ [] → start ≤ end → end ≤ length items → slice_range other start end ≡ []
still_empty items other start end e h k = grind (arith, common_steps)

read_ahead : (block now : List ℕ) (n : ℕ) → now ≡ block → slice_range now 0 n ≡ take n block
read_ahead block now n e = grind (arith, common_steps)

pub returns-clause-block : goal.returns-clause-block
returns-clause-block g c =
    let block = take_at c.read_block.new.block _ _ (omega arith) in
    let piece = take c.in_ok-n.n c.read_block.new.block in
    record {
      came = coming_read _ _ _ _ _ block c.in_ok-n.ensures.ok;
      gave = (piece, c.in_ok-n.ensures.ok, read_ahead _ _ _ block ∙ sym (ap (λ (l : List ℕ). l ++ piece) c.requires));
      took = subst (λ (bytes : List ℕ). g.I.Source.took c.args.input.now c.read_block.new.input bytes) (sym (read_ahead _ _ _ block)) c.in_ok-n.ensures.took;
      err = tt;
    }

pub returns-in_err-n-clause-block : goal.returns-in_err-n-clause-block
returns-in_err-n-clause-block g c =
    let empty = still_empty c.self.inside.block.items _ c.self.inside.start c.self.inside.end (ap (λ (r : Reading). r.ahead) c.self.view_is ∙ c.requires) (omega arith) (omega arith) in
    record {
      came = search rules;
      gave = ([], WereTaken-nil _ _ c.in_err-n.ensures.err, empty ∙ sym (ap (λ (l : List ℕ). l ++ []) c.requires));
      took = search rules;
      err = on_err c.from_residual.result _ empty;
    }
