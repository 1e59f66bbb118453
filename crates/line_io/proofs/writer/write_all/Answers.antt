use Rattle.std.proofs.Common.{◌≡◌, ◌≤◌, ◌-◌, List, ℕ, ◌++◌, take, drop, length, arith, sym, ◌∙◌, ap, append_assoc}
use Rattle.std.proofs.lemmas.Grind.{common_steps}
use Rattle.std.specs.declared.option.Option.{Option}
use Rattle.outside.specs.Streams.{appends}
use Rattle.line_io.proofs.Flow.{appends-append}
use Rattle.line_io.proofs.writer.write_all.Goals as goal

split_rest : (n : ℕ) (rest : List ℕ) → n ≤ length rest → rest ≡ take n rest ++ take (length rest - n) (drop n rest)
split_rest n rest h = grind (arith, common_steps)

part_more : (text part rest piece after : List ℕ) → text ≡ part ++ rest → rest ≡ piece ++ after → text ≡ (part ++ piece) ++ after
part_more text part rest piece after e f = e ∙ (ap (λ u. part ++ u) f ∙ sym (append_assoc part piece after))

written_more : (old now new : Option (List ℕ)) (part piece : List ℕ) → now ≡ appends old part → new ≡ appends now piece → new ≡ appends old (part ++ piece)
written_more old now new part piece e f = f ∙ (ap (λ u. appends u piece) e ∙ appends-append old part piece)

pub loop-rest-preserved : goal.loop-rest-preserved
loop-rest-preserved g c =
    let i = c.loop-rest.invariant in
    let rest = c.loop-rest.rest.now in
    let n = c.in-Ok.n in
    record {
      written = (
        i.written.0 ++ take n rest,
        part_more c.args.text.now i.written.0 rest (take n rest) _ i.written.1 (split_rest n rest c.in-Ok.ensures.bound),
        written_more _ _ _ i.written.0 _ i.written.2 c.in-Ok.ensures.ok,
      );
      quiet = c.in-Ok.ensures.quiet ∙ i.quiet;
    }
