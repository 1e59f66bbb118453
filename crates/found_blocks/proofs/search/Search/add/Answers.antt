use Rattle.std.proofs.Common.{◌≡◌, T, sym, subst, List}
use Rattle.std.specs.Prelude.{Result, Ok, Err, OnOk, OnErr}
use Rattle.std.specs.Cmp.Lexicographic.{nat_list_cmp_total}
use Rattle.std.specs.FinMap.{is_sorted}
use Rattle.std.specs.FinMap.Entries.{put, is_sorted-put}
use Rattle.block_id.specs.declared.id.BlockId.{BlockId}
use Rattle.store_api.specs.Content.{Id, id_cmp}
use Rattle.found_blocks.specs.declared.rows.FoundRow.{FoundRow}
use Rattle.found_blocks.specs.Rows.{Author, author_of, entries_in}
use Rattle.found_blocks.proofs.search.Search.add.Goals as goal

still_rising : {E : Type 0} (r : Result Unit E) (old new : List (BlockId × FoundRow)) (id : Id) (author : Author) → T (is_sorted id_cmp (entries_in old))
    → OnOk r (entries_in new ≡ put id_cmp id author (entries_in old)) → OnErr r (new ≡ old) → T (is_sorted id_cmp (entries_in new))
still_rising (Ok u) old new id author rises ok err = subst (λ es. T (is_sorted id_cmp es)) (sym ok) (is_sorted-put {X = Author} id_cmp nat_list_cmp_total id author (entries_in old) rises)
still_rising (Err e) old new id author rises ok err = subst (λ es. T (is_sorted id_cmp (entries_in es))) (sym err) rises

pub invariant_of-self : goal.invariant_of-self
invariant_of-self c =
    still_rising c.add_to.result c.self.inside.found.entries c.add_to.new.found.entries c.args.row.id.0 (author_of c.args.row) c.self.invariant c.add_to.ensures.ok c.add_to.ensures.err
