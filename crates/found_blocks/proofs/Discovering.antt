-- The whole of a search: what it found, and what the store is then.
use Rattle.std.specs.Prelude.{◌≡◌, List, [], length}
use Rattle.std.specs.declared.option.Option.{Option}
use Rattle.std.specs.declared.option.Option.TheVariants.{None, Some}
use Rattle.std.proofs.Common.{refl, sym, ◌∙◌, ap, subst, arith}
use Rattle.block_id.specs.Fresh.{zero_id}
use Rattle.outside.specs.Trace.{Call}
use Rattle.store_api.specs.Holdings.{IsFew}
use Rattle.found_blocks.specs.Rows.{Author, Authors, author_in, ids_in}
use Rattle.found_blocks.specs.Finding.{Finding}
use Rattle.found_blocks.specs.Searching.{Discovered, SearchState, SearchedBy, with_rows}
use Rattle.found_blocks.proofs.Searching.{all_found, few_rows}

abbrev none_yet : SearchState
none_yet = record { asked = []; rows = [] }

pub rows_found : (f g : Finding) (s t : SearchState) (rows : Authors) (old new : Option (List Call)) → s ≡ none_yet → SearchedBy f g s t old new → rows ≡ t.rows → Discovered f (with_rows g rows) old new
rows_found f g s t rows old new first x is =
    let y : SearchedBy f g none_yet t old new = subst (λ z. SearchedBy f g z t old new) first x in
    let all = all_found (with_rows f []) (with_rows g t.rows) t.asked old new refl y in
    let same : Discovered f (with_rows g t.rows) old new = record {
      calls = all.calls;
      went = all.went;
      gets = all.gets;
      once = all.once;
      size = all.size;
      opens = all.opens;
      found = all.found;
    } in
    subst (λ z. Discovered f (with_rows g z) old new) (sym is) same

-- what a search asked, where no rows are kept of it
pub nothing_kept : (f g : Finding) (s t : SearchState) (old new : Option (List Call)) → s ≡ none_yet → SearchedBy f g s t old new → Discovered f (with_rows g []) old new
nothing_kept f g s t old new first x =
    let y : SearchedBy f g none_yet t old new = subst (λ z. SearchedBy f g z t old new) first x in
    record {
      calls = y.calls;
      went = y.went;
      gets = y.gets;
      once = y.once;
      size = y.size;
      opens = y.opens;
      found = λ id author row. absurd (no_author row);
    }
  where
    no_author : {a : Author} → None ≡ Some a → ⊥
    no_author e = cc

pub no_zero_found : (f g : Finding) (s t : SearchState) (rows : Authors) (old new : Option (List Call)) → s ≡ none_yet → SearchedBy f g s t old new → rows ≡ t.rows → author_in rows zero_id ≡ None
no_zero_found f g s t rows old new first x is =
    let y : SearchedBy f g none_yet t old new = subst (λ z. SearchedBy f g z t old new) first x in
    ap (λ z. author_in z zero_id) is ∙ y.no_zero refl

pub few_none : (rows : Authors) → rows ≡ [] → IsFew (ids_in rows)
few_none rows none = few_rows rows 0 (sym (ap length none)) (omega arith)
