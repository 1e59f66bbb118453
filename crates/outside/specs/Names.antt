-- Names of files: when two are the same, and their order.
use Rattle.std.specs.Prelude.{Bool, true, false}
use Rattle.std.specs.Ordering.{nat_cmp}
use Rattle.std.specs.Cmp.Lexicographic.{slice_cmp}
use Rattle.std.specs.Str.{bytes_eq}
use Rattle.std.specs.declared.cmp.Ordering.{Ordering}
use Rattle.std.specs.declared.cmp.Ordering.TheVariants.{Less, Equal, Greater}
use Rattle.outside.specs.Trace.{At, config, block}

abbrev pub same_at : At → At → Bool
same_at config config = true
same_at config (block b) = false
same_at (block a) config = false
same_at (block a) (block b) = bytes_eq a b

-- the configuration first, then blocks by the bytes of their ids
abbrev pub at_cmp : At → At → Ordering
at_cmp config config = Equal
at_cmp config (block b) = Less
at_cmp (block a) config = Greater
at_cmp (block a) (block b) = slice_cmp nat_cmp a b
