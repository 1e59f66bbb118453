use Rattle.std.proofs.Common.{◌≡◌, sym, ap, subst}
use Rattle.std.specs.Prelude.{OnOk, OnErr, Result, Ok, Err}
use Rattle.std.specs.FinMap.{insert}
use Rattle.fs_model.specs.Tree.{Tree}
use Rattle.host_attributes.specs.host_folder.Folders.{HostTree, IsHostTree}
use Rattle.memory_host_folder.specs.Told.{told_by}
use Rattle.memory_host_folder.proofs.Growing.{free_there, made}
use Rattle.memory_host_folder.proofs.Turned.{none_told, told_next}
use Rattle.memory_host_folder.proofs.table_rows.add_row.Goals as goal

pub insert-requires-clause-absent : goal.insert-requires-clause-absent
insert-requires-clause-absent c = none_told c.args.table.now c.args.names.now (free_there (told_by c.args.table.now) c.args.names.now c.requires.place.place)

on_ok : {X E : Type 0} (r : Result X E) (P Q : Type 0) → (P → Q) → OnOk r P → OnOk r Q
on_ok (Ok x) P Q f h = f h
on_ok (Err e) P Q f h = tt

still : {X E : Type 0} (r : Result X E) (old next : Tree) (t : HostTree) → OnOk r (told_by next ≡ t) → OnErr r (next ≡ old) → IsHostTree (told_by old) → IsHostTree t → IsHostTree (told_by next)
still (Ok x) old next t is same h g = subst IsHostTree (sym is) g
still (Err e) old next t is same h g = subst IsHostTree (sym (ap told_by same)) h

pub returns-clause-ok : goal.returns-clause-ok
returns-clause-ok c =
    on_ok c.insert.result _ _
    (λ e. told_next c.args.table.now c.insert.new.self c.args.names.now (record { attr = c.attr_of.result; bytes = c.args.bytes.items }) c.args.kind e c.attr_of.ensures)
    c.insert.ensures.ok

pub returns-clause-tree : goal.returns-clause-tree
returns-clause-tree c =
    still c.insert.result c.args.table.now c.insert.new.self (insert (told_by c.args.table.now) c.args.names.now (record { kind = c.args.kind; bytes = c.args.bytes.items }))
    (on_ok c.insert.result _ _
    (λ e. told_next c.args.table.now c.insert.new.self c.args.names.now (record { attr = c.attr_of.result; bytes = c.args.bytes.items }) c.args.kind e c.attr_of.ensures)
    c.insert.ensures.ok) c.insert.ensures.err c.requires.tree
    (made (told_by c.args.table.now) c.args.names.now c.args.kind c.args.bytes.items c.requires.tree c.requires.names c.requires.target c.requires.place.place)

pub returns-clause-free : goal.returns-clause-free
returns-clause-free c = free_there (told_by c.args.table.now) c.args.names.now c.requires.place.place
